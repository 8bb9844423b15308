-- What a relay keeps of a journal.
use Rattle.std.specs.Prelude.{ℕ, max, ◌==◌, ◌&&◌, ◌||◌, Bool, true, false, nat_eq, if◌then◌else◌, List, [], ◌∷◌, ◌++◌, map, Option, Some, None}
use Rattle.std.specs.List.{list_any}
use Rattle.std.specs.Cmp.Lexicographic.{pointwise}
use Rattle.script_journal.specs.declared.event.Event.{Event}
use Rattle.script_journal.specs.declared.event.Event.TheVariants as events
use Rattle.script_journal.specs.declared.event.Indication.{Indication}
use Rattle.tp4_conn.specs.declared.timers.Timers.{Timers}
use Rattle.tp4_relay.specs.declared.claim.Claim.{Claim}
use Rattle.tp4_relay.specs.declared.pair.Pair.{Pair}
use Rattle.tp4_relay.specs.declared.pair.Phase.{Phase}
use Rattle.tp4_relay.specs.declared.pair.Phase.TheVariants.{Begun, Closed}
use Rattle.tp4_relay.specs.declared.row.RelayRow.{RelayRow}
use Rattle.tp4_relay.specs.Pairs.{new_pair, pairs_after}
use Rattle.tpdu.specs.declared.service.EndTold.{EndTold}
use Rattle.tpdu.specs.declared.service.EndTold.TheVariants as tells

pub record Kept : Type 0 where
  pub rows : List RelayRow
  pub rules : Timers
  pub named : ℕ  -- the greatest end that was named, but by a request or for a number that is held back
  pub claims : List Claim  -- the ends that were indicated at rows, and whether they went
  pub pairs : List Pair  -- in the order in which they were joined

-- ---- rows

-- the connection is indicated at the row
abbrev pub is_at : Indication → RelayRow → Bool
is_at heard row = row.system == heard.system && pointwise nat_eq row.selector heard.called_selector

abbrev pub row_for : List RelayRow → Indication → Option RelayRow
row_for [] heard = None
row_for (row ∷ rows) heard = if is_at heard row then Some row else row_for rows heard

-- ---- ends that were indicated at rows

abbrev pub claimed : ℕ → Option RelayRow → List Claim
claimed end None = []
claimed end (Some row) = record { end = end; gone = false } ∷ []

abbrev pub lost : ℕ → Claim → Claim
lost end claim = if claim.end == end then record claim { gone = true } else claim

-- where an end is gone, its claim is lost
abbrev pub claims_told : ℕ → EndTold → List Claim → List Claim
claims_told end (tells.Gone cause octets) claims = map (lost end) claims
claims_told end what claims = claims

abbrev pub claims_after : List RelayRow → List Claim → Event → List Claim
claims_after rows claims (events.Incoming heard) = claims ++ claimed heard.end (row_for rows heard)
claims_after rows claims (events.End end what) = claims_told end what claims
claims_after rows claims event = claims

-- the end was indicated at a row, and went
abbrev pub is_lost : List Claim → ℕ → Bool
is_lost claims end = list_any (λ claim. claim.end == end && claim.gone) claims

-- ---- pairs

-- a pair whose inbound end went meanwhile is closed
abbrev pub first_phase : Bool → Phase
first_phase false = Begun
first_phase true = Closed

abbrev pub joined : List Claim → ℕ → ℕ → Pair
joined claims inbound outbound = new_pair inbound outbound (first_phase (is_lost claims inbound))

abbrev pub all_pairs_after : List Claim → List Pair → Event → List Pair
all_pairs_after claims pairs (events.Joined inbound outbound) = pairs ++ joined claims inbound outbound ∷ []
all_pairs_after claims pairs event = pairs_after pairs event

-- ---- the whole

-- the end that the event names
abbrev pub named_by : Event → ℕ
named_by (events.Incoming heard) = heard.end
named_by (events.End end (tells.Accept options octets)) = end
named_by (events.End end (tells.Confirm options octets)) = end
named_by (events.Data end octets) = end
named_by (events.End end (tells.Got octets)) = end
named_by (events.Expedite end octets) = end
named_by (events.End end (tells.Urgent octets)) = end
named_by (events.Refuse end octets) = end
named_by (events.Disconnect end octets) = end
named_by (events.End end (tells.Gone cause octets)) = end
named_by (events.End end (tells.Window credit)) = end
named_by (events.Joined inbound outbound) = outbound
named_by event = 0

abbrev pub noted : Kept → Event → Kept
noted kept event = record kept {
  named = max kept.named (named_by event);
  claims = claims_after kept.rows kept.claims event;
  pairs = all_pairs_after kept.claims kept.pairs event;
}

-- what is kept after these events
abbrev pub kept_after : Kept → List Event → Kept
kept_after kept [] = kept
kept_after kept (event ∷ journal) = kept_after (noted kept event) journal

-- before the first event
abbrev pub nothing_kept : List RelayRow → Timers → Kept
nothing_kept rows rules = record { rows = rows; rules = rules; named = 0; claims = []; pairs = [] }

-- what is kept of a journal
abbrev pub relay_after : List RelayRow → Timers → List Event → Kept
relay_after rows rules journal = kept_after (nothing_kept rows rules) journal

-- the relay has the end: it was indicated at a row, or asked for by the relay
abbrev pub owns : Kept → ℕ → Bool
owns kept end = list_any (λ claim. claim.end == end) kept.claims || list_any (λ pair. pair.outbound == end) kept.pairs
