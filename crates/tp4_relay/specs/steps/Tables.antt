-- What a relay's table stands for, and how its parts are tied.
use Rattle.std.specs.Prelude.{◌≡◌, ◌≢◌, ℕ, ◌<◌, ◌≤◌, ◌==◌, true, false, Bool, List, [], ◌∷◌}
use Rattle.std.specs.List.{AllByRecursion, list_any}
use Rattle.script_journal.specs.declared.event.Event.{Event}
use Rattle.script_journal.specs.declared.event.Event.TheVariants as events
use Rattle.tp4_relay.specs.declared.claim.Claim.{Claim}
use Rattle.tp4_relay.specs.declared.pair.Pair.{Pair}
use Rattle.tp4_relay.specs.declared.table.Table.{Table}
use Rattle.tp4_relay.specs.Kept.{Kept, noted}
use Rattle.tp4_relay.specs.Pairs.{open_places}
use Rattle.tp4_relay.specs.steps.Rising.{IsRisingBy, claim_of, inbound_of, outbound_of}

abbrev pub kept_of : Table → Kept
kept_of table = record { rows = table.rows.items; rules = table.rules; named = table.named; claims = table.claims.items; pairs = table.pairs.items }

-- the end was indicated at a row
abbrev pub is_claimed : List Claim → ℕ → Bool
is_claimed claims end = list_any (λ (claim : Claim). claim.end == end) claims

-- ends rise in all columns, each inbound end was indicated at a row and no outbound one was, and no end is above the greatest that was named
pub record IsTidyBy (claims : List Claim) (pairs : List Pair) (named : ℕ) : Type 0 where
  pub rise : IsRisingBy claim_of claims
  pub inbounds : IsRisingBy inbound_of pairs
  pub outbounds : IsRisingBy outbound_of pairs
  pub claimed : AllByRecursion (λ (pair : Pair). is_claimed claims pair.inbound ≡ true) pairs
  pub unclaimed : AllByRecursion (λ (pair : Pair). is_claimed claims pair.outbound ≡ false) pairs
  pub claims_named : AllByRecursion (λ (claim : Claim). claim.end ≤ named) claims
  pub outbounds_named : AllByRecursion (λ (pair : Pair). pair.outbound ≤ named) pairs

abbrev pub IsTidy : Kept → Type 0
IsTidy kept = IsTidyBy kept.claims kept.pairs kept.named

-- and the places are those of the open pairs
pub record IsTied (table : Table) : Type 0 where
  pub tidy : IsTidy (kept_of table)
  pub places : table.places.items ≡ open_places table.pairs.items

-- what may be noted: an indicated end is above those that were indicated, and none that was asked for; of ends that are joined the one was indicated and the
-- other was not, and each is above those that were joined before
abbrev pub IsNotable : Kept → Event → Type 0
IsNotable kept (events.Incoming heard) = AllByRecursion (λ (claim : Claim). claim.end < heard.end) kept.claims × AllByRecursion (λ (pair : Pair). pair.outbound ≢ heard.end) kept.pairs
IsNotable kept (events.Joined inbound outbound) =
    (is_claimed kept.claims inbound ≡ true) × (is_claimed kept.claims outbound ≡ false)
    × AllByRecursion (λ (pair : Pair). pair.inbound < inbound) kept.pairs × AllByRecursion (λ (pair : Pair). pair.outbound < outbound) kept.pairs
IsNotable kept event = Unit {0}

abbrev pub AreNotable : Kept → List Event → Type 0
AreNotable kept [] = Unit {0}
AreNotable kept (event ∷ journal) = IsNotable kept event × AreNotable (noted kept event) journal
