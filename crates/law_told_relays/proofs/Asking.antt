-- What a relay asks about an event: a request of one of its rows, or a call in octets.
use Rattle.std.proofs.Common.{◌≡◌, ℕ, ◌≤◌, Bool, true, false, if◌then◌else◌, List, [], ◌∷◌, Option, Some, None, refl, arith}
use Rattle.std.specs.List.{AllByRecursion}
use Rattle.law_carrier_answers.specs.Answers.{AreOctets}
use Rattle.script_journal.specs.declared.event.Event.{Event}
use Rattle.script_journal.specs.declared.event.Event.TheVariants as events
use Rattle.script_journal.specs.declared.event.Indication.{Indication}
use Rattle.tpdu.specs.declared.service.EndTold.TheVariants as tells
use Rattle.tpdu.specs.declared.service.Options.{Options}
use Rattle.tp4_conn.specs.declared.call.ConnectRequest.{ConnectRequest}
use Rattle.tp4_conn.specs.declared.call.UserCall.TheVariants as asks
use Rattle.tp4_conn.specs.End.{IsSized}
use Rattle.tp4_relay.specs.declared.pair.Pair.{Pair}
use Rattle.tp4_relay.specs.declared.reaction.Reaction.{Reaction}
use Rattle.tp4_relay.specs.declared.reaction.Reaction.TheVariants.{Nothing, Begin, Ask}
use Rattle.tp4_relay.specs.declared.row.RelayRow.{RelayRow}
use Rattle.tp4_relay.specs.Allowed.{AreLine}
use Rattle.tp4_relay.specs.Kept.{Kept, named_by, noted, row_for}
use Rattle.tp4_relay.specs.Pairs.{is_closed}
use Rattle.tp4_relay.specs.Reaction.{begins, confirms, goes, inbound_goes, inbound_pair, outbound_goes, outbound_pair, reaction, request_for}
use Rattle.law_relay.proofs.Answering.{IsReadable, MayCall, RowInOctets, RowLeads, line_readable, row_found}
use Rattle.law_relay.proofs.OctetSteps.{TellsOctets}

-- an event of a line: in octets, and of an end that was made
pub record IsHeard (n : ℕ) (event : Event) : Type 0 where
  pub readable : IsReadable event
  pub named : named_by event ≤ n

heard_from : (n ends : ℕ) (kept : Kept) (line : List Event) → ends ≤ n → AreLine ends kept line → AllByRecursion IsReadable line → AllByRecursion (IsHeard n) line
heard_from n ends kept [] few all is = tt
heard_from n ends kept (event ∷ line) few all is = (record { readable = is.0; named = omega (arith, few, all.1) }, heard_from n ends (noted kept event) line few all.2 is.1)

pub line_heard : (n ends : ℕ) (kept : Kept) (line : List Event) → ends ≤ n → AreLine ends kept line → AllByRecursion TellsOctets line → AllByRecursion (IsHeard n) line
line_heard n ends kept line few all octets = heard_from n ends kept line few all (line_readable ends kept line all octets)

pub heard_later : (n more : ℕ) (line : List Event) → n ≤ more → AllByRecursion (IsHeard n) line → AllByRecursion (IsHeard more) line
heard_later n more [] few all = tt
heard_later n more (event ∷ line) few all = (record { readable = all.0.readable; named = (let low = all.0.named in omega (arith, low, few)) }, heard_later n more line few all.1)

-- the request of a row
pub record IsRequest (titles : List (List ℕ)) (n inbound system : ℕ) (request : ConnectRequest) : Type 0 where
  pub row : RelayRow
  pub heard : Indication
  pub system_is : system ≡ row.system
  pub request_is : request ≡ request_for row heard
  pub sized : IsSized heard.options
  pub octets : AreOctets heard.octets
  pub leads : RowLeads titles row
  pub row_octets : RowInOctets row
  pub low : inbound ≤ n

module _ (titles : List (List ℕ)) (n : ℕ) where
  abbrev pub MayReact : Reaction → Type 0
  MayReact Nothing = Prim.Unit {0}
  MayReact (Begin inbound system request) = IsRequest titles n inbound system request
  MayReact (Ask end call) = MayCall call

  begins_may : (kept : Kept) (heard : Indication) (found : Option RelayRow) → row_for kept.rows heard ≡ found → IsSized heard.options → AreOctets heard.octets → heard.end ≤ n → AllByRecursion (RowLeads titles) kept.rows
      → AllByRecursion RowInOctets kept.rows → MayReact (begins heard found)
  begins_may kept heard None is sized octets low leads rows = tt
  begins_may kept heard (Some row) is sized octets low leads rows = record {
    row = row;
    heard = heard;
    system_is = refl;
    request_is = refl;
    sized = sized;
    octets = octets;
    leads = row_found titles (RowLeads titles) kept.rows heard leads (Some row) is row refl;
    row_octets = row_found titles RowInOctets kept.rows heard rows (Some row) is row refl;
    low = low;
  }

  confirms_may : (options : Options) (octets : List ℕ) (pair : Option Pair) → IsSized options → AreOctets octets → MayReact (confirms options octets pair)
  confirms_may options octets None sized are = tt
  confirms_may options octets (Some pair) sized are = by (is_closed pair.phase)
    where
      by : (b : Bool) → MayReact (if b then Nothing else Ask pair.inbound (asks.Accept options octets))
      by true = tt
      by false = (sized, are)

  inbound_may : (pair : Pair) → MayReact (inbound_goes pair)
  inbound_may pair = by (is_closed pair.phase)
    where
      by : (b : Bool) → MayReact (if b then Nothing else Ask pair.outbound (asks.Disconnect []))
      by true = tt
      by false = tt

  outbound_may : (pair : Option Pair) → MayReact (outbound_goes pair)
  outbound_may None = tt
  outbound_may (Some pair) = by (is_closed pair.phase) pair.accepted
    where
      by : (b c : Bool) → MayReact (if b then Nothing else (if c then Ask pair.inbound (asks.Disconnect []) else Ask pair.inbound (asks.Refuse [])))
      by true c = tt
      by false true = tt
      by false false = tt

  goes_may : (pairs : List Pair) (end : ℕ) (pair : Option Pair) → MayReact (goes pairs end pair)
  goes_may pairs end None = outbound_may (outbound_pair pairs end)
  goes_may pairs end (Some pair) = inbound_may pair

  pub reaction_may : (kept : Kept) (event : Event) → IsHeard n event → AllByRecursion (RowLeads titles) kept.rows → AllByRecursion RowInOctets kept.rows → MayReact (reaction kept event)
  reaction_may kept (events.Incoming heard) is leads rows = begins_may kept heard (row_for kept.rows heard) refl is.readable.1 is.readable.0 is.named leads rows
  reaction_may kept (events.End end (tells.Confirm options octets)) is leads rows = confirms_may options octets (outbound_pair kept.pairs end) is.readable.1 is.readable.0
  reaction_may kept (events.End end (tells.Gone cause octets)) is leads rows = goes_may kept.pairs end (inbound_pair kept.pairs end)
  reaction_may kept event is leads rows = tt
