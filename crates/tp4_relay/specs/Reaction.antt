-- What a relay does about an event of a line (X.214, service primitives).
use Rattle.std.specs.Prelude.{ℕ, ◌==◌, if◌then◌else◌, List, [], ◌∷◌, Option, Some, None}
use Rattle.tpdu.specs.declared.service.Options.{Options}
use Rattle.script_journal.specs.declared.event.Event.{Event}
use Rattle.script_journal.specs.declared.event.Event.TheVariants as events
use Rattle.script_journal.specs.declared.event.Indication.{Indication}
use Rattle.tp4_conn.specs.declared.call.ConnectRequest.{ConnectRequest}
use Rattle.tp4_conn.specs.declared.call.UserCall.TheVariants as asks
use Rattle.tp4_relay.specs.declared.pair.Pair.{Pair}
use Rattle.tp4_relay.specs.declared.reaction.Reaction.{Reaction}
use Rattle.tp4_relay.specs.declared.reaction.Reaction.TheVariants.{Nothing, Begin, Ask}
use Rattle.tp4_relay.specs.declared.row.RelayRow.{RelayRow}
use Rattle.tp4_relay.specs.Kept.{Kept, row_for}
use Rattle.tp4_relay.specs.Pairs.{is_closed}
use Rattle.tpdu.specs.declared.service.EndTold.TheVariants as tells

-- the request for the second connection: from the row's selector, with the options and the octets of the first
abbrev pub request_for : RelayRow → Indication → ConnectRequest
request_for row heard = record {
  from_selector = row.selector;
  to = row.to;
  to_selector = row.to_selector;
  options = heard.options;
  octets = heard.octets;
}

abbrev pub begins : Indication → Option RelayRow → Reaction
begins heard None = Nothing
begins heard (Some row) = Begin heard.end row.system (request_for row heard)

-- the pair of this inbound end, or of this outbound end
abbrev pub inbound_pair : List Pair → ℕ → Option Pair
inbound_pair [] end = None
inbound_pair (pair ∷ pairs) end = if pair.inbound == end then Some pair else inbound_pair pairs end

abbrev pub outbound_pair : List Pair → ℕ → Option Pair
outbound_pair [] end = None
outbound_pair (pair ∷ pairs) end = if pair.outbound == end then Some pair else outbound_pair pairs end

-- a pair whose outbound end is confirmed has its inbound end accepted
abbrev pub confirms : Options → List ℕ → Option Pair → Reaction
confirms options octets None = Nothing
confirms options octets (Some pair) = if is_closed pair.phase then Nothing else Ask pair.inbound (asks.Accept options octets)

-- an end that was not accepted is refused, and another one is disconnected
abbrev pub ends_call : Pair → Reaction
ends_call pair = if pair.accepted then Ask pair.inbound (asks.Disconnect []) else Ask pair.inbound (asks.Refuse [])

abbrev pub outbound_goes : Option Pair → Reaction
outbound_goes None = Nothing
outbound_goes (Some pair) = if is_closed pair.phase then Nothing else ends_call pair

abbrev pub inbound_goes : Pair → Reaction
inbound_goes pair = if is_closed pair.phase then Nothing else Ask pair.outbound (asks.Disconnect [])

-- where one end of a pair goes that is not closed, the other one goes too
abbrev pub goes : List Pair → ℕ → Option Pair → Reaction
goes pairs end None = outbound_goes (outbound_pair pairs end)
goes pairs end (Some pair) = inbound_goes pair

-- by what is kept of the events before
abbrev pub reaction : Kept → Event → Reaction
reaction kept (events.Incoming heard) = begins heard (row_for kept.rows heard)
reaction kept (events.End end (tells.Confirm options octets)) = confirms options octets (outbound_pair kept.pairs end)
reaction kept (events.End end (tells.Gone cause octets)) = goes kept.pairs end (inbound_pair kept.pairs end)
reaction kept event = Nothing
