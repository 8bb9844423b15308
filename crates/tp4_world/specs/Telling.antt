-- What a transcript tells of the ends of a system, (X.214, service primitives).
use Rattle.std.specs.Prelude.{ℕ, List, [], ◌∷◌, ◌++◌, Option, Some, None}
use Rattle.osi_base.specs.declared.unit.Offered.{Offered}
use Rattle.osi_base.specs.declared.unit.Offered.TheVariants.{Taken as WasTaken, Dropped}
use Rattle.osi_base.specs.declared.unit.Injected.{Injected}
use Rattle.osi_base.specs.declared.unit.Injected.TheVariants as injects
use Rattle.tp4_flow.specs.declared.step.EndEvent.{EndEvent}
use Rattle.tp4_flow.specs.declared.step.What.{What}
use Rattle.tp4_flow.specs.declared.step.What.TheVariants as whats
use Rattle.tp4_conn.specs.declared.call.CallRefusal.{CallRefusal}
use Rattle.tp4_conn.specs.declared.call.CallRefusal.TheVariants as calls
use Rattle.tp4_conn.specs.declared.call.ConnectRequest.{ConnectRequest}
use Rattle.tp4_conn.specs.declared.call.UserCall.{UserCall}
use Rattle.tp4_conn.specs.declared.call.UserCall.TheVariants as asks
use Rattle.tp4_entity.specs.declared.refusal.ConnectRefusal.{ConnectRefusal}
use Rattle.tp4_entity.specs.declared.refusal.ConnectRefusal.TheVariants as connects
use Rattle.tp4_entity.specs.declared.refusal.EntityRefusal.{EntityRefusal}
use Rattle.tp4_entity.specs.declared.refusal.EntityRefusal.TheVariants as entities
use Rattle.script_journal.specs.declared.cause.Refused.{Refused}
use Rattle.script_journal.specs.declared.cause.Refused.TheVariants as refusals
use Rattle.script_journal.specs.declared.event.Event.{Event}
use Rattle.script_journal.specs.declared.event.Event.TheVariants as events
use Rattle.tp4_world.specs.World.{latest}
use Rattle.tp4_world.specs.declared.place.EndAt.{EndAt}

-- ---- refusals; want of memory is none

abbrev pub told_call : CallRefusal → Option Refused
told_call (calls.WrongState state) = Some (refusals.WrongState state)
told_call calls.EmptyUnit = Some refusals.EmptyUnit
told_call calls.TooLong = Some refusals.TooLong
told_call calls.NoExpedited = Some refusals.NoExpedited
told_call calls.QueueFull = Some refusals.QueueFull
told_call calls.NoMemory = None

abbrev pub told_refusal : EntityRefusal → Option Refused
told_refusal entities.NoSuchEnd = Some refusals.NoSuchEnd
told_refusal (entities.Call why) = told_call why

abbrev pub told_connect : ConnectRefusal → Option Refused
told_connect connects.Silent = Some refusals.Silent
told_connect connects.TooLong = Some refusals.TooLong
told_connect connects.RefsSpent = Some refusals.RefsSpent
told_connect connects.NoMemory = None

-- ---- the events of ends

-- the line of what an end tells, at that system and address, with that number and reference
abbrev pub event_for : ℕ → List ℕ → ℕ → ℕ → What → Event
event_for system own number reference (whats.Incoming from partner calling called options octets) = events.Incoming (record {
  end = number;
  system = system;
  reference = reference;
  calling = from;
  partner = partner;
  calling_selector = calling;
  called = own;
  called_selector = called;
  options = options;
  octets = octets;
})
event_for system own number reference (whats.End what) = events.End number what
event_for system own number reference (whats.BadTpdu cause place) = events.BadTpdu system cause place
event_for system own number reference (whats.Unknown kind) = events.Unknown system kind
event_for system own number reference whats.Silent = events.Silent system

-- an indication makes an end
abbrev pub ends_with : List EndAt → ℕ → EndEvent → What → List EndAt
ends_with ends system told (whats.Incoming from partner calling called options octets) = ends ++ record { system = system; reference = told.reference } ∷ []
ends_with ends system told other = ends

-- the ends after some events of a system, and the lines of the events
abbrev pub ends_after : List EndAt → ℕ → List EndEvent → List EndAt
ends_after ends system [] = ends
ends_after ends system (told ∷ others) = ends_after (ends_with ends system told told.what) system others

abbrev pub events_after : List EndAt → ℕ → List ℕ → List EndEvent → List Event
events_after ends system own [] = []
events_after ends system own (told ∷ others) =
    event_for system own (latest (ends_with ends system told told.what) system told.reference) told.reference told.what
    ∷ events_after (ends_with ends system told told.what) system own others

-- a transport unit that the network does not take is told
abbrev pub drop_events : ℕ → Offered → List Event
drop_events system WasTaken = []
drop_events system (Dropped cause) = events.Dropped system cause ∷ []

-- the line of a connect request
abbrev pub connect_event : ℕ → ℕ → ℕ → List ℕ → ConnectRequest → Event
connect_event number system reference own request = events.Connect (record {
  end = number;
  system = system;
  reference = reference;
  calling = own;
  calling_selector = request.from_selector;
  called = request.to;
  called_selector = request.to_selector;
  octets = request.octets;
})

-- the line of a user's call; an accept and a window have the line of what the end tells of them
abbrev pub call_events : ℕ → UserCall → List Event
call_events number (asks.Accept options octets) = []
call_events number (asks.Refuse octets) = events.Refuse number octets ∷ []
call_events number (asks.Normal octets) = events.Data number octets ∷ []
call_events number (asks.Urgent octets) = events.Expedite number octets ∷ []
call_events number (asks.Window credit) = []
call_events number (asks.Disconnect octets) = events.Disconnect number octets ∷ []

abbrev pub inject_event : ℕ → Injected → Event
inject_event system injects.Taken = events.Inject system
inject_event system injects.NotThere = events.InjectNotThere system
