-- A journal without what a relay notes in it.
use Rattle.std.specs.Prelude.{Bool, true, false, if◌then◌else◌, List, [], ◌∷◌}
use Rattle.script_journal.specs.declared.cause.Refused.TheVariants as refused
use Rattle.script_journal.specs.declared.event.Event.{Event}
use Rattle.script_journal.specs.declared.event.Event.TheVariants as events

-- the event is a note of a relay, or the answer to a line about an end of a relay
abbrev pub is_note : Event → Bool
is_note (events.Joined inbound outbound) = true
is_note (events.No refused.Relayed) = true
is_note event = false

abbrev pub plain : List Event → List Event
plain [] = []
plain (event ∷ journal) = if is_note event then plain journal else event ∷ plain journal
