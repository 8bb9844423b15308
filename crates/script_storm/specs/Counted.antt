-- What is counted of a journal.
use Rattle.std.specs.Prelude.{Bool, true, false, List}
use Rattle.std.specs.List.{count_by}
use Rattle.script_journal.specs.declared.event.Event.{Event}
use Rattle.script_journal.specs.declared.event.Event.TheVariants as events
use Rattle.script_journal.specs.RawLawful.{tick_after}
use Rattle.script_storm.specs.declared.counts.Counts.{Counts}
use Rattle.tpdu.specs.declared.service.EndTold.TheVariants as tells
use Rattle.osi_base.specs.declared.note.Note.TheVariants as notes

-- a frame that is numbered
abbrev pub is_frame : Event → Bool
is_frame (events.Net (notes.Frame number lan system snpa length)) = true
is_frame event = false

-- a connect request or indication makes an end
abbrev pub makes_end : Event → Bool
makes_end (events.Connect asked) = true
makes_end (events.Incoming heard) = true
makes_end event = false

-- a normal unit that is shown
abbrev pub is_got : Event → Bool
is_got (events.End end (tells.Got octets)) = true
is_got event = false

-- an expedited unit that is shown
abbrev pub is_urgent : Event → Bool
is_urgent (events.End end (tells.Urgent octets)) = true
is_urgent event = false

-- a disconnect indication
abbrev pub is_gone : Event → Bool
is_gone (events.End end (tells.Gone cause octets)) = true
is_gone event = false

-- the tick of the last event, and the counts
abbrev pub counts_of : List Event → Counts
counts_of journal = record {
  ticks = tick_after journal;
  frames = count_by is_frame journal;
  ends = count_by makes_end journal;
  got = count_by is_got journal;
  urgent = count_by is_urgent journal;
  gone = count_by is_gone journal;
}
