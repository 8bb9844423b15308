-- The units of two lists of events are those of the first and then those of the second.
use Rattle.script_journal.specs.declared.event.Event.TheVariants as events
use Rattle.tpdu.specs.declared.service.EndTold.TheVariants as tells
