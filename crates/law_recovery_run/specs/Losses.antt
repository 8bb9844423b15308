-- What a run may not lose any more once its losses are over.
use Rattle.osi_base.specs.declared.note.Note.TheVariants as notes
use Rattle.net_world.specs.Prompt.{IsRefusal}
use Rattle.script_journal.specs.declared.event.Event.{Event}
use Rattle.script_journal.specs.declared.event.Event.TheVariants as events
use Rattle.law_tp4_pair.specs.Claim.{IsUndropped}

-- nothing was dropped, no settling stopped at its number, and no segment was refused for want of room
abbrev pub IsKept : Event → Type 0
IsKept (events.Net (notes.Discard system reason place)) = IsRefusal reason place → ⊥
IsKept event = IsUndropped event
