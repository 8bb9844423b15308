-- A receiving half has a place for each number within its credit, and the number expected is never held, as long as no unit is too large (X.224, class 4:
-- sequencing, explicit flow control).
use Rattle.tp4_flow.specs.ReceivingHalf.{Half}
use Rattle.tp4_number.specs.Formats.{most_of}
use Rattle.law_recovery_pair.specs.Recovering.{IsFitted}

abbrev pub Fits : Half → Type 0
Fits h = IsFitted (most_of h.rules.format) h.receiver
