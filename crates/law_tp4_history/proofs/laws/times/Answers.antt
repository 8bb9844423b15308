use Rattle.std.proofs.Common.{◌∙◌, ap}
use Rattle.law_tp4_history.specs.Ends.{Times, frozen}
use Rattle.law_tp4_history.proofs.Beginnings.{fit_times, frozen_is}
use Rattle.law_tp4_history.proofs.StepMoves.{frozen_since}
use Rattle.law_tp4_history.proofs.laws.times.Goals as goal

pub returns : goal.returns
returns c = record { fit = fit_times; since = frozen_since; frozen = λ times now h e sees. ap (λ (x : Times). frozen x) sees.times_are ∙ frozen_is e.base.timers }
