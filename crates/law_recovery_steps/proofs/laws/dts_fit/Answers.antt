use Rattle.law_recovery_steps.proofs.Fitting.{dts_fit}
use Rattle.law_recovery_steps.proofs.laws.dts_fit.Goals as goal

pub returns : goal.returns
returns c = dts_fit
