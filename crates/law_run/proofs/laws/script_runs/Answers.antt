use Rattle.law_run.proofs.ScriptRuns.{script_run}
use Rattle.law_run.proofs.laws.script_runs.Goals as goal

pub returns : goal.returns
returns c = script_run
