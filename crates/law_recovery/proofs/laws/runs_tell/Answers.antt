use Rattle.law_recovery.proofs.laws.runs_tell.Goals as goal

pub returns : goal.returns
returns g c titles begins queue_of prompt = c.walked_tell.ensures titles begins (c.runs_are_told.ensures titles begins queue_of prompt)
