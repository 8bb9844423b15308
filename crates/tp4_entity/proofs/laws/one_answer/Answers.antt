use Rattle.tp4_entity.proofs.Answered.{last, meets}
use Rattle.tp4_entity.proofs.laws.one_answer.Goals as goal

pub returns : goal.returns
returns c = record { meets = meets; last = last }
