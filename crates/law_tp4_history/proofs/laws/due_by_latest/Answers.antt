use Rattle.law_tp4_history.proofs.StepMoves.{due_by, by_latest, before_latest, passed}
use Rattle.law_tp4_history.proofs.laws.due_by_latest.Goals as goal

pub returns : goal.returns
returns c = record {
  due = λ times now h e sees going. let d = due_by times now h e sees going in (d.next, d.is, d.low);
  low = by_latest;
  before = before_latest;
  passes = passed;
}
