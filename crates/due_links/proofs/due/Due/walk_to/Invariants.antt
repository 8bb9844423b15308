use Rattle.due_links.specs.steps.Kept.{AreFrom}
use Rattle.due_links.proofs.due.Due.walk_to.Given as goal

abbrev pub invariant-loop-at : goal.invariant-loop-at
invariant-loop-at l = AreFrom l.at l.self
