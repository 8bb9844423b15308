use Rattle.std.proofs.Common.{subst}
use Rattle.tp4_conn.specs.Dues.{IsDue}
use Rattle.tp4_conn.specs.End.{End}
use Rattle.tp4_conn.specs.Table.{at}
use Rattle.tp4_conn.proofs.Dues.{end_due}
use Rattle.tp4_conn.proofs.connection.Connection.next_due.Goals as goal

pub returns-in-AkWait-clause-least : goal.returns-in-AkWait-clause-least
returns-in-AkWait-clause-least g c = λ now. subst (λ (e : End). IsDue (at now e.base) e.stage) c.self.view_is (end_due c.self.inside.base c.self.inside.stage now c.self.invariant.0)

pub returns-in-Opened-clause-least : goal.returns-in-Opened-clause-least
returns-in-Opened-clause-least g c = λ now. subst (λ (e : End). IsDue (at now e.base) e.stage) c.self.view_is (end_due c.self.inside.base c.self.inside.stage now c.self.invariant.0)

pub returns-in-Closing-clause-least : goal.returns-in-Closing-clause-least
returns-in-Closing-clause-least g c = λ now. subst (λ (e : End). IsDue (at now e.base) e.stage) c.self.view_is (end_due c.self.inside.base c.self.inside.stage now c.self.invariant.0)

pub returns-in-CrWait-clause-least : goal.returns-in-CrWait-clause-least
returns-in-CrWait-clause-least g c = λ now. subst (λ (e : End). IsDue (at now e.base) e.stage) c.self.view_is (end_due c.self.inside.base c.self.inside.stage now c.self.invariant.0)

pub returns-in-WaitBeforeClose-clause-least : goal.returns-in-WaitBeforeClose-clause-least
returns-in-WaitBeforeClose-clause-least g c = λ now. subst (λ (e : End). IsDue (at now e.base) e.stage) c.self.view_is (end_due c.self.inside.base c.self.inside.stage now c.self.invariant.0)

pub returns-in-UserWait-clause-least : goal.returns-in-UserWait-clause-least
returns-in-UserWait-clause-least g c = λ now. subst (λ (e : End). IsDue (at now e.base) e.stage) c.self.view_is (end_due c.self.inside.base c.self.inside.stage now c.self.invariant.0)
