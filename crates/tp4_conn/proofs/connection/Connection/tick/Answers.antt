use Rattle.std.proofs.Common.{rules, subst, sym}
use Rattle.tp4_conn.specs.End.{End}
use Rattle.tp4_conn.specs.Living.{IsInTime}
use Rattle.tp4_conn.specs.Table.{due}
use Rattle.tp4_conn.proofs.Dues.{ticked_so}
use Rattle.tp4_conn.proofs.Rests.{ticked_waits}
use Rattle.tp4_conn.proofs.connection.Connection.tick.Goals as goal

pub invariant_of-self-2 : goal.invariant_of-self-2
invariant_of-self-2 g c = (
  search rules,
  ticked_waits c.self.inside.base c.self.inside.stage c.replace-stage.result c.in_ok-self-inside.field-0 c.args.now _ _ c.self.invariant.1
      (subst (λ (e : End). IsInTime (due e.base e.stage) c.args.now) (sym c.self.view_is) c.requires.due) c.replace-stage.ensures.value c.in_ok-self-inside.ensures.step,
)

pub returns-clause-later : goal.returns-clause-later
returns-clause-later g c =
    ticked_so c.self.inside.base c.self.inside.stage c.replace-stage.result c.in_ok-self-inside.field-0 c.args.now _ _ c.self.invariant.0 c.replace-stage.ensures.value c.in_ok-self-inside.ensures.step
