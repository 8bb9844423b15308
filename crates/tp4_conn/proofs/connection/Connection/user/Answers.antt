use Rattle.std.proofs.Common.{rules, subst, sym}
use Rattle.tp4_conn.specs.Dues.{IsBefore}
use Rattle.tp4_conn.specs.End.{End}
use Rattle.tp4_conn.specs.Living.{IsInTime}
use Rattle.tp4_conn.specs.Table.{due}
use Rattle.tp4_conn.proofs.Rests.{called_from, called_later, called_waits}
use Rattle.tp4_conn.proofs.connection.Connection.user.Goals as goal

pub invariant_of-self : goal.invariant_of-self
invariant_of-self g c = (
  search rules,
  called_waits c.self.inside.base c.on_call.new.base c.self.inside.stage c.replace-stage.result c.in-Ok.stage c.args.now c.args.call _ _ c.self.invariant.0 c.self.invariant.1 c.replace-stage.ensures.value
      c.in-Ok.ensures.step c.in-Ok.ensures.kept.same.timers,
)

pub returns-in-Ok-clause-later : goal.returns-in-Ok-clause-later
returns-in-Ok-clause-later g c = λ low.
    called_later c.self.inside.base c.on_call.new.base c.self.inside.stage c.replace-stage.result c.in-Ok.stage c.args.now c.args.call _ _ c.self.invariant.0 c.self.invariant.1
    c.replace-stage.ensures.value c.in-Ok.ensures.step (subst (λ (e : End). IsBefore (due e.base e.stage) c.args.now) (sym c.self.view_is) low)

pub returns-in-Ok-clause-from : goal.returns-in-Ok-clause-from
returns-in-Ok-clause-from g c =
    called_from c.self.inside.base c.on_call.new.base c.self.inside.stage c.replace-stage.result c.in-Ok.stage c.args.now c.args.call _ _ c.self.invariant.0 c.self.invariant.1
    c.replace-stage.ensures.value c.in-Ok.ensures.step (subst (λ (e : End). IsInTime (due e.base e.stage) c.args.now) (sym c.self.view_is) c.requires.due)
