use Rattle.std.proofs.Common.{rules, subst, sym}
use Rattle.tpdu.specs.Values.{tpdu_of}
use Rattle.tp4_conn.specs.Dues.{IsBefore}
use Rattle.tp4_conn.specs.End.{End}
use Rattle.tp4_conn.specs.Living.{IsInTime}
use Rattle.tp4_conn.specs.Table.{due}
use Rattle.tp4_conn.proofs.Rests.{took_from, took_later, took_waits}
use Rattle.tp4_conn.proofs.connection.Connection.on_tpdu.Goals as goal

pub invariant_of-self-2 : goal.invariant_of-self-2
invariant_of-self-2 g c = (
  search rules,
  took_waits c.self.inside.base c.on_tpdu.new.base c.self.inside.stage c.replace-stage.result c.in_ok-self-inside.field-0 c.args.now (tpdu_of c.args.tpdu.now) _ _ c.self.invariant.1
      c.replace-stage.ensures.value c.in_ok-self-inside.ensures.step c.in_ok-self-inside.ensures.kept.same.timers,
)

pub returns-clause-later : goal.returns-clause-later
returns-clause-later g c = λ low.
    took_later c.self.inside.base c.on_tpdu.new.base c.self.inside.stage c.replace-stage.result c.in_ok-self-inside.field-0 c.args.now (tpdu_of c.args.tpdu.now) _ _ c.self.invariant.0 c.self.invariant.1
    c.replace-stage.ensures.value c.in_ok-self-inside.ensures.step (subst (λ (e : End). IsBefore (due e.base e.stage) c.args.now) (sym c.self.view_is) low)

pub returns-clause-from : goal.returns-clause-from
returns-clause-from g c =
    took_from c.self.inside.base c.on_tpdu.new.base c.self.inside.stage c.replace-stage.result c.in_ok-self-inside.field-0 c.args.now (tpdu_of c.args.tpdu.now) _ _ c.self.invariant.0 c.self.invariant.1
    c.replace-stage.ensures.value c.in_ok-self-inside.ensures.step (subst (λ (e : End). IsInTime (due e.base e.stage) c.args.now) (sym c.self.view_is) c.requires.due)
