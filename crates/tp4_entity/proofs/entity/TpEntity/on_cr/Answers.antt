use Rattle.std.proofs.Common.{OnOk, subst, sym}
use Rattle.tpdu.specs.Values.{seen, tpdu_of}
use Rattle.tp4_number.specs.Number.{wire}
use Rattle.tp4_entity.specs.Association.{met, requested}
use Rattle.tp4_entity.specs.Step.{DoesSo}
use Rattle.tp4_entity.proofs.entity.TpEntity.on_cr.Goals as goal

pub returns-clause-step : goal.returns-clause-step
returns-clause-step g c =
    let here = subst (λ t. OnOk c.answer_cr.result (DoesSo (requested c.args.self.now.clock c.args.self.now c.args.from.now c.in-Cr.source c.in-Cr.called.now (tpdu_of t)) c.answer_cr.new.self c.args.out.now c.answer_cr.new.out))
    c.in-Cr.is c.answer_cr.ensures.step in
    subst (λ t. OnOk c.answer_cr.result (DoesSo (met wire c.args.self.now.clock c.args.self.now c.args.from.now (seen t)) c.answer_cr.new.self c.args.out.now c.answer_cr.new.out)) (sym c.in-Cr.is) here
