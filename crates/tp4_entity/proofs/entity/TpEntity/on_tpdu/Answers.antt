use Rattle.std.proofs.Common.{◌∙◌, ap, sym, subst}
use Rattle.tpdu.specs.Values.{format_for, tpdu_of}
use Rattle.tpdu.specs.Writing.{IsAllowed}
use Rattle.tpdu.specs.declared.tpdu.Format.{Format}
use Rattle.tp4_entity.specs.Unit.{extended_of}
use Rattle.tp4_entity.proofs.Formats.{format_is}
use Rattle.tp4_entity.proofs.entity.TpEntity.on_tpdu.Goals as goal

pub pass_to_end-requires-clause-allowed : goal.pass_to_end-requires-clause-allowed
pass_to_end-requires-clause-allowed g c =
    let is = ap (format_for (extended_of c.args.self.now)) (sym c.in-Some.ensures.value) ∙ format_is c.args.self.now c.in-Some.destination in
    subst (λ (f : Format). IsAllowed f (tpdu_of c.args.tpdu.now)) is c.requires.allowed
