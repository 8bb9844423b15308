use Rattle.std.proofs.Common.{◌∙◌, sym}
use Rattle.pdu_parts.specs.Lent.{parameter_of}
use Rattle.tpdu.proofs.Checks.{last_on-front, last_on-end, option_map-or, gives-option_map}
use Rattle.tpdu.proofs.parameter.last_value.Goals as goal

pub loop-parameter-preserved : goal.loop-parameter-preserved
loop-parameter-preserved c =
    let on = last_on-front c.args.code c.loop-parameter.left.now _ (parameter_of c.in-Some.parameter, c.in-Some.rest.now) (sym c.in-Some.ensures) in
    rw (c.or-found.ensures, option_map-or _ _ _ _ c.value_under.ensures) (sym on ∙ c.loop-parameter.invariant)

pub returns : goal.returns
returns c = gives-option_map _ _ _ (sym (last_on-end _ _ _ (sym c.in_default.ensures)) ∙ c.loop-parameter.invariant)
