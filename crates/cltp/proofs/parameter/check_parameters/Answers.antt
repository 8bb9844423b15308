use Rattle.std.proofs.Common.{◌≡◌, ◌<◌, ◌+◌, ◌∙◌, length, sym, ap, arith, rules}
use Rattle.std.proofs.lemmas.Result.{err_from_is_err_and}
use Rattle.pdu_parts.specs.Lent.{parameter_of}
use Rattle.cltp.specs.steps.Reading.{Values, values_view}
use Rattle.cltp.proofs.Checks.{goes_on, goes_on-start, goes_on-front, goes_on-fault, goes_on-end}
use Rattle.cltp.proofs.parameter.check_parameters.Goals as goal

pub loop-left-init : goal.loop-left-init
loop-left-init c = (goes_on-start _ _, omega arith)

pub returns-in_err-parameter : goal.returns-in_err-parameter
returns-in_err-parameter c =
    let some : 0 < length c.loop-left.left.now = search rules in
    let p = err_from_is_err_and c.from_residual.result c.from_residual.ensures.1 in
    rw (p.1, p.2) (sym c.loop-left.invariant.0 ∙ goes_on-fault _ _ _ _ some c.in_err-parameter.ensures.gives)

pub loop-left-preserved : goal.loop-left-preserved
loop-left-preserved c =
    let on = goes_on-front (values_view c.loop-left.values) c.loop-left.place c.loop-left.left.now (parameter_of c.in_ok-parameter.parameter, c.in_ok-parameter.rest.now) c.in_ok-parameter.ensures.gives in
    let place = c.loop-left.place + (2 + length c.in_ok-parameter.parameter.value.now) in
    (ap (λ (v : Values). goes_on v place c.in_ok-parameter.rest.now) c.with-values.ensures ∙ sym on ∙ c.loop-left.invariant.0, omega (arith, c.in_ok-parameter.ensures.count))

pub returns : goal.returns
returns c =
    let none : length c.loop-left.left.now ≡ 0 = search rules in
    sym c.loop-left.invariant.0 ∙ goes_on-end _ _ _ none
