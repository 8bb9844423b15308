use Rattle.std.proofs.Common.{◌-◌, ap, ◌∙◌, option_map}
use Rattle.pdu_parts.specs.Lent.{parameter_of}
use Rattle.clnp_options.proofs.Walk.{nth_next, nth_nowhere, nth_found}
use Rattle.clnp_options.proofs.option.nth.Goals as goal

pub returns-in_err-after : goal.returns-in_err-after
returns-in_err-after c =
    ap (option_map parameter_of) c.from_residual.ensures
    ∙ nth_nowhere (c.args.index - c.loop.counter) c.loop.rest.now _ c.in_err-after.ensures c.loop.invariant

pub loop-preserved : goal.loop-preserved
loop-preserved c =
    nth_next c.args.index c.loop.counter c.loop.rest.now (parameter_of c.in_ok-after.field-0-0) c.in_ok-after.after.now _ c.in_ok-after.ensures c.loop-test.true c.loop.invariant

pub returns-in_err-option : goal.returns-in_err-option
returns-in_err-option c =
    ap (option_map parameter_of) c.from_residual-in_err-option.ensures
    ∙ nth_nowhere (c.args.index - c.loop.counter) c.loop.rest.now _ c.in_err-option.ensures c.loop.invariant

pub returns : goal.returns
returns c =
    nth_found c.args.index c.loop.counter c.loop.rest.now (parameter_of c.in_ok-option.option) c.in_ok-option.field-0-1.now _ c.in_ok-option.ensures c.loop-test.false c.loop.invariant
