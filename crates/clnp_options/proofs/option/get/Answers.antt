use Rattle.pdu_parts.specs.Lent.{parameter_of}
use Rattle.clnp_options.proofs.Walk.{get_found, get_missed, get_nowhere}
use Rattle.clnp_options.proofs.option.get.Goals as goal

pub returns-then-option-code : goal.returns-then-option-code
returns-then-option-code c =
    get_found c.args.code c.loop-option.rest.now (parameter_of c.in-Some.option) c.in-Some.after.now _ c.in-Some.ensures c.loop-option.invariant c.if-option-code.true

pub loop-option-preserved : goal.loop-option-preserved
loop-option-preserved c =
    get_missed c.args.code c.loop-option.rest.now (parameter_of c.in-Some.option) c.in-Some.after.now _ c.in-Some.ensures c.loop-option.invariant c.if-option-code.false

pub returns : goal.returns
returns c = get_nowhere c.args.code c.loop-option.rest.now _ c.in_default.ensures c.loop-option.invariant
