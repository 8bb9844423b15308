use Rattle.std.proofs.Common.{length, ap, rules}
use Rattle.pdu_parts.specs.Lent.{parameter_of}
use Rattle.pdu_parts.proofs.Parameters.{in_front_none, in_front_some}
use Rattle.clnp_options.proofs.option.OptionsIterator.next.Goals as goal

pub returns-in_err-option-clause-steps : goal.returns-in_err-option-clause-steps
returns-in_err-option-clause-steps c =
    let none = in_front_none c.args.self.now.rest.now c.in_err-option.ensures in
    rw c.from_residual.ensures (none, none)

pub returns-clause-steps : goal.returns-clause-steps
returns-clause-steps c = in_front_some c.args.self.now.rest.now (parameter_of c.in_ok-option.option) c.in_ok-option.after.now c.in_ok-option.ensures

pub returns-clause-goes : goal.returns-clause-goes
returns-clause-goes c =
    let step = in_front_some c.args.self.now.rest.now (parameter_of c.in_ok-option.option) c.in_ok-option.after.now c.in_ok-option.ensures in
    let shorter = ap length step in search rules
