use Rattle.std.proofs.Common.{arith, ap, length}
use Rattle.clnp_header.proofs.OptionsWritten.{value_within}
use Rattle.clnp_header.proofs.writing.push_options.Goals as goal

pub push_parameter-requires : goal.push_parameter-requires
push_parameter-requires c =
    omega (arith, c.requires, ap length c.as_slice.ensures, value_within c.args.options.now c.loop-option.option-index c.option-item.result c.loop-option-test.true c.option-item.is)
