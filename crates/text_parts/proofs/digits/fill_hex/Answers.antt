use Rattle.std.proofs.Common.{arith}
use Rattle.hex.specs.Hex.{lower_digits}
use Rattle.hex.proofs.Pairs.{encode_step, encode_done}
use Rattle.text_parts.proofs.digits.fill_hex.Goals as goal

pub octets-preserved : goal.octets-preserved
octets-preserved c =
    encode_step lower_digits c.args.octets.now c.octets.place c.octets.i _ _ (omega arith) (omega arith) c.digits_of-high.ensures.high c.digits_of-high.ensures.low c.octets.invariant

pub returns : goal.returns
returns c =
    encode_done lower_digits c.args.octets.now c.octets.place c.octets.i (omega arith) (omega arith) c.octets.invariant
