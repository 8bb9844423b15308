use Rattle.std.proofs.Common.{◌<◌, ◌^◌, rules}
use Rattle.byteorder.specs.Numbers.{big_from-lt}
use Rattle.osi_base.proofs.Numbers.{fits_word}
use Rattle.osi_base.proofs.octets.first_number.Goals as goal

pub overflow_cast-result : goal.overflow_cast-result
overflow_cast-result c =
    let below : c.read_uint.result < 256 ^ c.args.width = rw c.read_uint.ensures (big_from-lt 0 c.args.width _ (λ k. search (rules, c.type_inv.octets))) in
    let fits : c.read_uint.result < 2 ^ 32 = fits_word c.args.width _ c.requires.most below in
    search rules
