-- Each octet of the loop is printed as its two digits.
use Rattle.std.proofs.Common.{◌<◌, arith, get_or, rules, sym}
use Rattle.std.proofs.Output.{has_written_append, has_written_of_eq}
use Rattle.hex.specs.Hex.{encode_with}
use Rattle.nsap.proofs.TextLemmas.{encode_lower-more}
use Rattle.nsap.proofs.text.show.Goals as goal

pub loop-octet-init : goal.loop-octet-init
unfolding encode_with
loop-octet-init g c = search rules

pub loop-octet-preserved : goal.loop-octet-preserved
loop-octet-preserved g c = λ plain.
    let octet : get_or c.args.octets.now c.loop-octet.octet-index 0 < 256 = omega (arith, c.type_inv.octets c.loop-octet.octet-index) in
    has_written_of_eq _ _ _ _ _ (sym (encode_lower-more _ _ c.loop-octet-test.true octet))
    (has_written_append _ _ _ _ _ _ (c.loop-octet.invariant plain) (search rules))
