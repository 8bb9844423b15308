use Rattle.std.proofs.Common.{◌++◌, ap, sym, ◌∙◌, append_assoc, append-nil, replicate, ◌∷◌, []}
use Rattle.hex.specs.Hex.{encode_lower}
use Rattle.script_storm.proofs.Repeats.{none_yet, once_more}
use Rattle.script_storm.proofs.text.push_octets.Goals as goal

pub loop-time-init : goal.loop-time-init
loop-time-init c = sym (ap (λ digits. c.args.out.now.items ++ digits) (none_yet c.args.octet) ∙ append-nil c.args.out.now.items)

pub loop-time-preserved : goal.loop-time-preserved
loop-time-preserved c =
    let before = encode_lower (replicate c.loop-time._time c.args.octet) in
    let digits = encode_lower (c.args.octet ∷ []) in
    c.in_ok-extend_from_slice.ensures.items
    ∙ (λ i. c.loop-time.invariant i ++ c.digits_of-digits.ensures i)
    ∙ append_assoc c.args.out.now.items before digits
    ∙ ap (λ text. c.args.out.now.items ++ text) (sym (once_more c.loop-time._time c.args.octet))
