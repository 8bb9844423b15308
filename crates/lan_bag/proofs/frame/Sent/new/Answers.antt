use Rattle.std.proofs.Common.{◌≡◌, ◌≤◌, List, ℕ, length, drop, ap, ◌∙◌}
use Rattle.std.proofs.lemmas.Grind.{common_steps}
use Rattle.std.proofs.Common.{arith}
use Rattle.lan_bag.proofs.Headers.{is_whole}
use Rattle.lan_frame.proofs.Header.{header_dropped}
use Rattle.lan_bag.proofs.frame.Sent.new.Goals as goal

pub invariant_of-result : goal.invariant_of-result
invariant_of-result c =
    let most : length c.into_vec-pdu.result.items ≤ 1497 = grind (arith, common_steps) in
    is_whole c.args.unit.to.snpa c.args.unit.from.snpa c.into_vec-pdu.result.items c.in_ok-write_frame.field-0.items
    c.in_ok-write_frame.ensures.whole c.in_ok-write_frame.ensures.to c.in_ok-write_frame.ensures.from most

pub returns : goal.returns
returns c =
    let rest : drop 17 c.in_ok-write_frame.field-0.items ≡ c.into_vec-pdu.result.items =
    ap (λ (xs : List ℕ). drop 17 xs) c.in_ok-write_frame.ensures.whole
    ∙ header_dropped c.args.unit.to.snpa c.args.unit.from.snpa c.into_vec-pdu.result.items c.in_ok-write_frame.ensures.to c.in_ok-write_frame.ensures.from in
    grind (arith, common_steps, rest)
