use Rattle.std.proofs.Common.{◌≡◌, ◌+◌, ◌++◌, ◌∙◌, ℕ, List, ap, drop, length, take, arith}
use Rattle.std.proofs.lemmas.List.{with_items_is}
use Rattle.clnp_segment.proofs.Stretches.{over}
use Rattle.clnp_segment.proofs.stretch.Stretch.put_over.Goals as goal

pub returns : goal.returns
returns c =
    let long : length c.put.new.all ≡ c.self.inside.buffer.len = omega (arith, c.put.auto.all, c.as_mut_slice.ensures.len, ap (λ (xs : List ℕ). length xs) c.as_mut_slice.ensures.value) in
    ap (drop c.self.inside.room) (with_items_is c.self.inside.buffer c.put.new.all long)
    ∙ over c.self.inside.room c.args.from c.self.inside.buffer.items c.put.new.all c.args.octets.now c.self.invariant
    (c.put.ensures ∙ ap (λ (xs : List ℕ). take (c.self.inside.room + c.args.from) xs
    ++ (c.args.octets.now ++ drop (c.self.inside.room + c.args.from + length c.args.octets.now) xs)) c.as_mut_slice.ensures.value)
    ∙ ap (λ (xs : List ℕ). take c.args.from xs ++ (c.args.octets.now ++ drop (c.args.from + length c.args.octets.now) xs)) c.self.view_is
