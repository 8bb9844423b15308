use Rattle.std.proofs.Common.{◌≡◌, ◌∙◌, ◌+◌, ◌*◌, ◌-◌, ◌++◌, ℕ, List, ap, length, arith}
use Rattle.std.specs.Prelude.{replicate}
use Rattle.std.proofs.lemmas.List.{take_all}
use Rattle.text_parts.proofs.digits.make_room.Goals as goal

-- the list has that many, so the count is no cut one
pub returns : goal.returns
returns c =
    let old = c.args.out.now in
    let new = c.resize.new.self in
    let small = new.small in
    let fits = new.ok.1 in
    let same = old.ok.0 in
    let count = c.saturating_add-count.result in
    let is : count ≡ length old.items + 2 * c.args.pairs = omega (arith, small, fits, same, c.in_ok-resize.ensures.len, c.saturating_add-count.ensures, c.saturating_mul.ensures, c.len.ensures) in
    c.in_ok-resize.ensures.items
    ∙ ap (λ (xs : List ℕ). xs ++ replicate (count - old.len) 0) (take_all count old.items (omega (arith, is)))
    ∙ ap (λ (n : ℕ). old.items ++ replicate n 0) (omega (arith, is, same))
