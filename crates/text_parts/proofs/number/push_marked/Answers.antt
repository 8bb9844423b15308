use Rattle.std.proofs.Common.{◌≡◌, ℕ, List, ◌+◌, ◌-◌, ◌++◌, ◌∷◌, [], length, take, drop, ap, ◌∙◌, arith}
use Rattle.std.specs.Fmt.{decimal}
use Rattle.std.proofs.lemmas.Fmt.{length-decimal-le}
use Rattle.text_parts.proofs.Windows.{cut}
use Rattle.text_parts.proofs.number.push_marked.Goals as goal

-- a number of 32 bits has at most ten digits
pub write_digits-start-requires : goal.write_digits-start-requires
write_digits-start-requires c =
    (length-decimal-le 10 c.from.result (omega arith) (omega (arith, c.from.ensures, c.ranges.number.fits)) (omega (arith, c.from.ensures, c.ranges.number.fits)), omega arith)

pub returns : goal.returns
returns c =
    let old = c.args.out.now.items in
    let start = c.write_digits-start.result in
    let same = ap decimal c.from.ensures in
    let room = c.write_digits-start.ensures.start in
    let whole : c.len-end.result + 10 + 1 - start ≡ length old + (length (decimal c.from.result) + 1) =
    omega (arith, c.len-end.ensures, c.write_digits-start.ensures.start) in
    let eleven : start + 10 + 1 - start ≡ 11 = omega arith in
    c.truncate.ensures.items
    ∙ ap (λ (n : ℕ). take n c.push.new.out.items) whole
    ∙ ap (λ (text : List ℕ). take (length old + (length (decimal c.from.result) + 1)) text) c.in_ok-push.ensures
    ∙ cut old (decimal c.from.result) _ c.args.mark start room
    (ap (λ (n : ℕ). take n (drop start c.write_digits-start.new.buf)) eleven ∙ ap (λ (text : List ℕ). take 11 text) c.write_digits-start.ensures.written)
    ∙ ap (λ (digits : List ℕ). old ++ (digits ++ c.args.mark ∷ [])) same
