use Rattle.std.proofs.Common.{◌≡◌, ◌∙◌, [], ◌∷◌, ap, arith}
use Rattle.std.specs.Fmt.{decimal}
use Rattle.std.proofs.lemmas.Fmt.{decimal_digit}
use Rattle.capture_show.proofs.field.push_end.Goals as goal

-- the number 0 is one digit
pub returns-then-count-eq0 : goal.returns-then-count-eq0
returns-then-count-eq0 c =
    let digit : decimal c.args.count ≡ 48 ∷ [] = ap decimal c.if-count-eq0.true ∙ decimal_digit 0 (omega arith) in
    rw digit c.push.ensures
