-- Digits that stand before marks are cut out by a window of fixed length and by a cut behind the first mark.
use Rattle.std.proofs.Common.{◌≡◌, ℕ, ◌+◌, List, [], ◌∷◌, ◌++◌, length, take, replicate, ap, ◌∙◌, arith}
use Rattle.std.proofs.lemmas.List.{take-replicate}
use Rattle.std.proofs.Math.Seq.{take-append-add}

-- what a window shows: the digits, and marks behind them
window : (digits : List ℕ) (mark start : ℕ) → start + length digits ≡ 10
    → take 11 (digits ++ replicate 11 mark) ≡ digits ++ replicate (start + 1) mark
window digits mark start room =
    let whole : 11 ≡ length digits + (start + 1) = omega (arith, room) in
    ap (λ (n : ℕ). take n (digits ++ replicate 11 mark)) whole
    ∙ take-append-add digits (replicate 11 mark) (start + 1)
    ∙ ap (λ (marks : List ℕ). digits ++ marks) (take-replicate (start + 1) 11 mark (omega (arith, room)))

-- the cut leaves one mark
pub cut : (old digits shown : List ℕ) (mark start : ℕ) → start + length digits ≡ 10 → shown ≡ take 11 (digits ++ replicate 11 mark)
    → take (length old + (length digits + 1)) (old ++ shown) ≡ old ++ (digits ++ mark ∷ [])
cut old digits shown mark start room is =
    take-append-add old shown (length digits + 1)
    ∙ ap (λ (text : List ℕ). old ++ take (length digits + 1) text) (is ∙ window digits mark start room)
    ∙ ap (λ (text : List ℕ). old ++ text) (take-append-add digits (replicate (start + 1) mark) 1)
    ∙ ap (λ (marks : List ℕ). old ++ (digits ++ marks)) (take-replicate 1 (start + 1) mark (omega arith))
