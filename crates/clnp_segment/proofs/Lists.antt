-- Lists that are put together in two ways: the first member that passes a test, and fronts of one length.
use Rattle.std.proofs.Common.{◌≡◌, Bool, true, false, List, [], ◌∷◌, ◌++◌, length, Some, refl, sym, subst, arith}
use Rattle.std.specs.List.{list_any}
use Rattle.std.proofs.lemmas.Bool.{or_parts}

pub same_head : {A : Type 0} (x y : A) (xs ys : List A) → x ∷ xs ≡ y ∷ ys → x ≡ y
same_head x y xs ys e = cc e

pub same_tail : {A : Type 0} (x y : A) (xs ys : List A) → x ∷ xs ≡ y ∷ ys → xs ≡ ys
same_tail x y xs ys e = cc e

pub same_some : {A : Type 0} (x y : A) → Some x ≡ Some y → x ≡ y
same_some x y e = cc e

apart : {b : Bool} → b ≡ true → b ≡ false → ⊥
apart h k = absurd cc

-- the first member that passes a test
pub one_place : {A : Type 0} (test : A → Bool) (before others : List A) (one other : A) (rest more : List A) → before ++ one ∷ rest ≡ others ++ other ∷ more
    → test one ≡ true → test other ≡ true → list_any test before ≡ false → list_any test others ≡ false → (before ≡ others) × (one ≡ other) × (rest ≡ more)
one_place test [] [] one other rest more e passed also lacks none = (refl, same_head one other rest more e, same_tail one other rest more e)
one_place {A} test [] (y ∷ others) one other rest more e passed also lacks none =
    let same = same_head one y rest (others ++ other ∷ more) e in
    absurd (apart (subst (λ (u : A). test u ≡ true) same passed) (or_parts (test y) (list_any test others) none).0)
one_place {A} test (x ∷ before) [] one other rest more e passed also lacks none =
    let same = same_head x other (before ++ one ∷ rest) more e in
    absurd (apart (subst (λ (u : A). test u ≡ true) (sym same) also) (or_parts (test x) (list_any test before) lacks).0)
one_place {A} test (x ∷ before) (y ∷ others) one other rest more e passed also lacks none =
    let head : x ≡ y = same_head x y (before ++ one ∷ rest) (others ++ other ∷ more) e in
    let all = one_place test before others one other rest more (same_tail x y (before ++ one ∷ rest) (others ++ other ∷ more) e) passed also
    (or_parts (test x) (list_any test before) lacks).1 (or_parts (test y) (list_any test others) none).1 in
    (λ i. head i ∷ all.0 i, all.1, all.2)

pub none_in : {A : Type 0} (test : A → Bool) (before : List A) (one : A) (rest : List A) → test one ≡ true → list_any test (before ++ one ∷ rest) ≡ false → ⊥
none_in test [] one rest passed none = apart passed (or_parts (test one) (list_any test rest) none).0
none_in test (x ∷ before) one rest passed none = none_in test before one rest passed (or_parts (test x) (list_any test (before ++ one ∷ rest)) none).1

-- fronts of one length
pub same_fronts : {A : Type 0} (first second rest more : List A) → length first ≡ length second → first ++ rest ≡ second ++ more → (first ≡ second) × (rest ≡ more)
same_fronts [] [] rest more len e = (refl, e)
same_fronts [] (y ∷ second) rest more len e = absurd (omega (arith, len))
same_fronts (x ∷ first) [] rest more len e = absurd (omega (arith, len))
same_fronts (x ∷ first) (y ∷ second) rest more len e =
    let head : x ≡ y = same_head x y (first ++ rest) (second ++ more) e in
    let all = same_fronts first second rest more (omega (arith, len)) (same_tail x y (first ++ rest) (second ++ more) e) in
    (λ i. head i ∷ all.0 i, all.1)
