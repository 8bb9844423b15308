-- Places are emptied one after another: those before the next are empty, those from it on are as they were.
use Rattle.std.proofs.Common.{◌≡◌, ℕ, zero, suc, ◌+◌, ◌<◌, List, [], ◌∷◌, ◌++◌, length, take, drop, replicate, slice_set, Option, None, refl, sym, ap, ◌∙◌, arith}
use Rattle.std.proofs.lemmas.List.{length-replicate}
use Rattle.std.proofs.Math.Seq.{take-append_seam}

one_more : {A : Type 0} (at : ℕ) (places : List (Option A)) → at < length places → slice_set (replicate at None ++ drop at places) at None ≡ replicate (suc at) None ++ drop (suc at) places
one_more at [] low = absurd (omega (arith, low))
one_more zero (one ∷ places) low = refl
one_more {A} (suc at) (one ∷ places) low = ap (λ (ps : List (Option A)). None ∷ ps) (one_more at places (omega (arith, low)))

pub clears : {A : Type 0} (at : ℕ) (places : List (Option A)) → at < length places → slice_set (replicate at None ++ drop at places) at None ≡ replicate (at + 1) None ++ drop (at + 1) places
clears at places low =
    let next : suc at ≡ at + 1 = omega arith in
    one_more at places low ∙ ap (λ n. replicate n None ++ drop n places) next

pub written_back : {A : Type 0} (items places : List (Option A)) (len count : ℕ) → count ≡ len → places ≡ replicate count None → take len (places ++ drop (length places) items) ≡ replicate count None
written_back {A} items places len count same is =
    let long : len ≡ length places = sym same ∙ sym (length-replicate {A = Option A} count None) ∙ ap (λ (ps : List (Option A)). length ps) (sym is) in
    ap (λ n. take n (places ++ drop (length places) items)) long ∙ take-append_seam places (drop (length places) items) ∙ is
