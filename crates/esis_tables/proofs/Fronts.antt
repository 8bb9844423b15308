-- Addresses that are taken one by one are the first of the list, and all of it where no more comes.
use Rattle.std.proofs.Common.{◌≡◌, ℕ, ◌+◌, ◌<◌, ◌≤◌, List, [], ◌∷◌, ◌++◌, length, get_or, take, Some, None, sym, ap, ◌∙◌, arith, length-append, inl, inr}
use Rattle.std.specs.Prelude.{◌⊎◌, slice_get}
use Rattle.std.proofs.lemmas.Bool.{cases_lt}
use Rattle.std.proofs.Math.Seq.{take-length}
use Rattle.std.proofs.lemmas.List.{take_more}
use Rattle.std.proofs.lemmas.Option.{get_or_from_slice_get, slice_get-get_or, slice_get_within}

abbrev Name : Type 0
Name = List ℕ

pub record IsFront (all items : List Name) : Type 0 where
  pub low : length items ≤ length all
  pub is : items ≡ take (length items) all

pub front_more : (all items new : List Name) (address : Name) → IsFront all items → slice_get all (length items) ≡ Some address → new ≡ items ++ address ∷ []
    → IsFront all new
front_more all items new address h found is =
    let within : length items < length all = slice_get_within all (length items) address found in
    let long : length new ≡ length items + 1 = ap length is ∙ length-append items (address ∷ []) in
    let here : get_or all (length items) address ≡ address = get_or_from_slice_get all (length items) address address found in
    let more : take (length items + 1) all ≡ items ++ address ∷ [] = take_more all (length items) address within
    ∙ ap (λ (x : Name). take (length items) all ++ x ∷ []) here ∙ ap (λ (xs : List Name). xs ++ address ∷ []) (sym h.is) in
    record { low = omega arith; is = is ∙ sym more ∙ ap (λ (n : ℕ). take n all) (sym long) }

pub front_whole : (all items : List Name) → IsFront all items → slice_get all (length items) ≡ None → items ≡ all
front_whole all items h none = by (cases_lt (length items) (length all))
  where
    by : (length items < length all) ⊎ (length all ≤ length items) → items ≡ all
    by (inr past) = let e : length items ≡ length all = omega (arith, h.low) in h.is ∙ ap (λ (n : ℕ). take n all) e ∙ take-length all
    by (inl within) = let found : slice_get all (length items) ≡ Some (get_or all (length items) []) =
        slice_get-get_or all (length items) [] within in absurd cc
