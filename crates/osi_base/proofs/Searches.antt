-- A search of a set of codes finds what stands in a list.
use Rattle.std.proofs.Common.{◌≡◌, ◌∙◌, ℕ, ◌<◌, ◌≤◌, Bool, true, false, List, length, slice_get, Some, refl, sym, ap, arith}
use Rattle.std.specs.Prelude.{cond, nat_eq, nat_lt}
use Rattle.std.specs.BTreeSet.{BTreeSet, contains, keys_between}
use Rattle.std.specs.BTreeMap.Range.{range_contains}
use Rattle.std.specs.List.{list_any}
use Rattle.std.specs.Ordering.{nat_cmp, is_eq}
use Rattle.std.specs.declared.ops.Bound.TheVariants.{Included}
use Rattle.std.proofs.lemmas.Bool.Decides.{nat_tests}
use Rattle.std.proofs.lemmas.List.Folds.{Any-from_list_any, list_any_at}
use Rattle.std.proofs.lemmas.Map.Views.{any-filter_same}
use Rattle.std.proofs.lemmas.Option.{slice_get-get_or}

-- a comparison with a code finds that code alone
pub at_code : (code k : ℕ) → is_eq (nat_cmp code k) ≡ true → k ≡ code
at_code code k h = by_less (nat_lt code k) (nat_eq code k) refl h
  where
    by_less : (less same : Bool) → nat_eq code k ≡ same → is_eq (cond less Rattle.std.specs.declared.cmp.Ordering.TheVariants.Less (cond same Rattle.std.specs.declared.cmp.Ordering.TheVariants.Equal Rattle.std.specs.declared.cmp.Ordering.TheVariants.Greater)) ≡ true → k ≡ code
    by_less true same is h = absurd cc
    by_less false true is h = grind (arith, nat_tests, is)
    by_less false false is h = absurd cc

in_range : (low high k : ℕ) → low ≤ k → k ≤ high → range_contains nat_cmp (Included low) (Included high) k ≡ true
in_range low high k from to = grind (arith, nat_tests, from, to)

pub same_bool : (a b : Bool) → (a ≡ true → b ≡ true) → (b ≡ true → a ≡ true) → a ≡ b
same_bool true b h k = sym (h refl)
same_bool false true h k = k refl
same_bool false false h k = refl

abbrev run : BTreeSet ℕ → ℕ → ℕ → List ℕ
run s low high = keys_between nat_cmp (Included low) (Included high) s

-- a code of the set that lies between the two and passes the test
pub record IsListed (s : BTreeSet ℕ) (low high : ℕ) (test : ℕ → Bool) : Type 0 where
  pub code : ℕ
  pub has : contains nat_cmp s code ≡ true
  pub from : low ≤ code
  pub to : code ≤ high
  pub passes : test code ≡ true

-- a code between the two passes exactly where a member of the list does, if what passes is in the list, and each member that does has its code
pub searched_codes : {A : Type 0} (s : BTreeSet ℕ) (low high : ℕ) (test : ℕ → Bool) (p : A → Bool) (xs : List A) → ((code : ℕ) → test code ≡ true → list_any p xs ≡ true)
    → ((place : ℕ) (one : A) → slice_get xs place ≡ Some one → p one ≡ true → place < length xs → IsListed s low high test)
    → list_any test (keys_between nat_cmp (Included low) (Included high) s) ≡ list_any p xs
searched_codes {A} s low high test p xs sound complete = same_bool _ _ there listed
  where
    there : list_any test (run s low high) ≡ true → list_any p xs ≡ true
    there h = let m = Any-from_list_any test (run s low high) h in sound m.1 m.4

    by_code : IsListed s low high test → list_any test (run s low high) ≡ true
    by_code l =
        let from = l.from in
        let to = l.to in
        let inside : list_any (λ x. is_eq (nat_cmp l.code x)) (run s low high) ≡ true =
        any-filter_same (λ x. is_eq (nat_cmp l.code x)) (range_contains nat_cmp (Included low) (Included high)) true
        (λ x is. let same = at_code l.code x is in in_range low high x (omega (arith, same, from)) (omega (arith, same, to))) s.keys ∙ l.has in
        let m = Any-from_list_any (λ x. is_eq (nat_cmp l.code x)) (run s low high) inside in
        list_any_at test (run s low high) m.0 m.1 m.2 (ap test (m.3 ∙ at_code l.code m.1 m.4) ∙ l.passes)

    listed : list_any p xs ≡ true → list_any test (run s low high) ≡ true
    listed h = let m = Any-from_list_any p xs h in by_code (complete m.0 m.1 (slice_get-get_or xs m.0 m.1 m.2 ∙ ap Some m.3) m.4 m.2)
