-- A set of texts is the list of its keys' octets, in ascending order.
use Rattle.std.proofs.Common.{◌≡◌, ℕ, List, [], ◌∷◌, map, refl, ap}
use Rattle.std.specs.Prelude.{◌||◌}
use Rattle.std.specs.List.{list_any}
use Rattle.std.specs.Ordering.{is_eq, nat_cmp, match_ordering}
use Rattle.std.specs.declared.cmp.Ordering.{Ordering}
use Rattle.std.specs.declared.cmp.Ordering.TheVariants.{Less, Equal, Greater}
use Rattle.std.specs.Cmp.Lexicographic.{slice_cmp}
use Rattle.std.specs.BTreeSet.{insert_key}
use Rattle.std.proofs.lemmas.Map.Text.{is_eq-slice_cmp}
use Rattle.script_lines.specs.Known.{is_among, with}

-- a key comes to its place among the octets
pub key_added : {K : Type 0} (f : K → List ℕ) (keys : List K) (key : K)
    → map f (insert_key (λ x y. slice_cmp nat_cmp (f x) (f y)) keys key) ≡ with (map f keys) (f key)
key_added f [] key = refl
key_added f (x ∷ xs) key = by (key_added f xs key) (slice_cmp nat_cmp (f key) (f x)) refl
  where
    by : map f (insert_key (λ x y. slice_cmp nat_cmp (f x) (f y)) xs key) ≡ with (map f xs) (f key) → (order : Ordering) → slice_cmp nat_cmp (f key) (f x) ≡ order
        → map f (match_ordering order (key ∷ x ∷ xs) (x ∷ xs) (x ∷ insert_key (λ x y. slice_cmp nat_cmp (f x) (f y)) xs key))
        ≡ match_ordering order (f key ∷ f x ∷ map f xs) (f x ∷ map f xs) (f x ∷ with (map f xs) (f key))
    by more Less is = refl
    by more Equal is = refl
    by more Greater is = ap (λ (others : List (List ℕ)). f x ∷ others) more

-- a key is there where its octets are
pub key_there : {K : Type 0} (f : K → List ℕ) (octets : List ℕ) (keys : List K)
    → list_any (λ key. is_eq (slice_cmp nat_cmp octets (f key))) keys ≡ is_among (map f keys) octets
key_there f octets [] = refl
key_there f octets (x ∷ xs) = λ i. is_eq-slice_cmp octets (f x) i || key_there f octets xs i
