-- Old units go from the front of a list that is in the order of its ticks: where the first is young, all are.
-- So the store keeps its order and its bound, with one more unit and with fewer.
use Rattle.std.proofs.Common.{◌≡◌, ℕ, ◌+◌, ◌<◌, ◌≤◌, List, [], ◌∷◌, ◌++◌, length, refl, ◌∙◌, ap, subst, arith, get_or}
use Rattle.std.specs.Prelude.{nat_le, filter, Bool, true, false, not, cond}
use Rattle.std.specs.List.{All, AllByRecursion}
use Rattle.std.proofs.lemmas.Bool.Decides.{nat_tests}
use Rattle.std.proofs.lemmas.List.{length-append}
use Rattle.std.proofs.lemmas.List.Elements.{All-head, All-tail}
use Rattle.std.proofs.lemmas.List.Filters.{length-filter_both}
use Rattle.osi_base.specs.declared.unit.Unit.{Unit as CarriedUnit}
use Rattle.osi_base.specs.Floated.{is_young, IsFloated, IsOrdered}

young : (x y : ℕ) → x ≤ y → nat_le x y ≡ true
young x y h = grind (arith, nat_tests)

old : (x y : ℕ) → y < x → nat_le x y ≡ false
old x y h = grind (arith, nat_tests)

all_young : {A : Type 0} (now age first : ℕ) (entries : List (ℕ × CarriedUnit A)) → now ≤ first + age → AllByRecursion (λ later. first ≤ later.0) entries → filter (is_young now age) entries ≡ entries
all_young now age first [] h k = refl
all_young {A} now age first (e ∷ entries) h k =
    ap (λ (b : Bool). cond b (e ∷ filter (is_young now age) entries) (filter (is_young now age) entries)) (young now (e.0 + age) (omega (arith, k.0)))
    ∙ ap (λ (xs : List (ℕ × CarriedUnit A)). e ∷ xs) (all_young now age first entries h k.1)

first_young : {A : Type 0} (now age : ℕ) (front : ℕ × CarriedUnit A) (entries : List (ℕ × CarriedUnit A)) → now ≤ front.0 + age → IsOrdered (front ∷ entries) → filter (is_young now age) (front ∷ entries) ≡ front ∷ entries
first_young {A} now age front entries h k =
    ap (λ (b : Bool). cond b (front ∷ filter (is_young now age) entries) (filter (is_young now age) entries)) (young now (front.0 + age) h)
    ∙ ap (λ (xs : List (ℕ × CarriedUnit A)). front ∷ xs) (all_young now age front.0 entries h k.0)

-- an old first one is not among the young ones
pub first_old : {A : Type 0} (now age : ℕ) (front : ℕ × CarriedUnit A) (entries : List (ℕ × CarriedUnit A)) → front.0 + age < now → filter (is_young now age) (front ∷ entries) ≡ filter (is_young now age) entries
first_old {A} now age front entries h =
    ap (λ (b : Bool). cond b (front ∷ filter (is_young now age) entries) (filter (is_young now age) entries)) (old now (front.0 + age) h)

-- where the first is young, all are
pub young_front : {A : Type 0} (now age : ℕ) (entries : List (ℕ × CarriedUnit A)) (front : ℕ × CarriedUnit A) → front ≡ get_or entries 0 front → now ≤ front.0 + age → IsOrdered entries → filter (is_young now age) entries ≡ entries
young_front now age [] front is h k = refl
young_front {A} now age (e ∷ entries) front is h k = first_young now age e entries (subst (λ (x : ℕ × CarriedUnit A). now ≤ x.0 + age) is h) k

-- one more element of which it holds
pub all_last : {A : Type 0} (P : A → Type 0) (xs : List A) (last : A) → AllByRecursion P xs → P last → AllByRecursion P (xs ++ last ∷ [])
all_last P [] last h k = (k, tt)
all_last P (x ∷ xs) last h k = (h.0, all_last P xs last h.1 k)

ordered_last : {A : Type 0} (entries : List (ℕ × CarriedUnit A)) (last : ℕ × CarriedUnit A) → IsOrdered entries → All (λ (entry : ℕ × CarriedUnit A). entry.0 ≤ last.0) entries → IsOrdered (entries ++ last ∷ [])
ordered_last [] last h k = (tt, tt)
ordered_last {A} (e ∷ entries) last h k = (
  all_last (λ (later : ℕ × CarriedUnit A). e.0 ≤ later.0) entries last h.0 (All-head (λ (entry : ℕ × CarriedUnit A). entry.0 ≤ last.0) e entries k),
  ordered_last entries last h.1 (All-tail (λ (entry : ℕ × CarriedUnit A). entry.0 ≤ last.0) e entries k),
)

-- one more that is not older than the others, where there is room
pub floated_last : {A : Type 0} (limit : ℕ) (entries : List (ℕ × CarriedUnit A)) (last : ℕ × CarriedUnit A) → IsFloated (record { limit = limit; entries = entries }) → length entries < limit → All (λ (entry : ℕ × CarriedUnit A). entry.0 ≤ last.0) entries
    → IsFloated (record { limit = limit; entries = entries ++ last ∷ [] })
floated_last limit entries last h room k = record {
  within = omega (arith, length-append entries (last ∷ []));
  ordered = ordered_last entries last h.ordered k;
}

-- the young alone
pub floated_young : {A : Type 0} (limit now age : ℕ) (entries rest : List (ℕ × CarriedUnit A)) → IsFloated (record { limit = limit; entries = entries }) → rest ≡ filter (is_young now age) entries → IsOrdered rest
    → IsFloated (record { limit = limit; entries = rest })
floated_young limit now age entries rest h is k = record {
  within = omega (arith, ap length is, length-filter_both (is_young now age) (λ entry. not (is_young now age entry)) (λ entry. refl) entries, h.within);
  ordered = k;
}
