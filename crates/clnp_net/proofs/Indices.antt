-- Each unit afloat is found through the index, and stays in it.
use Rattle.std.proofs.Common.{◌≡◌, ◌≢◌, ◌∙◌, ℕ, zero, suc, ◌+◌, ◌*◌, ◌-◌, ◌%◌, ◌<◌, ◌≤◌, Bool, true, false, List, [], ◌∷◌, ◌++◌, length, slice_get, Option, Some, None, refl, sym, ap, subst, arith}
use Rattle.std.specs.Prelude.{nat_eq, nat_le, cond, not, drop, take}
use Rattle.std.specs.BTreeSet.{BTreeSet, IsUnchanged, Updates, UpdatesBy, contains, keys_between}
use Rattle.std.specs.Cmp.Lexicographic.{pointwise}
use Rattle.std.specs.List.{All, filter, list_any}
use Rattle.std.specs.Ordering.{nat_cmp, is_eq}
use Rattle.std.specs.declared.ops.Bound.TheVariants.{Included}
use Rattle.std.proofs.lemmas.Bool.{false_from_ne_true}
use Rattle.std.proofs.lemmas.Bool.Decides.{nat_tests}
use Rattle.std.proofs.lemmas.List.{length-take-le}
use Rattle.std.proofs.lemmas.Option.{slice_get_within}
use Rattle.std.proofs.lemmas.Map.Keys.{any_passes_from_place}
use Rattle.osi_base.specs.declared.unit.Unit.{Unit as CarriedUnit}
use Rattle.osi_base.specs.Floated.{is_unit_of, is_young, IsOrdered}
use Rattle.osi_base.proofs.Entries.{is_unit}
use Rattle.osi_base.proofs.Searches.{at_code, searched_codes}
use Rattle.osi_base.proofs.Young.{first_old, floated_last, young_front}
use Rattle.clnp_system.proofs.Passing.{take_snoc}
use Rattle.clnp_net.specs.steps.Indexed.{AreIndexed, IsIndexed, code_of, is_front_older, is_there, key_of, unit_at}

pub indexed_more : (had has : ℕ → Bool) (number : ℕ) (entries : List (ℕ × CarriedUnit (List ℕ))) → ((code : ℕ) → had code ≡ true → has code ≡ true) → AreIndexed had number entries → AreIndexed has number entries
indexed_more had has number [] more h = tt
indexed_more had has number (e ∷ entries) more h = (more _ h.0, indexed_more had has (number + 1) entries more h.1)

code_same : (has : ℕ → Bool) (key one other : ℕ) → one % 4294967296 ≡ other % 4294967296 → has (code_of key one) ≡ true → has (code_of key other) ≡ true
code_same has key one other same h = subst (λ (n : ℕ). has (key * 4294967296 + n) ≡ true) same h

-- by numbers that are the same
pub indexed_from : (has : ℕ → Bool) (one other : ℕ) (entries : List (ℕ × CarriedUnit (List ℕ))) → one % 4294967296 ≡ other % 4294967296 → AreIndexed has one entries → AreIndexed has other entries
indexed_from has one other [] same h = tt
indexed_from has one other (e ∷ entries) same h =
    (code_same has (key_of e.1) one other same h.0, indexed_from has (one + 1) (other + 1) entries (omega (arith, same)) h.1)

pub indexed_last : (has : ℕ → Bool) (number : ℕ) (entries : List (ℕ × CarriedUnit (List ℕ))) (last : ℕ × CarriedUnit (List ℕ)) → AreIndexed has number entries → has (code_of (key_of last.1) (number + length entries)) ≡ true
    → AreIndexed has number (entries ++ last ∷ [])
indexed_last has number [] last h k = (code_same has (key_of last.1) (number + 0) number (omega arith) k, tt)
indexed_last has number (e ∷ entries) last h k =
    (h.0, indexed_last has (number + 1) entries last h.1 (code_same has (key_of last.1) (number + length (e ∷ entries)) (number + 1 + length entries) (omega arith) k))

-- another code goes
kept : (had has : ℕ → Bool) (key number more : ℕ) (entries : List (ℕ × CarriedUnit (List ℕ))) → ((code : ℕ) → code ≢ code_of key number → had code ≡ true → has code ≡ true) → 0 < more → more + length entries ≤ 4294967296
    → AreIndexed had (number + more) entries → AreIndexed has (number + more) entries
kept had has key number more [] others far fits h = tt
kept had has key number more (e ∷ entries) others far fits h = (
  others _ (λ same. apart (key_of e.1) same) h.0,
  indexed_from has (number + (more + 1)) (number + more + 1) entries (ap (λ (n : ℕ). n % 4294967296) same_sum)
      (kept had has key number (more + 1) entries others (omega arith) (omega (arith, fits))
      (indexed_from had (number + more + 1) (number + (more + 1)) entries (ap (λ (n : ℕ). n % 4294967296) (sym same_sum)) h.1)),
)
  where
    same_sum : number + (more + 1) ≡ number + more + 1
    same_sum = omega arith

    apart : (k : ℕ) → code_of k (number + more) ≡ code_of key number → ⊥
    apart k same = omega (arith, same, far, fits)

pub indexed_rest : (had has : ℕ → Bool) (number next : ℕ) (e : ℕ × CarriedUnit (List ℕ)) (entries : List (ℕ × CarriedUnit (List ℕ))) → ((code : ℕ) → code ≢ code_of (key_of e.1) number → had code ≡ true → has code ≡ true)
    → length entries < 4294967296 → next ≡ (number + 1) % 4294967296 → AreIndexed had number (e ∷ entries) → AreIndexed has next entries
indexed_rest had has number next e entries others fits is h =
    indexed_from has (number + 1) next entries (omega (arith, is)) (kept had has (key_of e.1) number 1 entries others (omega arith) (omega (arith, fits)) h.1)

-- what stands at a place has its code
found_at : (has : ℕ → Bool) (number place : ℕ) (entries : List (ℕ × CarriedUnit (List ℕ))) (e : ℕ × CarriedUnit (List ℕ)) → AreIndexed has number entries → slice_get entries place ≡ Some e → has (code_of (key_of e.1) (number + place)) ≡ true
found_at has number place [] e h at = absurd cc
found_at has number zero (x ∷ entries) e h at =
    subst (λ (u : ℕ × CarriedUnit (List ℕ)). has (code_of (key_of u.1) (number + 0)) ≡ true) (some_same x e at) (code_same has (key_of x.1) number (number + 0) (omega arith) h.0)
  where
    some_same : (x y : ℕ × CarriedUnit (List ℕ)) → Some x ≡ Some y → x ≡ y
    some_same x y same = cc same
found_at has number (suc place) (x ∷ entries) e h at =
    code_same has (key_of e.1) (number + 1 + place) (number + suc place) (omega arith) (found_at has (number + 1) place entries e h.1 at)

-- ---- the search

-- equal units have one key
same_key : (unit : CarriedUnit (List ℕ)) (e : ℕ × CarriedUnit (List ℕ)) → is_unit_of (pointwise nat_eq) unit e ≡ true → key_of e.1 ≡ key_of unit
same_key unit e h = ap key_of (is_unit unit e h)

back : (key first place : ℕ) → first < 4294967296 → place < 4294967296 → ((key * 4294967296 + (first + place) % 4294967296) % 4294967296 + (4294967296 - first)) % 4294967296 ≡ place
back key first place fits low = omega (arith, fits, low)

pub searched : (s : BTreeSet ℕ) (first : ℕ) (entries : List (ℕ × CarriedUnit (List ℕ))) (unit : CarriedUnit (List ℕ)) → first < 4294967296 → length entries < 4294967296 → AreIndexed (contains nat_cmp s) first entries
    → list_any (unit_at entries first unit) (keys_between nat_cmp (Included (key_of unit * 4294967296)) (Included (key_of unit * 4294967296 + 4294967295)) s) ≡ list_any (is_unit_of (pointwise nat_eq) unit) entries
searched s first entries unit low few h =
    searched_codes s (key_of unit * 4294967296) (key_of unit * 4294967296 + 4294967295) (unit_at entries first unit) (is_unit_of (pointwise nat_eq) unit) entries
    (λ code k. there_any _ (slice_get entries ((code % 4294967296 + (4294967296 - first)) % 4294967296)) refl k)
    (λ place one at passes within. record {
      code = code_of (key_of unit) (first + place);
      has = subst (λ (n : ℕ). contains nat_cmp s (code_of n (first + place)) ≡ true) (same_key unit one passes) (found_at (contains nat_cmp s) first place entries one h at);
      from = omega arith;
      to = omega arith;
      passes = ap (λ (n : ℕ). is_there unit (slice_get entries n)) (back (key_of unit) first place low (omega (arith, within, few))) ∙ ap (is_there unit) at ∙ passes;
    })
  where
    there_any : (place : ℕ) (there : Option (ℕ × CarriedUnit (List ℕ))) → slice_get entries place ≡ there → is_there unit there ≡ true → list_any (is_unit_of (pointwise nat_eq) unit) entries ≡ true
    there_any place None is k = absurd cc
    there_any place (Some e) is k = any_passes_from_place (is_unit_of (pointwise nat_eq) unit) entries place e is k

-- ---- the whole

-- the oldest goes
pub indexed_popped : (limit : ℕ) (on : Bool) (first next code number : ℕ) (s n : BTreeSet ℕ) (entries rest : List (ℕ × CarriedUnit (List ℕ))) (e : ℕ × CarriedUnit (List ℕ)) → IsIndexed limit on (contains nat_cmp s) first entries
    → entries ≡ e ∷ rest → code ≡ code_of (key_of e.1) number → number ≡ first → (on ≡ true → UpdatesBy nat_cmp (nat_cmp code) s n false) → next ≡ (first + 1) % 4294967296 → IsIndexed limit on (contains nat_cmp n) next rest
indexed_popped limit on first next code number s n entries rest e h is code_is number_is updates next_is =
    let here : IsIndexed limit on (contains nat_cmp s) first (e ∷ rest) = subst (IsIndexed limit on (contains nat_cmp s) first) is h in
    let within = here.floated.within in
    let most = here.most in
    let same : code ≡ code_of (key_of e.1) first = code_is ∙ ap (code_of (key_of e.1)) number_is in
    record {
      floated = record { within = omega (arith, within); ordered = here.floated.ordered.1 };
      indexed = λ is_on. indexed_rest (contains nat_cmp s) (contains nat_cmp n) first next e rest
          (λ q other was. (updates is_on).2 q (false_from_ne_true (is_eq (nat_cmp code q)) (λ at. other (at_code code q at ∙ same))) ∙ was) (omega (arith, within, most)) next_is (here.indexed is_on);
      most = most;
      low = omega (arith, next_is);
    }

still_there : (s n : BTreeSet ℕ) (code : ℕ) → Updates nat_cmp s n code true → (q : ℕ) → contains nat_cmp s q ≡ true → contains nat_cmp n q ≡ true
still_there s n code updates q was = updates.0 q ∙ by_test (is_eq (nat_cmp code q)) (contains nat_cmp s q) was
  where
    by_test : (b c : Bool) → c ≡ true → cond b true c ≡ true
    by_test true c k = refl
    by_test false c k = k

-- one more
pub indexed_grown : (limit : ℕ) (on : Bool) (first code number count : ℕ) (s n : BTreeSet ℕ) (entries grown : List (ℕ × CarriedUnit (List ℕ))) (e : ℕ × CarriedUnit (List ℕ)) → IsIndexed limit on (contains nat_cmp s) first entries
    → length entries < limit → All (λ (entry : ℕ × CarriedUnit (List ℕ)). entry.0 ≤ e.0) entries → code ≡ code_of (key_of e.1) (number + count) → number ≡ first → count ≡ length entries → (on ≡ true → Updates nat_cmp s n code true)
    → grown ≡ entries ++ e ∷ [] → IsIndexed limit on (contains nat_cmp n) first grown
indexed_grown limit on first code number count s n entries grown e h room order code_is number_is count_is updates is =
    let same : code ≡ code_of (key_of e.1) (first + length entries) = code_is ∙ (λ i. code_of (key_of e.1) (number_is i + count_is i)) in
    subst (IsIndexed limit on (contains nat_cmp n) first) (sym is) (record {
      floated = floated_last limit entries e h.floated room order;
      indexed = λ is_on. indexed_last (contains nat_cmp n) first entries e (indexed_more (contains nat_cmp s) (contains nat_cmp n) first entries (still_there s n code (updates is_on)) (h.indexed is_on))
          (subst (λ (q : ℕ). contains nat_cmp n q ≡ true) same (updates is_on).1);
      most = h.most;
      low = h.low;
    })

-- a code more than there are units
pub indexed_kept : (limit : ℕ) (on : Bool) (first code : ℕ) (s n : BTreeSet ℕ) (entries same : List (ℕ × CarriedUnit (List ℕ))) → IsIndexed limit on (contains nat_cmp s) first entries → (on ≡ true → Updates nat_cmp s n code true) → same ≡ entries
    → IsIndexed limit on (contains nat_cmp n) first same
indexed_kept limit on first code s n entries same h updates is = subst (IsIndexed limit on (contains nat_cmp n) first) (sym is) (record {
  floated = h.floated;
  indexed = λ is_on. indexed_more (contains nat_cmp s) (contains nat_cmp n) first entries (still_there s n code (updates is_on)) (h.indexed is_on);
  most = h.most;
  low = h.low;
})

pub indexed_same : (limit : ℕ) (on : Bool) (first : ℕ) (s n : BTreeSet ℕ) (entries : List (ℕ × CarriedUnit (List ℕ))) → IsIndexed limit on (contains nat_cmp s) first entries → IsUnchanged s n → IsIndexed limit on (contains nat_cmp n) first entries
indexed_same limit on first s n entries h unchanged = record {
  floated = h.floated;
  indexed = λ is_on. indexed_more (contains nat_cmp s) (contains nat_cmp n) first entries (λ q was. ap (list_any (λ x. is_eq (nat_cmp q x))) unchanged ∙ was) (h.indexed is_on);
  most = h.most;
  low = h.low;
}

pub found : (limit : ℕ) (on : Bool) (first : ℕ) (s : BTreeSet ℕ) (entries : List (ℕ × CarriedUnit (List ℕ))) (unit : CarriedUnit (List ℕ)) → on ≡ true → IsIndexed limit on (contains nat_cmp s) first entries
    → list_any (unit_at entries first unit) (keys_between nat_cmp (Included (key_of unit * 4294967296)) (Included (key_of unit * 4294967296 + 4294967295)) s) ≡ list_any (is_unit_of (pointwise nat_eq) unit) entries
found limit on first s entries unit is_on h = let within = h.floated.within in let most = h.most in searched s first entries unit h.low (omega (arith, within, most)) (h.indexed is_on)

-- the index begins
pub indexed_on : (limit : ℕ) (had has : ℕ → Bool) (first : ℕ) (entries : List (ℕ × CarriedUnit (List ℕ))) → IsIndexed limit false had first entries → AreIndexed has first entries → IsIndexed limit true has first entries
indexed_on limit had has first entries h are = record { floated = h.floated; indexed = λ is_on. are; most = h.most; low = h.low }

-- and where it does not, it may hold anything
pub indexed_off : (limit : ℕ) (had has : ℕ → Bool) (first : ℕ) (entries : List (ℕ × CarriedUnit (List ℕ))) → IsIndexed limit false had first entries → IsIndexed limit false has first entries
indexed_off limit had has first entries h = record { floated = h.floated; indexed = λ is_on. absurd (cc is_on); most = h.most; low = h.low }

pub indexed_few : (limit : ℕ) (on : Bool) (has : ℕ → Bool) (first : ℕ) (entries : List (ℕ × CarriedUnit (List ℕ))) → IsIndexed limit on has first entries → length entries < 4294967296
indexed_few limit on has first entries h = let within = h.floated.within in let most = h.most in omega (arith, within, most)

-- one more of the units that there are
pub indexed_next : (s n : BTreeSet ℕ) (first place code : ℕ) (entries : List (ℕ × CarriedUnit (List ℕ))) (e : ℕ × CarriedUnit (List ℕ)) → slice_get entries place ≡ Some e → code ≡ code_of (key_of e.1) (first + place) → Updates nat_cmp s n code true
    → AreIndexed (contains nat_cmp s) first (take place entries) → AreIndexed (contains nat_cmp n) first (take (place + 1) entries)
indexed_next s n first place code entries e at is updates h =
    let grown : take (place + 1) entries ≡ take place entries ++ e ∷ [] = take_snoc entries place e at in
    let within = slice_get_within entries place e at in
    let count : length (take place entries) ≡ place = length-take-le place entries (omega (arith, within)) in
    subst (AreIndexed (contains nat_cmp n) first) (sym grown)
    (indexed_last (contains nat_cmp n) first (take place entries) e (indexed_more (contains nat_cmp s) (contains nat_cmp n) first (take place entries) (still_there s n code updates) h)
    (subst (λ (q : ℕ). contains nat_cmp n q ≡ true) (is ∙ ap (λ (k : ℕ). code_of (key_of e.1) (first + k)) (sym count)) updates.1))

-- where the oldest is young all are, and where it is not it is none of the young
pub young_all : (now age : ℕ) (entries : List (ℕ × CarriedUnit (List ℕ))) → is_front_older now age entries ≡ false → IsOrdered entries → entries ≡ filter (is_young now age) entries
young_all now age [] h k = refl
young_all now age (e ∷ entries) h k = sym (young_front now age (e ∷ entries) e refl (young (e.0 + age) h) k)
  where
    young : (last : ℕ) → not (nat_le now last) ≡ false → now ≤ last
    young last is = grind (arith, nat_tests, is)

pub old_first : (now age : ℕ) (entries rest : List (ℕ × CarriedUnit (List ℕ))) → is_front_older now age entries ≡ true → rest ≡ drop 1 entries → (filter (is_young now age) rest ≡ filter (is_young now age) entries) × (length rest < length entries)
old_first now age [] rest h is = absurd cc
old_first now age (e ∷ entries) rest h is =
    (ap (filter (is_young now age)) is ∙ sym (first_old now age e entries (older (e.0 + age) h)), subst (λ (l : List (ℕ × CarriedUnit (List ℕ))). length l < length (e ∷ entries)) (sym is) (omega arith))
  where
    older : (last : ℕ) → not (nat_le now last) ≡ true → last < now
    older last is = grind (arith, nat_tests, is)
