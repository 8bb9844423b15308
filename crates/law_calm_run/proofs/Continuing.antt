-- Associations that go on: no association is taken away, each keeps its place in the list and its systems, and its ends are those that were there, by
-- their references, or fewer. So numbers and partners stay.
use Rattle.std.proofs.Common.{◌≡◌, ◌⊎◌, ◌<◌, ℕ, zero, suc, ◌==◌, Bool, true, false, if◌then◌else◌, List, [], ◌∷◌, ◌++◌, length, map, slice_get, slice_set, Option, Some, None, refl, sym, ◌∙◌, ap, subst, inl, inr, arith}
use Rattle.std.proofs.lemmas.Bool.{cases_eq}
use Rattle.tp4_conn.specs.End.{End}
use Rattle.tp4_world.specs.World.{latest}
use Rattle.tp4_world.specs.declared.place.EndAt.{EndAt}
use Rattle.law_tp4_associations.specs.Association.{Association, cleared, party, system_of, with_party, without}
use Rattle.law_tp4_associations.proofs.Places.{get_same}
pub use Rattle.law_tp4_associations.proofs.Places.{get_map as map_get, get_other as get_set_other, map_count as length_map, set_count as length_set}
pub use Rattle.law_tp4_lawful.proofs.WorldPlaces.{none_some, some_same}
use Rattle.law_calm_run.proofs.Story.{AreNumbered, Numbers}

-- ---- lists

pub get_set_same : {A : Type 0} (xs : List A) (k : ℕ) (x y : A) → slice_get xs k ≡ Some y → slice_get (slice_set xs k x) k ≡ Some x
get_set_same xs k x y is = get_same xs k y x is

pub map_got : {A B : Type 0} (f : A → B) (xs : List A) (k : ℕ) (y : B) → slice_get (map f xs) k ≡ Some y → (x : A) × (slice_get xs k ≡ Some x) × (y ≡ f x)
map_got f [] k y is = absurd (none_some y is)
map_got f (x ∷ xs) zero y is = (x, refl, sym (some_same (f x) y is))
map_got f (x ∷ xs) (suc k) y is = map_got f xs k y is

pub get_behind : {A : Type 0} (xs : List A) (y : A) (k : ℕ) (x : A) → slice_get (xs ++ y ∷ []) k ≡ Some x → (slice_get xs k ≡ Some x) ⊎ ((k ≡ length xs) × (x ≡ y))
get_behind [] y zero x is = inr (refl, sym (some_same y x is))
get_behind [] y (suc k) x is = absurd (none_some x is)
get_behind (z ∷ xs) y zero x is = inl is
get_behind (z ∷ xs) y (suc k) x is = elim (get_behind xs y k x is) [
  | inl front ↦ inl front
  | inr last ↦ inr (ap suc last.0, last.1)
]

-- ---- associations that go on

pub record IsContinued (all : List Association) (j : ℕ) (b : Association) : Type 0 where
  pub a : Association
  pub is : slice_get all j ≡ Some a
  pub from : b.from ≡ a.from
  pub to : b.to ≡ a.to
  pub parties : (by : Bool) (end : End) → party b by ≡ Some end → (was : End) × (party a by ≡ Some was) × (end.base.own ≡ was.base.own)

pub record AllContinue (old new : List Association) : Type 0 where
  pub length_is : length new ≡ length old
  pub each : (j : ℕ) (b : Association) → slice_get new j ≡ Some b → IsContinued old j b

pub system_same : (a b : Association) → b.from ≡ a.from → b.to ≡ a.to → (by : Bool) → system_of b by ≡ system_of a by
system_same a b from to true = ap (λ (e : EndAt). e.system) from
system_same a b from to false = to

as_it_was : (all : List Association) (j : ℕ) (b : Association) → slice_get all j ≡ Some b → IsContinued all j b
as_it_was all j b is = record { a = b; is = is; from = refl; to = refl; parties = λ by end here. (end, here, refl) }

-- an end of one of them became another, or was taken out
pub set_continues : (all : List Association) (k : ℕ) (a b : Association) → slice_get all k ≡ Some a → b.from ≡ a.from → b.to ≡ a.to
    → ((by : Bool) (end : End) → party b by ≡ Some end → (was : End) × (party a by ≡ Some was) × (end.base.own ≡ was.base.own)) → AllContinue all (slice_set all k b)
set_continues all k a b is from to parties = record {
  length_is = length_set all k b;
  each = λ j c at. elim (cases_eq j k) [
    | inl same ↦
        let c_is : c ≡ b = sym (some_same b c (sym (get_set_same all k b a is) ∙ ap (slice_get (slice_set all k b)) (sym same) ∙ at)) in
        subst (IsContinued all j) (sym c_is) (record { a = a; is = ap (slice_get all) same ∙ is; from = from; to = to; parties = parties })
    | inr apart ↦ as_it_was all j c (sym (get_set_other all k j b apart) ∙ at)
  ];
}

-- an end that stands is another one now, with the same reference
pub party_continues : (a : Association) (by : Bool) (was : End) (place : Option End) → party a by ≡ Some was → ((end : End) → place ≡ Some end → end.base.own ≡ was.base.own)
    → (other : Bool) (end : End) → party (with_party a by place) other ≡ Some end → (before : End) × (party a other ≡ Some before) × (end.base.own ≡ before.base.own)
party_continues a true was place is own true end at = (was, is, own end at)
party_continues a true was place is own false end at = (end, at, refl)
party_continues a false was place is own true end at = (end, at, refl)
party_continues a false was place is own false end at = (was, is, own end at)

pub with_from : (a : Association) (by : Bool) (place : Option End) → (with_party a by place).from ≡ a.from
with_from a true place = refl
with_from a false place = refl

pub with_to : (a : Association) (by : Bool) (place : Option End) → (with_party a by place).to ≡ a.to
with_to a true place = refl
with_to a false place = refl

-- the party of a cleared association was there, and not at the reference that is given
pub record IsLeft (system reference : ℕ) (a : Association) (by : Bool) (end : End) : Type 0 where
  pub was : party a by ≡ Some end
  pub elsewhere : system_of a by ≡ system → end.base.own ≡ reference → ⊥

left_of : (here at system reference : ℕ) (o : Option End) (end : End) → (if here == system then without reference o else o) ≡ Some end → (o ≡ Some end) × (here ≡ system → end.base.own ≡ reference → ⊥)
left_of here at system reference o end is = by_here (here == system) refl o is
  where
    by_here : (b : Bool) → (here == system) ≡ b → (o : Option End) → (if b then without reference o else o) ≡ Some end → (o ≡ Some end) × (here ≡ system → end.base.own ≡ reference → ⊥)
    by_here false apart o is = (is, λ same own. absurd (differ apart same))
      where
        differ : (here == system) ≡ false → here ≡ system → ⊥
        differ p q = grind arith
    by_here true same None is = absurd (none_some end is)
    by_here true same (Some x) is = by_own (x.base.own == reference) refl is
      where
        by_own : (b : Bool) → (x.base.own == reference) ≡ b → (if b then None else Some x) ≡ Some end → (Some x ≡ Some end) × (here ≡ system → end.base.own ≡ reference → ⊥)
        by_own true e is = absurd (none_some end is)
        by_own false e is = (is, λ s own. differ e (ap (λ (y : End). y.base.own) (some_same x end is) ∙ own))
          where
            differ : (x.base.own == reference) ≡ false → x.base.own ≡ reference → ⊥
            differ p q = grind arith

pub left_party : (system reference : ℕ) (a : Association) (by : Bool) (end : End) → party (cleared system reference a) by ≡ Some end → IsLeft system reference a by end
left_party system reference a true end is = let h = left_of a.from.system 0 system reference a.calling end is in record { was = h.0; elsewhere = h.1 }
left_party system reference a false end is = let h = left_of a.to 0 system reference a.called end is in record { was = h.0; elsewhere = h.1 }

pub cleared_continues : (all : List Association) (system reference : ℕ) → AllContinue all (map (cleared system reference) all)
cleared_continues all system reference = record {
  length_is = length_map (cleared system reference) all;
  each = λ j b at.
      let h = map_got (cleared system reference) all j b at in
      subst (IsContinued all j) (sym h.2)
      (record { a = h.0; is = h.1; from = refl; to = refl; parties = λ by end here. (end, (left_party system reference h.0 by end here).was, refl) });
}

-- ---- numbers

pub numbered_on : (ends : List EndAt) (old new : List Association) (number : Numbers) → AreNumbered ends old number → AllContinue old new → AreNumbered ends new number
numbered_on ends old new number n c = record {
  caller = λ k low. n.caller k (subst (λ (l : ℕ). k < l) c.length_is low);
  party_is = λ k b by end at is.
      let h = c.each k b at in
      let p = h.parties by end is in
      n.party_is k h.a by p.0 h.is p.1
      ∙ ap (λ (s : ℕ). Some (latest ends s p.0.base.own)) (sym (system_same h.a b h.from h.to by)) ∙ ap (λ (r : ℕ). Some (latest ends (system_of b by) r)) (sym p.2);
  low = λ k by m low is. n.low k by m (subst (λ (l : ℕ). k < l) c.length_is low) is;
  one = λ k j by other m low below is same. n.one k j by other m (subst (λ (l : ℕ). k < l) c.length_is low) (subst (λ (l : ℕ). j < l) c.length_is below) is same;
}
