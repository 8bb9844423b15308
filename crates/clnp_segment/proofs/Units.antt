-- What is held of a key stays of its unit: a segment of the key adds octets of the unit, and one of another key leaves it as it is.
use Rattle.std.proofs.Common.{◌≡◌, ◌==◌, ◌&&◌, ℕ, zero, suc, ◌+◌, ◌-◌, Bool, true, false, List, [], ◌∷◌, ◌++◌, nat_eq, replicate, slice_get, Option, Some, None, refl, sym, ◌∙◌, ap, subst, arith}
use Rattle.std.specs.List.{AllByRecursion}
use Rattle.std.specs.Cmp.Lexicographic.{pointwise, same_text}
use Rattle.std.proofs.lemmas.Bool.{and_parts, eqb-true}
use Rattle.std.proofs.lemmas.List.{length-replicate}
use Rattle.osi_base.proofs.Members.{all_back, all_both, all_front}
use Rattle.clnp_segment.specs.Joining.{Held, IsOf, IsSegmentOf, Segment, nothing_of}
use Rattle.clnp_segment.specs.Store.{At, Coming, Holding, Key, Partial, TakesAt, found_or_nothing, has_key, key_of, partial_with}
use Rattle.clnp_segment.specs.Units.{AnswersOnly, Came, IsOnly, TakesAll}
use Rattle.clnp_segment.specs.Laws.{JoinsAll}
use Rattle.clnp_segment.specs.declared.store.Joined.{Joined}
use Rattle.clnp_segment.specs.declared.store.Joined.TheVariants as joined
use Rattle.clnp_segment.proofs.Joins.{units_kept, units_no_clash, units_whole}

-- ---- keys
pub same_numbers : (xs ys : List ℕ) → pointwise nat_eq xs ys ≡ true → xs ≡ ys
same_numbers xs ys h = same_text xs ys (sym h)

pub key_there : (key : Key) (unit : Partial) → has_key key unit ≡ true → key_of unit ≡ key
key_there key unit h =
    let all : ((pointwise nat_eq unit.source key.source && pointwise nat_eq unit.destination key.destination) ≡ true) × ((unit.id == key.id) ≡ true) = and_parts _ _ h in
    let two : (pointwise nat_eq unit.source key.source ≡ true) × (pointwise nat_eq unit.destination key.destination ≡ true) = and_parts _ _ all.0 in
    let id : unit.id ≡ key.id = eqb-true unit.id key.id all.1 in
    ap (λ (xs : List ℕ). let k : Key = record { source = xs; destination = unit.destination; id = unit.id } in k) (same_numbers unit.source key.source two.0)
    ∙ ap (λ (xs : List ℕ). let k : Key = record { source = key.source; destination = xs; id = unit.id } in k) (same_numbers unit.destination key.destination two.1)
    ∙ ap (λ (n : ℕ). let k : Key = record { source = key.source; destination = key.destination; id = n } in k) id

-- ---- nothing is of each unit
pub empty_place : (n p octet : ℕ) → slice_get (replicate {A = Option ℕ} n None) p ≡ Some (Some octet) → ⊥
empty_place zero p octet h = cc h
empty_place (suc n) zero octet h = cc h
empty_place (suc n) (suc p) octet h = empty_place n p octet h

pub nothing_is : (unit : List ℕ) (header : ℕ) (segment : Segment) → IsSegmentOf unit header segment → IsOf unit header (nothing_of segment)
nothing_is unit header segment h = record {
  header_is = h.header_is;
  total_is = h.total_is;
  positions = omega (arith, h.header_is, h.total_is, length-replicate {A = Option ℕ} (segment.total - segment.header) None);
  octets = λ position octet held. absurd (empty_place (segment.total - segment.header) position octet held);
}

-- ---- one segment
module _ (key : Key) (unit : List ℕ) (header : ℕ) where
  abbrev Only : Partial → Type 0
  Only partial = key_of partial ≡ key → IsOf unit header partial.held

  -- what is held about the place of the segment's unit
  pub record About (coming : Coming) (before : List Partial) (found : Option Partial) (rest : List Partial) : Type 0 where
    pub front : AllByRecursion Only before
    pub back : AllByRecursion Only rest
    pub old : coming.key ≡ key → IsOf unit header (found_or_nothing found coming.segment)
    pub key_is : (new : Held) (deadline : ℕ) → key_of (partial_with found coming new deadline) ≡ coming.key
    pub held_is : (new : Held) (deadline : ℕ) → (partial_with found coming new deadline).held ≡ new

  pub about : (coming : Coming) (held before : List Partial) (found : Option Partial) (rest : List Partial) → At coming.key held before found rest → AllByRecursion Only held
      → (coming.key ≡ key → IsSegmentOf unit header coming.segment) → About coming before found rest
  about coming held before found rest (At.There partial found_is held_is there none) all of =
      let parted : AllByRecursion Only (before ++ partial ∷ rest) = subst (AllByRecursion Only) held_is all in
      let back = all_back Only before (partial ∷ rest) parted in
      let same : key_of partial ≡ coming.key = key_there coming.key partial there in
      subst (λ (f : Option Partial). About coming before f rest) (sym found_is) (record {
        front = all_front Only before (partial ∷ rest) parted;
        back = back.1;
        old = λ e. back.0 (same ∙ e);
        key_is = λ new deadline. same;
        held_is = λ new deadline. refl;
      })
  about coming held before found rest (At.New found_is before_is rest_is none) all of =
      subst (λ (f : Option Partial). About coming before f rest) (sym found_is) (record {
        front = subst (AllByRecursion Only) (sym before_is) all;
        back = subst (AllByRecursion Only) (sym rest_is) tt;
        old = λ e. nothing_is unit header coming.segment (of e);
        key_is = λ new deadline. refl;
        held_is = λ new deadline. refl;
      })

  only_at : (store after : Holding) (before rest : List Partial) (clock : ℕ) → after ≡ record store { clock = clock; held = before ++ rest } → AllByRecursion Only before → AllByRecursion Only rest
      → AllByRecursion Only after.held
  only_at store after before rest clock is front back = subst (λ (h : Holding). AllByRecursion Only h.held) (sym is) (all_both Only before rest front back)

  pub one : (store : Holding) (now : ℕ) (coming : Coming) (before : List Partial) (found : Option Partial) (rest : List Partial) (answer : Joined) (after : Holding)
      → AllByRecursion Only store.held → About coming before found rest → (coming.key ≡ key → IsSegmentOf unit header coming.segment)
      → TakesAt store now coming before found rest answer after → (coming.key ≡ key → AnswersOnly unit answer) × AllByRecursion Only after.held
  one store now coming before found rest joined.Interference after all a of h =
      ((λ e. units_no_clash unit header (found_or_nothing found coming.segment) coming.segment (a.old e) (of e) h.0), only_at store after before rest now h.1 a.front a.back)
  one store now coming before found rest (joined.Whole octets) after all a of h = (
    (λ e. units_whole unit octets header h.0 (units_kept unit header (found_or_nothing found coming.segment) coming.segment h.0 (a.old e) (of e) h.1.1) h.3),
    only_at store after before rest now h.4 a.front a.back,
  )
  one store now coming before found rest joined.Full after all a of h =
      ((λ e. tt), subst (λ (s : Holding). AllByRecursion Only s.held) (sym h.4) all)
  one store now coming before found rest joined.Held after all a of h =
      let new = h.0 in
      let partial = partial_with found coming new (now + coming.left) in
      let only : Only partial = λ e.
      let same : coming.key ≡ key = sym (a.key_is new (now + coming.left)) ∙ e in
      subst (IsOf unit header) (sym (a.held_is new (now + coming.left)))
      (units_kept unit header (found_or_nothing found coming.segment) coming.segment new (a.old same) (of same) h.1.1) in
      ((λ e. tt), only_at store after before (partial ∷ rest) now h.4 a.front (only, a.back))

  all_joined : (store after : Holding) (list : List Came) → AllByRecursion Only store.held → AllByRecursion (IsOnly key unit header) list → TakesAll store list after
      → AllByRecursion (λ came. came.coming.key ≡ key → AnswersOnly unit came.answer) list × AllByRecursion Only after.held
  all_joined store after [] all of h = (tt, subst (λ (s : Holding). AllByRecursion Only s.held) (sym h) all)
  all_joined store after (came ∷ list) all of h =
      let t = h.1 in
      let first = one store came.now came.coming t.before t.found t.rest came.answer h.0 all (about came.coming store.held t.before t.found t.rest t.at all of.0) of.0 t.takes in
      let rest = all_joined h.0 after list first.1 of.1 h.2 in
      ((first.0, rest.0), rest.1)

pub joins_all : JoinsAll
joins_all key unit header store after list all of h = all_joined key unit header store after list all of h
