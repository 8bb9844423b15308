-- Room for whole units: units with differing keys use differing shares, so what is held is at most all the shares, and the
-- store has at least these; so a segment that brings no more than its share is never Full.
use Rattle.std.proofs.Common.{◌≡◌, ◌≢◌, ℕ, suc, ◌+◌, ◌-◌, ◌≤◌, List, [], ◌∷◌, ◌++◌, length, is_some, Option, Some, None, refl, sym, ◌∙◌, ap, subst, arith, length-append, inl, inr}
use Rattle.std.specs.List.{AllByRecursion}
use Rattle.std.proofs.lemmas.List.{length-replicate}
use Rattle.std.proofs.lemmas.List.Sums.{count_by-le-length}
use Rattle.osi_base.proofs.Members.{all_back, all_both, all_front}
use Rattle.clnp_segment.specs.Joining.{Held, filled_places, nothing_of}
use Rattle.clnp_segment.specs.Store.{AreApart, At, Coming, HasNoRoom, Holding, Key, Partial, TakesAt, found_or_nothing, key_of, octets_held, partial_with}
use Rattle.clnp_segment.specs.Units.{Came, TakesAll}
use Rattle.clnp_segment.specs.Whole.{HasShare, Share, octets_of}
use Rattle.clnp_segment.specs.Laws.{NoneIsFull}
use Rattle.clnp_segment.specs.declared.store.Joined.{Joined}
use Rattle.clnp_segment.specs.declared.store.Joined.TheVariants as joined
use Rattle.clnp_segment.proofs.Slots.{none_filled}
use Rattle.clnp_segment.proofs.Storing.{held_both}
use Rattle.clnp_segment.proofs.Units.{key_there}
use Rattle.clnp_segment.proofs.Wholes.{Around, around, still_apart}

-- ---- shares
-- the shares without one that a key has
pub record Less (shares : List Share) (key : Key) (octets : ℕ) : Type 0 where
  pub less : List Share
  pub long : length shares ≡ suc (length less)
  pub sum : octets + octets_of less ≤ octets_of shares
  pub others : (other : Key) (count : ℕ) → other ≢ key → HasShare shares other count → HasShare less other count

less : (shares : List Share) (key : Key) (octets : ℕ) → HasShare shares key octets → Less shares key octets
less [] key octets h = absurd h
less (share ∷ shares) key octets (inl h) =
    record { less = shares; long = refl; sum = omega (arith, h.1); others = λ other count differ k. elim k [ inl l ↦ absurd (differ (sym l.0 ∙ h.0)) | inr l ↦ l ] }
less (share ∷ shares) key octets (inr h) =
    let l = less shares key octets h in
    record {
      less = share ∷ l.less;
      long = ap (λ (n : ℕ). suc n) l.long;
      sum = omega (arith, l.sum);
      others = λ other count differ k. elim k [ inl m ↦ inl m | inr m ↦ inr (l.others other count differ m) ];
    }

abbrev Shared : List Share → List Partial → Type 0
Shared shares held = AllByRecursion (λ (partial : Partial). HasShare shares (key_of partial) (length partial.held.slots)) held

fewer : (shares : List Share) (key : Key) (octets : ℕ) (l : Less shares key octets) (held : List Partial) → AllByRecursion (λ (other : Partial). key_of other ≢ key) held → Shared shares held → Shared l.less held
fewer shares key octets l [] apart h = tt
fewer shares key octets l (x ∷ held) apart h = (l.others (key_of x) (length x.held.slots) apart.0 h.0, fewer shares key octets l held apart.1 h.1)

covered : (held : List Partial) (shares : List Share) → AreApart held → Shared shares held → (length held ≤ length shares) × (octets_held held ≤ octets_of shares)
covered [] shares apart h = (omega arith, omega arith)
covered (x ∷ held) shares apart h =
    let l = less shares (key_of x) (length x.held.slots) h.0 in
    let rest = covered held l.less apart.1 (fewer shares (key_of x) (length x.held.slots) l held apart.0 h.1) in
    (omega (arith, rest.0, l.long), omega (arith, rest.1, l.sum, count_by-le-length is_some x.held.slots))

-- ---- one segment
module _ (shares : List Share) where
  -- what is held about the place of the segment's unit
  pub record Near (store : Holding) (coming : Coming) (before : List Partial) (found : Option Partial) (rest : List Partial) : Type 0 where
    pub front : Shared shares before
    pub back : Shared shares rest
    pub own : HasShare shares coming.key (length (found_or_nothing found coming.segment).slots)
    pub octets : octets_held store.held ≡ octets_held before + (filled_places (found_or_nothing found coming.segment) + octets_held rest)
    pub units : found ≡ None → length store.held ≡ length before + length rest

  near : (store : Holding) (coming : Coming) (before : List Partial) (found : Option Partial) (rest : List Partial) → At coming.key store.held before found rest → Shared shares store.held
      → HasShare shares coming.key (coming.segment.total - coming.segment.header) → Near store coming before found rest
  near store coming before found rest (At.There unit found_is held_is there none) all own =
      let parted : Shared shares (before ++ unit ∷ rest) = subst (Shared shares) held_is all in
      let back = all_back (λ (partial : Partial). HasShare shares (key_of partial) (length partial.held.slots)) before (unit ∷ rest) parted in
      let same : key_of unit ≡ coming.key = key_there coming.key unit there in
      subst (λ (f : Option Partial). Near store coming before f rest) (sym found_is) (record {
        front = all_front (λ (partial : Partial). HasShare shares (key_of partial) (length partial.held.slots)) before (unit ∷ rest) parted;
        back = back.1;
        own = subst (λ (k : Key). HasShare shares k (length unit.held.slots)) same back.0;
        octets = ap octets_held held_is ∙ held_both before (unit ∷ rest);
        units = λ e. absurd (some_none unit e);
      })
    where
      some_none : (unit : Partial) → Some unit ≡ None → ⊥
      some_none unit e = cc e
  near store coming before found rest (At.New found_is before_is rest_is none) all own =
      let count = coming.segment.total - coming.segment.header in
      let long : length (nothing_of coming.segment).slots ≡ count = length-replicate {A = Option ℕ} count None in
      let empty : filled_places (nothing_of coming.segment) ≡ 0 = none_filled count in
      subst (λ (f : Option Partial). Near store coming before f rest) (sym found_is)
      (subst (λ (us : List Partial). Near store coming us None rest) (sym before_is)
      (subst (λ (us : List Partial). Near store coming store.held None us) (sym rest_is) (record {
        front = all;
        back = tt;
        own = subst (λ (n : ℕ). HasShare shares coming.key n) (sym long) own;
        octets = omega (arith, empty);
        units = λ e. omega arith;
      })))

  -- what is held with the segment has its shares too
  with_it : (store : Holding) (coming : Coming) (before : List Partial) (found : Option Partial) (rest : List Partial) (new : Held) (deadline : ℕ) → Near store coming before found rest
      → Around coming store.held before found rest → length new.slots ≡ length (found_or_nothing found coming.segment).slots
      → Shared shares (before ++ partial_with found coming new deadline ∷ rest)
  with_it store coming before found rest new deadline n a long =
      let partial = partial_with found coming new deadline in
      let count : length partial.held.slots ≡ length (found_or_nothing found coming.segment).slots = ap (λ (x : Held). length x.slots) (a.held_is new deadline) ∙ long in
      let own : HasShare shares (key_of partial) (length partial.held.slots) =
      subst (λ (k : Key). HasShare shares k (length partial.held.slots)) (sym (a.key_is new deadline)) (subst (λ (c : ℕ). HasShare shares coming.key c) (sym count) n.own) in
      all_both (λ (partial : Partial). HasShare shares (key_of partial) (length partial.held.slots)) before (partial ∷ rest) n.front (own, n.back)

  never_full : (store : Holding) (coming : Coming) (before : List Partial) (found : Option Partial) (rest : List Partial) (new : Held) → length shares ≤ store.units → octets_of shares ≤ store.octets
      → AreApart store.held → Shared shares store.held → Near store coming before found rest → Around coming store.held before found rest
      → length new.slots ≡ length (found_or_nothing found coming.segment).slots → HasNoRoom store found (found_or_nothing found coming.segment) new → ⊥
  never_full store coming before found rest new units octets apart all n a long full =
      let partial = partial_with found coming new 0 in
      let now = covered store.held shares apart all in
      let next = covered (before ++ partial ∷ rest) shares (a.changed new 0) (with_it store coming before found rest new 0 n a long) in
      let sum : octets_held (before ++ partial ∷ rest) ≡ octets_held before + (filled_places partial.held + octets_held rest) = held_both before (partial ∷ rest) in
      let same : filled_places partial.held ≡ filled_places new = ap filled_places (a.held_is new 0) in
      elim full [
        | inl h ↦ omega (arith, next.0, units, h.1, n.units h.0, length-append before (partial ∷ rest))
        | inr h ↦ omega (arith, now.1, next.1, octets, h, sum, same, n.octets)
      ]

  -- the next store
  pub record Next (store after : Holding) : Type 0 where
    pub units : after.units ≡ store.units
    pub octets : after.octets ≡ store.octets
    pub shared : Shared shares after.held

  out : (store after : Holding) (now : ℕ) (coming : Coming) (before : List Partial) (found : Option Partial) (rest held : List Partial) → after ≡ record store { clock = now; held = held }
      → Shared shares held → Next store after
  out store after now coming before found rest held is all =
      subst (λ (s : Holding). Next store s) (sym is) (record { units = refl; octets = refl; shared = all })

  one_room : (store : Holding) (now : ℕ) (coming : Coming) (before : List Partial) (found : Option Partial) (rest : List Partial) (answer : Joined) (after : Holding)
      → length shares ≤ store.units → octets_of shares ≤ store.octets → AreApart store.held → Shared shares store.held → Near store coming before found rest
      → Around coming store.held before found rest → TakesAt store now coming before found rest answer after → (answer ≡ joined.Full → ⊥) × Next store after
  one_room store now coming before found rest joined.Interference after units octets apart all n a h =
      ((λ e. absurd cc), out store after now coming before found rest (before ++ rest) h.1 (both n))
    where
      both : Near store coming before found rest → Shared shares (before ++ rest)
      both n = all_both (λ (partial : Partial). HasShare shares (key_of partial) (length partial.held.slots)) before rest n.front n.back
  one_room store now coming before found rest (joined.Whole octets_are) after units octets apart all n a h =
      ((λ e. absurd cc), out store after now coming before found rest (before ++ rest) h.4 (both n))
    where
      both : Near store coming before found rest → Shared shares (before ++ rest)
      both n = all_both (λ (partial : Partial). HasShare shares (key_of partial) (length partial.held.slots)) before rest n.front n.back
  one_room store now coming before found rest joined.Full after units octets apart all n a h =
      absurd (never_full store coming before found rest h.0 units octets apart all n a h.1.1.positions h.3)
  one_room store now coming before found rest joined.Held after units octets apart all n a h = (
    (λ e. absurd cc),
    out store after now coming before found rest (before ++ partial_with found coming h.0 (now + coming.left) ∷ rest) h.4
        (with_it store coming before found rest h.0 (now + coming.left) n a h.1.1.positions),
  )

  all_room : (store after : Holding) (list : List Came) → length shares ≤ store.units → octets_of shares ≤ store.octets → AreApart store.held → Shared shares store.held
      → AllByRecursion (λ (came : Came). HasShare shares came.coming.key (came.coming.segment.total - came.coming.segment.header)) list → TakesAll store list after
      → AllByRecursion (λ (came : Came). came.answer ≡ joined.Full → ⊥) list
  all_room store after [] units octets apart all of takes = tt
  all_room store after (came ∷ list) units octets apart all of takes =
      let t = takes.1 in
      let a = around came.coming store.held t.before t.found t.rest apart t.at in
      let n = near store came.coming t.before t.found t.rest t.at all of.0 in
      let first = one_room store came.now came.coming t.before t.found t.rest came.answer takes.0 units octets apart all n a t.takes in
      let mid = still_apart store came.now came.coming t.before t.found t.rest came.answer takes.0 apart a t.takes in
      (first.0, all_room takes.0 after list (omega (arith, units, first.1.units)) (omega (arith, octets, first.1.octets)) mid first.1.shared of.1 takes.2)

pub none_is_full : NoneIsFull
none_is_full store after list apart room takes = all_room room.shares store after list room.units room.octets apart room.held room.coming takes
