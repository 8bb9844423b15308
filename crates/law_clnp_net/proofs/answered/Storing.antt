-- A store answers each segment: what is held has a place for each octet of its unit, so where nothing clashes each octet is put at its
-- place.
use Rattle.std.proofs.Common.{◌≡◌, ◌≢◌, ◌⊎◌, ℕ, zero, suc, ◌+◌, ◌-◌, ◌<◌, ◌≤◌, Bool, true, false, ◌||◌, List, [], ◌∷◌, ◌++◌, length, replicate, slice_get, Option, Some, None, refl, sym, ap, subst, arith, inl, inr}
use Rattle.std.specs.Prelude.{IfSome}
use Rattle.std.specs.List.{AllByRecursion, list_any}
use Rattle.std.proofs.lemmas.Bool.{cases_eq, cases_lt}
use Rattle.std.proofs.lemmas.List.{length-replicate}
use Rattle.law_carrier_answers.specs.Answers.{AreOctets}
use Rattle.clnp_segment.specs.Joining.{Clash, Filled, Has, Held, Holds, Segment, Together, filled_places, nothing_of, Header, Octet, Total}
use Rattle.clnp_segment.specs.Store.{At, Coming, HasNoRoom, Holding, Joins, Partial, Takes, TakesAt, found_or_nothing, has_key, octets_held, partial_with}
use Rattle.clnp_segment.specs.declared.store.Joined.{Joined}
use Rattle.clnp_segment.specs.declared.store.Joined.TheVariants as joined
use Rattle.law_clnp_net.specs.Standing.{FitsHeld, FitsSlot, IsNsap}
use Rattle.law_clnp_step.proofs.Lists.{all_back, all_both, all_front}
use Rattle.law_clnp_net.proofs.answered.Slots.{Agreed, Conflict, Gap, HasAt, Whole, agreed_or_not, filled_at, held_in, length_put, out_of, put, put_fits, put_in, whole_fits, whole_or_gap}

-- ---- the first that passes a test

pub record FirstOf {A : Type 0} (test : A → Bool) (xs : List A) : Type 0 where
  pub before : List A
  pub one : A
  pub rest : List A
  pub stands : xs ≡ before ++ one ∷ rest
  pub passes : test one ≡ true
  pub none_before : list_any test before ≡ false

or_false : (a b : Bool) → a ≡ false → b ≡ false → (a || b) ≡ false
or_false true b e f = absurd cc
or_false false b e f = f

pub first_of : {A : Type 0} (test : A → Bool) (xs : List A) → (list_any test xs ≡ false) ⊎ FirstOf test xs
first_of test [] = inl refl
first_of {A} test (x ∷ xs) = by (test x) refl (first_of test xs)
  where
    by : (b : Bool) → test x ≡ b → (list_any test xs ≡ false) ⊎ FirstOf test xs → (list_any test (x ∷ xs) ≡ false) ⊎ FirstOf test (x ∷ xs)
    by true e rest = inr (record { before = []; one = x; rest = xs; stands = refl; passes = e; none_before = refl })
    by false e (inl none) = inl (or_false (test x) (list_any test xs) e none)
    by false e (inr f) = inr (record {
      before = x ∷ f.before;
      one = f.one;
      rest = f.rest;
      stands = ap (λ (ys : List A). x ∷ ys) f.stands;
      passes = f.passes;
      none_before = or_false (test x) (list_any test f.before) e f.none_before;
    })

-- ---- what is held of a key, and of no other

nothing_fits : (n : ℕ) → AllByRecursion FitsSlot (replicate n None)
nothing_fits zero = tt
nothing_fits (suc n) = (tt, nothing_fits n)

-- a segment that may come: it ends within its unit
pub record MayJoin (coming : Coming) : Type 0 where
  pub source : IsNsap coming.key.source
  pub destination : IsNsap coming.key.destination
  pub ends : coming.segment.offset + (coming.segment.header + length coming.segment.octets) ≤ coming.segment.total
  pub octets : AreOctets coming.segment.octets
  pub header : AreOctets coming.header

-- what is held before a segment comes has places, and octets in them
record HasRoomFor (held : Held) : Type 0 where
  places : held.header + length held.slots ≡ held.total
  slots : AllByRecursion FitsSlot held.slots

nothing_room : (segment : Segment) → segment.header ≤ segment.total → HasRoomFor (nothing_of segment)
nothing_room segment le = record {
  places = omega (arith, length-replicate {A = Option ℕ} (segment.total - segment.header) None, le);
  slots = nothing_fits (segment.total - segment.header);
}

room_of : (found : Option Partial) (segment : Segment) → IfSome found FitsHeld → segment.header ≤ segment.total → HasRoomFor (found_or_nothing found segment)
room_of None segment h le = nothing_room segment le
room_of (Some unit) segment h le = record { places = h.places; slots = h.slots }

partial_fits : (found : Option Partial) (coming : Coming) (new : Held) (deadline : ℕ) → IfSome found FitsHeld → MayJoin coming → HasRoomFor new → FitsHeld (partial_with found coming new deadline)
partial_fits None coming new deadline h may room = record { source = may.source; destination = may.destination; places = room.places; slots = room.slots; first = may.header }
partial_fits (Some unit) coming new deadline h may room = record { source = h.source; destination = h.destination; places = room.places; slots = room.slots; first = h.first }

-- ---- the answer

abbrev pub WholeFits : Joined → Type 0
WholeFits (joined.Whole octets) = AreOctets octets
WholeFits other = Prim.Unit {0}

pub record Answered (store : Holding) (now : ℕ) (coming : Coming) : Type 0 where
  pub answer : Joined
  pub after : Holding
  pub takes : Takes store now coming answer after
  pub held : AllByRecursion FitsHeld after.held
  pub whole : WholeFits answer

record AnsweredAt (store : Holding) (now : ℕ) (coming : Coming) (before : List Partial) (found : Option Partial) (rest : List Partial) : Type 0 where
  answer : Joined
  after : Holding
  takes : TakesAt store now coming before found rest answer after
  held : AllByRecursion FitsHeld after.held
  whole : WholeFits answer

units_or_none : (found : Option Partial) → (found ≡ None) ⊎ (found ≡ None → ⊥)
units_or_none None = inl refl
units_or_none (Some unit) = inr (λ e. absurd cc)

pub room_or_not : (store : Holding) (found : Option Partial) (old new : Held) → HasNoRoom store found old new ⊎ (HasNoRoom store found old new → ⊥)
room_or_not store found old new = by (units_or_none found) (cases_lt (length store.held) store.units) (cases_lt store.octets (octets_held store.held + (filled_places new - filled_places old)))
  where
    by : (found ≡ None) ⊎ (found ≡ None → ⊥) → (length store.held < store.units) ⊎ (store.units ≤ length store.held)
        → (store.octets < octets_held store.held + (filled_places new - filled_places old)) ⊎ (octets_held store.held + (filled_places new - filled_places old) ≤ store.octets)
        → HasNoRoom store found old new ⊎ (HasNoRoom store found old new → ⊥)
    by f u (inl over) = inl (inr over)
    by (inl none) (inr full) (inr within) = inl (inl (none, full))
    by (inl none) (inl some) (inr within) = inr (λ h. elim h [ inl a ↦ omega (arith, a.1, some) | inr b ↦ omega (arith, b, within) ])
    by (inr there) u (inr within) = inr (λ h. elim h [ inl a ↦ there a.0 | inr b ↦ omega (arith, b, within) ])

module _ (store : Holding) (now : ℕ) (coming : Coming) (before : List Partial) (found : Option Partial) (rest : List Partial) (may : MayJoin coming) (all : AllByRecursion FitsHeld store.held)
    (fronts : AllByRecursion FitsHeld before) (backs : AllByRecursion FitsHeld rest) (there : IfSome found FitsHeld) where
  abbrev Old : Held
  Old = found_or_nothing found coming.segment

  abbrev New : Held
  New = record { header = Old.header; total = Old.total; slots = put Old.slots coming.segment.offset coming.segment.octets }

  clashed : Clash Old coming.segment → AnsweredAt store now coming before found rest
  clashed clash = record {
    answer = joined.Interference;
    after = record store { clock = now; held = before ++ rest };
    takes = (clash, refl);
    held = all_both FitsHeld before rest fronts backs;
    whole = tt;
  }

  module _ (header : Old.header ≡ coming.segment.header) (total : Old.total ≡ coming.segment.total) (agreed : Agreed Old.slots coming.segment.offset coming.segment.octets) where
    room : HasRoomFor Old
    room = room_of found coming.segment there (omega (arith, may.ends))

    no_clash : Clash Old coming.segment → ⊥
    unfolding Agreed
    no_clash (Header differ) = differ header
    no_clash (Total differ) = differ total
    no_clash (Octet position first second holds has differ) = differ (agreed position first second holds (record { place = has.place; there = has.at; is = has.is }))

    within : coming.segment.offset + length coming.segment.octets ≤ length Old.slots
    within = omega (arith, may.ends, header, total, room.places)

    together : Together Old coming.segment New
    unfolding Agreed
    together = record {
      header = refl;
      total = refl;
      positions = length_put Old.slots coming.segment.offset coming.segment.octets;
      pairs = λ position octet. (
        λ e. by_out position octet (out_of Old.slots coming.segment.offset coming.segment.octets position octet e),
        λ h. by_in position octet h,
      );
    }
      where
        by_out : (position octet : ℕ) → (slice_get Old.slots position ≡ Some (Some octet)) ⊎ HasAt coming.segment.offset coming.segment.octets position octet
            → Holds Old position octet ⊎ Has coming.segment position octet
        by_out position octet (inl h) = inl h
        by_out position octet (inr h) = inr (record { place = h.place; at = h.there; is = h.is })

        by_in : (position octet : ℕ) → Holds Old position octet ⊎ Has coming.segment position octet → Holds New position octet
        by_in position octet (inl h) = held_in Old.slots coming.segment.offset coming.segment.octets position octet (agreed position) h
        by_in position octet (inr h) = put_in Old.slots coming.segment.offset coming.segment.octets h.place position octet within h.at h.is

    new_room : HasRoomFor New
    new_room = record {
      places = omega (arith, room.places, length_put Old.slots coming.segment.offset coming.segment.octets);
      slots = put_fits Old.slots coming.segment.offset coming.segment.octets room.slots may.octets;
    }

    joins : Joins found coming.segment New
    joins = (no_clash, together)

    whole : Whole New.slots → AnsweredAt store now coming before found rest
    whole w = record {
      answer = joined.Whole w.octets;
      after = record store { clock = now; held = before ++ rest };
      takes = (New, joins, filled, w.are, refl);
      held = all_both FitsHeld before rest fronts backs;
      whole = whole_fits w.octets (subst (AllByRecursion FitsSlot) w.are new_room.slots);
    }
      where
        filled : Filled New
        filled = subst (λ (slots : List (Option ℕ)). (position : ℕ) → position < length slots → (octet : ℕ) × (slice_get slots position ≡ Some (Some octet))) (sym w.are) (filled_at w.octets)

    gap : Gap New.slots → HasNoRoom store found Old New ⊎ (HasNoRoom store found Old New → ⊥) → AnsweredAt store now coming before found rest
    gap g (inl full) = record {
      answer = joined.Full;
      after = record store { clock = now };
      takes = (New, joins, (λ filled. let f = filled g.position g.within in g.none f.0 f.1), full, refl);
      held = all;
      whole = tt;
    }
    gap g (inr fits) = record {
      answer = joined.Held;
      after = record store { clock = now; held = before ++ partial_with found coming New (now + coming.left) ∷ rest };
      takes = (New, joins, (λ filled. let f = filled g.position g.within in g.none f.0 f.1), fits, refl);
      held = all_both FitsHeld before (partial_with found coming New (now + coming.left) ∷ rest) fronts (partial_fits found coming New (now + coming.left) there may new_room, backs);
      whole = tt;
    }

    joined_by : AnsweredAt store now coming before found rest
    joined_by = by (whole_or_gap New.slots)
      where
        by : Whole New.slots ⊎ Gap New.slots → AnsweredAt store now coming before found rest
        by (inl w) = whole w
        by (inr g) = gap g (room_or_not store found Old New)

  answered_at : AnsweredAt store now coming before found rest
  answered_at = by (cases_eq Old.header coming.segment.header) (cases_eq Old.total coming.segment.total) (agreed_or_not Old.slots coming.segment.offset coming.segment.octets)
    where
      by : (Old.header ≡ coming.segment.header) ⊎ (Old.header ≢ coming.segment.header) → (Old.total ≡ coming.segment.total) ⊎ (Old.total ≢ coming.segment.total)
          → Agreed Old.slots coming.segment.offset coming.segment.octets ⊎ Conflict Old.slots coming.segment.offset coming.segment.octets → AnsweredAt store now coming before found rest
      by (inr differ) t a = clashed (Header differ)
      by (inl h) (inr differ) a = clashed (Total differ)
      by (inl h) (inl t) (inr c) = clashed (Octet c.position c.first c.second c.held (record { place = c.has.place; at = c.has.there; is = c.has.is }) c.differ)
      by (inl h) (inl t) (inl agreed) = joined_by h t agreed

pub answered : (store : Holding) (now : ℕ) (coming : Coming) → MayJoin coming → AllByRecursion FitsHeld store.held → Answered store now coming
answered store now coming may all = by (first_of (has_key coming.key) store.held)
  where
    by : (list_any (has_key coming.key) store.held ≡ false) ⊎ FirstOf (has_key coming.key) store.held → Answered store now coming
    by (inl none) =
        let a = answered_at store now coming store.held None [] may all all tt tt in
        record {
          answer = a.answer;
          after = a.after;
          takes = record { before = store.held; found = None; rest = []; at = At.New refl refl refl none; takes = a.takes };
          held = a.held;
          whole = a.whole;
        }
    by (inr f) =
        let parts : AllByRecursion FitsHeld (f.before ++ f.one ∷ f.rest) = subst (AllByRecursion FitsHeld) f.stands all in
        let back = all_back FitsHeld f.before (f.one ∷ f.rest) parts in
        let a = answered_at store now coming f.before (Some f.one) f.rest may all (all_front FitsHeld f.before (f.one ∷ f.rest) parts) back.1 back.0 in
        record {
          answer = a.answer;
          after = a.after;
          takes = record { before = f.before; found = Some f.one; rest = f.rest; at = At.There f.one refl f.stands f.passes f.none_before; takes = a.takes };
          held = a.held;
          whole = a.whole;
        }
