-- What is held of a key is what the segments of its unit brought since it was last whole: a segment of the key adds its octets
-- or ends the unit, and one of another key leaves the places of the key as they are.
use Rattle.std.proofs.Common.{◌≡◌, ◌≢◌, ◌↔◌, ℕ, ◌-◌, ◌+◌, Bool, true, false, List, [], ◌∷◌, ◌++◌, if◌then◌else◌, Option, Some, None, refl, sym, ◌∙◌, ap, subst, arith, inl, inr}
use Rattle.std.specs.List.{AllByRecursion}
use Rattle.clnp_segment.specs.Joining.{Filled, Held, Holds, IsOf, IsSegmentOf, Segment, Together, nothing_of}
use Rattle.clnp_segment.specs.Store.{AreApart, At, Coming, Holding, Key, Partial, TakesAt, found_or_nothing, is_key, key_of, partial_with}
use Rattle.clnp_segment.specs.Units.{AnswersOnly, Came, HoldsOnly, IsOnly, TakesAll}
use Rattle.clnp_segment.specs.Whole.{AnswersBy, AnswersInTurn, Bring, BringAll, HoldsAt, HoldsWhatCame, of_key, so_far_after, so_far_in}
use Rattle.clnp_segment.specs.Laws.{WholeInTurn}
use Rattle.clnp_segment.specs.declared.store.Joined.{Joined}
use Rattle.clnp_segment.specs.declared.store.Joined.TheVariants as joined
use Rattle.clnp_segment.proofs.Joins.{units_kept}
use Rattle.clnp_segment.proofs.Storing.{apart_change, apart_more, apart_out, none_apart, own_key}
use Rattle.clnp_segment.proofs.Units.{about, empty_place, key_there, one}

-- ---- the places of a key
abbrev Apart : Key → List Partial → Type 0
Apart key units = AllByRecursion (λ (other : Partial). key_of other ≢ key) units

module _ (key : Key) (position octet : ℕ) where
  abbrev There : List Partial → Type 0
  There units = HoldsAt key units position octet

  pub none_at : (units : List Partial) → Apart key units → There units → ⊥
  none_at [] apart h = h
  none_at (x ∷ units) apart (inl h) = apart.0 h.0
  none_at (x ∷ units) apart (inr h) = none_at units apart.1 h

  past : (before rest : List Partial) → Apart key before → There (before ++ rest) → There rest
  past [] rest apart h = h
  past (x ∷ before) rest apart (inl h) = absurd (apart.0 h.0)
  past (x ∷ before) rest apart (inr h) = past before rest apart.1 h

  behind : (before rest : List Partial) → There rest → There (before ++ rest)
  behind [] rest h = h
  behind (x ∷ before) rest h = inr (behind before rest h)

  -- the unit alone has the key
  alone : (before : List Partial) (unit : Partial) (rest : List Partial) → Apart key before → Apart key rest → key_of unit ≡ key → There (before ++ unit ∷ rest) ↔ Holds unit.held position octet
  alone before unit rest front back is = ((λ h. of_unit (past before (unit ∷ rest) front h)), (λ h. behind before (unit ∷ rest) (inl (is, h))))
    where
      of_unit : There (unit ∷ rest) → Holds unit.held position octet
      of_unit (inl h) = h.1
      of_unit (inr h) = absurd (none_at rest back h)

  -- a unit of another key is taken out, or put in
  without : (before : List Partial) (unit : Partial) (rest : List Partial) → key_of unit ≢ key → There (before ++ unit ∷ rest) → There (before ++ rest)
  without [] unit rest other (inl h) = absurd (other h.0)
  without [] unit rest other (inr h) = h
  without (x ∷ before) unit rest other (inl h) = inl h
  without (x ∷ before) unit rest other (inr h) = inr (without before unit rest other h)

  within : (before : List Partial) (unit : Partial) (rest : List Partial) → There (before ++ rest) → There (before ++ unit ∷ rest)
  within [] unit rest h = inr h
  within (x ∷ before) unit rest (inl h) = inl h
  within (x ∷ before) unit rest (inr h) = inr (within before unit rest h)

apart_behind : (before : List Partial) (unit : Partial) (rest : List Partial) → AreApart (before ++ unit ∷ rest) → Apart (key_of unit) rest
apart_behind [] unit rest h = h.0
apart_behind (x ∷ before) unit rest h = apart_behind before unit rest h.1

-- ---- the unit of a segment among those that are held
pub record Around (coming : Coming) (held before : List Partial) (found : Option Partial) (rest : List Partial) : Type 0 where
  pub front : Apart coming.key before
  pub back : Apart coming.key rest
  pub out : AreApart (before ++ rest)
  pub changed : (new : Held) (deadline : ℕ) → AreApart (before ++ partial_with found coming new deadline ∷ rest)
  pub old : (position octet : ℕ) → HoldsAt coming.key held position octet ↔ Holds (found_or_nothing found coming.segment) position octet
  pub others : (key : Key) (position octet : ℕ) → coming.key ≢ key → HoldsAt key held position octet ↔ HoldsAt key (before ++ rest) position octet
  pub key_is : (new : Held) (deadline : ℕ) → key_of (partial_with found coming new deadline) ≡ coming.key
  pub held_is : (new : Held) (deadline : ℕ) → (partial_with found coming new deadline).held ≡ new

none_behind : (rest : List Partial) → rest ++ [] ≡ rest
none_behind [] = refl
none_behind (x ∷ rest) = ap (λ (us : List Partial). x ∷ us) (none_behind rest)

pub around : (coming : Coming) (held before : List Partial) (found : Option Partial) (rest : List Partial) → AreApart held → At coming.key held before found rest → Around coming held before found rest
around coming held before found rest apart (At.There unit found_is held_is there none) =
    let same : key_of unit ≡ coming.key = key_there coming.key unit there in
    let all : AreApart (before ++ unit ∷ rest) = subst AreApart held_is apart in
    let front : Apart coming.key before = none_apart coming.key before none in
    let back : Apart coming.key rest = subst (λ (k : Key). Apart k rest) same (apart_behind before unit rest all) in
    subst (λ (f : Option Partial). Around coming held before f rest) (sym found_is)
    (subst (λ (us : List Partial). Around coming us before (Some unit) rest) (sym held_is) (record {
      front = front;
      back = back;
      out = apart_out before unit rest all;
      changed = λ new deadline. apart_change before unit (partial_with (Some unit) coming new deadline) rest refl all;
      old = λ position octet. alone coming.key position octet before unit rest front back same;
      others = λ key position octet differ. (
        (λ h. without key position octet before unit rest (λ e. differ (sym same ∙ e)) h),
        λ h. within key position octet before unit rest h,
      );
      key_is = λ new deadline. same;
      held_is = λ new deadline. refl;
    }))
around coming held before found rest apart (At.New found_is before_is rest_is none) =
    let lacks : Apart coming.key held = none_apart coming.key held none in
    let whole : held ++ [] ≡ held = none_behind held in
    subst (λ (f : Option Partial). Around coming held before f rest) (sym found_is)
    (subst (λ (us : List Partial). Around coming held us None rest) (sym before_is)
    (subst (λ (us : List Partial). Around coming held held None us) (sym rest_is) (record {
      front = lacks;
      back = tt;
      out = subst AreApart (sym whole) apart;
      changed = λ new deadline. apart_more held (partial_with None coming new deadline) lacks apart;
      old = λ position octet. (
        (λ h. absurd (none_at coming.key position octet held lacks h)),
        λ h. absurd (empty_place (coming.segment.total - coming.segment.header) position octet h),
      );
      others = λ key position octet differ. (
        (λ h. subst (λ (us : List Partial). HoldsAt key us position octet) (sym whole) h),
        λ h. subst (λ (us : List Partial). HoldsAt key us position octet) whole h,
      );
      key_is = λ new deadline. refl;
      held_is = λ new deadline. refl;
    })))

-- ---- one segment
abbrev Pairs : Key → List Partial → List Segment → Type 0
Pairs key held segments = (position octet : ℕ) → HoldsAt key held position octet ↔ Bring segments position octet

module _ (unit : List ℕ) (header : ℕ) (so_far : List Segment) (coming : Coming) (before : List Partial) (found : Option Partial) (rest : List Partial) where
  abbrev Old : Held
  Old = found_or_nothing found coming.segment

  abbrev Brought : List Segment
  Brought = coming.segment ∷ so_far

  new_pairs : (held : List Partial) (new : Held) → Around coming held before found rest → Pairs coming.key held so_far → Together Old coming.segment new
      → (position octet : ℕ) → Holds new position octet ↔ Bring Brought position octet
  new_pairs held new a pairs t position octet = (
    (λ h. elim ((t.pairs position octet).0 h) [ inl k ↦ inr ((pairs position octet).0 ((a.old position octet).1 k)) | inr k ↦ inl k ]),
    λ h. elim h [ inl k ↦ (t.pairs position octet).1 (inr k) | inr k ↦ (t.pairs position octet).1 (inl ((a.old position octet).0 ((pairs position octet).1 k))) ],
  )

  all_come : (new : Held) → IsOf unit header new → ((position octet : ℕ) → Holds new position octet ↔ Bring Brought position octet) → Filled new → BringAll unit Brought
  all_come new of pairs filled position low =
      let h = filled position (omega (arith, low, of.positions)) in
      (h.0, (pairs position h.0).0 h.1)

  all_filled : (new : Held) → IsOf unit header new → ((position octet : ℕ) → Holds new position octet ↔ Bring Brought position octet) → BringAll unit Brought → Filled new
  all_filled new of pairs all position low =
      let h = all position (omega (arith, low, of.positions)) in
      (h.0, (pairs position h.0).1 h.1)

  dropped : (store after : Holding) (now : ℕ) → Around coming store.held before found rest → after ≡ record store { clock = now; held = before ++ rest } → Pairs coming.key after.held []
  dropped store after now a is position octet = (
    (λ h. none_at coming.key position octet rest a.back
        (past coming.key position octet before rest a.front (subst (λ (s : Holding). HoldsAt coming.key s.held position octet) is h))),
    λ h. absurd h,
  )

  mine : (store : Holding) (now : ℕ) (answer : Joined) (after : Holding) → Around coming store.held before found rest → Pairs coming.key store.held so_far
      → IsOf unit header Old → IsSegmentOf unit header coming.segment → AnswersOnly unit answer → TakesAt store now coming before found rest answer after
      → AnswersBy unit Brought answer × Pairs coming.key after.held (so_far_after so_far coming.segment answer)
  mine store now joined.Interference after a pairs old of only h = absurd only
  mine store now (joined.Whole octets) after a pairs old of only h =
      let new = units_kept unit header Old coming.segment h.0 old of h.1.1 in
      ((only, all_come h.0 new (new_pairs store.held h.0 a pairs h.1.1) h.2), dropped store after now a h.4)
  mine store now joined.Full after a pairs old of only h =
      let new = units_kept unit header Old coming.segment h.0 old of h.1.1 in (
        (λ all. h.2 (all_filled h.0 new (new_pairs store.held h.0 a pairs h.1.1) all)),
        λ position octet. (
          (λ k. (pairs position octet).0 (subst (λ (s : Holding). HoldsAt coming.key s.held position octet) h.4 k)),
          λ k. subst (λ (s : Holding). HoldsAt coming.key s.held position octet) (sym h.4) ((pairs position octet).1 k),
        ),
      )
  mine store now joined.Held after a pairs old of only h =
      let new = units_kept unit header Old coming.segment h.0 old of h.1.1 in
      let all = new_pairs store.held h.0 a pairs h.1.1 in
      let deadline = now + coming.left in
      let one = λ (position octet : ℕ). alone coming.key position octet before (partial_with found coming h.0 deadline) rest a.front a.back (a.key_is h.0 deadline) in
      let is : (position octet : ℕ) → Holds (partial_with found coming h.0 deadline).held position octet ↔ Bring Brought position octet =
      λ position octet. subst (λ (x : Held). Holds x position octet ↔ Bring Brought position octet) (sym (a.held_is h.0 deadline)) (all position octet) in (
        (λ brought. h.2 (all_filled h.0 new all brought)),
        λ position octet. (
          (λ k. (is position octet).0 ((one position octet).0 (subst (λ (s : Holding). HoldsAt coming.key s.held position octet) h.4 k))),
          λ k. subst (λ (s : Holding). HoldsAt coming.key s.held position octet) (sym h.4) ((one position octet).1 ((is position octet).1 k)),
        ),
      )

-- a segment of another key
theirs : (store : Holding) (now : ℕ) (coming : Coming) (before : List Partial) (found : Option Partial) (rest : List Partial) (answer : Joined) (after : Holding) (key : Key)
    → Around coming store.held before found rest → coming.key ≢ key → TakesAt store now coming before found rest answer after
    → (position octet : ℕ) → HoldsAt key store.held position octet ↔ HoldsAt key after.held position octet
theirs store now coming before found rest joined.Interference after key a differ h position octet =
    subst (λ (s : Holding). HoldsAt key store.held position octet ↔ HoldsAt key s.held position octet) (sym h.1) (a.others key position octet differ)
theirs store now coming before found rest (joined.Whole octets) after key a differ h position octet =
    subst (λ (s : Holding). HoldsAt key store.held position octet ↔ HoldsAt key s.held position octet) (sym h.4) (a.others key position octet differ)
theirs store now coming before found rest joined.Full after key a differ h position octet =
    subst (λ (s : Holding). HoldsAt key store.held position octet ↔ HoldsAt key s.held position octet) (sym h.4) ((λ k. k), (λ k. k))
theirs store now coming before found rest joined.Held after key a differ h position octet =
    let deadline = now + coming.left in
    let partial = partial_with found coming h.0 deadline in
    let other : key_of partial ≢ key = λ e. differ (sym (a.key_is h.0 deadline) ∙ e) in
    let both = a.others key position octet differ in
    subst (λ (s : Holding). HoldsAt key store.held position octet ↔ HoldsAt key s.held position octet) (sym h.4) (
      (λ k. within key position octet before partial rest (both.0 k)),
      λ k. both.1 (without key position octet before partial rest other k),
    )

-- each unit has another key then too
pub still_apart : (store : Holding) (now : ℕ) (coming : Coming) (before : List Partial) (found : Option Partial) (rest : List Partial) (answer : Joined) (after : Holding)
    → AreApart store.held → Around coming store.held before found rest → TakesAt store now coming before found rest answer after → AreApart after.held
still_apart store now coming before found rest joined.Interference after apart a h = subst (λ (s : Holding). AreApart s.held) (sym h.1) a.out
still_apart store now coming before found rest (joined.Whole octets) after apart a h = subst (λ (s : Holding). AreApart s.held) (sym h.4) a.out
still_apart store now coming before found rest joined.Full after apart a h = subst (λ (s : Holding). AreApart s.held) (sym h.4) apart
still_apart store now coming before found rest joined.Held after apart a h = subst (λ (s : Holding). AreApart s.held) (sym h.4) (a.changed h.0 (now + coming.left))

-- ---- all of them
pub is_key_true : (key other : Key) → is_key key other ≡ true → other ≡ key
is_key_true key other h = key_there key (record { source = other.source; destination = other.destination; id = other.id; held = nothing_of none; deadline = 0; reportable = true; first = [] }) h
  where
    none : Segment
    none = record { offset = 0; octets = []; header = 0; total = 0 }

pub is_key_false : (key other : Key) → is_key key other ≡ false → other ≢ key
is_key_false key other h e = clashing (subst (λ (k : Key). is_key k other ≡ true) e (own other)) h
  where
    clashing : {b : Bool} → b ≡ true → b ≡ false → ⊥
    clashing h k = absurd cc

    own : (key : Key) → is_key key key ≡ true
    own key = own_key (record { source = key.source; destination = key.destination; id = key.id; held = nothing_of (record { offset = 0; octets = []; header = 0; total = 0 }); deadline = 0; reportable = true; first = [] })

module _ (key : Key) (unit : List ℕ) (header : ℕ) where
  abbrev InTurn : List Segment → List Came → Holding → Type 0
  InTurn so_far list after = AnswersInTurn unit so_far list × HoldsWhatCame key unit header (so_far_in so_far list) after

  in_turn : (so_far : List Segment) (store after : Holding) (list : List Came) → AreApart store.held → HoldsWhatCame key unit header so_far store
      → AllByRecursion (IsOnly key unit header) list → TakesAll store list after → InTurn so_far (of_key key list) after
  in_turn so_far store after [] apart h of takes = (tt, subst (HoldsWhatCame key unit header so_far) (sym takes) h)
  in_turn so_far store after (came ∷ list) apart h of takes =
      let t = takes.1 in
      let a = around came.coming store.held t.before t.found t.rest apart t.at in
      let first = one key unit header store came.now came.coming t.before t.found t.rest came.answer takes.0 h.only
      (about key unit header came.coming store.held t.before t.found t.rest t.at h.only of.0) of.0 t.takes in
      let mid = still_apart store came.now came.coming t.before t.found t.rest came.answer takes.0 apart a t.takes in
      next (is_key key came.coming.key) refl first.0 first.1 a (λ left h. in_turn left takes.0 after list mid h of.1 takes.2)
    where
      next : (mine_is : Bool) → is_key key came.coming.key ≡ mine_is → (came.coming.key ≡ key → AnswersOnly unit came.answer) → HoldsOnly key unit header takes.0
          → Around came.coming store.held takes.1.before takes.1.found takes.1.rest
          → ((left : List Segment) → HoldsWhatCame key unit header left takes.0 → InTurn left (of_key key list) after)
          → InTurn so_far (if mine_is then came ∷ of_key key list else of_key key list) after
      next true is answers only a later =
          let same : came.coming.key ≡ key = is_key_true key came.coming.key is in
          let t = takes.1 in
          let pairs : Pairs came.coming.key store.held so_far = subst (λ (k : Key). Pairs k store.held so_far) (sym same) h.pairs in
          let old = (about key unit header came.coming store.held t.before t.found t.rest t.at h.only of.0).old same in
          let here = mine unit header so_far came.coming t.before t.found t.rest store came.now came.answer takes.0 a pairs old (of.0 same) (answers same) t.takes in
          let left = so_far_after so_far came.coming.segment came.answer in
          let rest = later left (record { only = only; pairs = subst (λ (k : Key). Pairs k takes.0.held left) same here.1 }) in
          ((here.0, rest.0), rest.1)
      next false is answers only a later =
          let differ : came.coming.key ≢ key = is_key_false key came.coming.key is in
          let t = takes.1 in
          let both = theirs store came.now came.coming t.before t.found t.rest came.answer takes.0 key a differ t.takes in
          later so_far (record {
            only = only;
            pairs = λ position octet. (
              (λ k. (h.pairs position octet).0 ((both position octet).1 k)),
              λ k. (both position octet).0 ((h.pairs position octet).1 k),
            );
          })

pub whole_in_turn : WholeInTurn
whole_in_turn key unit header so_far store after list apart h of takes = in_turn key unit header so_far store after list apart h of takes
