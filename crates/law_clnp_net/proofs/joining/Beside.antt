-- Segments of a unit that come in order, beside what is held of other units: no other has its key, so none of them changes. The next run makes its front longer, or is
-- refused for want of room; with the last one it is whole, and the others alone are held.
use Rattle.std.proofs.Common.{◌≡◌, ◌⊎◌, ◌||◌, ℕ, ◌+◌, ◌-◌, ◌<◌, ◌≤◌, Bool, true, false, List, [], ◌∷◌, ◌++◌, length, Option, Some, None, refl, sym, ◌∙◌, ap, subst, inl, inr, arith, length-append}
use Rattle.std.specs.List.{list_any}
use Rattle.std.proofs.lemmas.Bool.{or_parts}
use Rattle.std.proofs.lemmas.List.{append-nil}
use Rattle.clnp_segment.specs.Joining.{Clash, Held, Segment, Together, filled_places}
use Rattle.clnp_segment.specs.Store.{At, Coming, HasNoRoom, Holding, Joins, Key, Partial, Takes, found_or_nothing, has_key, key_of, octets_held, partial_with}
use Rattle.clnp_segment.specs.declared.store.Joined.TheVariants as joined
use Rattle.law_clnp_net.specs.Joining.{HasMost, HasNone}
use Rattle.law_clnp_net.proofs.joining.Fronts.{count_front, held_front, next_run, no_clash, not_filled, nothing_front, now_filled, own_key, together, whole_slots}
use Rattle.law_clnp_net.proofs.answered.Storing.{room_or_not}

-- of the unit of that key the octets at its front are held, beside these others; before the first, they alone are
abbrev pub HoldsBeside : Key → ℕ → List ℕ → ℕ → List Partial → List Partial → Type 0
HoldsBeside key header [] missing others held = held ≡ others
HoldsBeside key header (octet ∷ front) missing others held =
    (before rest : List Partial) × (partial : Partial) × (held ≡ before ++ partial ∷ rest) × (others ≡ before ++ rest) × (key_of partial ≡ key)
    × (partial.held ≡ held_front header (octet ∷ front) missing)

none_in_front : {X : Type 0} (test : X → Bool) (xs ys : List X) → list_any test (xs ++ ys) ≡ false → list_any test xs ≡ false
none_in_front test [] ys none = refl
none_in_front test (x ∷ xs) ys none =
    let parts = or_parts (test x) (list_any test (xs ++ ys)) none in
    ap (λ (b : Bool). b || list_any test xs) parts.0 ∙ none_in_front test xs ys parts.1

none_without : {X : Type 0} (test : X → Bool) (xs : List X) (y : X) (ys : List X) → list_any test (xs ++ y ∷ ys) ≡ false → list_any test (xs ++ ys) ≡ false
none_without test [] y ys none = (or_parts (test y) (list_any test ys) none).1
none_without test (x ∷ xs) y ys none =
    let parts = or_parts (test x) (list_any test (xs ++ y ∷ ys)) none in
    ap (λ (b : Bool). b || list_any test (xs ++ ys)) parts.0 ∙ none_without test xs y ys parts.1

-- the others are among what is held
pub fewer_beside : (key : Key) (header : ℕ) (front : List ℕ) (missing : ℕ) (others held : List Partial) → HoldsBeside key header front missing others held → (other : Key) → HasNone other held
    → HasNone other others
fewer_beside key header [] missing others held same other none = subst (HasNone other) same none
fewer_beside key header (octet ∷ front) missing others held (before, rest, partial, is, others_are, key_is, held_is) other none =
    subst (HasNone other) (sym others_are) (none_without (has_key other) before partial rest (subst (HasNone other) is none))

holds_some : (key : Key) (header : ℕ) (came : List ℕ) (missing : ℕ) (others held before rest : List Partial) (partial : Partial) → 0 < length came → held ≡ before ++ partial ∷ rest
    → others ≡ before ++ rest → key_of partial ≡ key → partial.held ≡ held_front header came missing → HoldsBeside key header came missing others held
holds_some key header [] missing others held before rest partial some is others_are key_is held_is = absurd (omega (arith, some))
holds_some key header (octet ∷ came) missing others held before rest partial some is others_are key_is held_is = (before, rest, partial, is, others_are, key_is, held_is)

-- where nothing else is held, the front alone is, in one unit at most
record IsAlone (came : List ℕ) (held : List Partial) : Type 0 where
  octets : octets_held held ≡ length came
  units : length held ≤ 1

nothing_around : {X : Type 0} (before rest : List X) → [] ≡ before ++ rest → (before ≡ []) × (rest ≡ [])
nothing_around [] rest e = (refl, sym e)
nothing_around (x ∷ before) rest e = absurd cc

alone : (key : Key) (header : ℕ) (came : List ℕ) (missing : ℕ) (others held : List Partial) → HoldsBeside key header came missing others held → others ≡ [] → IsAlone came held
alone key header [] missing others held same none =
    let is : held ≡ [] = same ∙ none in
    record { octets = ap octets_held is; units = omega (arith, ap (λ (us : List Partial). length us) is) }
alone key header (octet ∷ came) missing others held (before, rest, partial, is, others_are, key_is, held_is) none =
    let around = nothing_around before rest (sym none ∙ others_are) in
    let one : held ≡ partial ∷ [] = is ∙ (λ i. around.0 i ++ partial ∷ around.1 i) in
    let count : filled_places partial.held ≡ length (octet ∷ came) = ap filled_places held_is ∙ count_front (octet ∷ came) missing in
    record { octets = omega (arith, ap octets_held one, count); units = omega (arith, ap (λ (us : List Partial). length us) one) }

-- where the unit of a run stands: among the others, or it is new
pub record Stands (store : Holding) (coming : Coming) (old : Held) (others : List Partial) : Type 0 where
  pub before : List Partial
  pub found : Option Partial
  pub rest : List Partial
  pub at : At coming.key store.held before found rest
  pub old_is : found_or_nothing found coming.segment ≡ old
  pub others_are : others ≡ before ++ rest
  pub key_is : (new : Held) (deadline : ℕ) → key_of (partial_with found coming new deadline) ≡ coming.key
  pub held_is : (new : Held) (deadline : ℕ) → (partial_with found coming new deadline).held ≡ new

pub stands : (store : Holding) (coming : Coming) (header : ℕ) (came run : List ℕ) (more missing : ℕ) (others : List Partial) → coming.segment ≡ next_run header came run more
    → missing ≡ length run + more → HasNone coming.key others → HoldsBeside coming.key header came missing others store.held → Stands store coming (held_front header came missing) others
stands store coming header [] run more missing others is missing_is none same = record {
  before = store.held;
  found = None;
  rest = [];
  at = At.New refl refl refl (subst (HasNone coming.key) (sym same) none);
  old_is = nothing_front header missing coming.segment run more is missing_is;
  others_are = sym same ∙ sym (append-nil store.held);
  key_is = λ new deadline. refl;
  held_is = λ new deadline. refl;
}
stands store coming header (octet ∷ came) run more missing others is missing_is none (before, rest, partial, there, others_are, key_is, held_is) = record {
  before = before;
  found = Some partial;
  rest = rest;
  at = At.There partial refl there (subst (λ (key : Key). has_key key partial ≡ true) key_is (own_key partial))
      (none_in_front (has_key coming.key) before rest (subst (HasNone coming.key) others_are none));
  old_is = held_is;
  others_are = others_are;
  key_is = λ new deadline. key_is;
  held_is = λ new deadline. refl;
}

-- ---- room

-- ---- the next run

module _ (store : Holding) (now : ℕ) (coming : Coming) (header : ℕ) (came run : List ℕ) (missing : ℕ) (others : List Partial) (is : coming.segment ≡ next_run header came run missing)
    (none : HasNone coming.key others) (holds : HoldsBeside coming.key header came (length run + missing) others store.held) where
  abbrev Found : Stands store coming (held_front header came (length run + missing)) others
  Found = stands store coming header came run missing (length run + missing) others is refl none holds

  joins : Joins Found.found coming.segment (held_front header (came ++ run) missing)
  joins =
      subst (λ (segment : Segment). (Clash (found_or_nothing Found.found coming.segment) segment → ⊥) × Together (found_or_nothing Found.found coming.segment) segment (held_front header (came ++ run) missing)) (sym is)
      (subst (λ (old : Held). (Clash old (next_run header came run missing) → ⊥) × Together old (next_run header came run missing) (held_front header (came ++ run) missing)) (sym Found.old_is)
      (no_clash header came run missing, together header came run missing))

  abbrev LacksRoom : Type 0
  LacksRoom = HasNoRoom store Found.found (found_or_nothing Found.found coming.segment) (held_front header (came ++ run) missing)

  -- where nothing else is held there is room
  pub room_alone : others ≡ [] → HasMost store → length came + length run ≤ 262144 → LacksRoom → ⊥
  room_alone none_other most few (inl full) = omega (arith, full.1, (alone coming.key header came (length run + missing) others store.held holds none_other).units, most.units)
  room_alone none_other most few (inr over) =
      let old : filled_places (found_or_nothing Found.found coming.segment) ≡ length came = ap filled_places Found.old_is ∙ count_front came (length run + missing) in
      let new : filled_places (held_front header (came ++ run) missing) ≡ length came + length run = count_front (came ++ run) missing ∙ length-append came run in
      omega (arith, over, old, new, (alone coming.key header came (length run + missing) others store.held holds none_other).octets, most.octets, few)

  -- more is missing: the run is refused, or the unit is held with it
  pub data TakesMore : Type 0 where
    Refused : LacksRoom → Takes store now coming joined.Full (record store { clock = now }) → TakesMore
    Kept : (held : List Partial) → Takes store now coming joined.Held (record store { clock = now; held = held }) → HoldsBeside coming.key header (came ++ run) missing others held → TakesMore

  pub takes_more : 0 < length run → 0 < missing → TakesMore
  takes_more some more =
      by (room_or_not store Found.found (found_or_nothing Found.found coming.segment) (held_front header (came ++ run) missing))
    where
      new : Held
      new = held_front header (came ++ run) missing

      partial : Partial
      partial = partial_with Found.found coming new (now + coming.left)

      by : HasNoRoom store Found.found (found_or_nothing Found.found coming.segment) new ⊎ (HasNoRoom store Found.found (found_or_nothing Found.found coming.segment) new → ⊥) → TakesMore
      by (inl full) =
          Refused full (record { before = Found.before; found = Found.found; rest = Found.rest; at = Found.at; takes = (new, joins, not_filled header came run missing more, full, refl) })
      by (inr room) =
          Kept (Found.before ++ partial ∷ Found.rest)
          (record { before = Found.before; found = Found.found; rest = Found.rest; at = Found.at; takes = (new, joins, not_filled header came run missing more, room, refl) })
          (holds_some coming.key header (came ++ run) missing others (Found.before ++ partial ∷ Found.rest) Found.before Found.rest partial (omega (arith, some, length-append came run)) refl Found.others_are
          (Found.key_is new (now + coming.left)) (Found.held_is new (now + coming.left)))

-- nothing is missing: the unit is whole, and the others alone are held
pub takes_last : (store : Holding) (now : ℕ) (coming : Coming) (header : ℕ) (came run : List ℕ) (others : List Partial) → coming.segment ≡ next_run header came run 0
    → HasNone coming.key others → HoldsBeside coming.key header came (length run + 0) others store.held
    → Takes store now coming (joined.Whole (came ++ run)) (record store { clock = now; held = others })
takes_last store now coming header came run others is none holds =
    let found = stands store coming header came run 0 (length run + 0) others is refl none holds in
    subst (λ (held : List Partial). Takes store now coming (joined.Whole (came ++ run)) (record store { clock = now; held = held })) (sym found.others_are)
    (record {
      before = found.before;
      found = found.found;
      rest = found.rest;
      at = found.at;
      takes = (held_front header (came ++ run) 0, joins store now coming header came run 0 others is none holds, now_filled header (came ++ run), whole_slots (came ++ run), refl);
    })
