-- The units in order: one is found at its key, and taking one out, changing one or adding one at the end keeps what is always so.
use Rattle.std.proofs.Common.{◌≡◌, ◌≢◌, get_or, ℕ, zero, suc, ◌+◌, ◌<◌, ◌≤◌, Bool, true, false, List, [], ◌∷◌, ◌++◌, drop, length, slice_get, slice_set, take, Some, None, refl, sym, ◌∙◌, ap, subst, arith, length-append, add-one}
use Rattle.std.specs.List.{AllByRecursion, list_any, position, remove}
use Rattle.std.proofs.lemmas.Bool.{and_from, eq-eqb, or_parts}
use Rattle.std.proofs.lemmas.Cmp.{nat_list_eq_equiv}
use Rattle.std.proofs.lemmas.List.Quantifiers.{position-Some}
use Rattle.std.proofs.lemmas.Option.{get_or_from_slice_get, slice_get-get_or}
use Rattle.osi_base.proofs.Firsts.{none_before, none_there}
use Rattle.osi_base.proofs.Members.{all_back, all_both, all_front}
use Rattle.clnp_segment.specs.Joining.{Held, filled_places}
use Rattle.clnp_segment.specs.Store.{AreApart, At, HasPlaces, Holding, IsWithin, Key, Partial, has_key, key_of, octets_held}

-- ---- parts of a list
-- a list about a place: before it, the member there, and the rest
pub record Parts (units : List Partial) (place : ℕ) (unit : Partial) : Type 0 where
  pub before : List Partial
  pub rest : List Partial
  pub whole : units ≡ before ++ unit ∷ rest
  pub front : take place units ≡ before
  pub back : drop (place + 1) units ≡ rest
  pub out : remove units place ≡ before ++ rest
  pub change : (other : Partial) → slice_set units place other ≡ before ++ other ∷ rest

drop_next : (x : Partial) (units : List Partial) (place : ℕ) → drop (suc place + 1) (x ∷ units) ≡ drop (place + 1) units
drop_next x units place = ap (λ (n : ℕ). drop n (x ∷ units)) (add-one (suc place)) ∙ ap (λ (n : ℕ). drop n units) (sym (add-one place))

pub parts : (units : List Partial) (place : ℕ) (unit : Partial) → slice_get units place ≡ Some unit → Parts units place unit
parts [] place unit h = absurd cc
parts (x ∷ units) zero unit h =
    let same : x ≡ unit = some_same x unit h in
    record {
      before = [];
      rest = units;
      whole = ap (λ (u : Partial). u ∷ units) same;
      front = refl;
      back = refl;
      out = refl;
      change = λ other. refl;
    }
  where
    some_same : (x y : Partial) → Some x ≡ Some y → x ≡ y
    some_same x y e = cc e
parts (x ∷ units) (suc place) unit h =
    let p = parts units place unit h in
    record {
      before = x ∷ p.before;
      rest = p.rest;
      whole = ap (λ (us : List Partial). x ∷ us) p.whole;
      front = ap (λ (us : List Partial). x ∷ us) p.front;
      back = drop_next x units place ∙ p.back;
      out = ap (λ (us : List Partial). x ∷ us) p.out;
      change = λ other. ap (λ (us : List Partial). x ∷ us) (p.change other);
    }

pub got : (units : List Partial) (place : ℕ) → place < length units → (unit : Partial) × (slice_get units place ≡ Some unit)
got [] place h = absurd (omega (arith, h))
got (x ∷ units) zero h = (x, refl)
got (x ∷ units) (suc place) h = got units place (omega (arith, h))

-- ---- octets
pub held_both : (before rest : List Partial) → octets_held (before ++ rest) ≡ octets_held before + octets_held rest
held_both [] rest = omega arith
held_both (x ∷ before) rest = omega (arith, held_both before rest)

-- ---- keys
pub apart_out : (before : List Partial) (unit : Partial) (rest : List Partial) → AreApart (before ++ unit ∷ rest) → AreApart (before ++ rest)
apart_out [] unit rest h = h.1
apart_out (x ∷ before) unit rest h =
    let P : Partial → Type 0 = λ other. key_of other ≢ key_of x in
    (all_both P before rest (all_front P before (unit ∷ rest) h.0) (all_back P before (unit ∷ rest) h.0).1, apart_out before unit rest h.1)

pub apart_change : (before : List Partial) (unit other : Partial) (rest : List Partial) → key_of other ≡ key_of unit → AreApart (before ++ unit ∷ rest) → AreApart (before ++ other ∷ rest)
apart_change [] unit other rest same h = (subst (λ (k : Key). AllByRecursion (λ u. key_of u ≢ k) rest) (sym same) h.0, h.1)
apart_change (x ∷ before) unit other rest same h =
    let P : Partial → Type 0 = λ u. key_of u ≢ key_of x in
    let back = all_back P before (unit ∷ rest) h.0 in (
      all_both P before (other ∷ rest) (all_front P before (unit ∷ rest) h.0) ((λ e. back.0 (sym same ∙ e)), back.1),
      apart_change before unit other rest same h.1,
    )

pub apart_more : (units : List Partial) (unit : Partial) → AllByRecursion (λ other. key_of other ≢ key_of unit) units → AreApart units → AreApart (units ++ unit ∷ [])
apart_more [] unit h k = (tt, tt)
apart_more (x ∷ units) unit h k =
    let P : Partial → Type 0 = λ other. key_of other ≢ key_of x in
    (all_both P units (unit ∷ []) k.0 ((λ e. h.0 (sym e)), tt), apart_more units unit h.1 k.1)

-- ---- the whole
pub within_out : (store : Holding) (before : List Partial) (unit : Partial) (rest : List Partial) → store.held ≡ before ++ unit ∷ rest → IsWithin store
    → IsWithin (record store { held = before ++ rest })
within_out store before unit rest e h =
    let all : AllByRecursion HasPlaces (before ++ unit ∷ rest) = subst (AllByRecursion HasPlaces) e h.places in
    record {
      units = omega (arith, h.units, ap (λ (us : List Partial). length us) e, length-append before (unit ∷ rest), length-append before rest);
      octets = omega (arith, h.octets, ap octets_held e, held_both before (unit ∷ rest), held_both before rest);
      apart = apart_out before unit rest (subst AreApart e h.apart);
      places = all_both HasPlaces before rest (all_front HasPlaces before (unit ∷ rest) all) (all_back HasPlaces before (unit ∷ rest) all).1;
    }

pub within_change : (store : Holding) (before : List Partial) (unit other : Partial) (rest : List Partial) → store.held ≡ before ++ unit ∷ rest → IsWithin store
    → key_of other ≡ key_of unit → HasPlaces other → octets_held store.held + filled_places other.held ≤ store.octets + filled_places unit.held
    → IsWithin (record store { held = before ++ other ∷ rest })
within_change store before unit other rest e h same places room =
    let all : AllByRecursion HasPlaces (before ++ unit ∷ rest) = subst (AllByRecursion HasPlaces) e h.places in
    record {
      units = omega (arith, h.units, ap (λ (us : List Partial). length us) e, length-append before (unit ∷ rest), length-append before (other ∷ rest));
      octets = omega (arith, room, ap octets_held e, held_both before (unit ∷ rest), held_both before (other ∷ rest));
      apart = apart_change before unit other rest same (subst AreApart e h.apart);
      places = all_both HasPlaces before (other ∷ rest) (all_front HasPlaces before (unit ∷ rest) all) (places, (all_back HasPlaces before (unit ∷ rest) all).1);
    }

pub within_more : (store : Holding) (unit : Partial) → IsWithin store → AllByRecursion (λ other. key_of other ≢ key_of unit) store.held → HasPlaces unit
    → length store.held < store.units → octets_held store.held + filled_places unit.held ≤ store.octets → IsWithin (record store { held = store.held ++ unit ∷ [] })
within_more store unit h apart places units room = record {
  units = omega (arith, units, length-append store.held (unit ∷ []));
  octets = omega (arith, room, held_both store.held (unit ∷ []));
  apart = apart_more store.held unit apart h.apart;
  places = all_both HasPlaces store.held (unit ∷ []) h.places (places, tt);
}

-- only the clock changed
pub within_at : (store other : Holding) → other.held ≡ store.held → other.units ≡ store.units → other.octets ≡ store.octets → IsWithin store → IsWithin other
within_at store other held units octets h = record {
  units = omega (arith, h.units, ap (λ (us : List Partial). length us) held, units);
  octets = omega (arith, h.octets, ap octets_held held, octets);
  apart = subst AreApart (sym held) h.apart;
  places = subst (AllByRecursion HasPlaces) (sym held) h.places;
}

-- ---- finding a key
pub own_key : (unit : Partial) → has_key (key_of unit) unit ≡ true
own_key unit = and_from _ _ (and_from _ _ (nat_list_eq_equiv.refl unit.source) (nat_list_eq_equiv.refl unit.destination)) (eq-eqb unit.id unit.id refl)

-- a unit that has not the key of another has another one
pub none_apart : (key : Key) (units : List Partial) → list_any (has_key key) units ≡ false → AllByRecursion (λ other. key_of other ≢ key) units
none_apart key [] h = tt
none_apart key (x ∷ units) h =
    let parts : (has_key key x ≡ false) × (list_any (has_key key) units ≡ false) = or_parts (has_key key x) (list_any (has_key key) units) h in
    ((λ e. clashing (subst (λ (k : Key). has_key k x ≡ true) e (own_key x)) parts.0), none_apart key units parts.1)
  where
    clashing : {b : Bool} → b ≡ true → b ≡ false → ⊥
    clashing h k = absurd cc

-- the place where a key is found
pub found_at : (key : Key) (units : List Partial) (place : ℕ) → position (has_key key) units ≡ Some place
    → (place < length units) × At key units (take place units) (slice_get units place) (drop (place + 1) units)
found_at key [] place h = absurd cc
found_at key (x ∷ units) place h =
    let all = x ∷ units in
    let is = position-Some (has_key key) all place x h in
    let unit = got all place is.0 in
    let p = parts all place unit.0 unit.1 in (
      is.0,
      At.There unit.0 unit.1 (p.whole ∙ ap (λ (us : List Partial). us ++ unit.0 ∷ p.rest) (sym p.front) ∙ ap (λ (us : List Partial). take place all ++ unit.0 ∷ us) (sym p.back))
          (subst (λ (u : Partial). has_key key u ≡ true) (get_or_from_slice_get all place unit.0 x unit.1) is.1)
          (none_before (has_key key) all place x is.0 is.2),
    )

-- a unit is taken out
pub withdrawn : (store : Holding) (place : ℕ) (unit : Partial) (new : List Partial) → IsWithin store → slice_get store.held place ≡ Some unit → new ≡ remove store.held place
    → IsWithin (record store { held = new }) × (octets_held store.held ≡ filled_places unit.held + octets_held new)
withdrawn store place unit new h there is =
    let p = parts store.held place unit there in
    let out : new ≡ p.before ++ p.rest = is ∙ p.out in (
      subst (λ (us : List Partial). IsWithin (record store { held = us })) (sym out) (within_out store p.before unit p.rest p.whole h),
      omega (arith, ap octets_held p.whole, held_both p.before (unit ∷ p.rest), held_both p.before p.rest, ap octets_held out),
    )

-- a unit is changed: octets of a segment are added
pub changed : (store : Holding) (place : ℕ) (unit new : Partial) (held : Held) (deadline fresh : ℕ) → IsWithin store → slice_get store.held place ≡ Some unit
    → new ≡ record unit { held = held; deadline = deadline } → held.header ≡ unit.held.header → held.total ≡ unit.held.total → length held.slots ≡ length unit.held.slots
    → filled_places held ≡ filled_places unit.held + fresh → octets_held store.held + fresh ≤ store.octets
    → IsWithin (record store { held = slice_set store.held place new }) × (octets_held store.held + fresh ≡ octets_held (slice_set store.held place new))
changed store place unit new held deadline fresh h there is header total long filled room =
    let p = parts store.held place unit there in
    let other : Partial = record unit { held = held; deadline = deadline } in
    let change : slice_set store.held place new ≡ p.before ++ other ∷ p.rest = ap (λ (u : Partial). slice_set store.held place u) is ∙ p.change other in
    let all : AllByRecursion HasPlaces (p.before ++ unit ∷ p.rest) = subst (AllByRecursion HasPlaces) p.whole h.places in
    let before : HasPlaces unit = (all_back HasPlaces p.before (unit ∷ p.rest) all).0 in
    let places : held.header + length held.slots ≡ held.total = omega (arith, before, header, total, long) in (
      subst (λ (us : List Partial). IsWithin (record store { held = us })) (sym change)
          (within_change store p.before unit other p.rest p.whole h refl places (omega (arith, filled, room))),
      omega (arith, ap octets_held p.whole, held_both p.before (unit ∷ p.rest), held_both p.before (other ∷ p.rest), ap octets_held change, filled),
    )

-- a unit is added
pub added : (store : Holding) (key : Key) (new : Partial) (units : List Partial) (fresh : ℕ) → IsWithin store → position (has_key key) store.held ≡ None → units ≡ store.held ++ new ∷ []
    → key_of new ≡ key → HasPlaces new → length store.held < store.units → filled_places new.held ≡ fresh → octets_held store.held + fresh ≤ store.octets
    → IsWithin (record store { held = units }) × (octets_held store.held + fresh ≡ octets_held units)
added store key new units fresh h none is same places room filled octets =
    let apart = subst (λ (k : Key). AllByRecursion (λ other. key_of other ≢ k) store.held) (sym same) (none_apart key store.held (none_there (has_key key) store.held none)) in (
      subst (λ (us : List Partial). IsWithin (record store { held = us })) (sym is) (within_more store new h apart places room (omega (arith, filled, octets))),
      omega (arith, ap octets_held is, held_both store.held (new ∷ []), filled),
    )

-- a place that two calls gave
pub same_got : (units : List Partial) (place : ℕ) (first second : Partial) → slice_get units place ≡ Some first → slice_get units place ≡ Some second → first ≡ second
same_got units place first second h k = let both : Some first ≡ Some second = sym h ∙ k in some_same first second both
  where
    some_same : (x y : Partial) → Some x ≡ Some y → x ≡ y
    some_same x y e = cc e

-- what stands at a place of a store that is opened
pub there_at : (had old : Holding) (place : ℕ) (unit : Partial) → had ≡ old → place < length old.held → unit ≡ get_or had.held place unit → slice_get old.held place ≡ Some unit
there_at had old place unit view low is =
    subst (λ (s : Holding). slice_get s.held place ≡ Some unit) view
    (slice_get-get_or had.held place unit (omega (arith, low, ap (λ (s : Holding). length s.held) view)) ∙ sym (ap Some is))
