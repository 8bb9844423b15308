-- What a system holds is of units afloat: segments of one unit are joined to it, and to no other, since units of one system that are
-- afloat have different identifiers.
use Rattle.std.proofs.Common.{◌≡◌, ◌≢◌, ◌⊎◌, ◌==◌, ◌&&◌, ℕ, ◌+◌, ◌-◌, ◌<◌, ◌≤◌, max, Bool, true, false, nat_eq, List, [], ◌∷◌, ◌++◌, length, refl, sym, ◌∙◌, ap, subst, inl, inr, arith, Option, Some, None}
use Rattle.std.specs.List.{AllByRecursion, filter}
use Rattle.std.specs.Cmp.Lexicographic.{pointwise}
use Rattle.std.proofs.lemmas.Bool.{le-leb}
use Rattle.nsap.specs.Address.{is_same_system, system_part}
use Rattle.clnp_segment.specs.Joining.{Clash, Held, IsOf, IsSegmentOf, IsUnit, Segment, Together}
use Rattle.clnp_segment.specs.Store.{At, There, New, Coming, Holding, Joins, Key, Partial, Takes, TakesAt, Expires, ExpiresFirst, found_or_nothing, has_key, key_of, partial_with}
use Rattle.clnp_segment.specs.Units.{AnswersOnly}
use Rattle.clnp_segment.specs.declared.store.Joined.{Joined}
use Rattle.clnp_segment.specs.declared.store.Joined.TheVariants as joined
use Rattle.clnp_segment.specs.declared.store.Expired.{Expired}
use Rattle.clnp_segment.proofs.Joins.{units_kept, units_no_clash, units_whole}
use Rattle.clnp_segment.proofs.Units.{key_there, nothing_is}
use Rattle.clnp_system.specs.Ticking.{ExpiresAll}
use Rattle.law_clnp_step.specs.Sound.{AreTellable, HaveDifferentIds, IsAmong, IsHeldFor, Origin, entry_of}
use Rattle.law_clnp_step.proofs.Carrying.{stays}
use Rattle.law_clnp_step.proofs.Lists.{all_back, all_both, all_front, all_weaker, among_all, among_filter, among_left}

-- ---- one unit for an identifier

pub same_numbers : (xs : List ℕ) → pointwise nat_eq xs xs ≡ true
same_numbers [] = refl
same_numbers (x ∷ xs) = grind (arith, same_numbers xs)

pub own_system : (address : List ℕ) → is_same_system address address ≡ true
own_system address = same_numbers (system_part address)

turned_numbers : (xs ys : List ℕ) → pointwise nat_eq xs ys ≡ true → pointwise nat_eq ys xs ≡ true
turned_numbers xs ys h = let e : xs ≡ ys = Rattle.clnp_segment.proofs.Units.same_numbers xs ys h in subst (λ (zs : List ℕ). pointwise nat_eq zs xs ≡ true) e (same_numbers xs)

pub turned_system : (one other : List ℕ) → is_same_system one other ≡ true → is_same_system other one ≡ true
turned_system one other h = turned_numbers (system_part one) (system_part other) h

pub one_origin : (origins : List Origin) (one other : Origin) (id : ℕ) → AreTellable origins → IsAmong one origins → IsAmong other origins
    → is_same_system one.unit.from other.unit.from ≡ true → one.id ≡ Some id → other.id ≡ Some id → one ≡ other
one_origin [] one other id t h k same a b = absurd h
one_origin (origin ∷ origins) one other id t (inl e) (inl f) same a b = e ∙ sym f
one_origin (origin ∷ origins) one other id t (inl e) (inr k) same a b =
    absurd (among_all (HaveDifferentIds origin) other origins k t.0 (subst (λ (o : Origin). is_same_system o.unit.from other.unit.from ≡ true) e same) id (subst (λ (o : Origin). o.id ≡ Some id) e a) b)
one_origin (origin ∷ origins) one other id t (inr h) (inl f) same a b =
    absurd (among_all (HaveDifferentIds origin) one origins h t.0 (subst (λ (o : Origin). is_same_system o.unit.from one.unit.from ≡ true) f (turned_system one.unit.from other.unit.from same)) id (subst (λ (o : Origin). o.id ≡ Some id) f b) a)
one_origin (origin ∷ origins) one other id t (inr h) (inr k) same a b = one_origin origins one other id t.1 h k same a b

-- ---- what a call makes of all that is held

-- of what was held of the key, where something was
abbrev pub FoundIs : (Partial → Type 0) → Option Partial → Type 0
FoundIs P None = Prim.Unit {0}
FoundIs P (Some unit) = P unit

found_is : (P : Partial → Type 0) (key : Key) (held before : List Partial) (found : Option Partial) (rest : List Partial) → At key held before found rest → AllByRecursion P held
    → AllByRecursion P before × AllByRecursion P rest × FoundIs P found
found_is P key held before found rest (There unit is stands has none) all =
    let parts : AllByRecursion P (before ++ unit ∷ rest) = subst (AllByRecursion P) stands all in
    let back = all_back P before (unit ∷ rest) parts in
    (all_front P before (unit ∷ rest) parts, back.1, subst (FoundIs P) (sym is) back.0)
found_is P key held before found rest (New is same none not_there) all = (subst (AllByRecursion P) (sym same) all, subst (AllByRecursion P) (sym none) tt, subst (FoundIs P) (sym is) tt)

takes_at : (P : Partial → Type 0) (store : Holding) (now : ℕ) (coming : Coming) (before : List Partial) (found : Option Partial) (rest : List Partial) (answer : Joined) (after : Holding)
    → AllByRecursion P store.held → AllByRecursion P before → AllByRecursion P rest
    → ((new : Held) → Joins found coming.segment new → P (partial_with found coming new (now + coming.left)))
    → TakesAt store now coming before found rest answer after → AllByRecursion P after.held
takes_at P store now coming before found rest joined.Interference after all front back new t = subst (λ (s : Holding). AllByRecursion P s.held) (sym t.1) (all_both P before rest front back)
takes_at P store now coming before found rest (joined.Whole octets) after all front back new t = subst (λ (s : Holding). AllByRecursion P s.held) (sym t.4) (all_both P before rest front back)
takes_at P store now coming before found rest joined.Full after all front back new t = subst (λ (s : Holding). AllByRecursion P s.held) (sym t.4) all
takes_at P store now coming before found rest joined.Held after all front back new t =
    subst (λ (s : Holding). AllByRecursion P s.held) (sym t.4) (all_both P before (partial_with found coming t.0 (now + coming.left) ∷ rest) front (new t.0 t.1, back))

pub takes_held : (P : Partial → Type 0) (store : Holding) (now : ℕ) (coming : Coming) (answer : Joined) (after : Holding) → AllByRecursion P store.held
    → ((held before : List Partial) (found : Option Partial) (rest : List Partial) (new : Held) → At coming.key held before found rest → FoundIs P found → Joins found coming.segment new
    → P (partial_with found coming new (now + coming.left)))
    → Takes store now coming answer after → AllByRecursion P after.held
takes_held P store now coming answer after all new t =
    let f = found_is P coming.key store.held t.before t.found t.rest t.at all in
    takes_at P store now coming t.before t.found t.rest answer after all f.0 f.1 (λ held j. new store.held t.before t.found t.rest held t.at f.2 j) t.takes

-- ---- time

-- nothing that is held is past its time, as what came has some left
pub takes_timely : (store : Holding) (now : ℕ) (coming : Coming) (answer : Joined) (after : Holding) → AllByRecursion (λ unit. now ≤ unit.deadline) store.held → Takes store now coming answer after
    → AllByRecursion (λ unit. now ≤ unit.deadline) after.held
takes_timely store now coming answer after all t = takes_held (λ unit. now ≤ unit.deadline) store now coming answer after all
    (λ held before found rest new at is j. late found new) t
  where
    late : (found : Option Partial) (new : Held) → now ≤ (partial_with found coming new (now + coming.left)).deadline
    late None new = omega arith
    late (Some unit) new = omega arith

-- ---- of units afloat

-- a segment of a unit afloat came, within the lifetime of its unit
pub record IsComing (origins : List Origin) (life now : ℕ) (coming : Coming) : Type 0 where
  pub origin : Origin
  pub there : IsAmong origin origins
  pub source : coming.key.source ≡ origin.unit.from
  pub destination : coming.key.destination ≡ origin.unit.to
  pub id : origin.id ≡ Some coming.key.id
  pub segment : IsSegmentOf origin.unit.octets origin.header coming.segment
  pub in_time : now + coming.left ≤ origin.tick + life

-- what is held of its key is of its unit
held_of : (origins : List Origin) (life now : ℕ) (coming : Coming) (held before : List Partial) (found : Option Partial) (rest : List Partial) → AreTellable origins → (c : IsComing origins life now coming)
    → At coming.key held before found rest → FoundIs (IsHeldFor origins life) found → IsOf c.origin.unit.octets c.origin.header (found_or_nothing found coming.segment)
held_of origins life now coming held before None rest t c at is = nothing_is c.origin.unit.octets c.origin.header coming.segment c.segment
held_of origins life now coming held before (Some unit) rest t c (There other same stands has none) is =
    let key : key_of other ≡ coming.key = key_there coming.key other has in
    let units : unit ≡ other = some_same unit other same in
    let source : unit.source ≡ coming.key.source = ap (λ (p : Partial). p.source) units ∙ ap (λ (k : Key). k.source) key in
    let number : unit.id ≡ coming.key.id = ap (λ (p : Partial). p.id) units ∙ ap (λ (k : Key). k.id) key in
    let from : is.origin.unit.from ≡ c.origin.unit.from = sym is.source ∙ source ∙ c.source in
    let alike : is_same_system is.origin.unit.from c.origin.unit.from ≡ true = subst (λ (a : List ℕ). is_same_system is.origin.unit.from a ≡ true) from (own_system is.origin.unit.from) in
    let one : is.origin ≡ c.origin = one_origin origins is.origin c.origin coming.key.id t is.there c.there alike (is.id ∙ ap Some number) c.id in
    subst (λ (o : Origin). IsOf o.unit.octets o.header unit.held) one is.is_of
  where
    some_same : (one two : Partial) → Some one ≡ Some two → one ≡ two
    some_same one two e = cc
held_of origins life now coming held before (Some unit) rest t c (New none same nothing not_there) is = absurd cc

pub takes_known : (origins : List Origin) (life : ℕ) (store : Holding) (now : ℕ) (coming : Coming) (answer : Joined) (after : Holding) → AreTellable origins → IsComing origins life now coming
    → AllByRecursion (IsHeldFor origins life) store.held → Takes store now coming answer after → AllByRecursion (IsHeldFor origins life) after.held
takes_known origins life store now coming answer after tellable c all t = takes_held (IsHeldFor origins life) store now coming answer after all new t
  where
    with_found : (held before : List Partial) (found : Option Partial) (rest : List Partial) (new : Held) → At coming.key held before found rest → FoundIs (IsHeldFor origins life) found
        → IsOf c.origin.unit.octets c.origin.header new → IsHeldFor origins life (partial_with found coming new (now + coming.left))
    with_found held before None rest new at is h = record {
      origin = c.origin;
      there = c.there;
      source = c.source;
      destination = c.destination;
      id = c.id;
      is_of = h;
      deadline = c.in_time;
    }
    with_found held before (Some unit) rest new (There other same stands has none) is h =
        let key : key_of other ≡ coming.key = key_there coming.key other has in
        let units : unit ≡ other = some_same unit other same in
        let source : unit.source ≡ coming.key.source = ap (λ (p : Partial). p.source) units ∙ ap (λ (k : Key). k.source) key in
        let destination : unit.destination ≡ coming.key.destination = ap (λ (p : Partial). p.destination) units ∙ ap (λ (k : Key). k.destination) key in
        let number : unit.id ≡ coming.key.id = ap (λ (p : Partial). p.id) units ∙ ap (λ (k : Key). k.id) key in
        let from : is.origin.unit.from ≡ c.origin.unit.from = sym is.source ∙ source ∙ c.source in
        let alike : is_same_system is.origin.unit.from c.origin.unit.from ≡ true = subst (λ (a : List ℕ). is_same_system is.origin.unit.from a ≡ true) from (own_system is.origin.unit.from) in
        let one : is.origin ≡ c.origin = one_origin origins is.origin c.origin coming.key.id tellable is.there c.there alike (is.id ∙ ap Some number) c.id in
        let bound : unit.deadline ≤ c.origin.tick + life = subst (λ (o : Origin). unit.deadline ≤ o.tick + life) one is.deadline in record {
          origin = c.origin;
          there = c.there;
          source = source ∙ c.source;
          destination = destination ∙ c.destination;
          id = c.id ∙ ap Some (sym number);
          is_of = h;
          deadline = omega (arith, bound, c.in_time);
        }
      where
        some_same : (one two : Partial) → Some one ≡ Some two → one ≡ two
        some_same one two e = cc
    with_found held before (Some unit) rest new (New none same nothing not_there) is h = absurd cc

    new : (held before : List Partial) (found : Option Partial) (rest : List Partial) (next : Held) → At coming.key held before found rest → FoundIs (IsHeldFor origins life) found
        → Joins found coming.segment next → IsHeldFor origins life (partial_with found coming next (now + coming.left))
    new held before found rest next at is j =
        with_found held before found rest next at is
        (units_kept c.origin.unit.octets c.origin.header (found_or_nothing found coming.segment) coming.segment next (held_of origins life now coming held before found rest tellable c at is) c.segment j.1)

-- what comes out whole is the unit
pub takes_unit : (origins : List Origin) (life : ℕ) (store : Holding) (now : ℕ) (coming : Coming) (octets : List ℕ) (after : Holding) → AreTellable origins → (c : IsComing origins life now coming)
    → AllByRecursion (IsHeldFor origins life) store.held → Takes store now coming (joined.Whole octets) after → octets ≡ c.origin.unit.octets
takes_unit origins life store now coming octets after tellable c all t =
    let f = found_is (IsHeldFor origins life) coming.key store.held t.before t.found t.rest t.at all in
    let was = held_of origins life now coming store.held t.before t.found t.rest tellable c t.at f.2 in
    let is = units_kept c.origin.unit.octets c.origin.header (found_or_nothing t.found coming.segment) coming.segment t.takes.0 was c.segment t.takes.1.1 in
    units_whole c.origin.unit.octets octets c.origin.header t.takes.0 is t.takes.3

-- ---- what expires

expires_all : (P : Partial → Type 0) (store : Holding) (now : ℕ) (list : List Expired) (after : Holding) → AllByRecursion P store.held → ExpiresAll store now list after
    → AllByRecursion P after.held × AllByRecursion (λ unit. now ≤ unit.deadline) after.held
expires_all P store now [] after all e = (
  subst (λ (s : Holding). AllByRecursion P s.held) (sym e.1) all,
  subst (λ (s : Holding). AllByRecursion (λ unit. now ≤ unit.deadline) s.held) (sym e.1) e.0,
)
expires_all P store now (expired ∷ list) after all e = expires_all P e.0 now list after (first e.0 e.1) e.2
  where
    first : (mid : Holding) → ExpiresFirst store now expired mid → AllByRecursion P mid.held
    first mid x =
        let parts : AllByRecursion P (x.before ++ x.unit ∷ x.rest) = subst (AllByRecursion P) x.stands all in
        subst (λ (s : Holding). AllByRecursion P s.held) (sym x.after_is) (all_both P x.before x.rest (all_front P x.before (x.unit ∷ x.rest) parts) (all_back P x.before (x.unit ∷ x.rest) parts).1)

pub expires_timely : (store : Holding) (now : ℕ) (list : List Expired) (after : Holding) → ExpiresAll store now list after → AllByRecursion (λ unit. now ≤ unit.deadline) after.held
expires_timely store now list after e = (expires_all (λ unit. Prim.Unit {0}) store now list after (trivial store.held) e).1
  where
    trivial : (held : List Partial) → AllByRecursion (λ unit. Prim.Unit {0}) held
    trivial [] = tt
    trivial (unit ∷ held) = (tt, trivial held)

-- among the units that stay afloat, with less and with more
held_young : (origins : List Origin) (life now : ℕ) (held : Partial) → IsHeldFor origins life held → now ≤ held.deadline → IsHeldFor (filter (stays now life) origins) life held
held_young origins life now held h due = record {
  origin = h.origin;
  there = among_filter (stays now life) h.origin origins h.there (le-leb now (h.origin.tick + life) (omega (arith, due, h.deadline)));
  source = h.source;
  destination = h.destination;
  id = h.id;
  is_of = h.is_of;
  deadline = h.deadline;
}

pub held_more : (origins more : List Origin) (life : ℕ) (held : Partial) → IsHeldFor origins life held → IsHeldFor (origins ++ more) life held
held_more origins more life held h = record {
  origin = h.origin;
  there = among_left h.origin origins more h.there;
  source = h.source;
  destination = h.destination;
  id = h.id;
  is_of = h.is_of;
  deadline = h.deadline;
}

pub expires_known : (origins : List Origin) (life : ℕ) (store : Holding) (now : ℕ) (list : List Expired) (after : Holding) → AllByRecursion (IsHeldFor origins life) store.held
    → ExpiresAll store now list after → AllByRecursion (IsHeldFor (filter (stays now life) origins) life) after.held
expires_known origins life store now list after all e =
    let k = expires_all (IsHeldFor origins life) store now list after all e in
    Rattle.law_clnp_step.proofs.Lists.all_two (IsHeldFor origins life) (λ unit. now ≤ unit.deadline) (IsHeldFor (filter (stays now life) origins) life) after.held
    (λ unit h due. held_young origins life now unit h due) k.0 k.1
