-- The list holds the deadline of each unit: an entry changes, comes or goes with its unit. So the first entry of the least tick that is past is
-- the first unit of least deadline.
use Rattle.std.proofs.Common.{◌≡◌, ◌⊎◌, ℕ, zero, suc, ◌+◌, ◌<◌, ◌≤◌, List, [], ◌∷◌, ◌++◌, length, map, set, slice_get, slice_set, Option, Some, None, refl, sym, ◌∙◌, ap, subst, arith, inl, inr}
use Rattle.std.specs.List.{AllByRecursion, remove}
use Rattle.due_links.specs.Entries.{Entries, TakesDue}
use Rattle.due_links.specs.Ticks.{tick_at}
use Rattle.clnp_segment.specs.Store.{ExpiresFirst, Holding, Partial}
use Rattle.clnp_segment.specs.declared.store.Expired.{Expired}
use Rattle.clnp_segment.specs.steps.Due.{AreDeadlines, FindsDue, IsDue, deadline_of}
use Rattle.clnp_segment.proofs.Storing.{same_got}

abbrev Ticks : Type 0
Ticks = List (Option ℕ)

abbrev deadline_at : List Partial → ℕ → Option ℕ
deadline_at held place = tick_at (map deadline_of held) place

-- ---- the deadline at a place
deadline_there : (held : List Partial) (place : ℕ) (unit : Partial) → slice_get held place ≡ Some unit → deadline_at held place ≡ Some unit.deadline
deadline_there [] place unit is = absurd cc
deadline_there (x ∷ held) zero unit is = same x unit is
  where
    same : (x unit : Partial) → Some x ≡ Some unit → Some x.deadline ≡ Some unit.deadline
    same x unit e = let both : x ≡ unit = cc in ap deadline_of both
deadline_there (x ∷ held) (suc place) unit is = deadline_there held place unit is

-- the unit that has the deadline at a place
record IsThere (held : List Partial) (place at : ℕ) : Type 0 where
  unit : Partial
  got : slice_get held place ≡ Some unit
  until : unit.deadline ≡ at

deadline_some : (held : List Partial) (place at : ℕ) → deadline_at held place ≡ Some at → IsThere held place at
deadline_some [] place at is = absurd cc
deadline_some (x ∷ held) zero at is = record { unit = x; got = refl; until = cc }
deadline_some (x ∷ held) (suc place) at is =
    let h = deadline_some held place at is in
    record { unit = h.unit; got = h.got; until = h.until }

-- ---- an entry changes, comes or goes
pub listed_long : (held : List Partial) → length (map deadline_of held) ≡ length held
listed_long [] = refl
listed_long (x ∷ held) = ap (λ (n : ℕ). suc n) (listed_long held)

set_is : (held : List Partial) (place : ℕ) (unit : Partial) → set (map deadline_of held) place (Some unit.deadline) ≡ map deadline_of (slice_set held place unit)
set_is [] place unit = refl
set_is (x ∷ held) zero unit = refl
set_is (x ∷ held) (suc place) unit = ap (λ (ticks : Ticks). Some x.deadline ∷ ticks) (set_is held place unit)

push_is : (held : List Partial) (unit : Partial) → map deadline_of held ++ Some unit.deadline ∷ [] ≡ map deadline_of (held ++ unit ∷ [])
push_is [] unit = refl
push_is (x ∷ held) unit = ap (λ (ticks : Ticks). Some x.deadline ∷ ticks) (push_is held unit)

remove_is : (held : List Partial) (place : ℕ) → remove (map deadline_of held) place ≡ map deadline_of (remove held place)
remove_is [] zero = refl
remove_is [] (suc place) = refl
remove_is (x ∷ held) zero = refl
remove_is (x ∷ held) (suc place) = ap (λ (ticks : Ticks). Some x.deadline ∷ ticks) (remove_is held place)

abbrev with_ticks : ℕ → Ticks → Entries
with_ticks units ticks = record { most = units; ticks = ticks }

pub changed_due : (units : ℕ) (held : List Partial) (place : ℕ) (unit : Partial) (tick : Option ℕ) (due new : Entries) → AreDeadlines units held due → tick ≡ Some unit.deadline
    → new ≡ record due { ticks = slice_set due.ticks place tick } → AreDeadlines units (slice_set held place unit) new
changed_due units held place unit tick due new was tick_is is =
    is ∙ (ap (λ (e : Entries). let n : Entries = record e { ticks = slice_set e.ticks place tick } in n) was
    ∙ (ap (λ (t : Option ℕ). with_ticks units (set (map deadline_of held) place t)) tick_is ∙ ap (with_ticks units) (set_is held place unit)))

pub added_due : (units : ℕ) (held more : List Partial) (unit : Partial) (tick : Option ℕ) (due new : Entries) → more ≡ held ++ unit ∷ [] → AreDeadlines units held due → tick ≡ Some unit.deadline
    → new ≡ record due { ticks = due.ticks ++ tick ∷ [] } → AreDeadlines units more new
added_due units held more unit tick due new more_is was tick_is is =
    is ∙ (ap (λ (e : Entries). let n : Entries = record e { ticks = e.ticks ++ tick ∷ [] } in n) was
    ∙ (ap (λ (t : Option ℕ). with_ticks units (map deadline_of held ++ t ∷ [])) tick_is
    ∙ (ap (with_ticks units) (push_is held unit) ∙ ap (λ (us : List Partial). with_ticks units (map deadline_of us)) (sym more_is))))

pub removed_due : (units : ℕ) (held rest : List Partial) (place : ℕ) (due new : Entries) → rest ≡ remove held place → AreDeadlines units held due
    → new ≡ record due { ticks = remove due.ticks place } → AreDeadlines units rest new
removed_due units held rest place due new rest_is was is =
    is ∙ (ap (λ (e : Entries). let n : Entries = record e { ticks = remove e.ticks place } in n) was
    ∙ (ap (with_ticks units) (remove_is held place) ∙ ap (λ (us : List Partial). with_ticks units (map deadline_of us)) (sym rest_is)))

pub due_within : (units : ℕ) (held : List Partial) (due : Entries) (place : ℕ) → AreDeadlines units held due → place < length held → place < length due.ticks
due_within units held due place was low = omega (arith, low, listed_long held, ap (λ (e : Entries). length e.ticks) was)

pub due_room : (units : ℕ) (held : List Partial) (due : Entries) → AreDeadlines units held due → length held < units → length due.ticks < due.most
due_room units held due was low = omega (arith, low, listed_long held, ap (λ (e : Entries). length e.ticks) was, ap (λ (e : Entries). e.most) was)

there : (before : List Partial) (unit : Partial) (rest : List Partial) → slice_get (before ++ unit ∷ rest) (length before) ≡ Some unit
there [] unit rest = refl
there (x ∷ before) unit rest = there before unit rest

-- ---- the first that is due
all_index : (P : Partial → Type 0) (held : List Partial) → ((k : ℕ) (unit : Partial) → slice_get held k ≡ Some unit → P unit) → AllByRecursion P held
all_index P [] h = tt
all_index P (x ∷ held) h = (h zero x refl, all_index P held (λ k unit is. h (suc k) unit is))

pub none_before : (now : ℕ) (held : List Partial) → now ≡ 0 → FindsDue now held None
none_before now held first = all_index (λ unit. now ≤ unit.deadline) held (λ k unit is. omega (arith, first))

pub finds_none : (now before units : ℕ) (held : List Partial) (due popped : Entries) → now ≡ before + 1 → AreDeadlines units held due → TakesDue due before None popped
    → FindsDue now held None
finds_none now before units held due popped next was pops =
    all_index (λ unit. now ≤ unit.deadline) held
    (λ k unit is. let later : before < unit.deadline = pops.1 k unit.deadline (ap (λ (e : Entries). tick_at e.ticks k) was ∙ deadline_there held k unit is) in omega (arith, next, later))

-- the unit at a place, before which all have later deadlines, and behind which none has an earlier one
least_at : (now : ℕ) (held : List Partial) (place : ℕ) (unit : Partial) → slice_get held place ≡ Some unit → unit.deadline < now
    → ((k : ℕ) (other : Partial) → slice_get held k ≡ Some other → (unit.deadline < other.deadline) ⊎ ((unit.deadline ≡ other.deadline) × (place ≤ k)))
    → IsDue now held place
least_at now [] place unit is past others = absurd cc
least_at now (x ∷ held) zero unit is past others =
    let same : x ≡ unit = some_same x unit is in
    record {
      before = [];
      unit = unit;
      rest = held;
      stands = ap (λ (u : Partial). u ∷ held) same;
      counted = refl;
      past = past;
      sooner = tt;
      first = all_index (λ other. unit.deadline ≤ other.deadline) held (λ k other there. upto k other (others (suc k) other there));
    }
  where
    some_same : (x y : Partial) → Some x ≡ Some y → x ≡ y
    some_same x y e = cc e

    upto : (k : ℕ) (other : Partial) → (unit.deadline < other.deadline) ⊎ ((unit.deadline ≡ other.deadline) × (0 ≤ suc k)) → unit.deadline ≤ other.deadline
    upto k other (inl later) = omega (arith, later)
    upto k other (inr same) = omega (arith, same.0)
least_at now (x ∷ held) (suc place) unit is past others =
    let d = least_at now held place unit is past (λ k other there. shift k other (others (suc k) other there)) in
    record {
      before = x ∷ d.before;
      unit = d.unit;
      rest = d.rest;
      stands = ap (λ (us : List Partial). x ∷ us) d.stands;
      counted = ap (λ (n : ℕ). suc n) d.counted;
      past = d.past;
      sooner = (subst (λ (u : Partial). u.deadline < x.deadline) (same_got held place unit d.unit is (at_before d)) (before_it (others zero x refl)), d.sooner);
      first = d.first;
    }
  where
    at_before : (d : IsDue now held place) → slice_get held place ≡ Some d.unit
    at_before d = subst (λ (us : List Partial). slice_get us place ≡ Some d.unit) (sym d.stands)
        (subst (λ (n : ℕ). slice_get (d.before ++ d.unit ∷ d.rest) n ≡ Some d.unit) (sym d.counted) (there d.before d.unit d.rest))

    before_it : (unit.deadline < x.deadline) ⊎ ((unit.deadline ≡ x.deadline) × (suc place ≤ 0)) → unit.deadline < x.deadline
    before_it (inl later) = later
    before_it (inr same) = absurd (omega (arith, same.1))

    shift : (k : ℕ) (other : Partial) → (unit.deadline < other.deadline) ⊎ ((unit.deadline ≡ other.deadline) × (suc place ≤ suc k))
        → (unit.deadline < other.deadline) ⊎ ((unit.deadline ≡ other.deadline) × (place ≤ k))
    shift k other (inl later) = inl later
    shift k other (inr same) = inr (same.0, omega (arith, same.1))

pub finds_some : (now before units : ℕ) (held : List Partial) (due popped : Entries) (place : ℕ) → now ≡ before + 1 → AreDeadlines units held due
    → TakesDue due before (Some place) popped → IsDue now held place
finds_some now before units held due popped place next was pops =
    let at = pops.2 in
    let h = deadline_some held place at (ap (λ (e : Entries). tick_at e.ticks place) (sym was) ∙ pops.3.set) in
    least_at now held place h.unit h.got (omega (arith, next, h.until, pops.4))
    (λ k other is. by h.unit k other (pops.3.least k other.deadline (ap (λ (e : Entries). tick_at e.ticks k) was ∙ deadline_there held k other is)) h.until)
  where
    by : (unit : Partial) (k : ℕ) (other : Partial) → (pops.2 < other.deadline) ⊎ ((pops.2 ≡ other.deadline) × (place ≤ k)) → unit.deadline ≡ pops.2
        → (unit.deadline < other.deadline) ⊎ ((unit.deadline ≡ other.deadline) × (place ≤ k))
    by unit k other (inl later) until = inl (omega (arith, later, until))
    by unit k other (inr same) until = inr (until ∙ same.0, same.1)

-- it is among those that are held
pub found_within : (before units : ℕ) (held : List Partial) (due popped : Entries) (place : ℕ) → AreDeadlines units held due → TakesDue due before (Some place) popped → place < length held
found_within before units held due popped place was pops = omega (arith, pops.0, listed_long held, ap (λ (e : Entries). length e.ticks) was)

-- ---- it is taken out
out : (before : List Partial) (unit : Partial) (rest : List Partial) → remove (before ++ unit ∷ rest) (length before) ≡ before ++ rest
out [] unit rest = refl
out (x ∷ before) unit rest = ap (λ (us : List Partial). x ∷ us) (out before unit rest)

pub expires_first : (store : Holding) (now place : ℕ) (unit : Partial) (expired : Expired) (after : Holding) → IsDue now store.held place
    → slice_get store.held place ≡ Some unit → expired ≡ record { source = unit.source; reportable = unit.reportable; header = unit.first }
    → after ≡ record store { clock = now; held = remove store.held place } → ExpiresFirst store now expired after
expires_first store now place unit expired after d at is after_is =
    let here : slice_get store.held place ≡ Some d.unit =
    subst (λ (us : List Partial). slice_get us place ≡ Some d.unit) (sym d.stands)
    (subst (λ (n : ℕ). slice_get (d.before ++ d.unit ∷ d.rest) n ≡ Some d.unit) (sym d.counted) (there d.before d.unit d.rest)) in
    let same : unit ≡ d.unit = same_got store.held place unit d.unit at here in
    let removed : remove store.held place ≡ d.before ++ d.rest =
    ap (λ (us : List Partial). remove us place) d.stands ∙ ap (λ (n : ℕ). remove (d.before ++ d.unit ∷ d.rest) n) d.counted ∙ out d.before d.unit d.rest in
    record {
      before = d.before;
      unit = d.unit;
      rest = d.rest;
      stands = d.stands;
      past = d.past;
      sooner = d.sooner;
      first = d.first;
      expired_is = is ∙ ap (λ (u : Partial). let e : Expired = record { source = u.source; reportable = u.reportable; header = u.first } in e) same;
      after_is = after_is ∙ ap (λ (us : List Partial). record store { clock = now; held = us }) removed;
    }
