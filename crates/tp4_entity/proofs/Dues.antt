-- The due ticks of the places, and the first place that is due: all that are due have the same tick, so it is that of the least id.
use Rattle.std.proofs.Common.{replicate, slice_get, ◌≡◌, ◌≢◌, ◌⊎◌, ◌||◌, ℕ, zero, suc, ◌+◌, ◌<◌, ◌≤◌, Bool, true, false, nat_le, List, [], ◌∷◌, length, get_or, map, set, is_some, Option, Some, None, Ok, Err, Result, inl, inr, refl, sym, ap, subst, ◌∙◌, arith}
use Rattle.std.specs.List.{list_any, position}
use Rattle.std.specs.Prelude.{OnOk}
use Rattle.std.proofs.lemmas.Bool.{le-leb, lt-leb, leb-true, leb-false, false_from_ne_true}
use Rattle.std.proofs.lemmas.Option.{same_Some}
use Rattle.std.proofs.lemmas.List.{map-set, get_or_past, get_or_read, length-map, length-set, set-set}
use Rattle.std.proofs.Math.ListN.{get_or-map}
use Rattle.due_links.specs.Ticks.{IsFirst, IsLeast, Pops, tick_at}
use Rattle.tp4_conn.specs.Dues.{IsBefore}
use Rattle.tp4_conn.specs.End.{End}
use Rattle.tp4_conn.specs.Living.{IsInTime}
use Rattle.tp4_conn.specs.Table.{due}
use Rattle.tp4_entity.specs.Dues.{AreFrom, AreLater, due_at, dues_of}
use Rattle.tp4_entity.specs.Entity.{Entity, at as now_at, with_end}
use Rattle.tp4_entity.specs.Step.{is_due, is_due_by}
use Rattle.tp4_entity.specs.steps.Places.{Lasts}

-- the tick of a place
pub due_there : (ends : List (Option End)) (place : ℕ) → tick_at (dues_of ends) place ≡ due_at (get_or ends place None)
due_there ends place = get_or-map due_at ends place None

pub from_at : (now : ℕ) (ends : List (Option End)) (place : ℕ) → AreFrom now ends → IsInTime (due_at (get_or ends place None)) now
from_at now [] place h = tt
from_at now (end ∷ ends) zero h = h.0
from_at now (end ∷ ends) (suc place) h = from_at now ends place h.1

pub is_due_at : (now : ℕ) (place : Option End) → is_due now place ≡ is_due_by now (due_at place)
is_due_at now None = refl
is_due_at now (Some end) = refl

-- ---- none is due

later_not_due : (now : ℕ) (due : Option ℕ) → ((at : ℕ) → due ≡ Some at → now < at) → is_due_by now due ≡ false
later_not_due now None h = refl
later_not_due now (Some at) h = lt-leb at now (h at refl)

none_more : (p : Option End → Bool) (end : Option End) (ends : List (Option End)) → p end ≡ false → position p ends ≡ None → position p (end ∷ ends) ≡ None
none_more p end ends here rest = grind (arith, here, rest)

pub none_due : (now : ℕ) (ends : List (Option End)) → ((place at : ℕ) → tick_at (dues_of ends) place ≡ Some at → now < at) → position (is_due now) ends ≡ None
none_due now [] h = refl
none_due now (end ∷ ends) h =
    let here : is_due now end ≡ false = is_due_at now end ∙ later_not_due now (due_at end) (λ at e. h zero at e) in
    none_more (is_due now) end ends here (none_due now ends (λ place at e. h (suc place) at e))

-- ---- the first that is due

first_at : (p : Option End → Bool) (ends : List (Option End)) (place : ℕ) → place < length ends → p (get_or ends place None) ≡ true
    → ((before : ℕ) → before < place → p (get_or ends before None) ≡ false) → position p ends ≡ Some place
first_at p [] place low due others = absurd (omega (arith, low))
first_at p (end ∷ ends) zero low due others = grind (arith, due)
first_at p (end ∷ ends) (suc place) low due others =
    let here : p end ≡ false = others zero (omega arith) in
    let rest : position p ends ≡ Some place = first_at p ends place (omega (arith, low)) due (λ before h. others (suc before) (omega (arith, h))) in
    grind (arith, here, rest)

is_by : (now at : ℕ) (due : Option ℕ) → due ≡ Some at → at ≤ now → is_due_by now due ≡ true
is_by now at due e low = ap (is_due_by now) e ∙ le-leb at now low

due_is : (now : ℕ) (due : Option ℕ) → is_due_by now due ≡ true → (at : ℕ) × (due ≡ Some at) × (at ≤ now)
due_is now None h = absurd cc
due_is now (Some at) h = (at, refl, leb-true at now h)

pub least_due : (now : ℕ) (ends : List (Option End)) (place at : ℕ) → AreFrom now ends → place < length ends → IsLeast (dues_of ends) place at → at ≤ now
    → position (is_due now) ends ≡ Some place
least_due now ends place at from low least soon =
    let here : due_at (get_or ends place None) ≡ Some at = sym (due_there ends place) ∙ least.set in
    first_at (is_due now) ends place low (is_due_at now (get_or ends place None) ∙ is_by now at (due_at (get_or ends place None)) here soon)
    (λ before h. false_from_ne_true (is_due now (get_or ends before None)) (λ due. (
    let found = due_is now (due_at (get_or ends before None)) (sym (is_due_at now (get_or ends before None)) ∙ due) in
    let tick : tick_at (dues_of ends) before ≡ Some found.0 = due_there ends before ∙ found.1 in
    let other : IsInTime (Some found.0) now = subst (λ (d : Option ℕ). IsInTime d now) found.1 (from_at now ends before from) in
    let mine : IsInTime (Some at) now = subst (λ (d : Option ℕ). IsInTime d now) here (from_at now ends place from) in
    elim (least.least before found.0 tick) [
      | inl sooner ↦ omega (arith, sooner, found.2, mine)
      | inr same ↦ omega (arith, same.1, h)
    ])))

pub set_dues : (ends : List (Option End)) (place : ℕ) (end : Option End) (due : Option ℕ) → due ≡ due_at end → set (dues_of ends) place due ≡ dues_of (set ends place end)
set_dues ends place end due h = ap (λ (d : Option ℕ). set (dues_of ends) place d) h ∙ sym (map-set due_at ends place end)

-- ---- what `pop` and `first` say of the ends

pub popped_none : (now : ℕ) (due new : List (Option ℕ)) (ends : List (Option End)) → due ≡ dues_of ends → Pops due now None new → position (is_due now) ends ≡ None
popped_none now due new ends is h =
    none_due now ends (λ place at e. h.1 place at (ap (λ (ticks : List (Option ℕ)). tick_at ticks place) is ∙ e))

least_same : (due : List (Option ℕ)) (ends : List (Option End)) (place at : ℕ) → due ≡ dues_of ends → IsLeast due place at → IsLeast (dues_of ends) place at
least_same due ends place at is h = subst (λ (ticks : List (Option ℕ)). IsLeast ticks place at) is h

pub place_within : (ends : List (Option End)) (place at : ℕ) → IsLeast (dues_of ends) place at → place < length ends
place_within ends place at h = let low : place < length (dues_of ends) = grind (arith, get_or_past, h.set) in omega (arith, low, length-map ends due_at)

pub popped_place : (now place : ℕ) (due new : List (Option ℕ)) (ends : List (Option End)) → due ≡ dues_of ends → Pops due now (Some place) new → place < length ends
popped_place now place due new ends is h = place_within ends place h.1 (least_same due ends place h.1 is h.2)

pub popped_first : (now place : ℕ) (due new : List (Option ℕ)) (ends : List (Option End)) → AreFrom now ends → due ≡ dues_of ends → Pops due now (Some place) new
    → position (is_due now) ends ≡ Some place
popped_first now place due new ends from is h =
    let least = least_same due ends place h.1 is h.2 in
    least_due now ends place h.1 from (place_within ends place h.1 least) least h.3

pub popped_from : (now place : ℕ) (end : Option End) (ends : List (Option End)) → AreFrom now ends → place < length ends → end ≡ get_or ends place end → IsInTime (due_at end) now
popped_from now place end ends from low read = subst (λ (e : Option End). IsInTime (due_at e) now) (sym (get_or_read ends place end low read None)) (from_at now ends place from)

pub popped_set : (now place : ℕ) (due new after : List (Option ℕ)) (ends : List (Option End)) (end : Option End) (tick : Option ℕ) → due ≡ dues_of ends → Pops due now (Some place) new
    → after ≡ set new place tick → tick ≡ due_at end → after ≡ dues_of (set ends place end)
popped_set now place due new after ends end tick is h set_is tick_is =
    set_is ∙ ap (λ (ticks : List (Option ℕ)). set ticks place tick) (h.0 ∙ ap (λ (ticks : List (Option ℕ)). set ticks place None) is) ∙ set-set (dues_of ends) place None tick ∙ set_dues ends place end tick tick_is

-- ---- `first`

none_any : (p : Option End → Bool) (ends : List (Option End)) → ((place : ℕ) → p (get_or ends place None) ≡ false) → list_any p ends ≡ false
none_any p [] h = refl
none_any p (end ∷ ends) h = grind (arith, h zero, none_any p ends (λ place. h (suc place)))

some_any : (p : Option End → Bool) (ends : List (Option End)) (place : ℕ) → place < length ends → p (get_or ends place None) ≡ true → list_any p ends ≡ true
some_any p [] place low h = absurd (omega (arith, low))
some_any p (end ∷ ends) zero low h = ap (λ (b : Bool). b || list_any p ends) h
some_any p (end ∷ ends) (suc place) low h = grind (arith, some_any p ends place (omega (arith, low)) h)

pub first_none : (now : ℕ) (due : List (Option ℕ)) (ends : List (Option End)) → due ≡ dues_of ends → IsFirst due None → false ≡ list_any (is_due now) ends
first_none now due ends is none =
    sym (none_any (is_due now) ends (λ place. (
    let tick : due_at (get_or ends place None) ≡ None = sym (due_there ends place) ∙ ap (λ (ticks : List (Option ℕ)). tick_at ticks place) (sym is) ∙ none place in
    is_due_at now (get_or ends place None) ∙ ap (is_due_by now) tick)))

pub first_some : (now at : ℕ) (due : List (Option ℕ)) (ends : List (Option End)) → due ≡ dues_of ends → IsFirst due (Some at) → nat_le at now ≡ list_any (is_due now) ends
first_some now at due ends is first = by (nat_le at now) refl
  where
    least : IsLeast (dues_of ends) first.0 at
    least = least_same due ends first.0 at is first.1

    by : (b : Bool) → nat_le at now ≡ b → nat_le at now ≡ list_any (is_due now) ends
    by true e =
        e ∙ sym (some_any (is_due now) ends first.0 (place_within ends first.0 at least)
        (is_due_at now (get_or ends first.0 None) ∙ is_by now at (due_at (get_or ends first.0 None)) (sym (due_there ends first.0) ∙ least.set) (leb-true at now e)))
    by false e =
        e ∙ sym (none_any (is_due now) ends (λ place. is_due_at now (get_or ends place None) ∙ later_not_due now (due_at (get_or ends place None)) (λ later h. (
        let above : now < at = leb-false at now e in
        elim (least.least place later (due_there ends place ∙ h)) [
          | inl after ↦ omega (arith, above, after)
          | inr same ↦ omega (arith, above, same.0)
        ]))))

-- ---- one place

pub from_get : (now at : ℕ) (ends : List (Option End)) (place : Option End) → AreFrom now ends → slice_get ends at ≡ Some place → IsInTime (due_at place) now
from_get now at [] place h is = absurd cc
from_get now zero (one ∷ ends) place h is = subst (λ (p : Option End). IsInTime (due_at p) now) (same_Some one place is) h.0
from_get now (suc at) (one ∷ ends) place h is = from_get now at ends place h.1 is

pub due_put : (due after : List (Option ℕ)) (ends : List (Option End)) (at : ℕ) (place : Option End) (tick : Option ℕ) → due ≡ dues_of ends → after ≡ set due at tick → tick ≡ due_at place → after ≡ dues_of (set ends at place)
due_put due after ends at place tick is after_is tick_is = after_is ∙ ap (λ (ticks : List (Option ℕ)). set ticks at tick) is ∙ set_dues ends at place tick tick_is

pub due_new : (n m : ℕ) (due : List (Option ℕ)) (ends : List (Option End)) → due ≡ replicate n None → ends ≡ replicate m None → n ≡ m → due ≡ dues_of ends
due_new n m due ends h g same = h ∙ ap (λ (k : ℕ). replicate k None) same ∙ sym (none m) ∙ sym (ap dues_of g)
  where
    none : (k : ℕ) → dues_of (replicate k None) ≡ replicate k None
    none zero = refl
    none (suc k) = ap (λ (xs : List (Option ℕ)). None ∷ xs) (none k)

pub dues_long : (due : List (Option ℕ)) (ends : List (Option End)) → due ≡ dues_of ends → length due ≡ length ends
dues_long due ends h = ap (λ (xs : List (Option ℕ)). length xs) h ∙ length-map ends due_at

pub moved : (due : List (Option ℕ)) (one at : ℕ) (tick : Option ℕ) (after : List (Option ℕ)) → one ≡ at → after ≡ set due one tick → after ≡ set due at tick
moved due one at tick after same h = h ∙ ap (λ (k : ℕ). set due k tick) same

-- ---- a place changes, and what holds of all holds of all again

pub from_set : (now at : ℕ) (ends : List (Option End)) (place : Option End) → AreFrom now ends → IsInTime (due_at place) now → AreFrom now (set ends at place)
from_set now at [] place h is = tt
from_set now zero (one ∷ ends) place h is = (is, h.1)
from_set now (suc at) (one ∷ ends) place h is = (h.0, from_set now at ends place h.1 is)

pub later_get : (now at : ℕ) (ends : List (Option End)) (place : Option End) → AreLater now ends → slice_get ends at ≡ Some place → IsBefore (due_at place) now
later_get now at [] place h is = absurd cc
later_get now zero (one ∷ ends) place h is = subst (λ (p : Option End). IsBefore (due_at p) now) (same_Some one place is) h.0
later_get now (suc at) (one ∷ ends) place h is = later_get now at ends place h.1 is

later_set : (now at : ℕ) (ends : List (Option End)) (place : Option End) → AreLater now ends → IsBefore (due_at place) now → AreLater now (set ends at place)
later_set now at [] place h is = tt
later_set now zero (one ∷ ends) place h is = (is, h.1)
later_set now (suc at) (one ∷ ends) place h is = (h.0, later_set now at ends place h.1 is)

pub before_in_time : (due : Option ℕ) (now : ℕ) → IsBefore due now → IsInTime due now
before_in_time None now h = tt
before_in_time (Some tick) now h = omega (arith, h)

-- an end that is not due is due later
pub before_by : (due : Option ℕ) (now : ℕ) → is_due_by now due ≡ false → IsBefore due now
before_by None now h = tt
before_by (Some tick) now h = leb-false tick now h

pub before_at : (now : ℕ) (place : Option End) → is_due now place ≡ false → IsBefore (due_at place) now
before_at now place h = before_by (due_at place) now (sym (is_due_at now place) ∙ h)

-- nothing changed
pub lasts_same : (now : ℕ) (e new : Entity) → new ≡ e → AreFrom now e.ends → Lasts now e.ends new.ends
lasts_same now e new same from = subst (λ (x : Entity). Lasts now e.ends x.ends) (sym same) (from, λ h. h)

-- the place of an end changed
pub lasts_set : (now at : ℕ) (inside e : Entity) (old place : Option End) → inside ≡ e → AreFrom now e.ends → slice_get inside.ends at ≡ Some old → IsInTime (due_at place) now
    → (IsBefore (due_at old) now → IsBefore (due_at place) now) → Lasts now e.ends (set inside.ends at place)
lasts_set now at inside e old place same from there soon later =
    subst (λ (x : Entity). Lasts now x.ends (set inside.ends at place)) same (
      from_set now at inside.ends place (subst (λ (x : Entity). AreFrom now x.ends) (sym same) from) soon,
      λ h. later_set now at inside.ends place h (later (later_get now at inside.ends old h there)),
    )

-- at the clock of the entity
pub lasts_at : (at : ℕ) (inside e : Entity) (old place : Option End) → inside ≡ e → AreFrom e.clock e.ends → slice_get inside.ends at ≡ Some old → IsInTime (due_at place) inside.clock
    → (IsBefore (due_at old) inside.clock → IsBefore (due_at place) inside.clock) → Lasts e.clock e.ends (set inside.ends at place)
lasts_at at inside e old place same from there soon later =
    subst (λ (x : Entity). Lasts x.clock x.ends (set inside.ends at place)) same
    (lasts_set inside.clock at inside inside old place refl (subst (λ (x : Entity). AreFrom x.clock x.ends) (sym same) from) there soon later)

-- both hold where a call succeeds
pub on_ok_both : {T E P Q R : Type 0} (r : Result T E) → (P → Q → R) → OnOk r P → OnOk r Q → OnOk r R
on_ok_both (Ok x) f p q = f p q
on_ok_both (Err e) f p q = tt

pub on_ok_any : {T E P : Type 0} (r : Result T E) → P → OnOk r P
on_ok_any (Ok x) p = p
on_ok_any (Err e) p = tt

-- an end came
pub lasts_put : (now reference : ℕ) (e new : Entity) (end : End) → new ≡ with_end e reference (Some end) → AreFrom now e.ends → IsBefore (due end.base end.stage) now → Lasts now e.ends new.ends
lasts_put now reference e new end is from low =
    subst (λ (x : Entity). Lasts now e.ends x.ends) (sym is) (
      from_set now _ e.ends (Some end) from (before_in_time (due end.base end.stage) now low),
      λ h. later_set now _ e.ends (Some end) h low,
    )

-- an end came to an entity that was woken
pub lasts_woken : (now reference : ℕ) (e woken new : Entity) (end : End) → woken ≡ now_at now e → new ≡ with_end woken reference (Some end) → AreFrom now e.ends → IsBefore (due end.base end.stage) now
    → Lasts now e.ends new.ends
lasts_woken now reference e woken new end is puts from low =
    lasts_put now reference (now_at now e) new end (puts ∙ ap (λ (x : Entity). with_end x reference (Some end)) is) from low

-- one after another
pub lasts_then : (now : ℕ) (old mid new : List (Option End)) → Lasts now old mid → Lasts now mid new → Lasts now old new
lasts_then now old mid new one two = (two.0, λ h. two.1 (one.1 h))

-- ---- none is due, and one is

pub later_all : (now : ℕ) (ends : List (Option End)) → ((place at : ℕ) → tick_at (dues_of ends) place ≡ Some at → now < at) → AreLater now ends
later_all now [] h = tt
later_all now (end ∷ ends) h = (before_all (due_at end) refl, later_all now ends (λ place at e. h (suc place) at e))
  where
    before_all : (due : Option ℕ) → due_at end ≡ due → IsBefore due now
    before_all None e = tt
    before_all (Some tick) e = h zero tick e

pub popped_later : (now : ℕ) (due new : List (Option ℕ)) (ends : List (Option End)) → due ≡ dues_of ends → Pops due now None new → AreLater now ends
popped_later now due new ends is h = later_all now ends (λ place at e. h.1 place at (ap (λ (ticks : List (Option ℕ)). tick_at ticks place) is ∙ e))

later_at : (now : ℕ) (ends : List (Option End)) (place : ℕ) → AreLater now ends → IsBefore (due_at (get_or ends place None)) now
later_at now [] place h = tt
later_at now (end ∷ ends) zero h = h.0
later_at now (end ∷ ends) (suc place) h = later_at now ends place h.1

-- where each is due later none is taken out
pub popped_not_later : (now place : ℕ) (due new : List (Option ℕ)) (ends : List (Option End)) → due ≡ dues_of ends → Pops due now (Some place) new → AreLater now ends → ⊥
popped_not_later now place due new ends is h later =
    let least = least_same due ends place h.1 is h.2 in
    let here : due_at (get_or ends place None) ≡ Some h.1 = sym (due_there ends place) ∙ least.set in
    let above : now < h.1 = subst (λ (d : Option ℕ). IsBefore d now) here (later_at now ends place later) in
    absurd (omega (arith, above, h.3))

-- ---- what is due later is due no sooner than now, nor than the next tick

pub later_from : (now : ℕ) (ends : List (Option End)) → AreLater now ends → AreFrom now ends
later_from now [] h = tt
later_from now (end ∷ ends) h = (before_in_time (due_at end) now h.0, later_from now ends h.1)

pub before_next : (due : Option ℕ) (now : ℕ) → IsBefore due now → IsInTime due (now + 1)
before_next None now h = tt
before_next (Some tick) now h = omega (arith, h)

pub later_next : (now : ℕ) (ends : List (Option End)) → AreLater now ends → AreFrom (now + 1) ends
later_next now [] h = tt
later_next now (end ∷ ends) h = (before_next (due_at end) now h.0, later_next now ends h.1)

-- ---- an entity without ends

pub later_none : (now count : ℕ) → AreLater now (replicate count None)
later_none now zero = tt
later_none now (suc count) = (tt, later_none now count)

-- ---- what `tick_next` takes out

pub popped_id : (now place : ℕ) (due new : List (Option ℕ)) (ends : List (Option End)) → due ≡ dues_of ends → Pops due now (Some place) new → place < length new
popped_id now place due new ends is h =
    let within : place < length ends = popped_place now place due new ends is h in
    omega (arith, within, ap (λ (xs : List (Option ℕ)). length xs) h.0, length-set due place None, dues_long due ends is)

-- where no end stands none is due
pub none_later : (now count : ℕ) (ends : List (Option End)) → ends ≡ replicate count None → AreLater now ends
none_later now count ends is = subst (AreLater now) (sym is) (none count)
  where
    none : (k : ℕ) → AreLater now (replicate k None)
    none zero = tt
    none (suc k) = (tt, none k)
