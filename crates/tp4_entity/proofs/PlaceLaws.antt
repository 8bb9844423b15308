-- Places by their references: what holds of all holds at each, stays true as the clock goes on, and as a place changes.
use Rattle.std.proofs.Common.{◌≡◌, ◌≢◌, not, nat_lt, ℕ, zero, suc, ◌+◌, ◌-◌, ◌<◌, ◌≤◌, Bool, true, false, cond, List, [], ◌∷◌, length, replicate, option_map, slice_get, slice_set, Option, Some, None, refl, sym, ap, subst, ◌∙◌, arith}
use Rattle.std.proofs.lemmas.Bool.{le-ltb, lt-ltb, ltb-false, ltb-true}
use Rattle.std.proofs.lemmas.List.{append-nil}
use Rattle.std.specs.List.{position, position_or_len}
use Rattle.std.proofs.lemmas.Option.{slice_get_within}
use Rattle.std.proofs.Math.Dec.{eqb-suc-zero}
use Rattle.tpdu.specs.Values.{TpduAndSum}
use Rattle.tpdu.specs.Writing.{kind_for}
use Rattle.tpdu.specs.declared.kind.Kind.TheVariants.{Cr as CrKind}
use Rattle.tpdu.specs.declared.tpdu.Tpdu.{Tpdu}
use Rattle.tpdu.specs.declared.tpdu.Tpdu.TheVariants.{Cr}
use Rattle.tp4_flow.specs.Told.{Told, Grows}
use Rattle.tp4_flow.specs.declared.step.What.TheVariants.{Unknown}
use Rattle.tp4_number.specs.Number.{wire}
use Rattle.tp4_conn.specs.declared.call.UserCall.{UserCall}
use Rattle.tp4_conn.specs.declared.call.CallRefusal.TheVariants.{NoMemory}
use Rattle.tp4_conn.specs.declared.timers.Timers.{Timers}
use Rattle.tp4_conn.specs.declared.end_record.EndRecord.{EndRecord}
use Rattle.tp4_conn.specs.Agreeing.{proposed_in}
use Rattle.tp4_conn.specs.End.{Does, End, IsTimed, Moved, end_of}
use Rattle.tp4_conn.specs.Making.{called_end, indicated, on_cr}
use Rattle.tp4_conn.specs.Matching.{is_match}
use Rattle.tp4_conn.specs.Table.{Called, Ticked, Took, due, stepped}
use Rattle.tp4_entity.specs.Association.{calls, met_by, new_end, refusal, stateless, unmatched}
use Rattle.tp4_entity.specs.Entity.{Acted, Entity, at as now_at, end_at, moved, there, with_end}
use Rattle.tp4_entity.specs.References.{is_free_place, least_free}
use Rattle.tp4_entity.specs.Step.{DoesSo, end_refusal, user_refusal, calling, calling_end, kept_end, ticking_end}
use Rattle.tp4_entity.specs.declared.refusal.EntityRefusal.{EntityRefusal}
use Rattle.tp4_entity.specs.declared.refusal.EntityRefusal.TheVariants.{NoSuchEnd, Call}
use Rattle.tp4_entity.specs.steps.Places.{is_memory, AreBehind, ArePlaces, IsBehind, IsEntity, IsOwn, IsPlace, Placed, Places, calls_at, quiet, stands, takes_at, ticks_at, unknown}

abbrev pub Place : Type 0
Place = Option End

pub some_same : (x y : Place) → Some x ≡ Some y → x ≡ y
some_same x y e = cc e

-- one place
pub place_behind : (timers : Timers) (clock now reference : ℕ) (place : Place) → clock ≤ now → IsPlace timers clock reference place → IsBehind now place
place_behind timers clock now reference None later is = tt
place_behind timers clock now reference (Some end) later is = omega (arith, later, is.behind)

pub place_later : (timers : Timers) (clock now reference : ℕ) (place : Place) → clock ≤ now → IsPlace timers clock reference place → IsPlace timers now reference place
place_later timers clock now reference None later is = tt
place_later timers clock now reference (Some end) later is = record { own = is.own; timed = is.timed; behind = omega (arith, later, is.behind) }

-- all places
pub all_behind : (timers : Timers) (clock now reference : ℕ) (places : List Place) → clock ≤ now → ArePlaces timers clock reference places → AreBehind now places
all_behind timers clock now reference [] later are = tt
all_behind timers clock now reference (place ∷ places) later are =
    (place_behind timers clock now reference place later are.0, all_behind timers clock now (reference + 1) places later are.1)

pub all_later : (timers : Timers) (clock now reference : ℕ) (places : List Place) → clock ≤ now → ArePlaces timers clock reference places → ArePlaces timers now reference places
all_later timers clock now reference [] later are = tt
all_later timers clock now reference (place ∷ places) later are =
    (place_later timers clock now reference place later are.0, all_later timers clock now (reference + 1) places later are.1)

pub behind_at : (now : ℕ) (places : List Place) (at : ℕ) (place : Place) → AreBehind now places → slice_get places at ≡ Some place → IsBehind now place
behind_at now [] at place are h = absurd cc
behind_at now (one ∷ places) zero place are h = subst (IsBehind now) (some_same one place h) are.0
behind_at now (one ∷ places) (suc at) place are h = behind_at now places at place are.1 h

pub place_at : (timers : Timers) (clock reference : ℕ) (places : List Place) (at there : ℕ) (place : Place) → ArePlaces timers clock reference places → slice_get places at ≡ Some place
    → there ≡ reference + at → IsPlace timers clock there place
place_at timers clock reference [] at there place are h e = absurd cc
place_at timers clock reference (one ∷ places) zero there place are h e =
    let same : there ≡ reference = omega arith in
    subst (λ (n : ℕ). IsPlace timers clock n place) (sym same) (subst (IsPlace timers clock reference) (some_same one place h) are.0)
place_at timers clock reference (one ∷ places) (suc at) there place are h e =
    place_at timers clock (reference + 1) places at there place are.1 h (omega arith)

pub place_set : (timers : Timers) (clock reference : ℕ) (places : List Place) (at there : ℕ) (place : Place) → ArePlaces timers clock reference places → IsPlace timers clock there place
    → there ≡ reference + at → ArePlaces timers clock reference (slice_set places at place)
place_set timers clock reference [] at there place are is e = tt
place_set timers clock reference (one ∷ places) zero there place are is e =
    let same : there ≡ reference = omega arith in
    (subst (λ (n : ℕ). IsPlace timers clock n place) same is, are.1)
place_set timers clock reference (one ∷ places) (suc at) there place are is e =
    (are.0, place_set timers clock (reference + 1) places at there place are.1 is (omega arith))

-- an entity
pub entity_later : (e : Entity) (now : ℕ) → e.clock ≤ now → IsEntity e → IsEntity (record e { clock = now })
entity_later e now later is = record { timers = is.timers; least = is.least; most = is.most; places = all_later e.timers e.clock now 1 e.ends later is.places }

set_length : (places : List Place) (at : ℕ) (place : Place) → length (slice_set places at place) ≡ length places
set_length [] at place = refl
set_length (one ∷ places) zero place = refl
set_length (one ∷ places) (suc at) place = ap suc (set_length places at place)

pub entity_set : (e : Entity) (at there : ℕ) (place : Place) → IsEntity e → IsPlace e.timers e.clock there place → there ≡ at + 1 → IsEntity (record e { ends = slice_set e.ends at place })
entity_set e at there place is own at_is =
    let same = set_length e.ends at place in
    record {
      timers = is.timers;
      least = omega (arith, same, is.least);
      most = omega (arith, same, is.most);
      places = place_set e.timers e.clock 1 e.ends at there place is.places own (omega arith);
    }

-- the place there
pub entity_at : (e : Entity) (at : ℕ) (place : Place) → IsEntity e → slice_get e.ends at ≡ Some place → IsPlace e.timers e.clock (at + 1) place
entity_at e at place is h = place_at e.timers e.clock 1 e.ends at (at + 1) place is.places h (omega arith)

-- the end of a reference is the one at its place
pub end_at_of : (e : Entity) (reference at : ℕ) → reference ≡ at + 1 → end_at e reference ≡ there (slice_get e.ends at)
end_at_of e zero at h = absurd (omega arith)
end_at_of e (suc reference) at h =
    let same : suc reference - 1 ≡ at = omega arith in
    ap (λ (b : Bool). cond b None (there (slice_get e.ends (suc reference - 1)))) (eqb-suc-zero reference) ∙ ap (λ (n : ℕ). there (slice_get e.ends n)) same

pub end_there : (e : Entity) (reference at : ℕ) (place : Place) → slice_get e.ends at ≡ Some place → reference ≡ at + 1 → end_at e reference ≡ place
end_there e reference at place h is = end_at_of e reference at is ∙ ap there h

pub none_there : (e : Entity) (reference at : ℕ) → slice_get e.ends at ≡ None → reference ≡ at + 1 → end_at e reference ≡ None
none_there e reference at h is = end_at_of e reference at is ∙ ap there h

abbrev pub set_at : Entity → ℕ → Place → Entity
set_at e at place = record e { ends = slice_set e.ends at place }

with_end_of : (e : Entity) (reference at : ℕ) (place : Place) → reference ≡ at + 1 → with_end e reference place ≡ set_at e at place
with_end_of e reference at place is = let same : reference - 1 ≡ at = omega arith in ap (λ (n : ℕ). set_at e n place) same

set_same : (places : List Place) (at : ℕ) (place : Place) → slice_get places at ≡ Some place → slice_set places at place ≡ places
set_same [] at place h = refl
set_same (one ∷ places) zero place h = ap (λ (p : Place). p ∷ places) (sym (some_same one place h))
set_same (one ∷ places) (suc at) place h = ap (λ (ps : List Place). one ∷ ps) (set_same places at place h)

same_at : (e : Entity) (at : ℕ) (place : Place) → slice_get e.ends at ≡ Some place → set_at e at place ≡ e
same_at e at place h = ap (λ (ps : List Place). record e { ends = ps }) (set_same e.ends at place h)

-- what comes of a place is what comes of the entity
abbrev pub acted : Entity → ℕ → Placed → Acted
acted e at p = record { entity = set_at e at p.place; events = p.events; tpdus = p.tpdus }

pub does : (e : Entity) (at : ℕ) (what : Acted) (p : Placed) (new : Place) (was told : Told) → acted e at p ≡ what → Places p new was told → DoesSo what (set_at e at new) was told
does e at what p new was told same h = record {
  entity_is = ap (set_at e at) h.place_is ∙ ap (λ (a : Acted). a.entity) same;
  told = subst (λ (a : Acted). Grows was a.events a.tpdus told) same h.told;
}

moved_is : (e : Entity) (reference at : ℕ) (m : Moved) → reference ≡ at + 1 → acted e at (stands m) ≡ moved e reference m
moved_is e reference at m is = ap (λ (x : Entity). record { entity = x; events = m.events; tpdus = m.tpdus }) (sym (with_end_of e reference at (Some (end_of m)) is))

unknown_is : (e : Entity) (at : ℕ) (place : Place) (from : List ℕ) (tpdu : Tpdu) → slice_get e.ends at ≡ Some place → acted e at (unknown place from tpdu) ≡ unmatched e from tpdu
unknown_is e at place from tpdu h =
    ap (λ (x : Entity). record { entity = x; events = record { reference = 0; what = Unknown (kind_for tpdu) } ∷ []; tpdus = stateless from tpdu }) (same_at e at place h)

quiet_is : (e : Entity) (at : ℕ) (place : Place) → slice_get e.ends at ≡ Some place → acted e at (quiet place) ≡ record { entity = e; events = []; tpdus = [] }
quiet_is e at place h = ap (λ (x : Entity). record { entity = x; events = []; tpdus = [] }) (same_at e at place h)

either_is : (fits : Bool) (e : Entity) (reference at : ℕ) (end : End) (m : Moved) (from : List ℕ) (tpdu : Tpdu) → slice_get e.ends at ≡ Some (Some end) → reference ≡ at + 1
    → acted e at (cond fits (stands m) (unknown (Some end) from tpdu)) ≡ cond fits (moved e reference m) (unmatched e from tpdu)
either_is true e reference at end m from tpdu h is = moved_is e reference at m is
either_is false e reference at end m from tpdu h is = unknown_is e at (Some end) from tpdu h

taken_is : (wrap : ℕ → ℕ → ℕ) (now : ℕ) (e : Entity) (from : List ℕ) (tpdu : TpduAndSum) (reference at : ℕ) (place : Place) → slice_get e.ends at ≡ Some place → reference ≡ at + 1
    → acted e at (takes_at wrap now from tpdu place) ≡ met_by wrap now e from tpdu reference place
taken_is wrap now e from tpdu reference at None h is = unknown_is e at None from tpdu.0 h
taken_is wrap now e from tpdu reference at (Some end) h is =
    either_is (is_match end.base end.stage from tpdu.0) e reference at end (stepped wrap now end (Took tpdu.0 tpdu.1)) from tpdu.0 h is

pub takes_is : (wrap : ℕ → ℕ → ℕ) (now : ℕ) (e : Entity) (from : List ℕ) (tpdu : TpduAndSum) (reference at : ℕ) (place : Place) → slice_get e.ends at ≡ Some place → reference ≡ at + 1
    → acted e at (takes_at wrap now from tpdu place) ≡ met_by wrap now e from tpdu reference (end_at e reference)
takes_is wrap now e from tpdu reference at place h is =
    taken_is wrap now e from tpdu reference at place h is ∙ ap (met_by wrap now e from tpdu reference) (sym (end_there e reference at place h is))

called_is : (wrap : ℕ → ℕ → ℕ) (now : ℕ) (e : Entity) (reference at : ℕ) (call : UserCall) (place : Place) → slice_get e.ends at ≡ Some place → reference ≡ at + 1
    → acted e at (calls_at wrap now call place) ≡ calling_end wrap now e reference call place
called_is wrap now e reference at call None h is = quiet_is e at None h
called_is wrap now e reference at call (Some end) h is = moved_is e reference at (stepped wrap now end (Called call)) is

pub calls_is : (wrap : ℕ → ℕ → ℕ) (now : ℕ) (e : Entity) (reference at : ℕ) (call : UserCall) (place : Place) → slice_get e.ends at ≡ Some place → reference ≡ at + 1
    → acted (now_at now e) at (calls_at wrap now call place) ≡ calling wrap now e reference call
calls_is wrap now e reference at call place h is =
    called_is wrap now (now_at now e) reference at call place h is ∙ ap (calling_end wrap now (now_at now e) reference call) (sym (end_there e reference at place h is))

ticked_is : (wrap : ℕ → ℕ → ℕ) (now : ℕ) (e : Entity) (reference at : ℕ) (place : Place) → slice_get e.ends at ≡ Some place → reference ≡ at + 1
    → acted e at (ticks_at wrap now place) ≡ ticking_end wrap now e reference place
ticked_is wrap now e reference at None h is = quiet_is e at None h
ticked_is wrap now e reference at (Some end) h is =
    let m = stepped wrap now end Ticked in
    ap (λ (x : Entity). record { entity = x; events = m.events; tpdus = m.tpdus }) (sym (with_end_of e reference at (kept_end m (due m.base m.stage)) is))

pub ticks_is : (wrap : ℕ → ℕ → ℕ) (now : ℕ) (e : Entity) (reference at : ℕ) (place : Place) → slice_get e.ends at ≡ Some place → reference ≡ at + 1
    → acted e at (ticks_at wrap now place) ≡ ticking_end wrap now e reference (end_at e reference)
ticks_is wrap now e reference at place h is =
    ticked_is wrap now e reference at place h is ∙ ap (ticking_end wrap now e reference) (sym (end_there e reference at place h is))

-- ---- the same, where the entity is known by what is inside

pub nothing_told : (was : Told) → Grows was [] [] was
nothing_told was = λ i. record { events = sym (append-nil was.events) i; tpdus = sym (append-nil was.tpdus) i }

pub tick_done : (inside e : Entity) (at : ℕ) (place new : Place) (was told : Told) → inside ≡ e → slice_get inside.ends at ≡ Some place → Places (ticks_at wire inside.clock place) new was told
    → DoesSo (ticking_end wire e.clock e (at + 1) (end_at e (at + 1))) (set_at inside at new) was told
tick_done inside e at place new was told same h is =
    subst (λ (x : Entity). DoesSo (ticking_end wire x.clock x (at + 1) (end_at x (at + 1))) (set_at inside at new) was told) same
    (does inside at _ (ticks_at wire inside.clock place) new was told (ticks_is wire inside.clock inside (at + 1) at place h refl) is)

pub tick_none : (inside e : Entity) (at : ℕ) (was : Told) → inside ≡ e → slice_get inside.ends at ≡ None → DoesSo (ticking_end wire e.clock e (at + 1) (end_at e (at + 1))) inside was was
tick_none inside e at was same h =
    subst (λ (x : Entity). DoesSo (ticking_end wire x.clock x (at + 1) (end_at x (at + 1))) inside was was) same
    (subst (λ (p : Place). DoesSo (ticking_end wire inside.clock inside (at + 1) p) inside was was) (sym (none_there inside (at + 1) at h refl))
    (record { entity_is = refl; told = nothing_told was }))

pub take_done : (inside e : Entity) (from : List ℕ) (tpdu : TpduAndSum) (reference at : ℕ) (place new : Place) (was told : Told) → inside ≡ e → reference ≡ at + 1 → slice_get inside.ends at ≡ Some place
    → Places (takes_at wire inside.clock from tpdu place) new was told → DoesSo (met_by wire e.clock e from tpdu reference (end_at e reference)) (set_at inside at new) was told
take_done inside e from tpdu reference at place new was told same at_is h is =
    subst (λ (x : Entity). DoesSo (met_by wire x.clock x from tpdu reference (end_at x reference)) (set_at inside at new) was told) same
    (does inside at _ (takes_at wire inside.clock from tpdu place) new was told (takes_is wire inside.clock inside from tpdu reference at place h at_is) is)

pub take_none : (inside e : Entity) (from : List ℕ) (tpdu : TpduAndSum) (reference at : ℕ) (was told : Told) → inside ≡ e → reference ≡ at + 1 → slice_get inside.ends at ≡ None
    → Grows was (record { reference = 0; what = Unknown (kind_for tpdu.0) } ∷ []) (stateless from tpdu.0) told → DoesSo (met_by wire e.clock e from tpdu reference (end_at e reference)) inside was told
take_none inside e from tpdu reference at was told same at_is h grows =
    subst (λ (x : Entity). DoesSo (met_by wire x.clock x from tpdu reference (end_at x reference)) inside was told) same
    (subst (λ (p : Place). DoesSo (met_by wire inside.clock inside from tpdu reference p) inside was told) (sym (none_there inside reference at h at_is))
    (record { entity_is = refl; told = grows }))

pub call_done : (inside e : Entity) (now reference at : ℕ) (call : UserCall) (place new : Place) (was told : Told) → inside ≡ e → reference ≡ at + 1 → slice_get inside.ends at ≡ Some place
    → Places (calls_at wire now call place) new was told → DoesSo (calling wire now e reference call) (set_at (now_at now inside) at new) was told
call_done inside e now reference at call place new was told same at_is h is =
    subst (λ (x : Entity). DoesSo (calling wire now x reference call) (set_at (now_at now inside) at new) was told) same
    (does (now_at now inside) at _ (calls_at wire now call place) new was told (calls_is wire now inside reference at call place h at_is) is)

pub refusal_at : (inside e : Entity) (reference at : ℕ) (call : UserCall) (place : Place) → inside ≡ e → reference ≡ at + 1 → slice_get inside.ends at ≡ Some place
    → user_refusal e reference call ≡ end_refusal call place
refusal_at inside e reference at call place same at_is h =
    ap (λ (x : Entity). user_refusal x reference call) (sym same) ∙ ap (end_refusal call) (end_there inside reference at place h at_is)

pub entity_now_set : (e : Entity) (now at : ℕ) (place new : Place) → e.clock ≤ now → IsEntity e → slice_get e.ends at ≡ Some place
    → (IsPlace e.timers now (at + 1) place → IsPlace e.timers now (at + 1) new) → IsEntity (set_at (now_at now e) at new)
entity_now_set e now at place new later is h kept =
    entity_set (now_at now e) at (at + 1) new (entity_later e now later is) (kept (place_later e.timers e.clock now (at + 1) place later (entity_at e at place is h))) refl

-- ---- the end of a reference

one_there : (timers : Timers) (clock reference : ℕ) (place : Option Place) (end : End) → ((here : Place) → place ≡ Some here → IsPlace timers clock reference here) → there place ≡ Some end
    → IsOwn timers clock reference end
one_there timers clock reference None end are h = absurd cc
one_there timers clock reference (Some None) end are h = absurd cc
one_there timers clock reference (Some (Some one)) end are h = subst (λ (x : End). IsOwn timers clock reference x) (same_end one end h) (are (Some one) refl)
  where
    same_end : (one end : End) → Some one ≡ Some end → one ≡ end
    same_end one end h = cc h

pub own_at : (e : Entity) (reference : ℕ) (end : End) → IsEntity e → end_at e reference ≡ Some end → IsOwn e.timers e.clock reference end
own_at e zero end is h = absurd cc
own_at e (suc reference) end is h =
    one_there e.timers e.clock (suc reference) (slice_get e.ends reference) end
    (λ here there_is. place_at e.timers e.clock 1 e.ends reference (suc reference) here is.places there_is (omega arith))
    (sym (end_at_of e (suc reference) reference (omega arith)) ∙ h)

-- ---- the first place that passes a test

pub first_is : (test : Place → Bool) (places : List Place) (at : ℕ) (one : Place) → ((k : ℕ) (place : Place) → k < at → slice_get places k ≡ Some place → test place ≡ false)
    → slice_get places at ≡ Some one → test one ≡ true → position_or_len test places ≡ at
first_is test [] at one before h passes = absurd cc
first_is test (place ∷ places) zero one before h passes = ap (λ (b : Bool). cond (not b) (1 + position_or_len test places) 0) (ap test (some_same place one h) ∙ passes)
first_is test (place ∷ places) (suc at) one before h passes =
    let rest = first_is test places at one (λ k other low get. before (suc k) other (omega arith) get) h passes in
    ap (λ (b : Bool). cond (not b) (1 + position_or_len test places) 0) (before 0 place (omega arith) refl) ∙ omega (arith, rest)

pub none_is : (test : Place → Bool) (places : List Place) → ((k : ℕ) (place : Place) → k < length places → slice_get places k ≡ Some place → test place ≡ false)
    → position_or_len test places ≡ length places
none_is test [] before = refl
none_is test (place ∷ places) before =
    let rest = none_is test places (λ k other low get. before (suc k) other (omega arith) get) in
    ap (λ (b : Bool). cond (not b) (1 + position_or_len test places) 0) (before 0 place (omega arith) refl) ∙ omega (arith, rest)

pub position_is : (test : Place → Bool) (places : List Place) (at : ℕ) (one : Place) → ((k : ℕ) (place : Place) → k < at → slice_get places k ≡ Some place → test place ≡ false)
    → slice_get places at ≡ Some one → test one ≡ true → position test places ≡ Some at
position_is test places at one before h passes =
    ap (λ (n : ℕ). cond (nat_lt n (length places)) (Some n) None) (first_is test places at one before h passes)
    ∙ ap (λ (b : Bool). cond b (Some at) None) (lt-ltb at (length places) (slice_get_within places at one h))

pub no_position : (test : Place → Bool) (places : List Place) → ((k : ℕ) (place : Place) → k < length places → slice_get places k ≡ Some place → test place ≡ false) → position test places ≡ None
no_position test places before =
    ap (λ (n : ℕ). cond (nat_lt n (length places)) (Some n) None) (none_is test places before)
    ∙ ap (λ (b : Bool). cond b (Some (length places)) None) (le-ltb (length places) (length places) (omega arith))

pub one_more : (test : Place → Bool) (places : List Place) (at : ℕ) (one : Place) → ((k : ℕ) (place : Place) → k < at → slice_get places k ≡ Some place → test place ≡ false)
    → slice_get places at ≡ Some one → test one ≡ false → (k : ℕ) (place : Place) → k < at + 1 → slice_get places k ≡ Some place → test place ≡ false
one_more test places at one before h fails k place low get = by_order (nat_lt k at) refl
  where
    by_order : (b : Bool) → nat_lt k at ≡ b → test place ≡ false
    by_order true is = before k place (ltb-true k at is) get
    by_order false is =
        let past = ltb-false k at is in
        let same : k ≡ at = omega arith in
        ap test (some_same place one (sym get ∙ ap (slice_get places) same ∙ h)) ∙ fails

-- ---- a call that did not succeed

pub entity_after : (b : Bool) (e : Entity) (now at : ℕ) (place new : Place) → e.clock ≤ now → IsEntity e → slice_get e.ends at ≡ Some place
    → (IsPlace e.timers now (at + 1) place → IsPlace e.timers now (at + 1) new) → (b ≡ false → new ≡ place) → IsEntity (set_at (now_at (cond b now e.clock) e) at new)
entity_after true e now at place new later is h kept same = entity_now_set e now at place new later is h kept
entity_after false e now at place new later is h kept same = subst (λ (p : Place). IsEntity (set_at e at p)) (sym (same refl)) (subst IsEntity (sym (same_at e at place h)) is)

pub entity_over : (e : Entity) (clock : ℕ) (b : Bool) (now at : ℕ) (place new : Place) → e.clock ≤ now → IsEntity e → slice_get e.ends at ≡ Some place
    → (IsPlace e.timers now (at + 1) place → IsPlace e.timers now (at + 1) new) → (b ≡ false → new ≡ place) → clock ≡ cond b now e.clock → IsEntity (set_at (now_at clock e) at new)
entity_over e clock b now at place new later is h kept same clock_is =
    subst (λ (n : ℕ). IsEntity (set_at (now_at n e) at new)) (sym clock_is) (entity_after b e now at place new later is h kept same)

pub same_after : (b : Bool) (inside e : Entity) (now at : ℕ) (place new : Place) → inside ≡ e → slice_get inside.ends at ≡ Some place → (b ≡ false → new ≡ place) → b ≡ false
    → set_at (now_at (cond b now inside.clock) inside) at new ≡ e
same_after b inside e now at place new is h same off =
    ap (λ (x : Bool). set_at (now_at (cond x now inside.clock) inside) at new) off ∙ ap (set_at inside at) (same off) ∙ same_at inside at place h ∙ is

pub not_memory : (why : EntityRefusal) → why ≢ Call NoMemory → is_memory why ≡ false
not_memory NoSuchEnd h = refl
not_memory (Call NoMemory) h = absurd (h refl)
not_memory (Call other) h = refl

pub is_not_memory : (why : EntityRefusal) → is_memory why ≡ false → why ≢ Call NoMemory
is_not_memory why off is = let on = ap is_memory is in cc

-- ---- a CR that makes an end

pub record Makes (now own : ℕ) (from : List ℕ) (rules : Timers) (tpdu : Tpdu) : Type 0 where
  pub moved : Moved
  pub made : on_cr now own from rules tpdu ≡ Some moved
  pub own_is : moved.base.own ≡ own
  pub timed : moved.base.timers ≡ rules
  pub clock : moved.base.clock ≡ now

pub makes : (now own : ℕ) (from : List ℕ) (rules : Timers) (tpdu : Tpdu) → kind_for tpdu ≡ CrKind → Makes now own from rules tpdu
makes now own from rules (Cr credit source width calling called size preferred extra version classes ack_time text) h =
    record {
      moved = indicated (called_end now own from rules credit source calling called (proposed_in width size preferred extra)) text;
      made = refl;
      own_is = refl;
      timed = refl;
      clock = refl;
    }
makes now own from rules other h = absurd cc

-- what an end that was made is
abbrev pub IsMade : ℕ → ℕ → List ℕ → Timers → Tpdu → End → Told → Told → Type 0
IsMade now own from rules tpdu end was told = (m : Moved) → on_cr now own from rules tpdu ≡ Some m → Does m end.base end.stage was told

pub made_own : (inside e : Entity) (own : ℕ) (from : List ℕ) (tpdu : Tpdu) (end : End) (was told : Told) → inside ≡ e → kind_for tpdu ≡ CrKind → IsMade inside.clock own from inside.timers tpdu end was told
    → IsOwn e.timers e.clock own end
made_own inside e own from tpdu end was told same kind made =
    let m = makes inside.clock own from inside.timers tpdu kind in
    let d = made m.moved m.made in
    let clock_is : end.base.clock ≡ inside.clock = ap (λ (b : EndRecord). b.clock) d.base_is ∙ m.clock in
    subst (λ (x : Entity). IsOwn x.timers x.clock own end) same
    (record { own = ap (λ (b : EndRecord). b.own) d.base_is ∙ m.own_is; timed = ap (λ (b : EndRecord). b.timers) d.base_is ∙ m.timed; behind = omega (arith, clock_is) })

pub made_done : (inside e new : Entity) (place source : ℕ) (from : List ℕ) (tpdu : Tpdu) (end : End) (was told : Told) → inside ≡ e → kind_for tpdu ≡ CrKind
    → position (is_free_place inside.clock) inside.ends ≡ Some place → IsMade inside.clock (place + 1) from inside.timers tpdu end was told → new ≡ with_end e (place + 1) (Some end)
    → DoesSo (new_end e.clock e from source tpdu (least_free e.clock e)) new was told
made_done inside e new place source from tpdu end was told same kind first made new_is =
    let m = makes inside.clock (place + 1) from inside.timers tpdu kind in
    let d = made m.moved m.made in
    let end_is : end ≡ end_of m.moved = λ i. record { base = d.base_is i; stage = d.stage_is i } in
    let least : least_free inside.clock inside ≡ Some (place + 1) = ap (option_map (λ (n : ℕ). n + 1)) first in
    let what : new_end inside.clock inside from source tpdu (least_free inside.clock inside) ≡ moved inside (place + 1) m.moved
    = ap (new_end inside.clock inside from source tpdu) least ∙ ap (calls inside (place + 1)) m.made
    in
    subst (λ (x : Entity). DoesSo (new_end x.clock x from source tpdu (least_free x.clock x)) new was told) same
    (subst (λ (a : Acted). DoesSo a new was told) (sym what)
    (record { entity_is = new_is ∙ ap (λ (x : Entity). with_end x (place + 1) (Some end)) (sym same) ∙ ap (λ (x : End). with_end inside (place + 1) (Some x)) end_is; told = d.told }))

-- no place is free
pub unmade : (inside e : Entity) (source : ℕ) (from : List ℕ) (tpdu : Tpdu) (was told : Told) → inside ≡ e → position (is_free_place inside.clock) inside.ends ≡ None
    → Grows was [] (refusal from source 129 ∷ []) told → DoesSo (new_end e.clock e from source tpdu (least_free e.clock e)) inside was told
unmade inside e source from tpdu was told same first grows =
    let least : least_free inside.clock inside ≡ None = ap (option_map (λ (n : ℕ). n + 1)) first in
    subst (λ (x : Entity). DoesSo (new_end x.clock x from source tpdu (least_free x.clock x)) inside was told) same
    (subst (λ (a : Acted). DoesSo a inside was told) (sym (ap (new_end inside.clock inside from source tpdu) least))
    (record { entity_is = refl; told = grows }))

-- ---- an entity without ends

no_places : (timers : Timers) (clock reference count : ℕ) → ArePlaces timers clock reference (replicate count None)
no_places timers clock reference zero = tt
no_places timers clock reference (suc count) = (tt, no_places timers clock (reference + 1) count)

no_length : (count : ℕ) → length (replicate {A = Place} count None) ≡ count
no_length zero = refl
no_length (suc count) = ap suc (no_length count)

pub entity_new : (e : Entity) (count : ℕ) → e.ends ≡ replicate count None → 1 ≤ count → count ≤ 64 → IsTimed e.timers → IsEntity e
entity_new e count is least most timed =
    let same = ap length is ∙ no_length count in
    record { timers = timed; least = omega (arith, same); most = omega (arith, same); places = subst (ArePlaces e.timers e.clock 1) (sym is) (no_places e.timers e.clock 1 count) }

pub end_is : (inside e : Entity) (reference at : ℕ) (place : Place) → inside ≡ e → reference ≡ at + 1 → slice_get inside.ends at ≡ Some place → end_at e reference ≡ place
end_is inside e reference at place same at_is h = ap (λ (x : Entity). end_at x reference) (sym same) ∙ end_there inside reference at place h at_is

pub past_from : (a b : ℕ) → (a < b → false ≡ true) → b ≤ a
past_from a b h = by_test (nat_lt a b) refl
  where
    by_test : (test : Bool) → nat_lt a b ≡ test → b ≤ a
    by_test true is = let wrong = h (ltb-true a b is) in absurd cc
    by_test false is = ltb-false a b is
