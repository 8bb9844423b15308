-- The test of a network is whether the end holds its reference: so it tells what has ended by the run.
use Rattle.std.proofs.Common.{◌≡◌, ◌↔◌, inl, inr, ℕ, zero, suc, ◌==◌, ◌||◌, not, Bool, true, false, List, [], Option, Some, None, refl, sym, ◌∙◌, ap, arith}
use Rattle.std.specs.Prelude.{is_none}
use Rattle.std.proofs.lemmas.Bool.{eq-eqb, eqb-true}
use Rattle.osi_base.specs.Link.{Link}
use Rattle.osi_base.specs.Calls.{Call, Keeps}
use Rattle.script_journal.specs.declared.event.Event.{Event}
use Rattle.script_lines.specs.declared.line.Line.TheVariants as lines
use Rattle.tp4_conn.specs.End.{End}
use Rattle.tp4_entity.specs.Entity.{Entity, end_at}
use Rattle.tp4_entity.specs.References.{is_free, is_free_place}
use Rattle.tp4_entity.proofs.Standings.{free_at, is_free_at, within}
use Rattle.tp4_world.specs.Called.{Did, DidAll}
use Rattle.tp4_world.specs.Called as requests
use Rattle.tp4_world.specs.First.{HasNoEnd}
use Rattle.tp4_world.specs.Run.{RunsLine, RunsLines, clock_of}
use Rattle.tp4_world.specs.Ended.{has_ended}
use Rattle.tp4_world.specs.World.{World, end_numbered, entity_at, latest}
use Rattle.tp4_world.specs.declared.place.EndAt.{EndAt}
use Rattle.tp4_world.specs.declared.place.Placed.{Placed}
use Rattle.law_tp4_lawful.proofs.WorldPlaces.{none_some}
use Rattle.law_tp4_lawful.proofs.WorldStarts.{found, no_end_at}
use Rattle.law_tp4_associations.specs.Ended.{EndedSince, HasNoEnds}
use Rattle.law_tp4_associations.specs.Laws.{CallsTellWhatEnded, TellsWhatEnded}
use Rattle.law_tp4_associations.proofs.Lines.{call_went, line_went}
use Rattle.law_tp4_associations.proofs.HeldPlaces.{Holds, is_vacant_at, number_low, true_false}
use Rattle.law_tp4_associations.proofs.Runs.{Goes, ended_holds_not, free_place, run_fit, run_made}
use Rattle.law_tp4_associations.proofs.EndedWorlds.{IsFitWorld, began_again, seen_of}

-- ---- the test

none_false : (now : ℕ) (place : Option End) → is_free_place now place ≡ false → is_none place ≡ false
none_false now None taken = absurd (cc taken)
none_false now (Some end) taken = refl

not_false : (a b c : Bool) → a ≡ true → b ≡ false → c ≡ false → (not a || (b || c)) ≡ true → ⊥
not_false false b c ea eb ec h = cc ea
not_false true true c ea eb ec h = cc eb
not_false true false true ea eb ec h = cc ec
not_false true false false ea eb ec h = cc h

all_false : (a b c : Bool) → (not a || (b || c)) ≡ false → (a ≡ true) × (b ≡ false) × (c ≡ false)
all_false false b c h = absurd (cc h)
all_false true true c h = absurd (cc h)
all_false true false true h = absurd (cc h)
all_false true false false h = (refl, refl, refl)

stands_then : (place : Option End) → is_none place ≡ false → (end : End) × (place ≡ Some end)
stands_then None is = absurd (cc is)
stands_then (Some end) is = (end, refl)

module _ {C : Type 0} (link : C → Link (List ℕ)) (steps : C → Call (List ℕ) → C → Type 0) (last : World C) (number : ℕ) (place : EndAt) (entity : Entity)
    (there : entity_at last.entities place.system ≡ Some entity) where
  abbrev now : ℕ
  now = (link last.carrier).clock

  place_is : is_vacant_at now (entity_at last.entities place.system) place.reference ≡ is_free_place now (end_at entity place.reference)
  place_is = ap (λ (e : Option Entity). is_vacant_at now e place.reference) there

  -- an end that holds its reference has not ended
  holds_then : Holds (seen_of link last) number place → has_ended (clock_of link steps last) last.ends number place entity ≡ true → ⊥
  holds_then h ended =
      let taken : is_free_place now (end_at entity place.reference) ≡ false = sym place_is ∙ h.taken in
      not_false (latest last.ends place.system place.reference == number) (is_none (end_at entity place.reference)) (is_free now entity place.reference)
      (eq-eqb (latest last.ends place.system place.reference) number h.latest_is) (none_false now (end_at entity place.reference) taken) (by (is_free now entity place.reference) refl taken) ended
    where
      by : (free : Bool) → is_free now entity place.reference ≡ free → is_free_place now (end_at entity place.reference) ≡ false → is_free now entity place.reference ≡ false
      by true is taken = absurd (true_false (is_free_place now (end_at entity place.reference)) (free_place now place.reference entity is) taken)
      by false is taken = is

  -- and one that has not holds it
  then_holds : IsFitWorld link last → has_ended (clock_of link steps last) last.ends number place entity ≡ false → Holds (seen_of link last) number place
  then_holds fit going =
      let t = all_false (latest last.ends place.system place.reference == number) (is_none (end_at entity place.reference)) (is_free now entity place.reference) going in
      record { latest_is = eqb-true (latest last.ends place.system place.reference) number t.0; taken = place_is ∙ by t.1 t.2 (is_free_place now (end_at entity place.reference)) refl }
    where
      by : is_none (end_at entity place.reference) ≡ false → is_free now entity place.reference ≡ false → (free : Bool) → is_free_place now (end_at entity place.reference) ≡ free
          → is_free_place now (end_at entity place.reference) ≡ false
      by some taken true is =
          let s = stands_then (end_at entity place.reference) some in
          let w = within entity place.reference s.0 s.1 in
          absurd (true_false (is_free now entity place.reference)
          (is_free_at now place.reference entity ((fit place.system entity there).audible place.reference s.0 s.1) w.least w.most (free_at now (end_at entity place.reference) is)) taken)
      by some taken false is = is

-- ---- where no end was made yet

first_fit : {C : Type 0} (link : C → Link (List ℕ)) (first : World C) → HasNoEnds first → IsFitWorld link first
first_fit link first none system e is =
    let f = found (λ (one : Placed). HasNoEnd one.entity) first.entities system e none.none_stands is in
    let never : (r : ℕ) (end : End) → end_at e r ≡ Some end → ⊥ = λ r end at. none_some end (sym (no_end_at f.one.entity f.holds r) ∙ ap (λ (x : Entity). end_at x r) f.entity_is ∙ at) in
    record { of = λ r end at. absurd (never r end at); audible = λ r end at. absurd (never r end at) }

none_numbered : (ends : List EndAt) (number : ℕ) (place : EndAt) → ends ≡ [] → end_numbered ends number ≡ Some place → ⊥
none_numbered ends number place none is = no_number number (ap (λ (es : List EndAt). end_numbered es number) (sym none) ∙ is)
  where
    no_number : (n : ℕ) → end_numbered [] n ≡ Some place → ⊥
    no_number zero h = cc h
    no_number (suc k) h = let low = number_low [] (suc k) place h in omega (arith, low)

module _ {C Item : Type 0} (link : C → Link (List ℕ)) (steps : C → Call (List ℕ) → C → Type 0) (Runs : World C → List Item → List Event → World C → Type 0) (restart : ℕ → Item)
    (Runs_one : World C → Item → List Event → World C → Type 0) (goes : Goes link steps Runs restart Runs_one) where
  tells : (first : World C) (items : List Item) (journal : List Event) (last : World C) (number : ℕ) (place : EndAt) (entity : Entity) → HasNoEnds first → Runs first items journal last
      → end_numbered last.ends number ≡ Some place → entity_at last.entities place.system ≡ Some entity
      → (has_ended (clock_of link steps last) last.ends number place entity ≡ true) ↔ EndedSince link steps Runs restart first items journal last number place
  tells first items journal last number place entity none run numbered there = (to, from)
    where
      fit : IsFitWorld link first
      fit = first_fit link first none

      to : has_ended (clock_of link steps last) last.ends number place entity ≡ true → EndedSince link steps Runs restart first items journal last number place
      to ended = elim (run_made link steps Runs restart Runs_one goes items first last journal number place fit run numbered) [
        | inl before ↦ absurd (none_numbered first.ends number place none.none_made before)
        | inr (inl held) ↦ absurd (holds_then link steps last number place entity there held ended)
        | inr (inr since) ↦ since
      ]

      from : EndedSince link steps Runs restart first items journal last number place → has_ended (clock_of link steps last) last.ends number place entity ≡ true
      from since = by (has_ended (clock_of link steps last) last.ends number place entity) refl
        where
          by : (ended : Bool) → has_ended (clock_of link steps last) last.ends number place entity ≡ ended → has_ended (clock_of link steps last) last.ends number place entity ≡ true
          by true is = is
          by false is =
              absurd (ended_holds_not link steps Runs restart Runs_one goes items first last journal number place fit since
              (then_holds link steps last number place entity there (run_fit link steps Runs restart Runs_one goes items first last journal fit run) is))

-- ---- lines, and calls

module _ {C : Type 0} (link : C → Link (List ℕ)) (steps : C → Call (List ℕ) → C → Type 0) (law : (old : C) (call : Call (List ℕ)) (new : C) → steps old call new → Keeps (link old) call (link new)) where
  lines_go : (wrap : ℕ → ℕ → ℕ) (titles : List (List ℕ)) → Goes link steps (RunsLines link steps wrap titles) lines.Restart (RunsLine link steps wrap titles)
  lines_go wrap titles = record {
    none = λ first last journal run. run;
    begins = λ first. (refl, refl);
    one = λ first last line script journal run. run;
    more = λ first mid last line script journal made rest ran is run. (mid, made, rest, ran, is, run);
    went = λ line old new made fit ran. line_went link steps law wrap titles line old new made fit ran;
    restarts = λ system old new made fit ran reference. (began_again link steps law old new made system fit ran).goes.none reference;
  }

  calls_go : (wrap : ℕ → ℕ → ℕ) → Goes link steps (DidAll link steps wrap) requests.Restart (λ old call made new. Did link steps wrap old call made new)
  calls_go wrap = record {
    none = λ first last journal run. run;
    begins = λ first. (refl, refl);
    one = λ first last call calls journal run. run;
    more = λ first mid last call calls journal made rest ran is run. (mid, made, rest, ran, is, run);
    went = λ call old new made fit ran. call_went link steps law wrap call old new made fit ran;
    restarts = λ system old new made fit ran reference. (began_again link steps law old new made system fit ran).goes.none reference;
  }

  pub tells_what_ended : TellsWhatEnded link steps
  tells_what_ended wrap titles first script journal last number place entity none run numbered there =
      tells link steps (RunsLines link steps wrap titles) lines.Restart (RunsLine link steps wrap titles) (lines_go wrap titles) first script journal last number place entity none run numbered there

  pub calls_tell : CallsTellWhatEnded link steps
  calls_tell wrap first calls journal last number place entity none run numbered there =
      tells link steps (DidAll link steps wrap) requests.Restart (λ old call made new. Did link steps wrap old call made new) (calls_go wrap) first calls journal last number place entity none run numbered there
