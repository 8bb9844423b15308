-- Along a run: an end that was made holds its reference still, or it has ended since; and one that has ended since never holds it again. It is shown
-- once, for lines and for calls.
use Rattle.std.proofs.Common.{◌≡◌, ◌⊎◌, inl, inr, ℕ, ◌&&◌, ◌==◌, not, nat_le, Bool, true, false, List, [], ◌∷◌, ◌++◌, length, Option, Some, refl, sym, ◌∙◌, ap, subst, append_assoc}
use Rattle.osi_base.specs.Link.{Link}
use Rattle.osi_base.specs.Calls.{Call}
use Rattle.script_journal.specs.declared.event.Event.{Event}
use Rattle.tp4_entity.specs.Entity.{Entity, end_at}
use Rattle.tp4_entity.specs.References.{is_free, is_free_place}
use Rattle.tp4_entity.specs.Silence.{is_silent}
use Rattle.tp4_world.specs.World.{World, end_numbered}
use Rattle.tp4_world.specs.declared.place.EndAt.{EndAt}
use Rattle.law_tp4_associations.specs.Ended.{BeganAgain, EndedSince, IsBetween, WasFree}
use Rattle.law_tp4_associations.proofs.Lines.{Went}
use Rattle.law_tp4_associations.proofs.HeldPlaces.{Holds, is_vacant, is_vacant_at, true_false}
use Rattle.law_tp4_associations.proofs.EndedWorlds.{IsFitWorld, seen_of}

-- of a reference that is free no end keeps the place
last_true : (a b c d : Bool) → (not a && (b && (c && d))) ≡ true → d ≡ true
last_true false true true d h = h
last_true false true false d h = absurd (cc h)
last_true false false c d h = absurd (cc h)
last_true true b c d h = absurd (cc h)

pub free_place : (now reference : ℕ) (e : Entity) → is_free now e reference ≡ true → is_free_place now (end_at e reference) ≡ true
free_place now reference e h = last_true (is_silent now e) (not (reference == 0)) (nat_le reference (length e.ends)) (is_free_place now (end_at e reference)) h

-- how such a run goes: no item does nothing, and the first one comes before the others
pub record Goes {C Item : Type 0} (link : C → Link (List ℕ)) (steps : C → Call (List ℕ) → C → Type 0) (Runs : World C → List Item → List Event → World C → Type 0) (restart : ℕ → Item)
    (Runs_one : World C → Item → List Event → World C → Type 0) : Type 0 where
  pub none : (first last : World C) (journal : List Event) → Runs first [] journal last → (journal ≡ []) × (last ≡ first)
  pub begins : (first : World C) → Runs first [] [] first
  pub one : (first last : World C) (item : Item) (items : List Item) (journal : List Event) → Runs first (item ∷ items) journal last
      → (mid : World C) × (made rest : List Event) × Runs_one first item made mid × (journal ≡ made ++ rest) × Runs mid items rest last
  pub more : (first mid last : World C) (item : Item) (items : List Item) (journal made rest : List Event) → Runs_one first item made mid → journal ≡ made ++ rest → Runs mid items rest last
      → Runs first (item ∷ items) journal last
  pub went : (item : Item) (old new : World C) (made : List Event) → IsFitWorld link old → Runs_one old item made new → Went link steps restart item old new
  pub restarts : (system : ℕ) (old new : World C) (made : List Event) → IsFitWorld link old → Runs_one old (restart system) made new → (reference : ℕ) → is_vacant (seen_of link new) system reference ≡ true

module _ {C Item : Type 0} (link : C → Link (List ℕ)) (steps : C → Call (List ℕ) → C → Type 0) (Runs : World C → List Item → List Event → World C → Type 0) (restart : ℕ → Item)
    (Runs_one : World C → Item → List Event → World C → Type 0) (goes : Goes link steps Runs restart Runs_one) where
  abbrev Between : World C → List Item → List Event → World C → List Item → World C → List Item → Type 0
  Between first items journal last before mid after = IsBetween link steps Runs restart first items journal last before mid after

  abbrev Ended : World C → List Item → List Event → World C → ℕ → EndAt → Type 0
  Ended first items journal last number place = EndedSince link steps Runs restart first items journal last number place

  -- ---- between two of them

  at_first : (first : World C) (items : List Item) (journal : List Event) (last : World C) → Runs first items journal last → Between first items journal last [] first items
  at_first first items journal last run = record { made = []; rest = journal; items_are = refl; journal_is = refl; ran = goes.begins first; runs_on = run }

  one_later : (item : Item) (items : List Item) (first mid last : World C) (journal here rest : List Event) (before : List Item) (amid : World C) (after : List Item) → Runs_one first item here mid
      → journal ≡ here ++ rest → Between mid items rest last before amid after → Between first (item ∷ items) journal last (item ∷ before) amid after
  one_later item items first mid last journal here rest before amid after ran is b = record {
    made = here ++ b.made;
    rest = b.rest;
    items_are = ap (λ (xs : List Item). item ∷ xs) b.items_are;
    journal_is = is ∙ ap (λ (es : List Event). here ++ es) b.journal_is ∙ sym (append_assoc here b.made b.rest);
    ran = goes.more first mid amid item before (here ++ b.made) here b.made ran refl b.ran;
    runs_on = b.runs_on;
  }

  ended_later : (item : Item) (items : List Item) (first mid last : World C) (journal here rest : List Event) (number : ℕ) (place : EndAt) → Runs_one first item here mid → journal ≡ here ++ rest
      → Ended mid items rest last number place → Ended first (item ∷ items) journal last number place
  ended_later item items first mid last journal here rest number place ran is (WasFree before after amid b numbered free) =
      WasFree (item ∷ before) after amid (one_later item items first mid last journal here rest before amid after ran is b) numbered free
  ended_later item items first mid last journal here rest number place ran is (BeganAgain before after amid b numbered) =
      BeganAgain (item ∷ before) after amid (one_later item items first mid last journal here rest before amid (restart place.system ∷ after) ran is b) numbered

  -- ---- from an end that holds its reference

  pub run_on : (items : List Item) (first last : World C) (journal : List Event) (number : ℕ) (place : EndAt) → IsFitWorld link first → Runs first items journal last
      → end_numbered first.ends number ≡ Some place → Holds (seen_of link first) number place → Holds (seen_of link last) number place ⊎ Ended first items journal last number place
  run_on [] first last journal number place fit run numbered h = inl (subst (λ (w : World C). Holds (seen_of link w) number place) (sym (goes.none first last journal run).1) h)
  run_on (item ∷ items) first last journal number place fit run numbered h =
      let s = goes.one first last item items journal run in
      let w = goes.went item first s.0 s.1 fit s.3 in
      let numbers : end_numbered s.0.ends number ≡ Some place = w.numbered number place numbered in
      elim (w.on number place numbered h) [
        | inl held ↦ (elim (run_on items s.0 last s.2 number place w.fit s.5 numbers held) [
          | inl still ↦ inl still
          | inr ended ↦ inr (ended_later item items first s.0 last journal s.1 s.2 number place s.3 s.4 ended)
        ])
        | inr (inl free) ↦
            inr (WasFree (item ∷ []) items s.0 (one_later item items first s.0 last journal s.1 s.2 [] s.0 items s.3 s.4 (at_first s.0 items s.2 last s.5)) numbers free)
        | inr (inr again) ↦ inr (BeganAgain [] items first (record {
          made = [];
          rest = journal;
          items_are = ap (λ (x : Item). x ∷ items) again;
          journal_is = refl;
          ran = goes.begins first;
          runs_on = subst (λ (x : Item). Runs first (x ∷ items) journal last) again run;
        }) numbered)
      ]

  -- each end that the run made holds its reference, or has ended
  pub run_made : (items : List Item) (first last : World C) (journal : List Event) (number : ℕ) (place : EndAt) → IsFitWorld link first → Runs first items journal last
      → end_numbered last.ends number ≡ Some place → (end_numbered first.ends number ≡ Some place) ⊎ (Holds (seen_of link last) number place ⊎ Ended first items journal last number place)
  run_made [] first last journal number place fit run numbered = inl (subst (λ (w : World C). end_numbered w.ends number ≡ Some place) (goes.none first last journal run).1 numbered)
  run_made (item ∷ items) first last journal number place fit run numbered =
      let s = goes.one first last item items journal run in
      let w = goes.went item first s.0 s.1 fit s.3 in
      elim (run_made items s.0 last s.2 number place w.fit s.5 numbered) [
        | inl before ↦ (elim (w.made number place before) [
          | inl first_one ↦ inl first_one
          | inr held ↦ (elim (run_on items s.0 last s.2 number place w.fit s.5 before held) [
            | inl still ↦ inr (inl still)
            | inr ended ↦ inr (inr (ended_later item items first s.0 last journal s.1 s.2 number place s.3 s.4 ended))
          ])
        ])
        | inr (inl held) ↦ inr (inl held)
        | inr (inr ended) ↦ inr (inr (ended_later item items first s.0 last journal s.1 s.2 number place s.3 s.4 ended))
      ]

  -- ---- back

  pub run_fit : (items : List Item) (first last : World C) (journal : List Event) → IsFitWorld link first → Runs first items journal last → IsFitWorld link last
  run_fit [] first last journal fit run = subst (IsFitWorld link) (sym (goes.none first last journal run).1) fit
  run_fit (item ∷ items) first last journal fit run =
      let s = goes.one first last item items journal run in
      run_fit items s.0 last s.2 (goes.went item first s.0 s.1 fit s.3).fit s.5

  run_back : (items : List Item) (first last : World C) (journal : List Event) (number : ℕ) (place : EndAt) → IsFitWorld link first → Runs first items journal last
      → end_numbered first.ends number ≡ Some place → Holds (seen_of link last) number place → Holds (seen_of link first) number place
  run_back [] first last journal number place fit run numbered h = subst (λ (w : World C). Holds (seen_of link w) number place) (goes.none first last journal run).1 h
  run_back (item ∷ items) first last journal number place fit run numbered h =
      let s = goes.one first last item items journal run in
      let w = goes.went item first s.0 s.1 fit s.3 in
      w.back number place numbered (run_back items s.0 last s.2 number place w.fit s.5 (w.numbered number place numbered) h)

  -- an end that has ended does not hold its reference
  pub ended_holds_not : (items : List Item) (first last : World C) (journal : List Event) (number : ℕ) (place : EndAt) → IsFitWorld link first → Ended first items journal last number place
      → Holds (seen_of link last) number place → ⊥
  ended_holds_not items first last journal number place fit (WasFree before after mid b numbered free) h =
      let fits : IsFitWorld link mid = run_fit before first mid b.made fit b.ran in
      let was : Holds (seen_of link mid) number place = run_back after mid last b.rest number place fits b.runs_on numbered h in
      let now : ℕ = (link mid.carrier).clock in
      true_false (is_vacant (seen_of link mid) place.system place.reference)
      (ap (λ (e : Option Entity). is_vacant_at now e place.reference) free.there ∙ free_place now place.reference free.entity free.free) was.taken
  ended_holds_not items first last journal number place fit (BeganAgain before after mid b numbered) h =
      let fits : IsFitWorld link mid = run_fit before first mid b.made fit b.ran in
      let s = goes.one mid last (restart place.system) after b.rest b.runs_on in
      let w = goes.went (restart place.system) mid s.0 s.1 fits s.3 in
      let was : Holds (seen_of link s.0) number place = run_back after s.0 last s.2 number place w.fit s.5 (w.numbered number place numbered) h in
      true_false (is_vacant (seen_of link s.0) place.system place.reference) (goes.restarts place.system mid s.0 s.1 fits s.3 place.reference) was.taken
