-- The end of a number, by where it was made; and where it was made, by its number.
use Rattle.std.proofs.Common.{◌≡◌, ◌⊎◌, inl, inr, ℕ, zero, suc, ◌+◌, ◌-◌, ◌≤◌, ◌==◌, Bool, true, false, if◌then◌else◌, List, [], ◌∷◌, slice_get, Option, Some, None, refl, sym, ◌∙◌, ap, arith}
use Rattle.std.specs.Prelude.{option_and_then}
use Rattle.std.proofs.lemmas.Bool.{eq-eqb, eqb-true}
use Rattle.osi_base.specs.Calls.{Call}
use Rattle.osi_base.specs.Link.{Link}
use Rattle.script_journal.specs.declared.event.Event.{Event}
use Rattle.tp4_conn.specs.End.{End}
use Rattle.tp4_conn.specs.declared.timers.Timers.{Timers}
use Rattle.tp4_entity.specs.Entity.{Entity, end_at}
use Rattle.tp4_world.specs.World.{World, end_numbered, entity_at, is_at, latest, latest_from}
use Rattle.tp4_world.specs.declared.place.EndAt.{EndAt}
use Rattle.law_tp4_history.specs.Tracks.{Whole}
use Rattle.law_tp4_lawful.proofs.ReferencesHalves.{known_at}
use Rattle.law_tp4_lawful.proofs.WorldPlaces.{none_some}
use Rattle.law_tp4_lawful.proofs.Worlds.{Explains}
use Rattle.law_calm_run.specs.Service.{end_at_number, end_placed}
use Rattle.law_recovery_run.specs.Following.{Stands}
use Rattle.law_recovery_run.specs.Laws.{PartnersAreFollowed, EndsHaveNumbers, OpenedAreFollowed}
use Rattle.law_recovery_run.proofs.Waiting.{both_parts}
use Rattle.law_recovery_run.specs.Ready.{pair_at}

-- ---- where an end was made

-- the number is that of an end made there, where the first of these ends has the number `next`
record IsMadeThere (ends : List EndAt) (next number system reference : ℕ) : Type 0 where
  place : ℕ
  made : slice_get ends place ≡ Some (record { system = system; reference = reference })
  number_is : number ≡ next + place

end_is : (system reference : ℕ) (end : EndAt) → is_at system reference end ≡ true → end ≡ record { system = system; reference = reference }
end_is system reference end at =
    let both = both_parts (end.system == system) (end.reference == reference) at in
    let systems : end.system ≡ system = eqb-true end.system system both.0 in
    let references : end.reference ≡ reference = eqb-true end.reference reference both.1 in
    λ i. record { system = systems i; reference = references i }

-- the latest end made there has the number of one made there, or none was made
latest_there : (ends : List EndAt) (next before system reference : ℕ)
    → (latest_from next before ends system reference ≡ before) ⊎ IsMadeThere ends next (latest_from next before ends system reference) system reference
latest_there [] next before system reference = inl refl
latest_there (end ∷ ends) next before system reference = by (is_at system reference end) refl (λ from. latest_there ends (next + 1) from system reference)
  where
    later : (number : ℕ) → IsMadeThere ends (next + 1) number system reference → IsMadeThere (end ∷ ends) next number system reference
    later number m = record { place = suc m.place; made = m.made; number_is = omega (arith, m.number_is) }

    by : (here : Bool) → is_at system reference end ≡ here
        → ((from : ℕ) → (latest_from (next + 1) from ends system reference ≡ from) ⊎ IsMadeThere ends (next + 1) (latest_from (next + 1) from ends system reference) system reference)
        → (latest_from (next + 1) (if here then next else before) ends system reference ≡ before)
        ⊎ IsMadeThere (end ∷ ends) next (latest_from (next + 1) (if here then next else before) ends system reference) system reference
    by true at rest = elim (rest next) [
      | inl is ↦ inr (record { place = zero; made = ap (λ (e : EndAt). Some e) (end_is system reference end at); number_is = omega (arith, is) })
      | inr m ↦ inr (later (latest_from (next + 1) next ends system reference) m)
    ]
    by false at rest = elim (rest before) [
      | inl is ↦ inl is
      | inr m ↦ inr (later (latest_from (next + 1) before ends system reference) m)
    ]

numbered : (ends : List EndAt) (system reference number : ℕ) → 1 ≤ number → latest ends system reference ≡ number → end_numbered ends number ≡ Some (record { system = system; reference = reference })
numbered ends system reference number least is = elim (latest_there ends 1 0 system reference) [
  | inl none ↦ absurd (none_made none)
  | inr m ↦ at m.place (number == 0) (less m.place (sym is ∙ m.number_is)) not_zero m.made
]
  where
    none_least : number ≡ 0 → ⊥
    none_least zero_is = omega (arith, zero_is, least)

    none_made : latest ends system reference ≡ 0 → ⊥
    none_made none = none_least (sym is ∙ none)

    less : (place : ℕ) → number ≡ 1 + place → number - 1 ≡ place
    less place number_is = omega (arith, number_is)

    not_zero : (number == 0) ≡ false
    not_zero = grind (arith, least)

    at : (place : ℕ) (z : Bool) → number - 1 ≡ place → z ≡ false → slice_get ends place ≡ Some (record { system = system; reference = reference })
        → (if z then None else slice_get ends (number - 1)) ≡ Some (record { system = system; reference = reference })
    at place z same none made = ap (λ (b : Bool). if b then None else slice_get ends (number - 1)) none ∙ ap (slice_get ends) same ∙ made

-- ---- the end of a number

module _ {C : Type 0} (world : World C) (number : ℕ) (end : End) where
  pub stands_there : 1 ≤ number → Stands world number end → end_at_number world number ≡ Some end
  stands_there least s =
      ap (end_placed world number) (numbered world.ends s.system s.reference number least s.is_end.number)
      ∙ ap (λ (b : Bool). if b then option_and_then (λ (e : Entity). end_at e s.reference) (entity_at world.entities s.system) else None)
      (eq-eqb (latest world.ends s.system s.reference) number s.is_end.number)
      ∙ ap (option_and_then (λ (e : Entity). end_at e s.reference)) s.is_end.there ∙ s.is_end.stands

  pub there_stands : end_at_number world number ≡ Some end → Stands world number end
  there_stands is = by_place (end_numbered world.ends number) is
    where
      by_entity : (place : EndAt) (o : Option Entity) → latest world.ends place.system place.reference ≡ number → entity_at world.entities place.system ≡ o
          → option_and_then (λ (e : Entity). end_at e place.reference) o ≡ Some end → Stands world number end
      by_entity place None same there at = absurd (none_some end at)
      by_entity place (Some e) same there at =
          record { system = place.system; reference = place.reference; entity = e; is_end = record { there = there; stands = at; number = same } }

      by_latest : (place : EndAt) (same : Bool) → (latest world.ends place.system place.reference == number) ≡ same
          → (if same then option_and_then (λ (e : Entity). end_at e place.reference) (entity_at world.entities place.system) else None) ≡ Some end → Stands world number end
      by_latest place true same at = by_entity place (entity_at world.entities place.system) (eqb-true (latest world.ends place.system place.reference) number same) refl at
      by_latest place false same at = absurd (none_some end at)

      by_place : (o : Option EndAt) → end_placed world number o ≡ Some end → Stands world number end
      by_place None at = absurd (none_some end at)
      by_place (Some place) at = by_latest place (latest world.ends place.system place.reference == number) refl at

-- an end that a history explains has a number from 1 on
pub has_number : {C : Type 0} (link : C → Link (List ℕ)) (titles : List (List ℕ)) (timers : Timers) (w : Whole) (journal : List Event) (world : World C) → Explains link titles timers w journal world
    → (number : ℕ) (end : End) → Stands world number end → end_at_number world number ≡ Some end
has_number link titles timers w journal world explains number end s =
    let known = known_at link titles timers w journal world explains number s.system s.entity s.reference end s.is_end in
    stands_there world number end (omega (arith, known.1)) s

-- two partners that are Opened by their numbers
pub opened_followed : {C : Type 0} (link : C → Link (List ℕ)) (steps : C → Call (List ℕ) → C → Type 0) → PartnersAreFollowed link steps → EndsHaveNumbers link steps → OpenedAreFollowed link steps
opened_followed link steps follow numbers titles timers journal last a calling called x y o q ends x_is y_is x_open y_open =
    (follow titles timers journal last a calling called (pair_at (link last.carrier).clock journal calling called x y) o q).0
    (record {
      partners = inl ends;
      calling = (numbers titles timers journal last a calling x).1 x_is;
      called = (numbers titles timers journal last a called y).1 y_is;
      calling_open = x_open;
      called_open = y_open;
      clock = refl;
      idle = record { forth = refl; back = refl };
      calling_gave = refl;
      called_gave = refl;
      calling_showed = refl;
      called_showed = refl;
    })
