-- What all ends see of the offers of their partners, after each step of an entity.
use Rattle.std.proofs.Common.{◌≡◌, ◌⊎◌, inl, inr, ℕ, ◌+◌, ◌≤◌, ◌==◌, ◌&&◌, Bool, true, false, if◌then◌else◌, List, [], ◌∷◌, ◌++◌, length, Option, Some, refl, sym, ◌∙◌, ap, subst, Contains}
use Rattle.std.proofs.lemmas.Bool.{cases_eq, ne_eqb}
use Rattle.tp4_number.specs.Number.{whole}
use Rattle.tp4_conn.specs.End.{End, Moved, end_of}
use Rattle.tp4_conn.specs.Table.{Event, stepped}
use Rattle.tp4_conn.specs.declared.states.StateData.{StateData}
use Rattle.tp4_conn.specs.declared.timers.Timers.{Timers}
use Rattle.law_tp4_rows.specs.Giving.{EventGives}
use Rattle.law_recovery_ends.proofs.Knowing.{row_knows}
use Rattle.tp4_entity.specs.Entity.{Entity, end_at, with_end}
use Rattle.script_journal.specs.declared.event.Event.{Event as Told}
use Rattle.law_tp4_history.specs.Ends.{Offer}
use Rattle.law_tp4_history.specs.Tracks.{Whole}
use Rattle.tp4_world.specs.Telling.{ends_after}
use Rattle.tp4_world.specs.World.{entity_at, is_at, latest, latest_from, with_entity}
use Rattle.tp4_world.specs.declared.place.EndAt.{EndAt}
use Rattle.tp4_world.specs.declared.place.Placed.{Placed}
use Rattle.tp4_world.proofs.Entities.{with_found}
use Rattle.law_tp4_lawful.proofs.Acting.{IsLike}
use Rattle.law_tp4_lawful.proofs.Known.{IsKnown, IsThere}
use Rattle.law_tp4_lawful.proofs.Acts.{stage_of}
use Rattle.law_tp4_lawful.proofs.ActsRows.{AreTold, row_of}
use Rattle.law_tp4_lawful.proofs.ActsTold.{ends_stay}
use Rattle.law_tp4_lawful.proofs.Frames.{entity_other, place_other, place_there, same_ends}
use Rattle.law_tp4_lawful.proofs.MakesPlaces.{at_other, at_same}
use Rattle.law_tp4_lawful.proofs.WorldPlaces.{some_same}
use Rattle.law_recovery_world.specs.Steady.{IsSteady, StageTells}
use Rattle.law_recovery_world.proofs.Known.{AreSeeing, Known, StageHas}
use Rattle.law_recovery_world.proofs.SeeRows.{HearsIn, row_sees}

-- ---- the latest end

latest_from_other : (next found : ℕ) (ends : List EndAt) (end : EndAt) (system reference : ℕ) → is_at system reference end ≡ false
    → latest_from next found (ends ++ end ∷ []) system reference ≡ latest_from next found ends system reference
latest_from_other next found [] end system reference is = ap (λ (b : Bool). if b then next else found) is
latest_from_other next found (one ∷ ends) end system reference is = latest_from_other (next + 1) (if is_at system reference one then next else found) ends end system reference is

and_false : (b : Bool) → (b && false) ≡ false
and_false true = refl
and_false false = refl

not_both : (a s b r : ℕ) → (a ≡ s → b ≡ r → ⊥) → (a == s && b == r) ≡ false
not_both a s b r apart = elim (cases_eq a s) [
  | inl same ↦ ap (λ (x : Bool). (a == s) && x) (ne_eqb b r (λ other. apart same other)) ∙ and_false (a == s)
  | inr other ↦ ap (λ (x : Bool). x && (b == r)) (ne_eqb a s other)
]

pub latest_other : (ends : List EndAt) (system made other reference : ℕ) → (system ≡ other → made ≡ reference → ⊥)
    → latest (ends ++ record { system = system; reference = made } ∷ []) other reference ≡ latest ends other reference
latest_other ends system made other reference apart =
    latest_from_other 1 0 ends (record { system = system; reference = made }) other reference (not_both system other made reference apart)

module _ (titles : List (List ℕ)) (timers : Timers) (w : Whole) (journal : List Told) (entities : List Placed) (ends : List EndAt) (known : Known titles timers w journal entities ends)
    (system : ℕ) (entity : Entity) (is : entity_at entities system ≡ Some entity) (new : Whole) (keeps : (offer : Offer) → Contains w.base.offers offer → Contains new.base.offers offer) where
  abbrev pub Stage : List Told → ℕ → StateData → Type 0
  Stage later y stage = StageHas timers.credit new later y stage

  -- the ends of the entity afterwards
  pub record SeesStep (later : List Told) (after : List EndAt) (acted : Entity) : Type 0 where
    pub others : (other reference : ℕ) → (other ≡ system → ⊥) → latest after other reference ≡ latest ends other reference
    pub here : (reference : ℕ) (e : End) → end_at acted reference ≡ Some e
        → ((end_at entity reference ≡ Some e) × (latest after system reference ≡ latest ends system reference)) ⊎ Stage later (latest after system reference) e.stage

  abbrev pub More : List Told → Type 0
  More later = (y : ℕ) (stage : StateData) → StageHas timers.credit w journal y stage → Stage later y stage

  pub all_see : (later : List Told) (after : List EndAt) (acted : Entity) → More later → SeesStep later after acted → AreSeeing timers.credit new later (with_entity entities system acted) after
  all_see later after acted on step other x there reference e stands = elim (cases_eq other system) [
    | inl same ↦
        (let x_is : acted ≡ x = some_same acted x (sym (with_found entities system entity acted is) ∙ ap (entity_at (with_entity entities system acted)) (sym same) ∙ there) in
        subst (λ (s : ℕ). Stage later (latest after s reference) e.stage) (sym same)
        (elim (step.here reference e (ap (λ (z : Entity). end_at z reference) x_is ∙ stands)) [
          | inl stays ↦ subst (λ (y : ℕ). Stage later y e.stage) (sym stays.1) (on (latest ends system reference) e.stage (known.seeing system entity is reference e stays.0))
          | inr sees ↦ sees
        ]))
    | inr apart ↦ subst (λ (y : ℕ). Stage later y e.stage) (sym (step.others other reference apart))
        (on (latest ends other reference) e.stage (known.seeing other x (sym (entity_other entities system other acted apart) ∙ there) reference e stands))
  ]

  -- nothing moved
  pub none_step : (later : List Told) (acted : Entity) → acted.ends ≡ entity.ends → SeesStep later ends acted
  none_step later acted same = record { others = λ other reference apart. refl; here = λ reference e stands. inl (sym (same_at reference) ∙ stands, refl) }
    where
      same_at : (reference : ℕ) → end_at acted reference ≡ end_at entity reference
      same_at reference = same_ends entity acted same reference

  -- a row of an end
  module _ (reference : ℕ) (e : End) (stands : end_at entity reference ≡ Some e) (event : Event) (gives : EventGives timers.credit event) where
    abbrev pub m : Moved
    m = stepped whole w.base.clock e event

    kn : IsKnown w entity.own reference e
    kn = subst (IsThere w entity.own reference) stands ((known.plain.holds system entity is).there reference)

    pub told : AreTold reference m.events
    told = subst (λ (r : ℕ). AreTold r m.events) (sym kn.sees.reference ∙ kn.at.reference_is)
        (row_of whole w.base.clock e.base.own e event (refl, stage_of (w.base.end kn.k).birth (w.base.end kn.k).took (w.base.end kn.k).latest e.base e.stage kn.sees.state)).told

    pub ends_same : ends_after ends system m.events ≡ ends
    ends_same = ends_stay system entity.own ends reference m.events told

    pub row_step : (later : List Told) (b : Entity) → IsLike w.base.clock entity b → More later → HearsIn timers.credit new later (latest ends system reference) event e.stage
        → StageTells later (latest ends system reference) m.stage → (place : Option End) → ((x : End) → place ≡ Some x → x ≡ end_of m) → SeesStep later ends (with_end b reference place)
    row_step later b like on hears tells place kept = record {
      others = λ other r apart. refl;
      here = λ r x there. elim (cases_eq r reference) [
        | inl same ↦
            (let here_is : place ≡ Some x = sym (place_there w.base.clock entity b like reference e stands place) ∙ ap (end_at (with_end b reference place)) (sym same) ∙ there in
            inr (subst (λ (n : ℕ). Stage later (latest ends system n) x.stage) (sym same)
            (subst (λ (z : End). Stage later (latest ends system reference) z.stage) (sym (kept x here_is)) sees)))
        | inr apart ↦ inl (sym (place_other w.base.clock entity b like reference e stands place r apart) ∙ there, refl)
      ];
    }
      where
        s : IsSteady timers.credit w.base.clock e.base e.stage
        s = known.steady system entity is reference e stands

        sees : Stage later (latest ends system reference) m.stage
        sees = (
          row_sees timers.credit new later (latest ends system reference) event e.stage m.stage
              (on (latest ends system reference) e.stage (known.seeing system entity is reference e stands)).0 hears (row_knows timers.credit whole w.base.clock e event s.gives gives s.knows),
          tells,
        )

  -- a new end, which is not open
  pub new_step : (later : List Told) (b : Entity) (reference : ℕ) (x : End) → b.ends ≡ entity.ends → 1 ≤ reference → reference ≤ length b.ends → ((y : ℕ) → Stage later y x.stage)
      → SeesStep later (ends ++ record { system = system; reference = reference } ∷ []) (with_end b reference (Some x))
  new_step later b reference x same least most quiet = record {
    others = λ other r apart. latest_other ends system reference other r (λ here there. apart (sym here));
    here = λ r e there. elim (cases_eq r reference) [
      | inl here ↦
          (let e_is : x ≡ e = some_same x e (sym (at_same b reference (Some x) least most) ∙ ap (end_at (with_end b reference (Some x))) (sym here) ∙ there) in
          inr (subst (λ (z : End). Stage later (latest (ends ++ record { system = system; reference = reference } ∷ []) system r) z.stage) e_is (quiet _)))
      | inr apart ↦ inl (sym (same_ends entity b same r) ∙ sym (at_other b reference r (Some x) least apart) ∙ there, latest_other ends system reference system r (λ here there_is. apart (sym there_is)))
    ];
  }
