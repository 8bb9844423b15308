-- A tick: the clock of the history goes on with that of the carrier, and then each entity ticks until none of its ends is due. So at the end no end
-- of the network is due.
use Rattle.std.proofs.Common.{◌≡◌, ℕ, ◌+◌, ◌⊎◌, ◌==◌, ◌||◌, Bool, true, false, List, [], ◌∷◌, ◌++◌, Option, Some, None, refl, sym, ◌∙◌, ap, subst, inl, inr, append_assoc, arith}
use Rattle.std.proofs.lemmas.Bool.{eqb-true}
use Rattle.std.specs.List.{list_any}
use Rattle.std.proofs.lemmas.List.{append-nil}
use Rattle.osi_base.specs.Link.{Link}
use Rattle.osi_base.specs.Calls.{Call, Keeps}
use Rattle.script_journal.specs.declared.event.Event.{Event}
use Rattle.script_journal.specs.declared.event.Event.TheVariants as events
use Rattle.net_world.specs.Told.{told}
use Rattle.tp4_number.specs.Number.{whole}
use Rattle.tp4_conn.specs.declared.timers.Timers.{Timers}
use Rattle.tp4_entity.specs.Entity.{Entity, at}
use Rattle.tp4_entity.specs.Step.{first_due, ticking, ticking_at}
use Rattle.law_tp4_history.specs.History.{Tick as HistoryTick}
use Rattle.law_tp4_history.specs.Tracks.{Nothing, Whole, onward}
use Rattle.law_tp4_history.specs.Moves.{times_of}
use Rattle.tp4_world.specs.Run.{Acts, NoneDue, OneDue, Ticks, TicksAll, TicksEntity, clock_of}
use Rattle.tp4_world.specs.World.{World, entity_at, is_of, with_entity}
use Rattle.tp4_world.specs.declared.place.Placed.{Placed}
use Rattle.law_tp4_lawful.proofs.Along.{AfterAside, AfterClock, AfterTick, AreAtRest, Explains, IsKept, Knowing, Offering, Rests}
use Rattle.law_tp4_lawful.proofs.Worlds.{Outcomes}
use Rattle.law_tp4_lawful.proofs.WorldActs.{Went, went_nowhere, went_on, went_then}
use Rattle.law_tp4_lawful.proofs.WorldAsides.{are_aside, told_quiet}
use Rattle.law_tp4_lawful.proofs.WorldFloats.{tick_goes}
use Rattle.law_tp4_lawful.proofs.WorldPlaces.{some_same}
use Rattle.tp4_world.proofs.Having.{found_any, with_first, with_other}

pub turned : (n m : ℕ) (b : Bool) → (n == m) ≡ b → (m == n) ≡ b
turned n m true is = grind arith
turned n m false is = grind arith

-- all are at rest, but of those systems some end may be due now
abbrev pub IsLeft : (Entity → Type 0) → (ℕ → Entity → Type 0) → ℕ → List Placed → List Placed → Type 0
IsLeft Sound InTime now placed entities = (system : ℕ) (e : Entity) → entity_at entities system ≡ Some e
    → Sound e × ((first_due now e ≡ None) ⊎ ((list_any (is_of system) placed ≡ true) × InTime now e))

not_empty : false ≡ true → ⊥
not_empty is = absurd cc

module _ (titles : List (List ℕ)) (timers : Timers) (Knows : Knowing) (Offered : Offering) (kept : IsKept titles timers Knows Offered) {C : Type 0} (link : C → Link (List ℕ)) (steps : C → Call (List ℕ) → C → Type 0)
    (law : (old : C) (call : Call (List ℕ)) (new : C) → steps old call new → Keeps (link old) call (link new))
    (aside : AfterAside timers Knows Offered) (tick : AfterTick timers Knows Offered) (clock : AfterClock timers Knows Offered)
    (Sound : Entity → Type 0) (InTime : ℕ → Entity → Type 0) (outcomes : Outcomes Sound InTime) where
  -- the entity of a system ticked until none of its ends was due, and no other
  record Ticked (w : Whole) (system : ℕ) (old : World C) (journal : List Event) (new : World C) : Type 0 where
    went : Went titles timers Knows Offered kept link steps law aside w journal new
    done : (e : Entity) → entity_at new.entities system ≡ Some e → Sound e × (first_due w.base.clock e ≡ None)
    others : (other : ℕ) → (other == system) ≡ false → entity_at new.entities other ≡ entity_at old.entities other

  none_ticks : (now : ℕ) (e : Entity) → first_due now e ≡ None → (ticking whole now e).entity ≡ at now e
  none_ticks now e none = ap (λ (o : Option ℕ). (ticking_at whole now (at now e) o).entity) none

  ticked_none : (w : Whole) (system : ℕ) (old new : World C) (journal made : List Event) (entity : Entity) → Explains timers Knows Offered link w journal old → entity_at old.entities system ≡ Some entity
      → Sound entity → first_due w.base.clock entity ≡ None → made ≡ [] → new ≡ record old { entities = with_entity old.entities system (at w.base.clock entity) } → Ticked w system old (journal ++ made) new
  ticked_none w system old new journal made entity e there sound none made_is becomes =
      let after : World C = record old { entities = with_entity old.entities system (at w.base.clock entity) } in
      let explains : Explains timers Knows Offered link w journal after = record { known = kept.clock w journal old.entities old.ends e.known system entity there; carries = e.carries } in
      let here : entity_at after.entities system ≡ Some (at w.base.clock entity) = with_first old.entities system (at w.base.clock entity) entity there in
      let same : new.entities ≡ after.entities = ap (λ (x : World C). x.entities) becomes in
      record {
        went = went_nowhere titles timers Knows Offered kept link steps law aside w journal made after new explains made_is becomes;
        done = λ x is.
            let one : at w.base.clock entity ≡ x = some_same (at w.base.clock entity) x (sym here ∙ ap (λ (es : List Placed). entity_at es system) (sym same) ∙ is) in
            subst (λ (y : Entity). Sound y × (first_due w.base.clock y ≡ None)) one (outcomes.clock w.base.clock entity sound, none);
        others = λ other apart. ap (λ (es : List Placed). entity_at es other) same ∙ with_other old.entities system other (at w.base.clock entity) apart;
      }

  ticked_one : (w : Whole) (system : ℕ) (old mid new : World C) (journal here rest made : List Event) (entity : Entity) (reference : ℕ) → Explains timers Knows Offered link w journal old
      → entity_at old.entities system ≡ Some entity → (first : Went titles timers Knows Offered kept link steps law aside w (journal ++ here) mid) → mid.entities ≡ with_entity old.entities system (ticking whole w.base.clock entity).entity
      → Ticked first.next system mid ((journal ++ here) ++ rest) new → made ≡ here ++ rest → Ticked w system old (journal ++ made) new
  ticked_one w system old mid new journal here rest made entity reference e there first mid_is t made_is =
      let all : (journal ++ here) ++ rest ≡ journal ++ made = append_assoc journal here rest ∙ ap (λ (xs : List Event). journal ++ xs) (sym made_is) in
      record {
        went = subst (λ (xs : List Event). Went titles timers Knows Offered kept link steps law aside w xs new) all
            (went_then titles timers Knows Offered kept link steps law aside w ((journal ++ here) ++ rest) mid new (journal ++ here) first t.went);
        done = λ x is. subst (λ (n : ℕ). Sound x × (first_due n x ≡ None)) first.goes_on.clock (t.done x is);
        others = λ other apart. t.others other apart ∙ ap (λ (es : List Placed). entity_at es other) mid_is ∙ with_other old.entities system other (ticking whole w.base.clock entity).entity apart;
      }

  entity_ticked : (system : ℕ) (old : World C) (made : List Event) (new : World C) → TicksEntity link steps whole system old made new → (w : Whole) (journal : List Event)
      → Explains timers Knows Offered link w journal old → ((x : Entity) → entity_at old.entities system ≡ Some x → Sound x × InTime w.base.clock x) → Ticked w system old (journal ++ made) new
  entity_ticked system old made new (NoneDue o m n entity there none made_is becomes) w journal e sound =
      let now : clock_of link steps old ≡ w.base.clock = e.carries.clock in
      let none_now : first_due w.base.clock entity ≡ None = subst (λ (c : ℕ). first_due c entity ≡ None) now none in
      let is : (ticking whole (clock_of link steps old) entity).entity ≡ at w.base.clock entity = none_ticks (clock_of link steps old) entity none ∙ ap (λ (c : ℕ). at c entity) now in
      ticked_none w system old new journal made entity e there (sound entity there).0 none_now made_is (becomes ∙ ap (λ (x : Entity). record old { entities = with_entity old.entities system x }) is)
  entity_ticked system old made new (OneDue o m n entity reference mid here rest there due acts more made_is) w journal e sound =
      let now : clock_of link steps old ≡ w.base.clock = e.carries.clock in
      let due_now : first_due w.base.clock entity ≡ Some reference = subst (λ (c : ℕ). first_due c entity ≡ Some reference) now due in
      let acts_now : Acts link steps old system entity.own (ticking whole w.base.clock entity) here mid = subst (λ (c : ℕ). Acts link steps old system entity.own (ticking whole c entity) here mid) now acts in
      let follows = tick w journal old.entities old.ends system entity reference e.known there due_now in
      let first : Went titles timers Knows Offered kept link steps law aside w (journal ++ here) mid =
      subst (λ (xs : List Event). Went titles timers Knows Offered kept link steps law aside w (xs ++ here) mid) (append-nil journal)
      (went_on titles timers Knows Offered kept link steps law aside w journal [] here old mid system entity.own (ticking whole w.base.clock entity) e.carries follows acts_now) in
      let mid_is : mid.entities ≡ with_entity old.entities system (ticking whole w.base.clock entity).entity = ap (λ (x : World C). x.entities) acts_now.becomes in
      let ticks = outcomes.ticking w.base.clock entity (sound entity there).0 (sound entity there).1 in
      ticked_one w system old mid new journal here rest made entity reference e there first mid_is
      (entity_ticked system mid rest new more first.next (journal ++ here) first.explains (λ x is.
      let one : (ticking whole w.base.clock entity).entity ≡ x =
      some_same (ticking whole w.base.clock entity).entity x (sym (with_first old.entities system (ticking whole w.base.clock entity).entity entity there)
      ∙ ap (λ (es : List Placed). entity_at es system) (sym mid_is) ∙ is) in
      subst (λ (y : Entity). Sound y × InTime first.next.base.clock y) one (ticks.0, subst (λ (n : ℕ). InTime n (ticking whole w.base.clock entity).entity) (sym first.goes_on.clock) ticks.1))) made_is

  -- those that are left
  left_in_time : (w : Whole) (one : Placed) (placed entities : List Placed) → IsLeft Sound InTime w.base.clock (one ∷ placed) entities → (x : Entity) → entity_at entities one.system ≡ Some x
      → Sound x × InTime w.base.clock x
  left_in_time w one placed entities left x is =
      let here = left one.system x is in
      elim here.1 [
        | inl none ↦ (here.0, (outcomes.waits w.base.clock x none).0)
        | inr due ↦ (here.0, due.1)
      ]

  left_after : (w : Whole) (one : Placed) (placed : List Placed) (old new : World C) (journal : List Event) (t : Ticked w one.system old journal new) → IsLeft Sound InTime w.base.clock (one ∷ placed) old.entities
      → IsLeft Sound InTime t.went.next.base.clock placed new.entities
  left_after w one placed old new journal t left system x is = by_system (system == one.system) refl
    where
      later : first_due w.base.clock x ≡ None → first_due t.went.next.base.clock x ≡ None
      later due = subst (λ (n : ℕ). first_due n x ≡ None) (sym t.went.goes_on.clock) due

      left_of : (one.system == system) ≡ false → (is_of system one || list_any (is_of system) placed) ≡ true → list_any (is_of system) placed ≡ true
      left_of apart any = ap (λ (b : Bool). b || list_any (is_of system) placed) (sym apart) ∙ any

      by_system : (here : Bool) → (system == one.system) ≡ here → Sound x × ((first_due t.went.next.base.clock x ≡ None) ⊎ ((list_any (is_of system) placed ≡ true) × InTime t.went.next.base.clock x))
      by_system true here =
          let same : system ≡ one.system = eqb-true system one.system here in
          let done = t.done x (ap (entity_at new.entities) (sym same) ∙ is) in
          (done.0, inl (later done.1))
      by_system false here =
          let before = left system x (sym (t.others system here) ∙ is) in
          elim before.1 [
            | inl due ↦ (before.0, inl (later due))
            | inr any ↦ (before.0, inr (left_of (turned system one.system false here) any.0, subst (λ (n : ℕ). InTime n x) (sym t.went.goes_on.clock) any.1))
          ]

  -- after all of them, all are at rest
  record AllTicked (w : Whole) (journal : List Event) (new : World C) : Type 0 where
    went : Went titles timers Knows Offered kept link steps law aside w journal new
    rest : AreAtRest Sound w.base.clock new.entities

  all_ticked : (placed : List Placed) (w : Whole) (old new : World C) (journal made : List Event) → Explains timers Knows Offered link w journal old → IsLeft Sound InTime w.base.clock placed old.entities
      → TicksAll link steps whole old placed made new → AllTicked w (journal ++ made) new
  all_ticked [] w old new journal made e left step =
      record {
        went = went_nowhere titles timers Knows Offered kept link steps law aside w journal made old new e step.0 step.1;
        rest = λ system x is.
            let here = left system x (ap (λ (y : World C). entity_at y.entities system) (sym step.1) ∙ is) in
            elim here.1 [
              | inl none ↦ (here.0, none)
              | inr any ↦ absurd (not_empty any.0)
            ];
      }
  all_ticked (one ∷ placed) w old new journal made e left step =
      let first : Ticked w one.system old (journal ++ step.1) step.0 = entity_ticked one.system old step.1 step.0 step.3 w journal e (left_in_time w one placed old.entities left) in
      let rest : AllTicked first.went.next ((journal ++ step.1) ++ step.2) new =
      all_ticked placed first.went.next step.0 new (journal ++ step.1) step.2 first.went.explains (left_after w one placed old step.0 (journal ++ step.1) first left) step.4 in
      let all : (journal ++ step.1) ++ step.2 ≡ journal ++ made = append_assoc journal step.1 step.2 ∙ ap (λ (xs : List Event). journal ++ xs) (sym step.5) in
      subst (λ (xs : List Event). AllTicked w xs new) all
      (record { went = went_then titles timers Knows Offered kept link steps law aside w ((journal ++ step.1) ++ step.2) step.0 new (journal ++ step.1) first.went rest.went; rest = subst (λ (n : ℕ). AreAtRest Sound n new.entities) first.went.goes_on.clock rest.rest })

  -- a tick
  pub ticked : (w : Whole) (old new : World C) (journal made : List Event) → Explains timers Knows Offered link w journal old → AreAtRest Sound w.base.clock old.entities → Ticks link steps whole old made new
      → Rests timers Knows Offered link Sound (journal ++ made) new
  ticked w old new journal made e rest step =
      let front : List Event = events.Tick ((link old.carrier).clock + 1) ∷ told step.ups in
      let next : Whole = onward (times_of timers) w (record { step = HistoryTick; doing = Nothing }) in
      let mid : World C = record old { carrier = step.below } in
      let known : Knows next (journal ++ front) old.entities old.ends =
      clock w journal front old.entities old.ends e.known (λ system x is. (rest system x is).1) (are_aside front (record { submits = λ end. refl; shows = λ end. refl; makes = refl }, told_quiet step.ups)) in
      let explains : Explains timers Knows Offered link next (journal ++ front) mid =
      record { known = known; carries = tick_goes Offered kept.grows timers.life link steps law w.base next.base old.carrier step.below step.ups e.carries refl (λ offer there. there) step.passes } in
      let all = all_ticked old.entities next mid new (journal ++ front) step.later explains
      (λ system x is. ((rest system x is).0, inr (found_any old.entities system x is, (outcomes.waits w.base.clock x (rest system x is).1).1))) step.all in
      let told_all : (journal ++ front) ++ step.later ≡ journal ++ made = append_assoc journal front step.later ∙ ap (λ (xs : List Event). journal ++ xs) (sym step.made_is) in
      subst (λ (xs : List Event). Rests timers Knows Offered link Sound xs new) told_all
      (record { w = all.went.next; explains = all.went.explains; rest = subst (λ (n : ℕ). AreAtRest Sound n new.entities) (sym all.went.goes_on.clock) all.rest })
