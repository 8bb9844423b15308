-- A tick where nothing waits: the clock goes on, no unit comes, and then the due ends of each entity tick until none is due.
use Rattle.std.proofs.Common.{◌≡◌, ◌⊎◌, ℕ, ◌+◌, ◌==◌, ◌||◌, Bool, true, false, List, [], ◌∷◌, ◌++◌, Option, Some, None, refl, sym, ◌∙◌, ap, subst, inl, inr, append-nil, append_assoc, arith}
use Rattle.std.specs.List.{AllByRecursion, list_any}
use Rattle.osi_base.specs.Calls.{Call, Keeps, Tick}
use Rattle.osi_base.specs.Link.{Link}
use Rattle.osi_base.specs.declared.unit.Unit.{Unit as CarriedUnit}
use Rattle.script_journal.specs.declared.event.Event.{Event}
use Rattle.script_journal.specs.declared.event.Event.TheVariants as events
use Rattle.net_world.specs.Fifo.{IsFifo}
use Rattle.net_world.specs.Told.{told}
use Rattle.tp4_number.specs.Number.{whole}
use Rattle.tp4_entity.specs.Entity.{Acted, Entity, at}
use Rattle.tp4_entity.specs.Step.{first_due, ticking, ticking_at}
use Rattle.law_tp4_proper.specs.Rest.{AreInTime, AreProper, IsProperTick}
use Rattle.law_tp4_proper.proofs.Ends.{ticking_proper, waits}
use Rattle.law_tp4_pair.specs.Claim.{IsUndropped}
use Rattle.tp4_world.specs.Run.{Acts, NoneDue, OneDue, Ticks, TicksAll, TicksEntity, clock_of}
use Rattle.tp4_world.specs.World.{World, entity_at, is_of, with_entity}
use Rattle.tp4_world.specs.declared.place.Placed.{Placed}
use Rattle.tp4_world.proofs.Destinations.{ActsFine, ticking_fine}
use Rattle.law_tp4_lawful.proofs.WorldAsides.{are_aside, told_quiet}
use Rattle.law_tp4_lawful.proofs.WorldPlaces.{some_same}
use Rattle.law_tp4_lawful.proofs.WorldTicks.{turned}
use Rattle.tp4_world.proofs.Having.{found_any, with_first, with_other}
use Rattle.law_calm_run.specs.Run.{HaveEntities}
use Rattle.law_calm_run.proofs.Hall.{AreWaiting, Clocking, Hall, IsAddress, Over, TickGoes, TickStep, Ticking, TicksDone, TicksMore, after}
use Rattle.law_calm_run.proofs.Posting.{AreKept, AreUnitsOf, IsHall}
use Rattle.law_calm_run.proofs.Going.{Stands, Went, acts_go, have_after, kept_after, one_step}
use Rattle.law_calm_run.proofs.Queueing.{all_parts, none_dropped}

equal : (n m : ℕ) → (n == m) ≡ true → n ≡ m
equal n m is = grind arith

not_empty : false ≡ true → ⊥
not_empty is = absurd cc

-- ---- chains

ticks_then : (old mid new : Hall) (made here rest : List Event) → TickGoes old here mid → TickGoes mid rest new → made ≡ here ++ rest → TickGoes old made new
ticks_then old mid new made here rest (TicksDone o h m none same) more is =
    subst (λ (x : Hall). TickGoes x made new) same
    (subst (λ (es : List Event). TickGoes mid es new) (sym (is ∙ ap (λ (es : List Event). es ++ rest) none)) more)
ticks_then old mid new made here rest (TicksMore o h m between first others proper step goes all) more is =
    TicksMore old made new between first (others ++ rest) proper step (ticks_then between mid new (others ++ rest) others rest goes more refl)
    (is ∙ ap (λ (es : List Event). es ++ rest) all ∙ append_assoc first others rest)

one_tick : (titles : List (List ℕ)) (old new : Hall) (made : List Event) → AreKept titles old.entities → TickStep old made new → TickGoes old made new
one_tick titles old new made kept step = TicksMore old made new new made [] (λ system e is. (kept system e is).proper) step (TicksDone new [] new refl refl) (sym (append-nil made))

-- no end is due, but of those systems some may be
abbrev pub IsLeft : ℕ → List Placed → List Placed → Type 0
IsLeft now placed entities = (system : ℕ) (e : Entity) → entity_at entities system ≡ Some e → (first_due now e ≡ None) ⊎ ((list_any (is_of system) placed ≡ true) × AreInTime now e)

module _ {C : Type 0} (link : C → Link (List ℕ)) (steps : C → Call (List ℕ) → C → Type 0)
    (law : (old : C) (call : Call (List ℕ)) (new : C) → steps old call new → Keeps (link old) call (link new))
    (titles : List (List ℕ)) (Waits : C → List (CarriedUnit (List ℕ)) → Type 0) (fifo : IsFifo link steps titles Waits) where
  -- the network went on within a tick
  record Gone (old : Hall) (made : List Event) (new : World C) : Type 0 where
    next : Hall
    queue : List (CarriedUnit (List ℕ))
    goes : TickGoes old made next
    shows : IsHall link titles Waits new next queue
    kept : AreKept titles next.entities
    have : HaveEntities titles next.entities
    clock : next.clock ≡ old.clock

  -- the entity of a system ticked until none of its ends was due, and no other
  record Ticked (system : ℕ) (old : Hall) (made : List Event) (new : World C) : Type 0 where
    gone : Gone old made new
    done : (e : Entity) → entity_at gone.next.entities system ≡ Some e → first_due old.clock e ≡ None
    others : (other : ℕ) → (other == system) ≡ false → entity_at gone.next.entities other ≡ entity_at old.entities other

  none_ticks : (now : ℕ) (e : Entity) → first_due now e ≡ None → (ticking whole now e).entity ≡ at now e
  none_ticks now e none = ap (λ (o : Option ℕ). (ticking_at whole now (at now e) o).entity) none

  entity_ticked : (system : ℕ) (old : World C) (made : List Event) (new : World C) → TicksEntity link steps whole system old made new → (hall : Hall) (queue : List (CarriedUnit (List ℕ)))
      → IsHall link titles Waits old hall queue → AreKept titles hall.entities → HaveEntities titles hall.entities
      → ((x : Entity) → entity_at hall.entities system ≡ Some x → AreInTime hall.clock x) → AllByRecursion IsUndropped made → Ticked system hall made new
  entity_ticked system old made new (NoneDue o m n entity there none made_is becomes) hall queue shows kept have soon all =
      let now : ℕ = hall.clock in
      let there_now : entity_at hall.entities system ≡ Some entity = sym (ap (λ (ps : List Placed). entity_at ps system) shows.entities) ∙ there in
      let none_now : first_due hall.clock entity ≡ None = subst (λ (c : ℕ). first_due c entity ≡ None) shows.clock none in
      let is : (ticking whole (clock_of link steps old) entity).entity ≡ at hall.clock entity = none_ticks (clock_of link steps old) entity none ∙ ap (λ (c : ℕ). at c entity) shows.clock in
      let next : Hall = record hall { entities = with_entity hall.entities system (at hall.clock entity) } in
      let after_is : new ≡ record old { entities = with_entity old.entities system (at hall.clock entity) } = becomes ∙ ap (λ (x : Entity). record old { entities = with_entity old.entities system x }) is in
      let was = kept system entity there_now in
      let fine : ActsFine (IsAddress titles) entity.own (record { entity = at hall.clock entity; events = []; tpdus = [] }) = record { own_is = refl; ends = was.ends; tpdus = tt } in
      let proper : AreProper (at hall.clock entity) = record { timers = was.proper.timers; inactive = was.proper.inactive; ends = was.proper.ends } in
      record {
        gone = record {
          next = next;
          queue = queue;
          goes = one_tick titles hall next made kept (Over (record { system = system; entity = entity; there = there_now; none_due = none_now; made_is = made_is; becomes = refl }));
          shows = subst (λ (x : World C). IsHall link titles Waits x next queue) (sym after_is)
              (record { clock = shows.clock; entities = ap (λ (ps : List Placed). with_entity ps system (at hall.clock entity)) shows.entities; ends = shows.ends; waits = shows.waits; units = shows.units });
          kept = kept_after titles hall.entities system entity (record { entity = at hall.clock entity; events = []; tpdus = [] }) kept there_now proper fine;
          have = have_after titles hall.entities system (at hall.clock entity) have;
          clock = refl;
        };
        done = λ x x_is.
            subst (λ (e : Entity). first_due hall.clock e ≡ None)
            (some_same (at hall.clock entity) x (sym (with_first hall.entities system (at hall.clock entity) entity there_now) ∙ x_is)) none_now;
        others = λ other apart. with_other hall.entities system other (at hall.clock entity) apart;
      }
  entity_ticked system old made new (OneDue o m n entity reference mid here rest there due acts more made_is) hall queue shows kept have soon all =
      let parts = all_parts IsUndropped here rest (subst (λ (es : List Event). AllByRecursion IsUndropped es) made_is all) in
      let there_now : entity_at hall.entities system ≡ Some entity = sym (ap (λ (ps : List Placed). entity_at ps system) shows.entities) ∙ there in
      let due_now : first_due hall.clock entity ≡ Some reference = subst (λ (c : ℕ). first_due c entity ≡ Some reference) shows.clock due in
      let acted : Acted = ticking whole hall.clock entity in
      let acts_now : Acts link steps old system entity.own acted here mid = subst (λ (c : ℕ). Acts link steps old system entity.own (ticking whole c entity) here mid) shows.clock acts in
      let was = kept system entity there_now in
      let proper : IsProperTick hall.clock acted = ticking_proper whole hall.clock entity was.proper (soon entity there_now) in
      let fine : ActsFine (IsAddress titles) entity.own acted = ticking_fine (IsAddress titles) whole hall.clock entity was.ends in
      let a = acts_go link steps law titles Waits fifo old mid hall queue system was.title entity.own acted here shows was.title_is was.own fine proper.tpdus parts.0 acts_now in
      let next : Hall = after hall system acted in
      let first : entity_at next.entities system ≡ Some acted.entity = with_first hall.entities system acted.entity entity there_now in
      let t : Ticked system next rest new = entity_ticked system mid rest new more next a.queue a.shows (kept_after titles hall.entities system entity acted kept there_now proper.proper fine)
      (have_after titles hall.entities system acted.entity have)
      (λ x x_is. subst (λ (e : Entity). AreInTime hall.clock e) (some_same acted.entity x (sym first ∙ x_is)) proper.in_time) parts.1 in
      record {
        gone = record {
          next = t.gone.next;
          queue = t.gone.queue;
          goes = ticks_then hall next t.gone.next made here rest
              (one_tick titles hall next here kept (Ticking (record { system = system; entity = entity; there = there_now; reference = reference; due = due_now; does = a.does }))) t.gone.goes made_is;
          shows = t.gone.shows;
          kept = t.gone.kept;
          have = t.gone.have;
          clock = t.gone.clock;
        };
        done = t.done;
        others = λ other apart. t.others other apart ∙ with_other hall.entities system other acted.entity apart;
      }

  -- those that are left
  left_after : (one : Placed) (placed : List Placed) (old : Hall) (made : List Event) (new : World C) (t : Ticked one.system old made new) → IsLeft old.clock (one ∷ placed) old.entities
      → IsLeft t.gone.next.clock placed t.gone.next.entities
  left_after one placed old made new t left system x is = by_system (system == one.system) refl
    where
      later : first_due old.clock x ≡ None → first_due t.gone.next.clock x ≡ None
      later due = subst (λ (n : ℕ). first_due n x ≡ None) (sym t.gone.clock) due

      left_of : (one.system == system) ≡ false → (is_of system one || list_any (is_of system) placed) ≡ true → list_any (is_of system) placed ≡ true
      left_of apart any = ap (λ (b : Bool). b || list_any (is_of system) placed) (sym apart) ∙ any

      by_system : (here : Bool) → (system == one.system) ≡ here → (first_due t.gone.next.clock x ≡ None) ⊎ ((list_any (is_of system) placed ≡ true) × AreInTime t.gone.next.clock x)
      by_system true here = inl (later (t.done x (ap (entity_at t.gone.next.entities) (sym (equal system one.system here)) ∙ is)))
      by_system false here = elim (left system x (sym (t.others system here) ∙ is)) [
        | inl due ↦ inl (later due)
        | inr any ↦ inr (left_of (turned system one.system false here) any.0, subst (λ (n : ℕ). AreInTime n x) (sym t.gone.clock) any.1)
      ]

  record AllTicked (old : Hall) (made : List Event) (new : World C) : Type 0 where
    gone : Gone old made new
    rest : AreWaiting gone.next.clock gone.next.entities

  all_ticked : (placed : List Placed) (old new : World C) (made : List Event) (hall : Hall) (queue : List (CarriedUnit (List ℕ))) → IsHall link titles Waits old hall queue → AreKept titles hall.entities
      → HaveEntities titles hall.entities → IsLeft hall.clock placed hall.entities → AllByRecursion IsUndropped made → TicksAll link steps whole old placed made new → AllTicked hall made new
  all_ticked [] old new made hall queue shows kept have left all step = record {
    gone = record {
      next = hall;
      queue = queue;
      goes = TicksDone hall made hall step.0 refl;
      shows = subst (λ (x : World C). IsHall link titles Waits x hall queue) (sym step.1) shows;
      kept = kept;
      have = have;
      clock = refl;
    };
    rest = λ system x is. elim (left system x is) [
      | inl none ↦ none
      | inr any ↦ absurd (not_empty any.0)
    ];
  }
  all_ticked (one ∷ placed) old new made hall queue shows kept have left all step =
      let parts = all_parts IsUndropped step.1 step.2 (subst (λ (es : List Event). AllByRecursion IsUndropped es) step.5 all) in
      let first : Ticked one.system hall step.1 step.0 = entity_ticked one.system old step.1 step.0 step.3 hall queue shows kept have
      (λ x is. elim (left one.system x is) [
        | inl none ↦ (waits hall.clock x none).0
        | inr any ↦ any.1
      ]) parts.0 in
      let rest : AllTicked first.gone.next step.2 new = all_ticked placed step.0 new step.2 first.gone.next first.gone.queue first.gone.shows first.gone.kept first.gone.have
      (left_after one placed hall step.1 step.0 first left) parts.1 step.4 in
      record {
        gone = record {
          next = rest.gone.next;
          queue = rest.gone.queue;
          goes = ticks_then hall first.gone.next rest.gone.next made step.1 step.2 first.gone.goes rest.gone.goes step.5;
          shows = rest.gone.shows;
          kept = rest.gone.kept;
          have = rest.gone.have;
          clock = rest.gone.clock ∙ first.gone.clock;
        };
        rest = rest.rest;
      }

  -- a tick, where nothing waits
  pub ticked : (old new : World C) (made : List Event) (hall : Hall) (queue : List (CarriedUnit (List ℕ))) → Stands link steps law titles Waits fifo old hall queue → queue ≡ [] → AllByRecursion IsUndropped made
      → Ticks link steps whole old made new → Went link steps law titles Waits fifo hall made new
  ticked old new made hall queue s none all step =
      let front : List Event = events.Tick ((link old.carrier).clock + 1) ∷ told step.ups in
      let parts = all_parts IsUndropped (told step.ups) step.later (subst (λ (es : List Event). AllByRecursion IsUndropped es) step.made_is all).1 in
      let posts : hall.posts ≡ [] = subst (λ (q : List (CarriedUnit (List ℕ))). AreUnitsOf titles q hall.posts) none s.shows.units in
      let goes = fifo.ticked old.carrier step.below step.ups (subst (Waits old.carrier) none s.shows.waits) step.passes (none_dropped step.ups parts.0) in
      let clock : (link step.below).clock ≡ hall.clock + 1 =
      step.passes.gathers.stands.clock ∙ (law old.carrier Tick step.passes.called step.passes.steps_to).clock ∙ ap (λ (n : ℕ). n + 1) s.shows.clock in
      let next : Hall = record hall { clock = hall.clock + 1 } in
      let mid : World C = record old { carrier = step.below } in
      let shows : IsHall link titles Waits mid next [] = record { clock = clock; entities = s.shows.entities; ends = s.shows.ends; waits = goes.1; units = posts } in
      let aside = are_aside front (record { submits = λ end. refl; shows = λ end. refl; makes = refl }, told_quiet step.ups) in
      let a : AllTicked next step.later new = all_ticked old.entities mid new step.later next [] shows s.kept s.have
      (λ system x is. inr (found_any old.entities system x (ap (λ (ps : List Placed). entity_at ps system) s.shows.entities ∙ is), (waits hall.clock x (s.rest system x is)).1)) parts.1 step.all in
      record {
        next = a.gone.next;
        queue = a.gone.queue;
        goes = one_step titles hall a.gone.next made s.kept
            (Clocking (record { idle = posts; before = s.rest; front = front; aside = aside; later = step.later; ticks = a.gone.goes; over = a.rest; made_is = step.made_is }));
        shows = a.gone.shows;
        kept = a.gone.kept;
        have = a.gone.have;
        rest = a.rest;
      }
