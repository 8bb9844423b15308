-- The due ends of an entity tick, each time one fewer, until none is due; and so do those of each entity.
use Rattle.std.proofs.Common.{◌≡◌, ◌⊎◌, inl, inr, ℕ, zero, suc, ◌+◌, ◌<◌, ◌≤◌, ◌==◌, ◌||◌, Bool, true, false, List, [], ◌∷◌, ◌++◌, Option, Some, None, option_map, refl, sym, ◌∙◌, ap, subst, arith, cond}
use Rattle.std.specs.Prelude.{is_some}
use Rattle.std.specs.List.{AllByRecursion, find, list_any}
use Rattle.std.proofs.lemmas.Bool.{eq-eqb, eqb-false, eqb-true, ne_eqb}
use Rattle.osi_base.specs.Calls.{Tick}
use Rattle.law_carrier_answers.specs.Answers.{Ticking}
use Rattle.law_carrier_answers.proofs.Answered.{answered_by}
use Rattle.tp4_number.proofs.Past.{if_kept}
use Rattle.script_journal.specs.declared.event.Event.{Event}
use Rattle.script_journal.specs.declared.event.Event.TheVariants as events
use Rattle.script_lines.specs.declared.line.Line.TheVariants as lines
use Rattle.net_world.specs.Told.{told}
use Rattle.tp4_entity.specs.Entity.{Entity, at}
use Rattle.tp4_entity.specs.Step.{dues, first_due, ticking, ticking_at}
use Rattle.law_tp4_proper.specs.Octets.{EntityInOctets}
use Rattle.law_tp4_proper.specs.Rest.{AreInTime, AreProper}
use Rattle.law_tp4_proper.proofs.Ends.{ticking_proper, waits}
use Rattle.law_tp4_proper.proofs.Fewer.{ticking_fewer}
use Rattle.law_tp4_proper.proofs.OctetEnds.{ticking_in}
use Rattle.tp4_world.specs.Run.{NoneDue, OneDue, TicksAll, TicksEntity}
use Rattle.tp4_world.specs.Total.{HasEntity}
use Rattle.tp4_world.specs.World.{World, entity_at, is_of, with_entity}
use Rattle.tp4_world.specs.declared.place.Placed.{Placed}
use Rattle.tp4_world.proofs.Having.{found, found_any, with_any, with_first, with_other, with_some}
use Rattle.tp4_world.proofs.SomeRun.{Carrier, Ready, Runs, acts_so, ends_stay, now_of, passed}
use Rattle.tp4_world.proofs.Places.{some_same}

abbrev HasSystem : List Placed → Placed → Type 0
HasSystem placed one = is_some (entity_at placed one.system) ≡ true

more_systems : (first : Placed) (placed some : List Placed) → AllByRecursion (HasSystem placed) some → AllByRecursion (HasSystem (first ∷ placed)) some
more_systems first placed [] h = tt
more_systems first placed (one ∷ some) h =
    (if_kept (λ (o : Option Placed). is_some (option_map (λ (x : Placed). x.entity) o) ≡ true) (is_of one.system first) (Some first) (find (is_of one.system) placed) (λ _. refl) (λ _. h.0), more_systems first placed some h.1)

all_systems : (placed : List Placed) → AllByRecursion (HasSystem placed) placed
all_systems [] = tt
all_systems (one ∷ placed) =
    (ap (λ (b : Bool). is_some (option_map (λ (x : Placed). x.entity) (cond b (Some one) (find (is_of one.system) placed)))) (eq-eqb one.system one.system refl), more_systems one placed placed (all_systems placed))

still_systems : (old new some : List Placed) → ((system : ℕ) → is_some (entity_at old system) ≡ true → is_some (entity_at new system) ≡ true) → AllByRecursion (HasSystem old) some → AllByRecursion (HasSystem new) some
still_systems old new [] f h = tt
still_systems old new (one ∷ some) f h = (f one.system h.0, still_systems old new some f h.1)

module _ {C : Type 0} (base : Carrier C) (wrap : ℕ → ℕ → ℕ) where
  open base use {link, steps, keeps, is_address, Stands, serves}

  -- ---- a tick

  -- an entity while its due ends tick
  record TicksOn (now : ℕ) (e : Entity) : Type 0 where
    proper : AreProper e
    in_time : AreInTime now e
    octets : EntityInOctets is_address e

  record InTick (world : World C) : Type 0 where
    carrier : Stands world.carrier
    entities : (system : ℕ) (e : Entity) → entity_at world.entities system ≡ Some e → TicksOn (now_of base world) e
    ends : AllByRecursion (HasEntity world.entities) world.ends

  -- the due ends of one entity ticked
  record TickedOne (system : ℕ) (old : World C) : Type 0 where
    made : List Event
    new : World C
    ticks : TicksEntity link steps wrap system old made new
    in_tick : InTick new
    clock : now_of base new ≡ now_of base old
    idle : (e : Entity) → entity_at new.entities system ≡ Some e → first_due (now_of base new) e ≡ None
    others : (other : ℕ) → (other == system) ≡ false → entity_at new.entities other ≡ entity_at old.entities other
    still : (other : ℕ) → is_some (entity_at old.entities other) ≡ true → is_some (entity_at new.entities other) ≡ true

  ticked_on : (now : ℕ) (e : Entity) → TicksOn now e → TicksOn now (ticking wrap now e).entity
  ticked_on now e t =
      let step = ticking_proper wrap now e t.proper t.in_time in
      record { proper = step.proper; in_time = step.in_time; octets = (ticking_in is_address wrap now e t.octets).entity }

  -- where another entity stands at a system
  changed : (old new : World C) (system : ℕ) (e : Entity) → new.entities ≡ with_entity old.entities system e → now_of base new ≡ now_of base old → InTick old → TicksOn (now_of base old) e
      → (other : ℕ) (x : Entity) → entity_at new.entities other ≡ Some x → TicksOn (now_of base new) x
  changed old new system e same clock t on other x is =
      subst (λ (now : ℕ). TicksOn now x) (sym clock) (elim (with_any old.entities system other e x (subst (λ (l : List Placed). entity_at l other ≡ Some x) same is)) [
        | inl here ↦ subst (λ (y : Entity). TicksOn (now_of base old) y) (sym here.1) on
        | inr stays ↦ t.entities other x stays
      ])

  none_due : (system : ℕ) (old : World C) (e : Entity) → InTick old → entity_at old.entities system ≡ Some e → first_due (now_of base old) e ≡ None → TickedOne system old
  none_due system old e t is idle =
      let after = (ticking wrap (now_of base old) e).entity in
      let new : World C = record old { entities = with_entity old.entities system after } in
      let same : after ≡ at (now_of base old) e = ap (λ (f : Option ℕ). (ticking_at wrap (now_of base old) (at (now_of base old) e) f).entity) idle in
      record {
        made = [];
        new = new;
        ticks = NoneDue old [] new e is idle refl refl;
        in_tick = record {
          carrier = t.carrier;
          entities = changed old new system after refl refl t (ticked_on (now_of base old) e (t.entities system e is));
          ends = ends_stay old.entities system after old.ends t.ends;
        };
        clock = refl;
        idle = λ x there.
            let is_it : after ≡ x = some_same after x (sym (with_first old.entities system after e is) ∙ there) in
            ap (first_due (now_of base old)) (sym is_it ∙ same) ∙ idle;
        others = λ other apart. with_other old.entities system other after apart;
        still = λ other h. with_some old.entities system other after h;
      }

  abbrev Loops : ℕ → Type 0
  Loops fuel = (system : ℕ) (old : World C) (e : Entity) → InTick old → entity_at old.entities system ≡ Some e → dues (now_of base old) e ≤ fuel → TickedOne system old

  one_due : (fuel : ℕ) → Loops fuel → (system : ℕ) (old : World C) (e : Entity) (reference : ℕ) → InTick old → entity_at old.entities system ≡ Some e → first_due (now_of base old) e ≡ Some reference
      → dues (now_of base old) e ≤ suc fuel → TickedOne system old
  one_due fuel next system old e reference t is due few =
      let on = t.entities system e is in
      let acted = ticking wrap (now_of base old) e in
      let step = ticking_proper wrap (now_of base old) e on.proper on.in_time in
      let octets = ticking_in is_address wrap (now_of base old) e on.octets in
      let a = acts_so base old system e.own acted t.carrier t.ends (ap (λ (o : Option Entity). is_some o) is) on.octets.own step.tpdus octets.tpdus in
      let mid_is : entity_at a.new.entities system ≡ Some acted.entity = ap (λ (l : List Placed). entity_at l system) a.entities ∙ with_first old.entities system acted.entity e is in
      let fewer : dues (now_of base old) acted.entity + 1 ≡ dues (now_of base old) e = ticking_fewer wrap (now_of base old) reference e on.proper due in
      let mid_few : dues (now_of base a.new) acted.entity ≡ dues (now_of base old) acted.entity = ap (λ (now : ℕ). dues now acted.entity) a.clock in
      let in_tick : InTick a.new = record {
        carrier = a.stands;
        entities = changed old a.new system acted.entity a.entities a.clock t (record { proper = step.proper; in_time = step.in_time; octets = octets.entity });
        ends = a.ends;
      } in
      let rest = next system a.new acted.entity in_tick mid_is (omega (arith, fewer, mid_few, few)) in
      record {
        made = a.made ++ rest.made;
        new = rest.new;
        ticks = OneDue old (a.made ++ rest.made) rest.new e reference a.new a.made rest.made is due a.acts rest.ticks refl;
        in_tick = rest.in_tick;
        clock = rest.clock ∙ a.clock;
        idle = rest.idle;
        others = λ other apart. rest.others other apart ∙ ap (λ (l : List Placed). entity_at l other) a.entities ∙ with_other old.entities system other acted.entity apart;
        still = λ other h. rest.still other (subst (λ (l : List Placed). is_some (entity_at l other) ≡ true) (sym a.entities) (with_some old.entities system other acted.entity h));
      }

  by_due : (fuel : ℕ) → Loops fuel → (system : ℕ) (old : World C) (e : Entity) (found : Option ℕ) → first_due (now_of base old) e ≡ found → InTick old → entity_at old.entities system ≡ Some e
      → dues (now_of base old) e ≤ suc fuel → TickedOne system old
  by_due fuel next system old e None due t is few = none_due system old e t is due
  by_due fuel next system old e (Some reference) due t is few = one_due fuel next system old e reference t is due few

  no_dues : (system : ℕ) (old : World C) (e : Entity) (found : Option ℕ) → first_due (now_of base old) e ≡ found → InTick old → entity_at old.entities system ≡ Some e
      → dues (now_of base old) e ≤ 0 → TickedOne system old
  no_dues system old e None due t is few = none_due system old e t is due
  no_dues system old e (Some reference) due t is few =
      let fewer = ticking_fewer wrap (now_of base old) reference e (t.entities system e is).proper due in absurd (omega (arith, fewer, few))

  loops : (fuel : ℕ) → Loops fuel
  loops zero = λ system old e t is few. no_dues system old e (first_due (now_of base old) e) refl t is few
  loops (suc fuel) = λ system old e t is few. by_due fuel (loops fuel) system old e (first_due (now_of base old) e) refl t is few

  -- each entity: none is due, or its system is still to come
  abbrev IsLeft : List Placed → World C → Type 0
  IsLeft left world = (system : ℕ) (e : Entity) → entity_at world.entities system ≡ Some e → (first_due (now_of base world) e ≡ None) ⊎ (list_any (is_of system) left ≡ true)

  record TickedAll (left : List Placed) (old : World C) : Type 0 where
    made : List Event
    new : World C
    ticks : TicksAll link steps wrap old left made new
    in_tick : InTick new
    clock : now_of base new ≡ now_of base old
    idle : IsLeft [] new

  or_rest : (a b : Bool) → a ≡ false → (a || b) ≡ true → b ≡ true
  or_rest true b none h = absurd cc
  or_rest false b none h = h

  left_after : (one : Placed) (left : List Placed) (old : World C) (t : TickedOne one.system old) → IsLeft (one ∷ left) old → IsLeft left t.new
  left_after one left old t was system e is = by (is_of system one) refl
    where
      by : (b : Bool) → is_of system one ≡ b → (first_due (now_of base t.new) e ≡ None) ⊎ (list_any (is_of system) left ≡ true)
      by true here =
          let same : one.system ≡ system = eqb-true one.system system here in
          inl (t.idle e (ap (entity_at t.new.entities) same ∙ is))
      by false apart =
          let other : (system == one.system) ≡ false = ne_eqb system one.system (λ same. eqb-false one.system system apart (sym same)) in
          elim (was system e (sym (t.others system other) ∙ is)) [
            | inl idle ↦ inl (ap (λ (now : ℕ). first_due now e) t.clock ∙ idle)
            | inr later ↦ inr (or_rest (is_of system one) (list_any (is_of system) left) apart later)
          ]

  ticks_all : (left : List Placed) (old : World C) → InTick old → AllByRecursion (HasSystem old.entities) left → IsLeft left old → TickedAll left old
  ticks_all [] old t some was = record { made = []; new = old; ticks = (refl, refl); in_tick = t; clock = refl; idle = was }
  ticks_all (one ∷ left) old t some was =
      let e = found (entity_at old.entities one.system) some.0 in
      let first = loops (dues (now_of base old) e.0) one.system old e.0 t e.1 (omega arith) in
      let rest = ticks_all left first.new first.in_tick (still_systems old.entities first.new.entities left first.still some.1) (left_after one left old first was) in
      record {
        made = first.made ++ rest.made;
        new = rest.new;
        ticks = (first.new, first.made, rest.made, first.ticks, rest.ticks, refl);
        in_tick = rest.in_tick;
        clock = rest.clock ∙ first.clock;
        idle = rest.idle;
      }

  still_idle : (world : World C) → IsLeft [] world → (system : ℕ) (e : Entity) → entity_at world.entities system ≡ Some e → first_due (now_of base world) e ≡ None
  still_idle world idle system e is = elim (idle system e is) [ inl none ↦ none | inr later ↦ absurd cc ]

  pub tick_runs : (titles : List (List ℕ)) (old : World C) → Ready base old → now_of base old < 4000000000 → Runs base wrap titles old lines.Tick
  tick_runs titles old r may =
      let a = serves.answers.answered old.carrier Ticking r.carrier may in
      let s = answered_by steps old.carrier Ticking a in
      let p = passed base old.carrier Tick a.new r.carrier may s in
      let clock : (link p.new).clock ≡ now_of base old + 1 = p.clock ∙ (keeps old.carrier Tick a.new s).clock in
      let mid : World C = record old { carrier = p.new } in
      let in_tick : InTick mid = record {
        carrier = p.stands;
        entities = λ system e is.
            let ready = r.entities system e is in
            record {
              proper = ready.rest.proper;
              in_time = subst (λ (now : ℕ). AreInTime now e) (sym clock) (waits (now_of base old) e ready.rest.idle).1;
              octets = ready.octets;
            };
        ends = r.ends;
      } in
      let all = ticks_all old.entities mid in_tick (all_systems old.entities) (λ system e is. inr (found_any old.entities system e is)) in
      record {
        made = events.Tick (now_of base old + 1) ∷ (told p.ups ++ all.made);
        new = all.new;
        runs = record { ups = p.ups; below = p.new; later = all.made; passes = p.passes; all = all.ticks; made_is = refl };
        ready = record {
          carrier = all.in_tick.carrier;
          entities = λ system e is. let on = all.in_tick.entities system e is in record {
            rest = record { proper = on.proper; idle = still_idle all.new all.idle system e is };
            octets = on.octets;
          };
          ends = all.in_tick.ends;
        };
      }
