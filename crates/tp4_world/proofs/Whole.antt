-- A line over wire numbers is one over whole numbers. An entity tells and sends the same by either, so what floats and the journal are the
-- same; and what stands after a step on the wire has the wire numbers of what stands after it with whole numbers.
use Rattle.std.proofs.Common.{◌≡◌, ℕ, ◌+◌, Bool, true, false, List, [], ◌∷◌, ◌++◌, map, option_map, Option, Some, None, refl, sym, ◌∙◌, ap, subst}
use Rattle.std.specs.List.{AllByRecursion}
use Rattle.osi_base.specs.declared.unit.Arrival.{Arrival}
use Rattle.osi_base.specs.declared.unit.Picked.TheVariants.{Taken as WasPicked}
use Rattle.osi_base.specs.declared.unit.Up.{Up}
use Rattle.osi_base.specs.declared.unit.Up.TheVariants.{Unit as Came, Note as Noted}
use Rattle.osi_base.specs.Link.{Link, IsLeastFresh}
use Rattle.osi_base.specs.Calls.{Call, Choose, Inject}
use Rattle.script_journal.specs.declared.cause.Refused.{Refused}
use Rattle.script_journal.specs.declared.cause.Refused.TheVariants as refusals
use Rattle.script_journal.specs.declared.event.Event.{Event}
use Rattle.script_lines.specs.declared.line.Line.{Line}
use Rattle.script_lines.specs.declared.line.Line.TheVariants as lines
use Rattle.net_world.specs.Told.{picked_event}
use Rattle.tp4_number.specs.Number.{whole, wire}
use Rattle.tp4_conn.specs.declared.call.ConnectRequest.{ConnectRequest}
use Rattle.tp4_conn.specs.declared.call.UserCall.{UserCall}
use Rattle.tp4_conn.specs.declared.call.UserCall.TheVariants as asks
use Rattle.tp4_conn.specs.End.{End}
use Rattle.tp4_conn.specs.Wire.{end_on_wire}
use Rattle.tp4_entity.specs.declared.refusal.ConnectRefusal.{ConnectRefusal}
use Rattle.tp4_entity.specs.declared.refusal.EntityRefusal.{EntityRefusal}
use Rattle.tp4_entity.specs.Entity.{Acted, Entity, at}
use Rattle.tp4_entity.specs.References.{least_free}
use Rattle.tp4_entity.specs.Silence.{is_silent}
use Rattle.tp4_entity.specs.Step.{calling, connect_refusal, connecting, first_due, ticking, user_refusal, restarted}
use Rattle.tp4_entity.specs.Unit.{EndsWith, HearsUnit, Separates, all_met, ignored, TakesBy, TakesUnit}
use Rattle.tp4_entity.specs.Wire.{acted_on_wire, entity_on_wire}
use Rattle.tp4_world.proofs.OneRun.{OneHearing}
use Rattle.tp4_world.proofs.OnWire.{connect_refusal_on, ended_on, first_due_on, formats_on, found_on, least_on, upper, user_refusal_on, with_on, restarted_on}
use Rattle.tp4_world.specs.Laws.{WholeCalls, WholeLine, WholeRun}
use Rattle.tp4_world.specs.Called.{WorldCall, Did, DidAll}
use Rattle.tp4_world.specs.Called as asked
use Rattle.tp4_world.specs.First.{HasNoEnd}
use Rattle.tp4_world.specs.Wire.{placed_on_wire, world_on_wire}
use Rattle.tp4_world.specs.Run.{Acts, Arrives, BeginsAt, Calls, CallsAt, CallsBy, CallsEnd, Connects, ConnectsBy, Delivers, Hears, HearsAll, HearsIf, IsRefused, NoneDue, NoneLeft, OneDue, OneMore, Restarts, RunsLine, RunsLines, Settles, Ticks, TicksAll, TicksEntity, TooMany, clock_of, is_for}
use Rattle.tp4_world.specs.Ended.{has_ended}
use Rattle.tp4_world.specs.Telling.{ends_after, inject_event}
use Rattle.tp4_world.specs.World.{World, end_numbered, entity_at, with_entity}
use Rattle.tp4_world.specs.declared.place.EndAt.{EndAt}
use Rattle.tp4_world.specs.declared.place.Placed.{Placed}

-- an entity does on the wire what it does with whole numbers
pub record OverWires : Type 0 where
  pub connecting : (now reference : ℕ) (e : Entity) (request : ConnectRequest) → connecting now (entity_on_wire e) reference request ≡ acted_on_wire (connecting now e reference request)
  pub calling : (now reference : ℕ) (e : Entity) (call : UserCall) → calling wire now (entity_on_wire e) reference call ≡ acted_on_wire (calling whole now e reference call)
  pub ticking : (now : ℕ) (e : Entity) → ticking wire now (entity_on_wire e) ≡ acted_on_wire (ticking whole now e)
  pub hearing : (now : ℕ) (e : Entity) (from octets : List ℕ) (acted : Acted) → TakesUnit whole now e from octets acted → TakesUnit wire now (entity_on_wire e) from octets (acted_on_wire acted)

-- what a unit does with whole numbers, where it did this on the wire
record HearsAbove (now : ℕ) (e : Entity) (from octets : List ℕ) (lower : Acted) : Type 0 where
  acted : Acted
  takes : TakesUnit whole now e from octets acted
  is : lower ≡ acted_on_wire acted

-- a step to what has the wire numbers of that
pub record Above {C : Type 0} (Does : World C → Type 0) (lower : World C) : Type 0 where
  pub up : World C
  pub does : Does up
  pub is : lower ≡ world_on_wire up

module _ {C : Type 0} (link : C → Link (List ℕ)) (steps : C → Call (List ℕ) → C → Type 0) (over : OverWires) (one : OneHearing) where
  heard_above : (now : ℕ) (e : Entity) (from octets : List ℕ) (lower : Acted) → TakesUnit wire now (entity_on_wire e) from octets lower → HearsAbove now e from octets lower
  heard_above now e from octets lower h = by (is_silent now e) refl h
    where
      by : (silent : Bool) → is_silent now e ≡ silent → TakesBy silent wire now (entity_on_wire e) from octets lower → HearsAbove now e from octets lower
      by true is h = record {
        acted = ignored now e;
        takes = subst (λ (b : Bool). TakesBy b whole now e from octets (ignored now e)) (sym is) refl;
        is = h;
      }
      by false is h =
          let all = all_met whole now (at now e) from h.tpdus in
          let acted : Acted = record { entity = all.entity; events = all.events ++ h.told; tpdus = all.tpdus } in
          let hears : HearsUnit whole now e from octets acted = record {
            tpdus = h.tpdus;
            rest = h.rest;
            told = h.told;
            separates = subst (λ (x : List ℕ). Separates x octets h.tpdus h.rest) (formats_on e) h.separates;
            ends = subst (λ (x : List ℕ). EndsWith x h.rest h.told) (formats_on e) h.ends;
            entity = refl;
            events = refl;
            tpdus_are = refl;
          } in
          let takes : TakesUnit whole now e from octets acted = subst (λ (b : Bool). TakesBy b whole now e from octets acted) (sym is) hears in
          record {
            acted = acted;
            takes = takes;
            is = one wire now (entity_on_wire e) from octets lower (acted_on_wire acted) (subst (λ (b : Bool). TakesBy b wire now (entity_on_wire e) from octets lower) (sym is) h)
                (over.hearing now e from octets acted takes);
          }

  -- ---- what an entity does

  act_above : (old : World C) (system : ℕ) (own : List ℕ) (acted : Acted) (made : List Event) (new : World C) → Acts link steps (world_on_wire old) system own (acted_on_wire acted) made new
      → Above (λ up. Acts link steps old system own acted made up) new
  act_above old system own acted made new a = record {
    up = record { carrier = a.below; entities = with_entity old.entities system acted.entity; ends = ends_after old.ends system acted.events };
    does = record { below = a.below; sent = a.sent; sends = a.sends; made_is = a.made_is; becomes = refl };
    is = a.becomes ∙ ap (λ (ps : List Placed). record { carrier = a.below; entities = ps; ends = ends_after old.ends system acted.events }) (with_on old.entities system acted.entity);
  }

  -- what it did on the wire, which is what it does with whole numbers
  act_above_as : (old : World C) (system : ℕ) (own : List ℕ) (lower acted : Acted) (made : List Event) (new : World C) → lower ≡ acted_on_wire acted
      → Acts link steps (world_on_wire old) system own lower made new → Above (λ up. Acts link steps old system own acted made up) new
  act_above_as old system own lower acted made new is a =
      act_above old system own acted made new (subst (λ (x : Acted). Acts link steps (world_on_wire old) system own x made new) is a)

  -- ---- what users ask

  refused_above : (old : World C) (why : Option Refused) (made : List Event) (new : World C) → IsRefused link steps (world_on_wire old) why made new
      → Above (λ up. IsRefused link steps old why made up) new
  refused_above old None made new a = absurd a
  refused_above old (Some why) made new a = record { up = old; does = (a.0, refl); is = a.1 }

  begun_above : (old : World C) (system : ℕ) (entity : Entity) (request : ConnectRequest) (found : Option ℕ) (made : List Event) (new : World C)
      → BeginsAt link steps (world_on_wire old) system (entity_on_wire entity) request found made new → Above (λ up. BeginsAt link steps old system entity request found made up) new
  begun_above old system entity request None made new a = absurd a
  begun_above old system entity request (Some reference) made new a =
      let act = act_above_as (record old { ends = old.ends ++ record { system = system; reference = reference } ∷ [] }) system entity.own _ (connecting (clock_of link steps old) entity reference request)
      a.0 new (over.connecting (clock_of link steps old) reference entity request) a.1 in
      record { up = act.up; does = (a.0, act.does, a.2); is = act.is }

  connect_by_above : (old : World C) (system : ℕ) (entity : Entity) (request : ConnectRequest) (why : Option ConnectRefusal) (made : List Event) (new : World C)
      → ConnectsBy link steps (world_on_wire old) system (entity_on_wire entity) request why made new → Above (λ up. ConnectsBy link steps old system entity request why made up) new
  connect_by_above old system entity request (Some why) made new a = refused_above old _ made new a
  connect_by_above old system entity request None made new a =
      begun_above old system entity request (least_free (clock_of link steps old) entity) made new
      (subst (λ (found : Option ℕ). BeginsAt link steps (world_on_wire old) system (entity_on_wire entity) request found made new) (least_on (clock_of link steps old) entity) a)

  connected_above : (old : World C) (system : ℕ) (request : ConnectRequest) (made : List Event) (new : World C) → Connects link steps (world_on_wire old) system request made new
      → Above (λ up. Connects link steps old system request made up) new
  connected_above old system request made new a =
      let e = upper old.entities system a.0 a.1 in
      let clock = clock_of link steps old in
      let done = connect_by_above old system e.entity request (connect_refusal clock e.entity request.octets) made new
      (subst (λ (why : Option ConnectRefusal). ConnectsBy link steps (world_on_wire old) system (entity_on_wire e.entity) request why made new) (connect_refusal_on clock e.entity request.octets)
      (subst (λ (x : Entity). ConnectsBy link steps (world_on_wire old) system x request (connect_refusal clock x request.octets) made new) e.is a.2)) in
      record { up = done.up; does = (e.entity, e.there, done.does); is = done.is }

  call_by_above : (old : World C) (number : ℕ) (end : EndAt) (entity : Entity) (call : UserCall) (why : Option EntityRefusal) (made : List Event) (new : World C)
      → CallsBy link steps wire (world_on_wire old) number end (entity_on_wire entity) call why made new → Above (λ up. CallsBy link steps whole old number end entity call why made up) new
  call_by_above old number end entity call (Some why) made new a = refused_above old _ made new a
  call_by_above old number end entity call None made new a =
      let act = act_above_as old end.system entity.own _ (calling whole (clock_of link steps old) entity end.reference call) a.0 new (over.calling (clock_of link steps old) end.reference entity call) a.1 in
      record { up = act.up; does = (a.0, act.does, a.2); is = act.is }

  call_end_above : (old : World C) (number : ℕ) (end : EndAt) (entity : Entity) (call : UserCall) (ended : Bool) (made : List Event) (new : World C)
      → CallsEnd link steps wire (world_on_wire old) number end (entity_on_wire entity) call ended made new → Above (λ up. CallsEnd link steps whole old number end entity call ended made up) new
  call_end_above old number end entity call true made new a = refused_above old (Some refusals.Ended) made new a
  call_end_above old number end entity call false made new a =
      call_by_above old number end entity call (user_refusal entity end.reference call) made new
      (subst (λ (why : Option EntityRefusal). CallsBy link steps wire (world_on_wire old) number end (entity_on_wire entity) call why made new) (user_refusal_on entity end.reference call) a)

  call_at_above : (old : World C) (number : ℕ) (call : UserCall) (end : Option EndAt) (made : List Event) (new : World C) → CallsAt link steps wire (world_on_wire old) number call end made new
      → Above (λ up. CallsAt link steps whole old number call end made up) new
  call_at_above old number call None made new a = refused_above old (Some refusals.NoSuchEnd) made new a
  call_at_above old number call (Some end) made new a =
      let e = upper old.entities end.system a.0 a.1 in
      let clock = clock_of link steps old in
      let done = call_end_above old number end e.entity call (has_ended clock old.ends number end e.entity) made new
      (subst (λ (b : Bool). CallsEnd link steps wire (world_on_wire old) number end (entity_on_wire e.entity) call b made new) (ended_on clock old.ends number end e.entity)
      (subst (λ (x : Entity). CallsEnd link steps wire (world_on_wire old) number end x call (has_ended clock old.ends number end x) made new) e.is a.2)) in
      record { up = done.up; does = (e.entity, e.there, done.does); is = done.is }

  called_above : (old : World C) (number : ℕ) (call : UserCall) (made : List Event) (new : World C) → Calls link steps wire (world_on_wire old) number call made new
      → Above (λ up. Calls link steps whole old number call made up) new
  called_above old number call made new a = call_at_above old number call (end_numbered old.ends number) made new a

  -- ---- what comes up

  heard_if_above : (old : World C) (arrival : Arrival (List ℕ)) (entity : Entity) (fits : Bool) (made : List Event) (new : World C)
      → HearsIf link steps wire (world_on_wire old) arrival (Some (entity_on_wire entity)) fits made new → Above (λ up. HearsIf link steps whole old arrival (Some entity) fits made up) new
  heard_if_above old arrival entity false made new a = record { up = old; does = (a.0, refl); is = a.1 }
  heard_if_above old arrival entity true made new a =
      let heard = heard_above (clock_of link steps old) entity arrival.unit.from arrival.unit.octets a.0 a.1 in
      let act = act_above_as old arrival.system entity.own a.0 heard.acted made new heard.is a.2 in
      record { up = act.up; does = (heard.acted, heard.takes, act.does); is = act.is }

  heard_by_above : (old : World C) (arrival : Arrival (List ℕ)) (found : Option Entity) (made : List Event) (new : World C)
      → HearsIf link steps wire (world_on_wire old) arrival (option_map entity_on_wire found) (is_for link steps wire arrival.unit.to (option_map entity_on_wire found)) made new
      → Above (λ up. HearsIf link steps whole old arrival found (is_for link steps whole arrival.unit.to found) made up) new
  heard_by_above old arrival None made new a = record { up = old; does = (a.0, refl); is = a.1 }
  heard_by_above old arrival (Some entity) made new a = heard_if_above old arrival entity (is_for link steps whole arrival.unit.to (Some entity)) made new a

  heard_one_above : (old : World C) (arrival : Arrival (List ℕ)) (made : List Event) (new : World C) → Hears link steps wire (world_on_wire old) arrival made new
      → Above (λ up. Hears link steps whole old arrival made up) new
  heard_one_above old arrival made new a =
      heard_by_above old arrival (entity_at old.entities arrival.system) made new
      (subst (λ (o : Option Entity). HearsIf link steps wire (world_on_wire old) arrival o (is_for link steps wire arrival.unit.to o) made new) (found_on old.entities arrival.system) a)

  heard_all_above : (ups : List (Up (List ℕ))) (old : World C) (made : List Event) (new : World C) → HearsAll link steps wire (world_on_wire old) ups made new
      → Above (λ up. HearsAll link steps whole old ups made up) new
  heard_all_above [] old made new a = record { up = old; does = (a.0, refl); is = a.1 }
  heard_all_above (Noted note ∷ ups) old made new a = heard_all_above ups old made new a
  heard_all_above (Came arrival ∷ ups) old made new a =
      let first = heard_one_above old arrival a.1 a.0 a.3 in
      let rest = heard_all_above ups first.up a.2 new (subst (λ (w : World C). HearsAll link steps wire w ups a.2 new) first.is a.4) in
      record { up = rest.up; does = (first.up, a.1, a.2, first.does, rest.does, a.5); is = rest.is }

  arrived_above : (old : World C) (call : Call (List ℕ)) (own : Event) (made : List Event) (new : World C) → Arrives link steps wire (world_on_wire old) call own made new
      → Above (λ up. Arrives link steps whole old call own made up) new
  arrived_above old call own made new a =
      let heard = heard_all_above a.ups (record old { carrier = a.below }) a.later new a.hears in
      record {
        up = heard.up;
        does = record { ups = a.ups; below = a.below; later = a.later; passes = a.passes; hears = heard.does; made_is = a.made_is };
        is = heard.is;
      }

  -- ---- ticks

  entity_above : (system : ℕ) (lower : World C) (made : List Event) (new : World C) → TicksEntity link steps wire system lower made new → (old : World C) → lower ≡ world_on_wire old
      → Above (λ up. TicksEntity link steps whole system old made up) new
  entity_above system lower made new (NoneDue o m n entity there none made_is becomes) old same =
      let e = upper old.entities system entity (subst (λ (w : World C). entity_at w.entities system ≡ Some entity) same there) in
      let clock = clock_of link steps old in
      let clock_is : clock_of link steps lower ≡ clock = ap (clock_of link steps) same in
      let up : World C = record old { entities = with_entity old.entities system (ticking whole clock e.entity).entity } in
      let none_up : first_due clock e.entity ≡ None = sym (first_due_on clock e.entity) ∙ (λ i. first_due (sym clock_is i) (sym e.is i)) ∙ none in
      record {
        up = up;
        does = NoneDue old made up e.entity e.there none_up made_is refl;
        is = becomes
            ∙ (λ i. record (same i) { entities = with_entity (same i).entities system (ticking wire (clock_is i) (e.is i)).entity })
            ∙ ap (λ (x : Entity). record (world_on_wire old) { entities = with_entity (map placed_on_wire old.entities) system x }) (ap (λ (a : Acted). a.entity) (over.ticking clock e.entity))
            ∙ ap (λ (ps : List Placed). record (world_on_wire old) { entities = ps }) (with_on old.entities system (ticking whole clock e.entity).entity);
      }
  entity_above system lower made new (OneDue o m n entity reference mid here rest there due acts others made_is) old same =
      let e = upper old.entities system entity (subst (λ (w : World C). entity_at w.entities system ≡ Some entity) same there) in
      let clock = clock_of link steps old in
      let clock_is : clock_of link steps lower ≡ clock = ap (clock_of link steps) same in
      let due_up : first_due clock e.entity ≡ Some reference = sym (first_due_on clock e.entity) ∙ (λ i. first_due (sym clock_is i) (sym e.is i)) ∙ due in
      let here_acts : Acts link steps (world_on_wire old) system e.entity.own (ticking wire clock (entity_on_wire e.entity)) here mid =
      subst (λ (x : Entity). Acts link steps (world_on_wire old) system x.own (ticking wire clock x) here mid) e.is
      (subst (λ (w : World C). Acts link steps w system entity.own (ticking wire (clock_of link steps w) entity) here mid) same acts) in
      let first = act_above_as old system e.entity.own _ (ticking whole clock e.entity) here mid (over.ticking clock e.entity) here_acts in
      let then = entity_above system mid rest new others first.up first.is in
      record { up = then.up; does = OneDue old made then.up e.entity reference first.up here rest e.there due_up first.does then.does made_is; is = then.is }

  all_above : (placed : List Placed) (old : World C) (made : List Event) (new : World C) → TicksAll link steps wire (world_on_wire old) (map placed_on_wire placed) made new
      → Above (λ up. TicksAll link steps whole old placed made up) new
  all_above [] old made new a = record { up = old; does = (a.0, refl); is = a.1 }
  all_above (place ∷ placed) old made new a =
      let first = entity_above place.system (world_on_wire old) a.1 a.0 a.3 old refl in
      let rest = all_above placed first.up a.2 new (subst (λ (w : World C). TicksAll link steps wire w (map placed_on_wire placed) a.2 new) first.is a.4) in
      record { up = rest.up; does = (first.up, a.1, a.2, first.does, rest.does, a.5); is = rest.is }

  ticked_above : (old : World C) (made : List Event) (new : World C) → Ticks link steps wire (world_on_wire old) made new → Above (λ up. Ticks link steps whole old made up) new
  ticked_above old made new a =
      let all = all_above old.entities (record old { carrier = a.below }) a.later new a.all in
      record {
        up = all.up;
        does = record { ups = a.ups; below = a.below; later = a.later; passes = a.passes; all = all.does; made_is = a.made_is };
        is = all.is;
      }

  -- ---- settling

  settled_above : (count : ℕ) (lower : World C) (made : List Event) (new : World C) → Settles link steps wire count lower made new → (old : World C) → lower ≡ world_on_wire old
      → Above (λ up. Settles link steps whole count old made up) new
  settled_above count lower made new (NoneLeft c o m n fresh made_is is) old same = record {
    up = old;
    does = NoneLeft count old made old (subst (λ (w : World C). IsLeastFresh (link w.carrier) None) same fresh) made_is refl;
    is = is ∙ same;
  }
  settled_above count lower made new (TooMany c o m n pair fresh most made_is is) old same = record {
    up = old;
    does = TooMany count old made old pair (subst (λ (w : World C). IsLeastFresh (link w.carrier) (Some pair)) same fresh) most made_is refl;
    is = is ∙ same;
  }
  settled_above count lower made new (OneMore c o m n pair mid here rest fresh low delivers settles made_is) old same =
      let first = arrived_above old (Choose pair.0 pair.1 WasPicked) (picked_event pair.0 pair.1 WasPicked) here mid
      (subst (λ (w : World C). Delivers link steps wire w pair.0 pair.1 WasPicked here mid) same delivers) in
      let then = settled_above (count + 1) mid rest new settles first.up first.is in
      record {
        up = then.up;
        does = OneMore count old made then.up pair first.up here rest (subst (λ (w : World C). IsLeastFresh (link w.carrier) (Some pair)) same fresh) low first.does then.does made_is;
        is = then.is;
      }

  -- ---- a restart

  restarted_above : (old : World C) (system : ℕ) (made : List Event) (new : World C) → Restarts link steps (world_on_wire old) system made new
      → Above (λ up. Restarts link steps old system made up) new
  restarted_above old system made new a =
      let e = upper old.entities system a.0 a.1 in
      let clock = clock_of link steps old in
      record {
        up = record old { entities = with_entity old.entities system (restarted clock e.entity) };
        does = (e.entity, e.there, a.2, refl);
        is = a.3
            ∙ ap (λ (x : Entity). record (world_on_wire old) { entities = with_entity (map placed_on_wire old.entities) system (restarted clock x) }) e.is
            ∙ ap (λ (x : Entity). record (world_on_wire old) { entities = with_entity (map placed_on_wire old.entities) system x }) (restarted_on clock e.entity)
            ∙ ap (λ (ps : List Placed). record (world_on_wire old) { entities = ps }) (with_on old.entities system (restarted clock e.entity));
      }

  -- ---- the calls

  did_above : (old : World C) (call : WorldCall) (made : List Event) (new : World C) → Did link steps wire (world_on_wire old) call made new
      → Above (λ up. Did link steps whole old call made up) new
  did_above old (asked.Connect system request) made new a = connected_above old system request made new a
  did_above old (asked.Ask end call) made new a = called_above old end call made new a
  did_above old (asked.Raw system sender receiver wish octets) made new a = record { up = record old { carrier = a.0 }; does = (a.0, a.1, refl); is = a.2 }
  did_above old (asked.Deliver number system answer) made new a = arrived_above old (Choose number system answer) (picked_event number system answer) made new a
  did_above old (asked.Inject lan system octets answer) made new a = arrived_above old (Inject lan system octets answer) (inject_event system answer) made new a
  did_above old (asked.Restart system) made new a = restarted_above old system made new a
  did_above old asked.Pass made new a = ticked_above old made new a
  did_above old asked.Settle made new a = settled_above 0 (world_on_wire old) made new a old refl

  all_did_above : (calls : List WorldCall) (old : World C) (journal : List Event) (last : World C) → DidAll link steps wire (world_on_wire old) calls journal last
      → Above (λ up. DidAll link steps whole old calls journal up) last
  all_did_above [] old journal last run = record { up = old; does = (run.0, refl); is = run.1 }
  all_did_above (call ∷ calls) old journal last run =
      let first = did_above old call run.1 run.0 run.3 in
      let rest = all_did_above calls first.up run.2 last (subst (λ (w : World C). DidAll link steps wire w calls run.2 last) first.is run.5) in
      record { up = rest.up; does = (first.up, run.1, run.2, first.does, run.4, rest.does); is = rest.is }

  -- ---- the lines

  line_above : (titles : List (List ℕ)) (old : World C) (line : Line) (made : List Event) (new : World C) → RunsLine link steps wire titles (world_on_wire old) line made new
      → Above (λ up. RunsLine link steps whole titles old line made up) new
  line_above titles old lines.Nothing made new a = record { up = old; does = (a.0, refl); is = a.1 }
  line_above titles old (lines.Connect system selector to called options octets) made new a =
      let ask = a.4 in
      let done = connected_above old system a.1 made new ask.4 in
      record { up = done.up; does = (a.0, a.1, a.2, a.3, (ask.0, ask.1, ask.2, ask.3, done.does)); is = done.is }
  line_above titles old (lines.Accept end options octets) made new a = called_above old end _ made new a
  line_above titles old (lines.Refuse end octets) made new a = called_above old end (asks.Refuse octets) made new a
  line_above titles old (lines.Disconnect end octets) made new a = called_above old end (asks.Disconnect octets) made new a
  line_above titles old (lines.Data end octets) made new a = called_above old end (asks.Normal octets) made new a
  line_above titles old (lines.Expedite end octets) made new a = called_above old end (asks.Urgent octets) made new a
  line_above titles old (lines.Window end credit) made new a = called_above old end (asks.Window credit) made new a
  line_above titles old (lines.Unit system to wish octets) made new a =
      let raw = a.4 in
      record { up = record old { carrier = raw.0 }; does = (a.0, a.1, a.2, a.3, (raw.0, raw.1, refl)); is = raw.2 }
  line_above titles old lines.Tick made new a = ticked_above old made new a
  line_above titles old (lines.Deliver number system) made new a =
      let done = arrived_above old (Choose number system a.0) (picked_event number system a.0) made new a.1 in
      record { up = done.up; does = (a.0, done.does); is = done.is }
  line_above titles old lines.Settle made new a = settled_above 0 (world_on_wire old) made new a old refl
  line_above titles old (lines.Inject lan system octets) made new a =
      let done = arrived_above old (Inject lan system octets a.0) (inject_event system a.0) made new a.1 in
      record { up = done.up; does = (a.0, done.does); is = done.is }
  line_above titles old (lines.Restart system) made new a = restarted_above old system made new a
  line_above titles old line made new a = absurd a

  lines_above : (titles : List (List ℕ)) (script : List Line) (old : World C) (journal : List Event) (last : World C) → RunsLines link steps wire titles (world_on_wire old) script journal last
      → Above (λ up. RunsLines link steps whole titles old script journal up) last
  lines_above titles [] old journal last run = record { up = old; does = (run.0, refl); is = run.1 }
  lines_above titles (line ∷ script) old journal last run =
      let first = line_above titles old line run.1 run.0 run.3 in
      let rest = lines_above titles script first.up run.2 last (subst (λ (w : World C). RunsLines link steps wire titles w script run.2 last) first.is run.5) in
      record { up = rest.up; does = (first.up, run.1, run.2, first.does, run.4, rest.does); is = rest.is }

-- ---- no end yet

no_ends : (ends : List (Option End)) → AllByRecursion (λ place. place ≡ None) ends → map (option_map end_on_wire) ends ≡ ends
no_ends [] none = refl
no_ends (place ∷ ends) none = λ i. (ap (option_map end_on_wire) none.0 ∙ sym none.0) i ∷ no_ends ends none.1 i

none_placed : (placed : List Placed) → AllByRecursion (λ one. HasNoEnd one.entity) placed → map placed_on_wire placed ≡ placed
none_placed [] none = refl
none_placed (one ∷ placed) none = λ i. record one { entity = record one.entity { ends = no_ends one.entity.ends none.0 i } } ∷ none_placed placed none.1 i

-- without ends a network has no numbers
no_numbers : {C : Type 0} (first : World C) → AllByRecursion (λ one. HasNoEnd one.entity) first.entities → first ≡ world_on_wire first
no_numbers {C} first none = ap (λ (ps : List Placed). record first { entities = ps }) (sym (none_placed first.entities none))

pub whole_line : {C : Type 0} (link : C → Link (List ℕ)) (steps : C → Call (List ℕ) → C → Type 0) → OverWires → OneHearing → WholeLine link steps
whole_line link steps over one titles old line made new step =
    let done = line_above link steps over one titles old line made new step in
    (done.up, done.does, done.is)

pub whole_run : {C : Type 0} (link : C → Link (List ℕ)) (steps : C → Call (List ℕ) → C → Type 0) → OverWires → OneHearing → WholeRun link steps
whole_run {C} link steps over one titles first script journal last none run =
    let there : RunsLines link steps wire titles (world_on_wire first) script journal last = subst (λ (w : World C). RunsLines link steps wire titles w script journal last) (no_numbers first none) run in
    let done = lines_above link steps over one titles script first journal last there in
    (done.up, done.does, done.is)

pub whole_calls : {C : Type 0} (link : C → Link (List ℕ)) (steps : C → Call (List ℕ) → C → Type 0) → OverWires → OneHearing → WholeCalls link steps
whole_calls {C} link steps over one first calls journal last none run =
    let there : DidAll link steps wire (world_on_wire first) calls journal last = subst (λ (w : World C). DidAll link steps wire w calls journal last) (no_numbers first none) run in
    let done = all_did_above link steps over one calls first journal last there in
    (done.up, done.does, done.is)
