-- A line over whole numbers is one over their wire numbers: an entity tells and sends the same by either.
use Rattle.std.proofs.Common.{◌≡◌, ℕ, ◌+◌, Bool, true, false, List, [], ◌∷◌, ◌++◌, map, option_map, Option, Some, None, refl, sym, ◌∙◌, ap, subst}
use Rattle.osi_base.specs.declared.unit.Arrival.{Arrival}
use Rattle.osi_base.specs.declared.unit.Picked.TheVariants.{Taken as WasPicked}
use Rattle.osi_base.specs.declared.unit.Up.{Up}
use Rattle.osi_base.specs.declared.unit.Up.TheVariants.{Unit as Came, Note as Noted}
use Rattle.osi_base.specs.Link.{Link}
use Rattle.osi_base.specs.Calls.{Call, Choose, Inject}
use Rattle.script_journal.specs.declared.cause.Refused.{Refused}
use Rattle.script_journal.specs.declared.cause.Refused.TheVariants as refusals
use Rattle.script_journal.specs.declared.event.Event.{Event}
use Rattle.script_lines.specs.declared.line.Line.{Line}
use Rattle.script_lines.specs.declared.line.Line.TheVariants as lines
use Rattle.net_world.specs.Told.{picked_event}
use Rattle.tp4_number.specs.Number.{whole, wire}
use Rattle.tp4_conn.specs.declared.call.ConnectRequest.{ConnectRequest}
use Rattle.tp4_conn.specs.declared.call.UserCall.{UserCall}
use Rattle.tp4_conn.specs.declared.call.UserCall.TheVariants as asks
use Rattle.tp4_entity.specs.declared.refusal.ConnectRefusal.{ConnectRefusal}
use Rattle.tp4_entity.specs.declared.refusal.EntityRefusal.{EntityRefusal}
use Rattle.tp4_entity.specs.Entity.{Acted, Entity}
use Rattle.tp4_entity.specs.References.{least_free}
use Rattle.tp4_entity.specs.Step.{calling, connect_refusal, connecting, ticking, user_refusal, restarted}
use Rattle.tp4_entity.specs.Wire.{acted_on_wire, entity_on_wire}
use Rattle.tp4_world.proofs.OnWire.{connect_refusal_on, ended_on, first_due_on, found_on, least_on, lower_there, user_refusal_on, with_on, restarted_on}
use Rattle.tp4_world.proofs.Whole.{OverWires}
use Rattle.tp4_world.specs.Laws.{WireLine}
use Rattle.tp4_world.specs.Wire.{placed_on_wire, world_on_wire}
use Rattle.tp4_world.specs.Run.{Acts, Arrives, BeginsAt, Calls, CallsAt, CallsBy, CallsEnd, Connects, ConnectsBy, Hears, HearsAll, HearsIf, IsRefused, NoneDue, NoneLeft, OneDue, OneMore, RunsLine, Settles, Ticks, TicksAll, TicksEntity, TooMany, clock_of, is_for}
use Rattle.tp4_world.specs.Ended.{has_ended}
use Rattle.tp4_world.specs.Telling.{ends_after, inject_event}
use Rattle.tp4_world.specs.World.{World, end_numbered, entity_at, with_entity}
use Rattle.tp4_world.specs.declared.place.EndAt.{EndAt}
use Rattle.tp4_world.specs.declared.place.Placed.{Placed}

module _ {C : Type 0} (link : C → Link (List ℕ)) (steps : C → Call (List ℕ) → C → Type 0) (over : OverWires) where
  abbrev on : World C → World C
  on world = world_on_wire world

  -- ---- what an entity does

  act_below : (old : World C) (system : ℕ) (own : List ℕ) (lower acted : Acted) (made : List Event) (new : World C) → lower ≡ acted_on_wire acted → Acts link steps old system own acted made new
      → Acts link steps (on old) system own lower made (on new)
  act_below old system own lower acted made new is a =
      let here : Acts link steps (on old) system own (acted_on_wire acted) made (on new) = record {
        below = a.below;
        sent = a.sent;
        sends = a.sends;
        made_is = a.made_is;
        becomes = ap world_on_wire a.becomes
            ∙ ap (λ (ps : List Placed). record { carrier = a.below; entities = ps; ends = ends_after old.ends system acted.events }) (sym (with_on old.entities system acted.entity));
      } in
      subst (λ (x : Acted). Acts link steps (on old) system own x made (on new)) (sym is) here

  -- ---- what users ask

  refused_below : (old : World C) (why : Option Refused) (made : List Event) (new : World C) → IsRefused link steps old why made new → IsRefused link steps (on old) why made (on new)
  refused_below old None made new a = absurd a
  refused_below old (Some why) made new a = (a.0, ap world_on_wire a.1)

  begun_below : (old : World C) (system : ℕ) (entity : Entity) (request : ConnectRequest) (found : Option ℕ) (made : List Event) (new : World C) → BeginsAt link steps old system entity request found made new
      → BeginsAt link steps (on old) system (entity_on_wire entity) request found made (on new)
  begun_below old system entity request None made new a = absurd a
  begun_below old system entity request (Some reference) made new a = (
    a.0,
    act_below (record old { ends = old.ends ++ record { system = system; reference = reference } ∷ [] }) system entity.own (connecting (clock_of link steps old) (entity_on_wire entity) reference request) _ a.0 new
        (over.connecting (clock_of link steps old) reference entity request) a.1,
    a.2,
  )

  connect_by_below : (old : World C) (system : ℕ) (entity : Entity) (request : ConnectRequest) (why : Option ConnectRefusal) (made : List Event) (new : World C)
      → ConnectsBy link steps old system entity request why made new → ConnectsBy link steps (on old) system (entity_on_wire entity) request why made (on new)
  connect_by_below old system entity request (Some why) made new a = refused_below old _ made new a
  connect_by_below old system entity request None made new a =
      subst (λ (found : Option ℕ). BeginsAt link steps (on old) system (entity_on_wire entity) request found made (on new)) (sym (least_on (clock_of link steps old) entity))
      (begun_below old system entity request (least_free (clock_of link steps old) entity) made new a)

  connected_below : (old : World C) (system : ℕ) (request : ConnectRequest) (made : List Event) (new : World C) → Connects link steps old system request made new → Connects link steps (on old) system request made (on new)
  connected_below old system request made new a = (
    entity_on_wire a.0,
    lower_there old.entities system a.0 a.1,
    subst (λ (why : Option ConnectRefusal). ConnectsBy link steps (on old) system (entity_on_wire a.0) request why made (on new)) (sym (connect_refusal_on (clock_of link steps old) a.0 request.octets))
        (connect_by_below old system a.0 request (connect_refusal (clock_of link steps old) a.0 request.octets) made new a.2),
  )

  call_by_below : (old : World C) (number : ℕ) (end : EndAt) (entity : Entity) (call : UserCall) (why : Option EntityRefusal) (made : List Event) (new : World C)
      → CallsBy link steps whole old number end entity call why made new → CallsBy link steps wire (on old) number end (entity_on_wire entity) call why made (on new)
  call_by_below old number end entity call (Some why) made new a = refused_below old _ made new a
  call_by_below old number end entity call None made new a = (
    a.0,
    act_below old end.system entity.own (calling wire (clock_of link steps old) (entity_on_wire entity) end.reference call) _ a.0 new
        (over.calling (clock_of link steps old) end.reference entity call) a.1,
    a.2,
  )

  call_end_below : (old : World C) (number : ℕ) (end : EndAt) (entity : Entity) (call : UserCall) (ended : Bool) (made : List Event) (new : World C)
      → CallsEnd link steps whole old number end entity call ended made new → CallsEnd link steps wire (on old) number end (entity_on_wire entity) call ended made (on new)
  call_end_below old number end entity call true made new a = refused_below old (Some refusals.Ended) made new a
  call_end_below old number end entity call false made new a =
      subst (λ (why : Option EntityRefusal). CallsBy link steps wire (on old) number end (entity_on_wire entity) call why made (on new)) (sym (user_refusal_on entity end.reference call))
      (call_by_below old number end entity call (user_refusal entity end.reference call) made new a)

  call_at_below : (old : World C) (number : ℕ) (call : UserCall) (end : Option EndAt) (made : List Event) (new : World C) → CallsAt link steps whole old number call end made new
      → CallsAt link steps wire (on old) number call end made (on new)
  call_at_below old number call None made new a = refused_below old (Some refusals.NoSuchEnd) made new a
  call_at_below old number call (Some end) made new a = (
    entity_on_wire a.0,
    lower_there old.entities end.system a.0 a.1,
    subst (λ (b : Bool). CallsEnd link steps wire (on old) number end (entity_on_wire a.0) call b made (on new)) (sym (ended_on (clock_of link steps old) old.ends number end a.0))
        (call_end_below old number end a.0 call (has_ended (clock_of link steps old) old.ends number end a.0) made new a.2),
  )

  called_below : (old : World C) (number : ℕ) (call : UserCall) (made : List Event) (new : World C) → Calls link steps whole old number call made new → Calls link steps wire (on old) number call made (on new)
  called_below old number call made new a = call_at_below old number call (end_numbered old.ends number) made new a

  -- ---- what comes up

  heard_if_below : (old : World C) (arrival : Arrival (List ℕ)) (entity : Entity) (fits : Bool) (made : List Event) (new : World C) → HearsIf link steps whole old arrival (Some entity) fits made new
      → HearsIf link steps wire (on old) arrival (Some (entity_on_wire entity)) fits made (on new)
  heard_if_below old arrival entity false made new a = (a.0, ap world_on_wire a.1)
  heard_if_below old arrival entity true made new a = (
    acted_on_wire a.0,
    over.hearing (clock_of link steps old) entity arrival.unit.from arrival.unit.octets a.0 a.1,
    act_below old arrival.system entity.own (acted_on_wire a.0) a.0 made new refl a.2,
  )

  heard_by_below : (old : World C) (arrival : Arrival (List ℕ)) (found : Option Entity) (made : List Event) (new : World C)
      → HearsIf link steps whole old arrival found (is_for link steps whole arrival.unit.to found) made new
      → HearsIf link steps wire (on old) arrival (option_map entity_on_wire found) (is_for link steps wire arrival.unit.to (option_map entity_on_wire found)) made (on new)
  heard_by_below old arrival None made new a = (a.0, ap world_on_wire a.1)
  heard_by_below old arrival (Some entity) made new a = heard_if_below old arrival entity (is_for link steps whole arrival.unit.to (Some entity)) made new a

  heard_one_below : (old : World C) (arrival : Arrival (List ℕ)) (made : List Event) (new : World C) → Hears link steps whole old arrival made new → Hears link steps wire (on old) arrival made (on new)
  heard_one_below old arrival made new a =
      subst (λ (o : Option Entity). HearsIf link steps wire (on old) arrival o (is_for link steps wire arrival.unit.to o) made (on new)) (sym (found_on old.entities arrival.system))
      (heard_by_below old arrival (entity_at old.entities arrival.system) made new a)

  heard_all_below : (ups : List (Up (List ℕ))) (old : World C) (made : List Event) (new : World C) → HearsAll link steps whole old ups made new → HearsAll link steps wire (on old) ups made (on new)
  heard_all_below [] old made new a = (a.0, ap world_on_wire a.1)
  heard_all_below (Noted note ∷ ups) old made new a = heard_all_below ups old made new a
  heard_all_below (Came arrival ∷ ups) old made new a = (on a.0, a.1, a.2, heard_one_below old arrival a.1 a.0 a.3, heard_all_below ups a.0 a.2 new a.4, a.5)

  arrived_below : (old : World C) (call : Call (List ℕ)) (own : Event) (made : List Event) (new : World C) → Arrives link steps whole old call own made new → Arrives link steps wire (on old) call own made (on new)
  arrived_below old call own made new a = record {
    ups = a.ups;
    below = a.below;
    later = a.later;
    passes = a.passes;
    hears = heard_all_below a.ups (record old { carrier = a.below }) a.later new a.hears;
    made_is = a.made_is;
  }

  -- ---- ticks and settling

  entity_below : (system : ℕ) (old : World C) (made : List Event) (new : World C) → TicksEntity link steps whole system old made new → TicksEntity link steps wire system (on old) made (on new)
  entity_below system old made new (NoneDue o m n entity there none made_is becomes) =
      let clock = clock_of link steps old in
      NoneDue (on old) made (on new) (entity_on_wire entity) (lower_there old.entities system entity there) (first_due_on clock entity ∙ none) made_is
      (ap world_on_wire becomes
      ∙ ap (λ (ps : List Placed). record (on old) { entities = ps }) (sym (with_on old.entities system (ticking whole clock entity).entity))
      ∙ ap (λ (a : Acted). record (on old) { entities = with_entity (map placed_on_wire old.entities) system a.entity }) (sym (over.ticking clock entity)))
  entity_below system old made new (OneDue o m n entity reference mid here rest there due acts others made_is) =
      let clock = clock_of link steps old in
      OneDue (on old) made (on new) (entity_on_wire entity) reference (on mid) here rest (lower_there old.entities system entity there) (first_due_on clock entity ∙ due)
      (act_below old system entity.own (ticking wire clock (entity_on_wire entity)) (ticking whole clock entity) here mid (over.ticking clock entity) acts)
      (entity_below system mid rest new others) made_is

  all_below : (placed : List Placed) (old : World C) (made : List Event) (new : World C) → TicksAll link steps whole old placed made new → TicksAll link steps wire (on old) (map placed_on_wire placed) made (on new)
  all_below [] old made new a = (a.0, ap world_on_wire a.1)
  all_below (place ∷ placed) old made new a = (on a.0, a.1, a.2, entity_below place.system old a.1 a.0 a.3, all_below placed a.0 a.2 new a.4, a.5)

  ticked_below : (old : World C) (made : List Event) (new : World C) → Ticks link steps whole old made new → Ticks link steps wire (on old) made (on new)
  ticked_below old made new a = record {
    ups = a.ups;
    below = a.below;
    later = a.later;
    passes = a.passes;
    all = all_below old.entities (record old { carrier = a.below }) a.later new a.all;
    made_is = a.made_is;
  }

  settled_below : (count : ℕ) (old : World C) (made : List Event) (new : World C) → Settles link steps whole count old made new → Settles link steps wire count (on old) made (on new)
  settled_below count old made new (NoneLeft c o m n fresh made_is is) = NoneLeft count (on old) made (on new) fresh made_is (ap world_on_wire is)
  settled_below count old made new (TooMany c o m n pair fresh most made_is is) = TooMany count (on old) made (on new) pair fresh most made_is (ap world_on_wire is)
  settled_below count old made new (OneMore c o m n pair mid here rest fresh low delivers settles made_is) =
      OneMore count (on old) made (on new) pair (on mid) here rest fresh low (arrived_below old (Choose pair.0 pair.1 WasPicked) (picked_event pair.0 pair.1 WasPicked) here mid delivers)
      (settled_below (count + 1) mid rest new settles) made_is

  -- ---- the lines

  line_below : (titles : List (List ℕ)) (old : World C) (line : Line) (made : List Event) (new : World C) → RunsLine link steps whole titles old line made new
      → RunsLine link steps wire titles (on old) line made (on new)
  line_below titles old lines.Nothing made new a = (a.0, ap world_on_wire a.1)
  line_below titles old (lines.Connect system selector to called options octets) made new a =
      let ask = a.4 in
      (a.0, a.1, a.2, a.3, (ask.0, ask.1, ask.2, ask.3, connected_below old system a.1 made new ask.4))
  line_below titles old (lines.Accept end options octets) made new a = called_below old end _ made new a
  line_below titles old (lines.Refuse end octets) made new a = called_below old end (asks.Refuse octets) made new a
  line_below titles old (lines.Disconnect end octets) made new a = called_below old end (asks.Disconnect octets) made new a
  line_below titles old (lines.Data end octets) made new a = called_below old end (asks.Normal octets) made new a
  line_below titles old (lines.Expedite end octets) made new a = called_below old end (asks.Urgent octets) made new a
  line_below titles old (lines.Window end credit) made new a = called_below old end (asks.Window credit) made new a
  line_below titles old (lines.Unit system to wish octets) made new a =
      let raw = a.4 in
      (a.0, a.1, a.2, a.3, (raw.0, raw.1, ap world_on_wire raw.2))
  line_below titles old lines.Tick made new a = ticked_below old made new a
  line_below titles old (lines.Deliver number system) made new a = (a.0, arrived_below old (Choose number system a.0) (picked_event number system a.0) made new a.1)
  line_below titles old lines.Settle made new a = settled_below 0 old made new a
  line_below titles old (lines.Inject lan system octets) made new a = (a.0, arrived_below old (Inject lan system octets a.0) (inject_event system a.0) made new a.1)
  line_below titles old (lines.Restart system) made new a =
      let clock = clock_of link steps old in (
        entity_on_wire a.0,
        lower_there old.entities system a.0 a.1,
        a.2,
        ap world_on_wire a.3
            ∙ ap (λ (ps : List Placed). record (on old) { entities = ps }) (sym (with_on old.entities system (restarted clock a.0)))
            ∙ ap (λ (x : Entity). record (on old) { entities = with_entity (map placed_on_wire old.entities) system x }) (sym (restarted_on clock a.0)),
      )
  line_below titles old line made new a = absurd a

pub wire_line : {C : Type 0} (link : C → Link (List ℕ)) (steps : C → Call (List ℕ) → C → Type 0) → OverWires → WireLine link steps
wire_line link steps over titles old line made new step = line_below link steps over titles old line made new step
