-- A line leaves the systems that have a transport entity, and moves the clock by one tick at most: no call of the network but a tick moves it,
-- and what an entity does is made of calls that are no ticks.
use Rattle.std.proofs.Common.{◌≡◌, ℕ, ◌+◌, ◌≤◌, Bool, true, false, List, [], ◌∷◌, ◌++◌, map, Option, Some, None, refl, sym, ◌∙◌, ap, subst, arith}
use Rattle.std.specs.Prelude.{if◌then◌else◌}
use Rattle.osi_base.specs.declared.unit.Arrival.{Arrival}
use Rattle.osi_base.specs.declared.unit.Offered.{Offered}
use Rattle.osi_base.specs.declared.unit.Picked.{Picked}
use Rattle.osi_base.specs.declared.unit.Injected.{Injected}
use Rattle.osi_base.specs.declared.unit.Unit.{Unit as CarriedUnit}
use Rattle.osi_base.specs.declared.unit.Up.{Up}
use Rattle.osi_base.specs.declared.unit.Up.TheVariants.{Unit as Came, Note as Noted}
use Rattle.osi_base.specs.declared.unit.Wish.{Wish}
use Rattle.osi_base.specs.Link.{Link}
use Rattle.osi_base.specs.Calls.{Call, Offer, Choose, Inject, Keeps, Tick}
use Rattle.net_world.specs.Run.{Passes, SendsUnit}
use Rattle.tp4_flow.specs.declared.step.Sent.{Sent}
use Rattle.tp4_conn.specs.declared.call.ConnectRequest.{ConnectRequest}
use Rattle.tp4_conn.specs.declared.call.UserCall.{UserCall}
use Rattle.tp4_entity.specs.declared.refusal.ConnectRefusal.{ConnectRefusal}
use Rattle.tp4_entity.specs.declared.refusal.EntityRefusal.{EntityRefusal}
use Rattle.tp4_entity.specs.Entity.{Acted, Entity}
use Rattle.tp4_entity.specs.References.{least_free}
use Rattle.tp4_entity.specs.Step.{calling, connect_refusal, connecting, restarted, ticking, user_refusal}
use Rattle.tp4_number.specs.Number.{wire}
use Rattle.script_journal.specs.declared.cause.Refused.{Refused}
use Rattle.script_journal.specs.declared.cause.Refused.TheVariants as refusals
use Rattle.script_journal.specs.declared.event.Event.{Event}
use Rattle.script_lines.specs.declared.line.Line.{Line}
use Rattle.script_lines.specs.declared.line.Line.TheVariants as lines
use Rattle.tp4_world.specs.Run.{Acts, Arrives, BeginsAt, Calls, CallsAt, CallsBy, CallsEnd, ConnectsBy, HearsAll, HearsIf, IsRefused, NoneDue, NoneLeft, OneDue, OneMore, Restarts, RunsLine, SendsTpdu, SendsTpdus, Settles, Starts, Ticks, TicksAll, TicksEntity, TooMany, clock_of, is_for, transport_wish}
use Rattle.tp4_world.specs.Ended.{has_ended}
use Rattle.tp4_world.specs.World.{World, end_numbered, entity_at, is_of, with_entity}
use Rattle.tp4_world.specs.declared.place.EndAt.{EndAt}
use Rattle.tp4_world.specs.declared.place.Placed.{Placed}

-- the systems that have an entity
abbrev pub systems_of : List Placed → List ℕ
systems_of placed = map (λ (one : Placed). one.system) placed

-- a system has an entity where it had one
with_systems : (placed : List Placed) (system : ℕ) (entity : Entity) → systems_of (with_entity placed system entity) ≡ systems_of placed
with_systems [] system entity = refl
with_systems (one ∷ placed) system entity = by (with_systems placed system entity) (is_of system one)
  where
    by : systems_of (with_entity placed system entity) ≡ systems_of placed → (b : Bool)
        → systems_of (if b then record one { entity = entity } ∷ placed else one ∷ with_entity placed system entity) ≡ one.system ∷ systems_of placed
    by others true = refl
    by others false = ap (λ (rest : List ℕ). one.system ∷ rest) others

module _ {N : Type 0} (link : N → Link (List ℕ)) (steps : N → Call (List ℕ) → N → Type 0) (keeps : (old : N) (call : Call (List ℕ)) (new : N) → steps old call new → Keeps (link old) call (link new)) where
  -- ---- the network

  record Still (old new : N) : Type 0 where
    clock : (link new).clock ≡ (link old).clock

  still_then : (old mid new : N) → Still old mid → Still mid new → Still old new
  still_then old mid new a b = record { clock = b.clock ∙ a.clock }

  offer_still : (old : N) (unit : CarriedUnit (List ℕ)) (wish : Wish) (answer : Offered) (ups : List (Up (List ℕ))) (new : N) → Passes link steps old (Offer unit wish answer) ups new → Still old new
  offer_still old unit wish answer ups new p =
      let k = keeps old (Offer unit wish answer) p.called p.steps_to in
      record { clock = p.gathers.stands.clock ∙ k.clock }

  choice_still : (old : N) (pick system : ℕ) (answer : Picked) (ups : List (Up (List ℕ))) (new : N) → Passes link steps old (Choose pick system answer) ups new → Still old new
  choice_still old pick system answer ups new p =
      let k = keeps old (Choose pick system answer) p.called p.steps_to in
      record { clock = p.gathers.stands.clock ∙ k.clock }

  injection_still : (old : N) (lan system : ℕ) (octets : List ℕ) (answer : Injected) (ups : List (Up (List ℕ))) (new : N) → Passes link steps old (Inject lan system octets answer) ups new
      → Still old new
  injection_still old lan system octets answer ups new p =
      let k = keeps old (Inject lan system octets answer) p.called p.steps_to in
      record { clock = p.gathers.stands.clock ∙ k.clock }

  tpdus_still : (tpdus : List Sent) (old : N) (system : ℕ) (own : List ℕ) (made : List Event) (new : N) → SendsTpdus link steps old system own tpdus made new → Still old new
  tpdus_still [] old system own made new h = subst (λ (n : N). Still old n) (sym h.1) (record { clock = refl })
  tpdus_still (sent ∷ tpdus) old system own made new h =
      let s : SendsTpdu link steps old system own sent h.1 h.0 = h.3 in
      still_then old h.0 new (offer_still old (record { from = own; to = sent.to; octets = s.octets }) transport_wish s.answer s.ups h.0 s.passes) (tpdus_still tpdus h.0 system own h.2 new h.4)

  -- ---- the entities

  -- the clock and the systems that have an entity stay
  pub record Stays (old new : World N) : Type 0 where
    pub clock : (link new.carrier).clock ≡ (link old.carrier).clock
    pub systems : systems_of new.entities ≡ systems_of old.entities

  -- and the clock may go on by one tick
  pub record Near (old new : World N) : Type 0 where
    pub clock : (link new.carrier).clock ≤ (link old.carrier).clock + 1
    pub systems : systems_of new.entities ≡ systems_of old.entities

  same : (old new : World N) → new ≡ old → Stays old new
  same old new is = subst (λ (e : World N). Stays old e) (sym is) (record { clock = refl; systems = refl })

  then_stays : (old mid new : World N) → Stays old mid → Stays mid new → Stays old new
  then_stays old mid new a b = record { clock = b.clock ∙ a.clock; systems = b.systems ∙ a.systems }

  -- the network changes, and the entities stay
  below_stays : (old : World N) (below : N) → Still old.carrier below → Stays old (record old { carrier = below })
  below_stays old below s = record { clock = s.clock; systems = refl }

  near : (old new : World N) → Stays old new → Near old new
  near old new s = let clock = s.clock in record { clock = omega arith; systems = s.systems }

  acts_stay : (old : World N) (system : ℕ) (own : List ℕ) (acted : Acted) (made : List Event) (new : World N) → Acts link steps old system own acted made new → Stays old new
  acts_stay old system own acted made new a =
      let s = tpdus_still acted.tpdus old.carrier system own a.sent a.below a.sends in
      subst (λ (e : World N). Stays old e) (sym a.becomes) (record { clock = s.clock; systems = with_systems old.entities system acted.entity })

  -- ---- what users ask

  restart_stays : (old : World N) (system : ℕ) (made : List Event) (new : World N) → Restarts link steps old system made new → Stays old new
  restart_stays old system made new h =
      subst (λ (e : World N). Stays old e) (sym h.3) (record { clock = refl; systems = with_systems old.entities system (restarted (clock_of link steps old) h.0) })

  refused_stays : (old : World N) (why : Option Refused) (made : List Event) (new : World N) → IsRefused link steps old why made new → Stays old new
  refused_stays old None made new h = absurd h
  refused_stays old (Some why) made new h = same old new h.1

  begun_stays : (old : World N) (system : ℕ) (entity : Entity) (request : ConnectRequest) (found : Option ℕ) (made : List Event) (new : World N) → BeginsAt link steps old system entity request found made new → Stays old new
  begun_stays old system entity request None made new h = absurd h
  begun_stays old system entity request (Some reference) made new h =
      let with_end : World N = record old { ends = old.ends ++ record { system = system; reference = reference } ∷ [] } in
      let s = acts_stay with_end system entity.own (connecting (clock_of link steps old) entity reference request) h.0 new h.1 in
      record { clock = s.clock; systems = s.systems }

  pub connect_stays : (old : World N) (system : ℕ) (entity : Entity) (request : ConnectRequest) (why : Option ConnectRefusal) (made : List Event) (new : World N) → ConnectsBy link steps old system entity request why made new
      → Stays old new
  connect_stays old system entity request (Some why) made new h = refused_stays old _ made new h
  connect_stays old system entity request None made new h = begun_stays old system entity request (least_free (clock_of link steps old) entity) made new h

  call_by_stays : (old : World N) (number : ℕ) (end : EndAt) (entity : Entity) (call : UserCall) (why : Option EntityRefusal) (made : List Event) (new : World N)
      → CallsBy link steps wire old number end entity call why made new → Stays old new
  call_by_stays old number end entity call (Some why) made new h = refused_stays old _ made new h
  call_by_stays old number end entity call None made new h = acts_stay old end.system entity.own (calling wire (clock_of link steps old) entity end.reference call) h.0 new h.1

  call_end_stays : (old : World N) (number : ℕ) (end : EndAt) (entity : Entity) (call : UserCall) (ended : Bool) (made : List Event) (new : World N)
      → CallsEnd link steps wire old number end entity call ended made new → Stays old new
  call_end_stays old number end entity call true made new h = refused_stays old (Some refusals.Ended) made new h
  call_end_stays old number end entity call false made new h = call_by_stays old number end entity call (user_refusal entity end.reference call) made new h

  call_at_stays : (old : World N) (number : ℕ) (call : UserCall) (end : Option EndAt) (made : List Event) (new : World N) → CallsAt link steps wire old number call end made new → Stays old new
  call_at_stays old number call None made new h = refused_stays old (Some refusals.NoSuchEnd) made new h
  call_at_stays old number call (Some end) made new h =
      call_end_stays old number end h.0 call (has_ended (clock_of link steps old) old.ends number end h.0) made new h.2

  pub call_stays : (old : World N) (number : ℕ) (call : UserCall) (made : List Event) (new : World N) → Calls link steps wire old number call made new → Stays old new
  call_stays old number call made new h = call_at_stays old number call (end_numbered old.ends number) made new h

  -- ---- what comes up

  heard_stays : (old : World N) (arrival : Arrival (List ℕ)) (found : Option Entity) (fits : Bool) (made : List Event) (new : World N) → HearsIf link steps wire old arrival found fits made new → Stays old new
  heard_stays old arrival None fits made new h = same old new h.1
  heard_stays old arrival (Some entity) false made new h = same old new h.1
  heard_stays old arrival (Some entity) true made new h = acts_stay old arrival.system entity.own h.0 made new h.2

  all_heard_stay : (ups : List (Up (List ℕ))) (old : World N) (made : List Event) (new : World N) → HearsAll link steps wire old ups made new → Stays old new
  all_heard_stay [] old made new h = same old new h.1
  all_heard_stay (Noted note ∷ ups) old made new h = all_heard_stay ups old made new h
  all_heard_stay (Came arrival ∷ ups) old made new h =
      then_stays old h.0 new
      (heard_stays old arrival (entity_at old.entities arrival.system) (is_for link steps wire arrival.unit.to (entity_at old.entities arrival.system)) h.1 h.0 h.3)
      (all_heard_stay ups h.0 h.2 new h.4)

  arrival_stays : (old : World N) (call : Call (List ℕ)) (own : Event) (made : List Event) (new : World N) → ((ups : List (Up (List ℕ))) (below : N) → Passes link steps old.carrier call ups below → Still old.carrier below)
      → Arrives link steps wire old call own made new → Stays old new
  arrival_stays old call own made new passes h =
      then_stays old (record old { carrier = h.below }) new (below_stays old h.below (passes h.ups h.below h.passes)) (all_heard_stay h.ups (record old { carrier = h.below }) h.later new h.hears)

  delivery_stays : (old : World N) (number system : ℕ) (answer : Picked) (own : Event) (made : List Event) (new : World N) → Arrives link steps wire old (Choose number system answer) own made new → Stays old new
  delivery_stays old number system answer own made new h =
      arrival_stays old (Choose number system answer) own made new (λ ups below p. choice_still old.carrier number system answer ups below p) h

  -- ---- ticks

  ticked_stays : (system : ℕ) (old : World N) (made : List Event) (new : World N) → TicksEntity link steps wire system old made new → Stays old new
  ticked_stays system old made new (NoneDue o m n entity there none made_is becomes) =
      subst (λ (e : World N). Stays old e) (sym becomes)
      (record { clock = refl; systems = with_systems old.entities system (ticking wire (clock_of link steps old) entity).entity })
  ticked_stays system old made new (OneDue o m n entity reference mid here rest there due acts others made_is) =
      then_stays old mid new (acts_stay old system entity.own (ticking wire (clock_of link steps old) entity) here mid acts) (ticked_stays system mid rest new others)

  all_ticked_stay : (placed : List Placed) (old : World N) (made : List Event) (new : World N) → TicksAll link steps wire old placed made new → Stays old new
  all_ticked_stay [] old made new h = same old new h.1
  all_ticked_stay (one ∷ placed) old made new h = then_stays old h.0 new (ticked_stays one.system old h.1 h.0 h.3) (all_ticked_stay placed h.0 h.2 new h.4)

  tick_near : (old : World N) (made : List Event) (new : World N) → Ticks link steps wire old made new → Near old new
  tick_near old made new h =
      let p = h.passes in
      let k = keeps old.carrier Tick p.called p.steps_to in
      let rest = all_ticked_stay old.entities (record old { carrier = h.below }) h.later new h.all in
      let taken = p.gathers.stands.clock in
      let ticked = k.clock in
      let after = rest.clock in
      record { clock = omega arith; systems = rest.systems }

  -- ---- settling

  pub settled_stays : (count : ℕ) (old : World N) (made : List Event) (new : World N) → Settles link steps wire count old made new → Stays old new
  settled_stays count old made new (NoneLeft n o m l fresh made_is is) = same old new is
  settled_stays count old made new (TooMany n o m l pair fresh most made_is is) = same old new is
  settled_stays count old made new (OneMore n o m l pair mid here rest fresh low delivers settles made_is) =
      then_stays old mid new (delivery_stays old pair.0 pair.1 _ _ here mid delivers) (settled_stays (count + 1) mid rest new settles)

  -- ---- each line

  raw_stays : (old : N) (system : ℕ) (sender receiver : List ℕ) (wish : Wish) (octets : List ℕ) (made : List Event) (new : N)
      → SendsUnit link steps old system sender receiver wish octets made new → Still old new
  raw_stays old system sender receiver wish [] made new h = subst (λ (n : N). Still old n) (sym h.1) (record { clock = refl })
  raw_stays old system sender receiver wish (octet ∷ octets) made new h = offer_still old _ wish h.0 h.1 new h.2

  pub line_near : (titles : List (List ℕ)) (old : World N) (line : Line) (made : List Event) (new : World N) → RunsLine link steps wire titles old line made new → Near old new
  line_near titles old lines.Nothing made new h = near old new (same old new h.1)
  line_near titles old (lines.Connect system selector to called options octets) made new h =
      let c = h.4.4 in
      near old new (connect_stays old system c.0 h.1 (connect_refusal (clock_of link steps old) c.0 (h.1).octets) made new c.2)
  line_near titles old (lines.Accept end options octets) made new h = near old new (call_stays old end _ made new h)
  line_near titles old (lines.Refuse end octets) made new h = near old new (call_stays old end _ made new h)
  line_near titles old (lines.Disconnect end octets) made new h = near old new (call_stays old end _ made new h)
  line_near titles old (lines.Data end octets) made new h = near old new (call_stays old end _ made new h)
  line_near titles old (lines.Expedite end octets) made new h = near old new (call_stays old end _ made new h)
  line_near titles old (lines.Window end credit) made new h = near old new (call_stays old end _ made new h)
  line_near titles old (lines.Unit system to wish octets) made new h =
      let raw = h.4 in
      subst (λ (e : World N). Near old e) (sym raw.2) (near old (record old { carrier = raw.0 }) (below_stays old raw.0 (raw_stays old.carrier system h.0 h.1 wish octets made raw.0 raw.1)))
  line_near titles old lines.Tick made new h = tick_near old made new h
  line_near titles old lines.Settle made new h = near old new (settled_stays 0 old made new h)
  line_near titles old (lines.Deliver number system) made new h = near old new (delivery_stays old number system h.0 _ made new h.1)
  line_near titles old (lines.Inject lan system octets) made new h =
      near old new (arrival_stays old (Inject lan system octets h.0) _ made new (λ ups below p. injection_still old.carrier lan system octets h.0 ups below p) h.1)
  line_near titles old (lines.Restart system) made new h = near old new (restart_stays old system made new h)
  line_near titles old other made new h = absurd h

  -- what waited at the start was told, and else nothing changed
  pub record StartsNear (net : N) (placed : List Placed) (first : World N) : Type 0 where
    pub clock : (link first.carrier).clock ≡ (link net).clock
    pub entities : first.entities ≡ placed

  pub start_near : (net : N) (placed : List Placed) (first : World N) (made : List Event) → Starts link steps net placed made first → StartsNear net placed first
  start_near net placed first made h =
      subst (λ (e : World N). StartsNear net placed e) (sym h.becomes) (record { clock = h.gathers.stands.clock; entities = refl })
