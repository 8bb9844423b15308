-- Each line of a network with its transport entities has events that their text tells: between two calls the carrier stands, its entities are at rest and in
-- octets, and their ends keep octets; so each call of the carrier may be asked, what comes up is told, and what an entity tells is in octets and in range.
use Rattle.std.proofs.Common.{◌≡◌, inl, inr, ◌≤◌, ◌<◌, ◌∙◌, ◌^◌, ℕ, zero, suc, ◌+◌, ◌-◌, ◌==◌, Bool, true, false, List, [], ◌∷◌, ◌++◌, drop, length, slice_get, Option, Some, None, refl, sym, ap, subst, arith, length-append}
use Rattle.std.specs.Prelude.{nat_lt, not}
use Rattle.std.specs.List.{AllByRecursion}
use Rattle.std.proofs.lemmas.Bool.{and_parts, ltb-false}
use Rattle.std.proofs.lemmas.Option.{none-some}
use Rattle.osi_base.specs.declared.unit.Arrival.{Arrival}
use Rattle.osi_base.specs.declared.unit.Injected.{Injected}
use Rattle.osi_base.specs.declared.unit.Injected.TheVariants as injects
use Rattle.osi_base.specs.declared.unit.Offered.{Offered}
use Rattle.osi_base.specs.declared.unit.Offered.TheVariants.{Taken as WasTaken, Dropped}
use Rattle.osi_base.specs.declared.unit.Picked.{Picked}
use Rattle.osi_base.specs.declared.unit.Picked.TheVariants as picks
use Rattle.osi_base.specs.declared.unit.Up.{Up}
use Rattle.osi_base.specs.declared.unit.Up.TheVariants.{Unit as Came, Note as Noted}
use Rattle.osi_base.specs.declared.unit.Wish.{Wish}
use Rattle.osi_base.specs.Link.{Link}
use Rattle.osi_base.specs.Calls.{Call, Chain, Choose, Inject, Keeps, NextUp, Offer, Tick}
use Rattle.osi_base.specs.Gathering.{Gathers, takings}
use Rattle.osi_base.proofs.Members.{all_both}
use Rattle.law_carrier_answers.specs.Answers.{AreOctets, CanBeAsked, MayBeOffered, asked_of}
use Rattle.script_lines.specs.Tags.{Tags}
use Rattle.script_lines.specs.declared.line.Line.{Line}
use Rattle.script_lines.specs.declared.line.Line.TheVariants as lines
use Rattle.tpdu.specs.declared.service.Options.{Options}
use Rattle.script_journal.specs.RawLawful.{raw_address}
use Rattle.script_journal.specs.declared.cause.Refused.{Refused}
use Rattle.script_journal.specs.declared.cause.Refused.TheVariants as refusals
use Rattle.script_journal.specs.declared.event.Event.{Event}
use Rattle.script_journal.specs.declared.event.Event.TheVariants as events
use Rattle.net_world.specs.Run.{Passes, raw_unit}
use Rattle.script_journal.specs.Injective.{AreTold}
use Rattle.script_journal.specs.Told.{cells_of}
use Rattle.net_world.specs.Told.{picked_event, refusal, sent_event, told}
use Rattle.tpdu.specs.Writing.{IsWritten, is_summed}
use Rattle.tpdu.proofs.Spellings.{one_spelling}
use Rattle.tp4_number.proofs.Past.{if_kept}
use Rattle.tp4_flow.specs.declared.step.Sent.{Sent}
use Rattle.tp4_conn.specs.Calls.{IsCall}
use Rattle.tp4_conn.specs.End.{IsSized}
use Rattle.tp4_conn.specs.Proper.{AreSendable, IsProperCall, IsSendable}
use Rattle.tp4_conn.specs.declared.call.ConnectRequest.{ConnectRequest}
use Rattle.tp4_conn.specs.declared.call.UserCall.{UserCall}
use Rattle.tp4_conn.specs.declared.call.UserCall.TheVariants as asks
use Rattle.tp4_entity.specs.Entity.{Acted, Entity}
use Rattle.tp4_entity.specs.References.{least_free}
use Rattle.tp4_entity.specs.Silence.{is_silent}
use Rattle.tp4_entity.specs.Step.{call_of, calling, connect_refusal, connecting, first_due, restarted, ticking, user_refusal}
use Rattle.tp4_entity.specs.declared.refusal.ConnectRefusal.{ConnectRefusal}
use Rattle.tp4_entity.specs.declared.refusal.EntityRefusal.{EntityRefusal}
use Rattle.tp4_entity.proofs.Standings.{free_least}
use Rattle.law_tp4_proper.specs.Octets.{AreAddressed, CallInOctets, EntityInOctets, IsAddressed, StepInOctets}
use Rattle.law_tp4_proper.specs.Rest.{AreInTime, AreProper, IsAtRest, IsProperStep}
use Rattle.law_tp4_proper.proofs.Ends.{calling_rests, connecting_rests, new_rests, ticking_proper, waits}
use Rattle.law_tp4_proper.proofs.Heards.{restarting_in, taken_in, taken_rests}
use Rattle.law_tp4_proper.proofs.OctetEnds.{calling_in, connecting_in, ticking_in}
use Rattle.law_tp4_proper.proofs.Writings.{some_writing}
use Rattle.tp4_world.specs.Run.{Acts, Arrives, BeginsAt, Calls, CallsAt, CallsBy, CallsEnd, ConnectsBy, Delivers, HearsAll, HearsIf, Injects, IsRefused, NoneDue, NoneLeft, OneDue, OneMore, Restarts, RunsLine, SendsRaw, SendsTpdu, SendsTpdus, Settles, Starts, Ticks, TicksAll, TicksEntity, TooMany, is_for, transport_address, transport_wish}
use Rattle.tp4_world.specs.Ended.{has_ended}
use Rattle.tp4_world.specs.Telling.{call_events, connect_event, drop_events, events_after, inject_event, told_connect, told_refusal}
use Rattle.tp4_world.specs.Total.{CanConnect, CanRun, ComesInOctets}
use Rattle.tp4_world.specs.World.{World, end_numbered, entity_at, with_entity}
use Rattle.tp4_world.specs.declared.place.EndAt.{EndAt}
use Rattle.tp4_world.specs.declared.place.Placed.{Placed}
use Rattle.tp4_world.proofs.Having.{with_any}
use Rattle.tp4_world.proofs.Places.{some_same}
use Rattle.law_told.proofs.Carriers.{IsToldUp, Tells}
use Rattle.law_told.proofs.Sends.{AreToldBy}
use Rattle.law_told.proofs.Events.{EachFrom, IsToldEvent, drop_told, each_both, each_of, ends_told, octets_bytes, refusal_told, ups_told}
use Rattle.law_told.proofs.EndSteps.{ActedTold, EntityFew, calling_told, connecting_told, entity_on, restarting_few, taken_told, ticking_told}
use Rattle.law_told.proofs.Rows.{after_call}

written_octets : (sent : Sent) (octets : List ℕ) (is_address : List ℕ → Bool) → IsWritten sent.format sent.sum sent.tpdu octets → IsSendable sent → IsAddressed is_address sent → AreOctets octets
written_octets sent octets is_address w fits to =
    let made = some_writing sent.format sent.sum sent.tpdu fits.1 to.1 in
    subst AreOctets (one_spelling sent.format (is_summed sent.sum sent.tpdu) sent.tpdu made.octets octets made.written w) made.are

module _ {C : Type 0} (tags : Tags) (is_address : List ℕ → Bool) (link : C → Link (List ℕ)) (steps : C → Call (List ℕ) → C → Type 0)
    (keeps : (old : C) (call : Call (List ℕ)) (new : C) → steps old call new → Keeps (link old) call (link new)) (StandsSo : C → Type 0) (tells : Tells tags is_address link steps StandsSo) (wrap : ℕ → ℕ → ℕ) where
  abbrev pub now_of : World C → ℕ
  now_of world = (link world.carrier).clock

  abbrev pub IsDeclared : ℕ → Type 0
  IsDeclared system = system < length tags.systems

  abbrev AreEvents : List Event → Type 0
  AreEvents made = AllByRecursion (IsToldEvent tags) made

  -- ---- a call, and what comes up

  chain_stands : (ups : List (Up (List ℕ))) (old new : C) → StandsSo old → Chain steps old (takings ups ++ NextUp None ∷ []) new → StandsSo new
  chain_stands [] old new stands c = subst StandsSo (sym c.2) (tells.serves.answers.stays old (NextUp None) c.0 stands tt c.1)
  chain_stands (up ∷ ups) old new stands c = chain_stands ups c.0 new (tells.serves.answers.stays old (NextUp (Some up)) c.0 stands tt c.1) c.2

  pub record UpSo (ups : List (Up (List ℕ))) (new : C) : Type 0 where
    pub stands : StandsSo new
    pub told_is : AllByRecursion (IsToldUp tags) ups
    pub octets : AllByRecursion (ComesInOctets is_address) ups

  pub gathers_so : (called : C) (ups : List (Up (List ℕ))) (new : C) → StandsSo called → Gathers link steps called ups new → UpSo ups new
  gathers_so called ups new stands g = record {
    stands = chain_stands ups called new stands g.chain;
    told_is = subst (AllByRecursion (IsToldUp tags)) g.waited (tells.waiting called stands);
    octets = subst (AllByRecursion (ComesInOctets is_address)) g.waited (tells.serves.in_octets called stands);
  }

  pub passes_so : (old : C) (call : Call (List ℕ)) (ups : List (Up (List ℕ))) (new : C) → StandsSo old → CanBeAsked is_address (link old) (asked_of call) → Passes link steps old call ups new → UpSo ups new
  passes_so old call ups new stands may p = gathers_so p.called ups new (tells.serves.answers.stays old call p.called stands may p.steps_to) p.gathers

  pub ups_events : (ups : List (Up (List ℕ))) (new : C) → UpSo ups new → AreEvents (told ups)
  ups_events ups new u = ups_told tags is_address tells.addresses ups u.told_is u.octets

  -- ---- TPDUs

  record SentSo (old : C) (made : List Event) (new : C) : Type 0 where
    events : AreEvents made
    stands : StandsSo new
    clock : (link new).clock ≡ (link old).clock

  module _ (system : ℕ) (declared : IsDeclared system) (own : List ℕ) (address : is_address own ≡ true) where
    sent_one : (old : C) (sent : Sent) (made : List Event) (new : C) → StandsSo old → IsSendable sent → IsAddressed is_address sent → SendsTpdu link steps old system own sent made new → SentSo old made new
    sent_one old sent made new stands fits to s =
        let octets = written_octets sent s.octets is_address s.written fits to in
        let u = passes_so old (Offer (record { from = own; to = sent.to; octets = s.octets }) transport_wish s.answer) s.ups new stands (record { from = address; to = to.0; octets = octets }) s.passes in
        record {
          events = subst AreEvents (sym s.made_is) (all_both (IsToldEvent tags) (drop_events system s.answer) (told s.ups) (drop_told tags system s.answer declared) (ups_events s.ups new u));
          stands = u.stands;
          clock = s.passes.gathers.stands.clock ∙ (keeps old (Offer (record { from = own; to = sent.to; octets = s.octets }) transport_wish s.answer) s.passes.called s.passes.steps_to).clock;
        }

    sent_all : (tpdus : List Sent) (old : C) (made : List Event) (new : C) → StandsSo old → AreSendable tpdus → AreAddressed is_address tpdus → SendsTpdus link steps old system own tpdus made new → SentSo old made new
    sent_all [] old made new stands fits to s = record { events = subst AreEvents (sym s.0) tt; stands = subst StandsSo (sym s.1) stands; clock = ap (λ (c : C). (link c).clock) s.1 }
    sent_all (sent ∷ tpdus) old made new stands fits to s =
        let first = sent_one old sent s.1 s.0 stands fits.0 to.0 s.3 in
        let rest = sent_all tpdus s.0 s.2 new first.stands fits.1 to.1 s.4 in
        record { events = subst AreEvents (sym s.5) (all_both (IsToldEvent tags) s.1 s.2 first.events rest.events); stands = rest.stands; clock = rest.clock ∙ first.clock }

  -- ---- a step of an entity

  record ActsSo (n : ℕ) (old : World C) (system : ℕ) (acted : Acted) (made : List Event) (new : World C) : Type 0 where
    events : EachFrom tags n made
    stands : StandsSo new.carrier
    entities : new.entities ≡ with_entity old.entities system acted.entity
    clock : now_of new ≡ now_of old
    ends : length new.ends ≤ n + length made

  acts_so : (n : ℕ) (old : World C) (system : ℕ) (own : List ℕ) (acted : Acted) (made : List Event) (new : World C) → StandsSo old.carrier → length old.ends ≤ n → IsDeclared system → is_address own ≡ true
      → AreToldBy n acted.events → AreSendable acted.tpdus → AreAddressed is_address acted.tpdus → Acts link steps old system own acted made new → ActsSo n old system acted made new
  acts_so n old system own acted made new stands few declared address telling fits to a =
      let s = sent_all system declared own address acted.tpdus old.carrier a.sent a.below stands fits to a.sends in
      let own_is = tells.addresses own address in
      let e = ends_told tags system declared own own_is.0 own_is.1 n n old.ends acted.events few (omega arith) telling in
      let events = events_after old.ends system own acted.events in
      let long = length-append events a.sent in
      let count = ap (λ (l : List Event). length l) a.made_is in
      let most = e.few in
      let same = ap (λ (w : World C). length w.ends) a.becomes in
      record {
        events = subst (EachFrom tags n) (sym a.made_is) (each_both tags n events a.sent e.told_is (each_of tags (n + length events) a.sent s.events));
        stands = subst (λ (w : World C). StandsSo w.carrier) (sym a.becomes) s.stands;
        entities = ap (λ (w : World C). w.entities) a.becomes;
        clock = ap (λ (w : World C). now_of w) a.becomes ∙ s.clock;
        ends = omega (arith, long, count, most, same);
      }

  -- ---- a network between two steps

  pub record EntitySo (n now system : ℕ) (e : Entity) : Type 0 where
    pub declared : IsDeclared system
    pub rest : IsAtRest now e
    pub octets : EntityInOctets is_address e
    pub keeps_few : EntityFew n e

  pub record WorldSo (n : ℕ) (world : World C) : Type 0 where
    pub carrier_so : StandsSo world.carrier
    pub entities_so : (system : ℕ) (e : Entity) → entity_at world.entities system ≡ Some e → EntitySo n (now_of world) system e
    pub ends_few : length world.ends ≤ n

  entity_later : (n more now system : ℕ) (e : Entity) → EntitySo n now system e → EntitySo (n + more) now system e
  entity_later n more now system e h = record { declared = h.declared; rest = h.rest; octets = h.octets; keeps_few = entity_on n more e h.keeps_few }

  pub later : (n more : ℕ) (world : World C) → WorldSo n world → WorldSo (n + more) world
  later n more world h =
      let few = h.ends_few in
      record { carrier_so = h.carrier_so; entities_so = λ system e is. entity_later n more (now_of world) system e (h.entities_so system e is); ends_few = omega (arith, few) }

  -- the events of a step, and what is so after it
  pub record StepSo (n : ℕ) (made : List Event) (new : World C) : Type 0 where
    pub events : EachFrom tags n made
    pub world : WorldSo (n + length made) new

  -- where another entity stands at a system
  changed : (n more : ℕ) (old new : World C) (system : ℕ) (e : Entity) → new.entities ≡ with_entity old.entities system e → now_of new ≡ now_of old → WorldSo n old → EntitySo (n + more) (now_of old) system e
      → (other : ℕ) (x : Entity) → entity_at new.entities other ≡ Some x → EntitySo (n + more) (now_of new) other x
  changed n more old new system e same clock h on other x is =
      subst (λ (now : ℕ). EntitySo (n + more) now other x) (sym clock) (elim (with_any old.entities system other e x (subst (λ (l : List Placed). entity_at l other ≡ Some x) same is)) [
        | inl here ↦ subst (λ (s : ℕ). EntitySo (n + more) (now_of old) s x) (sym here.0) (subst (λ (y : Entity). EntitySo (n + more) (now_of old) system y) (sym here.1) on)
        | inr stays ↦ entity_later n more (now_of old) other x (h.entities_so other x stays)
      ])

  acting_so : (n : ℕ) (old : World C) (system : ℕ) (e : Entity) (acted : Acted) (made : List Event) (new : World C) → WorldSo n old → entity_at old.entities system ≡ Some e → IsProperStep (now_of old) acted
      → StepInOctets is_address acted → ActedTold n acted → Acts link steps old system e.own acted made new → StepSo n made new
  acting_so n old system e acted made new h is step octets telling a =
      let was = h.entities_so system e is in
      let s = acts_so n old system e.own acted made new h.carrier_so h.ends_few was.declared was.octets.own telling.events step.tpdus octets.tpdus a in
      record {
        events = s.events;
        world = record {
          carrier_so = s.stands;
          entities_so = changed n (length made) old new system acted.entity s.entities s.clock h
              (record { declared = was.declared; rest = step.rest; octets = octets.entity; keeps_few = entity_on n (length made) acted.entity telling.entity });
          ends_few = s.ends;
        };
      }

  nothing_so : (n : ℕ) (old new : World C) (made : List Event) → WorldSo n old → made ≡ [] → new ≡ old → StepSo n made new
  nothing_so n old new made h none same =
      record { events = subst (EachFrom tags n) (sym none) tt; world = subst (λ (m : List Event). WorldSo (n + length m) new) (sym none) (subst (λ (w : World C). WorldSo (n + 0) w) (sym same) (later n 0 old h)) }

  -- an event, and then others
  own_first : (n : ℕ) (own : Event) (made later_made : List Event) (new : World C) → (n < 4294967296 → IsToldEvent tags own) → StepSo (n + 1) later_made new → made ≡ own ∷ later_made → StepSo n made new
  own_first n own made later_made new first h is =
      let count : n + 1 + length later_made ≡ n + length (own ∷ later_made) = omega arith in
      record { events = subst (EachFrom tags n) (sym is) (first, h.events); world = subst (λ (m : List Event). WorldSo (n + length m) new) (sym is) (subst (λ (k : ℕ). WorldSo k new) count h.world) }

  both_so : (n : ℕ) (here rest made : List Event) (mid new : World C) → StepSo n here mid → StepSo (n + length here) rest new → made ≡ here ++ rest → StepSo n made new
  both_so n here rest made mid new h k is =
      let long = length-append here rest in
      let count : n + length here + length rest ≡ n + length (here ++ rest) = omega (arith, long) in
      record {
        events = subst (EachFrom tags n) (sym is) (each_both tags n here rest h.events k.events);
        world = subst (λ (m : List Event). WorldSo (n + length m) new) (sym is) (subst (λ (x : ℕ). WorldSo x new) count k.world);
      }

  refused_so : (n : ℕ) (old new : World C) (why : Option Refused) (made : List Event) → WorldSo n old → IsRefused link steps old why made new → StepSo n made new
  refused_so n old new None made h r = absurd r
  refused_so n old new (Some why) made h r = own_first n (events.No why) made [] new (λ low. refusal_told tags why) (nothing_so (n + 1) old new [] (later n 1 old h) refl r.1) r.0

  -- ---- what comes up

  hears_if : (n : ℕ) (old new : World C) (arrival : Arrival (List ℕ)) (place : Option Entity) (fits : Bool) (made : List Event) → entity_at old.entities arrival.system ≡ place → WorldSo n old
      → MayBeOffered is_address arrival.unit → HearsIf link steps wrap old arrival place fits made new → StepSo n made new
  hears_if n old new arrival None fits made is h may r = nothing_so n old new made h r.0 r.1
  hears_if n old new arrival (Some e) false made is h may r = nothing_so n old new made h r.0 r.1
  hears_if n old new arrival (Some e) true made is h may r =
      let was = h.entities_so arrival.system e is in
      let from = tells.addresses arrival.unit.from may.from in
      acting_so n old arrival.system e r.0 made new h is (taken_rests wrap (now_of old) e arrival.unit.from arrival.unit.octets r.0 was.rest r.1)
      (taken_in is_address wrap (now_of old) e arrival.unit.from arrival.unit.octets r.0 may.from may.octets was.rest was.octets r.1)
      (taken_told n wrap (now_of old) arrival.unit.from from.0 from.1 e arrival.unit.octets r.0 may.octets was.keeps_few was.octets.few r.1) r.2

  hears_all : (ups : List (Up (List ℕ))) (n : ℕ) (old new : World C) (made : List Event) → WorldSo n old → AllByRecursion (ComesInOctets is_address) ups → HearsAll link steps wrap old ups made new → StepSo n made new
  hears_all [] n old new made h may r = nothing_so n old new made h r.0 r.1
  hears_all (Noted note ∷ ups) n old new made h may r = hears_all ups n old new made h may.1 r
  hears_all (Came arrival ∷ ups) n old new made h may r =
      let here = hears_if n old r.0 arrival (entity_at old.entities arrival.system) (is_for link steps wrap arrival.unit.to (entity_at old.entities arrival.system)) r.1 refl h may.0 r.3 in
      let rest = hears_all ups (n + length r.1) r.0 new r.2 here.world may.1 r.4 in
      both_so n r.1 r.2 made r.0 new here rest r.5

  -- events that are told, and then others
  events_first : (n : ℕ) (first made later_made : List Event) (old new : World C) → AreEvents first → WorldSo n old → (WorldSo (n + length first) old → StepSo (n + length first) later_made new) → made ≡ first ++ later_made
      → StepSo n made new
  events_first n first made later_made old new told_first h next is =
      both_so n first later_made made old new (record { events = each_of tags n first told_first; world = later n (length first) old h }) (next (later n (length first) old h)) is

  -- the same network over another state of its carrier, at the same tick
  over : (n : ℕ) (old : World C) (below : C) → WorldSo n old → StandsSo below → (link below).clock ≡ now_of old → WorldSo n (record old { carrier = below })
  over n old below h stands clock = record {
    carrier_so = stands;
    entities_so = λ system e is. subst (λ (now : ℕ). EntitySo n now system e) (sym clock) (h.entities_so system e is);
    ends_few = h.ends_few;
  }

  arrives_so : (n : ℕ) (old new : World C) (call : Call (List ℕ)) (own : Event) (made : List Event) → WorldSo n old → CanBeAsked is_address (link old.carrier) (asked_of call)
      → ((called : C) → steps old.carrier call called → (link called).clock ≡ now_of old) → (n < 4294967296 → IsToldEvent tags own) → Arrives link steps wrap old call own made new → StepSo n made new
  arrives_so n old new call own made h may clock first a =
      let u = passes_so old.carrier call a.ups a.below h.carrier_so may a.passes in
      let same : (link a.below).clock ≡ now_of old = a.passes.gathers.stands.clock ∙ clock a.passes.called a.passes.steps_to in
      let mid : World C = record old { carrier = a.below } in
      let start = over (n + 1) old a.below (later n 1 old h) u.stands same in
      own_first n own made (told a.ups ++ a.later) new first
      (events_first (n + 1) (told a.ups) (told a.ups ++ a.later) a.later mid new (ups_events a.ups a.below u) start (λ k. hears_all a.ups (n + 1 + length (told a.ups)) mid new a.later k u.octets a.hears) refl) a.made_is

  pub picked_told : (number system : ℕ) (answer : Picked) → number < 2 ^ 64 → IsDeclared system → IsToldEvent tags (picked_event number system answer)
  picked_told number system picks.Taken low declared = (refl, (low, (declared, tt)))
  picked_told number system other low declared = (refl, (low, (declared, tt)))

  delivers_so : (n : ℕ) (old new : World C) (number system : ℕ) (answer : Picked) (made : List Event) → WorldSo n old → number < 2 ^ 64 → IsDeclared system
      → Delivers link steps wrap old number system answer made new → StepSo n made new
  delivers_so n old new number system answer made h low declared d =
      arrives_so n old new (Choose number system answer) (picked_event number system answer) made h tt (λ called s. (keeps old.carrier (Choose number system answer) called s).clock)
      (λ few. picked_told number system answer low declared) d

  inject_told : (system : ℕ) (answer : Injected) → IsDeclared system → IsToldEvent tags (inject_event system answer)
  inject_told system injects.Taken declared = (refl, (declared, tt))
  inject_told system injects.NotThere declared = (refl, (refl, (declared, tt)))

  injects_so : (n : ℕ) (old new : World C) (lan system : ℕ) (octets : List ℕ) (answer : Injected) (made : List Event) → WorldSo n old → AreOctets octets → IsDeclared system
      → Injects link steps wrap old lan system octets answer made new → StepSo n made new
  injects_so n old new lan system octets answer made h may declared i =
      arrives_so n old new (Inject lan system octets answer) (inject_event system answer) made h may (λ called s. (keeps old.carrier (Inject lan system octets answer) called s).clock)
      (λ few. inject_told system answer declared) i

  -- ---- settling

  settles_so : (n count : ℕ) (old new : World C) (made : List Event) → WorldSo n old → count ≤ 65536 → Settles link steps wrap count old made new → StepSo n made new
  settles_so n count old new made h few (NoneLeft k a m b least is same) =
      own_first n _ made [] new (λ low. (refl, (omega (arith, few), tt))) (nothing_so (n + 1) old new [] (later n 1 old h) refl same) is
  settles_so n count old new made h few (TooMany k a m b pair least all is same) =
      own_first n _ made [] new (λ low. (refl, (omega (arith, few), tt))) (nothing_so (n + 1) old new [] (later n 1 old h) refl same) is
  settles_so n count old new made h few (OneMore k a m b pair mid here rest least below delivers settles is) =
      let p = tells.picks old.carrier h.carrier_so pair.0 pair.1 (and_parts ((link old.carrier).takes pair.0 pair.1) (not ((link old.carrier).took pair.0 pair.1)) least.0).0 in
      let first = delivers_so n old mid pair.0 pair.1 picks.Taken here h p.0 p.1 delivers in
      let others = settles_so (n + length here) (count + 1) mid new rest first.world (omega (arith, below)) settles in
      both_so n here rest made mid new first others is

  -- ---- a tick

  -- an entity while its due ends tick
  pub record EntityTicks (n now system : ℕ) (e : Entity) : Type 0 where
    pub declared : IsDeclared system
    pub proper : AreProper e
    pub in_time : AreInTime now e
    pub octets : EntityInOctets is_address e
    pub keeps_few : EntityFew n e

  pub record TickSo (n : ℕ) (world : World C) : Type 0 where
    pub carrier_so : StandsSo world.carrier
    pub entities_so : (system : ℕ) (e : Entity) → entity_at world.entities system ≡ Some e → EntityTicks n (now_of world) system e
    pub ends_few : length world.ends ≤ n

  record InTick (n : ℕ) (old : World C) (made : List Event) (new : World C) : Type 0 where
    events : EachFrom tags n made
    world : TickSo (n + length made) new
    clock : now_of new ≡ now_of old

  tick_later : (n more : ℕ) (world : World C) → TickSo n world → TickSo (n + more) world
  tick_later n more world h =
      let few = h.ends_few in
      record {
        carrier_so = h.carrier_so;
        entities_so = λ system e is. let t = h.entities_so system e is in record { declared = t.declared; proper = t.proper; in_time = t.in_time; octets = t.octets; keeps_few = entity_on n more e t.keeps_few };
        ends_few = omega (arith, few);
      }

  ticked_one : (n more system : ℕ) (now : ℕ) (e : Entity) → EntityTicks n now system e → EntityTicks (n + more) now system (ticking wrap now e).entity
  ticked_one n more system now e t =
      let step = ticking_proper wrap now e t.proper t.in_time in
      record {
        declared = t.declared;
        proper = step.proper;
        in_time = step.in_time;
        octets = (ticking_in is_address wrap now e t.octets).entity;
        keeps_few = entity_on n more (ticking wrap now e).entity (ticking_told n wrap now e t.keeps_few).entity;
      }

  tick_changed : (n more : ℕ) (old new : World C) (system : ℕ) (e : Entity) → new.entities ≡ with_entity old.entities system e → now_of new ≡ now_of old → TickSo n old → EntityTicks (n + more) (now_of old) system e
      → (other : ℕ) (x : Entity) → entity_at new.entities other ≡ Some x → EntityTicks (n + more) (now_of new) other x
  tick_changed n more old new system e same clock h on other x is =
      subst (λ (now : ℕ). EntityTicks (n + more) now other x) (sym clock) (elim (with_any old.entities system other e x (subst (λ (l : List Placed). entity_at l other ≡ Some x) same is)) [
        | inl here ↦ subst (λ (s : ℕ). EntityTicks (n + more) (now_of old) s x) (sym here.0) (subst (λ (y : Entity). EntityTicks (n + more) (now_of old) system y) (sym here.1) on)
        | inr stays ↦ (tick_later n more old h).entities_so other x stays
      ])

  none_due : (n system : ℕ) (old new : World C) (made : List Event) (e : Entity) → TickSo n old → entity_at old.entities system ≡ Some e → made ≡ []
      → new ≡ record old { entities = with_entity old.entities system (ticking wrap (now_of old) e).entity } → InTick n old made new
  none_due n system old new made e h is none same =
      let entities : new.entities ≡ with_entity old.entities system (ticking wrap (now_of old) e).entity = ap (λ (w : World C). w.entities) same in
      let clock : now_of new ≡ now_of old = ap (λ (w : World C). now_of w) same in
      let ends = ap (λ (w : World C). length w.ends) same in
      let few = h.ends_few in
      record {
        events = subst (EachFrom tags n) (sym none) tt;
        world = subst (λ (m : List Event). TickSo (n + length m) new) (sym none) (record {
          carrier_so = subst (λ (w : World C). StandsSo w.carrier) (sym same) h.carrier_so;
          entities_so = tick_changed n 0 old new system (ticking wrap (now_of old) e).entity entities clock h (ticked_one n 0 system (now_of old) e (h.entities_so system e is));
          ends_few = omega (arith, few, ends);
        });
        clock = clock;
      }

  ticks_entity : (system n : ℕ) (old new : World C) (made : List Event) → TickSo n old → TicksEntity link steps wrap system old made new → InTick n old made new
  ticks_entity system n old new made h (NoneDue a m b e is due none same) = none_due n system old new made e h is none same
  ticks_entity system n old new made h (OneDue a m b e reference mid here rest is due acts ticks parts) =
      let was = h.entities_so system e is in
      let acted = ticking wrap (now_of old) e in
      let step = ticking_proper wrap (now_of old) e was.proper was.in_time in
      let octets = ticking_in is_address wrap (now_of old) e was.octets in
      let telling = ticking_told n wrap (now_of old) e was.keeps_few in
      let s = acts_so n old system e.own acted here mid h.carrier_so h.ends_few was.declared was.octets.own telling.events step.tpdus octets.tpdus acts in
      let there : TickSo (n + length here) mid = record {
        carrier_so = s.stands;
        entities_so = tick_changed n (length here) old mid system acted.entity s.entities s.clock h (ticked_one n (length here) system (now_of old) e was);
        ends_few = s.ends;
      } in
      let others = ticks_entity system (n + length here) mid new rest there ticks in
      let long = length-append here rest in
      let count : n + length here + length rest ≡ n + length (here ++ rest) = omega (arith, long) in
      record {
        events = subst (EachFrom tags n) (sym parts) (each_both tags n here rest s.events others.events);
        world = subst (λ (m : List Event). TickSo (n + length m) new) (sym parts) (subst (λ (x : ℕ). TickSo x new) count others.world);
        clock = others.clock ∙ s.clock;
      }

  ticks_all : (left : List Placed) (n : ℕ) (old new : World C) (made : List Event) → TickSo n old → TicksAll link steps wrap old left made new → InTick n old made new
  ticks_all [] n old new made h t = record {
    events = subst (EachFrom tags n) (sym t.0) tt;
    world = subst (λ (m : List Event). TickSo (n + length m) new) (sym t.0) (subst (λ (w : World C). TickSo (n + 0) w) (sym t.1) (tick_later n 0 old h));
    clock = ap (λ (w : World C). now_of w) t.1;
  }
  ticks_all (one ∷ left) n old new made h t =
      let first = ticks_entity one.system n old t.0 t.1 h t.3 in
      let others = ticks_all left (n + length t.1) t.0 new t.2 first.world t.4 in
      let long = length-append t.1 t.2 in
      let count : n + length t.1 + length t.2 ≡ n + length (t.1 ++ t.2) = omega (arith, long) in
      record {
        events = subst (EachFrom tags n) (sym t.5) (each_both tags n t.1 t.2 first.events others.events);
        world = subst (λ (m : List Event). TickSo (n + length m) new) (sym t.5) (subst (λ (x : ℕ). TickSo x new) count others.world);
        clock = others.clock ∙ first.clock;
      }

  -- a tick leaves what can tick; that none is due any more is known of each run that is made, and so of this one
  record TickedSo (n : ℕ) (made : List Event) (new : World C) : Type 0 where
    events : EachFrom tags n made
    world : TickSo (n + length made) new

  ticks_so : (n : ℕ) (old new : World C) (made : List Event) → WorldSo n old → now_of old < 4000000000 → Ticks link steps wrap old made new → TickedSo n made new
  ticks_so n old new made h low t =
      let u = passes_so old.carrier Tick t.ups t.below h.carrier_so low t.passes in
      let clock : (link t.below).clock ≡ now_of old + 1 = t.passes.gathers.stands.clock ∙ (keeps old.carrier Tick t.passes.called t.passes.steps_to).clock in
      let mid : World C = record old { carrier = t.below } in
      let few = h.ends_few in
      let start : TickSo n mid = record {
        carrier_so = u.stands;
        entities_so = λ system e is. let was = h.entities_so system e is in record {
          declared = was.declared;
          proper = was.rest.proper;
          in_time = subst (λ (now : ℕ). AreInTime now e) (sym clock) (waits (now_of old) e was.rest.idle).1;
          octets = was.octets;
          keeps_few = was.keeps_few;
        };
        ends_few = few;
      } in
      let own = events.Tick (now_of old + 1) in
      let first = told t.ups in
      let from = n + 1 + length first in
      let all = ticks_all old.entities from mid new t.later (subst (λ (x : ℕ). TickSo x mid) (let same : n + (1 + length first) ≡ from = omega arith in same) (tick_later n (1 + length first) mid start)) t.all in
      let long = length-append first t.later in
      let count : from + length t.later ≡ n + length (own ∷ (first ++ t.later)) = omega (arith, long) in
      let most = tells.clock old.carrier h.carrier_so in
      record {
        events = subst (EachFrom tags n) (sym t.made_is) (
          (λ few_events. (refl, (omega (arith, most), tt))),
          each_both tags (n + 1) first t.later (each_of tags (n + 1) first (ups_events t.ups t.below u)) all.events,
        );
        world = subst (λ (m : List Event). TickSo (n + length m) new) (sym t.made_is) (subst (λ (x : ℕ). TickSo x new) count all.world);
      }

  -- where none is due the network is as between two lines
  pub ticked_rests : (n : ℕ) (world : World C) → TickSo n world → ((system : ℕ) (e : Entity) → entity_at world.entities system ≡ Some e → first_due (now_of world) e ≡ None) → WorldSo n world
  ticked_rests n world h idle = record {
    carrier_so = h.carrier_so;
    entities_so = λ system e is. let t = h.entities_so system e is in record { declared = t.declared; rest = record { proper = t.proper; idle = idle system e is }; octets = t.octets; keeps_few = t.keeps_few };
    ends_few = h.ends_few;
  }

  -- ---- what users ask

  connect_told : (n system reference : ℕ) (own : List ℕ) (request : ConnectRequest) → IsDeclared system → reference < 65536 → is_address own ≡ true → is_address request.to ≡ true → AreOctets request.from_selector
      → AreOctets request.to_selector → AreOctets request.octets → n < 4294967296 → (count : ℕ) → count ≤ n → IsToldEvent tags (connect_event (count + 1) system reference own request)
  connect_told n system reference own request declared low from to one two three few count most =
      let own_is = tells.addresses own from in
      let to_is = tells.addresses request.to to in
      let behind : AreTold tags (drop 5 (cells_of (connect_event (count + 1) system reference own request))) =
      (octets_bytes request.from_selector one, ((octets_bytes request.to to_is.0, to_is.1), (octets_bytes request.to_selector two, (octets_bytes request.octets three, tt)))) in
      (refl, (omega (arith, few, most), (declared, (omega (arith, low), ((octets_bytes own own_is.0, own_is.1), behind)))))

  begins_so : (n : ℕ) (old new : World C) (system : ℕ) (e : Entity) (request : ConnectRequest) (found : Option ℕ) (made : List Event) → least_free (now_of old) e ≡ found → WorldSo n old → entity_at old.entities system ≡ Some e
      → ((reference : ℕ) → IsProperCall (call_of e reference request)) → is_address request.to ≡ true → AreOctets request.from_selector → AreOctets request.to_selector → AreOctets request.octets
      → BeginsAt link steps old system e request found made new → StepSo n made new
  begins_so n old new system e request None made free h is proper to one two three b = absurd b
  begins_so n old new system e request (Some reference) made free h is proper to one two three b =
      let was = h.entities_so system e is in
      let place = free_least (now_of old) reference e free in
      let most = place.most in
      let refs = was.octets.few in
      let few = h.ends_few in
      let end : EndAt = record { system = system; reference = reference } in
      let long = length-append old.ends (end ∷ []) in
      let begun : World C = record old { ends = old.ends ++ end ∷ [] } in
      let on = later n 1 old h in
      let start : WorldSo (n + 1) begun = record { carrier_so = h.carrier_so; entities_so = on.entities_so; ends_few = omega (arith, few, long) } in
      let in_octets = connecting_in is_address (now_of old) reference e request was.octets (record { own = omega (arith, most, refs); to = to; from_selector = one; to_selector = two; octets = three }) in
      let acts = acting_so (n + 1) begun system e (connecting (now_of old) e reference request) b.0 new start is (connecting_rests (now_of old) reference e request was.rest free (proper reference)) in_octets
      (connecting_told (n + 1) (now_of old) reference e request (on.entities_so system e is).keeps_few) b.1 in
      own_first n (connect_event (length old.ends + 1) system reference e.own request) made b.0 new
      (λ low. connect_told n system reference e.own request was.declared (omega (arith, most, refs)) was.octets.own to one two three low (length old.ends) few) acts b.2

  connects_by : (n : ℕ) (old new : World C) (system : ℕ) (e : Entity) (request : ConnectRequest) (why : Option ConnectRefusal) (made : List Event) → WorldSo n old → entity_at old.entities system ≡ Some e
      → (why ≡ None → (reference : ℕ) → IsProperCall (call_of e reference request)) → is_address request.to ≡ true → AreOctets request.from_selector → AreOctets request.to_selector → AreOctets request.octets
      → ConnectsBy link steps old system e request why made new → StepSo n made new
  connects_by n old new system e request (Some why) made h is proper to one two three c = refused_so n old new (told_connect why) made h c
  connects_by n old new system e request None made h is proper to one two three c = begins_so n old new system e request (least_free (now_of old) e) made refl h is (proper refl) to one two three c

  short_call : (old : World C) (e : Entity) (octets : List ℕ) (why : Option ConnectRefusal) → connect_refusal (now_of old) e octets ≡ why → why ≡ None → length octets ≤ 32
  short_call old e octets why is none = by (is ∙ none)
    where
      by : connect_refusal (now_of old) e octets ≡ None → length octets ≤ 32
      by =
          if_kept (λ (o : Option ConnectRefusal). o ≡ None → length octets ≤ 32) (is_silent (now_of old) e) _ _
          (λ _ never. absurd cc)
          (λ _. if_kept (λ (o : Option ConnectRefusal). o ≡ None → length octets ≤ 32) (nat_lt 32 (length octets)) _ _ (λ _ never. absurd cc) (λ short _. ltb-false 32 (length octets) short))

  connects_so : (n : ℕ) (titles : List (List ℕ)) (old new : World C) (system to : ℕ) (options : Options) (selector called octets : List ℕ) (made : List Event) → WorldSo n old
      → CanConnect is_address titles old system to options selector called octets → RunsLine link steps wrap titles old (lines.Connect system selector to called options octets) made new → StepSo n made new
  connects_so n titles old new system to options selector called octets made h may r =
      let request : ConnectRequest = r.1 in
      let asks_it = r.4 in
      let c = asks_it.4 in
      let title : r.0 ≡ may.receiver = some_same r.0 may.receiver (sym r.2 ∙ may.receiver_is) in
      let to_called : is_address request.to ≡ true = ap is_address asks_it.1 ∙ (ap (λ (l : List ℕ). is_address (transport_address l)) title ∙ may.address) in
      let was = h.entities_so system c.0 c.1 in
      connects_by n old new system c.0 request (connect_refusal (now_of old) c.0 request.octets) made h c.1
      (λ none reference. record {
        timers = was.rest.proper.timers;
        size = subst IsSized (sym r.3) may.size_known;
        calling = subst (λ (l : List ℕ). length l ≤ 32) (sym asks_it.0) may.selector_short;
        called = subst (λ (l : List ℕ). length l ≤ 32) (sym asks_it.2) may.called_short;
        octets = short_call old c.0 request.octets (connect_refusal (now_of old) c.0 request.octets) refl none;
      })
      to_called (subst AreOctets (sym asks_it.0) may.selector_octets) (subst AreOctets (sym asks_it.2) may.called_octets) (subst AreOctets (sym asks_it.3) may.octets_are) c.2

  -- ---- a call on an end

  call_event_told : (n number : ℕ) (call : UserCall) → number ≤ n → CallInOctets is_address call → EachFrom tags n (call_events number call)
  call_event_told n number (asks.Refuse octets) low c = (λ few. (refl, (omega (arith, low, few), (octets_bytes octets c, tt))), tt)
  call_event_told n number (asks.Normal octets) low c = (λ few. (refl, (omega (arith, low, few), (octets_bytes octets c, tt))), tt)
  call_event_told n number (asks.Urgent octets) low c = (λ few. (refl, (omega (arith, low, few), (octets_bytes octets c, tt))), tt)
  call_event_told n number (asks.Disconnect octets) low c = (λ few. (refl, (omega (arith, low, few), (octets_bytes octets c, tt))), tt)
  call_event_told n number other low c = tt

  call_count : (n number : ℕ) (call : UserCall) → after_call n call ≡ n + length (call_events number call)
  call_count n number (asks.Accept options octets) = omega arith
  call_count n number (asks.Window credit) = omega arith
  call_count n number other = refl

  calls_by : (n : ℕ) (old new : World C) (number : ℕ) (end : EndAt) (e : Entity) (call : UserCall) (why : Option EntityRefusal) (made : List Event) → user_refusal e end.reference call ≡ why → WorldSo n old
      → entity_at old.entities end.system ≡ Some e → number ≤ n → IsCall call → CallInOctets is_address call → CallsBy link steps wrap old number end e call why made new → StepSo n made new
  calls_by n old new number end e call (Some why) made refused_is h is low c octets r = refused_so n old new (told_refusal why) made h r
  calls_by n old new number end e call None made allowed h is low c octets r =
      let was = h.entities_so end.system e is in
      let first = call_events number call in
      let count : after_call n call ≡ n + length first = call_count n number call in
      let on = later n (length first) old h in
      let telling = subst (λ (m : ℕ). ActedTold m (calling wrap (now_of old) e end.reference call)) count
      (calling_told is_address n wrap (now_of old) end.reference e call allowed was.octets was.rest.proper was.keeps_few octets c) in
      let acts = acting_so (n + length first) old end.system e (calling wrap (now_of old) e end.reference call) r.0 new on is
      (calling_rests wrap (now_of old) end.reference e call was.rest allowed c) (calling_in is_address wrap (now_of old) end.reference e call was.octets was.rest.proper octets) telling r.1 in
      both_so n first r.0 made old new (record { events = call_event_told n number call low octets; world = on }) acts r.2

  calls_end : (n : ℕ) (old new : World C) (number : ℕ) (end : EndAt) (e : Entity) (call : UserCall) (over_is : Bool) (made : List Event) → WorldSo n old → entity_at old.entities end.system ≡ Some e → number ≤ n
      → IsCall call → CallInOctets is_address call → CallsEnd link steps wrap old number end e call over_is made new → StepSo n made new
  calls_end n old new number end e call true made h is low c octets r = refused_so n old new (Some refusals.Ended) made h r
  calls_end n old new number end e call false made h is low c octets r = calls_by n old new number end e call (user_refusal e end.reference call) made refl h is low c octets r

  number_low : (ends : List EndAt) (place : ℕ) (end : EndAt) → slice_get ends place ≡ Some end → place < length ends
  number_low [] place end is = absurd cc
  number_low (one ∷ ends) zero end is = omega arith
  number_low (one ∷ ends) (suc place) end is = let rest = number_low ends place end is in omega (arith, rest)

  numbered_low : (ends : List EndAt) (number : ℕ) (end : EndAt) → end_numbered ends number ≡ Some end → number ≤ length ends
  numbered_low ends number end = if_kept (λ (found : Option EndAt). found ≡ Some end → number ≤ length ends) (number == 0) None (slice_get ends (number - 1))
      (λ _ never. absurd (none-some end never))
      (λ _ is. let low = number_low ends (number - 1) end is in omega (arith, low))

  calls_at : (n : ℕ) (old new : World C) (number : ℕ) (call : UserCall) (place : Option EndAt) (made : List Event) → end_numbered old.ends number ≡ place → WorldSo n old → IsCall call → CallInOctets is_address call
      → CallsAt link steps wrap old number call place made new → StepSo n made new
  calls_at n old new number call None made is h c octets r = refused_so n old new (Some refusals.NoSuchEnd) made h r
  calls_at n old new number call (Some end) made is h c octets r =
      let low = numbered_low old.ends number end is in
      let few = h.ends_few in
      calls_end n old new number end r.0 call (has_ended (now_of old) old.ends number end r.0) made h r.1 (omega (arith, low, few)) c octets r.2

  calls_so : (n : ℕ) (old new : World C) (number : ℕ) (call : UserCall) (made : List Event) → WorldSo n old → IsCall call → CallInOctets is_address call → Calls link steps wrap old number call made new
      → StepSo n made new
  calls_so n old new number call made h c octets r = calls_at n old new number call (end_numbered old.ends number) made refl h c octets r

  -- ---- a raw unit, and a new beginning

  sent_told : (system : ℕ) (to octets : List ℕ) (answer : Offered) → IsDeclared system → is_address to ≡ true → AreOctets octets → IsToldEvent tags (sent_event system to octets answer)
  sent_told system to octets WasTaken declared address fits = let to_is = tells.addresses to address in (refl, (declared, ((octets_bytes to to_is.0, to_is.1), (octets_bytes octets fits, tt))))
  sent_told system to octets (Dropped cause) declared address fits = refusal_told tags (refusal cause)

  unit_by : (n : ℕ) (old new : World C) (system : ℕ) (sender receiver : List ℕ) (wish : Wish) (octets : List ℕ) (made : List Event) → WorldSo n old → IsDeclared system
      → MayBeOffered is_address (raw_unit sender receiver octets) → SendsRaw link steps old system sender receiver wish octets made new → StepSo n made new
  unit_by n old new system sender receiver wish [] made h declared may r =
      let same : new ≡ old = r.2 ∙ ap (λ (c : C). record old { carrier = c }) r.1.1 in
      own_first n (events.No refusals.EmptyUnit) made [] new (λ low. refusal_told tags refusals.EmptyUnit) (nothing_so (n + 1) old new [] (later n 1 old h) refl same) r.1.0
  unit_by n old new system sender receiver wish (octet ∷ octets) made h declared may r =
      let s = r.1 in
      let unit = raw_unit sender receiver (octet ∷ octets) in
      let u = passes_so old.carrier (Offer unit wish s.0) s.1 r.0 h.carrier_so may s.2 in
      let clock : (link r.0).clock ≡ now_of old = s.2.gathers.stands.clock ∙ (keeps old.carrier (Offer unit wish s.0) s.2.called s.2.steps_to).clock in
      let mid : World C = record old { carrier = r.0 } in
      let own = sent_event system (raw_address receiver) (octet ∷ octets) s.0 in
      let start = over (n + 1) old r.0 (later n 1 old h) u.stands clock in
      let rest : StepSo (n + 1) (told s.1) new = record {
        events = each_of tags (n + 1) (told s.1) (ups_events s.1 r.0 u);
        world = subst (λ (w : World C). WorldSo (n + 1 + length (told s.1)) w) (sym r.2) (later (n + 1) (length (told s.1)) mid start);
      } in
      own_first n own made (told s.1) new (λ low. sent_told system (raw_address receiver) (octet ∷ octets) s.0 declared may.to may.octets) rest s.3

  restarts_so : (n : ℕ) (old new : World C) (system : ℕ) (made : List Event) → WorldSo n old → Restarts link steps old system made new → StepSo n made new
  restarts_so n old new system made h r =
      let e : Entity = r.0 in
      let was = h.entities_so system e r.1 in
      let next : Entity = restarted (now_of old) e in
      let entities : new.entities ≡ with_entity old.entities system next = ap (λ (w : World C). w.entities) r.3 in
      let clock : now_of new ≡ now_of old = ap (λ (w : World C). now_of w) r.3 in
      let ends = ap (λ (w : World C). length w.ends) r.3 in
      let few = h.ends_few in
      let after : WorldSo (n + 1) new = record {
        carrier_so = subst (λ (w : World C). StandsSo w.carrier) (sym r.3) h.carrier_so;
        entities_so = changed n 1 old new system next entities clock h (record {
          declared = was.declared;
          rest = new_rests (now_of old) (length e.ends) next refl was.rest.proper.timers was.rest.proper.inactive;
          octets = restarting_in is_address (now_of old) e was.octets;
          keeps_few = restarting_few (n + 1) (now_of old) e;
        });
        ends_few = omega (arith, few, ends);
      } in
      own_first n (events.Restart system) made [] new (λ low. (refl, (was.declared, tt))) (nothing_so (n + 1) new new [] after refl refl) r.2

  -- ---- each line

  -- a line names declared systems, and a frame by a number of 64 bits
  abbrev pub NamesSystems : Line → Type 0
  NamesSystems (lines.Unit system to wish octets) = IsDeclared system
  NamesSystems (lines.Deliver number system) = (number < 2 ^ 64) × IsDeclared system
  NamesSystems (lines.Inject lan system octets) = IsDeclared system
  NamesSystems line = Prim.Unit {0}

  -- what a line tells, and what is so after it; that no end is due after a tick is known of each run
  pub line_so : (n : ℕ) (titles : List (List ℕ)) (old new : World C) (line : Line) (made : List Event) → WorldSo n old → CanRun is_address titles link old line → NamesSystems line
      → ((system : ℕ) (e : Entity) → entity_at new.entities system ≡ Some e → first_due (now_of new) e ≡ None) → RunsLine link steps wrap titles old line made new → StepSo n made new
  line_so n titles old new lines.Nothing made h may names idle r = nothing_so n old new made h r.0 r.1
  line_so n titles old new (lines.Connect system selector to called options octets) made h may names idle r = connects_so n titles old new system to options selector called octets made h may r
  line_so n titles old new (lines.Accept end options octets) made h may names idle r = calls_so n old new end (asks.Accept options octets) made h may.0 may.1 r
  line_so n titles old new (lines.Refuse end octets) made h may names idle r = calls_so n old new end (asks.Refuse octets) made h tt may r
  line_so n titles old new (lines.Disconnect end octets) made h may names idle r = calls_so n old new end (asks.Disconnect octets) made h tt may r
  line_so n titles old new (lines.Data end octets) made h may names idle r = calls_so n old new end (asks.Normal octets) made h tt may r
  line_so n titles old new (lines.Expedite end octets) made h may names idle r = calls_so n old new end (asks.Urgent octets) made h tt may r
  line_so n titles old new (lines.Window end credit) made h may names idle r = calls_so n old new end (asks.Window credit) made h may tt r
  line_so n titles old new (lines.Unit system to wish octets) made h may names idle r =
      let from : r.0 ≡ may.0 = some_same r.0 may.0 (sym r.2 ∙ may.2) in
      let receiver : r.1 ≡ may.1 = some_same r.1 may.1 (sym r.3 ∙ may.3) in
      unit_by n old new system r.0 r.1 wish octets made h names
      (subst (λ (l : List ℕ). MayBeOffered is_address (raw_unit l r.1 octets)) (sym from) (subst (λ (l : List ℕ). MayBeOffered is_address (raw_unit may.0 l octets)) (sym receiver) may.4)) r.4
  line_so n titles old new lines.Tick made h may names idle r = let t = ticks_so n old new made h may r in record { events = t.events; world = ticked_rests (n + length made) new t.world idle }
  line_so n titles old new (lines.Deliver number system) made h may names idle r = delivers_so n old new number system r.0 made h names.0 names.1 r.1
  line_so n titles old new lines.Settle made h may names idle r = settles_so n 0 old new made h (omega arith) r
  line_so n titles old new (lines.Inject lan system octets) made h may names idle r = injects_so n old new lan system octets r.0 made h may names r.1
  line_so n titles old new (lines.Restart system) made h may names idle r = restarts_so n old new system made h r
  line_so n titles old new other made h may names idle r = absurd r

  -- ---- the start

  pub start_so : (first : C) (placed : List Placed) (made : List Event) (new : World C) → StandsSo first → ((system : ℕ) (e : Entity) → entity_at placed system ≡ Some e → EntitySo 0 (link first).clock system e)
      → Starts link steps first placed made new → StepSo 0 made new
  start_so first placed made new stands are s =
      let u = gathers_so first s.ups s.below stands s.gathers in
      let begun : World C = record { carrier = s.below; entities = placed; ends = [] } in
      let start : WorldSo 0 begun = record {
        carrier_so = u.stands;
        entities_so = λ system e is. subst (λ (now : ℕ). EntitySo 0 now system e) (sym s.gathers.stands.clock) (are system e is);
        ends_few = omega arith;
      } in
      let rest : StepSo 1 (told s.ups) new = record {
        events = each_of tags 1 (told s.ups) (ups_events s.ups s.below u);
        world = subst (λ (w : World C). WorldSo (1 + length (told s.ups)) w) (sym s.becomes) (subst (λ (k : ℕ). WorldSo k begun) (let count : 0 + (1 + length (told s.ups)) ≡ 1 + length (told s.ups) = omega arith in count) (later 0 (1 + length (told s.ups)) begun start));
      } in
      own_first 0 (events.Tick 0) made (told s.ups) new (λ few. (refl, (omega arith, tt))) rest s.made_is
