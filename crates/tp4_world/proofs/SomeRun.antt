-- A line that a network may be asked has its events: what its entities send can be written and is offered, what comes up is heard, due ends tick until
-- none is due, and fresh pairs are delivered until none is left or the count is full.
use Rattle.std.proofs.Common.{◌≡◌, inl, inr, ℕ, Bool, true, List, [], ◌∷◌, ◌++◌, Option, Some, refl, sym, ◌∙◌, ap, subst}
use Rattle.std.specs.Prelude.{is_some}
use Rattle.std.specs.List.{AllByRecursion}
use Rattle.osi_base.specs.declared.unit.Unit.{Unit as CarriedUnit}
use Rattle.osi_base.specs.declared.unit.Up.{Up}
use Rattle.osi_base.specs.declared.unit.Wish.{Wish}
use Rattle.osi_base.specs.declared.unit.Offered.{Offered}
use Rattle.osi_base.specs.Link.{Link}
use Rattle.osi_base.specs.Calls.{Call, Keeps, Offer}
use Rattle.osi_base.proofs.Members.{all_both}
use Rattle.law_carrier_answers.specs.Answers.{CanBeAsked, MayBeOffered, Offering, asked_of}
use Rattle.law_carrier_answers.proofs.Answered.{answered_by}
use Rattle.law_carrier_answers.proofs.Gatherings.{some_gathering}
use Rattle.script_journal.specs.declared.event.Event.{Event}
use Rattle.script_lines.specs.declared.line.Line.{Line}
use Rattle.net_world.specs.Run.{Passes}
use Rattle.net_world.specs.Told.{told}
use Rattle.tp4_flow.specs.declared.step.EndEvent.{EndEvent}
use Rattle.tp4_flow.specs.declared.step.Sent.{Sent}
use Rattle.tp4_flow.specs.declared.step.What.{What}
use Rattle.tp4_flow.specs.declared.step.What.TheVariants as whats
use Rattle.tp4_conn.specs.Proper.{AreSendable, IsSendable}
use Rattle.tp4_entity.specs.Entity.{Acted, Entity}
use Rattle.law_tp4_proper.specs.Octets.{AreAddressed, IsAddressed, StepInOctets}
use Rattle.law_tp4_proper.specs.Rest.{IsProperStep}
use Rattle.law_tp4_proper.proofs.Writings.{some_writing}
use Rattle.tp4_world.specs.Run.{Acts, SendsTpdu, SendsTpdus, transport_wish}
use Rattle.tp4_world.specs.Telling.{drop_events, ends_after, ends_with, events_after}
use Rattle.tp4_world.specs.Total.{ComesInOctets, HasEntity, HasRun, IsReady, IsReadyEntity, Serves}
use Rattle.tp4_world.specs.World.{World, entity_at, with_entity}
use Rattle.tp4_world.specs.declared.place.EndAt.{EndAt}
use Rattle.tp4_world.specs.declared.place.Placed.{Placed}
use Rattle.tp4_world.proofs.Having.{with_any, with_some}

-- ---- what entities do

-- the ends of a system with an entity
ends_more : (placed : List Placed) (ends : List EndAt) (system : ℕ) (telling : EndEvent) (what : What) → AllByRecursion (HasEntity placed) ends → is_some (entity_at placed system) ≡ true
    → AllByRecursion (HasEntity placed) (ends_with ends system telling what)
ends_more placed ends system telling (whats.Incoming from partner calling called options octets) h some = all_both (HasEntity placed) ends (record { system = system; reference = telling.reference } ∷ []) h (some, tt)
ends_more placed ends system telling what h some = h

pub ends_all : (placed : List Placed) (ends : List EndAt) (system : ℕ) (all : List EndEvent) → AllByRecursion (HasEntity placed) ends → is_some (entity_at placed system) ≡ true
    → AllByRecursion (HasEntity placed) (ends_after ends system all)
ends_all placed ends system [] h some = h
ends_all placed ends system (telling ∷ all) h some = ends_all placed (ends_with ends system telling telling.what) system all (ends_more placed ends system telling telling.what h some) some

pub ends_stay : (placed : List Placed) (system : ℕ) (e : Entity) (ends : List EndAt) → AllByRecursion (HasEntity placed) ends → AllByRecursion (HasEntity (with_entity placed system e)) ends
ends_stay placed system e [] h = tt
ends_stay placed system e (end ∷ ends) h = (with_some placed system end.system e h.0, ends_stay placed system e ends h.1)

-- a carrier that serves
pub record Carrier (C : Type 0) : Type 1 where
  pub link : C → Link (List ℕ)
  pub steps : C → Call (List ℕ) → C → Type 0
  pub keeps : (old : C) (call : Call (List ℕ)) (new : C) → steps old call new → Keeps (link old) call (link new)
  pub is_address : List ℕ → Bool
  pub Stands : C → Type 0
  pub serves : Serves is_address link steps Stands

abbrev pub now_of : {C : Type 0} → Carrier C → World C → ℕ
now_of base world = (base.link world.carrier).clock

-- a network over it at rest
abbrev pub Ready : {C : Type 0} → Carrier C → World C → Type 0
Ready base world = IsReady base.is_address base.link base.Stands world

-- what has events, and leads to such a network
pub record Made {C : Type 0} (base : Carrier C) (R : List Event → World C → Type 0) : Type 0 where
  pub made : List Event
  pub new : World C
  pub runs : R made new
  pub ready : Ready base new

abbrev pub Runs : {C : Type 0} → Carrier C → (ℕ → ℕ → ℕ) → List (List ℕ) → World C → Line → Type 0
Runs base wrap titles old line = HasRun base.is_address base.link base.steps base.Stands wrap titles old line

module _ {C : Type 0} (base : Carrier C) where
  open base use {link, steps, keeps, is_address, Stands, serves}

  -- ---- a call, and what comes up

  pub record Passed (old : C) (call : Call (List ℕ)) (called : C) : Type 0 where
    pub ups : List (Up (List ℕ))
    pub new : C
    pub passes : Passes link steps old call ups new
    pub stands : Stands new
    pub octets : AllByRecursion (ComesInOctets is_address) ups
    pub clock : (link new).clock ≡ (link called).clock

  pub passed : (old : C) (call : Call (List ℕ)) (called : C) → Stands old → CanBeAsked is_address (link old) (asked_of call) → steps old call called → Passed old call called
  passed old call called stands may s =
      let there = serves.answers.stays old call called stands may s in
      let up = some_gathering link steps keeps is_address Stands serves.answers called there in record {
        ups = up.0;
        new = up.1;
        passes = record { called = called; steps_to = s; gathers = up.2 };
        stands = up.3;
        octets = subst (λ (l : List (Up (List ℕ))). AllByRecursion (ComesInOctets is_address) l) up.2.waited (serves.in_octets called there);
        clock = up.2.stands.clock;
      }

  pub record Taken (old : C) (unit : CarriedUnit (List ℕ)) (wish : Wish) : Type 0 where
    pub answer : Offered
    pub ups : List (Up (List ℕ))
    pub new : C
    pub passes : Passes link steps old (Offer unit wish answer) ups new
    pub stands : Stands new
    pub clock : (link new).clock ≡ (link old).clock

  pub taken : (old : C) (unit : CarriedUnit (List ℕ)) (wish : Wish) → Stands old → MayBeOffered is_address unit → Taken old unit wish
  taken old unit wish stands may =
      let a = serves.answers.answered old (Offering unit wish) stands may in
      let done = answered_by steps old (Offering unit wish) a in
      let p = passed old (Offer unit wish done.0) a.new stands may done.1 in
      record { answer = done.0; ups = p.ups; new = p.new; passes = p.passes; stands = p.stands; clock = p.clock ∙ (keeps old (Offer unit wish done.0) a.new done.1).clock }

  -- ---- TPDUs

  record SentAll (old : C) (system : ℕ) (own : List ℕ) (tpdus : List Sent) : Type 0 where
    made : List Event
    new : C
    sends : SendsTpdus link steps old system own tpdus made new
    stands : Stands new
    clock : (link new).clock ≡ (link old).clock

  record SentOne (old : C) (system : ℕ) (own : List ℕ) (sent : Sent) : Type 0 where
    made : List Event
    new : C
    sends : SendsTpdu link steps old system own sent made new
    stands : Stands new
    clock : (link new).clock ≡ (link old).clock

  sent_one : (old : C) (system : ℕ) (own : List ℕ) (sent : Sent) → Stands old → is_address own ≡ true → IsSendable sent → IsAddressed is_address sent → SentOne old system own sent
  sent_one old system own sent stands address fits to =
      let w = some_writing sent.format sent.sum sent.tpdu fits.1 to.1 in
      let t = taken old (record { from = own; to = sent.to; octets = w.octets }) transport_wish stands (record { from = address; to = to.0; octets = w.are }) in
      record {
        made = drop_events system t.answer ++ told t.ups;
        new = t.new;
        sends = record { octets = w.octets; answer = t.answer; ups = t.ups; written = w.written; passes = t.passes; made_is = refl };
        stands = t.stands;
        clock = t.clock;
      }

  sent_all : (old : C) (system : ℕ) (own : List ℕ) (tpdus : List Sent) → Stands old → is_address own ≡ true → AreSendable tpdus → AreAddressed is_address tpdus → SentAll old system own tpdus
  sent_all old system own [] stands address fits to = record { made = []; new = old; sends = (refl, refl); stands = stands; clock = refl }
  sent_all old system own (sent ∷ tpdus) stands address fits to =
      let first = sent_one old system own sent stands address fits.0 to.0 in
      let rest = sent_all first.new system own tpdus first.stands address fits.1 to.1 in
      record {
        made = first.made ++ rest.made;
        new = rest.new;
        sends = (first.new, first.made, rest.made, first.sends, rest.sends, refl);
        stands = rest.stands;
        clock = rest.clock ∙ first.clock;
      }

  -- ---- a step of an entity

  pub record ActsSo (old : World C) (system : ℕ) (own : List ℕ) (acted : Acted) : Type 0 where
    pub made : List Event
    pub new : World C
    pub acts : Acts link steps old system own acted made new
    pub entities : new.entities ≡ with_entity old.entities system acted.entity
    pub stands : Stands new.carrier
    pub clock : (link new.carrier).clock ≡ (link old.carrier).clock
    pub ends : AllByRecursion (HasEntity new.entities) new.ends

  pub acts_so : (old : World C) (system : ℕ) (own : List ℕ) (acted : Acted) → Stands old.carrier → AllByRecursion (HasEntity old.entities) old.ends → is_some (entity_at old.entities system) ≡ true
      → is_address own ≡ true → AreSendable acted.tpdus → AreAddressed is_address acted.tpdus → ActsSo old system own acted
  acts_so old system own acted stands ends some address fits to =
      let s = sent_all old.carrier system own acted.tpdus stands address fits to in
      record {
        made = events_after old.ends system own acted.events ++ s.made;
        new = record { carrier = s.new; entities = with_entity old.entities system acted.entity; ends = ends_after old.ends system acted.events };
        acts = record { below = s.new; sent = s.made; sends = s.sends; made_is = refl; becomes = refl };
        entities = refl;
        stands = s.stands;
        clock = s.clock;
        ends = ends_all (with_entity old.entities system acted.entity) old.ends system acted.events (ends_stay old.entities system acted.entity old.ends ends)
            (with_some old.entities system system acted.entity some);
      }

  -- an entity at rest does something, and is at rest afterwards
  pub acting : (old : World C) (system : ℕ) (e : Entity) (acted : Acted) → Ready base old → entity_at old.entities system ≡ Some e
      → IsProperStep (now_of base old) acted → StepInOctets is_address acted → Made base (Acts link steps old system e.own acted)
  acting old system e acted r is step octets =
      let address : is_address e.own ≡ true = (r.entities system e is).octets.own in
      let a = acts_so old system e.own acted r.carrier r.ends (ap (λ (o : Option Entity). is_some o) is) address step.tpdus octets.tpdus in
      record {
        made = a.made;
        new = a.new;
        runs = a.acts;
        ready = record {
          carrier = a.stands;
          entities = λ other x there. elim (with_any old.entities system other acted.entity x (subst (λ (l : List Placed). entity_at l other ≡ Some x) a.entities there)) [
            | inl new ↦ subst (λ (y : Entity). IsReadyEntity is_address (now_of base a.new) y) (sym new.1)
                (subst (λ (now : ℕ). IsReadyEntity is_address now acted.entity) (sym a.clock) (record { rest = step.rest; octets = octets.entity }))
            | inr stays ↦ subst (λ (now : ℕ). IsReadyEntity is_address now x) (sym a.clock) (r.entities other x stays)
          ];
          ends = a.ends;
        };
      }
