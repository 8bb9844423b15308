-- A call of a network passes so, but for a tick and a restart, which make no end. When the clock moves references may come free, and then the ends
-- that are due act. An entity that begins again loses its ends.
use Rattle.std.proofs.Common.{◌≡◌, inl, inr, ℕ, ◌+◌, Bool, true, false, List, [], ◌∷◌, ◌++◌, Option, Some, None, refl, sym, ◌∙◌, ap, subst, arith}
use Rattle.std.proofs.lemmas.Bool.{leb-false, lt-leb, lt-ltb, ltb-true}
use Rattle.osi_base.specs.declared.unit.Arrival.{Arrival}
use Rattle.osi_base.specs.declared.unit.Injected.{Injected}
use Rattle.osi_base.specs.declared.unit.Picked.{Picked}
use Rattle.osi_base.specs.declared.unit.Picked.TheVariants as picks
use Rattle.osi_base.specs.declared.unit.Up.{Up}
use Rattle.osi_base.specs.declared.unit.Up.TheVariants.{Unit as Came, Note as Noted}
use Rattle.osi_base.specs.declared.unit.Wish.{Wish}
use Rattle.osi_base.specs.Link.{Link}
use Rattle.osi_base.specs.Calls.{Call, Keeps, Choose, Inject, Tick}
use Rattle.script_journal.specs.declared.cause.Refused.{Refused}
use Rattle.script_journal.specs.declared.cause.Refused.TheVariants as refusals
use Rattle.script_journal.specs.declared.event.Event.{Event}
use Rattle.net_world.specs.Run.{SendsUnit}
use Rattle.net_world.specs.Told.{picked_event}
use Rattle.tp4_flow.specs.declared.step.EndEvent.{EndEvent}
use Rattle.tp4_conn.specs.declared.call.ConnectRequest.{ConnectRequest}
use Rattle.tp4_conn.specs.declared.call.UserCall.{UserCall}
use Rattle.tp4_conn.specs.declared.states.StateData.{StateData}
use Rattle.tp4_conn.specs.declared.states.StateData.TheVariants as stages
use Rattle.tp4_conn.specs.End.{End, frozen_for}
use Rattle.tp4_entity.specs.declared.refusal.ConnectRefusal.{ConnectRefusal}
use Rattle.tp4_entity.specs.declared.refusal.EntityRefusal.{EntityRefusal}
use Rattle.tp4_entity.specs.Entity.{Acted, Entity, end_at, at}
use Rattle.tp4_entity.specs.References.{is_free_place, least_free, was_frozen}
use Rattle.tp4_entity.specs.Silence.{is_silent, is_within}
use Rattle.tp4_entity.specs.Step.{calling, connect_refusal, connecting, restarted, ticking, ticking_at, user_refusal}
use Rattle.tp4_entity.proofs.Beginning.{audible}
use Rattle.tp4_entity.proofs.Restarts.{none_stands}
use Rattle.tp4_world.specs.Run.{Acts, Arrives, BeginsAt, CallsAt, CallsBy, CallsEnd, ConnectsBy, Delivers, HearsAll, HearsIf, IsRefused, NoneDue, NoneLeft, OneDue, OneMore, Restarts, Settles, Ticks, TicksAll, TicksEntity, TooMany, clock_of, is_for}
use Rattle.tp4_world.specs.Ended.{has_ended}
use Rattle.tp4_world.specs.Telling.{ends_after, inject_event}
use Rattle.tp4_world.specs.World.{World, entity_at, with_entity}
use Rattle.tp4_world.specs.declared.place.EndAt.{EndAt}
use Rattle.tp4_world.specs.declared.place.Placed.{Placed}
use Rattle.tp4_world.proofs.Having.{with_any}
use Rattle.law_tp4_lawful.proofs.ReferencesSince.{passed, raw_sent, sent_all}
use Rattle.law_tp4_lawful.proofs.Silence.{Seen}
use Rattle.law_tp4_lawful.proofs.WorldPlaces.{none_some}
use Rattle.law_tp4_associations.proofs.Entities.{Did, IsFit, did_call, did_connect, did_take, did_tick, itself}
use Rattle.law_tp4_associations.proofs.HeldPlaces.{HasLike, Passes, Rests, is_vacant, is_vacant_at, passes_then, rests_pass, rests_same, rests_then, vacant_new, vacant_others}

-- ---- one tick more

frozen_longer : (now ticks : ℕ) (stage : StateData) → was_frozen now ticks stage ≡ true → was_frozen (now + 1) ticks stage ≡ true
frozen_longer now ticks (stages.Frozen when) is = let past = ltb-true (when + ticks) now is in lt-ltb (when + ticks) (now + 1) (omega (arith, past))
frozen_longer now ticks other is = absurd (cc is)

free_longer : (now : ℕ) (place : Option End) → is_free_place now place ≡ true → is_free_place (now + 1) place ≡ true
free_longer now None is = refl
free_longer now (Some end) is = frozen_longer now (frozen_for end.base.timers) end.stage is

vacant_longer : (now : ℕ) (e : Option Entity) (reference : ℕ) → is_vacant_at now e reference ≡ true → is_vacant_at (now + 1) e reference ≡ true
vacant_longer now None reference is = refl
vacant_longer now (Some e) reference is = free_longer now (end_at e reference) is

pub within_longer : (now ticks : ℕ) (began : Option ℕ) → is_within now ticks began ≡ false → is_within (now + 1) ticks began ≡ false
within_longer now ticks None is = refl
within_longer now ticks (Some when) is = let past = leb-false now (when + ticks) is in lt-leb (now + 1) (when + ticks) (omega (arith, past))

fit_longer : (now : ℕ) (e : Entity) → IsFit now e → IsFit (now + 1) e
fit_longer now e f = record { of = f.of; audible = λ r end is. within_longer now (frozen_for e.timers) e.restarted (f.audible r end is) }

-- the entities are so
abbrev pub AreFit : ℕ → List Placed → Type 0
AreFit now placed = (system : ℕ) (e : Entity) → entity_at placed system ≡ Some e → IsFit now e

with_fit : (now : ℕ) (placed : List Placed) (system : ℕ) (e : Entity) → AreFit now placed → IsFit now e → AreFit now (with_entity placed system e)
with_fit now placed system e fit one other x is = elim (with_any placed system other e x is) [
  | inl here ↦ subst (IsFit now) (sym here.1) one
  | inr before ↦ fit other x before
]

seen_same : (one other : Seen) → one.clock ≡ other.clock → one.entities ≡ other.entities → one.ends ≡ other.ends → one ≡ other
seen_same one other clock entities ends = λ i. record { clock = clock i; entities = entities i; ends = ends i }

module _ {C : Type 0} (link : C → Link (List ℕ)) where
  abbrev pub seen_of : World C → Seen
  seen_of world = record { clock = (link world.carrier).clock; entities = world.entities; ends = world.ends }

  abbrev pub IsFitWorld : World C → Type 0
  IsFitWorld world = AreFit (link world.carrier).clock world.entities

  -- a network is so then
  pub record Ran (Goes : Seen → Seen → Type 0) (old new : World C) : Type 0 where
    pub goes : Goes (seen_of old) (seen_of new)
    pub fit : IsFitWorld new

-- an entity began again: it holds none of its references, and the others what they held
pub record BeginsAgain (system : ℕ) (old new : Seen) : Type 0 where
  pub ends : new.ends ≡ old.ends
  pub none : (reference : ℕ) → is_vacant new system reference ≡ true
  pub others : (other reference : ℕ) → (other ≡ system → ⊥) → is_vacant new other reference ≡ is_vacant old other reference

-- one tick later no end was made, and a reference that was free is free
pub record Later (old new : Seen) : Type 0 where
  pub clock : new.clock ≡ old.clock + 1
  pub ends : new.ends ≡ old.ends
  pub vacant : (system reference : ℕ) → is_vacant old system reference ≡ true → is_vacant new system reference ≡ true
  pub kept : (system : ℕ) (e : Entity) → entity_at old.entities system ≡ Some e → HasLike new system e

module _ {C : Type 0} (link : C → Link (List ℕ)) (steps : C → Call (List ℕ) → C → Type 0)
    (law : (old : C) (call : Call (List ℕ)) (new : C) → steps old call new → Keeps (link old) call (link new)) where
  passes_on : (old mid new : World C) → Ran link Passes old mid → Ran link Passes mid new → Ran link Passes old new
  passes_on old mid new one two = record { goes = passes_then (seen_of link old) (seen_of link mid) (seen_of link new) one.goes two.goes; fit = two.fit }

  rests_on : (old mid new : World C) → Ran link Rests old mid → Ran link Rests mid new → Ran link Rests old new
  rests_on old mid new one two = record { goes = rests_then (seen_of link old) (seen_of link mid) (seen_of link new) one.goes two.goes; fit = two.fit }

  pub ran_rest : (old new : World C) → Ran link Rests old new → Ran link Passes old new
  ran_rest old new ran = record { goes = rests_pass (seen_of link old) (seen_of link new) ran.goes; fit = ran.fit }

  -- nothing but the carrier, at the same tick
  still : (old new : World C) → IsFitWorld link old → new ≡ record old { carrier = new.carrier } → (link new.carrier).clock ≡ (link old.carrier).clock → Ran link Rests old new
  still old new fit same clock =
      let entities : new.entities ≡ old.entities = ap (λ (w : World C). w.entities) same in
      record {
        goes = rests_same (seen_of link old) (seen_of link new) (seen_same (seen_of link new) (seen_of link old) clock entities (ap (λ (w : World C). w.ends) same));
        fit = subst (λ (now : ℕ). AreFit now new.entities) (sym clock) (subst (AreFit (link old.carrier).clock) (sym entities) fit);
      }

  pub stays : (old new : World C) → IsFitWorld link old → new ≡ old → Ran link Rests old new
  stays old new fit same = still old new fit (same ∙ ap (λ (w : World C). record old { carrier = w.carrier }) (sym same)) (ap (λ (w : World C). (link w.carrier).clock) same)

  -- ---- what an entity did

  -- its TPDUs go out at the same tick
  acts_ran : (Goes : Seen → Seen → Type 0) (old base new : World C) (system : ℕ) (own : List ℕ) (acted : Acted) (made : List Event) → (link base.carrier).clock ≡ (link old.carrier).clock
      → AreFit (link old.carrier).clock (with_entity base.entities system acted.entity) → Acts link steps base system own acted made new
      → Goes (seen_of link old) (record { clock = (link old.carrier).clock; entities = with_entity base.entities system acted.entity; ends = ends_after base.ends system acted.events }) → Ran link Goes old new
  acts_ran Goes old base new system own acted made same fit a goes =
      let mid : Seen = record { clock = (link old.carrier).clock; entities = with_entity base.entities system acted.entity; ends = ends_after base.ends system acted.events } in
      let clock = (sent_all link steps law acted.tpdus base.carrier a.below system own a.sent a.sends).clock in
      let below : (link a.below).clock ≡ (link old.carrier).clock = omega (arith, clock, same) in
      let last : World C = record { carrier = a.below; entities = with_entity base.entities system acted.entity; ends = ends_after base.ends system acted.events } in
      subst (Ran link Goes old) (sym a.becomes) (record {
        goes = subst (Goes (seen_of link old)) (sym (seen_same (seen_of link last) mid below refl refl)) goes;
        fit = subst (λ (now : ℕ). AreFit now (with_entity base.entities system acted.entity)) (sym below) fit;
      })

  did_ran : (Goes : Seen → Seen → Type 0) (old new : World C) (system : ℕ) (own : List ℕ) (e : Entity) (acted : Acted) (made : List Event) → IsFitWorld link old → entity_at old.entities system ≡ Some e
      → Did system (link old.carrier).clock Goes e acted.entity acted.events → Acts link steps old system own acted made new → Ran link Goes old new
  did_ran Goes old new system own e acted made fit there did a =
      acts_ran Goes old old new system own acted made refl (with_fit (link old.carrier).clock old.entities system acted.entity fit did.fit) a (did.goes old.entities old.ends e there (itself e))

  -- ---- what users ask

  refused : (old new : World C) (made : List Event) (why : Option Refused) → IsFitWorld link old → IsRefused link steps old why made new → Ran link Rests old new
  refused old new made None fit s = absurd s
  refused old new made (Some why) fit s = stays old new fit s.1

  begun : (old new : World C) (made : List Event) (system : ℕ) (entity : Entity) (request : ConnectRequest) (found : Option ℕ) → IsFitWorld link old → entity_at old.entities system ≡ Some entity
      → is_silent (clock_of link steps old) entity ≡ false → least_free (clock_of link steps old) entity ≡ found → BeginsAt link steps old system entity request found made new → Ran link Passes old new
  begun old new made system entity request None fit there quiet least s = absurd s
  begun old new made system entity request (Some reference) fit there quiet least s =
      let now : ℕ = (link old.carrier).clock in
      let base : World C = record old { ends = old.ends ++ record { system = system; reference = reference } ∷ [] } in
      let acted : Acted = connecting now entity reference request in
      let made_one = did_connect system now entity reference request (fit system entity there) quiet least in
      acts_ran Passes old base new system entity.own acted s.0 refl (with_fit now old.entities system acted.entity fit made_one.fit) s.1 (made_one.passes old.entities old.ends entity there (itself entity))

  pub connect_by : (old new : World C) (made : List Event) (system : ℕ) (entity : Entity) (request : ConnectRequest) (why : Option ConnectRefusal) → IsFitWorld link old → entity_at old.entities system ≡ Some entity
      → connect_refusal (clock_of link steps old) entity request.octets ≡ why → ConnectsBy link steps old system entity request why made new → Ran link Passes old new
  connect_by old new made system entity request (Some why) fit there is s = ran_rest old new (refused old new made _ fit s)
  connect_by old new made system entity request None fit there is s =
      begun old new made system entity request (least_free (clock_of link steps old) entity) fit there (audible (clock_of link steps old) entity request.octets is) refl s

  pub raw_ran : (old new : World C) (below : C) (made : List Event) (system : ℕ) (sender receiver octets : List ℕ) (wish : Wish) → IsFitWorld link old
      → SendsUnit link steps old.carrier system sender receiver wish octets made below → new ≡ record old { carrier = below } → Ran link Rests old new
  raw_ran old new below made system sender receiver octets wish fit s same =
      let clock = (raw_sent link steps law old.carrier below system sender receiver octets wish made s).clock in
      subst (Ran link Rests old) (sym same) (still old (record old { carrier = below }) fit refl (omega (arith, clock)))

  -- ---- a system begins again

  pub began_again : (old new : World C) (made : List Event) (system : ℕ) → IsFitWorld link old → Restarts link steps old system made new → Ran link (BeginsAgain system) old new
  began_again old new made system fit s =
      let now : ℕ = (link old.carrier).clock in
      let next : Entity = restarted now s.0 in
      let last : World C = record old { entities = with_entity old.entities system next } in
      subst (Ran link (BeginsAgain system) old) (sym s.3) (record {
        goes = record {
          ends = refl;
          none = λ reference. vacant_new now old.entities system s.0 next s.1 reference ∙ ap (is_free_place now) (none_stands now reference s.0);
          others = λ other reference apart. vacant_others now old.entities system s.0 next s.1 other reference apart;
        };
        fit = with_fit now old.entities system next fit (record {
          of = λ r end is. absurd (none_some end (sym (none_stands now r s.0) ∙ is));
          audible = λ r end is. absurd (none_some end (sym (none_stands now r s.0) ∙ is));
        });
      })

  module _ (wrap : ℕ → ℕ → ℕ) where
    call_by : (old new : World C) (made : List Event) (number : ℕ) (end : EndAt) (entity : Entity) (call : UserCall) (why : Option EntityRefusal) → IsFitWorld link old
        → entity_at old.entities end.system ≡ Some entity → CallsBy link steps wrap old number end entity call why made new → Ran link Passes old new
    call_by old new made number end entity call (Some why) fit there s = ran_rest old new (refused old new made _ fit s)
    call_by old new made number end entity call None fit there s =
        let now : ℕ = (link old.carrier).clock in
        did_ran Passes old new end.system entity.own entity (calling wrap now entity end.reference call) s.0 fit there
        (did_call end.system now wrap entity end.reference call (fit end.system entity there)) s.1

    call_end : (old new : World C) (made : List Event) (number : ℕ) (end : EndAt) (entity : Entity) (call : UserCall) (ended : Bool) → IsFitWorld link old → entity_at old.entities end.system ≡ Some entity
        → CallsEnd link steps wrap old number end entity call ended made new → Ran link Passes old new
    call_end old new made number end entity call true fit there s = ran_rest old new (refused old new made (Some refusals.Ended) fit s)
    call_end old new made number end entity call false fit there s = call_by old new made number end entity call (user_refusal entity end.reference call) fit there s

    pub call_at : (old new : World C) (made : List Event) (number : ℕ) (call : UserCall) (end : Option EndAt) → IsFitWorld link old → CallsAt link steps wrap old number call end made new → Ran link Passes old new
    call_at old new made number call None fit s = ran_rest old new (refused old new made (Some refusals.NoSuchEnd) fit s)
    call_at old new made number call (Some end) fit s = call_end old new made number end s.0 call (has_ended (clock_of link steps old) old.ends number end s.0) fit s.1 s.2

    -- ---- what comes up

    heard_if : (old new : World C) (made : List Event) (arrival : Arrival (List ℕ)) (entity : Option Entity) (fits : Bool) → IsFitWorld link old → entity_at old.entities arrival.system ≡ entity
        → HearsIf link steps wrap old arrival entity fits made new → Ran link Passes old new
    heard_if old new made arrival None fits fit there s = ran_rest old new (stays old new fit s.1)
    heard_if old new made arrival (Some entity) false fit there s = ran_rest old new (stays old new fit s.1)
    heard_if old new made arrival (Some entity) true fit there s =
        did_ran Passes old new arrival.system entity.own entity s.0 made fit there
        (did_take arrival.system (link old.carrier).clock wrap arrival.unit.from entity arrival.unit.octets s.0 (fit arrival.system entity there) s.1) s.2

    heard_all : (ups : List (Up (List ℕ))) (old new : World C) (made : List Event) → IsFitWorld link old → HearsAll link steps wrap old ups made new → Ran link Passes old new
    heard_all [] old new made fit s = ran_rest old new (stays old new fit s.1)
    heard_all (Noted note ∷ ups) old new made fit s = heard_all ups old new made fit s
    heard_all (Came arrival ∷ ups) old new made fit s =
        let first : Ran link Passes old s.0 =
        heard_if old s.0 s.1 arrival (entity_at old.entities arrival.system) (is_for link steps wrap arrival.unit.to (entity_at old.entities arrival.system)) fit refl s.3 in
        passes_on old s.0 new first (heard_all ups s.0 new s.2 first.fit s.4)

    -- after a call of the carrier that moves no clock
    arrived : (old new : World C) (made : List Event) (call : Call (List ℕ)) (own : Event) → IsFitWorld link old → (a : Arrives link steps wrap old call own made new)
        → (link a.below).clock ≡ (link old.carrier).clock → Ran link Passes old new
    arrived old new made call own fit a clock =
        let mid : World C = record old { carrier = a.below } in
        let first : Ran link Passes old mid = ran_rest old mid (still old mid fit refl clock) in
        passes_on old mid new first (heard_all a.ups mid new a.later first.fit a.hears)

    pub delivered : (old new : World C) (made : List Event) (number system : ℕ) (answer : Picked) → IsFitWorld link old → Delivers link steps wrap old number system answer made new → Ran link Passes old new
    delivered old new made number system answer fit a =
        let clock = (passed link steps law old.carrier a.below (Choose number system answer) a.ups a.passes).clock in
        arrived old new made (Choose number system answer) (picked_event number system answer) fit a (omega (arith, clock))

    pub injected : (old new : World C) (made : List Event) (lan system : ℕ) (octets : List ℕ) (answer : Injected) → IsFitWorld link old
        → Arrives link steps wrap old (Inject lan system octets answer) (inject_event system answer) made new → Ran link Passes old new
    injected old new made lan system octets answer fit a =
        let clock = (passed link steps law old.carrier a.below (Inject lan system octets answer) a.ups a.passes).clock in
        arrived old new made (Inject lan system octets answer) (inject_event system answer) fit a (omega (arith, clock))

    pub settled : (count : ℕ) (old : World C) (made : List Event) (new : World C) → IsFitWorld link old → Settles link steps wrap count old made new → Ran link Passes old new
    settled count old made new fit (NoneLeft n o m l fresh made_is same) = ran_rest old new (stays old new fit same)
    settled count old made new fit (TooMany n o m l pair fresh most made_is same) = ran_rest old new (stays old new fit same)
    settled count old made new fit (OneMore n o m l pair mid here rest fresh low delivers settles made_is) =
        let first : Ran link Passes old mid = delivered old mid here pair.0 pair.1 picks.Taken fit delivers in
        passes_on old mid new first (settled (count + 1) mid rest new first.fit settles)

    -- ---- ticks

    entity_ticked : (system : ℕ) (old : World C) (made : List Event) (new : World C) → IsFitWorld link old → TicksEntity link steps wrap system old made new → Ran link Rests old new
    entity_ticked system old made new fit (NoneDue o m n entity there none made_is becomes) =
        let now : ℕ = (link old.carrier).clock in
        let acted : Acted = ticking wrap now entity in
        let did = did_tick system now wrap entity (fit system entity there) in
        let quiet : acted.events ≡ [] = ap (λ (due : Option ℕ). (ticking_at wrap now (at now entity) due).events) none in
        subst (Ran link Rests old) (sym becomes) (record {
          goes = subst (λ (told : List EndEvent). Rests (seen_of link old) (record { clock = now; entities = with_entity old.entities system acted.entity; ends = ends_after old.ends system told })) quiet
              (did.goes old.entities old.ends entity there (itself entity));
          fit = with_fit now old.entities system acted.entity fit did.fit;
        })
    entity_ticked system old made new fit (OneDue o m n entity reference mid here rest there due acts others made_is) =
        let now : ℕ = (link old.carrier).clock in
        let first : Ran link Rests old mid =
        did_ran Rests old mid system entity.own entity (ticking wrap now entity) here fit there (did_tick system now wrap entity (fit system entity there)) acts in
        rests_on old mid new first (entity_ticked system mid rest new first.fit others)

    all_ticked : (placed : List Placed) (old new : World C) (made : List Event) → IsFitWorld link old → TicksAll link steps wrap old placed made new → Ran link Rests old new
    all_ticked [] old new made fit s = stays old new fit s.1
    all_ticked (one ∷ placed) old new made fit s =
        let first : Ran link Rests old s.0 = entity_ticked one.system old s.1 s.0 fit s.3 in
        rests_on old s.0 new first (all_ticked placed s.0 new s.2 first.fit s.4)

    pub ticked : (old new : World C) (made : List Event) → IsFitWorld link old → Ticks link steps wrap old made new → Ran link Later old new
    ticked old new made fit s =
        let clock = (passed link steps law old.carrier s.below Tick s.ups s.passes).clock in
        let next : (link s.below).clock ≡ (link old.carrier).clock + 1 = clock in
        let mid : World C = record old { carrier = s.below } in
        let fits : IsFitWorld link mid =
        subst (λ (now : ℕ). AreFit now old.entities) (sym next) (λ system e is. fit_longer (link old.carrier).clock e (fit system e is)) in
        let ran = all_ticked old.entities mid new s.later fits s.all in
        record {
          goes = record {
            clock = ran.goes.clock ∙ next;
            ends = ran.goes.ends;
            vacant = λ system reference free.
                ran.goes.vacant system reference ∙ ap (λ (now : ℕ). is_vacant_at now (entity_at old.entities system) reference) next
                ∙ vacant_longer (link old.carrier).clock (entity_at old.entities system) reference free;
            kept = ran.goes.kept;
          };
          fit = ran.fit;
        }
