-- Each end that was made is of a system that has an entity: a new one is of the system that acts, and no line takes an entity away.
use Rattle.std.proofs.Common.{◌≡◌, ◌≤◌, ℕ, ◌+◌, Bool, true, false, List, [], ◌∷◌, ◌++◌, Option, Some, None, refl, sym, ◌∙◌, ap, subst}
use Rattle.std.specs.Prelude.{is_some}
use Rattle.osi_base.specs.Link.{Link}
use Rattle.osi_base.specs.Calls.{Call}
use Rattle.osi_base.specs.declared.unit.Arrival.{Arrival}
use Rattle.osi_base.specs.declared.unit.Up.{Up}
use Rattle.osi_base.specs.declared.unit.Up.TheVariants.{Unit as Came, Note as Noted}
use Rattle.osi_base.proofs.Members.{all_both}
use Rattle.script_journal.specs.declared.cause.Refused.{Refused}
use Rattle.script_journal.specs.declared.cause.Refused.TheVariants as refusals
use Rattle.script_journal.specs.declared.event.Event.{Event}
use Rattle.tp4_conn.specs.declared.call.ConnectRequest.{ConnectRequest}
use Rattle.tp4_conn.specs.declared.call.UserCall.{UserCall}
use Rattle.tp4_entity.specs.declared.refusal.ConnectRefusal.{ConnectRefusal}
use Rattle.tp4_entity.specs.declared.refusal.EntityRefusal.{EntityRefusal}
use Rattle.tp4_entity.specs.Entity.{Acted, Entity}
use Rattle.tp4_entity.specs.References.{least_free}
use Rattle.tp4_entity.specs.Step.{connect_refusal, connecting, user_refusal}
use Rattle.tp4_world.specs.Run.{Acts, Arrives, BeginsAt, Calls, CallsAt, CallsBy, CallsEnd, Connects, ConnectsBy, HearsAll, HearsIf, IsRefused, NoneDue, NoneLeft, OneDue, OneMore, Settles, TicksAll, TicksEntity, TooMany, clock_of, is_for}
use Rattle.tp4_world.specs.Ended.{has_ended}
use Rattle.tp4_world.specs.Telling.{told_connect, told_refusal}
use Rattle.tp4_world.specs.Total.{HasEntity}
use Rattle.tp4_world.specs.World.{World, end_numbered, entity_at, with_entity}
use Rattle.tp4_world.specs.declared.place.EndAt.{EndAt}
use Rattle.tp4_world.specs.declared.place.Placed.{Placed}
use Rattle.tp4_world.specs.steps.Parts.{AreBehind, AreHoused, AreLaterAll, IsSound, world_of}
use Rattle.tp4_world.proofs.Having.{with_some}
use Rattle.tp4_world.proofs.SomeRun.{ends_all, ends_stay}

module _ {C : Type 0} (link : C → Link (List ℕ)) (steps : C → Call (List ℕ) → C → Type 0) where
  abbrev pub IsHoused : World C → Type 0
  IsHoused world = AreHoused world.entities world.ends

  -- the world after a call
  pub still_sound : (old new : C) (placed : List Placed) (ends : List EndAt) (now : ℕ) → (link old).clock ≤ 4000000000 → now ≡ (link old).clock → (link new).clock ≡ now
      → AreBehind now placed → AreLaterAll now placed → AreHoused placed ends → IsSound link (world_of new placed ends)
  still_sound old new placed ends now low is clock behind later housed = record {
    low = subst (λ (n : ℕ). n ≤ 4000000000) (sym (clock ∙ is)) low;
    behind = subst (λ (n : ℕ). AreBehind n placed) (sym clock) behind;
    later = subst (λ (n : ℕ). AreLaterAll n placed) (sym clock) later;
    housed = housed;
  }

  there : (entities : List Placed) (system : ℕ) (entity : Entity) → entity_at entities system ≡ Some entity → is_some (entity_at entities system) ≡ true
  there entities system entity is = ap (λ (o : Option Entity). is_some o) is

  acted : (old : World C) (system : ℕ) (own : List ℕ) (does : Acted) (made : List Event) (new : World C) → Acts link steps old system own does made new
      → is_some (entity_at old.entities system) ≡ true → IsHoused old → IsHoused new
  acted old system own does made new a some h =
      subst IsHoused (sym a.becomes)
      (ends_all (with_entity old.entities system does.entity) old.ends system does.events (ends_stay old.entities system does.entity old.ends h)
      (with_some old.entities system system does.entity some))

  refused : (old : World C) (why : Option Refused) (made : List Event) (new : World C) → IsRefused link steps old why made new → IsHoused old → IsHoused new
  refused old None made new r h = absurd r
  refused old (Some why) made new r h = subst IsHoused (sym r.1) h

  begun : (old : World C) (system : ℕ) (entity : Entity) (request : ConnectRequest) (reference : Option ℕ) (made : List Event) (new : World C) → BeginsAt link steps old system entity request reference made new
      → is_some (entity_at old.entities system) ≡ true → IsHoused old → IsHoused new
  begun old system entity request None made new b some h = absurd b
  begun old system entity request (Some reference) made new b some h =
      acted (record old { ends = old.ends ++ record { system = system; reference = reference } ∷ [] }) system entity.own (connecting (clock_of link steps old) entity reference request) b.0 new b.1 some
      (all_both (HasEntity old.entities) old.ends (record { system = system; reference = reference } ∷ []) h (some, tt))

  connected : (old : World C) (system : ℕ) (entity : Entity) (request : ConnectRequest) (why : Option ConnectRefusal) (made : List Event) (new : World C)
      → ConnectsBy link steps old system entity request why made new → is_some (entity_at old.entities system) ≡ true → IsHoused old → IsHoused new
  connected old system entity request (Some why) made new c some h = refused old (told_connect why) made new c h
  connected old system entity request None made new c some h = begun old system entity request (least_free (clock_of link steps old) entity) made new c some h

  pub connects_housed : (old : World C) (system : ℕ) (request : ConnectRequest) (made : List Event) (new : World C) → Connects link steps old system request made new → IsHoused old → IsHoused new
  connects_housed old system request made new c h =
      connected old system c.0 request (connect_refusal (clock_of link steps old) c.0 request.octets) made new c.2 (there old.entities system c.0 c.1) h

  module _ (wrap : ℕ → ℕ → ℕ) where
    called_by : (old : World C) (number : ℕ) (end : EndAt) (entity : Entity) (call : UserCall) (why : Option EntityRefusal) (made : List Event) (new : World C)
        → CallsBy link steps wrap old number end entity call why made new → is_some (entity_at old.entities end.system) ≡ true → IsHoused old → IsHoused new
    called_by old number end entity call (Some why) made new c some h = refused old (told_refusal why) made new c h
    called_by old number end entity call None made new c some h = acted old end.system entity.own _ c.0 new c.1 some h

    called_end : (old : World C) (number : ℕ) (end : EndAt) (entity : Entity) (call : UserCall) (ended : Bool) (made : List Event) (new : World C)
        → CallsEnd link steps wrap old number end entity call ended made new → is_some (entity_at old.entities end.system) ≡ true → IsHoused old → IsHoused new
    called_end old number end entity call true made new c some h = refused old (Some refusals.Ended) made new c h
    called_end old number end entity call false made new c some h = called_by old number end entity call (user_refusal entity end.reference call) made new c some h

    called_at : (old : World C) (number : ℕ) (call : UserCall) (end : Option EndAt) (made : List Event) (new : World C) → CallsAt link steps wrap old number call end made new → IsHoused old → IsHoused new
    called_at old number call None made new c h = refused old (Some refusals.NoSuchEnd) made new c h
    called_at old number call (Some end) made new c h =
        called_end old number end c.0 call (has_ended (clock_of link steps old) old.ends number end c.0) made new c.2 (there old.entities end.system c.0 c.1) h

    pub calls_housed : (old : World C) (number : ℕ) (call : UserCall) (made : List Event) (new : World C) → Calls link steps wrap old number call made new → IsHoused old → IsHoused new
    calls_housed old number call made new c h = called_at old number call (end_numbered old.ends number) made new c h

    heard : (old : World C) (arrival : Arrival (List ℕ)) (entity : Option Entity) (fits : Bool) (made : List Event) (new : World C) → HearsIf link steps wrap old arrival entity fits made new
        → entity_at old.entities arrival.system ≡ entity → IsHoused old → IsHoused new
    heard old arrival None fits made new x is h = subst IsHoused (sym x.1) h
    heard old arrival (Some entity) false made new x is h = subst IsHoused (sym x.1) h
    heard old arrival (Some entity) true made new x is h = acted old arrival.system entity.own x.0 made new x.2 (there old.entities arrival.system entity is) h

    pub heard_all : (old : World C) (ups : List (Up (List ℕ))) (made : List Event) (new : World C) → HearsAll link steps wrap old ups made new → IsHoused old → IsHoused new
    heard_all old [] made new x h = subst IsHoused (sym x.1) h
    heard_all old (Noted note ∷ ups) made new x h = heard_all old ups made new x h
    heard_all old (Came arrival ∷ ups) made new x h =
        heard_all x.0 ups x.2 new x.4
        (heard old arrival (entity_at old.entities arrival.system) (is_for link steps wrap arrival.unit.to (entity_at old.entities arrival.system)) x.1 x.0 x.3 refl h)

    pub arrives_housed : (old : World C) (call : Call (List ℕ)) (own : Event) (made : List Event) (new : World C) → Arrives link steps wrap old call own made new → IsHoused old → IsHoused new
    arrives_housed old call own made new a h = heard_all (record old { carrier = a.below }) a.ups a.later new a.hears h

    ticked : (system : ℕ) (old : World C) (made : List Event) (new : World C) → TicksEntity link steps wrap system old made new → IsHoused old → IsHoused new
    ticked system old made new (NoneDue o m n entity at none made_is becomes) h = subst IsHoused (sym becomes) (ends_stay old.entities system _ old.ends h)
    ticked system old made new (OneDue o m n entity reference mid here rest at due acts others made_is) h =
        ticked system mid rest new others (acted old system entity.own _ here mid acts (there old.entities system entity at) h)

    pub ticked_all : (old : World C) (placed : List Placed) (made : List Event) (new : World C) → TicksAll link steps wrap old placed made new → IsHoused old → IsHoused new
    ticked_all old [] made new t h = subst IsHoused (sym t.1) h
    ticked_all old (one ∷ placed) made new t h = ticked_all t.0 placed t.2 new t.4 (ticked one.system old t.1 t.0 t.3 h)

    pub settles_housed : (count : ℕ) (old : World C) (made : List Event) (new : World C) → Settles link steps wrap count old made new → IsHoused old → IsHoused new
    settles_housed count old made new (NoneLeft n o m l fresh made_is same) h = subst IsHoused (sym same) h
    settles_housed count old made new (TooMany n o m l pair fresh most made_is same) h = subst IsHoused (sym same) h
    settles_housed count old made new (OneMore n o m l pair mid here rest fresh low delivers settles made_is) h =
        settles_housed (count + 1) mid rest new settles (arrives_housed old _ _ here mid delivers h)
