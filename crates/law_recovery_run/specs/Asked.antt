-- What an end in CrWait comes to once nothing is lost any more, whatever was before: its called end is indicated, so that its user alone is missing; or it was confirmed, or it went, by its
-- user or for a cause that is named, as the journal tells; or its called end, whose user had accepted, is exhausted (X.214, service primitives; X.224, class 4: connection establishment,
-- retransmission on time-out).
use Rattle.std.specs.Prelude.{[], ◌≡◌, ◌⊎◌, ◌≤◌, ℕ, ◌+◌, false, List, ◌++◌, Some, Contains}
use Rattle.osi_base.specs.Link.{Link}
use Rattle.script_journal.specs.Partner.{ArePartners}
use Rattle.script_journal.specs.declared.event.Event.{Event}
use Rattle.script_journal.specs.declared.event.Event.TheVariants as events
use Rattle.tpdu.specs.declared.service.EndTold.TheVariants as tells
use Rattle.tpdu.specs.declared.service.GoneCause.{GoneCause}
use Rattle.tpdu.specs.declared.service.GoneCause.TheVariants.{Exhausted, Protocol, Reason}
use Rattle.tpdu.specs.declared.service.Options.{Options}
use Rattle.tp4_conn.specs.End.{End}
use Rattle.tp4_conn.specs.declared.states.InAkWait.{InAkWait}
use Rattle.tp4_conn.specs.declared.states.InCrWait.{InCrWait}
use Rattle.tp4_conn.specs.declared.states.StateData.TheVariants.{AkWait, CrWait, UserWait}
use Rattle.tp4_conn.specs.declared.timers.Timers.{Timers}
use Rattle.tp4_entity.specs.Association.{is_registered}
use Rattle.tp4_entity.specs.Entity.{Entity}
use Rattle.tp4_world.specs.World.{World, entity_at}
use Rattle.law_calm_run.specs.Service.{end_at_number}
use Rattle.law_recovery_run.specs.Unanswered.{AreListening, IsUnanswered}

-- the selector is not registered at an entity at that address
pub record IsUnregistered {C : Type 0} (world : World C) (to called : List ℕ) : Type 0 where
  pub system : ℕ
  pub entity : Entity
  pub there : entity_at world.entities system ≡ Some entity
  pub own_is : entity.own ≡ to
  pub none : is_registered entity.selectors called ≡ false

-- Why an end that waits for its CC is gone: N sendings of its CR passed; its called user refused, or did not answer in time (128); its called end had gone (131); its selector is not
-- registered at the system that it calls (3); no reference was free there (129); or what its called user accepted is not within what it proposed
abbrev pub IsNamedCause : (Unregistered : Type 0) → GoneCause → Type 0
IsNamedCause Unregistered Exhausted = Prim.Unit {0}
IsNamedCause Unregistered Protocol = Prim.Unit {0}
IsNamedCause Unregistered (Reason reason) = (reason ≡ 128) ⊎ ((reason ≡ 131) ⊎ (((reason ≡ 3) × Unregistered) ⊎ (reason ≡ 129)))
IsNamedCause Unregistered other = ⊥

-- these lines tell that the end of that number was confirmed, or went
pub data IsTold (Unregistered : Type 0) (late : List Event) (x : ℕ) : Type 0 where
  Confirmed : (options : Options) (octets : List ℕ) → Contains late (events.End x (tells.Confirm options octets)) → IsTold Unregistered late x
  By_user : (octets : List ℕ) → Contains late (events.Disconnect x octets) → IsTold Unregistered late x
  By_itself : (cause : GoneCause) (octets : List ℕ) → IsNamedCause Unregistered cause → Contains late (events.End x (tells.Gone cause octets)) → IsTold Unregistered late x

-- these lines tell that the end of that number is gone, since it sent its CC N times
abbrev pub IsExhausted : List Event → ℕ → Type 0
IsExhausted late y = Contains late (events.End y (tells.Gone Exhausted []))

-- it is in CrWait still, and its called end stands in UserWait: its user has the indication, and has not answered
pub record IsIndicatedNow {C : Type 0} (journal : List Event) (last : World C) (x : ℕ) : Type 0 where
  pub e : End
  pub w : InCrWait
  pub calling : end_at_number last x ≡ Some e
  pub asks : e.stage ≡ CrWait w
  pub y : ℕ
  pub f : End
  pub since : ℕ
  pub partners : ArePartners journal x y
  pub called : end_at_number last y ≡ Some f
  pub waits : f.stage ≡ UserWait since

-- of the ends that it called none stands that its user has answered; and no entity that it calls is silent since it began again
pub record IsOpenStill {C : Type 0} (link : C → Link (List ℕ)) (journal : List Event) (last : World C) (x : ℕ) (e : End) : Type 0 where
  pub unanswered : (y : ℕ) (f : End) → ArePartners journal x y → end_at_number last y ≡ Some f → IsUnanswered f.stage
  pub listening : AreListening (link last.carrier).clock last e.base.to

-- each end that was in CrWait at t0, where no user has answered it
abbrev pub AreAsked : {C : Type 0} → (C → Link (List ℕ)) → Timers → World C → World C → List Event → List Event → Type 0
AreAsked link t at_t0 last early late =
    (x : ℕ) (e : End) (w : InCrWait) → end_at_number at_t0 x ≡ Some e → e.stage ≡ CrWait w → IsOpenStill link early at_t0 x e
    → (link at_t0.carrier).clock + t.t1 ≤ (link last.carrier).clock → IsIndicatedNow (early ++ late) last x ⊎ IsTold (IsUnregistered at_t0 e.base.to e.base.called) late x

-- each two partners of which the one was in CrWait at t0 and the other in AkWait: its user had accepted, and the CC was lost
abbrev pub AreAccepted : {C : Type 0} → (C → Link (List ℕ)) → Timers → World C → World C → List Event → List Event → Type 0
AreAccepted link t at_t0 last early late =
    (x y : ℕ) (e f : End) (w : InCrWait) (v : InAkWait) → ArePartners early x y → end_at_number at_t0 x ≡ Some e → end_at_number at_t0 y ≡ Some f → e.stage ≡ CrWait w → f.stage ≡ AkWait v
    → (link at_t0.carrier).clock + t.t1 ≤ (link last.carrier).clock → IsTold (IsUnregistered at_t0 e.base.to e.base.called) late x ⊎ IsExhausted late y

-- what the ends that were in CrWait at t0 have come to: those that no user had answered, and those whose called end was in AkWait
pub record HaveAsked {C : Type 0} (link : C → Link (List ℕ)) (t : Timers) (at_t0 last : World C) (early late : List Event) : Type 0 where
  pub asked : AreAsked link t at_t0 last early late
  pub accepted : AreAccepted link t at_t0 last early late
