-- What becomes of an end that asked is kept by lines that are settled and lose nothing.
use Rattle.std.proofs.Common.{◌≡◌, ℕ, ◌+◌, false, List, [], ◌++◌, sym, ◌∙◌, ap, subst}
use Rattle.osi_base.specs.Calls.{Call, Keeps}
use Rattle.osi_base.specs.Link.{Link}
use Rattle.osi_base.specs.declared.unit.Unit.{Unit as CarriedUnit}
use Rattle.script_journal.specs.declared.event.Event.{Event}
use Rattle.net_world.specs.Fifo.{IsFifo}
use Rattle.tp4_number.specs.Number.{whole}
use Rattle.tp4_conn.specs.End.{IsTimed, frozen_for}
use Rattle.tp4_conn.specs.Table.{Called, stepped}
use Rattle.tp4_conn.specs.declared.end_record.EndRecord.{EndRecord}
use Rattle.tp4_conn.specs.declared.states.InCrWait.{InCrWait}
use Rattle.tp4_conn.specs.declared.timers.Timers.{Timers}
use Rattle.tp4_entity.specs.Silence.{is_silent}
use Rattle.tp4_world.specs.Telling.{events_after}
use Rattle.tp4_world.specs.World.{World, entity_at}
use Rattle.tp4_world.specs.declared.place.Placed.{Placed}
use Rattle.law_tp4_lawful.proofs.Worlds.{Followed}
use Rattle.law_tp4_associations.proofs.EndedWorlds.{within_longer}
use Rattle.law_calm_run.proofs.Hall.{Post}
use Rattle.law_recovery_run.proofs.Aiming.{Going}
use Rattle.law_recovery.proofs.Deeds.{AreSame, IsKept}
use Rattle.law_recovery_run.specs.Requesting.{AreListening}
use Rattle.law_recovery.proofs.HalvesAsking.{call_on, connect_on}
use Rattle.law_recovery.proofs.Settling.{listens_same, settles_on}
use Rattle.law_recovery.proofs.State.{IsOn}
use Rattle.law_recovery.proofs.TickRows.{none_on, same_on, tick_on}

module _ {C : Type 0} (link : C → Link (List ℕ)) (steps : C → Call (List ℕ) → C → Type 0)
    (law : (old : C) (call : Call (List ℕ)) (new : C) → steps old call new → Keeps (link old) call (link new))
    (titles : List (List ℕ)) (Waits : C → List (CarriedUnit (List ℕ)) → Type 0) (fifo : IsFifo link steps titles Waits) (names : List (List ℕ)) (timers : Timers) (going : Going)
    (follow : (titles : List (List ℕ)) (timers : Timers) → Followed titles timers) (timed : IsTimed timers) (early : List Event) (x home : ℕ) (from : List ℕ) (N : Type 0) (F : Type 0) (y limit : ℕ) (first : EndRecord)
    (tried : InCrWait) where
  abbrev On : List Event → World C → List Post → Type 0
  On late world posts = IsOn link x home from N F y limit first tried late world posts

  -- an entity that is not silent is not silent a tick later
  longer : (old mid : World C) → AreSame old mid → (link mid.carrier).clock ≡ (link old.carrier).clock + 1 → (to : List ℕ) → AreListening (link old.carrier).clock old to → AreListening (link mid.carrier).clock mid to
  longer old mid same clock to was place z there own = subst (λ (n : ℕ). is_silent n z ≡ false) (sym clock)
      (within_longer (link old.carrier).clock (frozen_for z.timers) z.restarted (was place z (ap (λ (ps : List Placed). entity_at ps place) (sym same.entities) ∙ there) own))

  pub kept : IsKept link steps law titles Waits fifo names timers early On (λ (before : List Event) (start : World C). On)
  kept = record {
    still = λ late made old new posts same clock tells on. same_on link old new same.entities same.ends (listens_same link old new same.entities clock) x home from N F y limit first tried late made posts on;
    asks = λ w late made old new later explains d on. subst (On (late ++ made) new) (sym d.does.later_is)
        (call_on link names timers w (early ++ late) old explains going new made d.number (record { system = d.does.system; reference = d.does.reference }) d.does.entity d.call d.does.there d.number_is d.does.end d.does.stands
        d.allowed d.proper d.does.entities d.does.ends d.does.clock
        (events_after old.ends d.does.system d.does.entity.own (stepped whole (link old.carrier).clock d.does.end (Called d.call)).events ++ d.does.aside) d.does.made_is x home from N F y limit first tried late [] on);
    begins = λ w late made old new later explains d on. subst (On (late ++ made) new) (sym d.later_is)
        (connect_on link old new made d.system d.entity d.there d.request d.reference d.free d.entities d.ends d.clock x home from N F y limit first tried late [] on);
    settles = λ late made old new hall queue s r fit all step on.
        settles_on link steps law titles Waits fifo names timers going follow timed x home from N F y limit first tried 0 old made new step (early ++ late) late hall queue s r fit all on;
    clocks = λ w late front more old mid explains same clock waiting front_is aside on. same_on link old mid same.entities same.ends (longer old mid same clock) x home from N F y limit first tried late front [] on;
    over = λ before start w late made old new posts later explains d on. subst (On (late ++ made) new) (sym d.later_is)
        (none_on link old new d.system d.entity d.there d.entities d.ends d.clock x home from N F y limit first tried late made posts on);
    ticks = λ before start w late made old new posts later explains d on. subst (On (late ++ made) new) (sym d.does.later_is)
        (tick_on link names timers w (early ++ late) old explains going new made d.does.system d.does.entity d.does.there d.does.reference d.does.end d.does.stands d.is_due_now d.does.entities d.does.ends d.does.clock d.does.aside
        d.does.made_is x home from N F y limit first tried late posts on);
    ticked = λ late made old new posts step on. on;
  }
