-- The history follows each step of an entity, and no TPDU that is offered is an ER.
use Rattle.std.proofs.Common.{ℕ, List, [], ◌∷◌}
use Rattle.tp4_flow.specs.declared.step.Sent.{Sent}
use Rattle.tp4_conn.specs.declared.timers.Timers.{Timers}
use Rattle.tp4_entity.specs.Entity.{Acted}
use Rattle.script_journal.specs.declared.event.Event.{Event}
use Rattle.law_tp4_history.specs.History.{History}
use Rattle.law_tp4_history.specs.Tracks.{Whole}
use Rattle.tp4_world.specs.declared.place.EndAt.{EndAt}
use Rattle.tp4_world.specs.declared.place.Placed.{Placed}
use Rattle.law_tp4_lawful.proofs.Along.{AreOffered, Followed, Follows, Grows, IsKept}
use Rattle.law_recovery_world.proofs.Known as recovery
use Rattle.law_recovery_world.proofs.WorldKnown.{late_grows, late_kept}
use Rattle.law_recovery_world.proofs.Worlds as worlds
use Rattle.law_recovery_steps.specs.Ers.{HasNoEr}
use Rattle.law_recovery_steps.proofs.NoErEntities.{none_sends_er}
use Rattle.law_recovery.proofs.Known.{IsOffered}

pub offered_grows : (timers : Timers) → Grows (IsOffered timers)
offered_grows timers old new tick own sent keeps o = record { steady = late_grows timers old new tick own sent keeps o.steady; none = o.none }

pub steady_kept : (titles : List (List ℕ)) (timers : Timers) → IsKept titles timers (recovery.Known titles timers) (IsOffered timers)
steady_kept titles timers = let k = late_kept titles timers in record {
  known = k.known;
  clock = k.clock;
  offered = λ h tick own sent o. k.offered h tick own sent o.steady;
  grows = offered_grows timers;
}

pub both_offered : (timers : Timers) (h : History) (tick : ℕ) (own : List ℕ) (tpdus : List Sent) → AreOffered (recovery.IsOffered timers) h tick own tpdus → HasNoEr tpdus → AreOffered (IsOffered timers) h tick own tpdus
both_offered timers h tick own [] o none = tt
both_offered timers h tick own (sent ∷ tpdus) o none = (record { steady = o.0; none = none.0 }, both_offered timers h tick own tpdus o.1 none.1)

module _ (titles : List (List ℕ)) (timers : Timers) (base : worlds.Followed titles timers) where
  on : (w : Whole) (journal : List Event) (entities : List Placed) (ends : List EndAt) (system : ℕ) (own : List ℕ) (first : List Event) (acted : Acted)
      → Follows timers (recovery.Known titles timers) (recovery.IsOffered timers) w journal entities ends system own first acted → HasNoEr acted.tpdus
      → Follows timers (recovery.Known titles timers) (IsOffered timers) w journal entities ends system own first acted
  on w journal entities ends system own first acted f none = record {
    new = f.new;
    goes_on = f.goes_on;
    known = f.known;
    offered = both_offered timers f.new.base w.base.clock own acted.tpdus f.offered none;
  }

  pub followed_steady : Followed timers (recovery.Known titles timers) (IsOffered timers)
  followed_steady = record {
    connects = λ w journal entities ends system entity request reference known is quiet proper free.
        on w journal entities _ system entity.own _ _ (base.connects w journal entities ends system entity request reference known is quiet proper free) ((none_sends_er w.base.clock entity).connects reference request);
    calls = λ w journal entities ends number end entity call known numbered is ended allowed proper.
        on w journal entities ends end.system entity.own _ _ (base.calls w journal entities ends number end entity call known numbered is ended allowed proper)
        ((none_sends_er w.base.clock entity).calls end.reference call);
    meets = λ w journal entities ends system entity tick from sent tpdu known timely is quiet offered to live read.
        on w journal entities ends system entity.own [] _ (base.meets w journal entities ends system entity tick from sent tpdu known timely is quiet offered.steady to live read)
        ((none_sends_er w.base.clock entity).meets from tpdu);
    ticks = λ w journal entities ends system entity reference known is due.
        on w journal entities ends system entity.own [] _ (base.ticks w journal entities ends system entity reference known is due) (none_sends_er w.base.clock entity).ticks;
    aside = base.aside;
    clock = base.clock;
    restarts = base.restarts;
  }
