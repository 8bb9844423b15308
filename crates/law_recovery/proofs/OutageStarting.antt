-- A network that started, before its first line.
use Rattle.std.proofs.Common.{◌≡◌, ℕ, List, [], ◌∷◌, None, refl, sym, ap, subst}
use Rattle.std.specs.List.{AllByRecursion}
use Rattle.osi_base.specs.Calls.{Call}
use Rattle.osi_base.specs.Link.{Link, IsLeastFresh}
use Rattle.osi_base.specs.declared.unit.Unit.{Unit as CarriedUnit}
use Rattle.script_journal.specs.declared.cause.Settled.TheVariants.{Settled}
use Rattle.script_journal.specs.declared.event.Event.{Event}
use Rattle.script_journal.specs.declared.event.Event.TheVariants as events
use Rattle.script_lines.specs.declared.line.Line.TheVariants as lines
use Rattle.net_world.specs.Told.{told}
use Rattle.tp4_number.specs.Number.{whole}
use Rattle.tp4_conn.specs.declared.timers.Timers.{Timers}
use Rattle.law_tp4_history.specs.Journals.{IsAside}
use Rattle.tp4_world.specs.First.{IsNew}
use Rattle.tp4_world.specs.Run.{NoneLeft}
use Rattle.tp4_world.specs.World.{World}
use Rattle.tp4_world.specs.declared.place.Placed.{Placed}
use Rattle.law_tp4_lawful.specs.First.{IsUntouched}
use Rattle.law_tp4_lawful.proofs.WorldAsides.{are_aside, told_quiet}
use Rattle.law_calm_run.specs.Run.{HaveEntities, IsStart}
use Rattle.law_recovery_run.specs.Ordered.{IsReady}
use Rattle.law_recovery_run.specs.Run.{RunsOn}
use Rattle.law_recovery_run.specs.Laws.{RunsAreReady}
use Rattle.law_recovery_run.specs.Ready.{HasStarted}

module _ {C : Type 0} (link : C → Link (List ℕ)) (steps : C → Call (List ℕ) → C → Type 0) (titles : List (List ℕ)) (timers : Timers) (begun : List Event) (first : World C) (s : HasStarted link steps titles timers begun first) where
  -- its entities have no end, and whatever tells what waits in the carrier
  abbrev pub Whatever : C → List (CarriedUnit (List ℕ)) → Type 0
  Whatever state queue = Prim.Unit {0}

  entities_are : s.placed ≡ first.entities
  entities_are = sym (ap (λ (w : World C). w.entities) s.starts.becomes)

  pub is_start : IsStart titles timers Whatever first
  is_start = record {
    timed = s.timed;
    inactive = s.timed.inactive_least;
    distinct = s.distinct;
    entities = subst (λ (es : List Placed). AllByRecursion (IsNew titles) es) entities_are s.is_first.entities;
    untouched = subst (λ (es : List Placed). AllByRecursion (IsUntouched timers) es) entities_are s.untouched;
    have = subst (HaveEntities titles) entities_are s.have;
    none = ap (λ (w : World C). w.ends) s.starts.becomes;
    waits = tt;
  }

  pub begun_aside : IsAside begun
  begun_aside = subst IsAside (sym s.starts.made_is) (are_aside (events.Tick 0 ∷ told s.starts.ups) (record { submits = λ end. refl; shows = λ end. refl; makes = refl }, told_quiet s.starts.ups))

  -- where nothing is left to deliver it is one from which it goes on in order
  pub is_ready : RunsAreReady link steps → IsLeastFresh (link first.carrier) None → IsReady link steps titles first.carrier first
  is_ready ready none = ready titles timers begun (events.Settle (Settled 0) ∷ []) [] first first first (lines.Settle ∷ []) s still
    where
      still : RunsOn link steps whole titles first first first (lines.Settle ∷ []) (events.Settle (Settled 0) ∷ []) []
      still = record {
        recovers = record { before = []; after = []; script_is = refl; no_inject = tt; settled = tt };
        old = first;
        front = [];
        here = events.Settle (Settled 0) ∷ [];
        early_is = refl;
        early_run = (refl, refl);
        settle_run = NoneLeft 0 first (events.Settle (Settled 0) ∷ []) first none refl refl;
        none_left = none;
        late_run = (refl, refl);
        kept = tt;
        proper = (tt, tt);
        unrouted = (tt, tt);
      }
