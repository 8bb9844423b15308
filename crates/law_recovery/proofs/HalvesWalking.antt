-- What is kept by all that happens at once in a network is kept by lines that are settled and lose nothing.
use Rattle.std.proofs.Common.{◌≡◌, ℕ, List, [], Some, refl, Option, None, sym}
use Rattle.osi_base.specs.Calls.{Call, Keeps}
use Rattle.osi_base.specs.Link.{Link}
use Rattle.osi_base.specs.declared.unit.Unit.{Unit as CarriedUnit}
use Rattle.script_journal.specs.declared.event.Event.{Event}
use Rattle.net_world.specs.Fifo.{IsFifo}
use Rattle.tp4_number.specs.Number.{whole}
use Rattle.tp4_conn.specs.End.{End, IsTimed, Moved, end_of}
use Rattle.tp4_conn.specs.Table.{Called, Ticked, due, stepped, Event as EndEvent}
use Rattle.tp4_conn.specs.declared.timers.Timers.{Timers}
use Rattle.tp4_entity.specs.Step.{kept_end}
use Rattle.tp4_world.specs.World.{World}
use Rattle.law_tp4_lawful.proofs.Worlds.{Followed}
use Rattle.law_calm_run.proofs.Hall.{Post}
use Rattle.law_recovery_run.proofs.Aiming.{Going}
use Rattle.law_recovery.proofs.Deeds as walked
use Rattle.law_recovery.proofs.Deeds.{Asks, EndTicks, KeepsHeard, KeepsStill, EndDoes}
use Rattle.law_recovery.proofs.Lasting.{settle_keeps}
use Rattle.law_recovery.proofs.Ticking.{going_kept}
use Rattle.law_recovery.proofs.HalvesDeeds.{DoesRow, Heard, IsKept, New, Over, Row}
use Rattle.std.proofs.lemmas.Option.{same_Some}
use Rattle.tp4_conn.specs.Living.{IsFit}
use Rattle.tp4_conn.specs.Proper.{IsProperEvent}
use Rattle.law_tp4_history.specs.Moves.{IsSourced, stop_of}
use Rattle.law_recovery_world.proofs.SeeSteps.{kept_at}
use Rattle.law_recovery_run.proofs.Naming.{NamedBy}
use Rattle.law_recovery.proofs.Rows.{IsAlone}

-- what an end does by its user, or by its timers
row_of : {C : Type 0} (link : C → Link (List ℕ)) (old new : World C) (made : List Event) (posts later : List Post) (number : ℕ) (event : EndEvent) (place : Moved → Option End)
    (d : EndDoes link old new made posts later number event place) → IsAlone event → IsFit d.end event → IsSourced 0 event → IsProperEvent d.end event → ((r : ℕ) → NamedBy event r → ⊥)
    → ((e : End) → place (stepped whole (link old.carrier).clock d.end event) ≡ Some e → e ≡ end_of (stepped whole (link old.carrier).clock d.end event))
    → (stop_of (stepped whole (link old.carrier).clock d.end event).stage ≡ None → place (stepped whole (link old.carrier).clock d.end event) ≡ Some (end_of (stepped whole (link old.carrier).clock d.end event)))
    → DoesRow link old new made posts later
row_of {C} link old new made posts later number event place d alone fit sourced may unnamed place_is stays = record {
  system = d.system;
  entity = d.entity;
  there = d.there;
  reference = d.reference;
  end = d.end;
  stands = d.stands;
  event = event;
  alone = alone;
  fit = fit;
  sourced = sourced;
  may = may;
  unnamed = unnamed;
  place = place (stepped whole (link old.carrier).clock d.end event);
  place_is = place_is;
  stays = stays;
  entities = d.entities;
  ends = d.ends;
  clock = d.clock;
  later_is = d.later_is;
}

asks_row : {C : Type 0} (link : C → Link (List ℕ)) (old new : World C) (made : List Event) (posts later : List Post) → Asks link old new made posts later → DoesRow link old new made posts later
asks_row {C} link old new made posts later d = row_of link old new made posts later d.number (Called d.call) (λ (m : Moved). Some (end_of m)) d.does tt tt tt (d.allowed, d.proper) (λ n named. named)
    (λ e same. sym (same_Some (end_of (stepped whole (link old.carrier).clock d.does.end (Called d.call))) e same)) (λ none. refl)

ticks_row : {C : Type 0} (link : C → Link (List ℕ)) (old new : World C) (made : List Event) (posts later : List Post) → EndTicks link old new made posts later → DoesRow link old new made posts later
ticks_row {C} link old new made posts later d =
    let m : Moved = stepped whole (link old.carrier).clock d.does.end Ticked in
    row_of link old new made posts later 0 Ticked (λ (m : Moved). kept_end m (due m.base m.stage)) d.does tt tt tt tt (λ n named. named) (kept_at m (due m.base m.stage)) (λ none. going_kept m m.base m.stage none)

module _ {C : Type 0} (link : C → Link (List ℕ)) (steps : C → Call (List ℕ) → C → Type 0)
    (law : (old : C) (call : Call (List ℕ)) (new : C) → steps old call new → Keeps (link old) call (link new))
    (titles : List (List ℕ)) (Waits : C → List (CarriedUnit (List ℕ)) → Type 0) (fifo : IsFifo link steps titles Waits) (names : List (List ℕ)) (timers : Timers) (going : Going)
    (follow : (titles : List (List ℕ)) (timers : Timers) → Followed titles timers) (timed : IsTimed timers)
    (P : List Event → World C → List Post → Type 0) (kept : IsKept link names timers P) where
  still : KeepsStill link P
  still journal made old new posts same clock tells holds = kept.still journal made old new posts same clock holds

  heard : KeepsHeard link names timers [] P
  heard w journal made old new posts later explains d holds = kept.deed w journal made old new posts later explains (Heard d) holds

  pub kept_along : walked.IsKept link steps law titles Waits fifo names timers [] P (λ (before : List Event) (start : World C). P)
  kept_along = record {
    still = still;
    asks = λ w journal made old new later explains d holds. kept.deed w journal made old new [] later explains (Row (asks_row link old new made [] later d)) holds;
    begins = λ w journal made old new later explains d holds. kept.deed w journal made old new [] later explains (New d) holds;
    settles = λ journal made old new hall queue s r fit all step holds.
        settle_keeps link steps law titles Waits fifo names timers going follow timed [] P still heard 0 old made new step journal hall queue s r fit all holds;
    clocks = λ w journal front more old mid explains same clock waiting front_is aside holds. kept.clocks journal front old mid same clock waiting holds;
    over = λ before start w journal made old new posts later explains d holds. kept.deed w journal made old new posts later explains (Over d) holds;
    ticks = λ before start w journal made old new posts later explains d holds. kept.deed w journal made old new posts later explains (Row (ticks_row link old new made posts later d)) holds;
    ticked = λ journal made old new posts step holds. holds;
  }
