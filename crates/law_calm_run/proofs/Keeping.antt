-- Each step of a network keeps the story of the associations beside it, by the laws of associations; so it stands beside each network to which steps lead
-- from a start.
use Rattle.std.proofs.Common.{◌≡◌, ℕ, ◌+◌, List, ◌++◌, sym, subst}
use Rattle.osi_base.specs.declared.unit.Unit.{Unit as CarriedUnit}
use Rattle.script_journal.specs.declared.event.Event.{Event}
use Rattle.tp4_conn.specs.declared.timers.Timers.{Timers}
use Rattle.law_tp4_history.specs.Journals.{IsAside}
use Rattle.tp4_world.specs.World.{World}
use Rattle.tp4_world.specs.declared.place.Placed.{Placed}
use Rattle.law_tp4_associations.specs.Association.{Association, Posted}
use Rattle.law_tp4_associations.proofs.AllLaws.{Laws}
use Rattle.law_tp4_associations.specs.Ticking.{IsTicking}
use Rattle.law_tp4_associations.proofs.Together.{all_laws}
use Rattle.law_calm_run.specs.Run.{HaveEntities, IsStart}
use Rattle.law_calm_run.proofs.Hall.{AreAllProper, Calling, Clocking, Connecting, Hall, Meeting, Over, Step, Still, TickGoes, TickStep, Ticking, TicksDone, TicksMore}
use Rattle.law_calm_run.proofs.Going.{have_after}
use Rattle.law_calm_run.proofs.Never.{AreNever, never_then}
use Rattle.law_calm_run.proofs.Starting.{first_never}
use Rattle.law_calm_run.proofs.Story.{HasStory, IsRunning, Story, address_of}
use Rattle.law_calm_run.proofs.AskedEnds.{calls_keeps}
use Rattle.law_calm_run.proofs.Beginning.{holds_after, story_begins}
use Rattle.law_calm_run.proofs.Connecting.{connects_keeps}
use Rattle.law_calm_run.proofs.Hearing.{meets_keeps}
use Rattle.law_calm_run.proofs.Pairing.{running_stays}
use Rattle.law_calm_run.proofs.Passing.{tells_quiet}
use Rattle.law_calm_run.proofs.TickingEnds.{clocks_keep}

module _ (titles : List (List ℕ)) where
  -- ---- entities

  have_tick : (old : Hall) (made : List Event) (new : Hall) → TickStep old made new → HaveEntities titles old.entities → HaveEntities titles new.entities
  have_tick old made new (Ticking c) have = subst (λ (h : Hall). HaveEntities titles h.entities) (sym c.does.becomes) (have_after titles old.entities c.system _ have)
  have_tick old made new (Over o) have = subst (λ (h : Hall). HaveEntities titles h.entities) (sym o.becomes) (have_after titles old.entities o.system _ have)

  have_ticks : (old : Hall) (made : List Event) (new : Hall) → TickGoes old made new → HaveEntities titles old.entities → HaveEntities titles new.entities
  have_ticks old made new (TicksDone o m n none same) have = subst (λ (h : Hall). HaveEntities titles h.entities) (sym same) have
  have_ticks old made new (TicksMore o m n mid here rest proper step goes all) have = have_ticks mid rest new goes (have_tick old here mid step have)

  -- each system keeps its entity
  have_then : (old new : Hall) (made : List Event) → Step titles old made new → HaveEntities titles old.entities → HaveEntities titles new.entities
  have_then old new made (Still aside same) have = subst (λ (h : Hall). HaveEntities titles h.entities) (sym same) have
  have_then old new made (Connecting c) have = subst (λ (h : Hall). HaveEntities titles h.entities) (sym c.does.becomes) (have_after titles old.entities c.system _ have)
  have_then old new made (Calling c) have = subst (λ (h : Hall). HaveEntities titles h.entities) (sym c.does.becomes) (have_after titles old.entities c.end.system _ have)
  have_then old new made (Clocking c) have = have_ticks (record old { clock = old.clock + 1 }) c.later new c.ticks have
  have_then old new made (Meeting m) have = subst (λ (h : Hall). HaveEntities titles h.entities) (sym m.does.becomes) (have_after titles old.entities m.system _ have)

  module _ (timers : Timers) (IsAt : ℕ → List Placed → List Association → List Association → List Posted → Type 0) (laws : Laws timers (address_of titles) IsAt) where
    -- events that tell no unit and make no end
    still_keeps : (old new : Hall) (journal made : List Event) → Story timers (address_of titles) old journal → IsAside made → new ≡ old → Story timers (address_of titles) new (journal ++ made)
    still_keeps old new journal made s aside same =
        subst (λ (h : Hall). Story timers (address_of titles) h (journal ++ made)) (sym same)
        (record {
          all = s.all;
          queue = s.queue;
          number = s.number;
          standing = s.standing;
          posts = s.posts;
          tells =
              tells_quiet IsRunning running_stays (address_of titles) old.clock old.ends s.all s.queue s.number journal made s.tells aside.ends
              (λ n. record { gave = (aside.units n).0; showed = (aside.units n).1 });
        })

    -- a step keeps the story
    step_keeps : (old new : Hall) (journal made : List Event) → AreAllProper old.entities → HaveEntities titles old.entities → AreNever old.entities → Story timers (address_of titles) old journal
        → Step titles old made new → Story timers (address_of titles) new (journal ++ made)
    step_keeps old new journal made proper have never s (Still aside same) = still_keeps old new journal made s aside same
    step_keeps old new journal made proper have never s (Connecting c) = connects_keeps titles timers laws.connects old new journal made proper have s c
    step_keeps old new journal made proper have never s (Calling c) = calls_keeps timers (address_of titles) laws.calls laws.answerable laws.accepts old new journal made proper s c
    step_keeps old new journal made proper have never s (Clocking c) = clocks_keep timers (address_of titles) IsAt laws.ticks old new journal made proper s c
    step_keeps old new journal made proper have never s (Meeting m) = meets_keeps titles timers laws.handed laws.addressed laws.formatted old new journal made proper never s m

    abbrev Holds : Hall → List Event → Type 0
    Holds hall journal = HaveEntities titles hall.entities × AreNever hall.entities × Story timers (address_of titles) hall journal

    keeps : (old new : Hall) (journal made : List Event) → AreAllProper old.entities → Holds old journal → Step titles old made new → Holds new (journal ++ made)
    keeps old new journal made proper h step = (have_then old new made step h.0, never_then titles old new made step h.1, step_keeps old new journal made proper h.0 h.1 h.2 step)

    story_by_laws : {C : Type 0} (Waits : C → List (CarriedUnit (List ℕ)) → Type 0) (first : World C) → IsStart titles timers Waits first → (now : ℕ) → HasStory now timers titles first.entities first.ends
    story_by_laws Waits first start now begun made new aside goes =
        (holds_after titles Holds keeps _ made new goes begun (start.have, first_never titles timers Waits first start, story_begins titles timers Waits first start now begun aside)).2

-- beside each network to which steps lead from a start the story stands
pub has_story : {C : Type 0} (titles : List (List ℕ)) (timers : Timers) (Waits : C → List (CarriedUnit (List ℕ)) → Type 0) (first : World C) → IsStart titles timers Waits first → (now : ℕ)
    → HasStory now timers titles first.entities first.ends
has_story titles timers = story_by_laws titles timers (IsTicking timers (address_of titles)) (all_laws timers (address_of titles))
