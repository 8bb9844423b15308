-- After any calls of a network no end stands at an entity that is silent, and some history explains it.
use Rattle.std.proofs.Common.{◌≡◌, ℕ, List, [], ◌∷◌, Some, sym, ◌∙◌, ap, subst}
use Rattle.std.specs.List.{AllByRecursion}
use Rattle.osi_base.specs.Calls.{Call, Keeps}
use Rattle.osi_base.specs.Link.{Link}
use Rattle.script_journal.specs.declared.event.Event.{Event}
use Rattle.tp4_number.specs.Number.{whole}
use Rattle.tp4_conn.specs.End.{End}
use Rattle.tp4_conn.specs.declared.timers.Timers.{Timers}
use Rattle.tp4_entity.specs.Entity.{Entity, end_at}
use Rattle.law_tp4_history.specs.Ends.{Times}
use Rattle.law_tp4_history.specs.Journals.{Written}
use Rattle.law_tp4_history.specs.Tracks.{IsNothing, Whole}
use Rattle.tp4_world.specs.Called.{DidAll, WorldCall}
use Rattle.tp4_world.specs.First.{HasNoEnd}
use Rattle.tp4_world.specs.World.{World}
use Rattle.tp4_world.specs.declared.place.Placed.{Placed}
use Rattle.law_tp4_lawful.specs.Called.{AreHonestCalls}
use Rattle.law_tp4_lawful.proofs.ActsLines.{Flowing}
use Rattle.law_tp4_lawful.proofs.CalledStarts.{on_whole}
use Rattle.law_tp4_lawful.proofs.MeetsOthers.{KnowsTaken}
use Rattle.law_tp4_lawful.proofs.WorldPlaces.{none_some}
use Rattle.law_tp4_lawful.proofs.WorldStarts.{found, no_end_at, no_ends}
use Rattle.law_tp4_associations.proofs.Lines.{call_went}
use Rattle.law_tp4_associations.proofs.EndedWorlds.{IsFitWorld}
use Rattle.law_recovery_run.proofs.Settling.{IsExplained}

-- where no end stands
none_fit : {C : Type 0} (link : C → Link (List ℕ)) (first : World C) → AllByRecursion (λ (one : Placed). HasNoEnd one.entity) first.entities → IsFitWorld link first
none_fit {C} link first none system e is =
    let f = found (λ (one : Placed). HasNoEnd one.entity) first.entities system e none is in
    let never : (r : ℕ) (end : End) → end_at e r ≡ Some end → ⊥ = λ r end at. none_some end (sym (no_end_at f.one.entity f.holds r) ∙ ap (λ (x : Entity). end_at x r) f.entity_is ∙ at) in
    record { of = λ r end at. absurd (never r end at); audible = λ r end at. absurd (never r end at) }

module _ {C : Type 0} (link : C → Link (List ℕ)) (steps : C → Call (List ℕ) → C → Type 0)
    (law : (old : C) (call : Call (List ℕ)) (new : C) → steps old call new → Keeps (link old) call (link new)) where
  did_fit : (calls : List WorldCall) (first last : World C) (journal : List Event) → IsFitWorld link first → DidAll link steps whole first calls journal last → IsFitWorld link last
  did_fit [] first last journal fit did = subst (IsFitWorld link) (sym did.1) fit
  did_fit (call ∷ calls) first last journal fit did = did_fit calls did.0 last did.2 (call_went link steps law whole call first did.0 did.1 fit did.3).fit did.5

  pub calls_fit : (titles : List (List ℕ)) (timers : Timers) (journal : List Event) (last : World C) → AreHonestCalls link steps whole titles timers journal last → IsFitWorld link last
  calls_fit titles timers journal last a =
      let r = a.run in
      let none : AllByRecursion (λ (one : Placed). HasNoEnd one.entity) r.first.entities =
      subst (λ (world : World C). AllByRecursion (λ (one : Placed). HasNoEnd one.entity) world.entities) (sym r.starts.becomes) (no_ends titles r.placed r.is_first.entities) in
      did_fit r.calls r.first last r.later (none_fit link r.first none) r.did

  -- and some history explains it
  pub calls_explained : Flowing → KnowsTaken → ((times : Times) (titles : List (List ℕ)) (w : Whole) → IsNothing w → Written times titles w []) → (titles : List (List ℕ)) (timers : Timers) (journal : List Event) (last : World C)
      → AreHonestCalls link steps whole titles timers journal last → IsExplained link journal last
  calls_explained flowing knows begins titles timers journal last calls =
      on_whole link steps law flowing knows begins (λ (journal : List Event) world. IsFitWorld link world → IsExplained link journal world)
      (λ titles timers w journal world explains fit. record { titles = titles; timers = timers; w = w; explains = explains; fit = fit }) titles timers journal last calls (calls_fit titles timers journal last calls)
