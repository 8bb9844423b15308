-- The network at the recovering settle: what led to it are calls after which no end is due, and each call of its carrier was a usual one.
use Rattle.std.proofs.Common.{◌≡◌, ℕ, List, [], ◌∷◌, ◌++◌, None, Some, refl, sym, ◌∙◌, ap, subst, append-nil, append_assoc}
use Rattle.std.specs.List.{AllByRecursion}
use Rattle.osi_base.specs.Calls.{Call, Keeps}
use Rattle.osi_base.specs.Link.{Link}
use Rattle.script_journal.specs.declared.event.Event.{Event}
use Rattle.script_lines.specs.Injecting.{HasNoInject}
use Rattle.script_lines.specs.declared.line.Line.{Line}
use Rattle.script_lines.specs.declared.line.Line.TheVariants as lines
use Rattle.tp4_number.specs.Number.{whole}
use Rattle.tp4_conn.specs.declared.timers.Timers.{Timers}
use Rattle.tp4_entity.specs.Entity.{Entity}
use Rattle.tp4_entity.specs.Step.{first_due}
use Rattle.tp4_world.specs.Run.{RunsLines}
use Rattle.tp4_world.specs.World.{World, entity_at}
use Rattle.law_tp4_history.specs.Ends.{Times}
use Rattle.law_tp4_history.specs.Journals.{Written}
use Rattle.law_tp4_history.specs.Tracks.{IsNothing, Whole}
use Rattle.law_tp4_pair.specs.CalmScript.{IsSettledScript}
use Rattle.law_tp4_proper.specs.Rest.{AreInTime, AreProper}
use Rattle.law_tp4_lawful.specs.Called.{AreHonestCalls}
use Rattle.law_tp4_lawful.specs.Limits.{IsProperLine}
use Rattle.law_tp4_lawful.proofs.ActsLines.{Flowing}
use Rattle.law_tp4_lawful.proofs.CalledStarts.{followed_by}
use Rattle.law_tp4_lawful.proofs.Known.{IsOffered, Known}
use Rattle.law_tp4_lawful.proofs.MeetsOthers.{KnowsTaken}
use Rattle.law_tp4_lawful.proofs.WorldCalls.{calls_hold}
use Rattle.law_tp4_lawful.proofs.WorldKnown.{plain_kept}
use Rattle.law_tp4_lawful.proofs.WorldOutcomes.{one_unit, outcomes}
use Rattle.law_tp4_lawful.proofs.WorldStarts.{started}
use Rattle.law_tp4_lawful.proofs.Worlds.{Rests}
use Rattle.law_calm_run.specs.Run.{IsUnrouted}
use Rattle.law_calm_run.proofs.Queueing.{all_parts}
use Rattle.law_recovery_run.specs.Run.{RunsOn}
use Rattle.law_recovery_run.specs.Laws.{CallsRest, LinesAreCalls, RunsAreCalls, RunsAreReady, RunsGoOn}
use Rattle.law_recovery_run.specs.Ready.{HasStarted}
use Rattle.law_recovery_run.proofs.Usual.{Fits, lines_fit, settle_fits, start_fits}

-- ---- lines

-- a settled script injects nothing
pub settled_none : (script : List Line) → IsSettledScript script → HasNoInject script
settled_none [] calm = tt
settled_none (lines.Nothing ∷ script) calm = (tt, settled_none script calm)
settled_none (lines.Settle ∷ script) calm = (tt, settled_none script calm)
settled_none (lines.Deliver frame system ∷ script) calm = absurd calm
settled_none (lines.Inject lan system octets ∷ script) calm = absurd calm
settled_none (lines.Restart system ∷ script) calm = absurd calm
settled_none (line ∷ script) calm = (tt, settled_none script calm.1)

-- the lines of a run that recovers, by its parts
parts : {C : Type 0} (link : C → Link (List ℕ)) (steps : C → Call (List ℕ) → C → Type 0) (wrap : ℕ → ℕ → ℕ) (titles : List (List ℕ)) (P : Line → Type 0) (first at_t0 last : World C) (script : List Line)
    (early late : List Event) (run : RunsOn link steps wrap titles first at_t0 last script early late) → AllByRecursion P script
    → AllByRecursion P run.recovers.before × AllByRecursion P (lines.Settle ∷ run.recovers.after)
parts link steps wrap titles P first at_t0 last script early late run all =
    all_parts P run.recovers.before (lines.Settle ∷ run.recovers.after) (subst (λ (ls : List Line). AllByRecursion P ls) run.recovers.script_is all)

-- ---- the calls

module _ {C : Type 0} (link : C → Link (List ℕ)) (steps : C → Call (List ℕ) → C → Type 0) (wrap : ℕ → ℕ → ℕ) (titles : List (List ℕ)) (timers : Timers) where
  -- no call yet
  pub start_called : (begun : List Event) (first : World C) → HasStarted link steps titles timers begun first → AreHonestCalls link steps wrap titles timers begun first
  start_called begun first s = record {
    run = record {
      made = s.made;
      placed = s.placed;
      begun = begun;
      first = first;
      calls = [];
      later = [];
      is_first = s.is_first;
      untouched = s.untouched;
      starts = s.starts;
      did = (refl, refl);
      journal_is = sym (append-nil begun);
    };
    timed = s.timed;
    distinct = s.distinct;
    limits = tt;
    honest = ap (λ (w : World C). (link w.carrier).honest) s.starts.becomes ∙ s.starts.gathers.stands.honest ∙ s.is_first.carrier_is.honest;
  }

  pub runs_called : LinesAreCalls link steps wrap → (begun early late : List Event) (first at_t0 last : World C) (script : List Line) → HasStarted link steps titles timers begun first
      → RunsOn link steps wrap titles first at_t0 last script early late
      → AreHonestCalls link steps wrap titles timers (begun ++ early) at_t0 × AreHonestCalls link steps wrap titles timers ((begun ++ early) ++ late) last
  runs_called called begun early late first at_t0 last script s run = (there, later)
    where
      proper : AllByRecursion IsProperLine run.recovers.before × AllByRecursion IsProperLine (lines.Settle ∷ run.recovers.after)
      proper = parts link steps wrap titles IsProperLine first at_t0 last script early late run run.proper

      front : AreHonestCalls link steps wrap titles timers (begun ++ run.front) run.old
      front = called titles timers begun run.front first run.old run.recovers.before (start_called begun first s) proper.0 run.recovers.no_inject run.early_run

      here : RunsLines link steps wrap titles run.old (lines.Settle ∷ []) run.here at_t0
      here = (at_t0, run.here, [], run.settle_run, sym (append-nil run.here), (refl, refl))

      settled : AreHonestCalls link steps wrap titles timers ((begun ++ run.front) ++ run.here) at_t0
      settled = called titles timers (begun ++ run.front) run.here run.old at_t0 (lines.Settle ∷ []) front (tt, tt) (tt, tt) here

      there : AreHonestCalls link steps wrap titles timers (begun ++ early) at_t0
      there = subst (λ (es : List Event). AreHonestCalls link steps wrap titles timers es at_t0)
          (append_assoc begun run.front run.here ∙ ap (λ (es : List Event). begun ++ es) (sym run.early_is)) settled

      later : AreHonestCalls link steps wrap titles timers ((begun ++ early) ++ late) last
      later = called titles timers (begun ++ early) late at_t0 last run.recovers.after there proper.1.1 (settled_none run.recovers.after run.recovers.settled) run.late_run

pub runs_are_calls : {C : Type 0} (link : C → Link (List ℕ)) (steps : C → Call (List ℕ) → C → Type 0) (wrap : ℕ → ℕ → ℕ) → LinesAreCalls link steps wrap → RunsAreCalls link steps wrap
runs_are_calls link steps wrap called titles timers begun early late first at_t0 last script s run = runs_called link steps wrap titles timers called begun early late first at_t0 last script s run

-- ---- the network

module _ {C : Type 0} (link : C → Link (List ℕ)) (steps : C → Call (List ℕ) → C → Type 0)
    (law : (old : C) (call : Call (List ℕ)) (new : C) → steps old call new → Keeps (link old) call (link new)) where
  -- no end is due, and all are proper
  rested : Flowing → KnowsTaken → ((times : Times) (titles : List (List ℕ)) (w : Whole) → IsNothing w → Written times titles w []) → (titles : List (List ℕ)) (timers : Timers) (journal : List Event)
      (last : World C) → AreHonestCalls link steps whole titles timers journal last → (system : ℕ) (e : Entity) → entity_at last.entities system ≡ Some e
      → AreProper e × (first_due (link last.carrier).clock e ≡ None)
  rested flowing knows begins titles timers journal last a system e there =
      let r = a.run in
      let rests : Rests link AreProper titles timers r.begun r.first =
      started titles timers a.timed a.timed.inactive_least a.distinct r.placed r.is_first.entities r.untouched begins link steps law (followed_by flowing knows titles timers) AreProper AreInTime outcomes r.made r.begun
      r.first r.is_first r.starts in
      let all : Rests link AreProper titles timers (r.begun ++ r.later) last =
      calls_hold titles timers (Known titles timers) IsOffered (plain_kept titles timers) a.timed link steps law (followed_by flowing knows titles timers) one_unit AreProper AreInTime outcomes r.calls r.first last r.begun
      r.later a.honest a.limits rests r.did in
      let rest = all.rest system e there in
      (rest.0, subst (λ (n : ℕ). first_due n e ≡ None) (sym all.explains.carries.clock) rest.1)

  pub calls_rest : Flowing → KnowsTaken → ((times : Times) (titles : List (List ℕ)) (w : Whole) → IsNothing w → Written times titles w []) → CallsRest link steps
  calls_rest flowing knows begins titles timers journal last a system e there = (rested flowing knows begins titles timers journal last a system e there).1

  pub runs_ready : Flowing → KnowsTaken → ((times : Times) (titles : List (List ℕ)) (w : Whole) → IsNothing w → Written times titles w []) → RunsAreCalls link steps whole → RunsAreReady link steps
  runs_ready flowing knows begins called titles timers begun early late first at_t0 last script s run =
      let calls = (called titles timers begun early late first at_t0 last script s run).0 in
      let rests = rested flowing knows begins titles timers (begun ++ early) at_t0 calls in
      let path = parts link steps whole titles IsUnrouted first at_t0 last script early late run run.unrouted in
      let start : Fits link steps law whole titles first.carrier first =
      start_fits link steps law whole titles timers.life s.made s.placed begun first s.is_first s.have s.starts in
      let old : Fits link steps law whole titles first.carrier run.old =
      lines_fit link steps law whole titles first.carrier run.recovers.before first run.old run.front start run.recovers.no_inject path.0 run.early_run in
      let now : Fits link steps law whole titles first.carrier at_t0 =
      settle_fits link steps law whole titles first.carrier run.old at_t0 run.here old run.settle_run in
      record {
        reached = now.bears.reached;
        none_left = run.none_left;
        kept = λ system e there.
            let is = now.placed system e there in
            record { title = is.title; title_is = is.title_is; own = is.own; proper = (rests system e there).0; ends = is.ends };
        have = now.have;
        rest = λ system e there. (rests system e there).1;
      }

  pub runs_go_on : RunsGoOn link steps
  runs_go_on titles early late first at_t0 last script run = record {
    settled = run.recovers.settled;
    proper = (parts link steps whole titles IsProperLine first at_t0 last script early late run run.proper).1.1;
    unrouted = (parts link steps whole titles IsUnrouted first at_t0 last script early late run run.unrouted).1.1;
    kept = run.kept;
    runs = run.late_run;
  }
