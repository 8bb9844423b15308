-- A run over the numbers of the wire that begins without ends is one over whole numbers, with the same events, that goes by a network with these numbers at its recovering `settle` too: the lines
-- before it, that `settle` and those after it one after another. So what ends come to over whole numbers they come to over those of the wire.
use Rattle.std.proofs.Common.{◌≡◌, ℕ, List, [], ◌∷◌, ◌++◌, None, refl, sym, subst}
use Rattle.std.specs.List.{AllByRecursion}
use Rattle.osi_base.specs.Calls.{Call}
use Rattle.osi_base.specs.Link.{Link, IsLeastFresh}
use Rattle.script_journal.specs.declared.event.Event.{Event}
use Rattle.script_lines.specs.declared.line.Line.{Line}
use Rattle.script_lines.specs.declared.line.Line.TheVariants as lines
use Rattle.tp4_number.specs.Number.{whole, wire}
use Rattle.tp4_world.specs.First.{HasNoEnd}
use Rattle.tp4_world.specs.Laws.{WholeLine, WholeRun}
use Rattle.tp4_world.specs.Run.{RunsLine, RunsLines}
use Rattle.tp4_world.specs.Wire.{world_on_wire}
use Rattle.tp4_world.specs.World.{World}
use Rattle.tp4_world.specs.declared.place.Placed.{Placed}
use Rattle.law_tp4_lawful.proofs.WorldStarts.{no_ends}
use Rattle.law_recovery_run.specs.Run.{Recovers, RunsOn}
use Rattle.law_recovery_run.specs.Service.{Recovered}
use Rattle.law_recovery.specs.Laws.{RecoversOnWire}
use Rattle.law_recovery.proofs.Recovered.{recovered_on_wire}

module _ {C : Type 0} (link : C → Link (List ℕ)) (steps : C → Call (List ℕ) → C → Type 0) (whole_run : WholeRun link steps) (whole_line : WholeLine link steps) where
  -- lines from a network with whole numbers on
  pub record GoesAbove (titles : List (List ℕ)) (old : World C) (script : List Line) (journal : List Event) (last : World C) : Type 0 where
    pub up : World C
    pub runs : RunsLines link steps whole titles old script journal up
    pub is : last ≡ world_on_wire up

  pub lines_above : (titles : List (List ℕ)) (script : List Line) (old : World C) (journal : List Event) (last : World C) → RunsLines link steps wire titles (world_on_wire old) script journal last
      → GoesAbove titles old script journal last
  lines_above titles [] old journal last run = record { up = old; runs = (run.0, refl); is = run.1 }
  lines_above titles (line ∷ script) old journal last run =
      let first = whole_line titles old line run.1 run.0 run.3 in
      let rest = lines_above titles script first.0 run.2 last (subst (λ (w : World C). RunsLines link steps wire titles w script run.2 last) first.2 run.5) in
      record { up = rest.up; runs = (first.0, run.1, run.2, first.1, run.4, rest.runs); is = rest.is }

  -- a run that recovers, with the same lines before its `settle`
  pub record RunsAbove (titles : List (List ℕ)) (first at_t0 last : World C) (script : List Line) (early late : List Event) (recovers : Recovers script) : Type 0 where
    pub mid : World C
    pub end : World C
    pub run : RunsOn link steps whole titles first mid end script early late
    pub same : run.recovers ≡ recovers
    pub mid_is : at_t0 ≡ world_on_wire mid
    pub end_is : last ≡ world_on_wire end

  pub run_above : (titles : List (List ℕ)) (first at_t0 last : World C) (script : List Line) (early late : List Event) → AllByRecursion (λ (one : Placed). HasNoEnd one.entity) first.entities
      → (r : RunsOn link steps wire titles first at_t0 last script early late) → RunsAbove titles first at_t0 last script early late r.recovers
  run_above titles first at_t0 last script early late none r =
      let front = whole_run titles first r.recovers.before r.front r.old none r.early_run in
      let settle = whole_line titles front.0 lines.Settle r.here at_t0 (subst (λ (w : World C). RunsLine link steps wire titles w lines.Settle r.here at_t0) front.2 r.settle_run) in
      let back = lines_above titles r.recovers.after settle.0 late last (subst (λ (w : World C). RunsLines link steps wire titles w r.recovers.after late last) settle.2 r.late_run) in
      record {
        mid = settle.0;
        end = back.up;
        run = record {
          recovers = r.recovers;
          old = front.0;
          front = r.front;
          here = r.here;
          early_is = r.early_is;
          early_run = front.1;
          settle_run = settle.1;
          none_left = subst (λ (w : World C). IsLeastFresh (link w.carrier) None) settle.2 r.none_left;
          late_run = back.runs;
          kept = r.kept;
          proper = r.proper;
          unrouted = r.unrouted;
        };
        same = refl;
        mid_is = settle.2;
        end_is = back.is;
      }

  pub on_wire : RecoversOnWire link steps
  on_wire titles begins recovers timers made placed begun early late script first at_t0 last begins_is timed order distinct have is_first untouched starts run =
      let none = subst (λ (w : World C). AllByRecursion (λ (one : Placed). HasNoEnd one.entity) w.entities) (sym starts.becomes) (no_ends titles placed is_first.entities) in
      let above = run_above titles first at_t0 last script early late none run in
      subst (λ (w : World C). Recovered link timers w last (begun ++ early) late) (sym above.mid_is)
      (subst (λ (w : World C). Recovered link timers (world_on_wire above.mid) w (begun ++ early) late) (sym above.end_is)
      (recovered_on_wire link timers above.mid above.end (begun ++ early) late
      (recovers timers made placed begun early late script first above.mid above.end begins_is timed order distinct have is_first untouched starts above.run)))
