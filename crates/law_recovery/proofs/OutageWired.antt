-- A run with an outage over the numbers of the wire that begins without ends is one over whole numbers, with the same events, that goes by networks with these numbers at tick s and at tick t0.
use Rattle.std.proofs.Common.{◌≡◌, ℕ, List, ◌++◌, None, refl, sym, subst}
use Rattle.std.specs.List.{AllByRecursion}
use Rattle.osi_base.specs.Calls.{Call}
use Rattle.osi_base.specs.Link.{Link, IsLeastFresh}
use Rattle.script_journal.specs.declared.event.Event.{Event}
use Rattle.script_lines.specs.declared.line.Line.{Line}
use Rattle.script_lines.specs.declared.line.Line.TheVariants as lines
use Rattle.tp4_number.specs.Number.{whole, wire}
use Rattle.tp4_conn.specs.declared.timers.Timers.{Timers}
use Rattle.law_tp4_pair.specs.CalmScript.{IsSettledScript}
use Rattle.tp4_world.specs.First.{HasNoEnd}
use Rattle.tp4_world.specs.Laws.{WholeLine, WholeRun}
use Rattle.tp4_world.specs.Run.{RunsLine, RunsLines}
use Rattle.tp4_world.specs.Wire.{world_on_wire}
use Rattle.tp4_world.specs.World.{World}
use Rattle.tp4_world.specs.declared.place.Placed.{Placed}
use Rattle.law_tp4_lawful.proofs.WorldStarts.{no_ends}
use Rattle.law_recovery.proofs.Wired.{lines_above}
use Rattle.law_recovery.specs.Laws.{OutagesOnWire}
use Rattle.law_recovery.specs.Outage.{AreKept, AreKeptCalm, CalmOutagesFrom, OutagesFrom, RunsThrough}
use Rattle.law_recovery.proofs.Lowered.{calm_on_wire, kept_on_wire}

module _ {C : Type 0} (link : C → Link (List ℕ)) (steps : C → Call (List ℕ) → C → Type 0) (whole_run : WholeRun link steps) (whole_line : WholeLine link steps) where
  -- a run with an outage, with the same lines before it
  pub record RunsAbove (titles : List (List ℕ)) (first at_s at_t0 last : World C) (script : List Line) (early lost late : List Event) (front : List Line) : Type 0 where
    pub there : World C
    pub mid : World C
    pub end : World C
    pub run : RunsThrough link steps whole titles first there mid end script early lost late
    pub same : run.front ≡ front
    pub there_is : at_s ≡ world_on_wire there
    pub mid_is : at_t0 ≡ world_on_wire mid
    pub end_is : last ≡ world_on_wire end

  pub run_above : (titles : List (List ℕ)) (first at_s at_t0 last : World C) (script : List Line) (early lost late : List Event) → AllByRecursion (λ (one : Placed). HasNoEnd one.entity) first.entities
      → (r : RunsThrough link steps wire titles first at_s at_t0 last script early lost late) → RunsAbove titles first at_s at_t0 last script early lost late r.front
  run_above titles first at_s at_t0 last script early lost late none r =
      let front = whole_run titles first r.front early at_s none r.front_run in
      let between = lines_above link steps whole_run whole_line titles r.between front.0 r.made r.old (subst (λ (w : World C). RunsLines link steps wire titles w r.between r.made r.old) front.2 r.between_run) in
      let settle = whole_line titles between.up lines.Settle r.here at_t0 (subst (λ (w : World C). RunsLine link steps wire titles w lines.Settle r.here at_t0) between.is r.settle_run) in
      let back = lines_above link steps whole_run whole_line titles r.after settle.0 late last (subst (λ (w : World C). RunsLines link steps wire titles w r.after late last) settle.2 r.late_run) in
      record {
        there = front.0;
        mid = settle.0;
        end = back.up;
        run = record {
          front = r.front;
          between = r.between;
          after = r.after;
          script_is = r.script_is;
          no_inject = r.no_inject;
          settled = r.settled;
          front_run = front.1;
          old = between.up;
          made = r.made;
          here = r.here;
          lost_is = r.lost_is;
          between_run = between.runs;
          settle_run = settle.1;
          none_left = subst (λ (w : World C). IsLeastFresh (link w.carrier) None) settle.2 r.none_left;
          late_run = back.runs;
          kept = r.kept;
          proper = r.proper;
          unrouted = r.unrouted;
        };
        same = refl;
        there_is = front.2;
        mid_is = settle.2;
        end_is = back.is;
      }

  module _ (titles : List (List ℕ)) (timers : Timers) (first at_s at_t0 last : World C) (script : List Line) (early lost late : List Event) (front : List Line)
      (above : RunsAbove titles first at_s at_t0 last script early lost late front) (journal : List Event) where
    kept_below : AreKept link timers above.there above.mid above.end journal lost late → AreKept link timers at_s at_t0 last journal lost late
    kept_below kept =
        subst (λ (w : World C). AreKept link timers w at_t0 last journal lost late) (sym above.there_is)
        (subst (λ (w : World C). AreKept link timers (world_on_wire above.there) w last journal lost late) (sym above.mid_is)
        (subst (λ (w : World C). AreKept link timers (world_on_wire above.there) (world_on_wire above.mid) w journal lost late) (sym above.end_is)
        (kept_on_wire link timers above.there above.mid above.end journal lost late kept)))

    calm_below : AreKeptCalm link timers above.there above.mid above.end journal lost late → AreKeptCalm link timers at_s at_t0 last journal lost late
    calm_below kept =
        subst (λ (w : World C). AreKeptCalm link timers w at_t0 last journal lost late) (sym above.there_is)
        (subst (λ (w : World C). AreKeptCalm link timers (world_on_wire above.there) w last journal lost late) (sym above.mid_is)
        (subst (λ (w : World C). AreKeptCalm link timers (world_on_wire above.there) (world_on_wire above.mid) w journal lost late) (sym above.end_is)
        (calm_on_wire link timers above.there above.mid above.end journal lost late kept)))

  outages_below : (titles : List (List ℕ)) (begins : C) → OutagesFrom link steps whole titles begins → OutagesFrom link steps wire titles begins
  outages_below titles begins kept timers made placed begun early lost late script first at_s at_t0 last begins_is timed low distinct have is_first untouched starts run =
      let none = subst (λ (w : World C). AllByRecursion (λ (one : Placed). HasNoEnd one.entity) w.entities) (sym starts.becomes) (no_ends titles placed is_first.entities) in
      let above = run_above titles first at_s at_t0 last script early lost late none run in
      kept_below titles timers first at_s at_t0 last script early lost late run.front above (begun ++ early)
      (kept timers made placed begun early lost late script first above.there above.mid above.end begins_is timed low distinct have is_first untouched starts above.run)

  calm_outages_below : (titles : List (List ℕ)) (begins : C) → CalmOutagesFrom link steps whole titles begins → CalmOutagesFrom link steps wire titles begins
  calm_outages_below titles begins kept timers made placed begun early lost late script first at_s at_t0 last begins_is timed low distinct have is_first untouched starts run none_left settled undropped =
      let none = subst (λ (w : World C). AllByRecursion (λ (one : Placed). HasNoEnd one.entity) w.entities) (sym starts.becomes) (no_ends titles placed is_first.entities) in
      let above = run_above titles first at_s at_t0 last script early lost late none run in
      calm_below titles timers first at_s at_t0 last script early lost late run.front above (begun ++ early)
      (kept timers made placed begun early lost late script first above.there above.mid above.end begins_is timed low distinct have is_first untouched starts above.run none_left
      (subst IsSettledScript (sym above.same) settled) undropped)

  pub on_wire : OutagesOnWire link steps
  on_wire titles begins = (outages_below titles begins, calm_outages_below titles begins)
