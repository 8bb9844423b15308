-- A line of a history that was reached is traffic that some events lead to from its start.
use Rattle.std.proofs.Common.{◌≡◌, ℕ, ◌+◌, ◌≤◌, true, List, [], ◌∷◌, sym, ap, subst}
use Rattle.tp4_number.specs.Traffic.{Event, Leads, Rules, Tick}
use Rattle.law_tp4_history.specs.Ends.{IsFit, Times}
use Rattle.law_tp4_history.specs.Line.{Clock, Expedites, Flows, Happening, Line, Runs, Submit, empty, next}
use Rattle.law_tp4_history.specs.Tracks.{IsRun, LeadsAll, Moment, ReachedAll, Track, Whole, onward}
use Rattle.law_tp4_history.proofs.Agreed.{Agreed, agreed_start, agreed_step}
use Rattle.law_tp4_history.proofs.Sound.{Sound}
use Rattle.law_tp4_history.proofs.Steps.{sound_start, sound_step}
use Rattle.law_tp4_history.proofs.Tracked.{Tracked, tracked_start, tracked_step}
use Rattle.law_recovery_pair.specs.Speaking.{Knows, Speaks}
use Rattle.law_recovery_pair.specs.Views.{AreViews}
use Rattle.law_recovery_pair.proofs.Speaking.{all_speak, views_known}
use Rattle.law_recovery_world.specs.Reached.{IsReachedLine}

-- what happens in a line to DTs and AKs are events of its traffic
run_leads : (rules : Rules) (size : ℕ) (old new : Line) (happenings : List Happening) → Runs rules size old happenings new → (events : List Event) × Leads rules old.world events new.world
run_leads rules size old new [] r = ([], ap (λ (l : Line). l.world) r)
run_leads rules size old new (Submit unit ∷ happenings) r = run_leads rules size (next rules old (Submit unit)) new happenings r.1
run_leads rules size old new (Clock ∷ happenings) r = let q = run_leads rules size (next rules old Clock) new happenings r.1 in (Tick ∷ q.0, (tt, q.1))
run_leads rules size old new (Flows event ∷ happenings) r = let q = run_leads rules size (next rules old (Flows event)) new happenings r.1 in (event ∷ q.0, (r.0.0, q.1))
run_leads rules size old new (Expedites event ∷ happenings) r = run_leads rules size (next rules old (Expedites event)) new happenings r.1

tracked_by : (times : Times) (fit : IsFit times) (old w : Whole) (moments : List Moment) → LeadsAll times old moments w → Sound times old.base → Agreed old.base → Tracked times old → Tracked times w
tracked_by times fit old w [] l s a t = subst (Tracked times) (sym l) t
tracked_by times fit old w (m ∷ ms) l s a t = tracked_by times fit (onward times old m) w ms l.1 (sound_step times fit old.base m.step l.0.0 s) (agreed_step times fit old.base s a m.step l.0.0) (tracked_step times old s t fit a m.step m.doing l.0.0 l.0.1)

module _ (times : Times) (w : Whole) (x : ℕ) (fit : IsFit times) (reached : ReachedAll times w) (begun : (w.track x).is_begun ≡ true) where
  is_run : IsRun times w.base.clock (w.track x)
  is_run = (tracked_by times fit reached.0 w reached.2 reached.3 (subst (Sound times) (sym reached.1.base) (sound_start times reached.1.end)) (subst Agreed (sym reached.1.base) (agreed_start reached.1.end))
      (tracked_start times reached.0 reached.1)).run x begun

  pub reached_line : IsReachedLine (w.track x)
  reached_line =
      let t : Track = w.track x in
      let l = run_leads t.rules t.size (empty t.tick t.credit t.places t.room) t.line is_run.happenings is_run.runs in
      record { long = is_run.long; credit_low = is_run.credit_low; room_low = is_run.room_low; events = l.0; leads = l.1 }

  pub line_speaks : Speaks (w.track x).room (w.track x).line.world
  line_speaks = let t : Track = w.track x in all_speak t.rules t.tick t.credit t.places t.room reached_line.events t.line.world reached_line.leads

  pub line_views : Knows (w.track x).room (w.track x).line.world → (w.track x).line.world.sender.next ≤ (w.track x).line.world.sender.base + (w.track x).line.world.sender.credit → AreViews (w.track x).line.world
  line_views knows edge = views_known (w.track x).room (w.track x).line.world line_speaks knows edge
