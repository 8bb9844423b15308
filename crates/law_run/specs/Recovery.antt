-- What a script promises the users of its network once nothing is lost any more (X.214, queue model of the transport service). Two end systems are on one LAN; from one `settle` on each line that
-- does anything is followed by a `settle`, and nothing is dropped. Before it anything goes, but an `inject` line. Then each two ends that were Opened at that `settle` are so still, and from as
-- many ticks on as the longer of T1 and W have shown all that the other submitted; or one of them went, by its user or for a named cause (`Recovered` of `law_recovery_run`).
use Rattle.std.specs.Prelude.{◌≡◌, ℕ, List, [], ◌∷◌, ◌++◌, None}
use Rattle.std.specs.List.{AllByRecursion}
use Rattle.osi_base.specs.Link.{IsLeastFresh}
use Rattle.script_journal.specs.declared.event.Event.{Event}
use Rattle.script_lines.specs.declared.line.Line.{Line}
use Rattle.script_lines.specs.declared.line.Line.TheVariants as lines
use Rattle.tp4_conn.specs.declared.timers.Timers.{Timers}
use Rattle.law_tp4_pair.specs.CalmScript.{IsOneLan}
use Rattle.law_recovery_run.specs.Run.{Recovers}
use Rattle.law_recovery_run.specs.Losses.{IsKept}
use Rattle.law_run.specs.World.{TransportNet, WorldRun, WorldRuns, link_of_net, running}

-- two end systems on one LAN; and after the start, from one `settle` on, each line that does anything is settled, and none before it is an `inject` line
pub record IsRecoveringScript (script : List Line) : Type 0 where
  pub setup : List Line
  pub run : List Line
  pub script_is : script ≡ setup ++ lines.Start ∷ run
  pub one_lan : IsOneLan setup
  pub recovers : Recovers run

-- up to that `settle` the lines have these events, and lead to this network, in which it left nothing to deliver; the lines since have those, in which nothing was dropped, and lead to that one
pub record RunsRecovering (script : List Line) (titles : List (List ℕ)) (timers : Timers) (early late : List Event) (at_t0 last : TransportNet) : Type 0 where
  pub parts : IsRecoveringScript script
  pub early_run : WorldRun (parts.setup ++ lines.Start ∷ (parts.recovers.before ++ lines.Settle ∷ [])) early (running titles timers at_t0)
  pub none_left : IsLeastFresh (link_of_net at_t0.carrier) None
  pub late_run : WorldRuns (running titles timers at_t0) parts.recovers.after late (running titles timers last)
  pub kept : AllByRecursion IsKept late
