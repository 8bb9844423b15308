-- What a script promises the users of its network over an outage (X.214, queue model of the transport service; X.224, class 4: retransmission on time-out, inactivity control). Two end systems are
-- on one LAN. From one line on, at tick s, anything goes but an `inject` line, up to a `settle` that leaves nothing to deliver, at tick t0; behind it each line that does anything is followed by a
-- `settle`, and nothing is dropped. Where that outage is short, each two ends that were Opened and up to date at s are Opened still (`AreKept` of `law_recovery_run`).
use Rattle.std.specs.Prelude.{◌≡◌, ℕ, List, [], ◌∷◌, ◌++◌, None}
use Rattle.std.specs.List.{AllByRecursion}
use Rattle.osi_base.specs.Link.{IsLeastFresh}
use Rattle.script_journal.specs.declared.event.Event.{Event}
use Rattle.script_lines.specs.Injecting.{HasNoInject}
use Rattle.script_lines.specs.declared.line.Line.{Line}
use Rattle.script_lines.specs.declared.line.Line.TheVariants as lines
use Rattle.tp4_conn.specs.declared.timers.Timers.{Timers}
use Rattle.law_tp4_pair.specs.CalmScript.{IsOneLan, IsSettledScript}
use Rattle.law_recovery_run.specs.Kept.{AreKept, AreKeptCalm}
use Rattle.law_recovery_run.specs.Losses.{IsKept}
use Rattle.law_run.specs.World.{TransportNet, WorldRun, WorldRuns, link_of_net, running}

-- two end systems on one LAN; and after the start the lines up to tick s, those of the outage up to its `settle`, and those behind it, of which each that does anything is settled
pub record IsOutageScript (script : List Line) : Type 0 where
  pub setup : List Line
  pub front : List Line
  pub between : List Line
  pub after : List Line
  pub script_is : script ≡ setup ++ lines.Start ∷ ((front ++ between) ++ lines.Settle ∷ after)
  pub one_lan : IsOneLan setup
  pub no_inject : HasNoInject (front ++ between)
  pub settled : IsSettledScript after

-- up to tick s the lines have the first events and lead to the first network; those of the outage up to its `settle` have the next ones and lead to the second, in which it left nothing to deliver;
-- the lines since have the last ones, in which nothing was dropped, and lead to the last
pub record RunsThroughOutage (script : List Line) (titles : List (List ℕ)) (timers : Timers) (early lost late : List Event) (at_s at_t0 last : TransportNet) : Type 0 where
  pub parts : IsOutageScript script
  pub early_run : WorldRun (parts.setup ++ lines.Start ∷ parts.front) early (running titles timers at_s)
  pub lost_run : WorldRuns (running titles timers at_s) (parts.between ++ lines.Settle ∷ []) lost (running titles timers at_t0)
  pub none_left : IsLeastFresh (link_of_net at_t0.carrier) None
  pub late_run : WorldRuns (running titles timers at_t0) parts.after late (running titles timers last)
  pub kept : AllByRecursion IsKept late

-- What comes of it: of each two ends that were Opened and up to date at s (`kept`); and where up to s each line that did anything was settled, and nothing was dropped, of each two that were Opened
-- there (`calm`)
pub record KeepsThrough (t : Timers) (front : List Line) (early lost late : List Event) (at_s at_t0 last : TransportNet) : Type 0 where
  pub kept : AreKept link_of_net t at_s at_t0 last early lost late
  pub calm : IsSettledScript front → AllByRecursion IsKept early → AreKeptCalm link_of_net t at_s at_t0 last early lost late
