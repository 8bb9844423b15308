-- What `run` writes for a script: the transcript of the run of the network, and what is claimed of it.
use Rattle.std.specs.Prelude.{◌≡◌, ℕ, ◌+◌, ◌<◌, ◌≤◌, List, length, take, None}
use Rattle.osi_base.specs.declared.status.Status.{Status}
use Rattle.script_journal.specs.declared.event.Event.{Event}
use Rattle.script_lines.specs.declared.line.Line.{Line}
use Rattle.line_loop.specs.Course.{Runs}
use Rattle.line_loop.specs.Limits.{most_octets, most_read}
use Rattle.line_loop.specs.Outcome.{Outcome}
use Rattle.script_lines.specs.Known.{nothing_declared}
use Rattle.script_lines.specs.Script.{Says}
use Rattle.law_tp4_pair.specs.CalmScript.{IsCalmScript}
use Rattle.script_bench.specs.Claims.{AllLines, IsRun as IsRunOf, ToLimit, ToLimitAtEnd, WholeLines, lines_handled as lines_handled_of, lines_run as lines_run_of}
pub use Rattle.script_bench.specs.Claims.{texts_in}
use Rattle.script_bench.specs.Told.{OutcomeRun as OutcomeRunOf, RanScript as RanScriptOf}
use Rattle.script_lines.specs.declared.words.Dialect.TheVariants as dialects
use Rattle.law_run.specs.Bench.{Bench, first_bench, bench_meaning, most_events}
use Rattle.law_run.specs.Calm.{ServesUsers}
use Rattle.law_run.specs.Outage.{KeepsThrough, RunsThroughOutage}
use Rattle.law_run.specs.Recovery.{RunsRecovering}
use Rattle.law_run.specs.Serving.{ServesAgain}
use Rattle.law_run.specs.World.{TransportNet, frozen_of, life_of, running, strays_of, titles_of, world_acts, WorldRun}
use Rattle.script_journal.specs.Lawful.{Lawful}
use Rattle.script_journal.specs.Silence.{KeepsSilence}
use Rattle.script_journal.specs.RawLawful.{RawLawful}
use Rattle.line_loop.specs.Writing.{IsPrefix}
use Rattle.tp4_conn.specs.declared.timers.Timers.{Timers}

-- the texts are the lines of a script, and by the run of the network they have this journal and leave that network; where that tells no
-- strays, since none of them is an `inject` line that was taken, each raw unit that is shown was sent
pub record IsScriptRun (texts : List (List ℕ)) (journal : List Event) (last : Bench) : Type 0 where
  pub script : List Line
  pub lines : Says (nothing_declared dialects.Run) texts script last.names
  pub run : WorldRun script journal last.world
  pub sent : strays_of last.world ≡ None → RawLawful (life_of last.world) (titles_of last.world) journal

-- the texts are the lines of a script whose journal by the run of the network is longer than a journal may be, and this is its front
pub record IsFilledRun (texts : List (List ℕ)) (journal : List Event) (last : Bench) : Type 0 where
  pub whole : List Event
  pub run : IsScriptRun texts whole last
  pub over : most_events < length whole
  pub journal_is : journal ≡ take most_events whole
  pub sent : strays_of last.world ≡ None → RawLawful (life_of last.world) (titles_of last.world) journal

-- where what was written is a transcript or a front of it: the lines whose journal it tells are a script, and it is that of the run of the network
abbrev pub OutcomeRun : (end : Type 0) (read written : List ℕ) (status : Status) → Outcome bench_meaning end first_bench read written status → Type 0
OutcomeRun = OutcomeRunOf world_acts IsScriptRun IsFilledRun

-- how far octets were run: to the end of the lines that have their line feed, to the end of all lines, or to a limit
abbrev pub IsRun : List ℕ → List Event → Bench → Type 0
IsRun = IsRunOf world_acts

-- the lines of octets that were run are a script, and their journal is that of the run of the network, or its front at a limit
abbrev pub RanScript : (octets : List ℕ) (journal : List Event) (last : Bench) → IsRun octets journal last → Type 0
RanScript = RanScriptOf world_acts IsScriptRun IsFilledRun

-- whatever front of the octets was run: a script was run, and where no line of it is an `inject` line that was taken, each raw unit that is
-- shown was sent
abbrev pub ShowsSentUnits : List ℕ → Type 0
ShowsSentUnits octets = (front : List ℕ) (journal : List Event) (last : Bench) → IsPrefix front octets → (run : IsRun front journal last) → RanScript front journal last run

-- the lines that ran
abbrev pub lines_run : (first : Bench) (texts : List (List ℕ)) (journal : List Event) (last : Bench) → Runs bench_meaning first texts journal last → List Line
lines_run = lines_run_of world_acts

-- the lines of the octets that were handled
abbrev pub lines_handled : (octets : List ℕ) (journal : List Event) (last : Bench) → IsRun octets journal last → List Line
lines_handled = lines_handled_of world_acts

-- whatever front of the octets was run: where no line handled is an `inject` line that was taken, and so no strays are told, the journal is
-- lawful, and so is each front of it. Each connect indication has one request, which says the same: its partner. What an end shows of the
-- connection is a front, in order, of what its partner submitted, of normal units and of expedited ones, and no normal unit comes before an
-- expedited one that was submitted before it. An end without a partner shows nothing
abbrev pub ShowsWhatWasSubmitted : List ℕ → Type 0
ShowsWhatWasSubmitted octets = (front : List ℕ) (journal : List Event) (last : Bench) → IsPrefix front octets
    → IsRun front journal last → strays_of last.world ≡ None → Lawful (frozen_of last.world) (titles_of last.world) journal

-- whatever front of the octets was run, also where frames are injected: after a `restart` line of a system nothing is told of the ends that it had, and it makes
-- none for as long as references are frozen
abbrev pub ShowsSilence : List ℕ → Type 0
ShowsSilence octets = (front : List ℕ) (journal : List Event) (last : Bench) → IsPrefix front octets → (run : IsRun front journal last) → KeepsSilence (frozen_of last.world) journal

-- the lines ran whole: none went past a limit
abbrev pub RanWhole : (octets : List ℕ) (journal : List Event) (last : Bench) → IsRun octets journal last → Type 0
RanWhole octets journal last (WholeLines read) = Unit {0}
RanWhole octets journal last (AllLines whole) = Unit {0}
RanWhole octets journal last (ToLimit past) = ⊥
RanWhole octets journal last (ToLimitAtEnd past) = ⊥

-- whatever front of the octets was run whole: where its lines are a calm script, nothing is missing after them, as long as nothing was dropped
abbrev pub ServesWhereCalm : List ℕ → Type 0
ServesWhereCalm octets = (front : List ℕ) (journal : List Event) (last : Bench) → IsPrefix front octets → (run : IsRun front journal last) → RanWhole front journal last run
    → (titles : List (List ℕ)) (timers : Timers) (ends : TransportNet) → last.world ≡ running titles timers ends → IsCalmScript (lines_handled front journal last run) → ServesUsers last.names journal titles ends

-- whatever front of the octets was run whole: where its lines are such a script and ran so, its ends recover; each that waited for an answer has it, or waits for its called user alone, or went; and
-- none is left beside a partner that had left
abbrev pub RecoversWhereKept : List ℕ → Type 0
RecoversWhereKept octets = (front : List ℕ) (journal : List Event) (last : Bench) → IsPrefix front octets → (run : IsRun front journal last) → RanWhole front journal last run
    → (titles : List (List ℕ)) (timers : Timers) (early late : List Event) (at_t0 ends : TransportNet) → RunsRecovering (lines_handled front journal last run) titles timers early late at_t0 ends
    → ServesAgain timers at_t0 ends early late

-- whatever front of the octets was run whole: where its lines are a script with an outage and ran so, a short one ends no connection that was up to date before it
abbrev pub KeptThroughOutages : List ℕ → Type 0
KeptThroughOutages octets = (front : List ℕ) (journal : List Event) (last : Bench) → IsPrefix front octets → (run : IsRun front journal last) → RanWhole front journal last run
    → (titles : List (List ℕ)) (timers : Timers) (early lost late : List Event) (at_s at_t0 ends : TransportNet)
    → (runs : RunsThroughOutage (lines_handled front journal last run) titles timers early lost late at_s at_t0 ends) → KeepsThrough timers runs.parts.front early lost late at_s at_t0 ends

-- of the octets read, what was written is told as the status says, and tells the run of the network for the lines of the
-- script; whatever part of the octets was run, each raw unit that is shown was sent, and each end shows what its partner submitted,
-- unless a frame was injected; a system that began again is silent; where the lines are calm, nothing is missing; where they lose nothing any more, ends recover, and none goes by a short
-- outage; and no more was read than an input may have, and one read more
pub record IsTranscript (end : Type 0) (read written : List ℕ) (status : Status) : Type 0 where
  pub outcome : Outcome bench_meaning end first_bench read written status
  pub run : OutcomeRun end read written status outcome
  pub sent : ShowsSentUnits read
  pub lawful : ShowsWhatWasSubmitted read
  pub silent : ShowsSilence read
  pub calm : ServesWhereCalm read
  pub recovers : RecoversWhereKept read
  pub outages : KeptThroughOutages read
  pub within : length read ≤ most_octets + most_read
