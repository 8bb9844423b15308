-- Laws of scripts whose networks lose nothing any more (X.213, queue model of the network connectionless-mode service; X.214, queue model of the transport service).
use Rattle.std.specs.Prelude.{ℕ, List, ◌≡◌, ◌⊎◌, ◌<◌, Ok}
use Rattle.nsap.specs.declared.port.Port.{Port}
use Rattle.lan_step.specs.declared.row.PortRow.{PortRow}
use Rattle.clnp_system.specs.Setting.{Setting}
use Rattle.law_clnp_net.specs.Calm.{IsCalmNet, titles_of}
use Rattle.law_clnp_net.specs.Reached.{Reached}
use Rattle.law_clnp_net.specs.Waiting.{Waits}
use Rattle.net_world.specs.Prompt.{IsPrompt}
use Rattle.script_journal.specs.declared.event.Event.{Event}
use Rattle.script_lines.specs.Known.{Declared, nothing_declared}
use Rattle.script_lines.specs.Script.{Says, Script}
use Rattle.script_lines.specs.declared.line.Line.{Line}
use Rattle.script_lines.specs.declared.words.Dialect.TheVariants as dialects
use Rattle.tp4_conn.specs.declared.timers.Timers.{Timers}
use Rattle.law_recovery_run.specs.Ordered.{ReachedFrom}
use Rattle.law_recovery.specs.Service.{AsksFrom}
use Rattle.law_recovery.specs.Runs.{FollowsFrom}
use Rattle.law_recovery_run.specs.Service.{RecoversFrom}
use Rattle.law_run.specs.World.{Net, NetDoes, TransportNet, link_of_net}
use Rattle.law_run.specs.Outage.{KeepsThrough, RunsThroughOutage}
use Rattle.law_run.specs.Recovery.{RunsRecovering}
use Rattle.law_run.specs.Serving.{ServesAgain}
use Rattle.law_run.specs.Transcript.{KeptThroughOutages, RecoversWhereKept}
use Rattle.law_recovery_scripts.specs.Nets.{OnNets}
use Rattle.osi_base.specs.Calls.{Call}
use Rattle.osi_base.specs.Link.{Link}
use Rattle.tp4_number.specs.Number.{whole}
use Rattle.tp4_conn.specs.declared.states.InOpened.{InOpened}
use Rattle.script_lines.specs.declared.words.Dialect.{Dialect}
use Rattle.script_lines.specs.Grammar.{line_read}
use Rattle.script_setup.specs.SetUp.{SetUp, nothing_said, set_up, timers_of}
use Rattle.law_tp4_pair.specs.Pair.{Happening, Leads, Pair}
use Rattle.tp4_world.specs.World.{World}
use Rattle.law_tp4_lawful.specs.Called.{AreHonestCalls}
use Rattle.law_recovery_steps.specs.Going.{AreBothOpened, AreTicked, HasParted}
use Rattle.law_recovery_world.specs.Partners.{IsArrival, IsPairOf}
use Rattle.law_recovery_scripts.specs.Ordered.{AreOrdered, set_up_by}

-- ---- networks

-- a network of two end systems on one LAN, from its start on
abbrev pub NetsArePrompt : Type 0
NetsArePrompt = (rows : List PortRow) (first second : Setting) (here there : Port) (begins : Net) → IsCalmNet rows first second here there → Reached rows first second begins
    → IsPrompt link_of_net NetDoes (titles_of first second) (ReachedFrom link_of_net NetDoes (titles_of first second) begins) (Waits rows first second here there)

-- the ends of each run of such a network recover
abbrev pub NetsRecover : (ℕ → ℕ → ℕ) → Type 0
NetsRecover wrap = OnNets (λ titles begins. RecoversFrom link_of_net NetDoes wrap titles begins)

-- each end in CrWait is answered, or waits for its called user alone
abbrev pub NetsAsk : (ℕ → ℕ → ℕ) → Type 0
NetsAsk wrap = OnNets (λ titles begins. AsksFrom link_of_net NetDoes wrap titles begins)

-- and no end is left beside a partner that had left
abbrev pub NetsFollow : (ℕ → ℕ → ℕ) → Type 0
NetsFollow wrap = OnNets (λ titles begins. FollowsFrom link_of_net NetDoes wrap titles begins)

-- ---- scripts

-- and so it is of each script whose lines were read
abbrev pub ScriptsRecover : Type 0
ScriptsRecover = (texts : List (List ℕ)) (script : List Line) (names : Declared) (titles : List (List ℕ)) (timers : Timers) (early late : List Event) (at_t0 last : TransportNet)
    → Says (nothing_declared dialects.Run) texts script names → RunsRecovering script titles timers early late at_t0 last → ServesAgain timers at_t0 last early late

-- whatever octets are read
abbrev pub OctetsRecover : Type 0
OctetsRecover = (octets : List ℕ) → RecoversWhereKept octets

-- a short outage of such a script ends no connection that was up to date before it
abbrev pub ScriptsKept : Type 0
ScriptsKept = (texts : List (List ℕ)) (script : List Line) (names : Declared) (titles : List (List ℕ)) (timers : Timers) (early lost late : List Event) (at_s at_t0 last : TransportNet)
    → Says (nothing_declared dialects.Run) texts script names → (runs : RunsThroughOutage script titles timers early lost late at_s at_t0 last)
    → KeepsThrough timers runs.parts.front early lost late at_s at_t0 last

-- whatever octets are read
abbrev pub OctetsKept : Type 0
OctetsKept = (octets : List ℕ) → KeptThroughOutages octets

-- ---- w is less than I after each line of a script that was read (X.224, inactivity control, explicit flow control)

abbrev pub LinesKeepOrder : Type 0
LinesKeepOrder = (names : Declared) (setup : SetUp) (octets : List ℕ) (line : Line) (new : Declared) → AreOrdered names setup
    → line_read names octets ≡ Ok (record { line = line; names = new }) → AreOrdered new (set_up setup line)

-- so it is for the timers that the lines of a script lead to, in each dialect
abbrev pub ScriptsAreOrdered : Type 0
ScriptsAreOrdered = (dialect : Dialect) (texts : List (List ℕ)) (script : List Line) → Script dialect texts script
    → (timers_of (set_up_by nothing_said script).life (set_up_by nothing_said script).limits).window < (timers_of (set_up_by nothing_said script).life (set_up_by nothing_said script).limits).inactive

-- So of two partners that are Opened after some calls of a network with the timers of such a script, whatever happens to the two in order from there on, with a tick of each where it is due:
-- both are Opened, or the first that left did so for a cause that is of that tick or before, and not for what came, and its partner follows
abbrev pub ScriptsPart : {C : Type 0} → (C → Link (List ℕ)) → (C → Call (List ℕ) → C → Type 0) → Type 0
ScriptsPart {C} link steps = (dialect : Dialect) (texts : List (List ℕ)) (script : List Line) → Script dialect texts script
    → (timers : Timers) → timers ≡ timers_of (set_up_by nothing_said script).life (set_up_by nothing_said script).limits
    → (titles : List (List ℕ)) (journal : List Event) (first : World C) → AreHonestCalls link steps whole titles timers journal first
    → (x y : ℕ) (p last : Pair) (o q : InOpened) (happenings : List Happening) → IsPairOf link journal first x y p o q
    → AreTicked p happenings → Leads p happenings last → AreBothOpened last ⊎ ((h : HasParted timers p.clock o q p happenings last) × (IsArrival h.happening → ⊥))
