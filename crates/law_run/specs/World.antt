-- The network of a script: what was set up, and from its start on the systems over the LANs with their transport entities; and what each
-- line does to it.
use Rattle.std.specs.Prelude.{◌≡◌, ℕ, Bool, List, Option}
use Rattle.tp4_conn.specs.declared.timers.Timers.{Timers}
use Rattle.tp4_number.specs.Number.{wire}
use Rattle.tp4_world.specs.Run.{RunsLine, Starts}
use Rattle.tp4_world.specs.World.{World as TransportWorld}
use Rattle.script_journal.specs.declared.event.Event.{Event}
use Rattle.script_lines.specs.declared.words.Dialect.TheVariants as dialects
use Rattle.script_lines.specs.declared.line.Line.{Line}
use Rattle.script_setup.specs.SetUp.{SetUp, timers_of, titles_of as titles_said}
use Rattle.law_setup.specs.Entities.{entities_of}
use Rattle.script_bench.specs.Acts.{Acts, RunsScript}
pub use Rattle.script_bench.specs.Script.{is_start}
use Rattle.law_setup.specs.ClnpNets.{MakesNet}
pub use Rattle.law_setup.specs.ClnpNets.{Net, NetDoes, link_of_net}
use Rattle.script_world.specs.Plays.{Playing, SetsUp as SetsUpOf, StartsUp as StartsUpOf, WorldStep as WorldStepOf, first_world as first_of, strays_of as strays_in_play, world_acts as acts_of}
pub use Rattle.script_world.specs.Transports.{frozen_of, life_of, titles_of}
use Rattle.script_world.specs.Transports.{TransportRun, tp_play}
use Rattle.script_world.specs.declared.play.World.{World as WorldOf}
use Rattle.script_world.specs.declared.play.World.TheVariants.{Running}

-- that network with its transport entities, and the ends that were made
abbrev pub TransportNet : Type 0
TransportNet = TransportWorld Net

-- it starts of what was set up, and then runs
abbrev pub net_play : Playing (TransportRun Net)
net_play = tp_play link_of_net NetDoes MakesNet dialects.Run

abbrev pub World : Type 0
World = WorldOf (TransportRun Net)

-- it runs, with the titles of its systems and the times of their transport entities
abbrev pub running : List (List ℕ) → Timers → TransportNet → World
running titles timers ends = Running (record { titles = titles; timers = timers; ends = ends })

-- nothing was said yet
abbrev pub first_world : World
first_world = first_of

-- how many arrivals equalled no unit afloat, where an `inject` line was taken; else none are told
abbrev pub strays_of : World → Option ℕ
strays_of = strays_in_play net_play

-- the systems are made over the LANs with their transport entities, and send their first hellos at tick 0
abbrev pub StartsUp : SetUp → List Event → World → Type 0
StartsUp = StartsUpOf net_play

-- `start` ends the set-up, and another line adds to it
abbrev pub SetsUp : Bool → SetUp → Line → List Event → World → Type 0
SetsUp = SetsUpOf net_play

-- what a line does: the network before it, the events, the network after it
abbrev pub WorldStep : World → Line → List Event → World → Type 0
WorldStep = WorldStepOf net_play

-- the network as a stage of a script
abbrev pub world_acts : Acts World
world_acts = acts_of net_play

-- the lines have these events, one after another
abbrev pub WorldRuns : World → List Line → List Event → World → Type 0
WorldRuns = RunsScript world_acts

-- from nothing said, the lines have this journal, and leave this network
abbrev pub WorldRun : List Line → List Event → World → Type 0
WorldRun script journal last = WorldRuns first_world script journal last

-- what started, with the network that was made
abbrev pub Started : SetUp → List Event → World → Type 0
Started setup made new =
    (net : Net) × (first : TransportNet) × MakesNet setup net × Starts link_of_net NetDoes net (entities_of setup) made first × (new ≡ running (titles_said setup) (timers_of setup.life setup.limits) first)

-- what a line of a running network does to its ends
abbrev pub RunsOn : List (List ℕ) → Timers → TransportNet → Line → List Event → World → Type 0
RunsOn titles timers old line made new = (ends : TransportNet) × RunsLine link_of_net NetDoes wire titles old line made ends × (new ≡ running titles timers ends)
