-- A network with its transport entities, over every network that a set-up makes and that tells: each line that is read is told.
use Rattle.std.proofs.Common.{◌≡◌, ◌<◌, ℕ, ◌+◌, true, List, length, Some, Ok, sym, subst, arith}
use Rattle.osi_base.specs.Link.{Link}
use Rattle.osi_base.specs.Calls.{Call, Keeps}
use Rattle.law_clnp_net.specs.Standing.{is_nsap}
use Rattle.line_loop.specs.Lines.{most_lines}
use Rattle.script_journal.specs.declared.event.Event.{Event}
use Rattle.script_lines.specs.declared.words.Dialect.{Dialect}
use Rattle.script_lines.specs.declared.line.Line.{Line}
use Rattle.script_lines.specs.declared.line.Line.TheVariants as lines
use Rattle.script_lines.specs.Grammar.{line_read}
use Rattle.script_lines.specs.Known.{Declared}
use Rattle.script_lines.specs.Names.{NamesDeclared}
use Rattle.script_lines.specs.Tags.{Tags, tags_of}
use Rattle.script_lines.proofs.LineNames.{line_named}
use Rattle.script_setup.specs.Fitting.{IsWell}
use Rattle.script_setup.specs.SetUp.{SetUp, titles_of as titles_said}
use Rattle.law_setup.specs.Entities.{entities_of}
use Rattle.law_setup.specs.Lines.{IsInOctets}
use Rattle.law_setup.specs.Networks.{NetworkLaws, SendsNoDatagrams}
use Rattle.script_world.specs.Plays.{Going, PlayLaws, Playing, world_acts}
use Rattle.script_world.specs.Transports.{RunsEnds, StartsEnds, TransportRun, tp_play}
use Rattle.script_world.specs.declared.play.World.{World}
use Rattle.law_setup.proofs.Placing.{entities_ready, titles_own}
use Rattle.script_world.specs.steps.Transported.{tp_going, tp_laws}
use Rattle.tp4_number.specs.Number.{wire}
use Rattle.tp4_world.specs.Run.{Starts}
use Rattle.tp4_world.specs.World.{World as TransportWorld}
use Rattle.law_told.specs.Reading.{IsLegible}
use Rattle.law_told.proofs.Carriers.{Tells}
use Rattle.law_told.proofs.Events.{EachFrom}
use Rattle.law_told.proofs.Lines.{LineSo, RunSo, line_told, start_told}
use Rattle.law_told.proofs.Numbers.{HasNumber, line_number}
use Rattle.law_told.proofs.Plays.{PartTold, PlayTells, as_many_systems, play_legible}
use Rattle.law_told.proofs.Starting.{first_few, first_low}
use Rattle.law_told.proofs.Worlds.{NamesSystems}

-- what is asked of a network: in a set of states it tells, and it begins in that set
pub record NetTells {N : Type 0} (link : N → Link (List ℕ)) (steps : N → Call (List ℕ) → N → Type 0) (makes : SetUp → N → Type 0) (Stands : Tags → N → Type 0) : Type 0 where
  pub tells : (tags : Tags) → Tells tags is_nsap link steps (Stands tags)
  pub begins : (tags : Tags) (setup : SetUp) (net : N) → length tags.systems ≡ length setup.systems → length tags.lans ≡ length setup.lans → IsWell setup → IsInOctets setup → makes setup net → Stands tags net

module _ {N : Type 0} (link : N → Link (List ℕ)) (steps : N → Call (List ℕ) → N → Type 0) (keeps : (old : N) (call : Call (List ℕ)) (new : N) → steps old call new → Keeps (link old) call (link new))
    (makes : SetUp → N → Type 0) (dialect : Dialect) (none_sent : SendsNoDatagrams dialect) (laws : NetworkLaws link steps makes) (Stands : Tags → N → Type 0) (net : NetTells link steps makes Stands) where
  -- a network that runs, after so many events
  abbrev pub IsRunning : Tags → ℕ → TransportWorld N → Type 0
  IsRunning tags n ends = RunSo tags is_nsap link steps keeps (Stands tags) (net.tells tags) laws.one_answer n ends

  abbrev pub IsLineTold : Tags → ℕ → List Event → TransportWorld N → Type 0
  IsLineTold tags n made ends = LineSo tags is_nsap link steps keeps (Stands tags) (net.tells tags) laws.one_answer n made ends

  -- it starts
  pub starts_told : (tags : Tags) (setup : SetUp) (first : N) (made : List Event) (ends : TransportWorld N) → length tags.systems ≡ length setup.systems → length tags.lans ≡ length setup.lans → IsWell setup → IsInOctets setup
      → makes setup first → Starts link steps first (entities_of setup) made ends → IsLineTold tags 0 made ends
  starts_told tags setup first made ends systems lans w o made_is starts =
      start_told tags is_nsap link steps keeps (Stands tags) (net.tells tags) laws.one_answer first (entities_of setup) made ends (net.begins tags setup first systems lans w o made_is)
      (entities_ready setup (link first).clock w (titles_own (titles_said setup) w.titles o.titles))
      (λ system e is. let low = first_low setup system e is in (omega (arith, low, systems), first_few setup system e is)) starts

  pub names_systems : (names : Declared) (line : Line) → NamesDeclared names line → HasNumber line → NamesSystems (tags_of names) is_nsap link steps keeps (Stands (tags_of names)) (net.tells (tags_of names)) wire line
  names_systems names (lines.Unit system to wish octets) named number = let low = named.0.0 in let count = as_many_systems names in omega (arith, low, count)
  names_systems names (lines.Deliver frame system) named number = let count = as_many_systems names in (omega (arith, number), omega (arith, named, count))
  names_systems names (lines.Inject lan system octets) named number = let low = named.1 in let count = as_many_systems names in omega (arith, low, count)
  names_systems names other named number = tt

  abbrev Plays : Playing (TransportRun N)
  Plays = tp_play link steps makes dialect

  abbrev Goes : Going (TransportRun N)
  Goes = tp_going link steps dialect

  abbrev Running : Tags → ℕ → TransportRun N → Type 0
  Running tags n run = IsRunning tags n run.ends

  play_laws : PlayLaws Plays Goes
  play_laws = tp_laws link steps keeps makes dialect none_sent laws

  starts_so : (tags : Tags) (setup : SetUp) (made : List Event) (first : TransportRun N) → length tags.systems ≡ length setup.systems → length tags.lans ≡ length setup.lans → IsWell setup → IsInOctets setup
      → StartsEnds link steps makes setup made first → PartTold Plays Goes Running tags 0 made first
  starts_so tags setup made first systems lans w o h =
      let t = starts_told tags setup h.0 made h.1 systems lans w o h.2 h.3 in
      record { events = t.events; run = subst (λ (run : TransportRun N). Running tags (0 + length made) run) (sym h.4) t.run }

  steps_so : (names declared : Declared) (old : TransportRun N) (count n : ℕ) (octets : List ℕ) (line : Line) (made : List Event) (new : TransportRun N) → names.started ≡ true → Goes.fits names old count
      → Running (tags_of names) n old → count < most_lines → line_read names octets ≡ Ok (record { line = line; names = declared }) → RunsEnds link steps old line made new → PartTold Plays Goes Running (tags_of names) n made new
  steps_so names declared old count n octets line made new begun fits told few is h =
      let may = play_laws.read_runs names declared old count octets line begun fits few is in
      let s = line_told (tags_of names) is_nsap link steps keeps (Stands (tags_of names)) (net.tells (tags_of names)) laws.one_answer n old.titles old.ends h.0 line made told may.1
      (names_systems names line (line_named names octets (record { line = line; names = declared }) is) (line_number names octets line declared is)) h.1 in
      record { events = s.events; run = subst (λ (run : TransportRun N). Running (tags_of names) (n + length made) run) (sym h.2) s.run }

  tells_play : PlayTells Plays Goes Running
  tells_play = record { starts = starts_so; steps = steps_so }

  pub transport_legible : (Claim : List Line → List Event → World (TransportRun N) → Type 0) → IsLegible (world_acts (tp_play link steps makes dialect)) Claim
  transport_legible Claim = play_legible Plays Goes play_laws Running tells_play Claim
