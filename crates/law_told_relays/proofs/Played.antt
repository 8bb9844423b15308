-- A script with relays, over every network that a set-up makes and that tells: each line that is read is told.
use Rattle.std.proofs.Common.{◌≡◌, ◌<◌, ℕ, ◌+◌, true, List, length, Ok, refl, sym, subst}
use Rattle.osi_base.specs.Link.{Link}
use Rattle.osi_base.specs.Calls.{Call, Keeps}
use Rattle.line_loop.specs.Lines.{most_lines}
use Rattle.law_clnp_net.specs.Standing.{is_nsap}
use Rattle.script_journal.specs.declared.event.Event.{Event}
use Rattle.script_lines.specs.declared.words.Dialect.TheVariants as dialects
use Rattle.script_lines.specs.declared.line.Line.{Line}
use Rattle.script_lines.specs.Grammar.{line_read}
use Rattle.script_lines.specs.Known.{Declared}
use Rattle.script_lines.specs.Tags.{Tags, tags_of}
use Rattle.script_lines.proofs.LineNames.{line_named}
use Rattle.script_setup.specs.Fitting.{IsWell}
use Rattle.script_setup.specs.SetUp.{SetUp}
use Rattle.law_setup.specs.Lines.{IsInOctets}
use Rattle.law_setup.specs.Networks.{NetworkLaws, SendsNoDatagrams}
use Rattle.script_world.specs.Plays.{Going, PlayLaws, Playing, world_acts}
use Rattle.script_world.specs.declared.play.World.{World as WorldOf}
use Rattle.law_setup.proofs.Sending.{no_datagrams}
use Rattle.tp4_world.specs.World.{World}
use Rattle.law_relay.specs.Relays.{RelayRun, RunsRelays, StartsRelays, part_of, relay_play}
use Rattle.law_relay.proofs.Played.{FitsRun, relay_going, relay_laws}
use Rattle.law_told.specs.Reading.{IsLegible}
use Rattle.law_told.proofs.Numbers.{line_number}
use Rattle.law_told.proofs.Plays.{PartTold, PlayTells, play_legible}
use Rattle.law_told.proofs.Transports.{IsRunning, NetTells, names_systems, starts_told}
use Rattle.law_told_relays.proofs.Pumps.{part_told}

none_sent : SendsNoDatagrams dialects.Relay
none_sent = no_datagrams dialects.Relay (λ system selector to called octets has. has)

module _ {N : Type 0} (link : N → Link (List ℕ)) (steps : N → Call (List ℕ) → N → Type 0) (keeps : (old : N) (call : Call (List ℕ)) (new : N) → steps old call new → Keeps (link old) call (link new))
    (makes : SetUp → N → Type 0) (laws : NetworkLaws link steps makes) (Stands : Tags → N → Type 0) (net : NetTells link steps makes Stands) where
  abbrev Plays : Playing (RelayRun N)
  Plays = relay_play link steps makes

  abbrev Goes : Going (RelayRun N)
  Goes = relay_going link steps

  play_laws : PlayLaws Plays Goes
  play_laws = relay_laws link steps keeps makes laws

  abbrev Running : Tags → ℕ → RelayRun N → Type 0
  Running tags n run = IsRunning link steps keeps makes dialects.Relay none_sent laws Stands net tags n run.ends

  starts_so : (tags : Tags) (setup : SetUp) (made : List Event) (first : RelayRun N) → length tags.systems ≡ length setup.systems → length tags.lans ≡ length setup.lans → IsWell setup → IsInOctets setup
      → StartsRelays link steps makes setup made first → PartTold Plays Goes Running tags 0 made first
  starts_so tags setup made first systems lans w o h =
      let t = starts_told link steps keeps makes dialects.Relay none_sent laws Stands net tags setup h.0 made h.1 systems lans w o h.2 h.3 in
      record { events = t.events; run = subst (λ (run : RelayRun N). Running tags (0 + length made) run) (sym h.4) t.run }

  steps_so : (names declared : Declared) (old : RelayRun N) (count n : ℕ) (octets : List ℕ) (line : Line) (made : List Event) (new : RelayRun N) → names.started ≡ true → FitsRun link steps names old count
      → Running (tags_of names) n old → count < most_lines → line_read names octets ≡ Ok (record { line = line; names = declared }) → RunsRelays link steps old line made new → PartTold Plays Goes Running (tags_of names) n made new
  steps_so names declared old count n octets line made new begun fits told few is h =
      let e = play_laws.read_runs names declared old count octets line begun fits few is in
      let s = part_told (tags_of names) link steps keeps (Stands (tags_of names)) (net.tells (tags_of names)) laws.one_answer old.titles (part_of line) n old line made h.0 h.1 refl e.listed
      (record { run = told; holds = fits.holds; credit = fits.plays.credit; leads = fits.leads; rows = fits.rows; pairs = fits.pairs }) fits.plays e.there
      (names_systems link steps keeps makes dialects.Relay none_sent laws Stands net names line (line_named names octets (record { line = line; names = declared }) is) (line_number names octets line declared is)) h.2 in
      record { events = s.events; run = subst (λ (run : RelayRun N). Running (tags_of names) (n + length made) run) (sym h.3) s.run }

  tells_play : PlayTells Plays Goes Running
  tells_play = record { starts = starts_so; steps = steps_so }

  pub relays_legible : (Claim : List Line → List Event → WorldOf (RelayRun N) → Type 0) → IsLegible (world_acts Plays) Claim
  relays_legible Claim = play_legible Plays Goes play_laws Running tells_play Claim
