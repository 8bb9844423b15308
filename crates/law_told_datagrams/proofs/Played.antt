-- A script of datagrams, over every network that a set-up makes and that tells: each line that is read is told.
use Rattle.std.proofs.Common.{◌≡◌, ◌<◌, ◌≤◌, ℕ, ◌+◌, Bool, true, false, List, [], ◌∷◌, length, Ok, refl, sym, subst, arith, if◌then◌else◌}
use Rattle.std.specs.Prelude.{slice_get, Some}
use Rattle.std.specs.List.{AllByRecursion}
use Rattle.osi_base.specs.Link.{Link}
use Rattle.osi_base.specs.Calls.{Call, Keeps}
use Rattle.osi_base.proofs.Members.{all_both}
use Rattle.law_clnp_net.specs.Standing.{is_nsap}
use Rattle.law_clnp_net.proofs.answered.Carrying.{nsap_passes}
use Rattle.line_loop.specs.Lines.{most_lines}
use Rattle.cltp.specs.Run.{Delivering, Sending, Settling, Ticking}
use Rattle.cltp.specs.Systems.{World}
use Rattle.cltp.specs.Total.{CanSend}
use Rattle.cltp.specs.declared.system.ClSystem.{ClSystem}
use Rattle.script_journal.specs.declared.event.Event.{Event}
use Rattle.script_lines.specs.declared.line.Line.{Line}
use Rattle.script_lines.specs.declared.line.Line.TheVariants as lines
use Rattle.script_lines.specs.Grammar.{line_read}
use Rattle.script_lines.specs.Known.{Declared, is_end}
use Rattle.script_lines.specs.Names.{NamesDeclared}
use Rattle.script_lines.specs.Tags.{Tags, tags_of}
use Rattle.script_lines.proofs.LineNames.{line_named}
use Rattle.script_setup.specs.Fitting.{IsWell}
use Rattle.script_setup.specs.SetUp.{System, SetUp}
use Rattle.script_setup.proofs.Elements.{at, there}
use Rattle.law_setup.specs.Lines.{IsInOctets, LineInOctets}
use Rattle.law_setup.proofs.InOctets.{address_octets}
use Rattle.law_setup.proofs.Octets.{line_octets}
use Rattle.law_setup.specs.Networks.{NetworkLaws}
use Rattle.script_world.specs.Plays.{Going, PlayLaws, Playing, world_acts}
use Rattle.script_world.specs.declared.play.World.{World as WorldOf}
use Rattle.law_setup.proofs.Placing.{IsOwn}
use Rattle.tp4_world.specs.Run.{transport_address}
use Rattle.law_datagram_run.specs.Datagrams.{DatagramRun, RunsDatagrams, RunsLine, StartsDatagrams, cl_play, request_for}
use Rattle.law_datagram_run.specs.Users.{users_at, users_from, users_of}
use Rattle.law_datagram_run.proofs.Played.{FitsRun, IsListed, MayRun, cl_going, cl_laws}
use Rattle.law_told.specs.Reading.{IsLegible}
use Rattle.law_told.proofs.Events.{EachFrom, each_of}
use Rattle.law_told.proofs.Numbers.{HasNumber, line_number}
use Rattle.law_told.proofs.Plays.{PartTold, PlayTells, as_many_systems, play_legible}
use Rattle.law_told.proofs.Transports.{NetTells}
use Rattle.law_told_datagrams.proofs.Users.{AreEvents, AreUsers, StepSo, WorldSo, call_told, start_told}

-- the users of a set-up are at its systems
users_low : (most number : ℕ) (systems : List System) → number + length systems ≤ most → AllByRecursion (λ (own : ClSystem). own.system < most) (users_from number systems)
users_low most number [] few = tt
users_low most number (first ∷ systems) few =
    all_both (λ (own : ClSystem). own.system < most) (users_at number first) (users_from (number + 1) systems) (here first.end) (users_low most (number + 1) systems (omega (arith, few)))
  where
    here : (b : Bool) → AllByRecursion (λ (own : ClSystem). own.system < most) (if b then record { system = number; own = transport_address first.title; selectors = first.selectors } ∷ [] else [])
    here true = (omega (arith, few), tt)
    here false = tt

module _ {N : Type 0} (link : N → Link (List ℕ)) (steps : N → Call (List ℕ) → N → Type 0) (keeps : (old : N) (call : Call (List ℕ)) (new : N) → steps old call new → Keeps (link old) call (link new))
    (makes : SetUp → N → Type 0) (laws : NetworkLaws link steps makes) (Stands : Tags → N → Type 0) (net : NetTells link steps makes Stands) where
  abbrev Plays : Playing (DatagramRun N)
  Plays = cl_play link steps makes

  abbrev Goes : Going (DatagramRun N)
  Goes = cl_going link steps

  play_laws : PlayLaws Plays Goes
  play_laws = cl_laws link steps keeps makes laws

  abbrev IsSo : Tags → World N → Type 0
  IsSo tags world = WorldSo tags is_nsap link steps keeps (Stands tags) (net.tells tags) world

  abbrev Step : Tags → List Event → World N → Type 0
  Step tags made new = StepSo tags is_nsap link steps keeps (Stands tags) (net.tells tags) made new

  abbrev Running : Tags → ℕ → DatagramRun N → Type 0
  Running tags n run = IsSo tags run.world

  starts_so : (tags : Tags) (setup : SetUp) (made : List Event) (first : DatagramRun N) → length tags.systems ≡ length setup.systems → length tags.lans ≡ length setup.lans → IsWell setup → IsInOctets setup
      → StartsDatagrams link steps makes setup made first → PartTold Plays Goes Running tags 0 made first
  starts_so tags setup made first systems lans w o h =
      let s = start_told tags is_nsap link steps keeps (Stands tags) (net.tells tags) h.0 (users_of setup) made h.1 (net.begins tags setup h.0 systems lans w o h.2)
      (users_low (length tags.systems) 0 setup.systems (omega (arith, systems))) h.3 in
      record { events = each_of tags 0 made s.events; run = subst (λ (run : DatagramRun N). IsSo tags run.world) (sym h.4) s.world }

  -- ---- a line

  address_passes : (titles : List (List ℕ)) (n : ℕ) (title : List ℕ) → AllByRecursion IsOwn titles → slice_get titles n ≡ Some title → is_nsap (transport_address title) ≡ true
  address_passes titles n title own is =
      let o = at IsOwn titles n title own is in
      nsap_passes (transport_address title) (address_octets title 1 (omega arith) o.fits.some o.octets)

  line_so : (names : Declared) (titles : List (List ℕ)) (old new : World N) (line : Line) (made : List Event) → AllByRecursion IsOwn titles → ((system : ℕ) → is_end names system ≡ true → IsListed old.systems system)
      → NamesDeclared names line → HasNumber line → MayRun link titles old line → LineInOctets line → IsSo (tags_of names) old → RunsLine link steps titles old line made new → Step (tags_of names) made new
  line_so names titles old new lines.Nothing made own listed named number may are h r =
      record { events = subst (AreEvents (tags_of names) is_nsap link steps keeps (Stands (tags_of names)) (net.tells (tags_of names))) (sym r.0) tt; world = subst (IsSo (tags_of names)) (sym r.1) h }
  line_so names titles old new (lines.Send system selector to called octets) made own listed named number may are h r =
      let there = listed system named.0.1 in
      let low = named.0.0 in
      let count = as_many_systems names in
      let can : CanSend is_nsap old.systems system (request_for selector r.0 called octets) = record {
        own = there.own;
        own_is = there.own_is;
        from = there.address;
        to = address_passes titles to r.0 own r.1;
        from_selector = may.2;
        to_selector = may.3;
        from_octets = are.0.octets;
        to_octets = are.1.octets;
        octets = are.2;
      } in
      call_told (tags_of names) is_nsap link steps keeps (Stands (tags_of names)) (net.tells (tags_of names)) old new (Sending system (request_for selector r.0 called octets)) made h can (omega (arith, low, count)) r.2
  line_so names titles old new lines.Tick made own listed named number may are h r = call_told (tags_of names) is_nsap link steps keeps (Stands (tags_of names)) (net.tells (tags_of names)) old new Ticking made h may tt r
  line_so names titles old new lines.Settle made own listed named number may are h r = call_told (tags_of names) is_nsap link steps keeps (Stands (tags_of names)) (net.tells (tags_of names)) old new Settling made h tt tt r
  line_so names titles old new (lines.Deliver frame system) made own listed named number may are h r =
      let count = as_many_systems names in
      call_told (tags_of names) is_nsap link steps keeps (Stands (tags_of names)) (net.tells (tags_of names)) old new (Delivering frame system) made h tt (omega (arith, number), omega (arith, named, count)) r
  line_so names titles old new other made own listed named number may are h r = absurd r

  steps_so : (names declared : Declared) (old : DatagramRun N) (count n : ℕ) (octets : List ℕ) (line : Line) (made : List Event) (new : DatagramRun N) → names.started ≡ true → FitsRun link steps names old count
      → Running (tags_of names) n old → count < most_lines → line_read names octets ≡ Ok (record { line = line; names = declared }) → RunsDatagrams link steps old line made new → PartTold Plays Goes Running (tags_of names) n made new
  steps_so names declared old count n octets line made new begun fits told few is h =
      let may = play_laws.read_runs names declared old count octets line begun fits few is in
      let s = line_so names old.titles old.world h.0 line made fits.own fits.listed (line_named names octets (record { line = line; names = declared }) is) (line_number names octets line declared is) may
      (line_octets names octets line declared is) told h.1 in
      record { events = each_of (tags_of names) n made s.events; run = subst (λ (run : DatagramRun N). IsSo (tags_of names) run.world) (sym h.2) s.world }

  tells_play : PlayTells Plays Goes Running
  tells_play = record { starts = starts_so; steps = steps_so }

  pub datagrams_legible : (Claim : List Line → List Event → WorldOf (DatagramRun N) → Type 0) → IsLegible (world_acts Plays) Claim
  datagrams_legible Claim = play_legible Plays Goes play_laws Running tells_play Claim
