-- What runs a network with relays, over every network that a set-up makes: it starts in one way, and each line that is read has one run.
use Rattle.std.proofs.Common.{◌≡◌, ℕ, ◌+◌, ◌<◌, true, false, List, [], length, Ok, refl, sym, ◌∙◌, ap, subst}
use Rattle.std.specs.List.{AllByRecursion}
use Rattle.std.proofs.lemmas.Bool.{false≢true}
use Rattle.osi_base.specs.Link.{Link}
use Rattle.osi_base.specs.Calls.{Call, Keeps}
use Rattle.law_clnp_net.specs.Standing.{is_nsap}
use Rattle.law_setup.specs.Agreeing.{AreOne}
use Rattle.law_setup.specs.Lines.{IsInOctets, RunsAt}
use Rattle.law_setup.proofs.Started.{names_kept}
use Rattle.line_loop.specs.Lines.{most_lines}
use Rattle.script_journal.specs.declared.event.Event.{Event}
use Rattle.script_lines.specs.Commands.{HasLine as HasLineOf}
use Rattle.script_lines.specs.Grammar.{line_read}
use Rattle.script_lines.specs.Known.{Declared, is_end}
use Rattle.script_lines.specs.declared.words.Dialect.{Dialect}
use Rattle.script_lines.specs.declared.words.Dialect.TheVariants as dialects
use Rattle.script_lines.specs.declared.line.Line.{Line}
use Rattle.script_lines.specs.declared.line.Line.TheVariants as lines
use Rattle.script_lines.proofs.CommandLines.{line_has, line_stays}
use Rattle.script_setup.specs.Fitting.{Fits, IsWell}
use Rattle.script_setup.specs.SetUp.{SetUp, timers_of, titles_of as titles_said}
use Rattle.script_bench.specs.Script.{IsPlaced}
use Rattle.script_bench.specs.steps.Moves.{line_moves}
use Rattle.law_setup.specs.Networks.{NetworkLaws, SendsNoDatagrams}
use Rattle.script_world.specs.Plays.{Going, HasLine, HasStart, PlayLaws}
use Rattle.script_world.specs.Transports.{TransportRun, tp_play}
use Rattle.script_world.specs.steps.Transported.{FitsRun as FitsEnds, tp_going, tp_laws}
use Rattle.tp4_relay.specs.Kept.{Kept, nothing_kept}
use Rattle.tp4_world.specs.Total.{CanRun as CanRunOn}
use Rattle.tp4_world.specs.World.{World, entity_at}
use Rattle.law_relay.specs.Relays.{RelayRun, RunsRelays, StartsRelays, part_of, relay_play}
use Rattle.law_relay.specs.Rows.{rows_of}
use Rattle.law_relay.proofs.Answering.{ArePairs, RowInOctets, RowLeads}
use Rattle.law_relay.proofs.Begun.{first_plays, no_end}
use Rattle.law_relay.proofs.Going.{PartDone, some_part}
use Rattle.law_relay.proofs.Leading.{rows_in, rows_lead}
use Rattle.law_relay.proofs.OctetSteps.{HoldsOctets}
use Rattle.law_relay.proofs.OneRun.{one_relays}
use Rattle.law_relay.proofs.Playing.{Plays}
use Rattle.law_relay.proofs.Running.{line_plays}

-- its transport entities alone
abbrev ends_in : {N : Type 0} → RelayRun N → TransportRun N
ends_in run = record { titles = run.titles; timers = run.relay.rules; ends = run.ends }

module _ {N : Type 0} (link : N → Link (List ℕ)) (steps : N → Call (List ℕ) → N → Type 0) where
  -- as many titles as systems, which are titles in octets; a clock of at most so many lines; a network that is ready, with an entity for each end
  -- system; and its relays
  pub record FitsRun (names : Declared) (run : RelayRun N) (lines : ℕ) : Type 0 where
    pub ends : FitsEnds link steps dialects.Relay names (ends_in run) lines
    pub plays : Plays link run.ends run.relay
    pub holds : HoldsOctets run.ends
    pub leads : AllByRecursion (RowLeads run.titles) run.relay.rows
    pub rows : AllByRecursion RowInOctets run.relay.rows
    pub pairs : ArePairs run.relay.pairs

  -- the line is one of a running network, and what it names is there
  pub record HasEvent (run : RelayRun N) (line : Line) : Type 0 where
    pub listed : HasLineOf dialects.Relay line
    pub known : RunsAt (length run.titles) (link run.ends.carrier).clock line
    pub there : CanRunOn is_nsap run.titles link run.ends line
    pub plays : Plays link run.ends run.relay

  abbrev pub relay_going : Going (RelayRun N)
  relay_going = record { runs = HasEvent; fits = FitsRun }

  -- a line that is no event line tells nothing
  tells_nothing : (line : Line) (old : RelayRun N) (made : List Event) (new : RelayRun N) → IsPlaced false line → RunsRelays link steps old line made new → made ≡ []
  tells_nothing lines.Nothing old made new placed step = step.2.0
  tells_nothing (lines.Version version) old made new placed step = absurd step.2.2.happens
  tells_nothing (lines.Set key value) old made new placed step = absurd step.2.2.happens
  tells_nothing (lines.Lan name bound room) old made new placed step = absurd step.2.2.happens
  tells_nothing (lines.Es name title) old made new placed step = absurd step.2.2.happens
  tells_nothing (lines.Is name title) old made new placed step = absurd step.2.2.happens
  tells_nothing (lines.Port system lan snpa) old made new placed step = absurd step.2.2.happens
  tells_nothing (lines.Route system prefix next lan) old made new placed step = absurd step.2.2.happens
  tells_nothing (lines.Path name kind systems) old made new placed step = absurd step.2.2.happens
  tells_nothing (lines.Tsap system selector) old made new placed step = absurd step.2.2.happens
  tells_nothing (lines.Relay system selector to called) old made new placed step = absurd step.2.2.happens
  tells_nothing lines.Start old made new placed step = absurd step.2.2.happens
  tells_nothing other old made new placed step = absurd (false≢true placed)

-- no script of relays sends datagrams
none_sent : SendsNoDatagrams dialects.Relay
none_sent (lines.Send system selector to called octets) has = has
none_sent line has = tt

module _ {N : Type 0} (link : N → Link (List ℕ)) (steps : N → Call (List ℕ) → N → Type 0) (keeps : (old : N) (call : Call (List ℕ)) (new : N) → steps old call new → Keeps (link old) call (link new))
    (makes : SetUp → N → Type 0) (laws : NetworkLaws link steps makes) where
  ends_laws : PlayLaws (tp_play link steps makes dialects.Relay) (tp_going link steps dialects.Relay)
  ends_laws = tp_laws link steps keeps makes dialects.Relay none_sent laws

  -- ---- the start

  abbrev relays_of : SetUp → Kept
  relays_of setup = nothing_kept (rows_of setup) (timers_of setup.life setup.limits)

  abbrev begun : SetUp → World N → RelayRun N
  begun setup first = record { titles = titles_said setup; ends = first; relay = relays_of setup }

  one_start : (setup : SetUp) (made other : List Event) (new last : RelayRun N) → StartsRelays link steps makes setup made new → StartsRelays link steps makes setup other last → (made ≡ other) × (new ≡ last)
  one_start setup made other new last a b =
      let s = ends_laws.one_start setup made other (ends_in (begun setup a.1)) (ends_in (begun setup b.1)) (a.0, a.1, a.2, a.3, refl) (b.0, b.1, b.2, b.3, refl) in
      (s.0, a.4 ∙ ap (λ (run : TransportRun N). begun setup run.ends) s.1 ∙ sym b.4)

  some_start : (setup : SetUp) → IsWell setup → IsInOctets setup → HasStart (relay_play link steps makes) setup
  some_start setup well octets =
      let s = ends_laws.some_start setup well octets in
      record { made = s.made; first = begun setup s.starts.1; starts = (s.starts.0, s.starts.1, s.starts.2, s.starts.3, refl) }

  start_fits : (names : Declared) (setup : SetUp) (count : ℕ) (made : List Event) (new : RelayRun N) → names.dialect ≡ dialects.Relay → AreOne names setup → IsWell setup → IsInOctets setup → Fits setup lines.Start
      → StartsRelays link steps makes setup made new → FitsRun link steps names new count
  start_fits names setup count made new reads one well octets within h =
      subst (λ (run : RelayRun N). FitsRun link steps names run count) (sym h.4) (record {
        ends = ends_laws.start_fits names setup count made (ends_in (begun setup h.1)) reads one well octets within (h.0, h.1, h.2, h.3, refl);
        plays = first_plays link steps setup h.0 h.1 made well h.3;
        holds = λ system e is reference end at. absurd (no_end setup system e reference end (sym (ap (λ (w : World N). entity_at w.entities system) (h.3).becomes) ∙ is) at);
        leads = rows_lead setup well;
        rows = rows_in setup well octets;
        pairs = tt;
      })

  -- ---- a line that was read

  read_runs : (names declared : Declared) (old : RelayRun N) (count : ℕ) (octets : List ℕ) (line : Line) → names.started ≡ true → FitsRun link steps names old count → count < most_lines
      → line_read names octets ≡ Ok (record { line = line; names = declared }) → HasEvent link steps old line
  read_runs names declared old count octets line begins fits few is =
      let e = ends_laws.read_runs names declared (ends_in old) count octets line begins fits.ends few is in
      record {
        listed = subst (λ (d : Dialect). HasLineOf d line) fits.ends.reads (line_has names octets (record { line = line; names = declared }) is);
        known = e.0;
        there = e.1;
        plays = fits.plays;
      }

  -- the systems of the names that are end systems
  abbrev IsNeeded : Declared → ℕ → Type 0
  IsNeeded names system = is_end names system ≡ true

  goes_on : (names declared : Declared) (old : RelayRun N) (count : ℕ) (octets : List ℕ) (line : Line) → names.started ≡ true → FitsRun link steps names old count → count < most_lines
      → line_read names octets ≡ Ok (record { line = line; names = declared }) → PartDone link steps keeps old.titles (IsNeeded names) count (part_of line) old line
  goes_on names declared old count octets line begins fits few is =
      let e = read_runs names declared old count octets line begins fits few is in
      some_part link steps keeps old.titles (IsNeeded names) count (part_of line) old line refl e.listed e.there fits.plays (record {
        ready = fits.ends.ready;
        order = fits.plays.order;
        holds = fits.holds;
        clock = fits.ends.clock;
        needed = fits.ends.placed;
        has = fits.plays.has;
        credit = fits.plays.credit;
        leads = fits.leads;
        rows = fits.rows;
        pairs = fits.pairs;
      })

  read_fits : (names declared : Declared) (old : RelayRun N) (count : ℕ) (octets : List ℕ) (line : Line) (made : List Event) (new : RelayRun N) → names.started ≡ true → FitsRun link steps names old count → count < most_lines
      → line_read names octets ≡ Ok (record { line = line; names = declared }) → RunsRelays link steps old line made new → FitsRun link steps declared new (count + 1)
  read_fits names declared old count octets line made new begins fits few is step =
      let listed = subst (λ (d : Dialect). HasLineOf d line) fits.ends.reads (line_has names octets (record { line = line; names = declared }) is) in
      let g = goes_on names declared old count octets line begins fits few is in
      let last : RelayRun N = record { titles = old.titles; ends = g.new; relay = g.last } in
      let same : new ≡ last = (one_relays link steps laws.one_answer line old made g.made new last step (g.new, g.last, g.runs, refl)).1 in
      let kept : declared ≡ names = names_kept names declared begins (line_moves names octets line declared is).kept in
      subst (λ (run : RelayRun N). FitsRun link steps declared run (count + 1)) (sym same) (record {
        ends = record {
          reads = line_stays names octets (record { line = line; names = declared }) is ∙ fits.ends.reads;
          titles = fits.ends.titles ∙ sym (ap (λ (n : Declared). length n.systems) kept);
          clock = g.able.clock;
          ready = g.able.ready;
          own = fits.ends.own;
          placed = λ system end. g.able.needed system (ap (λ (n : Declared). is_end n system) (sym kept) ∙ end);
        };
        plays = (line_plays link steps keeps old line g.made g.new g.last listed g.runs fits.plays).plays;
        holds = g.able.holds;
        leads = g.able.leads;
        rows = g.able.rows;
        pairs = g.able.pairs;
      })

  some_step : (names declared : Declared) (old : RelayRun N) (count : ℕ) (octets : List ℕ) (line : Line) → names.started ≡ true → FitsRun link steps names old count → count < most_lines
      → line_read names octets ≡ Ok (record { line = line; names = declared }) → HasLine (relay_play link steps makes) old line
  some_step names declared old count octets line begins fits few is =
      let g = goes_on names declared old count octets line begins fits few is in
      record { made = g.made; new = record old { ends = g.new; relay = g.last }; steps = (g.new, g.last, g.runs, refl) }

  pub relay_laws : PlayLaws (relay_play link steps makes) (relay_going link steps)
  relay_laws = record {
    one_start = one_start;
    one_step = one_relays link steps laws.one_answer;
    idle = tells_nothing link steps;
    some_start = some_start;
    start_fits = start_fits;
    read_runs = read_runs;
    read_fits = read_fits;
    some_step = some_step;
  }
