-- What runs a network with its transport entities, over every network that a set-up makes: what starts is ready, with the titles of its systems and an
-- entity for each end system, and such a network has one run of each line that is read.
use Rattle.std.proofs.Common.{◌≡◌, ℕ, ◌+◌, ◌<◌, ◌≤◌, true, false, List, [], ◌∷◌, length, Option, Some, None, Ok, refl, sym, ◌∙◌, ap, subst, arith}
use Rattle.std.specs.Prelude.{◌++◌, slice_get, IsSome}
use Rattle.std.specs.List.{AllByRecursion}
use Rattle.std.proofs.lemmas.Bool.{false≢true}
use Rattle.std.proofs.lemmas.List.{length-map}
use Rattle.nsap.specs.Address.{system_part}
use Rattle.osi_base.specs.Link.{Link}
use Rattle.osi_base.specs.Calls.{Call, Keeps}
use Rattle.law_clnp_net.specs.Standing.{is_nsap}
use Rattle.law_clnp_net.proofs.answered.Carrying.{nsap_passes}
use Rattle.line_loop.specs.Lines.{most_lines}
use Rattle.script_lines.specs.Commands.{HasLine as HasLineOf}
use Rattle.script_lines.specs.declared.words.Dialect.{Dialect}
use Rattle.script_lines.proofs.CommandLines.{line_has, line_stays}
use Rattle.tpdu.specs.declared.service.Options.{Options}
use Rattle.tp4_conn.specs.End.{IsSized}
use Rattle.tp4_number.specs.Number.{wire}
use Rattle.tp4_world.specs.Run.{RunsLine, Starts}
use Rattle.tp4_world.specs.Total.{CanConnect, CanRun as CanRunOn, HasRun, HasStart as HasBegin, IsReady, ServesOn}
use Rattle.tp4_world.specs.World.{World, entity_at}
use Rattle.tp4_world.proofs.Serving.{some_run, some_start as some_begin}
use Rattle.script_journal.specs.declared.event.Event.{Event}
use Rattle.script_lines.specs.declared.line.Line.{Line}
use Rattle.script_lines.specs.declared.line.Line.TheVariants as lines
use Rattle.script_lines.specs.Grammar.{line_read}
use Rattle.script_lines.specs.Known.{Declared, is_end}
use Rattle.script_lines.specs.Names.{NamesDeclared}
use Rattle.script_lines.proofs.LineNames.{line_named}
use Rattle.script_setup.specs.Fitting.{Fits, IsWell}
use Rattle.script_setup.specs.SetUp.{System, SetUp, timers_of, titles_of as titles_said}
use Rattle.law_setup.specs.Entities.{entities_of}
use Rattle.script_setup.proofs.Elements.{at, there}
use Rattle.law_setup.specs.Agreeing.{AreOne}
use Rattle.law_setup.specs.Lines.{IsInOctets, LineInOctets, RunsAt}
use Rattle.law_setup.proofs.Fitted.{as_many, ends_one}
use Rattle.law_setup.proofs.InOctets.{address_octets}
use Rattle.law_setup.proofs.Kept.{line_runs}
use Rattle.law_setup.proofs.Octets.{line_octets}
use Rattle.law_setup.proofs.Started.{names_kept}
use Rattle.script_bench.specs.Script.{IsPlaced}
use Rattle.script_bench.specs.steps.Moves.{line_moves}
use Rattle.law_setup.specs.Networks.{NetworkLaws, SendsNoDatagrams, SendsNone}
use Rattle.script_world.specs.Plays.{Going, HasLine, HasStart, PlayLaws}
use Rattle.script_world.specs.Transports.{RunsEnds, StartsEnds, TransportRun, tp_play}
use Rattle.law_setup.proofs.Moving.{line_near, start_near}
use Rattle.law_setup.proofs.OneLine.{one_begin, one_line}
use Rattle.law_setup.proofs.Placing.{IsOwn, among, entities_ready, present, titles_own}

-- ---- a line of a running network

address_passes : (titles : List (List ℕ)) (n selector : ℕ) (title : List ℕ) → selector < 256 → AllByRecursion IsOwn titles → slice_get titles n ≡ Some title
    → is_nsap (system_part title ++ selector ∷ []) ≡ true
address_passes titles n selector title small own is =
    let o = at IsOwn titles n title own is in
    nsap_passes (system_part title ++ selector ∷ []) (address_octets title selector small o.fits.some o.octets)

record Has {A : Type 0} (found : Option A) : Type 0 where
  value : A
  is : found ≡ Some value

has : {A : Type 0} (found : Option A) → IsSome found → Has found
has None is = absurd (cc)
has (Some value) is = record { value = value; is = refl }

module _ {N : Type 0} (link : N → Link (List ℕ)) where
  connects : (titles : List (List ℕ)) (ends : World N) (system to : ℕ) (options : Options) (selector called octets : List ℕ) → AllByRecursion IsOwn titles → to < length titles → IsSized options
      → LineInOctets (lines.Connect system selector to called options octets) → IsSome (entity_at ends.entities system)
      → CanConnect is_nsap titles ends system to options selector called octets
  connects titles ends system to options selector called octets own known sized in_octets some =
      let receiver = there titles to known in
      let entity = has (entity_at ends.entities system) some in
      record {
        receiver = receiver.elem;
        receiver_is = receiver.is;
        address = address_passes titles to 1 receiver.elem (omega arith) own receiver.is;
        entity = entity.value;
        entity_is = entity.is;
        size_known = sized;
        selector_short = in_octets.0.few;
        selector_octets = in_octets.0.octets;
        called_short = in_octets.1.few;
        called_octets = in_octets.1.octets;
        octets_are = in_octets.2;
      }

  may_run : (names : Declared) (titles : List (List ℕ)) (ends : World N) (line : Line) → SendsNone line → AllByRecursion IsOwn titles → NamesDeclared names line → ((number : ℕ) → is_end names number ≡ true → IsSome (entity_at ends.entities number))
      → RunsAt (length titles) (link ends.carrier).clock line → LineInOctets line → CanRunOn is_nsap titles link ends line
  may_run names titles ends lines.Nothing none own named placed runs octets = tt
  may_run names titles ends (lines.Connect system selector to called options unit) none own named placed runs octets =
      connects titles ends system to options selector called unit own runs.1 runs.2 octets (placed system named.0.1)
  may_run names titles ends (lines.Accept end options unit) none own named placed runs octets = (runs, octets)
  may_run names titles ends (lines.Refuse end unit) none own named placed runs octets = octets
  may_run names titles ends (lines.Disconnect end unit) none own named placed runs octets = octets
  may_run names titles ends (lines.Data end unit) none own named placed runs octets = octets
  may_run names titles ends (lines.Expedite end unit) none own named placed runs octets = octets
  may_run names titles ends (lines.Window end credit) none own named placed runs octets = runs
  may_run names titles ends (lines.Unit system to wish unit) none own named placed runs octets =
      let a = there titles system runs.0 in
      let b = there titles to runs.1 in (
        a.elem,
        b.elem,
        a.is,
        b.is,
        record { from = address_passes titles system 2 a.elem (omega arith) own a.is; to = address_passes titles to 2 b.elem (omega arith) own b.is; octets = octets },
      )
  may_run names titles ends lines.Tick none own named placed runs octets = runs
  may_run names titles ends lines.Settle none own named placed runs octets = tt
  may_run names titles ends (lines.Deliver number system) none own named placed runs octets = tt
  may_run names titles ends (lines.Inject lan system unit) none own named placed runs octets = octets
  may_run names titles ends (lines.Restart system) none own named placed runs octets = placed system named.1
  may_run names titles ends (lines.Version version) none own named placed runs octets = absurd runs
  may_run names titles ends (lines.Set key value) none own named placed runs octets = absurd runs
  may_run names titles ends (lines.Lan name bound room) none own named placed runs octets = absurd runs
  may_run names titles ends (lines.Es name title) none own named placed runs octets = absurd runs
  may_run names titles ends (lines.Is name title) none own named placed runs octets = absurd runs
  may_run names titles ends (lines.Port system lan snpa) none own named placed runs octets = absurd runs
  may_run names titles ends (lines.Route system prefix next lan) none own named placed runs octets = absurd runs
  may_run names titles ends (lines.Path name kind systems) none own named placed runs octets = absurd runs
  may_run names titles ends (lines.Tsap system selector) none own named placed runs octets = absurd runs
  may_run names titles ends (lines.Relay system selector to called) none own named placed runs octets = absurd runs
  may_run names titles ends (lines.Send system selector to called unit) none own named placed runs octets = absurd none
  may_run names titles ends lines.Start none own named placed runs octets = absurd runs

-- ---- a line that is no event line

module _ {N : Type 0} (link : N → Link (List ℕ)) (steps : N → Call (List ℕ) → N → Type 0) where
  tells_nothing : (titles : List (List ℕ)) (old ends : World N) (line : Line) (made : List Event) → IsPlaced false line → RunsLine link steps wire titles old line made ends → made ≡ []
  tells_nothing titles old ends lines.Nothing made placed step = step.0
  tells_nothing titles old ends (lines.Connect system selector to called options octets) made placed step = absurd (false≢true placed)
  tells_nothing titles old ends (lines.Accept end options octets) made placed step = absurd (false≢true placed)
  tells_nothing titles old ends (lines.Refuse end octets) made placed step = absurd (false≢true placed)
  tells_nothing titles old ends (lines.Disconnect end octets) made placed step = absurd (false≢true placed)
  tells_nothing titles old ends (lines.Data end octets) made placed step = absurd (false≢true placed)
  tells_nothing titles old ends (lines.Expedite end octets) made placed step = absurd (false≢true placed)
  tells_nothing titles old ends (lines.Window end credit) made placed step = absurd (false≢true placed)
  tells_nothing titles old ends (lines.Unit system to wish octets) made placed step = absurd (false≢true placed)
  tells_nothing titles old ends lines.Tick made placed step = absurd (false≢true placed)
  tells_nothing titles old ends lines.Settle made placed step = absurd (false≢true placed)
  tells_nothing titles old ends (lines.Deliver number system) made placed step = absurd (false≢true placed)
  tells_nothing titles old ends (lines.Inject lan system octets) made placed step = absurd (false≢true placed)
  tells_nothing titles old ends (lines.Restart system) made placed step = absurd (false≢true placed)
  tells_nothing titles old ends (lines.Send system selector to called octets) made placed step = absurd step
  tells_nothing titles old ends (lines.Version version) made placed step = absurd step
  tells_nothing titles old ends (lines.Set key value) made placed step = absurd step
  tells_nothing titles old ends (lines.Lan name bound room) made placed step = absurd step
  tells_nothing titles old ends (lines.Es name title) made placed step = absurd step
  tells_nothing titles old ends (lines.Is name title) made placed step = absurd step
  tells_nothing titles old ends (lines.Port system lan snpa) made placed step = absurd step
  tells_nothing titles old ends (lines.Route system prefix next lan) made placed step = absurd step
  tells_nothing titles old ends (lines.Path name kind systems) made placed step = absurd step
  tells_nothing titles old ends (lines.Tsap system selector) made placed step = absurd step
  tells_nothing titles old ends (lines.Relay system selector to called) made placed step = absurd step
  tells_nothing titles old ends lines.Start made placed step = absurd step

-- ---- what goes on from line to line

module _ {N : Type 0} (link : N → Link (List ℕ)) (steps : N → Call (List ℕ) → N → Type 0) where
  -- all that a network may be asked from here on is answered
  abbrev pub Serving : N → Type 0
  Serving = ServesOn is_nsap link steps

  -- as many titles as systems, which are titles in octets; a clock of at most so many lines; a network that is ready; and an entity for each end system
  pub record FitsRun (dialect : Dialect) (names : Declared) (run : TransportRun N) (lines : ℕ) : Type 0 where
    pub reads : names.dialect ≡ dialect
    pub titles : length run.titles ≡ length names.systems
    pub clock : (link run.ends.carrier).clock ≤ lines
    pub ready : IsReady is_nsap link Serving run.ends
    pub own : AllByRecursion IsOwn run.titles
    pub placed : (system : ℕ) → is_end names system ≡ true → IsSome (entity_at run.ends.entities system)

  -- the line is one of a running network, and what it names is there
  abbrev pub HasEvent : TransportRun N → Line → Type 0
  HasEvent run line = RunsAt (length run.titles) (link run.ends.carrier).clock line × CanRunOn is_nsap run.titles link run.ends line

  abbrev pub tp_going : Dialect → Going (TransportRun N)
  tp_going dialect = record { runs = HasEvent; fits = FitsRun dialect }

-- ---- the laws

abbrev begun : {N : Type 0} → SetUp → World N → TransportRun N
begun setup first = record { titles = titles_said setup; timers = timers_of setup.life setup.limits; ends = first }

module _ {N : Type 0} (link : N → Link (List ℕ)) (steps : N → Call (List ℕ) → N → Type 0) (keeps : (old : N) (call : Call (List ℕ)) (new : N) → steps old call new → Keeps (link old) call (link new))
    (makes : SetUp → N → Type 0) (dialect : Dialect) (lines_are : SendsNoDatagrams dialect) (laws : NetworkLaws link steps makes) where
  one_start : (setup : SetUp) (made other : List Event) (new last : TransportRun N) → StartsEnds link steps makes setup made new → StartsEnds link steps makes setup other last → (made ≡ other) × (new ≡ last)
  one_start setup made other new last a b =
      let net : a.0 ≡ b.0 = laws.one_net setup a.0 b.0 a.2 b.2 in
      let here : Starts link steps b.0 (entities_of setup) made a.1 = subst (λ (n : N). Starts link steps n (entities_of setup) made a.1) net a.3 in
      let same = one_begin link steps laws.one_answer b.0 (entities_of setup) made other a.1 b.1 here b.3 in
      (same.0, a.4 ∙ ap (λ (e : World N). begun setup e) same.1 ∙ sym b.4)

  one_run : (line : Line) (old : TransportRun N) (made other : List Event) (new last : TransportRun N) → RunsEnds link steps old line made new → RunsEnds link steps old line other last → (made ≡ other) × (new ≡ last)
  one_run line old made other new last a b =
      let same = one_line link steps laws.one_answer wire old.titles old.ends line made other a.0 b.0 a.1 b.1 in
      (same.0, a.2 ∙ ap (λ (e : World N). record old { ends = e }) same.1 ∙ sym b.2)

  -- ---- the start

  record Ready (setup : SetUp) : Type 0 where
    made : List Event
    first : TransportRun N
    starts : StartsEnds link steps makes setup made first
    ready : IsReady is_nsap link (Serving link steps) first.ends

  starts_ready : (setup : SetUp) → IsWell setup → IsInOctets setup → Ready setup
  starts_ready setup well octets =
      let has = laws.some_net setup well octets in
      let begins : HasBegin is_nsap link steps (Serving link steps) has.net (entities_of setup) =
      some_begin link steps keeps is_nsap has.net (entities_of setup) (laws.serves setup has.net well octets has.made)
      (entities_ready setup (link has.net).clock well (titles_own (titles_said setup) well.titles octets.titles)) in
      record { made = begins.made; first = begun setup begins.new; starts = (has.net, begins.new, has.made, begins.starts, refl); ready = begins.ready }

  -- a started network has an entity for each end system that is declared
  placed_first : (names : Declared) (setup : SetUp) (net : N) (first : World N) (made : List Event) → AreOne names setup → Starts link steps net (entities_of setup) made first → (system : ℕ)
      → is_end names system ≡ true → IsSome (entity_at first.entities system)
  placed_first names setup net first made one starts system is =
      let near = start_near link steps keeps net (entities_of setup) first made starts in
      subst (λ placed. IsSome (entity_at placed system)) (sym near.entities) (present setup system (ends_one setup.systems names.systems system one.systems ∙ is))

  start_fits : (names : Declared) (setup : SetUp) (count : ℕ) (made : List Event) (new : TransportRun N) → names.dialect ≡ dialect → AreOne names setup → IsWell setup → IsInOctets setup → Fits setup lines.Start
      → StartsEnds link steps makes setup made new → FitsRun link steps dialect names new count
  start_fits names setup count made new reads one well octets within h =
      let some = starts_ready setup well octets in
      let same : new ≡ some.first = (one_start setup made some.made new some.first h some.starts).1 in
      let near = start_near link steps keeps h.0 (entities_of setup) h.1 made h.3 in
      let zero_is = laws.clock setup h.0 h.2 in
      let stays = near.clock in
      subst (λ (run : TransportRun N). FitsRun link steps dialect names run count) (sym h.4) (record {
        reads = reads;
        titles = length-map setup.systems (λ (s : System). s.title) ∙ as_many names setup one;
        clock = omega arith;
        ready = subst (λ (run : TransportRun N). IsReady is_nsap link (Serving link steps) run.ends) (sym same ∙ h.4) some.ready;
        own = titles_own (titles_said setup) well.titles octets.titles;
        placed = placed_first names setup h.0 h.1 made one h.3;
      })

  some_start : (setup : SetUp) → IsWell setup → IsInOctets setup → HasStart (tp_play link steps makes dialect) setup
  some_start setup well octets =
      let some = starts_ready setup well octets in
      record { made = some.made; first = some.first; starts = some.starts }

  -- ---- a line that was read

  module _ (names declared : Declared) (old : TransportRun N) (count : ℕ) (octets : List ℕ) (line : Line) (begins : names.started ≡ true) (fits : FitsRun link steps dialect names old count) (few : count < most_lines)
      (is : line_read names octets ≡ Ok (record { line = line; names = declared })) where
    runs_at : RunsAt (length old.titles) (link old.ends.carrier).clock line
    runs_at =
        let low : count < 4000000000 = omega (arith, few) in
        let clock = fits.clock in
        subst (λ (n : ℕ). RunsAt n (link old.ends.carrier).clock line) (sym fits.titles) (line_runs names (link old.ends.carrier).clock octets line declared begins (omega arith) is)

    read_runs : HasEvent link steps old line
    read_runs = (
      runs_at,
      may_run link names old.titles old.ends line
          (lines_are line (subst (λ (d : Dialect). HasLineOf d line) fits.reads (line_has names octets (record { line = line; names = declared }) is))) fits.own (line_named names octets (record { line = line; names = declared }) is) fits.placed runs_at (line_octets names octets line declared is),
    )

    goes_on : HasRun is_nsap link steps (Serving link steps) wire old.titles old.ends line
    goes_on =
        some_run link steps keeps is_nsap wire old.titles old.ends line fits.ready read_runs.1

    some_step : HasLine (tp_play link steps makes dialect) old line
    some_step = record { made = goes_on.made; new = record old { ends = goes_on.new }; steps = (goes_on.new, goes_on.runs, refl) }

    read_fits : (made : List Event) (new : TransportRun N) → RunsEnds link steps old line made new → FitsRun link steps dialect declared new (count + 1)
    read_fits made new h =
        let same : h.0 ≡ goes_on.new = (one_line link steps laws.one_answer wire old.titles old.ends line made goes_on.made h.0 goes_on.new h.1 goes_on.runs).1 in
        let near = line_near link steps keeps old.titles old.ends line made h.0 h.1 in
        let kept : declared ≡ names = names_kept names declared begins (line_moves names octets line declared is).kept in
        let before = fits.clock in
        let after = near.clock in
        subst (λ (run : TransportRun N). FitsRun link steps dialect declared run (count + 1)) (sym h.2) (record {
          reads = line_stays names octets (record { line = line; names = declared }) is ∙ fits.reads;
          titles = fits.titles ∙ sym (ap (λ (n : Declared). length n.systems) kept);
          clock = omega arith;
          ready = subst (IsReady is_nsap link (Serving link steps)) (sym same) goes_on.ready;
          own = fits.own;
          placed = λ system end. among old.ends.entities h.0.entities system near.systems (fits.placed system (ap (λ (n : Declared). is_end n system) (sym kept) ∙ end));
        })

  pub tp_laws : PlayLaws (tp_play link steps makes dialect) (tp_going link steps dialect)
  tp_laws = record {
    one_start = one_start;
    one_step = one_run;
    idle = λ line old made new placed step. tells_nothing link steps old.titles old.ends step.0 line made placed step.1;
    some_start = some_start;
    start_fits = start_fits;
    read_runs = read_runs;
    read_fits = λ names declared old count octets line made new begins fits few is step. read_fits names declared old count octets line begins fits few is made new step;
    some_step = some_step;
  }
