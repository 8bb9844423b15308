-- What runs datagrams over every network that a set-up makes: it starts in one way with the users of the end systems that are declared, and such a
-- network has one run of each line that is read.
use Rattle.std.proofs.Common.{◌≡◌, ℕ, ◌+◌, ◌<◌, ◌≤◌, true, false, List, [], length, Option, Some, Ok, refl, sym, ◌∙◌, ap, subst, arith}
use Rattle.std.specs.Prelude.{slice_get, IsSome}
use Rattle.std.specs.List.{AllByRecursion}
use Rattle.std.proofs.lemmas.Bool.{false≢true}
use Rattle.std.proofs.lemmas.List.{length-map}
use Rattle.osi_base.specs.Link.{Link}
use Rattle.osi_base.specs.Calls.{Call, Keeps}
use Rattle.law_carrier_answers.proofs.Gatherings.{one_gathering}
use Rattle.law_clnp_net.specs.Standing.{is_nsap}
use Rattle.law_clnp_net.proofs.answered.Carrying.{nsap_passes}
use Rattle.line_loop.specs.Lines.{most_lines}
use Rattle.cltp.specs.Run.{ClCall, Sending, Delivering, Ticking, Settling, RunsCall, Starts}
use Rattle.cltp.specs.Systems.{World, system_at}
use Rattle.cltp.specs.Total.{CanRun, CanSend, HasRun, HasStart as HasBegin, ServesOn}
use Rattle.cltp.specs.Ud.{IsSelector}
use Rattle.cltp.specs.declared.system.ClSystem.{ClSystem}
use Rattle.cltp.proofs.OneRun.{one_run as one_call, one_start as one_begin}
use Rattle.cltp.proofs.SomeRun.{some_run as some_call, some_start as some_begin}
use Rattle.script_journal.specs.declared.event.Event.{Event}
use Rattle.script_lines.specs.declared.words.Dialect.TheVariants as dialects
use Rattle.script_lines.specs.declared.line.Line.{Line}
use Rattle.script_lines.specs.declared.line.Line.TheVariants as lines
use Rattle.script_lines.specs.Commands.{HasLine as IsOfCommand}
use Rattle.script_lines.specs.Grammar.{line_read}
use Rattle.script_lines.specs.Known.{Declared, is_end}
use Rattle.script_lines.specs.Names.{NamesDeclared}
use Rattle.script_lines.proofs.CommandLines.{line_has}
use Rattle.script_lines.proofs.LineNames.{line_named}
use Rattle.script_setup.specs.Fitting.{Fits, IsWell}
use Rattle.script_setup.specs.SetUp.{System, SetUp, titles_of}
use Rattle.script_setup.proofs.Elements.{at, there}
use Rattle.law_setup.specs.Agreeing.{AreOne}
use Rattle.law_setup.specs.Lines.{IsInOctets, LineInOctets, RunsAt}
use Rattle.law_setup.proofs.Fitted.{as_many, ends_one}
use Rattle.law_setup.proofs.InOctets.{address_octets}
use Rattle.law_setup.proofs.Kept.{line_runs}
use Rattle.law_setup.proofs.Octets.{line_octets}
use Rattle.law_setup.proofs.Started.{names_kept}
use Rattle.script_bench.specs.Script.{IsPlaced}
use Rattle.script_bench.specs.steps.Moves.{line_moves}
use Rattle.law_setup.specs.Networks.{NetworkLaws}
use Rattle.script_world.specs.Plays.{Going, HasLine, HasStart, PlayLaws}
use Rattle.law_setup.proofs.Placing.{IsOwn, titles_own}
use Rattle.tp4_world.specs.Run.{transport_address}
use Rattle.law_datagram_run.specs.Datagrams.{DatagramRun, RunsDatagrams, RunsLine, StartsDatagrams, cl_play, request_for}
use Rattle.law_datagram_run.specs.Users.{users_of}
use Rattle.law_datagram_run.proofs.Moving.{Near, call_near, start_clock}
use Rattle.law_datagram_run.proofs.Peopled.{has_users}

-- ---- the lines of a running network

module _ {N : Type 0} (link : N → Link (List ℕ)) where
  -- it has the line: its systems are there, and its selectors have 1 to 32 octets; a tick passes below the last value of the clock
  abbrev pub MayRun : List (List ℕ) → World N → Line → Type 0
  MayRun titles old lines.Nothing = Unit {0}
  MayRun titles old (lines.Send system selector to called octets) = IsSome (system_at old.systems system) × (to < length titles) × IsSelector selector × IsSelector called
  MayRun titles old lines.Tick = (link old.carrier).clock < 4000000000
  MayRun titles old lines.Settle = Unit {0}
  MayRun titles old (lines.Deliver number system) = Unit {0}
  MayRun titles old line = ⊥

-- an end system that is declared has users, at an address in octets
pub record IsListed (systems : List ClSystem) (system : ℕ) : Type 0 where
  pub own : ClSystem
  pub own_is : system_at systems system ≡ Some own
  pub address : is_nsap own.own ≡ true

is_some : {A : Type 0} (found : Option A) (value : A) → found ≡ Some value → IsSome found
is_some found value is = subst IsSome (sym is) refl

module _ {N : Type 0} (link : N → Link (List ℕ)) (steps : N → Call (List ℕ) → N → Type 0) where
  -- all that a network may be asked from here on is answered
  abbrev pub Serving : N → Type 0
  Serving = ServesOn is_nsap link steps

  -- a script of datagrams; as many titles as systems, which are titles in octets; a clock of at most so many lines; a network that answers; and users at each end system
  pub record FitsRun (names : Declared) (run : DatagramRun N) (lines : ℕ) : Type 0 where
    pub dialect : names.dialect ≡ dialects.Datagrams
    pub titles : length run.titles ≡ length names.systems
    pub clock : (link run.world.carrier).clock ≤ lines
    pub serves : Serving run.world.carrier
    pub own : AllByRecursion IsOwn run.titles
    pub listed : (system : ℕ) → is_end names system ≡ true → IsListed run.world.systems system

  abbrev pub cl_going : Going (DatagramRun N)
  cl_going = record { runs = λ run line. MayRun link run.titles run.world line; fits = FitsRun }

  -- ---- a line that was read

  selector_of : (selector : List ℕ) → 1 ≤ length selector → length selector ≤ 32 → IsSelector selector
  selector_of selector some most = record { some = some; most = most }

  may_run : (names : Declared) (titles : List (List ℕ)) (world : World N) (line : Line) → ((system : ℕ) → is_end names system ≡ true → IsListed world.systems system)
      → IsOfCommand dialects.Datagrams line → NamesDeclared names line → RunsAt (length titles) (link world.carrier).clock line → MayRun link titles world line
  may_run names titles world lines.Nothing listed of_it named runs = tt
  may_run names titles world (lines.Send system selector to called octets) listed of_it named runs =
      let own = listed system named.0.1 in (
        is_some (system_at world.systems system) own.own own.own_is,
        runs.1,
        selector_of selector runs.2.least runs.2.most,
        selector_of called runs.3.least runs.3.most,
      )
  may_run names titles world lines.Tick listed of_it named runs = runs
  may_run names titles world lines.Settle listed of_it named runs = tt
  may_run names titles world (lines.Deliver number system) listed of_it named runs = tt
  may_run names titles world (lines.Connect system selector to called options octets) listed of_it named runs = absurd of_it
  may_run names titles world (lines.Accept end options octets) listed of_it named runs = absurd of_it
  may_run names titles world (lines.Refuse end octets) listed of_it named runs = absurd of_it
  may_run names titles world (lines.Disconnect end octets) listed of_it named runs = absurd of_it
  may_run names titles world (lines.Data end octets) listed of_it named runs = absurd of_it
  may_run names titles world (lines.Expedite end octets) listed of_it named runs = absurd of_it
  may_run names titles world (lines.Window end credit) listed of_it named runs = absurd of_it
  may_run names titles world (lines.Unit system to wish octets) listed of_it named runs = absurd of_it
  may_run names titles world (lines.Inject lan system octets) listed of_it named runs = absurd of_it
  may_run names titles world (lines.Restart system) listed of_it named runs = absurd of_it
  may_run names titles world other listed of_it named runs = absurd runs

  -- ---- a line and the call that it is

  -- it does nothing, or is one call of the network
  pub data Ran (old : World N) (made : List Event) (new : World N) : Type 0 where
    Idle : made ≡ [] → new ≡ old → Ran old made new
    Called : (call : ClCall) → RunsCall link steps old call made new → Ran old made new

  pub ran : (titles : List (List ℕ)) (old : World N) (line : Line) (made : List Event) (new : World N) → RunsLine link steps titles old line made new → Ran old made new
  ran titles old lines.Nothing made new h = Idle h.0 h.1
  ran titles old (lines.Send system selector to called octets) made new h = Called (Sending system (request_for selector h.0 called octets)) h.2
  ran titles old lines.Tick made new h = Called Ticking h
  ran titles old lines.Settle made new h = Called Settling h
  ran titles old (lines.Deliver number system) made new h = Called (Delivering number system) h
  ran titles old other made new h = absurd h

  -- ---- a line that is no event line

  tells_nothing : (titles : List (List ℕ)) (old : World N) (line : Line) (made : List Event) (new : World N) → IsPlaced false line → RunsLine link steps titles old line made new → made ≡ []
  tells_nothing titles old lines.Nothing made new placed h = h.0
  tells_nothing titles old (lines.Send system selector to called octets) made new placed h = absurd (false≢true placed)
  tells_nothing titles old lines.Tick made new placed h = absurd (false≢true placed)
  tells_nothing titles old lines.Settle made new placed h = absurd (false≢true placed)
  tells_nothing titles old (lines.Deliver number system) made new placed h = absurd (false≢true placed)
  tells_nothing titles old other made new placed h = absurd h

abbrev first_run : {N : Type 0} → SetUp → World N → DatagramRun N
first_run setup world = record { titles = titles_of setup; life = setup.life; world = world }

module _ {N : Type 0} (link : N → Link (List ℕ)) (steps : N → Call (List ℕ) → N → Type 0) (keeps : (old : N) (call : Call (List ℕ)) (new : N) → steps old call new → Keeps (link old) call (link new))
    (makes : SetUp → N → Type 0) (laws : NetworkLaws link steps makes) where
  -- ---- one run

  one_of : (old : World N) (call : ClCall) (made other : List Event) (new next : World N) → RunsCall link steps old call made new → RunsCall link steps old call other next → (made ≡ other) × (new ≡ next)
  one_of old call made other new next a b = one_call link steps (one_gathering link steps) laws.one_answer old call made other new next a b

  one_line : (titles : List (List ℕ)) (old : World N) (line : Line) (made other : List Event) (new last : World N) → RunsLine link steps titles old line made new → RunsLine link steps titles old line other last
      → (made ≡ other) × (new ≡ last)
  one_line titles old lines.Nothing made other new last a b = (a.0 ∙ sym b.0, a.1 ∙ sym b.1)
  one_line titles old (lines.Send system selector to called octets) made other new last a b =
      let found : Some a.0 ≡ Some b.0 = sym a.1 ∙ b.1 in
      let same : a.0 ≡ b.0 = cc in
      one_of old (Sending system (request_for selector b.0 called octets)) made other new last
      (subst (λ (receiver : List ℕ). RunsCall link steps old (Sending system (request_for selector receiver called octets)) made new) same a.2) b.2
  one_line titles old lines.Tick made other new last a b = one_of old Ticking made other new last a b
  one_line titles old lines.Settle made other new last a b = one_of old Settling made other new last a b
  one_line titles old (lines.Deliver number system) made other new last a b = one_of old (Delivering number system) made other new last a b
  one_line titles old another made other new last a b = absurd a

  -- ---- some run

  -- events, and a network that answers on
  record Goes (titles : List (List ℕ)) (old : World N) (line : Line) : Type 0 where
    made : List Event
    new : World N
    runs : RunsLine link steps titles old line made new
    serves : Serving link steps new.carrier
    same : new.systems ≡ old.systems

  called : (old : World N) (call : ClCall) → Serving link steps old.carrier → CanRun is_nsap link old call → HasRun link steps (Serving link steps) old call
  called old call serves may = some_call link steps keeps is_nsap old call serves may

  address_passes : (titles : List (List ℕ)) (n : ℕ) (title : List ℕ) → AllByRecursion IsOwn titles → slice_get titles n ≡ Some title → is_nsap (transport_address title) ≡ true
  address_passes titles n title own is =
      let o = at IsOwn titles n title own is in
      nsap_passes (transport_address title) (address_octets title 1 (omega arith) o.fits.some o.octets)

  goes_send : (titles : List (List ℕ)) (old : World N) (system to : ℕ) (selector called_at octets : List ℕ) → AllByRecursion IsOwn titles → IsListed old.systems system → Serving link steps old.carrier
      → MayRun link titles old (lines.Send system selector to called_at octets) → LineInOctets (lines.Send system selector to called_at octets) → Goes titles old (lines.Send system selector to called_at octets)
  goes_send titles old system to selector called_at octets own listed serves may are =
      let receiver = there titles to may.1 in
      let request = request_for selector receiver.elem called_at octets in
      let can : CanSend is_nsap old.systems system request = record {
        own = listed.own;
        own_is = listed.own_is;
        from = listed.address;
        to = address_passes titles to receiver.elem own receiver.is;
        from_selector = may.2;
        to_selector = may.3;
        from_octets = are.0.octets;
        to_octets = are.1.octets;
        octets = are.2;
      } in
      let h = called old (Sending system request) serves can in
      record { made = h.made; new = h.new; runs = (receiver.elem, receiver.is, h.runs); serves = h.stands; same = h.same }

  goes_on : (names : Declared) (titles : List (List ℕ)) (old : World N) (line : Line) → AllByRecursion IsOwn titles → ((system : ℕ) → is_end names system ≡ true → IsListed old.systems system)
      → NamesDeclared names line → Serving link steps old.carrier → MayRun link titles old line → LineInOctets line → Goes titles old line
  goes_on names titles old lines.Nothing own listed named serves may are = record { made = []; new = old; runs = (refl, refl); serves = serves; same = refl }
  goes_on names titles old (lines.Send system selector to called_at octets) own listed named serves may are =
      goes_send titles old system to selector called_at octets own (listed system named.0.1) serves may are
  goes_on names titles old lines.Tick own listed named serves may are =
      let h = called old Ticking serves may in
      record { made = h.made; new = h.new; runs = h.runs; serves = h.stands; same = h.same }
  goes_on names titles old lines.Settle own listed named serves may are =
      let h = called old Settling serves tt in
      record { made = h.made; new = h.new; runs = h.runs; serves = h.stands; same = h.same }
  goes_on names titles old (lines.Deliver number system) own listed named serves may are =
      let h = called old (Delivering number system) serves tt in
      record { made = h.made; new = h.new; runs = h.runs; serves = h.stands; same = h.same }
  goes_on names titles old other own listed named serves may are = absurd may

  -- ---- the start

  one_start : (setup : SetUp) (made other : List Event) (new last : DatagramRun N) → StartsDatagrams link steps makes setup made new → StartsDatagrams link steps makes setup other last
      → (made ≡ other) × (new ≡ last)
  one_start setup made other new last a b =
      let net : a.0 ≡ b.0 = laws.one_net setup a.0 b.0 a.2 b.2 in
      let here : Starts link steps b.0 (users_of setup) made a.1 = subst (λ (n : N). Starts link steps n (users_of setup) made a.1) net a.3 in
      let same = one_begin link steps (one_gathering link steps) laws.one_answer b.0 (users_of setup) made other a.1 b.1 here b.3 in
      (same.0, a.4 ∙ ap (λ (w : World N). first_run setup w) same.1 ∙ sym b.4)

  -- a network that serves transport serves datagrams
  serving : (setup : SetUp) (net : N) → IsWell setup → IsInOctets setup → makes setup net → Serving link steps net
  serving setup net well octets made = λ calls new course.
      let s = laws.serves setup net well octets made calls new course in
      record { answered = s.answered; least = s.least }

  record Begun (setup : SetUp) : Type 0 where
    made : List Event
    first : DatagramRun N
    starts : StartsDatagrams link steps makes setup made first
    serves : Serving link steps first.world.carrier

  begins : (setup : SetUp) → IsWell setup → IsInOctets setup → Begun setup
  begins setup well octets =
      let has = laws.some_net setup well octets in
      let h : HasBegin link steps (Serving link steps) has.net (users_of setup) =
      some_begin link steps keeps is_nsap has.net (users_of setup) (serving setup has.net well octets has.made) in
      record {
        made = h.made;
        first = record { titles = titles_of setup; life = setup.life; world = h.new };
        starts = (has.net, h.new, has.made, h.starts, refl);
        serves = h.stands;
      }

  -- users at each end system that is declared
  listed_first : (names : Declared) (setup : SetUp) → AreOne names setup → AllByRecursion IsOwn (titles_of setup) → (system : ℕ) → is_end names system ≡ true → IsListed (users_of setup) system
  listed_first names setup one own system is =
      let h = has_users setup system (ends_one setup.systems names.systems system one.systems ∙ is) in
      record {
        own = h.own;
        own_is = h.own_is;
        address = ap is_nsap h.address_is ∙ address_passes (titles_of setup) system h.title own h.title_is;
      }

  start_fits : (names : Declared) (setup : SetUp) (count : ℕ) (made : List Event) (new : DatagramRun N) → names.dialect ≡ dialects.Datagrams → AreOne names setup → IsWell setup → IsInOctets setup
      → Fits setup lines.Start → StartsDatagrams link steps makes setup made new → FitsRun link steps names new count
  start_fits names setup count made new of_it one well octets within h =
      let some = begins setup well octets in
      let same : new ≡ some.first = (one_start setup made some.made new some.first h some.starts).1 in
      let zero_is = laws.clock setup h.0 h.2 in
      let stays = start_clock link steps keeps h.0 (users_of setup) made h.1 h.3 in
      let own = titles_own (titles_of setup) well.titles octets.titles in
      subst (λ (run : DatagramRun N). FitsRun link steps names run count) (sym h.4) (record {
        dialect = of_it;
        titles = length-map setup.systems (λ (s : System). s.title) ∙ as_many names setup one;
        clock = omega arith;
        serves = subst (λ (run : DatagramRun N). Serving link steps run.world.carrier) (sym same ∙ h.4) some.serves;
        own = own;
        listed = subst (λ (users : List ClSystem). (system : ℕ) → is_end names system ≡ true → IsListed users system) (sym h.3.same) (listed_first names setup one own);
      })

  some_start : (setup : SetUp) → IsWell setup → IsInOctets setup → HasStart (cl_play link steps makes) setup
  some_start setup well octets =
      let some = begins setup well octets in
      record { made = some.made; first = some.first; starts = some.starts }

  -- ---- a line that was read

  one_step : (line : Line) (old : DatagramRun N) (made other : List Event) (new last : DatagramRun N) → RunsDatagrams link steps old line made new → RunsDatagrams link steps old line other last
      → (made ≡ other) × (new ≡ last)
  one_step line old made other new last a b =
      let same = one_line old.titles old.world line made other a.0 b.0 a.1 b.1 in
      (same.0, a.2 ∙ ap (λ (w : World N). record old { world = w }) same.1 ∙ sym b.2)

  line_near : (titles : List (List ℕ)) (old : World N) (line : Line) (made : List Event) (new : World N) → RunsLine link steps titles old line made new → Near link steps keeps old new
  line_near titles old line made new h = by (ran link steps titles old line made new h)
    where
      by : Ran link steps old made new → Near link steps keeps old new
      by (Idle none same) = subst (λ (w : World N). Near link steps keeps old w) (sym same) (record { clock = omega arith; systems = refl })
      by (Called call runs) = call_near link steps keeps old call made new runs

  module _ (names declared : Declared) (old : DatagramRun N) (count : ℕ) (octets : List ℕ) (line : Line) (begun : names.started ≡ true) (fits : FitsRun link steps names old count) (few : count < most_lines)
      (is : line_read names octets ≡ Ok (record { line = line; names = declared })) where
    read_runs : MayRun link old.titles old.world line
    read_runs =
        let low : count < 4000000000 = omega (arith, few) in
        let clock = fits.clock in
        let of_it : IsOfCommand dialects.Datagrams line = subst (λ d. IsOfCommand d line) fits.dialect (line_has names octets (record { line = line; names = declared }) is) in
        may_run link steps names old.titles old.world line fits.listed of_it (line_named names octets (record { line = line; names = declared }) is)
        (subst (λ (n : ℕ). RunsAt n (link old.world.carrier).clock line) (sym fits.titles) (line_runs names (link old.world.carrier).clock octets line declared begun (omega arith) is))

    goes : Goes old.titles old.world line
    goes =
        goes_on names old.titles old.world line fits.own fits.listed (line_named names octets (record { line = line; names = declared }) is) fits.serves read_runs (line_octets names octets line declared is)

    some_step : HasLine (cl_play link steps makes) old line
    some_step = record { made = goes.made; new = record old { world = goes.new }; steps = (goes.new, goes.runs, refl) }

    read_fits : (made : List Event) (new : DatagramRun N) → RunsDatagrams link steps old line made new → FitsRun link steps declared new (count + 1)
    read_fits made new h =
        let same : h.0 ≡ goes.new = (one_line old.titles old.world line made goes.made h.0 goes.new h.1 goes.runs).1 in
        let near = line_near old.titles old.world line made h.0 h.1 in
        let kept : declared ≡ names = names_kept names declared begun (line_moves names octets line declared is).kept in
        let before = fits.clock in
        let after = near.clock in
        subst (λ (run : DatagramRun N). FitsRun link steps declared run (count + 1)) (sym h.2) (record {
          dialect = ap (λ (n : Declared). n.dialect) kept ∙ fits.dialect;
          titles = fits.titles ∙ sym (ap (λ (n : Declared). length n.systems) kept);
          clock = omega arith;
          serves = subst (λ (w : World N). Serving link steps w.carrier) (sym same) goes.serves;
          own = fits.own;
          listed = λ system end. subst (λ (users : List ClSystem). IsListed users system) (sym near.systems) (fits.listed system (ap (λ (n : Declared). is_end n system) (sym kept) ∙ end));
        })

  pub cl_laws : PlayLaws (cl_play link steps makes) (cl_going link steps)
  cl_laws = record {
    one_start = one_start;
    one_step = one_step;
    idle = λ line old made new placed step. tells_nothing link steps old.titles old.world line made step.0 placed step.1;
    some_start = some_start;
    start_fits = start_fits;
    read_runs = read_runs;
    read_fits = λ names declared old count octets line made new begun fits few is step. read_fits names declared old count octets line begun fits few is made new step;
    some_step = some_step;
  }
