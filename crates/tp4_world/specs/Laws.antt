-- What holds of every run of a network with its transport entities. `wrap` is what a receiving half keeps of a number, by its block: but for whole
-- numbers it is whatever one likes.
use Rattle.std.specs.Prelude.{◌≡◌, ℕ, true, ◌++◌, List, Bool}
use Rattle.std.specs.List.{AllByRecursion}
use Rattle.osi_base.specs.Link.{Link}
use Rattle.osi_base.specs.Calls.{Call}
use Rattle.script_journal.specs.RawLawful.{RawLawful}
use Rattle.script_journal.specs.declared.event.Event.{Event}
use Rattle.script_lines.specs.declared.line.Line.{Line}
use Rattle.script_lines.specs.Injecting.{HasNoInject}
use Rattle.law_carrier_answers.specs.Answers.{OneStep}
use Rattle.tp4_number.specs.Number.{whole, wire}
use Rattle.tp4_world.specs.Run.{RunsLine, RunsLines, Starts}
use Rattle.tp4_world.specs.World.{World}
use Rattle.tp4_world.specs.declared.place.Placed.{Placed}
use Rattle.tp4_world.specs.First.{HasNoEnd, IsFirst}
use Rattle.tp4_world.specs.Wire.{world_on_wire}
use Rattle.tp4_world.specs.Called.{WorldCall, DidAll, InjectsNothing}
use Rattle.tp4_world.specs.Asked.{AreAsked}
use Rattle.tp4_world.specs.Total.{ServesOn, AreReady, IsReady, CanRun, HasRun, HasStart}

-- ---- one run

-- where the carrier answers in one way, a line has one list of events, and leads to one state
abbrev pub OneRun : {C : Type 0} → (C → Link (List ℕ)) → (C → Call (List ℕ) → C → Type 0) → Type 0
OneRun {C} link steps = OneStep steps → (wrap : ℕ → ℕ → ℕ) (titles : List (List ℕ)) (old : World C) (line : Line) (made other : List Event) (new next : World C)
    → RunsLine link steps wrap titles old line made new → RunsLine link steps wrap titles old line other next → (made ≡ other) × (new ≡ next)

-- and so has the start
abbrev pub OneStart : {C : Type 0} → (C → Link (List ℕ)) → (C → Call (List ℕ) → C → Type 0) → Type 0
OneStart {C} link steps = OneStep steps → (first : C) (placed : List Placed) (made other : List Event) (new next : World C)
    → Starts link steps first placed made new → Starts link steps first placed other next → (made ≡ other) × (new ≡ next)

-- ---- raw units

-- while the carrier is honest, each raw unit that is shown was sent to that system, from that address, with those octets, at most the lifetime
-- before: no injection was taken
abbrev pub ShowsSentWhereHonest : {C : Type 0} → (C → Link (List ℕ)) → (C → Call (List ℕ) → C → Type 0) → Type 0
ShowsSentWhereHonest {C} link steps = (wrap : ℕ → ℕ → ℕ) (life : ℕ) (titles : List (List ℕ)) (made : C) (placed : List Placed) (begun journal : List Event) (script : List Line) (first last : World C)
    → IsFirst life titles (link made) placed → Starts link steps made placed begun first → RunsLines link steps wrap titles first script journal last
    → (link last.carrier).honest ≡ true → RawLawful life titles (begun ++ journal)

-- so where nothing is injected, each raw unit that is shown was sent to that system, from that address, with those octets, at most the
-- lifetime before
abbrev pub ShowsSent : {C : Type 0} → (C → Link (List ℕ)) → (C → Call (List ℕ) → C → Type 0) → Type 0
ShowsSent {C} link steps = (wrap : ℕ → ℕ → ℕ) (life : ℕ) (titles : List (List ℕ)) (made : C) (placed : List Placed) (begun journal : List Event) (script : List Line) (first last : World C)
    → IsFirst life titles (link made) placed → Starts link steps made placed begun first → HasNoInject script
    → RunsLines link steps wrap titles first script journal last → RawLawful life titles (begun ++ journal)

-- ---- honest carriers

-- a carrier that is honest after lines was so before them; and where no line is an `inject` line it is as honest as it was
pub record StaysHonest {C : Type 0} (link : C → Link (List ℕ)) (steps : C → Call (List ℕ) → C → Type 0) : Type 0 where
  pub before : (wrap : ℕ → ℕ → ℕ) (titles : List (List ℕ)) (script : List Line) (first last : World C) (journal : List Event) → RunsLines link steps wrap titles first script journal last
      → (link last.carrier).honest ≡ true → (link first.carrier).honest ≡ true
  pub alike : (wrap : ℕ → ℕ → ℕ) (titles : List (List ℕ)) (script : List Line) (first last : World C) (journal : List Event) → HasNoInject script
      → RunsLines link steps wrap titles first script journal last → (link last.carrier).honest ≡ (link first.carrier).honest

-- a carrier that is honest after calls was so before them; and where nothing is injected it is as honest as it was
pub record CallsStayHonest {C : Type 0} (link : C → Link (List ℕ)) (steps : C → Call (List ℕ) → C → Type 0) : Type 0 where
  pub before : (wrap : ℕ → ℕ → ℕ) (calls : List WorldCall) (first last : World C) (journal : List Event) → DidAll link steps wrap first calls journal last
      → (link last.carrier).honest ≡ true → (link first.carrier).honest ≡ true
  pub alike : (wrap : ℕ → ℕ → ℕ) (calls : List WorldCall) (first last : World C) (journal : List Event) → AllByRecursion InjectsNothing calls
      → DidAll link steps wrap first calls journal last → (link last.carrier).honest ≡ (link first.carrier).honest

-- ---- what users ask

-- the journal of lines has what each of them asks
abbrev pub TellsAsked : {C : Type 0} → (C → Link (List ℕ)) → (C → Call (List ℕ) → C → Type 0) → Type 0
TellsAsked {C} link steps = (wrap : ℕ → ℕ → ℕ) (titles : List (List ℕ)) (first : World C) (script : List Line) (journal : List Event) (last : World C)
    → RunsLines link steps wrap titles first script journal last → AreAsked titles script journal

-- ---- whole numbers

-- a line over wire numbers is one over whole numbers, for each network with whole numbers that has these wire numbers: it has the same
-- events, and leads to what has the wire numbers of what that one leads to
abbrev pub WholeLine : {C : Type 0} → (C → Link (List ℕ)) → (C → Call (List ℕ) → C → Type 0) → Type 0
WholeLine {C} link steps = (titles : List (List ℕ)) (old : World C) (line : Line) (made : List Event) (new : World C)
    → RunsLine link steps wire titles (world_on_wire old) line made new
    → (true_new : World C) × RunsLine link steps whole titles old line made true_new × (new ≡ world_on_wire true_new)

-- a line over whole numbers is one over their wire numbers
abbrev pub WireLine : {C : Type 0} → (C → Link (List ℕ)) → (C → Call (List ℕ) → C → Type 0) → Type 0
WireLine {C} link steps = (titles : List (List ℕ)) (old : World C) (line : Line) (made : List Event) (new : World C)
    → RunsLine link steps whole titles old line made new → RunsLine link steps wire titles (world_on_wire old) line made (world_on_wire new)

-- so lines over wire numbers that begin without an end are lines over whole numbers, with the same journal
abbrev pub WholeRun : {C : Type 0} → (C → Link (List ℕ)) → (C → Call (List ℕ) → C → Type 0) → Type 0
WholeRun {C} link steps = (titles : List (List ℕ)) (first : World C) (script : List Line) (journal : List Event) (last : World C)
    → AllByRecursion (λ one. HasNoEnd one.entity) first.entities → RunsLines link steps wire titles first script journal last
    → (true_last : World C) × RunsLines link steps whole titles first script journal true_last × (last ≡ world_on_wire true_last)

-- calls over wire numbers that begin without an end are calls over whole numbers, with the same events
abbrev pub WholeCalls : {C : Type 0} → (C → Link (List ℕ)) → (C → Call (List ℕ) → C → Type 0) → Type 0
WholeCalls {C} link steps = (first : World C) (calls : List WorldCall) (journal : List Event) (last : World C)
    → AllByRecursion (λ one. HasNoEnd one.entity) first.entities → DidAll link steps wire first calls journal last
    → (true_last : World C) × DidAll link steps whole first calls journal true_last × (last ≡ world_on_wire true_last)

-- ---- each line has a run

-- where the carrier serves from then on, each line that may be asked has a run, after which it still does
abbrev pub SomeRun : {C : Type 0} → (C → Link (List ℕ)) → (C → Call (List ℕ) → C → Type 0) → Type 0
SomeRun {C} link steps = (is_address : List ℕ → Bool) (wrap : ℕ → ℕ → ℕ) (titles : List (List ℕ)) (old : World C) (line : Line)
    → IsReady is_address link (ServesOn is_address link steps) old → CanRun is_address titles link old line
    → HasRun is_address link steps (ServesOn is_address link steps) wrap titles old line

-- and so has the start
abbrev pub SomeStart : {C : Type 0} → (C → Link (List ℕ)) → (C → Call (List ℕ) → C → Type 0) → Type 0
SomeStart {C} link steps = (is_address : List ℕ → Bool) (first : C) (placed : List Placed) → ServesOn is_address link steps first → AreReady is_address (link first).clock placed
    → HasStart is_address link steps (ServesOn is_address link steps) first placed
