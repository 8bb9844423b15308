-- A network with transport entities and relays, which a script runs once it is set up. After each event line a pump of the relays follows; a `settle`
-- line has turns, in each of which the network settles and a pump follows.
use Rattle.std.specs.Prelude.{◌≡◌, ℕ, ◌+◌, ◌&&◌, Bool, true, false, not, nat_lt, List, [], ◌∷◌, ◌++◌, None}
use Rattle.osi_base.specs.Link.{Link}
use Rattle.osi_base.specs.Calls.{Call}
use Rattle.script_journal.specs.declared.cause.Refused.TheVariants as refused
use Rattle.script_journal.specs.declared.cause.Settled.TheVariants.{Stopped}
use Rattle.script_journal.specs.declared.event.Event.{Event}
use Rattle.script_journal.specs.declared.event.Event.TheVariants as events
use Rattle.script_lines.specs.declared.words.Dialect.TheVariants as dialects
use Rattle.script_lines.specs.declared.line.Line.{Line}
use Rattle.script_lines.specs.declared.line.Line.TheVariants as lines
use Rattle.script_setup.specs.SetUp.{SetUp, timers_of, titles_of}
use Rattle.law_setup.specs.Entities.{entities_of}
use Rattle.script_world.specs.Plays.{Playing}
use Rattle.tp4_number.specs.Number.{wire}
use Rattle.tp4_relay.specs.Kept.{Kept, nothing_kept}
use Rattle.tp4_relay.specs.Pump.{PumpStep}
use Rattle.tp4_world.specs.Run.{RunsLine, Settles, Starts}
use Rattle.tp4_world.specs.World.{World}
use Rattle.law_relay.specs.Asked.{is_relayed}
use Rattle.law_relay.specs.Rows.{rows_of}
use Rattle.law_relay.specs.Services.{AsksEnd, AsksFor}

-- the titles of the systems by their numbers, the network with its transport entities, and what the relays keep of the journal
pub record RelayRun (N : Type 0) : Type 0 where
  pub titles : List (List ℕ)
  pub ends : World N
  pub relay : Kept

-- ---- turns

-- the last of these events tells that the network was stopped as it settled
abbrev pub is_stop : Event → Bool
is_stop (events.Settle (Stopped count)) = true
is_stop event = false

abbrev pub is_stopped : List Event → Bool
is_stopped [] = false
is_stopped (event ∷ []) = is_stop event
is_stopped (event ∷ other ∷ made) = is_stopped (other ∷ made)

-- another turn follows where the pump did something and the network was not stopped
abbrev pub is_more : Bool → List Event → Bool
is_more pumped settled = pumped && not (is_stopped settled)

-- ---- lines

-- a line that is no event line, a `settle` line, or another event line
pub data Part : Type 0 where
  Idle : Part
  Settling : Part
  Asking : Part

abbrev pub part_of : Line → Part
part_of lines.Nothing = Idle
part_of lines.Settle = Settling
part_of line = Asking

-- ---- what they do

module _ {N : Type 0} (link : N → Link (List ℕ)) (steps : N → Call (List ℕ) → N → Type 0) where
  -- what happens, and then a pump over the events of that
  pub record PumpsAfter (Happens : World N → List Event → World N → Type 0) (old : World N) (kept : Kept) (pumped : Bool) (here made : List Event) (new : World N) (last : Kept) : Type 0 where
    pub mid : World N
    pub rest : List Event
    pub happens : Happens old here mid
    pub pumps : PumpStep (AsksFor link steps) (AsksEnd link steps) mid kept here pumped rest new last
    pub made_is : made ≡ here ++ rest

  -- what is of a relay is refused before all else; any other line is one of the network
  abbrev pub Answers : Bool → List (List ℕ) → Line → World N → List Event → World N → Type 0
  Answers true titles line old made new = (made ≡ events.No refused.Relayed ∷ []) × (new ≡ old)
  Answers false titles line old made new = RunsLine link steps wire titles old line made new

  -- a turn, and so on, until a pump did nothing, the network was stopped, or there were 64
  pub data Turns : ℕ → World N → Kept → List Event → World N → Kept → Type 0 where
    LastTurn : (count : ℕ) → (old : World N) → (kept : Kept) → (made : List Event) → (new : World N) → (last : Kept) → (pumped : Bool) → (settled : List Event)
        → PumpsAfter (Settles link steps wire 0) old kept pumped settled made new last → (is_more pumped settled && nat_lt (count + 1) 64) ≡ false → Turns count old kept made new last
    OneTurn : (count : ℕ) → (old : World N) → (kept : Kept) → (made : List Event) → (new : World N) → (last : Kept) → (pumped : Bool) → (settled : List Event)
        → (mid : World N) → (middle : Kept) → (here rest : List Event)
        → PumpsAfter (Settles link steps wire 0) old kept pumped settled here mid middle → (is_more pumped settled && nat_lt (count + 1) 64) ≡ true
        → Turns (count + 1) mid middle rest new last → made ≡ here ++ rest → Turns count old kept made new last

  abbrev pub RunsPart : Part → RelayRun N → Line → List Event → World N → Kept → Type 0
  RunsPart Idle old line made new last = (made ≡ []) × (new ≡ old.ends) × (last ≡ old.relay)
  RunsPart Settling old line made new last = Turns 0 old.ends old.relay made new last
  RunsPart Asking old line made new last =
      (pumped : Bool) × (here : List Event) × PumpsAfter (Answers (is_relayed old.relay line) old.titles line) old.ends old.relay pumped here made new last

  -- what a line does
  abbrev pub RunsRelays : RelayRun N → Line → List Event → RelayRun N → Type 0
  RunsRelays old line made new =
      (ends : World N) × (relay : Kept) × RunsPart (part_of line) old line made ends relay × (new ≡ record old { ends = ends; relay = relay })

module _ {N : Type 0} (link : N → Link (List ℕ)) (steps : N → Call (List ℕ) → N → Type 0) (makes : SetUp → N → Type 0) where
  -- the network is made with its transport entities, and what it tells at tick 0 is told; the relays saw nothing yet
  abbrev pub StartsRelays : SetUp → List Event → RelayRun N → Type 0
  StartsRelays setup made new =
      (net : N) × (first : World N) × makes setup net × Starts link steps net (entities_of setup) made first
      × (new ≡ record { titles = titles_of setup; ends = first; relay = nothing_kept (rows_of setup) (timers_of setup.life setup.limits) })

  -- nothing can be injected, so no arrival is a stray
  abbrev pub relay_play : Playing (RelayRun N)
  relay_play = record { dialect = dialects.Relay; starts = StartsRelays; step = RunsRelays link steps; strays = λ run. None }
