-- What is said of the network of two end systems on one LAN (X.213, queue model of the network connectionless-mode service).
use Rattle.std.specs.Prelude.{◌≡◌, ℕ, true, List, [], ◌∷◌, Ok, map}
use Rattle.std.specs.List.{AllByRecursion}
use Rattle.nsap.specs.declared.port.Port.{Port}
use Rattle.osi_base.specs.declared.unit.Unit.{Unit as CarriedUnit}
use Rattle.osi_base.specs.declared.unit.Up.{Up}
use Rattle.osi_base.specs.declared.unit.Wish.{Wish}
use Rattle.osi_base.specs.Calls.{Call}
use Rattle.osi_base.specs.Gathering.{Gathers}
use Rattle.lan_step.specs.Bag.{Bag, BagStep, link_of, new_bag}
use Rattle.lan_step.specs.declared.row.Lan.{Lan}
use Rattle.lan_step.specs.declared.row.PortRow.{PortRow}
use Rattle.esis_tables.specs.Rows.{Rows, no_rows}
use Rattle.clnp_segment.specs.Store.{Partial}
use Rattle.clnp_system.specs.Node.{Frame, Node, fresh_node}
use Rattle.clnp_system.specs.Sending.{Sends}
use Rattle.clnp_system.specs.Setting.{Setting}
use Rattle.clnp_system.specs.Tables.{Tables, rows_tables}
use Rattle.law_clnp_step.specs.Handling.{Changes}
use Rattle.law_clnp_step.specs.Network.{Network, net_link}
use Rattle.law_clnp_step.specs.Sound.{IsSound}
use Rattle.law_clnp_step.specs.Step.{Begins, NetStep, is_source}
use Rattle.net_world.specs.Fifo.{IsFifo, NoneDropped, arrivals}
use Rattle.net_world.specs.Prompt.{IsPrompt, IsUsual}
use Rattle.net_world.specs.Run.{Passes}
use Rattle.law_clnp_net.specs.Beginning.{first_node, BeginsAs, MayBegin}
use Rattle.law_clnp_net.specs.Calm.{IsCalmNet, titles_of}
use Rattle.law_clnp_net.specs.Cutting.{IsFrameTo, KeepsAll, SendsTo}
use Rattle.law_clnp_net.specs.Joining.{Bring, HasNone, unit_key}
use Rattle.law_clnp_net.specs.Reached.{Reached}
use Rattle.law_clnp_net.specs.Waiting.{Waits, WaitsIn}
use Rattle.osi_base.specs.Link.{Link}
use Rattle.law_carrier_answers.specs.Answers.{AlwaysAnswers, OneStep, SomeGathering}
use Rattle.law_clnp_net.specs.Serving.{Serves, StandsInOctets}
use Rattle.law_clnp_net.specs.Standing.{FitsBag, Stands, is_nsap, is_port}
use Rattle.esis_tables.specs.Told.{IsRouter, Told}
use Rattle.law_clnp_net.specs.Hellos.{known_router, hello_tables, AreByHellos, with_nodes}

-- ---- the network

-- a calm network loses nothing and keeps order
abbrev pub IsFifoNet : Type 0
IsFifoNet = (rows : List PortRow) (first second : Setting) (here there : Port) → IsCalmNet rows first second here there
    → IsFifo (net_link link_of) (NetStep link_of BagStep rows_tables) (titles_of first second) (WaitsIn rows first second here there)

-- it begins with nothing on its way, once what then waits was taken up and was no drop
abbrev pub BeginsEmpty : Type 0
BeginsEmpty = (lans : List Lan) (rows : List PortRow) (first second : Setting) (here there : Port) (life : ℕ) (begun new : Network Bag Rows) (ups : List (Up (List ℕ)))
    → IsCalmNet rows first second here there
    → Begins link_of BagStep rows_tables (new_bag lans rows) (first_node first ∷ first_node second ∷ []) life begun
    → Gathers (net_link link_of) (NetStep link_of BagStep rows_tables) begun ups new → NoneDropped ups
    → (arrivals ups ≡ []) × WaitsIn rows first second here there new []

-- such a network serves again once nothing is lost, whatever was before
abbrev pub IsPromptNet : Type 0
IsPromptNet = (rows : List PortRow) (first second : Setting) (here there : Port) → IsCalmNet rows first second here there
    → IsPrompt (net_link link_of) (NetStep link_of BagStep rows_tables) (titles_of first second) (Reached rows first second) (Waits rows first second here there)

-- whatever is called but an injection, no system comes to know of another, and each frame afloat has a PDU between users, or is a hello that goes to no system
abbrev pub StaysReached : Type 0
StaysReached = (rows : List PortRow) (first second : Setting) (here there : Port) → IsCalmNet rows first second here there
    → (old new : Network Bag Rows) (call : Call (List ℕ)) (ups : List (Up (List ℕ))) → Reached rows first second old → IsUsual (titles_of first second) call
    → Passes (net_link link_of) (NetStep link_of BagStep rows_tables) old call ups new → Reached rows first second new

-- and so it begins
abbrev pub BeginsReached : Type 0
BeginsReached = (lans : List Lan) (rows : List PortRow) (first second : Setting) (here there : Port) (life : ℕ) (begun new : Network Bag Rows) (ups : List (Up (List ℕ)))
    → IsCalmNet rows first second here there → Begins link_of BagStep rows_tables (new_bag lans rows) (first_node first ∷ first_node second ∷ []) life begun
    → Gathers (net_link link_of) (NetStep link_of BagStep rows_tables) begun ups new → Reached rows first second new

-- ---- a unit that is cut

-- where nothing that is held has the key of a unit, its frames bring it, and leave all else that is held as it was
abbrev pub CutBrings : Type 0 → Type 0
CutBrings N = (tables : Tables N) (node : Node N) (now : ℕ) (other : Setting) (unit : CarriedUnit (List ℕ)) (port : Port) (frames : List Frame) (after : Node N) (others : List Partial)
    → (s : SendsTo tables node now other unit port frames after) → (s.wish.cut ≡ true → HasNone (unit_key unit node.next_id) others) → Bring tables other unit others frames others

-- and so it is when a unit is taken, whatever is held of older ones
abbrev pub IsNewKey : Type 0
IsNewKey = (old : Network Bag Rows) (unit : CarriedUnit (List ℕ)) (wish : Wish) (node after : Node Rows) (nodes : List (Node Rows)) (frames : List Frame) → IsSound link_of old
    → old.link.honest ≡ true → Changes (is_source unit.from) old.nodes node after nodes → Sends rows_tables node (link_of old.link).clock unit wish (Ok frames) after → wish.cut ≡ true
    → AllByRecursion (λ (n : Node Rows). HasNone (unit_key unit node.next_id) n.store.held) old.nodes

-- each frame of a unit goes from the one port to the other
abbrev pub CutGoes : Type 0 → Type 0
CutGoes N = (tables : Tables N) (node : Node N) (now : ℕ) (other : Setting) (unit : CarriedUnit (List ℕ)) (port : Port) (frames : List Frame) (after : Node N)
    → SendsTo tables node now other unit port frames after → AllByRecursion (IsFrameTo node.setup port unit) frames

-- its sender gives an identifier, and else stays as it was
abbrev pub CutKeeps : Type 0 → Type 0
CutKeeps N = (tables : Tables N) (node : Node N) (now : ℕ) (other : Setting) (unit : CarriedUnit (List ℕ)) (port : Port) (frames : List Frame) (after : Node N)
    → SendsTo tables node now other unit port frames after → KeepsAll node now after

-- ---- what a network answers (X.233, connectionless-mode network service): where the carrier of its frames answers in one way, so does it; and over LANs it always answers

-- what is asked of the network has one answer, and leads to one network, whatever its systems know of each other
abbrev pub OneAnswer : {C : Type 0} → (C → Link Port) → (C → Call Port → C → Type 0) → Type 0 → Type 0
OneAnswer link steps N = OneStep steps → (tables : Tables N) → OneStep (NetStep link steps tables)

-- one network is made of a carrier and of systems
abbrev pub OneBeginning : {C : Type 0} → (C → Link Port) → (C → Call Port → C → Type 0) → Type 0 → Type 0
OneBeginning {C} link steps N = OneStep steps → (tables : Tables N) (first : C) (nodes : List (Node N)) (life : ℕ) (new next : Network C N)
    → Begins link steps tables first nodes life new → Begins link steps tables first nodes life next → new ≡ next

-- ---- over LANs

-- what is asked of the LANs, or of a network over them, has one answer, and the network begins as one
abbrev pub OneLanAnswer : Type 0
OneLanAnswer = OneStep BagStep

abbrev pub OneNetAnswer : Type 0
OneNetAnswer = OneStep (NetStep link_of BagStep rows_tables)

abbrev pub OneNetBeginning : Type 0
OneNetBeginning = (first : Bag) (nodes : List (Node Rows)) (life : ℕ) (new next : Network Bag Rows)
    → Begins link_of BagStep rows_tables first nodes life new → Begins link_of BagStep rows_tables first nodes life next → new ≡ next

-- a network begins, and stands
pub record BeginsStanding : Type 0 where
  pub begins : (lans : List Lan) (rows : List PortRow) (settings : List Setting) (life : ℕ) → MayBegin lans rows settings life
      → (new : Network Bag Rows) × BeginsAs lans rows settings life new
  pub stands : (lans : List Lan) (rows : List PortRow) (settings : List Setting) (life : ℕ) (new : Network Bag Rows) → MayBegin lans rows settings life
      → BeginsAs lans rows settings life new → Stands new

-- in octets and between addresses of 1 to 20 octets all that may be asked is answered, as long as the network stands, and then it still does
abbrev pub AlwaysAnswered : Type 0
AlwaysAnswered = AlwaysAnswers is_nsap (net_link link_of) (NetStep link_of BagStep rows_tables) Stands

-- so is all that may be asked of the LANs, between SNPAs of six octets
abbrev pub LansAlwaysAnswered : Type 0
LansAlwaysAnswered = AlwaysAnswers is_port link_of BagStep FitsBag

-- what waits in the network can be taken up
abbrev pub AlwaysGathered : Type 0
AlwaysGathered = SomeGathering (net_link link_of) (NetStep link_of BagStep rows_tables) Stands

-- while the network stands, and what waits in it is in octets, it serves: then both are still so, and there is a least fresh pair, or none
abbrev pub NetServes : Type 0
NetServes = Serves is_nsap (net_link link_of) (NetStep link_of BagStep rows_tables) StandsInOctets

-- both are so of a network that begins
abbrev pub BeginsServing : Type 0
BeginsServing = (lans : List Lan) (rows : List PortRow) (settings : List Setting) (life : ℕ) (new : Network Bag Rows) → MayBegin lans rows settings life
    → BeginsAs lans rows settings life new → StandsInOctets new

-- ---- by hellos

-- the router that the hellos make known is the known intermediate system of least title, or none
abbrev pub RouterIsTold : Type 0
RouterIsTold = (hellos : List Told) (now : ℕ) → IsRouter hellos now (known_router hellos now)

-- each step of a network over rows is a step over the hellos heard, with the same calls below and the same units, frames and notes
abbrev pub StepsByHellos : {C : Type 0} → (C → Link Port) → (C → Call Port → C → Type 0) → Type 0
StepsByHellos {C} link steps = (old new : Network C Rows) (call : Call (List ℕ)) (nodes : List (Node (List Told)))
    → AreByHellos (link old.link).clock old.nodes nodes → NetStep link steps rows_tables old call new
    → (after : List (Node (List Told))) × NetStep link steps hello_tables (with_nodes old nodes) call (with_nodes new after)
    × AreByHellos (link new.link).clock new.nodes after

-- so it begins, with systems that heard nothing
abbrev pub BeginsByHellos : {C : Type 0} → (C → Link Port) → (C → Call Port → C → Type 0) → Type 0
BeginsByHellos {C} link steps = (first : C) (settings : List Setting) (life : ℕ) (new : Network C Rows) → (link first).clock ≡ 0
    → Begins link steps rows_tables first (map (λ setting. fresh_node setting no_rows) settings) life new
    → (after : List (Node (List Told))) × Begins link steps hello_tables first (map (λ setting. fresh_node setting []) settings) life (with_nodes new after)
    × AreByHellos (link new.link).clock new.nodes after
