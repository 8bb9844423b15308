-- The network by the hellos that its systems heard, in place of rows (ISO 9542, record configuration function, record redirect function).
use Rattle.std.specs.Prelude.{◌≡◌, ℕ, Bool, false, nat_lt, if◌then◌else◌, List, [], ◌∷◌, ◌++◌, Option, Some, None}
use Rattle.nsap.specs.declared.port.Hop.{Hop}
use Rattle.esis_tables.specs.Told.{Told, is_upto, known_hop}
use Rattle.esis_tables.specs.Rows.{IsTable, Rows}
use Rattle.esis_tables.specs.Swept.{IsSwept, count_told, names_in}
use Rattle.clnp_system.specs.Node.{Node}
use Rattle.clnp_system.specs.Tables.{Tables}
use Rattle.clnp_system.specs.Verdicts.{is_titled}
use Rattle.law_clnp_step.specs.Network.{Network}

-- ---- what hellos make known

-- the name is the title of a known intermediate system
abbrev pub tells_title : Option Hop → List ℕ → Bool
tells_title None name = false
tells_title (Some hop) name = is_titled hop.title name

abbrev pub is_router_title : List Told → ℕ → List ℕ → Bool
is_router_title hellos now name = tells_title (known_hop hellos now name) name

-- the lesser title
abbrev pub lesser : List ℕ → Option (List ℕ) → List ℕ
lesser title None = title
lesser title (Some other) = if is_upto title other then title else other

-- the least of the names that are titles of known intermediate systems
abbrev pub least_title : List Told → ℕ → List (List ℕ) → Option (List ℕ)
least_title hellos now [] = None
least_title hellos now (name ∷ names) =
    if is_router_title hellos now name then Some (lesser name (least_title hellos now names)) else least_title hellos now names

abbrev pub hop_by_title : List Told → ℕ → Option (List ℕ) → Option Hop
hop_by_title hellos now None = None
hop_by_title hellos now (Some title) = known_hop hellos now title

-- the hop to the known intermediate system of least title
abbrev pub known_router : List Told → ℕ → Option Hop
known_router hellos now = hop_by_title hellos now (least_title hellos now (names_in hellos))

-- one hello more, none where more than 256 addresses would then be known or named at this tick
abbrev pub heard_hellos : List Told → Told → Option (List Told)
heard_hellos hellos told = if nat_lt 256 (count_told hellos told.tick told) then None else Some (hellos ++ told ∷ [])

-- what is known as the hellos heard, in order
abbrev pub hello_tables : Tables (List Told)
hello_tables = record {
  find = λ hellos now address. known_hop hellos now address;
  router = λ hellos now. known_router hellos now;
  hear = heard_hellos;
  sweep = λ hellos now. hellos;
}

-- ---- the same network

-- rows that stand for the hellos, swept at that tick
pub record StandFor (now : ℕ) (rows : Rows) (hellos : List Told) : Type 0 where
  pub is_table : IsTable rows.rows
  pub swept : IsSwept rows hellos now

-- the same system, with these hellos in place of its rows
abbrev pub by_hellos : Node Rows → List Told → List Told → Node (List Told)
by_hellos node neighbours redirects = record {
  setup = node.setup;
  clock = node.clock;
  next_id = node.next_id;
  low = node.low;
  high = node.high;
  store = node.store;
  neighbours = neighbours;
  redirects = redirects;
}

-- the other is the same system, by the hellos that its rows stand for
pub record IsByHellos (now : ℕ) (node : Node Rows) (other : Node (List Told)) : Type 0 where
  pub neighbours : List Told
  pub redirects : List Told
  pub same : other ≡ by_hellos node neighbours redirects
  pub by_neighbours : StandFor now node.neighbours neighbours
  pub by_redirects : StandFor now node.redirects redirects

abbrev pub AreByHellos : ℕ → List (Node Rows) → List (Node (List Told)) → Type 0
AreByHellos now [] [] = Unit {0}
AreByHellos now [] (other ∷ others) = ⊥
AreByHellos now (node ∷ nodes) [] = ⊥
AreByHellos now (node ∷ nodes) (other ∷ others) = IsByHellos now node other × AreByHellos now nodes others

-- the same network with these systems
abbrev pub with_nodes : {C : Type 0} → Network C Rows → List (Node (List Told)) → Network C (List Told)
with_nodes net nodes =
    record { link = net.link; nodes = nodes; floating = net.floating; waiting = net.waiting; strays = net.strays; life = net.life }
