-- Finding a hop for an address (X.233, route PDU; ISO 9542, route by what is known).
use Rattle.std.specs.Prelude.{ℕ, ◌==◌, Bool, ◌||◌, if◌then◌else◌, List, [], ◌∷◌, length, Option, Some, None}
use Rattle.nsap.specs.declared.port.Port.{Port}
use Rattle.nsap.specs.declared.port.Hop.{Hop}
use Rattle.pdu_parts.specs.FirstFault.{or_else}
use Rattle.clnp_route.specs.Routes.{next_hop}
use Rattle.clnp_system.specs.Setting.{Setting, is_own_system, all_ends}
use Rattle.clnp_system.specs.Tables.{Tables}
use Rattle.clnp_system.specs.Node.{Node}

-- all end systems of a port, where there is one
abbrev pub group_hop : List Port → Option Hop
group_hop [] = None
group_hop (port ∷ ports) = Some (record { port = record { lan = port.lan; snpa = all_ends }; title = None })

-- no port
abbrev pub is_alone : Setting → Bool
is_alone setting = length setting.ports == 0

-- of an end system: redirect, neighbour, row, router of least title; of an intermediate system: neighbour, row
abbrev pub found_hop : {N : Type 0} → Tables N → Node N → ℕ → List ℕ → Option Hop
found_hop tables node now address =
    if node.setup.end
    then or_else (tables.find node.redirects now address) (or_else (tables.find node.neighbours now address)
    (or_else (next_hop node.setup.rows address) (tables.router node.neighbours now)))
    else or_else (tables.find node.neighbours now address) (next_hop node.setup.rows address)

-- the hop to an entry of a source route: none without a port, and none for the own system
abbrev pub hop_to : {N : Type 0} → Tables N → Node N → ℕ → List ℕ → Option Hop
hop_to tables node now address =
    if is_alone node.setup || is_own_system node.setup address then None else found_hop tables node now address

-- the hop to an address: an end system that finds none sends to all end systems of its port
abbrev pub hop_of : {N : Type 0} → Tables N → Node N → ℕ → List ℕ → Option Hop
hop_of tables node now address =
    if is_alone node.setup || is_own_system node.setup address then None
    else or_else (found_hop tables node now address) (if node.setup.end then group_hop node.setup.ports else None)
