-- What the set-up lines of a script say: the LANs, the systems with their ports, routes and transport selectors, the source routes,
-- the relays, the times and the limits; and what is made of it (X.233, network entity title, route PDU; ISO 9542, configuration information;
-- X.224, class 4: timers, frozen references).
use Rattle.std.specs.Prelude.{ℕ, ◌+◌, ◌==◌, Bool, true, false, if◌then◌else◌, List, [], ◌∷◌, ◌++◌, find, map, slice_get, slice_set, Option, Some, None, option_map}
use Rattle.nsap.specs.Address.{system_part}
use Rattle.nsap.specs.declared.port.Hop.{Hop}
use Rattle.nsap.specs.declared.port.Port.{Port}
use Rattle.esis_tables.specs.Rows.{Rows, no_rows}
use Rattle.lan_step.specs.declared.row.Lan.{Lan}
use Rattle.lan_step.specs.declared.row.PortRow.{PortRow}
use Rattle.clnp_route.specs.declared.table.RouteRow.{RouteRow}
use Rattle.clnp_system.specs.declared.setup.Path.{Path}
use Rattle.clnp_system.specs.Node.{Node, fresh_node}
use Rattle.clnp_system.specs.Setting.{Setting}
use Rattle.script_lines.specs.declared.line.Line.{Line}
use Rattle.script_lines.specs.declared.line.Line.TheVariants as lines
use Rattle.script_lines.specs.declared.line.PathKind.{PathKind}
use Rattle.script_lines.specs.declared.line.PathKind.TheVariants as kinds
use Rattle.script_lines.specs.declared.settings.Key.{Key}
use Rattle.script_lines.specs.declared.settings.Key.TheVariants as keys
use Rattle.script_lines.specs.Settings.{default_of}
use Rattle.tp4_conn.specs.declared.timers.Timers.{Timers}
use Rattle.tp4_entity.specs.Entity.{Entity}
use Rattle.tp4_entity.specs.Step.{new_entity}
use Rattle.script_setup.specs.declared.relay.RelayLine.{RelayLine}
use Rattle.script_setup.specs.declared.transport.Limits.{Limits}

-- a system: whether it is an end system, its title, its routes, and the transport selectors at which it takes connections, in the order
-- of their lines
pub record System : Type 0 where
  pub end : Bool
  pub title : List ℕ
  pub rows : List RouteRow
  pub selectors : List (List ℕ)

-- LANs and systems are numbered from 0, and source routes from 1; the ports and the relays stand in the order of their lines. The lifetime and the
-- time from one hello to the next are in ticks, and the holding time is in seconds.
pub record SetUp : Type 0 where
  pub lans : List Lan
  pub systems : List System
  pub ports : List PortRow
  pub paths : List Path
  pub relays : List RelayLine
  pub life : ℕ
  pub hello : ℕ
  pub hold : ℕ
  pub limits : Limits

-- the limits of transport where a script sets none
abbrev pub usual_limits : Limits
usual_limits = record {
  t1 = default_of keys.T1;
  sendings = default_of keys.N;
  window = default_of keys.W;
  inactive = default_of keys.I;
  credit = default_of keys.Credit;
  references = default_of keys.Refs;
}

-- nothing is said yet
abbrev pub nothing_said : SetUp
nothing_said = record {
  lans = [];
  systems = [];
  ports = [];
  paths = [];
  relays = [];
  life = default_of keys.Life;
  hello = default_of keys.Ct;
  hold = default_of keys.Hold;
  limits = usual_limits;
}

-- ---- the systems

abbrev pub end_of : Option System → Bool
end_of None = false
end_of (Some system) = system.end

abbrev pub title_of : Option System → List ℕ
title_of None = []
title_of (Some system) = system.title

abbrev pub rows_of : Option System → List RouteRow
rows_of None = []
rows_of (Some system) = system.rows

abbrev pub selectors_of : Option System → List (List ℕ)
selectors_of None = []
selectors_of (Some system) = system.selectors

-- of the system of a number: whether it is an end system, its title, its routes, its selectors, and its ports in order
abbrev pub end_at : List System → ℕ → Bool
end_at systems number = end_of (slice_get systems number)

abbrev pub title_at : List System → ℕ → List ℕ
title_at systems number = title_of (slice_get systems number)

abbrev pub rows_at : List System → ℕ → List RouteRow
rows_at systems number = rows_of (slice_get systems number)

abbrev pub selectors_at : List System → ℕ → List (List ℕ)
selectors_at systems number = selectors_of (slice_get systems number)

abbrev pub ports_at : List PortRow → ℕ → List Port
ports_at [] number = []
ports_at (row ∷ rows) number = if row.system == number then row.port ∷ ports_at rows number else ports_at rows number

-- the titles, by number
abbrev pub titles_of : SetUp → List (List ℕ)
titles_of setup = map (λ system. system.title) setup.systems

-- ---- the lines

-- the way to a system over a LAN is by its port there; the title of an intermediate system is known, and that of an end system
-- is not asked for
abbrev pub hop_title : Option System → Option (List ℕ)
hop_title None = None
hop_title (Some system) = if system.end then None else Some system.title

abbrev pub port_on : List PortRow → ℕ → ℕ → Option Port
port_on ports system lan = find (λ port. port.lan == lan) (ports_at ports system)

abbrev pub hop_to : SetUp → ℕ → ℕ → Option Hop
hop_to setup system lan = option_map (λ port. record { port = port; title = hop_title (slice_get setup.systems system) }) (port_on setup.ports system lan)

-- the system of that number has one route more
abbrev pub routed : List System → ℕ → List ℕ → Hop → Option System → List System
routed systems number prefix hop None = systems
routed systems number prefix hop (Some system) = slice_set systems number (record system { rows = system.rows ++ record { prefix = prefix; hop = hop } ∷ [] })

-- a route to a system that has no port there adds nothing
abbrev pub with_route : List System → ℕ → List ℕ → Option Hop → List System
with_route systems number prefix None = systems
with_route systems number prefix (Some hop) = routed systems number prefix hop (slice_get systems number)

abbrev pub is_complete : PathKind → Bool
is_complete kinds.Partial = false
is_complete kinds.Complete = true

-- the system of that number takes connections at one selector more
abbrev pub selected : List System → ℕ → List ℕ → Option System → List System
selected systems number selector None = systems
selected systems number selector (Some system) = slice_set systems number (record system { selectors = system.selectors ++ selector ∷ [] })

abbrev pub with_selector : List System → ℕ → List ℕ → List System
with_selector systems number selector = selected systems number selector (slice_get systems number)

-- what each key sets
abbrev pub with_time : SetUp → Key → ℕ → SetUp
with_time old keys.Life value = record old { life = value }
with_time old keys.T1 value = record old { limits = record old.limits { t1 = value } }
with_time old keys.W value = record old { limits = record old.limits { window = value } }
with_time old keys.I value = record old { limits = record old.limits { inactive = value } }
with_time old keys.N value = record old { limits = record old.limits { sendings = value } }
with_time old keys.Refs value = record old { limits = record old.limits { references = value } }
with_time old keys.Credit value = record old { limits = record old.limits { credit = value } }
with_time old keys.Ct value = record old { hello = value }
with_time old keys.Hold value = record old { hold = value }

-- what each line adds
abbrev pub set_up : SetUp → Line → SetUp
set_up old (lines.Set key value) = with_time old key value
set_up old (lines.Lan name bound room) = record old { lans = old.lans ++ record { bound = bound; room = room } ∷ [] }
set_up old (lines.Es name title) = record old { systems = old.systems ++ record { end = true; title = title; rows = []; selectors = [] } ∷ [] }
set_up old (lines.Is name title) = record old { systems = old.systems ++ record { end = false; title = title; rows = []; selectors = [] } ∷ [] }
set_up old (lines.Port system lan snpa) =
    record old { ports = old.ports ++ record { system = system; end = end_at old.systems system; port = record { lan = lan; snpa = snpa } } ∷ [] }
set_up old (lines.Route system prefix next lan) = record old { systems = with_route old.systems system prefix (hop_to old next lan) }
set_up old (lines.Path name kind systems) =
    record old { paths = old.paths ++ record { complete = is_complete kind; titles = map (title_at old.systems) systems } ∷ [] }
set_up old (lines.Tsap system selector) = record old { systems = with_selector old.systems system selector }
set_up old (lines.Relay system selector to called) = record old {
  systems = with_selector old.systems system selector;
  relays = old.relays ++ record { system = system; selector = selector; to = to; called = called } ∷ [];
}
set_up old line = old

-- ---- what the systems are made of

-- the system of that number, with all LANs, source routes and times
abbrev pub setting_of : SetUp → ℕ → System → Setting
setting_of setup number system = record {
  system = number;
  end = system.end;
  title = system.title;
  ports = ports_at setup.ports number;
  rows = system.rows;
  bounds = map (λ lan. lan.bound) setup.lans;
  rooms = map (λ lan. lan.room) setup.lans;
  life = setup.life;
  hello = setup.hello;
  hold = setup.hold;
  paths = setup.paths;
}

-- the systems from that number on, which did nothing yet
abbrev pub nodes_from : SetUp → ℕ → List System → List (Node Rows)
nodes_from setup number [] = []
nodes_from setup number (system ∷ systems) = fresh_node (setting_of setup number system) no_rows ∷ nodes_from setup (number + 1) systems

abbrev pub nodes_of : SetUp → List (Node Rows)
nodes_of setup = nodes_from setup 0 setup.systems

-- ---- the transport entities

-- the times and counts of an end, where a TPDU is under way for so many ticks at most
abbrev pub timers_of : ℕ → Limits → Timers
timers_of life limits = record {
  life = life;
  t1 = limits.t1;
  sendings = limits.sendings;
  window = limits.window;
  inactive = limits.inactive;
  credit = limits.credit;
}

-- the entity of a system, with so many references and these times, which did nothing yet: its users have the address of the system's
-- title with the selector of transport, and it takes connections at the system's selectors
abbrev pub entity_with : ℕ → Timers → System → Entity
entity_with references timers system = record (new_entity (system_part system.title ++ 1 ∷ []) references timers) { selectors = system.selectors }
