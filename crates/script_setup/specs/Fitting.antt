-- What the lines so far make of a set-up, and what a line that was read brings: the LANs, ports, titles, routes and times fit each other.
use Rattle.std.specs.Prelude.{◌≡◌, ℕ, ◌<◌, ◌≤◌, true, false, if◌then◌else◌, List, [], ◌∷◌, ◌++◌, length, IsSome}
use Rattle.std.specs.List.{AllByRecursion}
use Rattle.nsap.specs.Address.{selector_of, is_same_system}
use Rattle.lan_step.specs.declared.row.Lan.{Lan}
use Rattle.lan_step.specs.Rows.{IsLan, AreAllApart, same_snpa}
use Rattle.clnp_route.specs.Routes.{has_prefix}
use Rattle.clnp_system.specs.Setting.{IsPath, is_group}
use Rattle.script_lines.specs.declared.line.Line.{Line}
use Rattle.script_lines.specs.declared.line.Line.TheVariants as lines
use Rattle.script_lines.specs.Settings.{least_of, most_of}
use Rattle.tp4_entity.specs.Association.{is_registered}
use Rattle.script_setup.specs.declared.relay.RelayLine.{RelayLine}
use Rattle.script_setup.specs.declared.transport.Limits.{Limits}
use Rattle.script_setup.specs.SetUp.{System, SetUp, end_at, rows_at, ports_at, port_on, selectors_at, titles_of}

-- a title ends in the selector 0
pub record IsTitle (title : List ℕ) : Type 0 where
  pub some : 1 < length title
  pub entity : selector_of title ≡ 0

-- no two titles are of one system
abbrev pub AreTitlesApart : List (List ℕ) → Type 0
AreTitlesApart [] = Unit {0}
AreTitlesApart (title ∷ titles) = AllByRecursion (λ other. is_same_system title other ≡ false) titles × AreTitlesApart titles

-- the most ports of an end system, and of an intermediate one
abbrev pub most_ports : List System → ℕ → ℕ
most_ports systems number = if end_at systems number then 1 else 8

pub record AreTimes (life hello hold : ℕ) : Type 0 where
  pub least_life : 1 ≤ life
  pub most_life : life ≤ 255
  pub most_hello : hello ≤ 255
  pub least_hold : 1 ≤ hold
  pub most_hold : hold ≤ 255

-- the limits of transport are in their ranges
pub record AreLimits (limits : Limits) : Type 0 where
  pub least_t1 : 1 ≤ limits.t1
  pub most_t1 : limits.t1 ≤ 255
  pub least_sendings : 2 ≤ limits.sendings
  pub most_sendings : limits.sendings ≤ 16
  pub least_window : 1 ≤ limits.window
  pub most_window : limits.window ≤ 255
  pub least_inactive : 1 ≤ limits.inactive
  pub most_inactive : limits.inactive ≤ 255
  pub most_credit : limits.credit ≤ 15
  pub least_references : 1 ≤ limits.references
  pub most_references : limits.references ≤ 64

-- each of these selectors is none of those before it
abbrev pub AreSelectorsApart : List (List ℕ) → List (List ℕ) → Type 0
AreSelectorsApart before [] = Unit {0}
AreSelectorsApart before (selector ∷ selectors) = (is_registered before selector ≡ false) × AreSelectorsApart (before ++ selector ∷ []) selectors

-- a selector has 1 to 32 octets
pub record IsSelector (selector : List ℕ) : Type 0 where
  pub least : 1 ≤ length selector
  pub most : length selector ≤ 32

-- a relay is at an end system and joins connections with another one
pub record IsRelay (systems : List System) (relay : RelayLine) : Type 0 where
  pub own : end_at systems relay.system ≡ true
  pub other : end_at systems relay.to ≡ true
  pub apart : relay.to ≡ relay.system → ⊥
  pub selector : IsSelector relay.selector
  pub called : IsSelector relay.called

-- the system of a relay takes connections at its selector
abbrev pub IsTaken : List System → RelayLine → Type 0
IsTaken systems relay = is_registered (selectors_at systems relay.system) relay.selector ≡ true

-- no two relays are at one selector of a system
abbrev pub AreRelaysApart : List RelayLine → Type 0
AreRelaysApart [] = Unit {0}
AreRelaysApart (relay ∷ relays) = AllByRecursion (λ other. relay.system ≡ other.system → relay.selector ≡ other.selector → ⊥) relays × AreRelaysApart relays

-- what holds of a set-up after any lines
pub record IsWell (setup : SetUp) : Type 0 where
  pub lans : AllByRecursion IsLan setup.lans
  pub listed : AllByRecursion (λ row. row.port.lan < length setup.lans) setup.ports
  pub apart : AreAllApart setup.ports
  pub single : AllByRecursion (λ row. is_group row.port.snpa ≡ false) setup.ports
  pub kinds : AllByRecursion (λ row. (row.system < length setup.systems) × (row.end ≡ end_at setup.systems row.system)) setup.ports
  pub few_ports : (number : ℕ) → length (ports_at setup.ports number) ≤ most_ports setup.systems number
  pub few : length setup.systems ≤ 16
  pub titles : AllByRecursion IsTitle (titles_of setup)
  pub distinct : AreTitlesApart (titles_of setup)
  pub hops : (number : ℕ) → AllByRecursion (λ row. IsSome (port_on setup.ports number row.hop.port.lan)) (rows_at setup.systems number)
  pub times : AreTimes setup.life setup.hello setup.hold
  pub paths : AllByRecursion IsPath setup.paths
  pub limits : AreLimits setup.limits
  pub selectors : AllByRecursion (λ system. AreSelectorsApart [] system.selectors) setup.systems
  pub relays : AllByRecursion (IsRelay setup.systems) setup.relays
  pub taken : AllByRecursion (IsTaken setup.systems) setup.relays
  pub relays_apart : AreRelaysApart setup.relays

-- ---- what a line brings

pub record IsNewTitle (setup : SetUp) (title : List ℕ) : Type 0 where
  pub fits : IsTitle title
  pub apart : AllByRecursion (λ other. is_same_system other title ≡ false) (titles_of setup)
  pub room : length setup.systems < 16

pub record IsNewPort (setup : SetUp) (system lan : ℕ) (snpa : List ℕ) : Type 0 where
  pub known : system < length setup.systems
  pub listed : lan < length setup.lans
  pub single : is_group snpa ≡ false
  pub apart : AllByRecursion (λ row. same_snpa row.port.snpa snpa ≡ false) setup.ports
  pub fresh : AllByRecursion (λ port. port.lan ≡ lan → ⊥) (ports_at setup.ports system)
  pub room : length (ports_at setup.ports system) < most_ports setup.systems system

pub record IsNewRoute (setup : SetUp) (system : ℕ) (prefix : List ℕ) (next lan : ℕ) : Type 0 where
  pub known : system < length setup.systems
  pub next_known : next < length setup.systems
  pub fresh : has_prefix (rows_at setup.systems system) prefix ≡ false
  pub room : length (rows_at setup.systems system) < 256
  pub here : IsSome (port_on setup.ports system lan)
  pub there : IsSome (port_on setup.ports next lan)

pub record IsNewPath (setup : SetUp) (systems : List ℕ) : Type 0 where
  pub some : 1 ≤ length systems
  pub few : length systems ≤ 4
  pub known : AllByRecursion (λ system. system < length setup.systems) systems

pub record IsNewSelector (setup : SetUp) (system : ℕ) (selector : List ℕ) : Type 0 where
  pub known : system < length setup.systems
  pub fresh : is_registered (selectors_at setup.systems system) selector ≡ false

pub record IsNewRelay (setup : SetUp) (relay : RelayLine) : Type 0 where
  pub fits : IsRelay setup.systems relay
  pub fresh : IsNewSelector setup relay.system relay.selector

-- the line is one of a set-up, and what it says fits what was said before; at the start no bound of a LAN is above the lifetime
abbrev pub Fits : SetUp → Line → Type 0
Fits setup lines.Nothing = Unit {0}
Fits setup (lines.Version version) = Unit {0}
Fits setup (lines.Set key value) = (least_of key ≤ value) × (value ≤ most_of key)
Fits setup (lines.Lan name bound room) = IsLan (record { bound = bound; room = room })
Fits setup (lines.Es name title) = IsNewTitle setup title
Fits setup (lines.Is name title) = IsNewTitle setup title
Fits setup (lines.Port system lan snpa) = IsNewPort setup system lan snpa
Fits setup (lines.Route system prefix next lan) = IsNewRoute setup system prefix next lan
Fits setup (lines.Path name kind systems) = IsNewPath setup systems
Fits setup (lines.Tsap system selector) = IsNewSelector setup system selector
Fits setup (lines.Relay system selector to called) = IsNewRelay setup (record { system = system; selector = selector; to = to; called = called })
Fits setup lines.Start = AllByRecursion (λ (lan : Lan). lan.bound ≤ setup.life) setup.lans
Fits setup line = ⊥
