-- What was set up makes LANs, systems and a network: each is as those below ask for.
use Rattle.std.proofs.Common.{◌≡◌, ◌==◌, ℕ, zero, suc, ◌+◌, ◌<◌, ◌≤◌, false, List, [], ◌∷◌, ◌++◌, length, map, Option, Some, Result, Ok, Err, refl, sym, ◌∙◌, ap, subst, arith, append_assoc, length-append}
use Rattle.std.specs.Prelude.{slice_get, if◌then◌else◌, IfOk, IsSome, unwrap_or}
use Rattle.std.specs.List.{AllByRecursion}
use Rattle.std.proofs.lemmas.List.Elements.{All-from_recursion}
use Rattle.nsap.specs.Address.{is_same_system}
use Rattle.nsap.specs.declared.port.Port.{Port}
use Rattle.esis_tables.specs.Rows.{Rows, no_rows}
use Rattle.lan_step.specs.declared.row.Lan.{Lan}
use Rattle.lan_step.specs.declared.row.PortRow.{PortRow}
use Rattle.lan_step.specs.Bag.{Bag, BagStep, link_of, new_bag}
use Rattle.lan_step.specs.Rows.{IsLan, IsSetUp, bound_on}
use Rattle.clnp_route.specs.declared.table.RouteRow.{RouteRow}
use Rattle.clnp_system.specs.Node.{Node, fresh_node}
use Rattle.clnp_system.specs.Tables.{rows_tables}
use Rattle.clnp_system.specs.Setting.{HasLan, IsSetting, Setting}
use Rattle.law_clnp_step.specs.Sound.{AreApart, AreDistinct, IsBounded, IsNew, IsPeopled, settings_of}
use Rattle.law_clnp_step.specs.Network.{Network}
use Rattle.law_clnp_step.specs.Step.{Begins}
use Rattle.script_setup.specs.SetUp.{System, SetUp, end_of, rows_of, ports_at, port_on, setting_of, nodes_from, nodes_of}
use Rattle.script_setup.specs.Fitting.{IsWell, AreTitlesApart}
use Rattle.script_setup.proofs.Elements.{each, at, find_all, find_passes, get_end}
use Rattle.script_setup.proofs.Ports.{at_one, lans_differ, number_is}

-- ---- the LANs

pub lans_set_up : (setup : SetUp) → IsWell setup → IsSetUp setup.lans setup.ports
lans_set_up setup w = record {
  lans_fit = All-from_recursion IsLan setup.lans w.lans;
  listed = All-from_recursion (λ (row : PortRow). row.port.lan < length setup.lans) setup.ports w.listed;
  apart = w.apart;
}

-- ---- one system

record Numbers (bound room : ℕ) : Type 0 where
  least_bound : 1 ≤ bound
  most_bound : bound ≤ 16
  least_room : 264 ≤ room
  most_room : room ≤ 1497

numbers : (lans : List Lan) (i : ℕ) → AllByRecursion IsLan lans → i < length lans → Numbers (unwrap_or (slice_get (map (λ lan. lan.bound) lans) i) 0) (unwrap_or (slice_get (map (λ lan. lan.room) lans) i) 0)
numbers [] i all lt = absurd (omega arith)
numbers (lan ∷ lans) zero all lt = record { least_bound = all.0.0; most_bound = all.0.1; least_room = all.0.2; most_room = all.0.3 }
numbers (lan ∷ lans) (suc i) all lt = numbers lans i all.1 (omega arith)

-- the ports of one system are on LANs
pub ports_listed : (setup : SetUp) (n : ℕ) → IsWell setup → AllByRecursion (λ port. port.lan < length setup.lans) (ports_at setup.ports n)
ports_listed setup n w =
    at_one (λ port. port.lan < length setup.lans) setup.ports n
    (each (λ (row : PortRow). row.port.lan < length setup.lans) (λ (row : PortRow). row.system ≡ n → row.port.lan < length setup.lans) setup.ports (λ row lt. λ same. lt) w.listed)

has_lan : (setup : SetUp) (n : ℕ) (system : System) (lan : ℕ) → IsWell setup → lan < length setup.lans → HasLan (setting_of setup n system) lan
has_lan setup n system lan w lt =
    let at = numbers setup.lans lan w.lans lt in
    record { least_bound = at.least_bound; most_bound = at.most_bound; least_room = at.least_room; most_room = at.most_room }

pub is_setting : (setup : SetUp) (n : ℕ) (system : System) → IsWell setup → slice_get setup.systems n ≡ Some system → IsSetting (setting_of setup n system)
is_setting setup n system w is = record {
  few_ports = subst (λ (found : Option System). length (ports_at setup.ports n) ≤ (if end_of found then 1 else 8)) is (w.few_ports n);
  lans = each (λ (port : Port). port.lan < length setup.lans) (λ (port : Port). HasLan (setting_of setup n system) port.lan) (ports_at setup.ports n)
      (λ port lt. has_lan setup n system port.lan w lt) (ports_listed setup n w);
  apart = lans_differ setup.ports n w.apart;
  hops = subst (λ (found : Option System). AllByRecursion (λ (row : RouteRow). IsSome (port_on setup.ports n row.hop.port.lan)) (rows_of found)) is (w.hops n);
  least_life = w.times.least_life;
  most_life = w.times.most_life;
  most_hello = w.times.most_hello;
  least_hold = w.times.least_hold;
  most_hold = w.times.most_hold;
  paths = w.paths;
}

-- ---- all systems

-- a system of an earlier number, and of another title than those that follow
earlier : (setup : SetUp) (one : Setting) (k : ℕ) (rest : List System) → one.system < k
    → AllByRecursion (λ other. is_same_system one.title other ≡ false) (map (λ (s : System). s.title) rest) → AllByRecursion (AreApart one) (settings_of (nodes_from setup k rest))
earlier setup one k [] lt titles = tt
earlier setup one k (system ∷ rest) lt titles =
    ((λ same. absurd (omega arith), titles.0), earlier setup one (k + 1) rest (omega arith) titles.1)

distinct : (setup : SetUp) (k : ℕ) (rest : List System) → AreTitlesApart (map (λ (s : System). s.title) rest) → AreDistinct (settings_of (nodes_from setup k rest))
distinct setup k [] apart = tt
distinct setup k (system ∷ rest) apart = (earlier setup (setting_of setup k system) (k + 1) rest (omega arith) apart.0, distinct setup (k + 1) rest apart.1)

lives : (setup : SetUp) (k : ℕ) (rest : List System) → AllByRecursion (λ (setting : Setting). setting.life ≡ setup.life) (settings_of (nodes_from setup k rest))
lives setup k [] = tt
lives setup k (system ∷ rest) = (refl, lives setup (k + 1) rest)

same_bound : (lans : List Lan) (i : ℕ) → i < length lans → bound_on lans i ≤ unwrap_or (slice_get (map (λ lan. lan.bound) lans) i) 0
same_bound [] i lt = absurd (omega arith)
same_bound (lan ∷ lans) zero lt = omega arith
same_bound (lan ∷ lans) (suc i) lt = same_bound lans i (omega arith)

bounded : (setup : SetUp) (n : ℕ) (system : System) → IsWell setup → IsBounded (λ to. bound_on setup.lans to.lan) (setting_of setup n system)
bounded setup n system w own to is =
    let same : own.lan ≡ to.lan = number_is own.lan to.lan (find_passes (λ port. port.lan == to.lan) (ports_at setup.ports n) own is) in
    let lt = find_all (λ (port : Port). port.lan < length setup.lans) (λ port. port.lan == to.lan) (ports_at setup.ports n) own (ports_listed setup n w) is in
    same_bound setup.lans to.lan (omega arith)

bounds : (setup : SetUp) (k : ℕ) (rest : List System) → IsWell setup → AllByRecursion (IsBounded (λ to. bound_on setup.lans to.lan)) (settings_of (nodes_from setup k rest))
bounds setup k [] w = tt
bounds setup k (system ∷ rest) w = (bounded setup k system w, bounds setup (k + 1) rest w)

pub are_new : (setup : SetUp) (k : ℕ) (rest : List System) → AllByRecursion IsNew (nodes_from setup k rest)
are_new setup k [] = tt
are_new setup k (system ∷ rest) = (record { clock = refl; next_id = refl; held = refl }, are_new setup (k + 1) rest)

pub is_peopled : (setup : SetUp) → IsWell setup → IsPeopled (λ to. bound_on setup.lans to.lan) setup.life (settings_of (nodes_from setup 0 setup.systems))
is_peopled setup w = record { distinct = distinct setup 0 setup.systems w.distinct; lives = lives setup 0 setup.systems; bounds = bounds setup 0 setup.systems w }

-- ---- the systems one after another

module _ (shared : SetUp) (systems front rest : List System) (system : System) (all : systems ≡ front ++ system ∷ rest) where
  pub next_setting : (number : ℕ) (setting : Setting) → IsWell (record shared { systems = systems }) → length front ≡ number → setting ≡ setting_of shared number system → IsSetting setting
  next_setting number setting w count is =
      let at : slice_get systems number ≡ Some system =
      ap (λ (s : List System). slice_get s number) all ∙ ap (λ (n : ℕ). slice_get (front ++ system ∷ rest) n) (sym count) ∙ get_end front system rest in
      subst IsSetting (sym is) (is_setting (record shared { systems = systems }) number system w at)

  pub more_front : systems ≡ (front ++ system ∷ []) ++ rest
  more_front = all ∙ sym (append_assoc front (system ∷ []) rest)

module _ (shared : SetUp) (systems rest : List System) (system : System) (nodes new : List (Node Rows)) (node : Node Rows) (setting : Setting) (number : ℕ) where
  pub next_node : number ≡ length nodes → setting ≡ setting_of shared number system → node ≡ fresh_node setting no_rows → new ≡ nodes ++ node ∷ []
      → nodes ++ nodes_from shared (length nodes) (system ∷ rest) ≡ nodes_from shared 0 systems → new ++ nodes_from shared (length new) rest ≡ nodes_from shared 0 systems
  next_node count is made pushed so_far =
      let here : node ≡ fresh_node (setting_of shared (length nodes) system) no_rows =
      made ∙ ap (λ (s : Setting). fresh_node s no_rows) (is ∙ ap (λ (n : ℕ). setting_of shared n system) count) in
      let more : length new ≡ length nodes + 1 = ap (λ (n : List (Node Rows)). length n) pushed ∙ length-append nodes (node ∷ []) in
      ap (λ (n : ℕ). new ++ nodes_from shared n rest) more
      ∙ ap (λ (n : List (Node Rows)). n ++ nodes_from shared (length nodes + 1) rest) pushed
      ∙ append_assoc nodes (node ∷ []) (nodes_from shared (length nodes + 1) rest)
      ∙ ap (λ (n : Node Rows). nodes ++ (n ∷ nodes_from shared (length nodes + 1) rest)) here
      ∙ so_far

-- ---- the whole

pub are_peopled : (setup : SetUp) (bag : Bag) (nodes : List (Node Rows)) (life : ℕ) → IsWell setup → bag ≡ new_bag setup.lans setup.ports → nodes ≡ nodes_of setup → life ≡ setup.life
    → IsPeopled (link_of bag).bound life (settings_of nodes)
are_peopled setup bag nodes life w bag_is nodes_are life_is =
    subst (λ (b : Bag). IsPeopled (link_of b).bound life (settings_of nodes)) (sym bag_is)
    (subst (λ (n : List (Node Rows)). IsPeopled (link_of (new_bag setup.lans setup.ports)).bound life (settings_of n)) (sym nodes_are)
    (subst (λ (l : ℕ). IsPeopled (link_of (new_bag setup.lans setup.ports)).bound l (settings_of (nodes_of setup))) (sym life_is) (is_peopled setup w)))

pub made_new : (setup : SetUp) (nodes : List (Node Rows)) → nodes ≡ nodes_of setup → AllByRecursion IsNew nodes
made_new setup nodes are = subst (AllByRecursion IsNew) (sym are) (are_new setup 0 setup.systems)

abbrev pub Net : Type 0
Net = Network Bag Rows

abbrev pub BeginsOf : SetUp → Net → Type 0
BeginsOf setup net = Begins link_of BagStep rows_tables (new_bag setup.lans setup.ports) (nodes_of setup) setup.life net

pub begun : {E : Type 0} (result : Result Net E) (setup made : SetUp) (bag : Bag) (nodes : List (Node Rows)) (life : ℕ) → bag ≡ new_bag setup.lans setup.ports → nodes ≡ nodes_of setup → life ≡ setup.life → setup ≡ made
    → IfOk result (λ net. Begins link_of BagStep rows_tables bag nodes life net) → IfOk result (λ net. BeginsOf made net)
begun (Err error) setup made bag nodes life bag_is nodes_are life_is same h = tt
begun (Ok net) setup made bag nodes life bag_is nodes_are life_is same h =
    subst (λ (s : SetUp). BeginsOf s net) same
    (subst (λ (l : ℕ). Begins link_of BagStep rows_tables (new_bag setup.lans setup.ports) (nodes_of setup) l net) life_is
    (subst (λ (n : List (Node Rows)). Begins link_of BagStep rows_tables (new_bag setup.lans setup.ports) n life net) nodes_are
    (subst (λ (b : Bag). Begins link_of BagStep rows_tables b nodes life net) bag_is h)))
