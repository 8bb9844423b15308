-- A set-up is in octets after each line that was read, and so a network begins of it that stands.
use Rattle.std.proofs.Common.{◌≡◌, ◌==◌, ℕ, zero, suc, ◌+◌, ◌<◌, Bool, true, false, List, [], ◌∷◌, ◌++◌, length, map, Option, Some, None, Ok, refl, sym, ◌∙◌, ap, subst, arith, append_assoc, length-append}
use Rattle.std.specs.Prelude.{if◌then◌else◌, option_map, slice_get, slice_set, IfSome, IsSome}
use Rattle.std.specs.List.{AllByRecursion}
use Rattle.std.proofs.lemmas.List.{map-append}
use Rattle.nsap.specs.declared.port.Hop.{Hop}
use Rattle.nsap.specs.declared.port.Port.{Port}
use Rattle.lan_step.specs.Bag.{link_of, new_bag}
use Rattle.lan_step.specs.declared.row.PortRow.{PortRow}
use Rattle.clnp_route.specs.declared.table.RouteRow.{RouteRow}
use Rattle.clnp_system.specs.declared.setup.Path.{Path}
use Rattle.clnp_system.specs.Node.{Node}
use Rattle.clnp_system.specs.Setting.{Setting}
use Rattle.esis_tables.specs.Rows.{Rows}
use Rattle.law_clnp_step.specs.Sound.{IsPeopled, settings_of}
use Rattle.law_clnp_net.specs.Beginning.{MayBegin, first_node}
use Rattle.law_clnp_net.specs.Standing.{IsHop, IsNsap, IsSetUp, IsSnpa}
use Rattle.script_lines.specs.declared.words.Word.{Word}
use Rattle.script_lines.specs.declared.words.Word.TheVariants as words
use Rattle.script_lines.specs.declared.line.Line.{Line}
use Rattle.script_lines.specs.declared.line.Line.TheVariants as lines
use Rattle.script_lines.specs.declared.field_values.FieldValues.{FieldValues}
use Rattle.script_lines.specs.declared.settings.Key.{Key}
use Rattle.script_lines.specs.declared.settings.Key.TheVariants as keys
use Rattle.script_lines.specs.Grammar.{Reading, count_fault, fields_read, next_number, line_for, line_read}
use Rattle.script_lines.specs.Known.{Declared, no_parts}
use Rattle.script_lines.specs.Table.{row_of}
use Rattle.script_setup.specs.SetUp.{System, SetUp, end_at, hop_title, hop_to, nodes_from, port_on, ports_at, routed, rows_at, rows_of, selected, set_up, setting_of, title_at, titles_of, with_route, with_selector, with_time}
use Rattle.script_bench.specs.steps.Came.{Came, Idle, Worded, came}
use Rattle.script_setup.specs.Fitting.{Fits, IsWell}
use Rattle.script_setup.proofs.Elements.{each, find_all, get_end, push, there}
use Rattle.script_setup.proofs.Ports.{at_one}
use Rattle.script_setup.proofs.Starting.{is_peopled, is_setting}
use Rattle.law_setup.specs.Lines.{HopInOctets, IsInOctets, LineInOctets, RelayInOctets}
use Rattle.law_setup.proofs.Fields.{all_fine}
use Rattle.law_setup.proofs.Values.{port_values, title_values}
use Rattle.script_setup.proofs.Wellness.{made_hop, rows_more, rows_there, set_rows, set_titles, with_one, with_row}

-- ---- lines

word_octets : (names : Declared) (past column number : ℕ) (fields : List (List ℕ)) (parts : FieldValues) (word : Word) → count_fault past column (row_of word).fields fields ≡ None
    → fields_read names no_parts column (row_of word).fields fields ≡ Ok parts → LineInOctets (line_for number word parts)
word_octets names past column number fields parts words.Es count filled = (title_values names past column fields parts count filled).octets
word_octets names past column number fields parts words.Is count filled = (title_values names past column fields parts count filled).octets
word_octets names past column number fields parts words.Port count filled = (port_values names past column fields parts count filled).octets
word_octets names past column number fields parts words.Tsap count filled = (all_fine names (row_of words.Tsap).fields fields column parts filled).selector.octets
word_octets names past column number fields parts words.Relay count filled =
    let fine = all_fine names (row_of words.Relay).fields fields column parts filled in
    (fine.selector, fine.called)
word_octets names past column number fields parts words.Connect count filled =
    let fine = all_fine names (row_of words.Connect).fields fields column parts filled in
    (fine.selector, fine.called, fine.octets)
word_octets names past column number fields parts words.Accept count filled = (all_fine names (row_of words.Accept).fields fields column parts filled).octets
word_octets names past column number fields parts words.Refuse count filled = (all_fine names (row_of words.Refuse).fields fields column parts filled).octets
word_octets names past column number fields parts words.Disconnect count filled = (all_fine names (row_of words.Disconnect).fields fields column parts filled).octets
word_octets names past column number fields parts words.Data count filled = (all_fine names (row_of words.Data).fields fields column parts filled).octets
word_octets names past column number fields parts words.Expedite count filled = (all_fine names (row_of words.Expedite).fields fields column parts filled).octets
word_octets names past column number fields parts words.Unit count filled = (all_fine names (row_of words.Unit).fields fields column parts filled).octets
word_octets names past column number fields parts words.Inject count filled = (all_fine names (row_of words.Inject).fields fields column parts filled).octets
word_octets names past column number fields parts words.Send count filled =
    let fine = all_fine names (row_of words.Send).fields fields column parts filled in
    (fine.selector, fine.called, fine.octets)
word_octets names past column number fields parts other count filled = tt

came_octets : (names : Declared) (reading : Reading) → Came names reading → LineInOctets reading.line
came_octets names reading (Idle is) = subst (λ (r : Reading). LineInOctets r.line) (sym is) tt
came_octets names reading (Worded word h) =
    subst (λ (r : Reading). LineInOctets r.line) (sym h.is) (word_octets names h.past h.column (next_number names (row_of word).effect) h.fields h.parts word h.counted h.filled)

pub line_octets : (names : Declared) (octets : List ℕ) (line : Line) (new : Declared) → line_read names octets ≡ Ok (record { line = line; names = new }) → LineInOctets line
line_octets names octets line new is = came_octets names (record { line = line; names = new }) (came names octets (record { line = line; names = new }) is)

-- ---- the set-up

system_in : (setup : SetUp) (end : Bool) (title : List ℕ) → IsInOctets setup → IsNsap title → IsInOctets (record setup { systems = setup.systems ++ record { end = end; title = title; rows = []; selectors = [] } ∷ [] })
system_in setup end title o is = record {
  titles = subst (AllByRecursion IsNsap) (sym (map-append (λ (s : System). s.title) setup.systems (record { end = end; title = title; rows = []; selectors = [] } ∷ []))) (push IsNsap (titles_of setup) title o.titles is);
  ports = o.ports;
  rows = λ n. subst (AllByRecursion (λ (row : RouteRow). HopInOctets row.hop)) (sym (rows_more setup.systems end title n)) (o.rows n);
  paths = o.paths;
  relays = o.relays;
}

title_in : (systems : List System) (n : ℕ) → n < length systems → AllByRecursion IsNsap (map (λ (s : System). s.title) systems) → IsNsap (title_at systems n)
title_in [] n lt all = absurd (omega arith)
title_in (system ∷ systems) zero lt all = all.0
title_in (system ∷ systems) (suc n) lt all = title_in systems n (omega arith) all.1

hop_title_in : (systems : List System) (n : ℕ) → AllByRecursion IsNsap (map (λ (s : System). s.title) systems) → IfSome (hop_title (slice_get systems n)) IsNsap
hop_title_in [] n all = tt
hop_title_in (system ∷ systems) zero all = by system.end
  where
    by : (b : Bool) → IfSome (if b then None else Some system.title) IsNsap
    by true = tt
    by false = all.0
hop_title_in (system ∷ systems) (suc n) all = hop_title_in systems n all.1

hop_in : (setup : SetUp) (next lan : ℕ) (hop : Hop) → IsInOctets setup → hop_to setup next lan ≡ Some hop → HopInOctets hop
hop_in setup next lan hop o is = by (port_on setup.ports next lan) refl is
  where
    by : (found : Option Port) → port_on setup.ports next lan ≡ found → option_map (made_hop (hop_title (slice_get setup.systems next))) found ≡ Some hop → HopInOctets hop
    by None there is = absurd (cc)
    by (Some port) there is =
        let made : Hop = made_hop (hop_title (slice_get setup.systems next)) port in
        let same : made ≡ hop = cc in
        let ports = at_one (λ p. IsSnpa p.snpa) setup.ports next (each (λ (row : PortRow). IsSnpa row.port.snpa) (λ (row : PortRow). row.system ≡ next → IsSnpa row.port.snpa) setup.ports (λ row snpa. λ its. snpa) o.ports) in
        subst HopInOctets same (find_all (λ (p : Port). IsSnpa p.snpa) (λ p. p.lan == lan) (ports_at setup.ports next) port ports there, hop_title_in setup.systems next o.titles)

-- a system is another, but for its title
changed_in : (setup : SetUp) (i : ℕ) (system new : System) → IsInOctets setup → slice_get setup.systems i ≡ Some system → new.title ≡ system.title
    → AllByRecursion (λ (row : RouteRow). HopInOctets row.hop) new.rows → IsInOctets (record setup { systems = slice_set setup.systems i new })
changed_in setup i system new o is same hops = record {
  titles = subst (AllByRecursion IsNsap) (sym (set_titles setup.systems i system new is same)) o.titles;
  ports = o.ports;
  rows = set_rows (λ (n : ℕ). λ (r : RouteRow). HopInOctets r.hop) setup.systems i system new is o.rows hops;
  paths = o.paths;
  relays = o.relays;
}

rows_in : (setup : SetUp) (i : ℕ) (system : System) → IsInOctets setup → slice_get setup.systems i ≡ Some system → AllByRecursion (λ (row : RouteRow). HopInOctets row.hop) system.rows
rows_in setup i system o is = rows_there (λ (n : ℕ). λ (r : RouteRow). HopInOctets r.hop) setup.systems i system is o.rows

row_in : (setup : SetUp) (i : ℕ) (system : System) (row : RouteRow) → IsInOctets setup → slice_get setup.systems i ≡ Some system → HopInOctets row.hop
    → IsInOctets (record setup { systems = slice_set setup.systems i (with_row system row) })
row_in setup i system row o is hop =
    changed_in setup i system (with_row system row) o is refl (push (λ (r : RouteRow). HopInOctets r.hop) system.rows row (rows_in setup i system o is) hop)

selector_in : (setup : SetUp) (system : ℕ) (selector : List ℕ) → IsInOctets setup → IsInOctets (record setup { systems = with_selector setup.systems system selector })
selector_in setup system selector o = by (slice_get setup.systems system) refl
  where
    by : (found : Option System) → slice_get setup.systems system ≡ found → IsInOctets (record setup { systems = selected setup.systems system selector found })
    by None is = o
    by (Some there) is = changed_in setup system there (with_one there selector) o is refl (rows_in setup system there o is)

route_in : (setup : SetUp) (system : ℕ) (prefix : List ℕ) (next lan : ℕ) → IsInOctets setup → IsInOctets (record setup { systems = with_route setup.systems system prefix (hop_to setup next lan) })
route_in setup system prefix next lan o = by (hop_to setup next lan) refl
  where
    at_system : (hop : Hop) → HopInOctets hop → (found : Option System) → slice_get setup.systems system ≡ found → IsInOctets (record setup { systems = routed setup.systems system prefix hop found })
    at_system hop is None there = o
    at_system hop is (Some found) there = row_in setup system found (record { prefix = prefix; hop = hop }) o there is

    by : (found : Option Hop) → hop_to setup next lan ≡ found → IsInOctets (record setup { systems = with_route setup.systems system prefix found })
    by None is = o
    by (Some hop) is = at_system hop (hop_in setup next lan hop o is) (slice_get setup.systems system) refl

titles_in : (setup : SetUp) (hops : List ℕ) → IsInOctets setup → AllByRecursion (λ system. system < length setup.systems) hops → AllByRecursion IsNsap (map (title_at setup.systems) hops)
titles_in setup [] o known = tt
titles_in setup (hop ∷ hops) o known = (title_in setup.systems hop known.0 o.titles, titles_in setup hops o known.1)

same_in : (setup new : SetUp) → IsInOctets setup → new.systems ≡ setup.systems → new.ports ≡ setup.ports → new.paths ≡ setup.paths → new.relays ≡ setup.relays → IsInOctets new
same_in setup new o systems ports paths relays = record {
  titles = subst (λ (s : List System). AllByRecursion IsNsap (map (λ (t : System). t.title) s)) (sym systems) o.titles;
  ports = subst (AllByRecursion (λ (row : PortRow). IsSnpa row.port.snpa)) (sym ports) o.ports;
  rows = λ n. subst (λ (s : List System). AllByRecursion (λ (row : RouteRow). HopInOctets row.hop) (rows_at s n)) (sym systems) (o.rows n);
  paths = subst (AllByRecursion (λ (path : Path). AllByRecursion IsNsap path.titles)) (sym paths) o.paths;
  relays = subst (AllByRecursion RelayInOctets) (sym relays) o.relays;
}

time_in : (setup : SetUp) (key : Key) (value : ℕ) → IsInOctets setup → IsInOctets (with_time setup key value)
time_in setup keys.Life value o = same_in setup _ o refl refl refl refl
time_in setup other value o = same_in setup _ o refl refl refl refl

pub octets_after : (setup : SetUp) (line : Line) → IsInOctets setup → Fits setup line → LineInOctets line → IsInOctets (set_up setup line)
octets_after setup lines.Nothing o f is = o
octets_after setup lines.Start o f is = o
octets_after setup (lines.Version version) o f is = o
octets_after setup (lines.Set key value) o f is = time_in setup key value o
octets_after setup (lines.Lan name bound room) o f is = same_in setup _ o refl refl refl refl
octets_after setup (lines.Es name title) o f is = system_in setup true title o is
octets_after setup (lines.Is name title) o f is = system_in setup false title o is
octets_after setup (lines.Port system lan snpa) o f is = record {
  titles = o.titles;
  ports = push (λ (row : PortRow). IsSnpa row.port.snpa) setup.ports (record { system = system; end = end_at setup.systems system; port = record { lan = lan; snpa = snpa } }) o.ports is;
  rows = o.rows;
  paths = o.paths;
  relays = o.relays;
}
octets_after setup (lines.Route system prefix next lan) o f is = route_in setup system prefix next lan o
octets_after setup (lines.Path name kind systems) o f is = record {
  titles = o.titles;
  ports = o.ports;
  rows = o.rows;
  paths = push (λ (path : Path). AllByRecursion IsNsap path.titles) setup.paths _ o.paths (titles_in setup systems o f.known);
  relays = o.relays;
}
octets_after setup (lines.Tsap system selector) o f is = selector_in setup system selector o
octets_after setup (lines.Relay system selector to called) o f is =
    let with_one : IsInOctets (record setup { systems = with_selector setup.systems system selector }) = selector_in setup system selector o in
    record {
      titles = with_one.titles;
      ports = with_one.ports;
      rows = with_one.rows;
      paths = with_one.paths;
      relays = push RelayInOctets setup.relays (record { system = system; selector = selector; to = to; called = called }) o.relays (record { selector = is.0.octets; called = is.1.octets });
    }
octets_after setup other o f is = absurd f

-- ---- the network begins

abbrev pub settings_from : SetUp → ℕ → List System → List Setting
settings_from setup number [] = []
settings_from setup number (system ∷ systems) = setting_of setup number system ∷ settings_from setup (number + 1) systems

pub nodes_are : (setup : SetUp) (k : ℕ) (rest : List System) → map first_node (settings_from setup k rest) ≡ nodes_from setup k rest
nodes_are setup k [] = refl
nodes_are setup k (system ∷ rest) = ap (λ (nodes : List (Node Rows)). first_node (setting_of setup k system) ∷ nodes) (nodes_are setup (k + 1) rest)

settings_are : (setup : SetUp) (k : ℕ) (rest : List System) → settings_of (nodes_from setup k rest) ≡ settings_from setup k rest
settings_are setup k [] = refl
settings_are setup k (system ∷ rest) = ap (λ (settings : List Setting). setting_of setup k system ∷ settings) (settings_are setup (k + 1) rest)

one_set : (setup : SetUp) (n : ℕ) (system : System) → IsWell setup → IsInOctets setup → slice_get setup.systems n ≡ Some system → IsNsap system.title → IsSetUp (setting_of setup n system)
one_set setup n system w o is title =
    let may = is_setting setup n system w is in
    let rows : AllByRecursion (λ (row : RouteRow). HopInOctets row.hop) system.rows =
    subst (λ (found : Option System). AllByRecursion (λ (row : RouteRow). HopInOctets row.hop) (rows_of found)) is (o.rows n) in
    record {
      may = may;
      title = title;
      ports = at_one (λ p. IsSnpa p.snpa) setup.ports n (each (λ (row : PortRow). IsSnpa row.port.snpa) (λ (row : PortRow). row.system ≡ n → IsSnpa row.port.snpa) setup.ports (λ row snpa. λ its. snpa) o.ports);
      rows = near system.rows may.hops rows;
      paths = o.paths;
    }
  where
    near : (all : List RouteRow) → AllByRecursion (λ (row : RouteRow). IsSome (port_on setup.ports n row.hop.port.lan)) all → AllByRecursion (λ (row : RouteRow). HopInOctets row.hop) all
        → AllByRecursion (λ (row : RouteRow). IsHop (setting_of setup n system) row.hop) all
    near [] on octets = tt
    near (row ∷ all) on octets = (record { near = on.0; snpa = octets.0.0; title = octets.0.1 }, near all on.1 octets.1)

all_set : (setup : SetUp) (front rest : List System) → IsWell setup → IsInOctets setup → setup.systems ≡ front ++ rest → AllByRecursion IsNsap (map (λ (s : System). s.title) rest)
    → AllByRecursion IsSetUp (settings_from setup (length front) rest)
all_set setup front [] w o all titles = tt
all_set setup front (system ∷ rest) w o all titles =
    let here : slice_get setup.systems (length front) ≡ Some system = ap (λ (s : List System). slice_get s (length front)) all ∙ get_end front system rest in
    let more : setup.systems ≡ (front ++ system ∷ []) ++ rest = all ∙ sym (append_assoc front (system ∷ []) rest) in
    let count : length (front ++ system ∷ []) ≡ length front + 1 = length-append front (system ∷ []) in (
      one_set setup (length front) system w o here titles.0,
      subst (λ (n : ℕ). AllByRecursion IsSetUp (settings_from setup n rest)) count (all_set setup (front ++ system ∷ []) rest w o more titles.1),
    )

pub may_begin : (setup : SetUp) → IsWell setup → IsInOctets setup → MayBegin setup.lans setup.ports (settings_from setup 0 setup.systems) setup.life
may_begin setup w o = record {
  set = all_set setup [] setup.systems w o refl o.titles;
  peopled = subst (IsPeopled (link_of (new_bag setup.lans setup.ports)).bound setup.life) (settings_are setup 0 setup.systems) (is_peopled setup w);
}
