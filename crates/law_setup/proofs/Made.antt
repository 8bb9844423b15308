-- The systems of a script over its LANs as a network that a set-up makes: as it starts it has no unit on its way, and each of its systems has
-- its title; each call has one answer; and all that may be asked from the start on is answered.
use Rattle.std.proofs.Common.{◌≡◌, ◌==◌, ◌&&◌, ℕ, suc, ◌+◌, Bool, true, false, List, [], ◌∷◌, map, Some, refl, sym, ◌∙◌, subst, arith}
use Rattle.std.specs.Prelude.{◌||◌, slice_get, IsTrue}
use Rattle.std.specs.List.{AllByRecursion, list_any}
use Rattle.std.proofs.lemmas.List.Elements.{All-from_recursion}
use Rattle.nsap.specs.Address.{is_same_system}
use Rattle.osi_base.specs.declared.unit.Up.{Up}
use Rattle.osi_base.specs.declared.unit.Up.TheVariants.{Unit as Came, Note as Noted}
use Rattle.osi_base.specs.Link.{IsNote}
use Rattle.osi_base.specs.Calls.{Call, Keeps}
use Rattle.law_carrier_answers.specs.Answers.{OneStep}
use Rattle.lan_step.specs.Bag.{BagStep, link_of, new_bag}
use Rattle.lan_step.specs.declared.row.Lan.{Lan}
use Rattle.lan_step.specs.declared.row.PortRow.{PortRow}
use Rattle.lan_step.proofs.Keeping.{bag_given, bag_keeps}
use Rattle.clnp_system.specs.Node.{Node}
use Rattle.clnp_system.specs.Setting.{Setting}
use Rattle.clnp_system.specs.Tables.{rows_tables}
use Rattle.law_clnp_step.specs.Network.{is_end_of}
use Rattle.law_clnp_step.specs.Step.{Begins}
use Rattle.law_clnp_step.proofs.Kept.{net_keeps}
use Rattle.law_clnp_step.proofs.Passed.{all_ticked}
use Rattle.law_clnp_step.proofs.Seen.{belongs_same}
use Rattle.law_clnp_net.specs.Beginning.{BeginsAs, MayBegin}
use Rattle.law_clnp_net.specs.Serving.{StandsInOctets, ComesInOctets as NetComes}
use Rattle.law_clnp_net.specs.Standing.{is_nsap}
use Rattle.law_clnp_net.proofs.Always.{begins_serving, begins_standing, serves}
use Rattle.law_clnp_net.proofs.Bags.{one_bag_answer}
use Rattle.law_clnp_net.proofs.Steps.{one_answer, one_beginning}
use Rattle.esis_tables.specs.Rows.{Rows}
use Rattle.net_world.specs.First.{IsFirst}
use Rattle.tp4_world.specs.Total.{ComesInOctets, Serves, ServesOn}
use Rattle.tp4_world.proofs.Serving.{serves_within}
use Rattle.script_lines.specs.declared.words.Dialect.TheVariants as dialects
use Rattle.script_setup.specs.Fitting.{IsWell}
use Rattle.script_setup.specs.SetUp.{System, SetUp, nodes_from, nodes_of, titles_of}
use Rattle.script_setup.proofs.Ports.{number_is}
use Rattle.law_setup.specs.Lines.{IsInOctets}
use Rattle.law_setup.proofs.Octets.{may_begin, nodes_are}
use Rattle.law_setup.specs.ClnpNets.{MakesNet, Net, NetDoes, link_of_net}
use Rattle.law_setup.specs.Networks.{HasNet, NetworkLaws, SendsNoDatagrams}
use Rattle.law_setup.proofs.Sending.{no_datagrams}

-- each call of the network keeps the contract of a carrier
pub net_law : (old : Net) (call : Call (List ℕ)) (new : Net) → NetDoes old call new → Keeps (link_of_net old) call (link_of_net new)
net_law = net_keeps link_of BagStep bag_keeps bag_given rows_tables

-- ---- the network as it starts

record AtHome (k : ℕ) (titles : List (List ℕ)) (to : List ℕ) (system : ℕ) : Type 0 where
  place : ℕ
  title : List ℕ
  number : system ≡ k + place
  is : slice_get titles place ≡ Some title
  same : is_same_system to title ≡ true

three : (a b c : Bool) → (a && b && c) ≡ true → (a ≡ true) × (c ≡ true)
three true true true is = (refl, refl)
three true true false is = absurd (cc)
three true false c is = absurd (cc)
three false b c is = absurd (cc)

at_home : (setup : SetUp) (k : ℕ) (rest : List System) (to : List ℕ) (system : ℕ) → list_any (is_end_of to system) (nodes_from setup k rest) ≡ true → AtHome k (map (λ (s : System). s.title) rest) to system
at_home setup k [] to system is = absurd (cc)
at_home setup k (first ∷ rest) to system is = by (at_home setup (k + 1) rest to system) (k == system && first.end && is_same_system to first.title) refl is
  where
    by : (list_any (is_end_of to system) (nodes_from setup (k + 1) rest) ≡ true → AtHome (k + 1) (map (λ (s : System). s.title) rest) to system) → (b : Bool) → (k == system && first.end && is_same_system to first.title) ≡ b → (b || list_any (is_end_of to system) (nodes_from setup (k + 1) rest)) ≡ true
        → AtHome k (map (λ (s : System). s.title) (first ∷ rest)) to system
    by others true here is =
        let parts = three (k == system) first.end (is_same_system to first.title) here in
        let same = number_is k system parts.0 in
        record { place = 0; title = first.title; number = omega arith; is = refl; same = parts.1 }
    by others false here is =
        let found = others is in
        let number = found.number in
        record { place = suc found.place; title = found.title; number = omega arith; is = found.is; same = found.same }

told_true : (b : Bool) → IsTrue b → b ≡ true
told_true b is = is

home_from : (setup : SetUp) (to : List ℕ) (system : ℕ) → AtHome 0 (titles_of setup) to system → (title : List ℕ) × (slice_get (titles_of setup) system ≡ Some title) × (is_same_system to title ≡ true)
home_from setup to system found =
    let number = found.number in
    let here : found.place ≡ system = omega arith in
    (found.title, subst (λ (n : ℕ). slice_get (titles_of setup) n ≡ Some found.title) here found.is, found.same)

pub begins_first : (setup : SetUp) (net : Net) → MakesNet setup net → IsFirst setup.life (titles_of setup) (link_of_net net)
begins_first setup net b =
    let t = all_ticked link_of BagStep bag_keeps rows_tables 0 (new_bag setup.lans setup.ports) (nodes_of setup) b.below b.after b.told refl b.all in
    subst (λ (n : Net). IsFirst setup.life (titles_of setup) (link_of_net n)) (sym b.becomes) (record {
      clock = t.below.stands.clock;
      none = refl;
      notes = All-from_recursion IsNote b.told t.all_fine;
      honest = t.below.stands.honest;
      bounds = λ to. omega arith;
      home = record {
        home = λ to system is.
            home_from setup to system (at_home setup 0 setup.systems to system
            (sym (belongs_same to system (nodes_of setup) b.after t.setups) ∙ told_true (list_any (is_end_of to system) b.after) is));
      };
    })

-- ---- what it answers

-- all that a network may be asked from here on is answered
abbrev pub Serving : Net → Type 0
Serving = ServesOn is_nsap link_of_net NetDoes

pub comes : (ups : List (Up (List ℕ))) → AllByRecursion (NetComes is_nsap) ups → AllByRecursion (ComesInOctets is_nsap) ups
comes [] all = tt
comes (Came arrival ∷ ups) all = (all.0, comes ups all.1)
comes (Noted note ∷ ups) all = (tt, comes ups all.1)

net_serves : Serves is_nsap link_of_net NetDoes StandsInOctets
net_serves = record {
  answers = serves.answers;
  in_octets = λ old stands. comes (link_of_net old).waiting (serves.in_octets old stands);
  least = serves.least;
}

pub begun_serves : (lans : List Lan) (rows : List PortRow) (settings : List Setting) (life : ℕ) (net : Net) → MayBegin lans rows settings life → BeginsAs lans rows settings life net → Serving net
begun_serves lans rows settings life net may is = serves_within is_nsap link_of_net NetDoes StandsInOctets net_serves net (begins_serving lans rows settings life net may is)

-- ---- the laws

net_answers : OneStep NetDoes
net_answers = one_answer link_of BagStep one_bag_answer rows_tables

some_net : (setup : SetUp) → IsWell setup → IsInOctets setup → HasNet MakesNet setup
some_net setup w o =
    let begun = begins_standing.begins setup.lans setup.ports _ setup.life (may_begin setup w o) in
    record {
      net = begun.0;
      made = subst (λ (nodes : List (Node Rows)). Begins link_of BagStep rows_tables (new_bag setup.lans setup.ports) nodes setup.life begun.0) (nodes_are setup 0 setup.systems) begun.1;
    }

net_serving : (setup : SetUp) (net : Net) → IsWell setup → IsInOctets setup → MakesNet setup net → Serving net
net_serving setup net w o made =
    begun_serves setup.lans setup.ports _ setup.life net (may_begin setup w o)
    (subst (λ (nodes : List (Node Rows)). Begins link_of BagStep rows_tables (new_bag setup.lans setup.ports) nodes setup.life net) (sym (nodes_are setup 0 setup.systems)) made)

-- `run` sends no datagrams
pub none_sent : SendsNoDatagrams dialects.Run
none_sent = no_datagrams dialects.Run (λ system selector to called octets has. has)

pub net_laws : NetworkLaws link_of_net NetDoes MakesNet
net_laws = record {
  one_answer = net_answers;
  one_net = λ setup net other a b. one_beginning link_of BagStep one_bag_answer rows_tables (new_bag setup.lans setup.ports) (nodes_of setup) setup.life net other a b;
  clock = λ setup net made. (begins_first setup net made).clock;
  first = λ setup net well within made. begins_first setup net made;
  some_net = some_net;
  serves = net_serving;
}
