-- The network over the LANs is one that tells.
use Rattle.std.proofs.Common.{◌≡◌, ◌<◌, ℕ, true, List, length, sym, subst, arith}
use Rattle.law_carrier_answers.specs.Answers.{AreOctets}
use Rattle.law_clnp_net.specs.Standing.{is_nsap}
use Rattle.law_clnp_net.specs.Serving.{StandsInOctets}
use Rattle.law_clnp_net.proofs.Always.{begins_serving, serves}
use Rattle.law_clnp_net.proofs.answered.Carrying.{nsap_of}
use Rattle.clnp_system.specs.Node.{Node}
use Rattle.esis_tables.specs.Rows.{Rows}
use Rattle.lan_step.specs.Bag.{BagStep, link_of, new_bag}
use Rattle.clnp_system.specs.Tables.{rows_tables}
use Rattle.law_clnp_step.specs.Step.{Begins}
use Rattle.script_lines.specs.Tags.{Tags}
use Rattle.script_setup.specs.Fitting.{IsWell}
use Rattle.script_setup.specs.SetUp.{SetUp, nodes_of}
use Rattle.law_setup.specs.Lines.{IsInOctets}
use Rattle.law_setup.proofs.Octets.{may_begin, nodes_are}
use Rattle.law_setup.specs.ClnpNets.{MakesNet, Net, NetDoes, link_of_net}
use Rattle.law_setup.proofs.Made.{comes}
use Rattle.law_told.proofs.Carriers.{Tells}
use Rattle.law_told.proofs.Network.{StandsTold, begins_told, picks_told, stays_told}
use Rattle.law_told.proofs.Starting.{bag_first, nodes_first}
use Rattle.law_told.proofs.Transports.{NetTells}

pub nsap_octets : (address : List ℕ) → is_nsap address ≡ true → AreOctets address × (0 < length address)
nsap_octets address is = let nsap = nsap_of address is in let some = nsap.is.some in (nsap.octets, omega (arith, some))

net_tells : (tags : Tags) → Tells tags is_nsap link_of_net NetDoes (StandsTold tags)
net_tells tags = record {
  serves = record {
    answers = record {
      answered = λ old asked stands may. serves.answers.answered old asked stands.stands may;
      stays = λ old call new stands may step. stays_told tags old call new stands may step;
    };
    in_octets = λ old stands. comes (link_of_net old).waiting (serves.in_octets old stands.stands);
    least = λ old stands. serves.least old stands.stands;
  };
  waiting = λ old stands. stands.told.waiting;
  picks = λ old stands pick system is. picks_told tags old stands pick system is;
  clock = λ old stands. stands.stands.stands.sound.steady.low;
  addresses = λ address is. nsap_octets address is;
}

net_begins : (tags : Tags) (setup : SetUp) (net : Net) → length tags.systems ≡ length setup.systems → length tags.lans ≡ length setup.lans → IsWell setup → IsInOctets setup → MakesNet setup net → StandsTold tags net
net_begins tags setup net systems lans w o makes =
    let serving : StandsInOctets net = begins_serving setup.lans setup.ports _ setup.life net (may_begin setup w o)
    (subst (λ (nodes : List (Node Rows)). Begins link_of BagStep rows_tables (new_bag setup.lans setup.ports) nodes setup.life net) (sym (nodes_are setup 0 setup.systems)) makes) in
    begins_told tags (new_bag setup.lans setup.ports) (nodes_of setup) setup.life net (bag_first tags setup systems lans w) (nodes_first tags setup systems lans) serving makes

pub routed_tells : NetTells link_of_net NetDoes MakesNet StandsTold
routed_tells = record { tells = net_tells; begins = net_begins }
