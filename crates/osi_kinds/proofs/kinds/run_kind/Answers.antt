use Rattle.std.specs.Prelude.{◌≡◌, ℕ, List, Some}
use Rattle.std.proofs.Common.{◌⊎◌, subst, sym}
use Rattle.osi_base.specs.Ends.{HasRisen, IsAtEnd, Put}
use Rattle.osi_base.specs.declared.status.Status.TheVariants.{Done, NoMemory}
use Rattle.script_bench.proofs.Telling.{told}
use Rattle.law_setup.specs.ClnpNets.{MakesNet, NetDoes, link_of_net}
use Rattle.script_datagrams.specs.Claims.{TellsDatagrams}
use Rattle.script_relays.specs.Giving.{TellsRelays}
use Rattle.osi_kinds.specs.Kinds.{AsksOf, IsAcceptedBy, IsLawfulRun, IsToldBy, datagram_acts, inactive_acts, relay_acts}
use Rattle.osi_kinds.specs.declared.kinds.Kind.{Kind}
use Rattle.osi_kinds.proofs.KindLaws.{datagram_law, inactive_law, relay_law}
use Rattle.osi_kinds.proofs.kinds.run_kind.Goals as goal

pub returns-in-Datagrams-clause-told : goal.returns-in-Datagrams-clause-told
returns-in-Datagrams-clause-told g c =
    let w =
    told datagram_acts (TellsDatagrams link_of_net NetDoes MakesNet) (datagram_law c.shows_sent.ensures c.runs_give_each.ensures) g.S.Source.left g.K.Sink.held c.args.source.now c.args.sink.now c.run_script.new.source c.run_script.new.sink c.run_script.result
    c.run_script.ensures.outcome in
    (w.0, w.1, w.2, w.3, subst (λ (k : Kind). IsToldBy k (IsAtEnd (g.S.Source.left c.run_script.new.source)) w.0 w.1 c.run_script.result) (sym c.in-Datagrams.is) w.4)

pub returns-in-Datagrams-clause-exact : goal.returns-in-Datagrams-clause-exact
returns-in-Datagrams-clause-exact g c all text asked tells asks =
    c.run_script.ensures.exact all text asked tells (subst (λ (k : Kind). AsksOf k all text asked) c.in-Datagrams.is asks)

pub returns-in-Datagrams-clause-complete : goal.returns-in-Datagrams-clause-complete
returns-in-Datagrams-clause-complete g c =
    subst (λ (k : Kind). (all : List ℕ) → g.S.Source.left c.args.source.now ≡ Some all → IsAcceptedBy k all
    → ¬ HasRisen (g.S.Source.faults c.args.source.now) (g.S.Source.faults c.run_script.new.source) → ¬ HasRisen (g.K.Sink.faults c.args.sink.now) (g.K.Sink.faults c.run_script.new.sink)
    → ((c.run_script.result ≡ Done) × (text : List ℕ) × AsksOf k all text Done × Put (g.K.Sink.held c.args.sink.now) text (g.K.Sink.held c.run_script.new.sink)) ⊎ (c.run_script.result ≡ NoMemory))
    (sym c.in-Datagrams.is) c.run_script.ensures.complete

pub returns-in-Inactive-clause-told : goal.returns-in-Inactive-clause-told
returns-in-Inactive-clause-told g c =
    let w =
    told inactive_acts IsLawfulRun (inactive_law c.lawful.ensures) g.S.Source.left g.K.Sink.held c.args.source.now c.args.sink.now c.run_script-in-Inactive.new.source c.run_script-in-Inactive.new.sink c.run_script-in-Inactive.result
    c.run_script-in-Inactive.ensures.outcome in
    (w.0, w.1, w.2, w.3, subst (λ (k : Kind). IsToldBy k (IsAtEnd (g.S.Source.left c.run_script-in-Inactive.new.source)) w.0 w.1 c.run_script-in-Inactive.result) (sym c.in-Inactive.is) w.4)

pub returns-in-Inactive-clause-exact : goal.returns-in-Inactive-clause-exact
returns-in-Inactive-clause-exact g c all text asked tells asks =
    c.run_script-in-Inactive.ensures.exact all text asked tells (subst (λ (k : Kind). AsksOf k all text asked) c.in-Inactive.is asks)

pub returns-in-Inactive-clause-complete : goal.returns-in-Inactive-clause-complete
returns-in-Inactive-clause-complete g c =
    subst (λ (k : Kind). (all : List ℕ) → g.S.Source.left c.args.source.now ≡ Some all → IsAcceptedBy k all
    → ¬ HasRisen (g.S.Source.faults c.args.source.now) (g.S.Source.faults c.run_script-in-Inactive.new.source) → ¬ HasRisen (g.K.Sink.faults c.args.sink.now) (g.K.Sink.faults c.run_script-in-Inactive.new.sink)
    → ((c.run_script-in-Inactive.result ≡ Done) × (text : List ℕ) × AsksOf k all text Done × Put (g.K.Sink.held c.args.sink.now) text (g.K.Sink.held c.run_script-in-Inactive.new.sink)) ⊎ (c.run_script-in-Inactive.result ≡ NoMemory))
    (sym c.in-Inactive.is) c.run_script-in-Inactive.ensures.complete

pub returns-in-Relay-clause-told : goal.returns-in-Relay-clause-told
returns-in-Relay-clause-told g c =
    let w =
    told relay_acts (TellsRelays link_of_net NetDoes MakesNet) (relay_law c.relays_lawfully.ensures c.pumps_give_all.ensures) g.S.Source.left g.K.Sink.held c.args.source.now c.args.sink.now c.run_script-in-Relay.new.source c.run_script-in-Relay.new.sink c.run_script-in-Relay.result
    c.run_script-in-Relay.ensures.outcome in
    (w.0, w.1, w.2, w.3, subst (λ (k : Kind). IsToldBy k (IsAtEnd (g.S.Source.left c.run_script-in-Relay.new.source)) w.0 w.1 c.run_script-in-Relay.result) (sym c.in-Relay.is) w.4)

pub returns-in-Relay-clause-exact : goal.returns-in-Relay-clause-exact
returns-in-Relay-clause-exact g c all text asked tells asks =
    c.run_script-in-Relay.ensures.exact all text asked tells (subst (λ (k : Kind). AsksOf k all text asked) c.in-Relay.is asks)

pub returns-in-Relay-clause-complete : goal.returns-in-Relay-clause-complete
returns-in-Relay-clause-complete g c =
    subst (λ (k : Kind). (all : List ℕ) → g.S.Source.left c.args.source.now ≡ Some all → IsAcceptedBy k all
    → ¬ HasRisen (g.S.Source.faults c.args.source.now) (g.S.Source.faults c.run_script-in-Relay.new.source) → ¬ HasRisen (g.K.Sink.faults c.args.sink.now) (g.K.Sink.faults c.run_script-in-Relay.new.sink)
    → ((c.run_script-in-Relay.result ≡ Done) × (text : List ℕ) × AsksOf k all text Done × Put (g.K.Sink.held c.args.sink.now) text (g.K.Sink.held c.run_script-in-Relay.new.sink)) ⊎ (c.run_script-in-Relay.result ≡ NoMemory))
    (sym c.in-Relay.is) c.run_script-in-Relay.ensures.complete
