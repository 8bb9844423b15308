use Rattle.std.proofs.Common.{◌∙◌, ap, subst, ℕ, List}
use Rattle.script_setup.specs.SetUp.{SetUp, with_selector}
use Rattle.script_setup.specs.Fitting.{IsWell}
use Rattle.script_setup.proofs.Adding.{relay_added}
use Rattle.script_setup.proofs.setup.SetUp.add_relay.Goals as goal

pub invariant_of-self : goal.invariant_of-self
invariant_of-self c =
    let old : SetUp = c.args.self.now in
    relay_added c.add_relay.result old c.self-2.inside.shared c.add_relay.new.self c.self-2.inside.systems.items c.args.relay (subst IsWell c.self.view_is c.self.invariant) c.requires c.self-2.invariant
    (c.self-2.view_is ∙ c.in_ok-add_selector.ensures
    ∙ ap (λ (s : List ℕ). record old { systems = with_selector old.systems c.args.relay.system s }) (c.in_ok-selector.ensures ∙ c.as_slice.ensures))
    c.add_relay.ensures.ok c.add_relay.ensures.err
