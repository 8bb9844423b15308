use Rattle.std.proofs.Common.{subst, sym, ◌∙◌, ap}
use Rattle.script_setup.specs.SetUp.{SetUp, end_at}
use Rattle.script_setup.specs.Fitting.{IsNewPort}
use Rattle.script_setup.proofs.Adding.{port_added}
use Rattle.script_setup.proofs.setup.SetUp.add_port.Goals as goal

pub invariant_of-self : goal.invariant_of-self
invariant_of-self c =
    port_added c.add_port.result c.self.inside.shared c.add_port.new.self c.self.inside.systems.items
    (record { system = c.args.system; end = c.is_end.result; port = record { lan = c.args.lan; snpa = c.args.snpa } }) c.self.invariant
    (subst (λ (s : SetUp). IsNewPort s c.args.system c.args.lan c.args.snpa) (sym c.self.view_is) c.requires)
    (c.is_end.ensures ∙ ap (λ (s : SetUp). end_at s.systems c.args.system) (sym c.self.view_is))
    c.add_port.ensures.ok c.add_port.ensures.err
