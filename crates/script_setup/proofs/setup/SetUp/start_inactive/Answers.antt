use Rattle.std.proofs.Common.{List, ◌∙◌, ap}
use Rattle.lan_step.specs.declared.row.PortRow.{PortRow}
use Rattle.script_setup.specs.Inactive.{inactive_from}
use Rattle.script_setup.specs.SetUp.{System, SetUp}
use Rattle.script_setup.proofs.Served.{made_served}
use Rattle.script_setup.proofs.setup.SetUp.start_inactive.Goals as goal

pub new-requires-clause-served : goal.new-requires-clause-served
new-requires-clause-served c =
    made_served (record c.self.inside.shared { systems = c.self.inside.systems.items }) c.in_ok-bag.bag c.in_ok-rows.rows.items c.self.invariant c.in_ok-bag.ensures
    (c.in_ok-rows.ensures
    ∙ ap (λ (ports : List PortRow). inactive_from c.in_ok-bag.bag.lans ports 0 c.deref-2.result.now) (c.deref.ensures.value ∙ ap (λ (s : SetUp). s.ports) c.shared.view_is)
    ∙ ap (λ (systems : List System). inactive_from c.in_ok-bag.bag.lans c.self.inside.shared.ports 0 systems) c.deref-2.ensures.value)
