use Rattle.std.proofs.Common.{subst, sym}
use Rattle.std.specs.Prelude.{is_ok}
use Rattle.script_setup.specs.SetUp.{SetUp}
use Rattle.script_setup.specs.Fitting.{IsNewTitle}
use Rattle.script_setup.proofs.Adding.{system_added}
use Rattle.script_setup.proofs.setup.SetUp.add_system.Goals as goal

pub invariant_of-self-2 : goal.invariant_of-self-2
invariant_of-self-2 c =
    system_added (is_ok c.push.result) (record c.self.inside.shared { systems = c.self.inside.systems.items }) c.push.new.self.items c.new-system.result c.args.end c.args.title c.self.invariant
    (subst (λ (s : SetUp). IsNewTitle s c.args.title) (sym c.self.view_is) c.requires) c.new-system.ensures c.push.ensures.items
