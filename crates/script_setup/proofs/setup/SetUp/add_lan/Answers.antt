use Rattle.script_setup.proofs.Adding.{lan_added}
use Rattle.script_setup.proofs.setup.SetUp.add_lan.Goals as goal

pub invariant_of-self : goal.invariant_of-self
invariant_of-self c =
    lan_added c.add_lan.result c.self.inside.shared c.add_lan.new.self c.self.inside.systems.items c.args.lan c.self.invariant c.requires c.add_lan.ensures.ok c.add_lan.ensures.err
