use Rattle.script_setup.proofs.Adding.{time_set}
use Rattle.script_setup.proofs.setup.SetUp.set.Goals as goal

pub invariant_of-self : goal.invariant_of-self
invariant_of-self c = time_set c.args.key c.self.inside.shared c.set.new.self c.self.inside.systems.items c.args.value c.set.ensures c.self.invariant c.requires.least c.requires.most
