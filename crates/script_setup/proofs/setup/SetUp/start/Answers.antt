use Rattle.script_setup.proofs.Starting.{are_peopled, begun, made_new}
use Rattle.script_setup.proofs.setup.SetUp.start.Goals as goal

pub new-requires-clause-peopled : goal.new-requires-clause-peopled
new-requires-clause-peopled c =
    are_peopled (record c.self.inside.shared { systems = c.self.inside.systems.items }) c.in_ok-bag.bag c.in_ok-nodes.nodes.items c.life.result c.self.invariant c.in_ok-bag.ensures c.in_ok-nodes.ensures c.life.ensures

pub new-requires-clause-made : goal.new-requires-clause-made
new-requires-clause-made c = made_new (record c.self.inside.shared { systems = c.self.inside.systems.items }) c.in_ok-nodes.nodes.items c.in_ok-nodes.ensures

pub returns : goal.returns
returns c =
    begun c.new.result (record c.self.inside.shared { systems = c.self.inside.systems.items }) c.args.self c.in_ok-bag.bag c.in_ok-nodes.nodes.items c.life.result c.in_ok-bag.ensures c.in_ok-nodes.ensures c.life.ensures
    c.self.view_is c.new.ensures
