use Rattle.script_world.proofs.Ran.{runs_ends}
use Rattle.script_world.proofs.transport.TpPlayPlay.run_line.Goals as goal

pub returns : goal.returns
returns g c =
    runs_ends g.N.Carrier.link g.N.Carrier.steps c.args.self.now c.self.inside.titles c.as_slice.result.now c.self.inside.timers c.self.inside.ends c.run_line.new.ends c.args.line
    c.run_line.new.events.items c.run_line.result c.self.view_is c.as_slice.ensures c.run_line.ensures
