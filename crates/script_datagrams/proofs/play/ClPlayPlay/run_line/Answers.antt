use Rattle.script_datagrams.proofs.Ran.{runs_on}
use Rattle.script_datagrams.proofs.play.ClPlayPlay.run_line.Goals as goal

pub returns : goal.returns
returns g c =
    runs_on g.N.Carrier.link g.N.Carrier.steps c.args.self.now c.self.inside.titles c.as_slice.result.now c.self.inside.life c.self.inside.world c.run_line.new.world c.args.line
    c.run_line.new.events.items c.run_line.result c.self.view_is c.as_slice.ensures c.run_line.ensures
