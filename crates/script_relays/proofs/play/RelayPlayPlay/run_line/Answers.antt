use Rattle.script_relays.proofs.Ran.{runs_on}
use Rattle.script_relays.proofs.play.RelayPlayPlay.run_line.Goals as goal

pub returns : goal.returns
returns g c =
    runs_on g.N.Carrier.link g.N.Carrier.steps c.args.self.now c.self.inside.titles c.as_slice-titles.result.now c.self.inside.service c.run_line.new.service c.self.inside.relay c.run_line.new.relay c.args.line
    c.run_line.new.events.items c.run_line.result c.self.view_is c.as_slice-titles.ensures c.run_line.ensures
