use Rattle.law_relay.proofs.Ordering.{line_order}
use Rattle.script_relays.proofs.service.WorldService.run_line.Goals as goal

pub invariant_of-self-2 : goal.invariant_of-self-2
invariant_of-self-2 g c = λ _.
    line_order g.N.Carrier.link g.N.Carrier.steps c.args.titles.now c.args.line c.self.inside.ends c.run_line.new.ends c.run_line.new.events.items c.requires.listed c.in_ok-run_line.ensures
    (c.self.invariant c.in_ok-go_on.ensures)
