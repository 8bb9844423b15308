use Rattle.osi_base.specs.Calls.{Tick}
use Rattle.lan_step.proofs.Keeping.{bag_keeps}
use Rattle.lan_bag.proofs.bag.LanBagCarrier.tick.Goals as goal

pub returns-clause-link : goal.returns-clause-link
returns-clause-link c = bag_keeps c.args.self.now Tick c.tick_once.new.self c.tick_once.ensures
