use Rattle.std.proofs.Common.{◌+◌}
use Rattle.tp4_entity.proofs.Dues.{lasts_woken}
use Rattle.tp4_entity.proofs.entity.TpEntity.call_from.Goals as goal

pub returns-clause-lasts : goal.returns-clause-lasts
returns-clause-lasts g c =
    lasts_woken c.args.now (c.args.place + 1) c.args.self.now c.set_clock.new.self c.put.new.self c.in_ok-end.end c.set_clock.ensures c.put.ensures c.requires.due c.in_ok-end.ensures.later
