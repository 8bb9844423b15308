use Rattle.std.proofs.Common.{◌≡◌, subst, false}
use Rattle.std.specs.List.{list_any}
use Rattle.nsap.specs.declared.port.Port.{Port}
use Rattle.lan_step.specs.Receivers.{is_one_of}
use Rattle.lan_bag.proofs.LanLists.{none_reached}
use Rattle.lan_bag.proofs.Openings.{open_nowhere}
use Rattle.lan_bag.proofs.next_delivery.first_system.Goals as goal

pub returns-else-may_reach : goal.returns-else-may_reach
returns-else-may_reach c =
    open_nowhere c.args.clock c.args.setup.now.lans c.args.setup.now.rows c.args.sent.now
    (none_reached c.args.clock c.args.setup.now.lans c.args.setup.now.rows c.args.setup.now.rows c.args.sent.now
    (subst (λ (to : Port). list_any (is_one_of to) c.args.setup.now.rows ≡ false) c.to.ensures (c.may_reach.ensures c.if-may_reach.false)))
