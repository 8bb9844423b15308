use Rattle.std.proofs.Common.{◌+◌, length, arith}
use Rattle.osi_base.proofs.Young.{floated_last}
use Rattle.inactive_net.proofs.afloat.Afloat.add.Goals as goal

pub invariant_of-self-2 : goal.invariant_of-self-2
invariant_of-self-2 c =
    let order = rw (← c.self.view_is) at c.requires in
    rw c.in_ok-push_back.ensures.items (floated_last (length c.self.inside.entries.items + 1) c.self.inside.entries.items (c.args.now, c.args.unit)
    (record { within = omega arith; ordered = c.self.invariant }) (omega arith) order).ordered
