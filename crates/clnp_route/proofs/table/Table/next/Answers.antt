-- Where each prefix has one row, the next hop is one.
use Rattle.clnp_route.proofs.Prefixes.{same_next}
use Rattle.clnp_route.proofs.table.Table.next.Goals as goal

pub returns-clause-value : goal.returns-clause-value
returns-clause-value c = same_next c.args.self.now c.self.inside.rows.items c.deref.result.now c.args.address.now c.next_in.result c.self.view_is
    c.deref.ensures.value c.self.invariant c.next_in.ensures
