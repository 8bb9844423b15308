-- The table with the row is one: its prefix stood in no row, and there was room.
use Rattle.clnp_route.proofs.Prefixes.{table_push}
use Rattle.clnp_route.proofs.table.Table.push.Goals as goal

pub invariant_of-self-2 : goal.invariant_of-self-2
invariant_of-self-2 c = rw c.in_ok-push.ensures.items
    (table_push _ _ (record { prefix = c.args.prefix; hop = record { port = c.args.port; title = c.args.title } }) c.self.view_is c.self.invariant
    c.requires.fresh c.requires.room)
