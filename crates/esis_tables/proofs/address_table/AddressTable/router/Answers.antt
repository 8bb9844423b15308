use Rattle.std.proofs.Common.{List, ap, subst}
use Rattle.esis_tables.specs.declared.holding_time.Row.{Row}
use Rattle.esis_tables.specs.Rows.{Rows}
use Rattle.esis_tables.specs.steps.Least.{IsRouterHop}
use Rattle.esis_tables.proofs.Routers.{router_at}
use Rattle.esis_tables.proofs.address_table.AddressTable.router.Goals as goal

pub returns-clause-value : goal.returns-clause-value
returns-clause-value c = router_at c.args.now c.args.self.now.rows c.self.inside.rows c.hop_to_router.result
    (ap (λ (table : Rows). table.rows) c.self.view_is) c.self.invariant.0
    (subst (λ (rows : List Row). IsRouterHop rows c.args.now c.hop_to_router.result) c.ring.ensures c.hop_to_router.ensures)
