use Rattle.std.proofs.Common.{subst}
use Rattle.esis_tables.specs.Rows.{Rows}
use Rattle.esis_tables.specs.steps.Least.{IsRouterHop}
use Rattle.esis_tables.proofs.Standing.{router_stands}
use Rattle.esis_tables.proofs.neighbours.Neighbours.any_router.Goals as goal

pub returns-clause-stands : goal.returns-clause-stands
returns-clause-stands c hellos h = router_stands c.args.self.now hellos c.args.self.now.clock c.args.now c.requires h c.router.result
    (subst (λ (table : Rows). IsRouterHop table.rows c.args.now c.router.result) c.self.view_is c.router.ensures.least)
