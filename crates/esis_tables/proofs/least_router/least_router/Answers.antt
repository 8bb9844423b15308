use Rattle.std.proofs.Common.{true, false, arith}
use Rattle.esis_tables.proofs.Routers.{least_at, least_whole}
use Rattle.esis_tables.proofs.least_router.least_router.Goals as goal
use Rattle.esis_tables.proofs.least_router.least_router.Goals.{then-is_lesser, else-is_lesser}

pub loop-place-preserved : goal.loop-place-preserved
loop-place-preserved c = elim c.if-is_lesser.branch [
  | then-is_lesser w ↦ least_at c.args.now c.args.rows.now.items c.loop-place.place c.loop-place.least c.if-is_lesser.least c.index-row.result.now true
      (omega (arith, c.len-place-end.ensures)) c.index-row.ensures (cc) w.least-is c.loop-place.invariant
  | else-is_lesser w ↦ least_at c.args.now c.args.rows.now.items c.loop-place.place c.loop-place.least c.if-is_lesser.least c.index-row.result.now false
      (omega (arith, c.len-place-end.ensures)) c.index-row.ensures (cc) w.least-is c.loop-place.invariant
]

pub returns : goal.returns
returns c = least_whole c.args.now c.args.rows.now.items c.loop-place.place c.loop-place.least (omega (arith, c.len-place-end.ensures)) c.loop-place.invariant
