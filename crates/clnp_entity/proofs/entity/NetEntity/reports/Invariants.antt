use Rattle.std.proofs.Common.{take}
use Rattle.clnp_system.specs.Tables.{rows_tables}
use Rattle.clnp_system.specs.Ticking.{ReportsEach}
use Rattle.clnp_entity.proofs.entity.NetEntity.reports.Given as goal

abbrev pub invariant-loop-unit : goal.invariant-loop-unit
invariant-loop-unit l = ReportsEach rows_tables l.self l.now (take l.unit-index l.expired) l.frames.items
