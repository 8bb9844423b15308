use Rattle.std.proofs.Common.{arith}
use Rattle.esis_tables.proofs.Keeping.{taken}
use Rattle.esis_tables.proofs.rows.take_out.Goals as goal

pub returns : goal.returns
returns c = taken c.remove.result c.args.rows.now.items c.remove.new.self.items c.args.place (c.remove.ensures.variant.1 (omega (arith, c.requires))) c.remove.ensures.items
