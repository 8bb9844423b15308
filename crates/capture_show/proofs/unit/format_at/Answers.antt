use Rattle.std.proofs.Common.{sym, ◌∙◌, true, false}
use Rattle.capture_show.proofs.Tpdus.{format_named}
use Rattle.capture_show.proofs.unit.format_at.Goals as goal

pub returns-then-has : goal.returns-then-has
returns-then-has c = format_named c.args.to.now c.args.reference c.args.ends.now true (sym c.if-has.true ∙ c.has.ensures)

pub returns-else-has : goal.returns-else-has
returns-else-has c = format_named c.args.to.now c.args.reference c.args.ends.now false (sym c.if-has.false ∙ c.has.ensures)
