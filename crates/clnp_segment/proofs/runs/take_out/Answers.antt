use Rattle.std.proofs.Common.{◌∙◌, arith}
use Rattle.clnp_segment.proofs.Meetings.{removed}
use Rattle.clnp_segment.proofs.runs.take_out.Goals as goal

pub returns-in-Some : goal.returns-in-Some
returns-in-Some c = c.in-Some.ensures.items ∙ removed c.args.runs.now.items c.args.first c.args.last (omega arith)
