use Rattle.std.proofs.Common.{◌≡◌, ◌⊎◌, ◌+◌, ap, Err}
use Rattle.octet_loop.specs.steps.Taking.{Stops}
use Rattle.osi_base.specs.declared.status.Status.TheVariants.{NoMemory}
use Rattle.line_loop.specs.steps.Taking.{line_course, feeding}
use Rattle.line_loop.proofs.Pieces.{as_err, stops_refused, stops_too_much}
use Rattle.line_loop.proofs.taking.FeedIntake.take.Goals as goal

pub returns-in-Err-Refused-clause-stopped : goal.returns-in-Err-Refused-clause-stopped
returns-in-Err-Refused-clause-stopped g c status is =
    as_err (λ s. (s ≡ NoMemory) ⊎ Stops (λ feed. line_course g.M.Machine.meaning feed.machine) (feeding g.M.Machine.meaning) c.args.octets.now c.args.self.now c.args.out.now.items c.refuse.new.out.items s) c.refuse.result status is
    (stops_refused g.M.Machine.meaning (c.feed.new.self.lines + 1) c.in-Err-Refused.refusal c.args.octets.now c.args.self.now c.args.out.now.items c.feed.new.self.machine c.feed.new.out.items c.refuse.new.out.items c.refuse.result
    (c.in-Err-Refused.ensures.refused c.in-Err-Refused.refusal (ap Err c.in-Err-Refused.field-0-is)) c.refuse.ensures)

pub returns-in-Err-TooMuch-clause-stopped : goal.returns-in-Err-TooMuch-clause-stopped
returns-in-Err-TooMuch-clause-stopped g c status is =
    as_err (λ s. (s ≡ NoMemory) ⊎ Stops (λ feed. line_course g.M.Machine.meaning feed.machine) (feeding g.M.Machine.meaning) c.args.octets.now c.args.self.now c.args.out.now.items c.overflow.new.out.items s) c.overflow.result status is
    (stops_too_much g.M.Machine.meaning c.args.octets.now c.args.self.now c.args.out.now.items c.feed.new.self.machine c.feed.new.out.items c.overflow.new.out.items c.overflow.result
    (c.in-Err-TooMuch.ensures.too_much (ap Err c.in-Err-TooMuch.field-0-is)) c.overflow.ensures)
