use Rattle.std.proofs.Common.{◌+◌, ap, Err}
use Rattle.line_loop.proofs.Pieces.{ends_whole, ends_at_line, ends_full}
use Rattle.line_loop.proofs.taking.FeedIntake.finish.Goals as goal

pub returns-in-Ok : goal.returns-in-Ok
returns-in-Ok g c =
    ends_whole g.M.Machine.meaning c.args.self.now c.args.out.now.items c.run_last.new.self.machine c.run_last.new.out.items c.end.new.out.items c.end.result c.in-Ok.ensures.ok c.end.ensures

pub returns-in-Err-Refused : goal.returns-in-Err-Refused
returns-in-Err-Refused g c =
    ends_at_line g.M.Machine.meaning (c.run_last.new.self.lines + 1) c.in-Err-Refused.refusal c.args.self.now c.args.out.now.items c.run_last.new.self.machine c.run_last.new.out.items c.refuse.new.out.items c.refuse.result
    (c.in-Err-Refused.ensures.refused c.in-Err-Refused.refusal (ap Err c.in-Err-Refused.field-0-is)) c.refuse.ensures

pub returns-in-Err-Full : goal.returns-in-Err-Full
returns-in-Err-Full g c =
    ends_full g.M.Machine.meaning c.args.self.now c.args.out.now.items c.run_last.new.self.machine c.run_last.new.out.items c.overflow.new.out.items c.overflow.result
    (c.in-Err-Full.ensures.full (ap Err c.in-Err-Full.field-0-is)) c.overflow.ensures
