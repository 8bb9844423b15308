use Rattle.std.proofs.Common.{rules, ◌+◌, refl, ap, Err}
use Rattle.line_loop.proofs.Calls.{end_full, end_long, end_refused, end_filled, line_ended}
use Rattle.line_loop.proofs.feed.Feed.end_line.Goals as goal

pub returns-in-Err-clause-refused : goal.returns-in-Err-clause-refused
returns-in-Err-clause-refused g c said is =
    end_long g.M.Machine.meaning (c.args.self.now.lines + 1) said c.args.part.now c.args.self.now c.args.out.now.items refl c.requires.no_feed (c.in-Err.ensures.refused said is) c.requires.room

pub returns-in-Err-clause-too_much : goal.returns-in-Err-clause-too_much
returns-in-Err-clause-too_much g c is =
    end_full g.M.Machine.meaning c.args.part.now c.args.self.now c.args.out.now.items (c.in-Err.ensures.too_much is)

pub returns-in-Err-Refused-clause-refused : goal.returns-in-Err-Refused-clause-refused
returns-in-Err-Refused-clause-refused g c said is =
    end_refused g.M.Machine.meaning _ said c.args.part.now c.args.self.now _ c.args.out.now.items c.run_joined.new.machine c.run_joined.new.out.items c.self.view_is refl c.requires.no_feed c.in_default.ensures.ok c.requires.room
    (c.in-Err-Refused.ensures.refused said (search rules))

pub returns-in-Err-Full-clause-too_much : goal.returns-in-Err-Full-clause-too_much
returns-in-Err-Full-clause-too_much g c is =
    end_filled g.M.Machine.meaning g.met.M.Machine.laws c.args.part.now c.args.self.now _ c.args.out.now.items c.run_joined.new.machine c.run_joined.new.out.items c.self.view_is c.requires.no_feed c.in_default.ensures.ok c.requires.room
    (c.in-Err-Full.ensures.full (ap Err c.in-Err-Full.field-0-is))

pub returns-clause-ok : goal.returns-clause-ok
returns-clause-ok g c =
    line_ended g.M.Machine.meaning g.met.M.Machine.laws c.args.part.now c.args.self.now _ c.args.out.now.items c.run_joined.new.machine c.clear.new.self.items c.run_joined.new.out.items c.self.view_is c.clear.ensures.items c.requires.no_feed c.in_default.ensures.ok c.requires.room c.in-Ok.ensures.ok
