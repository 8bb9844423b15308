use Rattle.std.proofs.Common.{◌+◌, refl}
use Rattle.line_loop.proofs.Calls.{none_held, part_held, part_full}
use Rattle.line_loop.proofs.Feeding.{stops_long}
use Rattle.line_loop.proofs.feed.Feed.hold.Goals as goal

pub returns-then-is_empty-clause-ok : goal.returns-then-is_empty-clause-ok
returns-then-is_empty-clause-ok g c out = none_held g.M.Machine.meaning c.args.part.now c.args.self.now out c.if-is_empty.ensures

pub returns-in-Err-clause-refused : goal.returns-in-Err-clause-refused
returns-in-Err-clause-refused g c said is out =
    let past = c.in-Err.ensures.refused said is in
    stops_long g.M.Machine.meaning (c.args.self.now.lines + 1) said c.args.part.now c.args.self.now out refl c.requires.no_feed past.0 past.1 past.2 c.requires.room

pub returns-in-Err-clause-too_much : goal.returns-in-Err-clause-too_much
returns-in-Err-clause-too_much g c is out =
    part_full g.M.Machine.meaning c.args.part.now c.args.self.now out c.if-is_empty.ensures (c.in-Err.ensures.too_much is)

pub returns-clause-ok : goal.returns-clause-ok
returns-clause-ok g c out =
    part_held g.M.Machine.meaning c.args.part.now c.args.self.now _ c.extend_from_slice.new.self.items out c.self.view_is c.in-Ok.ensures.items c.requires.no_feed c.in_default.ensures.ok c.requires.room
