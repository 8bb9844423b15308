use Rattle.std.proofs.Common.{◌+◌, refl}
use Rattle.line_loop.proofs.Calls.{on_ok, within_start, within_line, within_end, within_refused, within_too_much, line_refused, line_too_much, count_left}
use Rattle.line_loop.proofs.feed.Feed.feed.Goals as goal

pub loop-part-init : goal.loop-part-init
loop-part-init g c = record {
  so_far = within_start g.M.Machine.meaning c.args.octets.now c.args.self.now c.args.out.now.items;
  counted = c.requires.counted;
  octets = refl;
  room = c.requires.room;
}

pub returns-in-Err-clause-refused : goal.returns-in-Err-clause-refused
returns-in-Err-clause-refused g c said is =
    line_refused g.M.Machine.meaning (c.end_line.new.self.lines + 1) said c.args.octets.now c.loop-part.rest.now c.in-Some.part.now c.in-Some.after.now c.args.self.now c.args.out.now.items c.loop-part.self c.loop-part.out.items c.end_line.new.self.machine c.end_line.new.out.items
    c.loop-part.invariant.so_far c.in-Some.ensures.some.1 (c.in-Err.ensures.refused said is)

pub returns-in-Err-clause-too_much : goal.returns-in-Err-clause-too_much
returns-in-Err-clause-too_much g c is =
    line_too_much g.M.Machine.meaning c.args.octets.now c.loop-part.rest.now c.in-Some.part.now c.in-Some.after.now c.args.self.now c.args.out.now.items c.loop-part.self c.loop-part.out.items c.end_line.new.self.machine c.end_line.new.out.items
    c.loop-part.invariant.so_far c.in-Some.ensures.some.1 (c.in-Err.ensures.too_much is)

pub loop-part-preserved : goal.loop-part-preserved
loop-part-preserved g c = record {
  so_far = within_line g.M.Machine.meaning c.args.octets.now c.loop-part.rest.now c.in-Some.part.now c.in-Some.after.now c.args.self.now c.args.out.now.items c.loop-part.self c.loop-part.out.items c.end_line.new.self c.end_line.new.out.items
      c.loop-part.invariant.so_far c.in-Some.ensures.some.1 c.in_default-end_line.ensures.ok;
  counted = c.in_default-end_line.ensures.counted;
  octets = count_left c.loop-part.rest.now c.in-Some.part.now c.in-Some.after.now c.loop-part.self.octets c.end_line.new.self.octets _ c.in-Some.ensures.some.1 c.in_default-end_line.ensures.octets c.loop-part.invariant.octets;
  room = c.loop-part.invariant.room;
}

pub returns-clause-ok : goal.returns-clause-ok
returns-clause-ok g c =
    on_ok c.hold.result (λ f. within_end g.M.Machine.meaning c.args.octets.now c.loop-part.rest.now c.args.self.now c.args.out.now.items c.loop-part.self c.loop-part.out.items c.hold.new.self c.loop-part.out.items
    c.loop-part.invariant.so_far (f c.loop-part.out.items)) c.hold.ensures.ok

pub returns-clause-refused : goal.returns-clause-refused
returns-clause-refused g c said is =
    within_refused g.M.Machine.meaning (c.hold.new.self.lines + 1) said c.args.octets.now c.loop-part.rest.now c.args.self.now c.args.out.now.items c.loop-part.self c.loop-part.out.items c.hold.new.self.machine c.loop-part.out.items
    c.loop-part.invariant.so_far (c.hold.ensures.refused said is c.loop-part.out.items)

pub returns-clause-too_much : goal.returns-clause-too_much
returns-clause-too_much g c is =
    within_too_much g.M.Machine.meaning c.args.octets.now c.loop-part.rest.now c.args.self.now c.args.out.now.items c.loop-part.self c.loop-part.out.items c.hold.new.self.machine c.loop-part.out.items
    c.loop-part.invariant.so_far (c.hold.ensures.too_much is c.loop-part.out.items)
