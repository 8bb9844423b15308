use Rattle.std.proofs.Common.{refl}
use Rattle.line_loop.proofs.Calls.{on_ok, finish_empty, finish_line, finish_refused, finish_filled}
use Rattle.line_loop.proofs.feed.Feed.run_last.Goals as goal

pub returns-then-is_empty-clause-ok : goal.returns-then-is_empty-clause-ok
returns-then-is_empty-clause-ok g c =
    finish_empty g.M.Machine.meaning c.args.self.now _ c.as_slice.result.now c.args.out.now.items c.self.view_is c.as_slice.ensures.value c.if-is_empty.ensures

pub returns-clause-refused : goal.returns-clause-refused
returns-clause-refused g c said is =
    finish_refused g.M.Machine.meaning _ said c.args.self.now _ c.as_slice.result.now c.deref.result.now c.args.out.now.items c.run_line.new.self c.run_line.new.out.items c.self.view_is refl
    c.as_slice.ensures.value c.if-is_empty.ensures c.deref.ensures.value (c.run_line.ensures.refused said is)

pub returns-clause-full : goal.returns-clause-full
returns-clause-full g c is =
    finish_filled g.M.Machine.meaning g.met.M.Machine.laws c.args.self.now _ c.as_slice.result.now c.deref.result.now c.args.out.now.items c.run_line.new.self c.run_line.new.out.items c.self.view_is
    c.as_slice.ensures.value c.if-is_empty.ensures c.deref.ensures.value (c.run_line.ensures.full is)

pub returns-clause-ok : goal.returns-clause-ok
returns-clause-ok g c =
    on_ok c.run_line.result (finish_line g.M.Machine.meaning g.met.M.Machine.laws c.args.self.now _ c.as_slice.result.now c.deref.result.now c.args.out.now.items c.run_line.new.self c.run_line.new.out.items c.self.view_is
    c.as_slice.ensures.value c.if-is_empty.ensures c.deref.ensures.value) c.run_line.ensures.ok
