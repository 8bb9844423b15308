use Rattle.std.proofs.Common.{List, ℕ, subst}
use Rattle.line_loop.specs.Meaning.{HasRefused}
use Rattle.line_loop.proofs.Returns.{line_here, line_joined}
use Rattle.line_loop.proofs.feed.run_joined.Goals as goal

pub returns-then-is_empty-clause-refused : goal.returns-then-is_empty-clause-refused
returns-then-is_empty-clause-refused g c said is =
    subst (λ (line : List ℕ). HasRefused g.M.Machine.meaning c.args.machine.now line said c.args.out.now.items c.run_line.new.self c.run_line.new.out.items)
    (line_here c.args.held.now.items c.as_slice.result.now c.args.part.now c.without_return.result.now c.as_slice.ensures.value c.if-is_empty.ensures c.without_return.ensures)
    (c.run_line.ensures.refused said is)

pub returns-clause-refused : goal.returns-clause-refused
returns-clause-refused g c said is =
    subst (λ (line : List ℕ). HasRefused g.M.Machine.meaning c.args.machine.now line said c.args.out.now.items c.run_line-2.new.self c.run_line-2.new.out.items)
    (line_joined c.args.held.now.items c.extend_from_slice.new.self.items c.deref.result.now c.args.part.now c.without_return-2.result.now c.in-Ok.ensures.items c.deref.ensures.value c.without_return-2.ensures)
    (c.run_line-2.ensures.refused said is)
