use Rattle.std.proofs.Common.{arith}
use Rattle.clnp_options.proofs.Moves.{moves, moved_is}
use Rattle.clnp_options.proofs.source_route.advance_source.Goals as goal

pub overflow_add-value : goal.overflow_add-value
overflow_add-value c =
    let there = moves c.args.value.now c.requires in
    rw c.from.ensures (omega (arith, there.1.length_there, there.1.within))

pub overflow_add-value-2 : goal.overflow_add-value-2
overflow_add-value-2 c =
    let there = moves c.args.value.now c.requires in
    rw c.from.ensures (omega (arith, there.1.length_there, there.1.within))

pub returns-clause-moved : goal.returns-clause-moved
returns-clause-moved c = λ route is. rw c.from.ensures (moved_is c.args.value.now route c.requires is)
