use Rattle.std.proofs.Common.{◌+◌, ◌≤◌, ◌∙◌, sym, arith}
use Rattle.std.proofs.lemmas.Grind.{common_steps}
use Rattle.osi_base.proofs.Young.{young_front}
use Rattle.inactive_net.proofs.afloat.drop_front.Goals as goal

pub returns-then-not-is_older-clause-rest : goal.returns-then-not-is_older-clause-rest
returns-then-not-is_older-clause-rest c =
    let young : c.args.now ≤ c.in-Some.front.now.0 + c.args.age = grind (arith, common_steps) in
    sym (young_front c.args.now c.args.age c.loop-front.entries.items c.in-Some.front.now c.in-Some.ensures.lookup young c.loop-front.invariant.ordered) ∙ c.loop-front.invariant.same
