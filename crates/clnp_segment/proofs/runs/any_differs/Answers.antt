use Rattle.std.proofs.Common.{Bool, MatchBool, subst, arith}
use Rattle.clnp_segment.specs.steps.Spans.{Agree}
use Rattle.clnp_segment.proofs.Clashes.{agree_at, agree_next, agree_none}
use Rattle.clnp_segment.proofs.runs.any_differs.Goals as goal

pub loop-place-init : goal.loop-place-init
loop-place-init c = λ r start octets. agree_none r c.args.runs.now.items c.args.first

pub returns-then-differs : goal.returns-then-differs
returns-then-differs c = λ r start octets all.
    let x = c.index.result.now in
    let clash : Agree r x → ⊥ = subst (λ (b : Bool). MatchBool b (Agree r x → ⊥) (Agree r x)) c.if-differs.true (c.differs.ensures r start octets) in
    clash (agree_at r c.args.runs.now.items c.args.first c.args.last c.loop-place.place x (omega arith) (omega arith) c.requires.within c.index.ensures all)

pub loop-place-preserved : goal.loop-place-preserved
loop-place-preserved c = λ r start octets.
    let x = c.index.result.now in
    let agree : Agree r x = subst (λ (b : Bool). MatchBool b (Agree r x → ⊥) (Agree r x)) c.if-differs.false (c.differs.ensures r start octets) in
    agree_next r c.args.runs.now.items c.args.first c.loop-place.place x (omega arith) (omega (arith, c.requires.within)) c.index.ensures (c.loop-place.invariant r start octets) agree
