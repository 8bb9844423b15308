use Rattle.std.proofs.Common.{◌≡◌, ℕ, List, Option, ap, count_by, drop, is_none, length, take, ◌∙◌, arith}
use Rattle.clnp_segment.proofs.Coming.{come_clash, come_exchanged}
use Rattle.clnp_segment.proofs.runs.Runs.fresh.Goals as goal

pub returns-then-any_differs-clause-clash : goal.returns-then-any_differs-clause-clash
returns-then-any_differs-clause-clash c =
    come_clash c.self.inside c.args.self.now c.args.at c.args.octets.now c.meet-met.result c.self.view_is c.self.invariant c.meet-met.ensures.met c.requires c.any_differs.result c.any_differs.ensures
    ∙ c.if-any_differs.true

pub overflow_sub-result : goal.overflow_sub-result
overflow_sub-result c =
    let x = come_exchanged c.self.inside c.args.self.now c.args.at c.args.octets.now c.meet-met.result c.self.view_is c.self.invariant c.meet-met.ensures.met c.requires (omega (arith, c.if-count-eq0.false)) in
    x.above

pub overflow_sub-result-2 : goal.overflow_sub-result-2
overflow_sub-result-2 c =
    let x = come_exchanged c.self.inside c.args.self.now c.args.at c.args.octets.now c.meet-met.result c.self.view_is c.self.invariant c.meet-met.ensures.met c.requires (omega (arith, c.if-count-eq0.false)) in
    x.order

pub returns-clause-clash : goal.returns-clause-clash
returns-clause-clash c =
    come_clash c.self.inside c.args.self.now c.args.at c.args.octets.now c.meet-met.result c.self.view_is c.self.invariant c.meet-met.ensures.met c.requires c.any_differs.result c.any_differs.ensures
    ∙ c.if-any_differs.false

pub returns-clause-empty : goal.returns-clause-empty
returns-clause-empty c =
    let x = come_exchanged c.self.inside c.args.self.now c.args.at c.args.octets.now c.meet-met.result c.self.view_is c.self.invariant c.meet-met.ensures.met c.requires (omega (arith, c.if-count-eq0.false)) in
    x.fresh
    ∙ ap (λ (slots : List (Option ℕ)). count_by (is_none {T = ℕ}) (take (length c.args.octets.now) (drop c.args.at slots))) c.self.view_is
