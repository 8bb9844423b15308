use Rattle.std.proofs.Common.{◌≡◌, ℕ, ◌+◌, ◌-◌, List, subst, sym, arith}
use Rattle.clnp_segment.specs.declared.runs.Run.{Run}
use Rattle.clnp_segment.specs.steps.Spans.{AreRuns}
use Rattle.clnp_segment.proofs.Coming.{come_exchanged, come_kept, come_written}
use Rattle.clnp_segment.proofs.Meetings.{few}
use Rattle.clnp_segment.proofs.runs.Runs.write.Goals as goal

pub invariant_of-self : goal.invariant_of-self
invariant_of-self c =
    subst (λ (xs : List Run). AreRuns xs c.self.inside.total c.self.inside.count) (sym c.in_err-join.ensures.err) c.self.invariant

pub overflow_sub-self : goal.overflow_sub-self
overflow_sub-self c =
    let x = come_exchanged c.self.inside c.args.self.now c.args.at c.args.octets.now c.meet-met.result c.self.view_is c.self.invariant c.meet-met.ensures.met c.requires (omega (arith, c.if-count-eq0.false)) in
    x.enough

pub overflow_sub-self-2 : goal.overflow_sub-self-2
overflow_sub-self-2 c =
    let x = come_exchanged c.self.inside c.args.self.now c.args.at c.args.octets.now c.meet-met.result c.self.view_is c.self.invariant c.meet-met.ensures.met c.requires (omega (arith, c.if-count-eq0.false)) in
    x.above

pub overflow_add-self : goal.overflow_add-self
overflow_add-self c =
    let x = come_exchanged c.self.inside c.args.self.now c.args.at c.args.octets.now c.meet-met.result c.self.view_is c.self.invariant c.meet-met.ensures.met c.requires (omega (arith, c.if-count-eq0.false)) in
    omega (arith, few _ c.self.inside.total (c.self.inside.count - c.meet-met.result.held + (c.meet-met.result.end - c.meet-met.result.start)) x.kept)

pub invariant_of-self-2 : goal.invariant_of-self-2
invariant_of-self-2 c =
    come_kept c.self.inside c.args.self.now c.args.at c.args.octets.now c.meet-met.result c.self.view_is c.self.invariant c.meet-met.ensures.met c.requires c.join.new.runs.items c.in_ok-join.ensures.ok
    (omega (arith, c.if-count-eq0.false))

pub returns-clause-ok : goal.returns-clause-ok
returns-clause-ok c =
    come_written c.self.inside c.args.self.now c.args.at c.args.octets.now c.meet-met.result c.self.view_is c.self.invariant c.meet-met.ensures.met c.requires c.join.new.runs.items c.in_ok-join.ensures.ok
