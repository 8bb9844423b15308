use Rattle.std.proofs.Common.{◌≤◌, length, subst, option_copied, Option, Some, None, ℕ, arith}
use Rattle.lan_step.specs.Frames.{Frame}
use Rattle.lan_bag.specs.steps.Openings.{IsLeastAt}
use Rattle.lan_bag.proofs.Openings.{closed_more, fresh_here, fresh_nowhere}
use Rattle.lan_bag.proofs.next_delivery.first_fresh.Goals as goal

pub returns-in-Some : goal.returns-in-Some
returns-in-Some c =
    fresh_here c.args.clock c.args.setup.now.lans c.args.setup.now.rows c.args.frames.now c.loop-place.place c.in-Some.system
    (omega (arith, c.loop-place-test.true, c.count.ensures)) c.loop-place.invariant.before
    (subst (λ (slot : Option Frame). IsLeastAt c.args.clock c.args.setup.now.lans c.args.setup.now.rows slot (Some c.in-Some.system)) c.at.ensures.frame c.in-Some.ensures)

pub loop-place-preserved : goal.loop-place-preserved
loop-place-preserved c = record {
  within = omega (arith, c.loop-place-test.true, c.count.ensures);
  before = closed_more c.args.clock c.args.setup.now.lans c.args.setup.now.rows c.args.frames.now c.loop-place.place c.loop-place.invariant.before
      (subst (λ (slot : Option Frame). IsLeastAt c.args.clock c.args.setup.now.lans c.args.setup.now.rows slot None) c.at.ensures.frame
      (subst (λ (least : Option ℕ). IsLeastAt c.args.clock c.args.setup.now.lans c.args.setup.now.rows (option_copied c.at.result) least) c.in_default.is c.first_system_at.ensures));
}

pub returns : goal.returns
returns c =
    let past : length c.args.frames.now ≤ c.loop-place.place = omega (arith, c.loop-place-test.false, c.count.ensures) in
    fresh_nowhere c.args.clock c.args.setup.now.lans c.args.setup.now.rows c.args.frames.now c.loop-place.place c.loop-place.invariant.within past c.loop-place.invariant.before
