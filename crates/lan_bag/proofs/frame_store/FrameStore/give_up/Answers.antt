use Rattle.std.proofs.Common.{◌∙◌, ◌≤◌, length, sym, subst, arith, List, ℕ}
use Rattle.std.proofs.Math.ListN.{drop_of_length-le}
use Rattle.lan_bag.specs.steps.Wheel.{AreLateAmong}
use Rattle.lan_bag.proofs.Wheels.{one_given_up, none_late}
use Rattle.lan_bag.proofs.frame_store.FrameStore.give_up.Goals as goal

pub loop-place-preserved : goal.loop-place-preserved
loop-place-preserved c =
    let step = one_given_up c.args.clock c.args.setup.now.lans c.args.self.now c.loop-place.self c.give_up_at.new.self c.args.places.now c.loop-place.place-index
    c.loop-place-test.true c.give_up_at.ensures c.loop-place.invariant.among c.loop-place.invariant.same in
    record { among = step.0; same = step.1 }

pub returns : goal.returns
returns c =
    let past : length c.args.places.now ≤ c.loop-place.place-index = omega (arith, c.loop-place-test.false) in
    let none = subst (λ (places : List ℕ). AreLateAmong c.args.clock c.args.setup.now.lans places c.loop-place.self) (drop_of_length-le c.args.places.now past) c.loop-place.invariant.among in
    c.trim.ensures ∙ (sym (none_late c.args.clock c.args.setup.now.lans c.loop-place.self none) ∙ c.loop-place.invariant.same)
