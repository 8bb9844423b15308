use Rattle.std.proofs.Common.{◌≡◌, ◌∙◌, ℕ, ◌+◌, ◌<◌, ◌++◌, ap, ◌∷◌, [], List, length, length-append, Option, Some, refl, sym, subst}
use Rattle.osi_base.specs.declared.unit.Offered.TheVariants.{Taken as WasTaken}
use Rattle.lan_step.specs.Frames.{Frame}
use Rattle.lan_step.specs.Offers.{offered}
use Rattle.lan_bag.specs.steps.Openings.{IsFreshAt}
use Rattle.lan_bag.specs.steps.Wheel.{listed}
use Rattle.lan_step.specs.Bag.{Bag}
use Rattle.std.specs.BTreeSet.{contains}
use Rattle.std.specs.Ordering.{nat_cmp}
use Rattle.lan_bag.proofs.Indices.{indexed_below, indexed_pushed, indexed_same}
use Rattle.lan_bag.proofs.Offers.{taken_fits, bounds_fit}
use Rattle.lan_bag.proofs.Openings.{closed_pushed, closed_same, fresh_pushed, fresh_same, pushed_is}
use Rattle.lan_bag.proofs.Wheels.{due_listed, due_offered, due_same}
use Rattle.lan_bag.proofs.bag.LanBag.keep.Goals as goal

pub tell-requires : goal.tell-requires
tell-requires c =
    taken_fits c.self.inside.setup.lans c.self.inside.setup.rows c.self.inside.frames c.args.unit
    (subst (λ (bag : Bag). WasTaken ≡ offered bag.lans bag.rows bag.frames c.args.unit) (sym c.self.view_is) c.requires.taken)
    c.self.invariant.lans_fit

pub open_with-self-inside-requires-clause-closed : goal.open_with-self-inside-requires-clause-closed
open_with-self-inside-requires-clause-closed c =
    closed_same c.self.inside.clock c.self.inside.setup.lans c.self.inside.setup.rows (c.self.inside.frames ++ Some c.in_ok-sent.sent ∷ []) c.push.new.self c.self.inside.fresh.place
    (closed_pushed c.self.inside.clock c.self.inside.setup.lans c.self.inside.setup.rows c.self.inside.frames c.self.inside.fresh.place (Some c.in_ok-sent.sent) c.self.invariant.fresh.first)
    c.in_ok-push.ensures.ok

pub open_with-self-inside-requires-clause-others : goal.open_with-self-inside-requires-clause-others
open_with-self-inside-requires-clause-others c other =
    fresh_same c.self.inside.clock c.self.inside.setup.lans c.self.inside.setup.rows (c.self.inside.frames ++ Some c.in_ok-sent.sent ∷ []) c.push.new.self c.self.inside.fresh.place c.self.inside.fresh.pair
    (fresh_pushed c.self.inside.clock c.self.inside.setup.lans c.self.inside.setup.rows c.self.inside.frames c.self.inside.fresh.place (c.count-place.result + 1) c.self.inside.fresh.pair (Some c.in_ok-sent.sent) c.self.invariant.fresh other (ap (λ (n : ℕ). n + 1) c.count-place.ensures))
    c.in_ok-push.ensures.ok

pub open_with-self-inside-requires-clause-last : goal.open_with-self-inside-requires-clause-last
open_with-self-inside-requires-clause-last c =
    ap length c.in_ok-push.ensures.ok ∙ (length-append c.self.inside.frames (Some c.in_ok-sent.sent ∷ []) ∙ ap (λ (n : ℕ). n + 1) (sym c.count-place.ensures))

pub open_with-self-inside-requires-clause-to : goal.open_with-self-inside-requires-clause-to
open_with-self-inside-requires-clause-to c frame at =
    ap (λ (f : Frame). f.unit.to)
    (pushed_is c.self.inside.frames c.push.new.self c.in_ok-sent.sent (c.count-place.result + 1) c.in_ok-push.ensures.ok (ap (λ (n : ℕ). n + 1) c.count-place.ensures) frame at ∙ c.in_ok-sent.ensures)

pub invariant_of-self-in_err-push : goal.invariant_of-self-in_err-push
invariant_of-self-in_err-push c = record {
  lans_fit = c.self.invariant.lans_fit;
  strays = c.self.invariant.strays;
  fresh = subst (λ (frames : List (Option Frame)). IsFreshAt c.self.inside.clock c.self.inside.setup.lans c.self.inside.setup.rows frames c.self.inside.fresh.place c.self.inside.fresh.pair) (sym c.in_err-push.ensures.err) c.self.invariant.fresh;
  due = due_same c.self.inside.clock c.self.inside.setup.lans c.self.inside.frames c.push.new.self (listed c.self.inside.wheel c.bound.result c.count-place.result) c.list.new.self
      (due_listed c.self.inside.clock c.self.inside.setup.lans c.self.inside.frames c.self.inside.wheel c.bound.result c.count-place.result c.self.invariant.due)
      c.in_err-push.ensures.err c.in_ok-list.ensures.ok;
  indexed = λ wanted. indexed_same (contains nat_cmp c.self.inside.index.codes) c.self.inside.frames c.push.new.self c.in_err-push.ensures.err (c.self.invariant.indexed wanted);
}

pub invariant_of-self-in_err-sent : goal.invariant_of-self-in_err-sent
invariant_of-self-in_err-sent c = record {
  lans_fit = c.self.invariant.lans_fit;
  strays = c.self.invariant.strays;
  fresh = c.self.invariant.fresh;
  due = due_same c.self.inside.clock c.self.inside.setup.lans c.self.inside.frames c.self.inside.frames (listed c.self.inside.wheel c.bound.result c.count-place.result) c.list.new.self
      (due_listed c.self.inside.clock c.self.inside.setup.lans c.self.inside.frames c.self.inside.wheel c.bound.result c.count-place.result c.self.invariant.due)
      refl c.in_ok-list.ensures.ok;
  indexed = c.self.invariant.indexed;
}

pub invariant_of-self-2 : goal.invariant_of-self-2
invariant_of-self-2 c = record {
  lans_fit = c.self.invariant.lans_fit;
  strays = c.self.invariant.strays;
  fresh = c.open_with-self-inside.ensures;
  due = due_offered c.self.inside.clock c.self.inside.setup.lans c.self.inside.frames c.push.new.self c.self.inside.wheel c.list.new.self c.in_ok-sent.sent c.args.unit c.bound.result c.count-place.result
      c.self.invariant.due c.in_ok-sent.ensures c.bound.ensures c.count-place.ensures
      (subst (λ (bound : ℕ). bound < 17) (sym c.bound.ensures) (bounds_fit c.self.inside.setup.lans c.args.unit.to.lan c.self.invariant.lans_fit))
      c.list.ensures.span c.in_ok-list.ensures.ok c.in_ok-push.ensures.ok;
  indexed = λ wanted.
      indexed_pushed (contains nat_cmp c.enlist-listed.new.self.codes) c.self.inside.frames c.push.new.self c.in_ok-sent.sent c.count-place.result c.count-place.ensures c.in_ok-push.ensures.ok
      (c.enlist-listed.ensures.indexed
      (λ was. indexed_below (contains nat_cmp c.self.inside.index.codes) c.self.inside.frames c.push.new.self c.in_ok-sent.sent c.count-place.result c.count-place.ensures c.in_ok-push.ensures.ok
      (c.self.invariant.indexed was)) wanted);
}
