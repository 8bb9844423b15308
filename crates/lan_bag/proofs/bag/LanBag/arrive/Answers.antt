use Rattle.std.proofs.Common.{◌≡◌, ◌∙◌, ap, refl, subst, sym}
use Rattle.std.specs.Prelude.{option_copied}
use Rattle.osi_base.specs.declared.unit.Picked.TheVariants.{Taken as WasPicked}
use Rattle.lan_step.specs.Bag.{Bag, picked_in}
use Rattle.lan_step.specs.Frames.{marked_at}
use Rattle.std.specs.BTreeSet.{contains}
use Rattle.std.specs.Ordering.{nat_cmp}
use Rattle.lan_bag.proofs.Indices.{indexed_marked, indexed_same}
use Rattle.lan_bag.proofs.Openings.{closed_marked, closed_same, fresh_marked, fresh_same}
use Rattle.lan_bag.proofs.Picks.{picked_there}
use Rattle.lan_bag.proofs.Wheels.{due_marked, due_same}
use Rattle.lan_bag.proofs.bag.LanBag.arrive.Goals as goal

pub unreachable-requires : goal.unreachable-requires
unreachable-requires c =
    picked_there c.self.inside.clock c.self.inside.setup.lans c.self.inside.setup.rows c.self.inside.frames c.args.pick c.args.system
    (subst (λ (bag : Bag). WasPicked ≡ picked_in bag c.args.pick c.args.system) (sym c.self.view_is) c.requires.taken)
    (sym c.get.ensures ∙ ap option_copied c.in_default.is)

pub fresh_after-self-inside-requires-clause-closed : goal.fresh_after-self-inside-requires-clause-closed
fresh_after-self-inside-requires-clause-closed c =
    closed_same c.self.inside.clock c.self.inside.setup.lans c.self.inside.setup.rows (marked_at c.self.inside.frames c.args.pick c.args.system) c.mark.new.self c.self.inside.fresh.place
    (closed_marked c.self.inside.clock c.self.inside.setup.lans c.self.inside.setup.rows c.self.inside.frames c.self.inside.fresh.place c.args.pick c.args.system c.self.invariant.fresh.first)
    c.in_ok-mark.ensures.ok

pub fresh_after-self-inside-requires-clause-others : goal.fresh_after-self-inside-requires-clause-others
fresh_after-self-inside-requires-clause-others c other =
    fresh_same c.self.inside.clock c.self.inside.setup.lans c.self.inside.setup.rows (marked_at c.self.inside.frames c.args.pick c.args.system) c.mark.new.self c.self.inside.fresh.place c.self.inside.fresh.pair
    (fresh_marked c.self.inside.clock c.self.inside.setup.lans c.self.inside.setup.rows c.self.inside.frames c.self.inside.fresh.place c.args.pick c.args.system c.self.inside.fresh.pair c.self.invariant.fresh other)
    c.in_ok-mark.ensures.ok

pub invariant_of-self-2 : goal.invariant_of-self-2
invariant_of-self-2 c = record {
  lans_fit = c.self.invariant.lans_fit;
  strays = c.self.invariant.strays;
  fresh = c.fresh_after-self-inside.ensures;
  due = due_same c.self.inside.clock c.self.inside.setup.lans (marked_at c.self.inside.frames c.args.pick c.args.system) c.mark.new.self c.self.inside.wheel c.self.inside.wheel
      (due_marked c.self.inside.clock c.self.inside.setup.lans c.self.inside.frames c.self.inside.wheel c.args.pick c.args.system c.self.invariant.due)
      c.in_ok-mark.ensures.ok refl;
  indexed = λ wanted. indexed_same (contains nat_cmp c.self.inside.index.codes) (marked_at c.self.inside.frames c.args.pick c.args.system) c.mark.new.self c.in_ok-mark.ensures.ok
      (indexed_marked (contains nat_cmp c.self.inside.index.codes) c.self.inside.frames c.args.pick c.args.system (c.self.invariant.indexed wanted));
}
