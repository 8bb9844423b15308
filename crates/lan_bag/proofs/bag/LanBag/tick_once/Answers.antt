use Rattle.std.proofs.Common.{◌+◌, ◌∙◌, map, List, Option, slice_get, subst, sym}
use Rattle.std.specs.Prelude.{IsSome}
use Rattle.lan_step.specs.Frames.{Frame, kept, kept_at}
use Rattle.lan_bag.specs.steps.Wheel.{list_at, turned}
use Rattle.std.specs.BTreeSet.{contains}
use Rattle.std.specs.Ordering.{nat_cmp}
use Rattle.lan_bag.proofs.Indices.{indexed_same, indexed_ticked}
use Rattle.lan_bag.proofs.Openings.{closed_ticked, closed_same, fresh_ticked, fresh_same}
use Rattle.lan_bag.proofs.Wheels.{due_ticked, due_same, late_listed, late_same}
use Rattle.lan_bag.proofs.bag.LanBag.tick_once.Goals as goal

pub fresh_while_live-self-inside-requires-clause-closed : goal.fresh_while_live-self-inside-requires-clause-closed
fresh_while_live-self-inside-requires-clause-closed c =
    closed_same (c.self.inside.clock + 1) c.self.inside.setup.lans c.self.inside.setup.rows (map (kept_at (c.self.inside.clock + 1) c.self.inside.setup.lans) c.self.inside.frames) c.give_up.new.self c.self.inside.fresh.place
    (closed_ticked c.self.inside.clock c.self.inside.setup.lans c.self.inside.setup.rows c.self.inside.frames c.self.inside.fresh.place c.self.invariant.fresh.first)
    c.give_up.ensures

pub fresh_while_live-self-inside-requires-clause-stands : goal.fresh_while_live-self-inside-requires-clause-stands
fresh_while_live-self-inside-requires-clause-stands c some =
    let late : List (Option Frame) = map (kept_at (c.self.inside.clock + 1) c.self.inside.setup.lans) c.self.inside.frames in
    fresh_same (c.self.inside.clock + 1) c.self.inside.setup.lans c.self.inside.setup.rows late c.give_up.new.self c.self.inside.fresh.place c.self.inside.fresh.pair
    (fresh_ticked c.self.inside.clock c.self.inside.setup.lans c.self.inside.setup.rows c.self.inside.frames c.self.inside.fresh.place c.self.inside.fresh.pair c.self.invariant.fresh
    (subst (λ (frames : List (Option Frame)). IsSome (kept (slice_get frames c.self.inside.fresh.place))) c.give_up.ensures some))
    c.give_up.ensures

pub give_up-requires : goal.give_up-requires
give_up-requires c =
    late_same (c.self.inside.clock + 1) c.self.inside.setup.lans (list_at c.self.inside.wheel 0) c.deref-2.result.now c.self.inside.frames
    (late_listed c.self.inside.clock c.self.inside.setup.lans c.self.inside.frames c.self.inside.wheel c.self.invariant.due)
    (c.deref-2.ensures.value ∙ c.turn-due.ensures.due)

pub invariant_of-self : goal.invariant_of-self
invariant_of-self c = record {
  lans_fit = c.self.invariant.lans_fit;
  strays = c.self.invariant.strays;
  fresh = c.fresh_while_live-self-inside.ensures;
  due = due_same (c.self.inside.clock + 1) c.self.inside.setup.lans (map (kept_at (c.self.inside.clock + 1) c.self.inside.setup.lans) c.self.inside.frames) c.give_up.new.self (turned c.self.inside.wheel) c.keep_room.new.self
      (due_ticked c.self.inside.clock c.self.inside.setup.lans c.self.inside.frames c.self.inside.wheel c.self.invariant.due)
      c.give_up.ensures (c.keep_room.ensures ∙ c.turn-due.ensures.rest);
  indexed = λ wanted. indexed_same (contains nat_cmp c.delist.new.self.codes) (map (kept_at (c.self.inside.clock + 1) c.self.inside.setup.lans) c.self.inside.frames) c.give_up.new.self c.give_up.ensures
      (c.delist.ensures.codes (sym c.delist.ensures.wanted ∙ wanted)
      (indexed_ticked (contains nat_cmp c.self.inside.index.codes) (c.self.inside.clock + 1) c.self.inside.setup.lans c.self.inside.frames (c.self.invariant.indexed (sym c.delist.ensures.wanted ∙ wanted))));
}
