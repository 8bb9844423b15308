use Rattle.std.proofs.Common.{◌<◌, ◌-◌, ◌∙◌, ◌++◌, ap, sym, subst, replicate, List, Option, None, arith}
use Rattle.lan_step.specs.Frames.{Frame, marked_at}
use Rattle.lan_bag.specs.steps.Store.{IsStored}
use Rattle.lan_bag.proofs.Stored.{slot_stored, number_marked}
use Rattle.lan_bag.proofs.frame_store.FrameStore.mark.Goals as goal

pub invariant_of-self-2 : goal.invariant_of-self-2
invariant_of-self-2 c =
    subst (λ (slots : List (Option Frame)). IsStored c.self.inside.gone slots c.self.inside.live) (sym c.in_ok-mark_slot.ensures.ok)
    (slot_stored c.self.inside.gone c.self.inside.live (c.args.number - 1 - c.self.inside.gone) c.args.system c.self.inside.slots.items c.self.invariant)

pub returns-clause-ok : goal.returns-clause-ok
returns-clause-ok c =
    let lt : c.self.inside.gone < c.args.number = omega (arith, c.if-number-self.false) in
    ap (λ (slots : List (Option Frame)). replicate c.self.inside.gone None ++ slots) c.in_ok-mark_slot.ensures.ok
    ∙ (number_marked c.self.inside.gone c.args.number c.args.system c.self.inside.slots.items lt
    ∙ ap (λ (frames : List (Option Frame)). marked_at frames c.args.number c.args.system) c.self.view_is)
