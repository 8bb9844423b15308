use Rattle.std.proofs.Common.{◌<◌, ◌∙◌, refl, ap, set, length, Option, arith}
use Rattle.std.proofs.lemmas.Result.{on_ok_weaker}
use Rattle.lan_step.specs.Frames.{Frame}
use Rattle.lan_bag.specs.steps.Store.{marked_in}
use Rattle.lan_bag.proofs.Stored.{slot_marked}
use Rattle.lan_bag.proofs.frame_store.mark_slot.Goals as goal

pub returns-in-Some-clause-ok : goal.returns-in-Some-clause-ok
returns-in-Some-clause-ok c =
    let lt : c.args.index < length c.args.slots.now.items = omega (arith, c.in-Some.ensures.variant.0 refl, c.args.slots.now.ok.0) in
    on_ok_weaker c.mark_sent.result
    (λ is.
    ap (λ (slot : Option Frame). set c.args.slots.now.items c.args.index slot) (is ∙ ap (λ (slot : Option Frame). marked_in slot c.args.system) c.in-Some.ensures.value)
    ∙ slot_marked c.args.slots.now.items c.args.index c.in-Some.slot.now c.args.system lt)
    c.mark_sent.ensures.ok
