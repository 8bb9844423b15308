use Rattle.std.proofs.Common.{◌∙◌, ◌++◌, ap, sym, arith, replicate, List, Option, None}
use Rattle.lan_step.specs.Frames.{Frame}
use Rattle.lan_bag.specs.steps.Wheel.{given_up_at}
use Rattle.lan_bag.proofs.Stored.{place_given_up, gone_given_up}
use Rattle.lan_bag.proofs.frame_store.FrameStore.give_up_at.Goals as goal

pub returns-then-place-self : goal.returns-then-place-self
returns-then-place-self c =
    sym c.self.view_is
    ∙ (gone_given_up c.args.clock c.args.setup.now.lans c.self.inside.gone c.args.place c.self.inside.slots.items (omega (arith, c.if-place-self.true))
    ∙ ap (λ (frames : List (Option Frame)). given_up_at c.args.clock c.args.setup.now.lans frames c.args.place) c.self.view_is)

pub returns-then-empty_late : goal.returns-then-empty_late
returns-then-empty_late c =
    ap (λ (slots : List (Option Frame)). replicate c.self.inside.gone None ++ slots) c.empty_late.ensures.slots
    ∙ (place_given_up c.args.clock c.args.setup.now.lans c.self.inside.gone c.args.place c.self.inside.slots.items (omega (arith, c.if-place-self.false))
    ∙ ap (λ (frames : List (Option Frame)). given_up_at c.args.clock c.args.setup.now.lans frames c.args.place) c.self.view_is)

pub returns-else-empty_late : goal.returns-else-empty_late
returns-else-empty_late c =
    ap (λ (slots : List (Option Frame)). replicate c.self.inside.gone None ++ slots) c.empty_late.ensures.slots
    ∙ (place_given_up c.args.clock c.args.setup.now.lans c.self.inside.gone c.args.place c.self.inside.slots.items (omega (arith, c.if-place-self.false))
    ∙ ap (λ (frames : List (Option Frame)). given_up_at c.args.clock c.args.setup.now.lans frames c.args.place) c.self.view_is)
