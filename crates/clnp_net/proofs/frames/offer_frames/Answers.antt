use Rattle.std.proofs.Common.{◌∙◌, ◌++◌, ◌∷◌, [], ap, append_assoc, List, sym}
use Rattle.clnp_system.specs.Node.{Frame}
use Rattle.clnp_net.proofs.Parts.{offers_more, tells_on}
use Rattle.clnp_net.proofs.frames.offer_frames.Goals as goal

pub loop-frame-preserved : goal.loop-frame-preserved
loop-frame-preserved g c = (
  append_assoc c.loop-frame.yielded (c.in-Some.frame ∷ []) c.next.new.self.rest.items
      ∙ ap (λ (xs : List Frame). c.loop-frame.yielded ++ xs) (sym c.in-Some.ensures.steps.0) ∙ c.loop-frame.invariant.0,
  tells_on _ _ _ _ _ _ c.loop-frame.invariant.1 c.in_ok-offer_frame.ensures
      (λ one two a b. offers_more g.C.Carrier.link g.C.Carrier.steps _ c.args.system c.loop-frame.yielded c.loop-frame.link one c.in-Some.frame c.offer_frame.new.link two a b),
)
