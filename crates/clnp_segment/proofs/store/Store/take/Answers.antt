use Rattle.std.proofs.Common.{◌≡◌, Some, None, subst, sym, ◌∙◌}
use Rattle.std.proofs.lemmas.Result.{IfOk-weaker}
use Rattle.std.specs.List.{position}
use Rattle.clnp_header.specs.declared.pdu.SegmentPart.{SegmentPart}
use Rattle.clnp_segment.specs.Store.{Holding, Takes, coming_of, has_key}
use Rattle.clnp_segment.proofs.Taking.{takes_first, takes_more}
use Rattle.clnp_segment.proofs.store.Store.take.Goals as goal

same_part : (x y : SegmentPart) → Some x ≡ Some y → x ≡ y
same_part x y e = cc e

pub returns-in-Some-clause-takes : goal.returns-in-Some-clause-takes
returns-in-Some-clause-takes c =
    let before : Holding = record { clock = c.self.inside.clock; units = c.self.inside.units; octets = c.self.inside.octets; held = c.self.inside.held.items } in
    let coming = coming_of c.args.pdu.now c.unwrap-part.result c.args.left c.args.reportable in
    let found : position (has_key coming.key) before.held ≡ Some c.in-Some.place = sym c.place_of.ensures ∙ c.in-Some.is in
    IfOk-weaker c.take_more.result _ _ (λ answer h part is.
    subst (λ (p : SegmentPart). Takes c.args.self.now c.args.now (coming_of c.args.pdu.now p c.args.left c.args.reportable) answer c.take_more.new.self)
    (same_part c.unwrap-part.result part (sym c.unwrap-part.ensures ∙ is))
    (subst (λ (s : Holding). Takes s c.args.now coming answer c.take_more.new.self) c.self.view_is
    (takes_more before c.args.now coming c.in-Some.place answer c.take_more.new.self found h))) c.take_more.ensures.takes

pub returns-in-None-clause-takes : goal.returns-in-None-clause-takes
returns-in-None-clause-takes c =
    let before : Holding = record { clock = c.self.inside.clock; units = c.self.inside.units; octets = c.self.inside.octets; held = c.self.inside.held.items } in
    let coming = coming_of c.args.pdu.now c.unwrap-part.result c.args.left c.args.reportable in
    let none : position (has_key coming.key) before.held ≡ None = sym c.place_of.ensures ∙ c.in-None.is in
    IfOk-weaker c.take_first.result _ _ (λ answer h part is.
    subst (λ (p : SegmentPart). Takes c.args.self.now c.args.now (coming_of c.args.pdu.now p c.args.left c.args.reportable) answer c.take_first.new.self)
    (same_part c.unwrap-part.result part (sym c.unwrap-part.ensures ∙ is))
    (subst (λ (s : Holding). Takes s c.args.now coming answer c.take_first.new.self) c.self.view_is
    (takes_first before c.args.now coming answer c.take_first.new.self none h))) c.take_first.ensures.takes
