use Rattle.std.proofs.Common.{◌∙◌, sym}
use Rattle.osi_base.specs.Calls.{Offer}
use Rattle.inactive_step.proofs.Kept.{stays_sound}
use Rattle.inactive_net.proofs.Calls.{network_of, offer_long, offer_sent, past_all}
use Rattle.inactive_net.proofs.net.InactiveNet.offer_unit.Goals as goal

pub returns-then-is_too_long : goal.returns-then-is_too_long
returns-then-is_too_long g c = rw (← c.self.view_is) (
  c.self.invariant c.in_ok-go_on.ensures,
  offer_long g.C.Carrier.link g.C.Carrier.steps (network_of c.self.inside.link c.self.inside.rows c.self.inside.floating c.self.inside.waiting.items c.self.inside.strays) c.args.unit c.in-Some.way (sym c.way.ensures ∙ c.in-Some.is) (sym c.is_too_long.ensures ∙ c.if-is_too_long.true),
)

pub keep-requires : goal.keep-requires
keep-requires g c = past_all c.self.inside.floating _ c.now-now.result c.now-now.ensures (c.self.invariant c.in_ok-go_on.ensures).past

pub invariant_of-self-2 : goal.invariant_of-self-2
invariant_of-self-2 g c = λ _.
    stays_sound g.C.Carrier.link g.C.Carrier.steps g.met.C.Carrier.keeps (network_of c.self.inside.link c.self.inside.rows c.self.inside.floating c.self.inside.waiting.items c.self.inside.strays) (Offer c.args.unit c.args.wish c.in_ok-answer.answer) _ (c.self.invariant c.in_ok-go_on.ensures) (
      c.self.invariant c.in_ok-go_on.ensures,
      offer_sent g.C.Carrier.link g.C.Carrier.steps (network_of c.self.inside.link c.self.inside.rows c.self.inside.floating c.self.inside.waiting.items c.self.inside.strays) c.args.unit c.in-Some.way c.in_ok-frame.frame c.in_ok-answer.answer c.now-now.result c.offer.new.self c.read_all.new.link
          c.read_all.new.waiting.items c.keep.new.floating (sym c.way.ensures ∙ c.in-Some.is) (sym c.is_too_long.ensures ∙ c.if-is_too_long.false) c.in_ok-frame.ensures c.now-now.ensures c.in_ok-answer.ensures.steps c.in_ok-read_all.ensures c.in_ok-keep.ensures,
    )

pub returns : goal.returns
returns g c = rw (← c.self.view_is) (
  c.self.invariant c.in_ok-go_on.ensures,
  offer_sent g.C.Carrier.link g.C.Carrier.steps (network_of c.self.inside.link c.self.inside.rows c.self.inside.floating c.self.inside.waiting.items c.self.inside.strays) c.args.unit c.in-Some.way c.in_ok-frame.frame c.in_ok-answer.answer c.now-now.result c.offer.new.self c.read_all.new.link
      c.read_all.new.waiting.items c.keep.new.floating (sym c.way.ensures ∙ c.in-Some.is) (sym c.is_too_long.ensures ∙ c.if-is_too_long.false) c.in_ok-frame.ensures c.now-now.ensures c.in_ok-answer.ensures.steps c.in_ok-read_all.ensures c.in_ok-keep.ensures,
)
