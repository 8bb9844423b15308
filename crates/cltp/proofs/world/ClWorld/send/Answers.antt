use Rattle.std.proofs.Common.{◌≡◌, ◌∙◌, ◌++◌, ◌∷◌, [], List, false, length, ap, subst, sym, rules}
use Rattle.std.specs.Prelude.{nat_lt, option_copied}
use Rattle.osi_base.specs.Calls.{Offer}
use Rattle.cltp.specs.Sending.{ud_wish}
use Rattle.cltp.specs.Systems.{World, system_at}
use Rattle.script_journal.specs.declared.event.Event.{Event}
use Rattle.cltp.specs.declared.system.ClSystem.{ClSystem}
use Rattle.cltp.proofs.Arrivals.{sends}
use Rattle.cltp.proofs.world.ClWorld.send.Goals as goal

pub returns : goal.returns
returns g c =
    let short : nat_lt 16000 (length c.args.request.octets) ≡ false = search rules in
    let found = ap (λ (w : World _). system_at w.systems c.args.system) (sym c.self.view_is) ∙ ap (λ (ss : List ClSystem). system_at ss c.args.system) (sym c.deref.ensures.value)
    ∙ sym c.system_at.ensures ∙ ap option_copied c.in-Some.is in
    let call = Offer (record { from = c.in-Some.own.now.own; to = c.args.request.to; octets = c.in_ok-octets_of.field-0 }) ud_wish c.in_ok-answer.answer in
    sends g.C.Carrier.link g.C.Carrier.steps c.args.self.now c.self.inside.systems.items c.offer.new.self c.take_up.new.self c.args.system c.args.request c.in-Some.own.now c.in_ok-octets_of.field-0 c.in_ok-answer.answer c.answer_of.result
    c.args.events.now.items c.push-2.new.self.items c.take_up.new.events.items short found c.in_ok-octets_of.ensures
    (subst (λ (w : World _). g.C.Carrier.steps w.carrier call c.offer.new.self) c.self.view_is c.in_ok-answer.ensures.steps)
    (c.in_ok-push-2.ensures.items ∙ ap (λ (e : Event). c.args.events.now.items ++ e ∷ []) c.in_ok-event.ensures) c.in_ok-take_up.ensures.takes_up c.in_ok-take_up.ensures.same (ap (λ (w : World _). w.systems) c.self.view_is)
    c.answer_of.ensures
