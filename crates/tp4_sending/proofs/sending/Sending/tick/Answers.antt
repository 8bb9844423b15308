use Rattle.std.proofs.Common.{◌≡◌, Bool, if◌then◌else◌, sym, ◌∙◌, ap, subst}
use Rattle.tp4_flow.specs.declared.rules.Life.{Life}
use Rattle.tp4_flow.specs.declared.rules.Life.TheVariants.{Goes, Exhausted}
use Rattle.tp4_sending.specs.SendingHalf.{FlowSender, Sends, life_of, resends, resends_urgent, new_sends, then_sends, ticked, ticked_as}
use Rattle.tp4_sending.proofs.Thens.{then_done}
use Rattle.tp4_sending.proofs.sending.Sending.tick.Goals as goal

pub returns-clause-step : goal.returns-clause-step
returns-clause-step c =
    let s : FlowSender = c.set_clock.new.self in
    let goes : life_of s ≡ Goes = ap (λ (b : Bool). if b then Exhausted else Goes) (sym c.is_exhausted.ensures ∙ c.if-is_exhausted.false) in
    let whole : Sends (ticked_as Goes s) c.new_sends.new.self c.args.out.now c.new_sends.new.out =
    then_done (then_sends (resends s) resends_urgent) new_sends c.resend_urgent.new.self c.new_sends.new.self c.args.out.now c.resend_urgent.new.out c.new_sends.new.out
    (then_done (resends s) resends_urgent c.resend.new.self c.resend_urgent.new.self c.args.out.now c.resend.new.out c.resend_urgent.new.out
    c.in_ok-resend.ensures.step c.in_ok-resend_urgent.ensures.step) c.in_ok-new_sends.ensures.step in
    let done : Sends (ticked s) c.new_sends.new.self c.args.out.now c.new_sends.new.out =
    subst (λ (l : Life). Sends (ticked_as l s) c.new_sends.new.self c.args.out.now c.new_sends.new.out) (sym goes) whole in
    subst (λ (f : FlowSender). Sends (ticked f) c.know_due.new.self c.args.out.now c.new_sends.new.out) c.set_clock.ensures
    (subst (λ (f : FlowSender). Sends (ticked s) f c.args.out.now c.new_sends.new.out) (sym c.know_due.ensures) done)
