use Rattle.std.proofs.Common.{◌≡◌, true, ◌∙◌, ap, subst}
use Rattle.std.specs.Prelude.{OnOk}
use Rattle.tp4_sending.specs.SendingHalf.{FlowSender, Sends, at, new_sends}
use Rattle.tp4_sending.proofs.sending.Sending.open.Goals as goal

pub returns : goal.returns
returns c =
    let is : c.set_open.new.self ≡ record (at c.args.now c.args.self.now) { is_open = true } =
    c.set_open.ensures ∙ ap (λ (f : FlowSender). record f { is_open = true }) c.set_clock.ensures in
    record {
      step = subst (λ (f : FlowSender). OnOk c.new_sends.result (Sends (new_sends f) c.new_sends.new.self c.args.out.now c.new_sends.new.out)) is c.new_sends.ensures.step;
      rules = c.new_sends.ensures.kept.rules ∙ ap (λ (f : FlowSender). f.rules) is;
      is_open = c.new_sends.ensures.kept.is_open ∙ ap (λ (f : FlowSender). f.is_open) is;
      clock = c.new_sends.ensures.kept.clock ∙ ap (λ (f : FlowSender). f.clock) is;
    }
