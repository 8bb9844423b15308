use Rattle.std.proofs.Common.{◌≡◌, [], ◌∷◌, ◌++◌, ◌∙◌, ap, subst}
use Rattle.std.specs.Prelude.{OnOk}
use Rattle.tp4_sending.specs.SendingHalf.{FlowSender, Sends, Keeps, at, new_sends}
use Rattle.tp4_sending.proofs.Goings.{keeps_on}
use Rattle.tp4_sending.proofs.Calls.{kept_at}
use Rattle.tp4_sending.proofs.sending.Sending.submit_expedited.Goals as goal

pub returns : goal.returns
returns c =
    let joins : FlowSender → FlowSender = λ (f : FlowSender). record f { urgent = record f.urgent { units = f.urgent.units ++ c.args.unit ∷ [] } } in
    let is : c.queue_urgent.new.self ≡ joins (at c.args.now c.args.self.now) = c.in_ok-queue_urgent.ensures.ok ∙ ap joins c.set_clock.ensures in
    let first : Keeps c.args.self.now c.queue_urgent.new.self c.args.now =
    kept_at c.args.self.now c.queue_urgent.new.self c.args.now (subst (λ (f : FlowSender). Keeps f c.queue_urgent.new.self f.clock) c.set_clock.ensures c.in_ok-queue_urgent.ensures.kept) in
    record {
      step = subst (λ (f : FlowSender). OnOk c.new_sends.result (Sends (new_sends f) c.new_sends.new.self c.args.out.now c.new_sends.new.out)) is c.new_sends.ensures.step;
      kept = keeps_on c.args.self.now c.queue_urgent.new.self c.new_sends.new.self c.args.now first c.new_sends.ensures.kept;
    }
