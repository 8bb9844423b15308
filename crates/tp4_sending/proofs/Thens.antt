-- One step, and then the next.
use Rattle.std.proofs.Common.{◌≡◌, ◌++◌, append_assoc, ◌∙◌, ap, subst}
use Rattle.tp4_flow.specs.Told.{Told}
use Rattle.tp4_sending.specs.SendingHalf.{FlowSender, Sendings, Sends, then_sends}

pub then_done : (x : Sendings) (next : FlowSender → Sendings) (mid new : FlowSender) (was between is : Told)
    → Sends x mid was between → Sends (next mid) new between is → Sends (then_sends x next) new was is
then_done x next mid new was between is one two =
    let same : next mid ≡ next x.sender = ap next one.sender_is in
    let rest : Sends (next x.sender) new between is = subst (λ (y : Sendings). Sends y new between is) same two in
    record {
      sender_is = rest.sender_is;
      told = rest.told ∙ (λ i. record {
        events = (ap (λ (w : Told). w.events ++ (next x.sender).events) one.told ∙ append_assoc was.events x.events (next x.sender).events) i;
        tpdus = (ap (λ (w : Told). w.tpdus ++ (next x.sender).tpdus) one.told ∙ append_assoc was.tpdus x.tpdus (next x.sender).tpdus) i;
      });
    }
