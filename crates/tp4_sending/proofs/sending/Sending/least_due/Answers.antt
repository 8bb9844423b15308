use Rattle.std.proofs.Common.{subst}
use Rattle.std.specs.List.{All}
use Rattle.tp4_sending.specs.SendingHalf.{FlowSender}
use Rattle.tp4_sending.specs.Kept.{IsTried}
use Rattle.tp4_sending.proofs.Leasts.{tried_back}
use Rattle.tp4_sending.proofs.sending.Sending.least_due.Goals as goal

pub first_due-requires-2 : goal.first_due-requires-2
first_due-requires-2 c =
    let back = c.as_slices.result.1.now in
    let tried = tried_back c.self.inside.clock c.self.inside.window.items c.as_slices.result.0.now back c.as_slices.ensures c.self.invariant.0.tries in
    subst (λ (s : FlowSender). All (IsTried s.clock) back) c.self.view_is tried
