use Rattle.std.proofs.Common.{◌<◌, length, ap, arith}
use Rattle.tp4_sending.specs.SendingHalf.{FlowSender}
use Rattle.tp4_sending.proofs.Goings.{keeps_on}
use Rattle.tp4_sending.proofs.Resendings.{resend_on}
use Rattle.tp4_sending.proofs.sending.Sending.resend.Goals as goal

pub loop-at-preserved : goal.loop-at-preserved
loop-at-preserved c =
    let within : c.loop-at.at < length c.args.self.now.window = omega (arith, ap (λ (s : FlowSender). length s.window) c.self.view_is) in
    record {
      done = resend_on c.args.self.now c.args.out.now c.loop-at.at c.loop-at.self c.loop-at.out c.resend_at.new.self c.resend_at.new.out c.loop-at.invariant.done within c.in_ok-resend_at.ensures.step;
      kept = keeps_on c.args.self.now c.loop-at.self c.resend_at.new.self c.args.self.now.clock c.loop-at.invariant.kept c.in_ok-resend_at.ensures.kept;
    }
