use Rattle.tp4_sending.specs.SendingHalf.{Sends, Keeps}
use Rattle.tp4_sending.proofs.Resendings.{done_to}
use Rattle.tp4_sending.proofs.sending.Sending.resend.Given as goal

abbrev pub invariant-loop-at : goal.invariant-loop-at
invariant-loop-at l = record {
  done : Sends (done_to l.fn.self l.at) l.self l.fn.out l.out;
  kept : Keeps l.fn.self l.self l.fn.self.clock;
}
