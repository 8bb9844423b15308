use Rattle.std.proofs.Common.{◌-◌}
use Rattle.tp4_sending.specs.SendingHalf.{Keeps}
use Rattle.tp4_sending.specs.Pieces.{end_of}
use Rattle.tp4_sending.proofs.Goings.{Going}
use Rattle.tp4_sending.proofs.sending.Sending.send_pieces.Given as goal

abbrev pub invariant-loop-self : goal.invariant-loop-self
invariant-loop-self l = record {
  going : Going l.fn.self l.fn.out l.self l.out;
  kept : Keeps l.fn.self l.self l.fn.self.clock;
}

abbrev pub decreases-loop-self : goal.decreases-loop-self
decreases-loop-self l = end_of l.self.rules.piece l.self.queue - l.self.numbers.next
