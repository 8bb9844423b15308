use Rattle.tp4_number.specs.Window.{joined}
use Rattle.tp4_flow.proofs.Joinings.{Joining}
use Rattle.tp4_flow.proofs.reassembling.Window.show.Given as goal

abbrev pub invariant-loop-piece : goal.invariant-loop-piece
invariant-loop-piece l = Joining l.own l.fn.self l.fn.out l.count l.self l.out

abbrev pub decreases-loop-piece : goal.decreases-loop-piece
decreases-loop-piece l = (joined l.self.begun l.self.places).count
