use Rattle.std.proofs.Common.{length}
use Rattle.capture_show.specs.steps.Units.{Writing}
use Rattle.capture_show.proofs.unit.write_unit.Given as goal

abbrev pub invariant-loop-left : goal.invariant-loop-left
invariant-loop-left l =
    Writing l.pdu.destination l.pdu.source l.initial.ends l.pdu.body.now l.initial.out.items l.ends l.left l.out.items

abbrev pub decreases-loop-left : goal.decreases-loop-left
decreases-loop-left l = length l.left
