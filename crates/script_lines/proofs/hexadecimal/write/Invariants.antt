use Rattle.script_lines.proofs.PairSteps.{Written}
use Rattle.script_lines.proofs.hexadecimal.write.Given as goal

abbrev pub invariant-loop-place : goal.invariant-loop-place
invariant-loop-place l = Written l.text l.octets l.place l.most
