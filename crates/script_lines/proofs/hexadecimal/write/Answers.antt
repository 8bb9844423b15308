use Rattle.std.proofs.Common.{arith, refl}
use Rattle.script_lines.proofs.PairSteps.{writes_all, written_more, written_none}
use Rattle.script_lines.proofs.hexadecimal.write.Goals as goal

pub loop-place-init : goal.loop-place-init
loop-place-init c = written_none c.args.text.now c.args.octets.now

pub loop-place-preserved : goal.loop-place-preserved
loop-place-preserved c =
    written_more _ _ c.loop-place.place c.loop-place.most c.value_of-high.result c.value_of-low.result _ (omega arith) (omega arith) c.value_of-high.ensures c.value_of-low.ensures (omega arith) c.loop-place.invariant

pub returns : goal.returns
returns c = writes_all _ _ c.loop-place.place c.loop-place.most _ refl (omega arith) (omega arith) c.loop-place.invariant
