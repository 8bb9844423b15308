use Rattle.std.proofs.Common.{◌∙◌, List, Option, None, slice_set, ap, arith}
use Rattle.tp4_conn.specs.End.{End}
use Rattle.tp4_entity.proofs.Clearing.{clears}
use Rattle.tp4_entity.proofs.references.clear_places.Goals as goal

pub loop-at-preserved : goal.loop-at-preserved
loop-at-preserved g c =
    ap (λ (places : List (Option End)). slice_set places c.loop-at.at None) c.loop-at.invariant ∙ clears c.loop-at.at c.args.places.now (omega (arith, c.loop-at-test.true))
