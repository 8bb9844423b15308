use Rattle.std.proofs.Common.{◌∙◌, ℕ, List, Option, None, slice_set, ap, arith}
use Rattle.tp4_entity.proofs.Clearing.{clears}
use Rattle.tp4_entity.proofs.references.clear_dues.Goals as goal

pub loop-id-preserved : goal.loop-id-preserved
loop-id-preserved c =
    c.clear.ensures ∙ ap (λ (due : List (Option ℕ)). slice_set due c.loop-id.id None) c.loop-id.invariant
    ∙ clears c.loop-id.id c.args.due.now (omega (arith, c.loop-id-test.true, c.requires))
