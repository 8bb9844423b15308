-- What is left is the same behind each parameter, and at the end none stands whole.
use Rattle.std.proofs.Common.{◌≡◌, ◌==◌, length, ℕ, List, ap, sym, ◌∙◌}
use Rattle.pdu_parts.specs.Parameter.{left_in}
use Rattle.pdu_parts.proofs.Parameters.{left_some, left_none}
use Rattle.pdu_parts.proofs.parameter.are_parameters.Goals as goal

pub loop-after-preserved : goal.loop-after-preserved
loop-after-preserved c = sym (left_some _ _ _ c.in-Some.ensures) ∙ c.loop-after.invariant

pub returns : goal.returns
returns c =
    let left : left_in c.args.octets.now ≡ c.loop-after.rest.now = sym c.loop-after.invariant ∙ left_none _ c.in_default.ensures in
    c.is_empty.ensures ∙ ap (λ (xs : List ℕ). length xs == 0) (sym left)
