use Rattle.std.proofs.Common.{List, Option, ℕ, ap, count_by, is_some, sym, ◌∙◌}
use Rattle.clnp_segment.proofs.Fills.{counted_whole}
use Rattle.clnp_segment.proofs.runs.Runs.count.Goals as goal

pub returns : goal.returns
returns c = c.self.invariant.counted ∙ sym (counted_whole c.self.inside.runs.items c.self.inside.total c.self.inside.count c.self.invariant)
    ∙ ap (λ (slots : List (Option ℕ)). count_by is_some slots) c.self.view_is
