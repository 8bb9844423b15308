use Rattle.std.proofs.Common.{List, Option, ℕ, ap, length, sym, ◌∙◌}
use Rattle.clnp_segment.proofs.Fills.{slots_long}
use Rattle.clnp_segment.proofs.runs.Runs.len.Goals as goal

pub returns : goal.returns
returns c = sym (slots_long c.self.inside.runs.items 0 c.self.inside.total) ∙ ap (λ (slots : List (Option ℕ)). length slots) c.self.view_is
