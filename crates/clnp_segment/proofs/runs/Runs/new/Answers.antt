use Rattle.std.proofs.Common.{◌≡◌, ◌∙◌, [], List, ap, rules}
use Rattle.clnp_segment.specs.declared.runs.Run.{Run}
use Rattle.clnp_segment.specs.steps.Spans.{slots_from}
use Rattle.clnp_segment.proofs.Fills.{slots_none}
use Rattle.clnp_segment.proofs.runs.Runs.new.Goals as goal

pub returns : goal.returns
returns c =
    let none : c.new.result.items ≡ [] = search rules in
    ap (λ (xs : List Run). slots_from xs 0 c.args.total) none ∙ slots_none 0 c.args.total
