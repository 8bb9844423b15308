use Rattle.std.proofs.Common.{◌≡◌, ℕ, List, Option, Some, ap, count_by, is_some, length, map, sym, ◌∙◌, arith}
use Rattle.clnp_segment.specs.steps.Spans.{size}
use Rattle.clnp_segment.proofs.Clashes.{last_whole, no_run}
use Rattle.clnp_segment.proofs.Fills.{counted_whole, slots_long}
use Rattle.clnp_segment.proofs.runs.Runs.into_octets.Goals as goal

pub returns-in-Some : goal.returns-in-Some
returns-in-Some c =
    let xs = c.self.inside.runs.items in
    let total = c.self.inside.total in
    let whole : size xs ≡ total =
    sym (counted_whole xs total c.self.inside.count c.self.invariant) ∙ ap (λ (slots : List (Option ℕ)). count_by is_some slots) c.self.view_is
    ∙ c.requires ∙ ap (λ (slots : List (Option ℕ)). length slots) (sym c.self.view_is) ∙ slots_long xs 0 total in
    sym c.self.view_is ∙ last_whole xs c.pop_back.new.self.items c.in-Some.run' total c.self.inside.count c.self.invariant c.in-Some.ensures.items whole
    ∙ ap (λ (octets : List ℕ). map Some octets) (sym c.into_vec.ensures)

pub returns : goal.returns
returns c =
    let xs = c.self.inside.runs.items in
    let total = c.self.inside.total in
    let whole : size xs ≡ total =
    sym (counted_whole xs total c.self.inside.count c.self.invariant) ∙ ap (λ (slots : List (Option ℕ)). count_by is_some slots) c.self.view_is
    ∙ c.requires ∙ ap (λ (slots : List (Option ℕ)). length slots) (sym c.self.view_is) ∙ slots_long xs 0 total in
    sym c.self.view_is ∙ no_run xs total (omega (arith, c.in-None.ensures.cases.0)) whole ∙ ap (λ (octets : List ℕ). map Some octets) (sym c.new.ensures.items)
