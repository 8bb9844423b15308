use Rattle.std.proofs.Common.{◌≤◌, vec_capacity}
use Rattle.due_links.specs.steps.Listing.{IsRenumbered}
use Rattle.due_links.proofs.list.renumber.Given as goal

abbrev pub invariant-loop-place : goal.invariant-loop-place
invariant-loop-place l = IsRenumbered l.fn.due l.fn.ids.items l.place l.due l.ids.items × (vec_capacity l.fn.ids ≤ vec_capacity l.ids)
