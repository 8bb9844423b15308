use Rattle.std.proofs.Common.{◌≡◌, ℕ, ◌-◌, ◌<◌, ◌≤◌, get_or, length}
use Rattle.due_links.proofs.list.place_of.Given as goal

abbrev pub invariant-loop-first : goal.invariant-loop-first
invariant-loop-first l = (l.past ≤ length l.ids) × ((place : ℕ) → place < length l.ids → get_or l.ids place 0 ≡ l.id → (l.first ≤ place) × (place ≤ l.past))

abbrev pub decreases-loop-first : goal.decreases-loop-first
decreases-loop-first l = l.past - l.first
