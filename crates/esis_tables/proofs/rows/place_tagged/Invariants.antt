use Rattle.std.proofs.Common.{◌≤◌, ◌-◌, length}
use Rattle.esis_tables.proofs.Tagging.{AreOthers}
use Rattle.esis_tables.proofs.rows.place_tagged.Given as goal

abbrev pub invariant-loop-place : goal.invariant-loop-place
invariant-loop-place l = (l.place ≤ length l.tags) × AreOthers l.rows.items l.address l.place

abbrev pub decreases-loop-place : goal.decreases-loop-place
decreases-loop-place l = length l.rows.items - l.place
