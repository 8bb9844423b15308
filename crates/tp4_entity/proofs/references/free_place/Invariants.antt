use Rattle.std.proofs.Common.{◌≡◌, ◌<◌, ℕ, false, Some, slice_get}
use Rattle.tp4_entity.specs.References.{is_free_place}
use Rattle.tp4_entity.proofs.PlaceLaws.{Place}
use Rattle.tp4_entity.proofs.references.free_place.Given as goal

abbrev pub invariant-loop-at : goal.invariant-loop-at
invariant-loop-at g l = (k : ℕ) (place : Place) → k < l.at → slice_get l.places k ≡ Some place → is_free_place l.now place ≡ false
