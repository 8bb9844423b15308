use Rattle.std.proofs.Common.{◌≡◌, false, take}
use Rattle.std.specs.List.{list_any}
use Rattle.tp4_entity.specs.Association.{is_called}
use Rattle.tp4_entity.proofs.association.is_any_called.Given as goal

abbrev pub invariant-loop-place : goal.invariant-loop-place
invariant-loop-place g l = list_any (is_called l.frozen l.from l.reference) (take l.place-index l.places) ≡ false
