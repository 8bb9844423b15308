use Rattle.tp4_entity.proofs.Bundles.{bundle_heard, bundled, separated}
use Rattle.tp4_entity.proofs.laws.separates_bundles.Goals as goal

pub returns : goal.returns
returns c = record { bundle = bundled; separates = separated; hears = bundle_heard }
