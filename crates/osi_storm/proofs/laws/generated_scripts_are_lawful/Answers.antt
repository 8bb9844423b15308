use Rattle.osi_storm.proofs.Generated.{lawful_storm}
use Rattle.osi_storm.proofs.laws.generated_scripts_are_lawful.Goals as goal

pub returns : goal.returns
returns c = lawful_storm c.ends_are_lawful.ensures
