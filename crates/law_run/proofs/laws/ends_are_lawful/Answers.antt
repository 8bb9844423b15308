use Rattle.script_lines.specs.declared.words.Dialect.TheVariants as dialects
use Rattle.law_setup.specs.ClnpNets.{MakesNet, NetDoes, link_of_net}
use Rattle.law_setup.proofs.Made.{net_laws}
use Rattle.script_world.proofs.Headline.{script_lawful}
use Rattle.law_run.proofs.laws.ends_are_lawful.Goals as goal

pub returns : goal.returns
returns c = script_lawful link_of_net NetDoes MakesNet dialects.Run net_laws c.lawful.ensures
