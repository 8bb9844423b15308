use Rattle.std.specs.Prelude.{[]}
use Rattle.osi_commands.specs.declared.command.Command.TheVariants.{Storm}
use Rattle.law_commands.proofs.laws.storm_does.Goals as goal

pub returns-clause-told : goal.returns-clause-told
returns-clause-told c call serves storm is =
    let w = (serves (Storm storm) is).told in
    (w.2.1, w.1, w.3, w.4)

pub returns-clause-exact : goal.returns-clause-exact
returns-clause-exact c call serves storm is text asked asks = (serves (Storm storm) is).exact [] text asked tt asks

pub returns-clause-complete : goal.returns-clause-complete
returns-clause-complete c call serves storm is not = (serves (Storm storm) is).complete [] tt tt tt not
