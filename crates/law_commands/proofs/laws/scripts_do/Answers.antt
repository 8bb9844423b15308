use Rattle.std.specs.Prelude.{ℕ, List}
use Rattle.osi_base.specs.declared.status.Status.TheVariants.{Done}
use Rattle.osi_kinds.specs.Kinds.{AsksOf}
use Rattle.osi_commands.specs.declared.command.Command.TheVariants.{Script}
use Rattle.law_commands.proofs.EachCommand.{kind_is, status_first}
use Rattle.law_commands.proofs.laws.scripts_do.Goals as goal

pub returns-clause-told : goal.returns-clause-told
returns-clause-told c call serves kind is = (serves (Script kind) (kind_is call.words kind is)).told

pub returns-clause-exact : goal.returns-clause-exact
returns-clause-exact c call serves kind is = (serves (Script kind) (kind_is call.words kind is)).exact

pub returns-clause-complete : goal.returns-clause-complete
returns-clause-complete c call serves kind is all tells accepted no_read no_write =
    status_first (λ (text : List ℕ). AsksOf kind all text Done) call.held call.held_now call.status
    ((serves (Script kind) (kind_is call.words kind is)).complete all tells accepted no_read no_write)
