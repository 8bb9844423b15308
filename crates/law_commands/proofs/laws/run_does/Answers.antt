use Rattle.std.specs.Prelude.{ℕ, List, codes}
use Rattle.osi_base.specs.declared.status.Status.TheVariants.{Done}
use Rattle.line_loop.specs.Outcome.{AsksFor}
use Rattle.law_run.specs.Bench.{bench_meaning, first_bench}
use Rattle.osi_commands.specs.declared.command.Command.TheVariants.{Run}
use Rattle.law_commands.proofs.EachCommand.{status_first, word_is}
use Rattle.law_commands.proofs.laws.run_does.Goals as goal

pub returns-clause-told : goal.returns-clause-told
returns-clause-told c call serves is = (serves Run (word_is (codes "run") call.words is)).told

pub returns-clause-exact : goal.returns-clause-exact
returns-clause-exact c call serves is = (serves Run (word_is (codes "run") call.words is)).exact

pub returns-clause-complete : goal.returns-clause-complete
returns-clause-complete c call serves is all tells accepted no_read no_write =
    status_first (λ (text : List ℕ). AsksFor bench_meaning first_bench all text Done) call.held call.held_now call.status
    ((serves Run (word_is (codes "run") call.words is)).complete all tells accepted no_read no_write)
