use Rattle.std.proofs.Common.{map, string_bytes, subst}
use Rattle.osi_base.specs.declared.status.Status.{Status}
use Rattle.osi_base.specs.Ends.{IsAtEnd}
use Rattle.line_loop.specs.Outcome.{Outcome}
use Rattle.law_run.specs.Bench.{bench_meaning, first_bench}
use Rattle.osi_commands.specs.declared.command.Command.TheVariants.{Run}
use Rattle.osi.proofs.Calls.{call_by, written_held}
use Rattle.osi.proofs.call.Goals as goal

pub returns-clause-made : goal.returns-clause-made
returns-clause-made g c =
    let e = c.osi-status.ensures in
    call_by (map string_bytes c.args.words.now) _ _ _ _ _ _ _ _ c.osi-status.result c.new-source.ensures.left c.new-sink.ensures.held c.into_inner.ensures c.into_inner-2.ensures (record {
      told = λ command is. (e.does command is).told;
      exact = λ command is. (e.does command is).exact;
      run_so_far = λ is fault.
          let moves = (e.does Run is).told in
          (moves.0, moves.1, moves.2, moves.3, subst (λ (status : Status). Outcome bench_meaning (IsAtEnd (g.R.Read.remaining c.osi-status.new.source.reader)) first_bench moves.0 moves.1 status) fault moves.4.outcome);
      other = λ none. let told = e.words none in (told.0, written_held _ _ _ _ _ _ told.1);
    })
