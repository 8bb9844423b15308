use Rattle.std.proofs.Common.{ℕ, List, [], refl}
use Rattle.octet_loop.proofs.Exact.{complete}
use Rattle.osi_base.specs.declared.status.Status.TheVariants.{Done}
use Rattle.line_loop.specs.Outcome.{AsksFor}
use Rattle.law_run.proofs.Handled.{shows_silence, shows_submitted}
use Rattle.law_run.proofs.ScriptRuns.{transcript}
use Rattle.law_run.proofs.Served.{serves_where_calm}
use Rattle.law_run.specs.Bench.{bench_meaning, first_bench}
use Rattle.capture_decode.specs.Course.{Finishes}
use Rattle.script_frames.specs.Frames.{AsksForCapture}
use Rattle.osi_kinds.specs.Kinds.{AsksOf}
use Rattle.osi_commands.proofs.Carrying.{by_command, text_first}
use Rattle.osi_storm.proofs.Summaries.{summary_complete, summary_exact}
use Rattle.osi_commands.proofs.top.carry_out.Goals as goal

pub returns-in-Run-clause-does : goal.returns-in-Run-clause-does
returns-in-Run-clause-does g c = by_command _ _ _ _ _ _ _ _ _ _ _ c.in-Run.is (record {
  told = transcript g.S.Source.left g.K.Sink.held c.args.source.now c.args.sink.now c.run_network.new.source c.run_network.new.sink _
      (shows_submitted c.ends_are_lawful.ensures) (shows_silence c.systems_are_silent.ensures) (serves_where_calm c.calm_scripts_are_served.ensures) c.scripts_recover.ensures.octets
      c.outages_are_kept.ensures.octets c.run_network.ensures.outcome;
  exact = c.run_network.ensures.exact;
  complete = λ all tells accepted no_read no_write.
      text_first (λ (text : List ℕ). AsksFor bench_meaning first_bench all text Done) _ _ _ (c.run_network.ensures.complete all tells accepted no_read no_write);
})

pub returns-in-Frames-clause-does : goal.returns-in-Frames-clause-does
returns-in-Frames-clause-does g c = by_command _ _ _ _ _ _ _ _ _ _ _ c.in-Frames.is (record {
  told = c.write_capture.ensures.frames;
  exact = c.write_capture.ensures.exact;
  complete = λ all tells accepted no_read no_write. text_first (λ (capture : List ℕ). AsksForCapture all capture Done) _ _ _
      (complete c.write_capture.result _ _ _ _ (c.write_capture.ensures.accepted all tells accepted) c.write_capture.ensures.read_fault c.write_capture.ensures.write_fault no_read no_write);
})

pub returns-in-Decode-clause-does : goal.returns-in-Decode-clause-does
returns-in-Decode-clause-does g c = by_command _ _ _ _ _ _ _ _ _ _ _ c.in-Decode.is (record {
  told = let w = c.decode.ensures.outcome in (w.0, w.1, w.2, w.3, (w.4, w.5));
  exact = c.decode.ensures.exact;
  complete = λ all tells accepted no_read no_write. text_first (λ (text : List ℕ). Finishes all text) _ _ _ (c.decode.ensures.complete all tells accepted no_read no_write);
})

pub returns-in-Storm-clause-does : goal.returns-in-Storm-clause-does
returns-in-Storm-clause-does g c =
    let w = c.write_storm.ensures.storm in
    by_command _ _ _ _ _ _ _ _ _ _ _ c.in-Storm.is (record {
      told = ([], w.0, (refl, refl), w.1, record { outcome = w.2; lawful = c.generated_scripts_are_lawful.ensures c.in-Storm.storm });
      exact = λ all text asked tells asks. summary_exact g.K.Sink.held c.args.sink.now c.write_storm.new.sink c.in-Storm.storm c.write_storm.result w text asked asks;
      complete = λ all tells accepted no_read not. summary_complete g.K.Sink.held c.args.sink.now c.write_storm.new.sink c.in-Storm.storm c.write_storm.result _ _ w c.write_storm.ensures.write_fault not;
    })

pub returns-in-Script-clause-does : goal.returns-in-Script-clause-does
returns-in-Script-clause-does g c = by_command _ _ _ _ _ _ _ _ _ _ _ c.in-Script.is (record {
  told = c.run_kind.ensures.told;
  exact = c.run_kind.ensures.exact;
  complete = λ all tells accepted no_read no_write. text_first (λ (text : List ℕ). AsksOf c.in-Script.kind all text Done) _ _ _ (c.run_kind.ensures.complete all tells accepted no_read no_write);
})
