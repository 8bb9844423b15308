use Rattle.std.proofs.Common.{List, ℕ, [], subst, sym}
use Rattle.octet_loop.proofs.Written.{put_none}
use Rattle.osi_storm.specs.Storm.{AsksSummary}
use Rattle.osi_storm.proofs.Courses.{nothing_written}
use Rattle.osi_storm.proofs.Storming.{summary_written}
use Rattle.osi_storm.proofs.storm.write_storm.Goals as goal

pub returns-in-Ok-clause-storm : goal.returns-in-Ok-clause-storm
returns-in-Ok-clause-storm g c =
    summary_written g.K.Sink.held c.args.sink.now c.write_last.new.sink c.args.storm c.deref.result.now c.in-Ok.end c.write_last.result
    (subst (λ (text : List ℕ). AsksSummary c.args.storm text c.in-Ok.end) (sym c.deref.ensures.value) c.in-Ok.ensures) c.write_last.ensures.written

pub returns-clause-storm : goal.returns-clause-storm
returns-clause-storm g c = ([], put_none (g.K.Sink.held c.args.sink.now), nothing_written c.args.storm c.requires)
