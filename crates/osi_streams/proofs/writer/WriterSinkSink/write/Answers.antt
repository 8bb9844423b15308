use Rattle.std.proofs.Common.{ℕ, take, subst, sym}
use Rattle.osi_base.specs.Ends.{Put}
use Rattle.osi_streams.proofs.Steady.{put, kept}
use Rattle.osi_streams.proofs.writer.WriterSinkSink.write.Goals as goal

pub returns-in-Ok-eq0-clause-moved : goal.returns-in-Ok-eq0-clause-moved
returns-in-Ok-eq0-clause-moved g c =
    subst (λ (count : ℕ). Put (g.W.Write.contents c.args.self.now.writer) (take count c.args.piece.now) (g.W.Write.contents c.write.new.self)) c.in-Ok-eq0.field-0-test
    (put g.W.Write.contents g.met.W.SteadyWriter.steady c.args.self.now.writer c.write.new.self _ c.in-Ok-eq0.ensures.bytes)

pub returns-in-Ok-clause-moved : goal.returns-in-Ok-clause-moved
returns-in-Ok-clause-moved g c =
    subst (λ (count : ℕ). Put (g.W.Write.contents c.args.self.now.writer) (take count c.args.piece.now) (g.W.Write.contents c.write.new.self)) (sym c.in-Ok.count-is)
    (put g.W.Write.contents g.met.W.SteadyWriter.steady c.args.self.now.writer c.write.new.self _ c.in-Ok.ensures.bytes)

pub returns-in-Err-clause-kept : goal.returns-in-Err-clause-kept
returns-in-Err-clause-kept g c = kept g.W.Write.contents g.met.W.SteadyWriter.steady c.args.self.now.writer c.write.new.self c.in-Err.ensures.bytes
