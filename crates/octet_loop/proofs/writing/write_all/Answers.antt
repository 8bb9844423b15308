use Rattle.std.proofs.Common.{rules, arith, inl, ◌∙◌}
use Rattle.osi_base.specs.declared.status.Status.TheVariants.{Done}
use Rattle.octet_loop.proofs.Written.{more_written, broken, nothing_taken, more_within}
use Rattle.octet_loop.proofs.writing.write_all.Goals as goal

pub returns-in-Err-Failed-clause-written : goal.returns-in-Err-Failed-clause-written
returns-in-Err-Failed-clause-written g c = broken g.K.Sink.held c.args.text.now c.loop-at.at c.args.sink.now c.loop-at.sink c.write.new.self Done _ (search rules) c.loop-at.invariant.put c.in-Err-Failed.ensures.kept

pub returns-in-Err-NoMemory-clause-written : goal.returns-in-Err-NoMemory-clause-written
returns-in-Err-NoMemory-clause-written g c = broken g.K.Sink.held c.args.text.now c.loop-at.at c.args.sink.now c.loop-at.sink c.write.new.self Done _ (search rules) c.loop-at.invariant.put c.in-Err-NoMemory.ensures.kept

pub returns-then-count-eq0-clause-written : goal.returns-then-count-eq0-clause-written
returns-then-count-eq0-clause-written g c = nothing_taken g.K.Sink.held c.args.text.now c.loop-at.at c.in-Ok.count c.args.sink.now c.loop-at.sink c.write.new.self Done c.loop-at.invariant.put c.if-count-eq0.true c.in-Ok.ensures.moved

pub loop-at-preserved : goal.loop-at-preserved
loop-at-preserved g c = record {
  within = more_within c.args.text.now c.loop-at.at c.in-Ok.count c.loop-at.invariant.within c.in-Ok.ensures.count;
  put = more_written g.K.Sink.held c.args.text.now c.loop-at.at c.in-Ok.count c.args.sink.now c.loop-at.sink c.write.new.self c.loop-at.invariant.put c.in-Ok.ensures.moved;
  no_fault = c.in-Ok.ensures.faultless (inl (omega (arith, c.if-count-eq0.false))) ∙ c.loop-at.invariant.no_fault;
}
