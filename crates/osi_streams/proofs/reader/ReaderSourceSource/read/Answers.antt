use Rattle.osi_streams.proofs.Steady.{took, kept}
use Rattle.osi_streams.proofs.reader.ReaderSourceSource.read.Goals as goal

pub returns-in-Ok-clause-moved : goal.returns-in-Ok-clause-moved
returns-in-Ok-clause-moved g c = took g.R.Read.remaining g.met.R.SteadyReader.steady c.args.self.now.reader c.read.new.self _ c.in-Ok.ensures.bytes.0

pub returns-in-Err-clause-kept : goal.returns-in-Err-clause-kept
returns-in-Err-clause-kept g c = kept g.R.Read.remaining g.met.R.SteadyReader.steady c.args.self.now.reader c.read.new.self c.in-Err.ensures.bytes
