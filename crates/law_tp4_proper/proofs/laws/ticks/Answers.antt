use Rattle.law_tp4_proper.proofs.Ends.{clocked, ticking_after, ticking_proper, waits}
use Rattle.law_tp4_proper.proofs.Fewer.{ticking_fewer}
use Rattle.law_tp4_proper.proofs.laws.ticks.Goals as goal

pub returns : goal.returns
returns c = record { ticking = ticking_proper; after = ticking_after; fewer = ticking_fewer; waits = waits; clock = clocked }
