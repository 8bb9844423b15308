use Rattle.std.proofs.Common.{◌≡◌, map, take, drop}
use Rattle.script_storm.specs.Line.{set_up_lines}
use Rattle.osi_storm.specs.Storm.{as_it_stands}
use Rattle.osi_storm.specs.steps.Storming.{Goes, HasJournal}
use Rattle.osi_storm.proofs.Storming.{AreLeft}
use Rattle.osi_storm.proofs.storm.Rig.run_set_up.Given as goal

-- the lines up to this one ran, and the others are read by the names so far
abbrev pub invariant-loop-line : goal.invariant-loop-line
invariant-loop-line l =
    Goes (map as_it_stands (take l.line-index set_up_lines)) l.fn.self.bench l.fn.self.counts l.self.bench l.self.counts
    × AreLeft (drop l.line-index set_up_lines) l.self.bench.names × HasJournal l.self.bench l.self.counts × (l.self.bench.lines ≡ l.line-index)
