use Rattle.std.proofs.Common.{◌≡◌, ◌+◌, ◌++◌, List, ℕ, length, map}
use Rattle.script_storm.specs.Words.{words}
use Rattle.osi_storm.specs.Storm.{line_after}
use Rattle.osi_storm.specs.steps.Storming.{Goes, HasJournal, IsReady}
use Rattle.osi_storm.proofs.storm.Rig.run_words.Given as goal

-- the lines of the words so far ran
abbrev pub invariant-loop-word : goal.invariant-loop-word
invariant-loop-word l =
    (goal.iterator-loop-word).can_next l.word-iterator
    × (goal.iterator-loop-word).is_finite l.word-iterator
    × ((done : List ℕ) × (words l.fn.storm.seed l.fn.storm.count ≡ done ++ l.word-iterator)
    × Goes (map line_after done) l.fn.self.bench l.fn.self.counts l.self.bench l.self.counts)
    × IsReady l.self.bench.names × HasJournal l.self.bench l.self.counts
    × (l.self.bench.lines + length l.word-iterator ≡ l.fn.self.bench.lines + l.fn.storm.count)
