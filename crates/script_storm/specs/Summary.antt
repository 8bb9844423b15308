-- The line that a generated script leaves.
use Rattle.std.specs.Prelude.{ℕ, List, [], ◌∷◌, ◌++◌, codes}
use Rattle.std.specs.Fmt.{decimal}
use Rattle.script_storm.specs.declared.counts.Counts.{Counts}
use Rattle.script_storm.specs.declared.request.Storm.{Storm}

-- the seed and the count that were asked for, and what was counted
abbrev pub summary_line : Storm → Counts → List ℕ
summary_line storm counts =
    codes "storm " ++ decimal storm.seed ++ codes " " ++ decimal storm.count
    ++ codes " ticks " ++ decimal counts.ticks
    ++ codes " frames " ++ decimal counts.frames
    ++ codes " ends " ++ decimal counts.ends
    ++ codes " got " ++ decimal counts.got
    ++ codes " urgent " ++ decimal counts.urgent
    ++ codes " gone " ++ decimal counts.gone
    ++ 10 ∷ []
