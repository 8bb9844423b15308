-- The words that ask for a generated script.
use Rattle.std.specs.Prelude.{◌≡◌, ℕ, ◌≤◌, List}
use Rattle.std.specs.Fmt.{decimal}
use Rattle.script_storm.specs.declared.request.Storm.{Storm}

-- the text is this number in decimal, and the number is at most `most`
abbrev pub IsNumber : ℕ → List ℕ → ℕ → Type 0
IsNumber most text number = (text ≡ decimal number) × (number ≤ most)

-- the texts are the seed and the count of this generated script
abbrev pub Asks : List ℕ → List ℕ → Storm → Type 0
Asks seed count storm = IsNumber 999999999 seed storm.seed × IsNumber 20000 count storm.count
