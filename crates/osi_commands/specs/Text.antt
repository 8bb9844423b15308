-- The closing lines of a transcript, and the line for wrong words.
use Rattle.std.specs.Prelude.{ℕ, List, [], ◌∷◌, ◌++◌, codes}
pub use Rattle.script_bench.specs.Text.{done_line, toomuch_line}

-- the line for wrong words
abbrev pub usage_line : List ℕ
usage_line = codes "usage: osi run | frames | decode | storm SEED COUNT | datagrams | inactive | relay" ++ 10 ∷ []
