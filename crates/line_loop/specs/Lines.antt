-- An input as lines, and its limits.
use Rattle.std.specs.Prelude.{◌==◌, ℕ, ◌+◌, ◌≤◌, List, [], ◌∷◌, length, if◌then◌else◌}
use Rattle.std.specs.List.{AllByRecursion}
use Rattle.line_loop.specs.Limits.{most_octets}

-- the most lines of an input
abbrev pub most_lines : ℕ
most_lines = 100000

-- the most octets of a line before its line feed, a carriage return among them
abbrev pub most_in_line : ℕ
most_in_line = 40000

-- an octet in front of whole lines belongs to the first of them
abbrev pub joins_first : ℕ → List (List ℕ) → List (List ℕ)
joins_first octet [] = []
joins_first octet (line ∷ lines) = (octet ∷ line) ∷ lines

-- the lines that have their line feed, each without it
abbrev pub whole_lines : List ℕ → List (List ℕ)
whole_lines [] = []
whole_lines (octet ∷ octets) = if octet == 10 then [] ∷ whole_lines octets else joins_first octet (whole_lines octets)

-- an octet belongs to the open line where no whole line comes before it
abbrev pub joins_open : ℕ → List (List ℕ) → List ℕ → List ℕ
joins_open octet [] open_part = octet ∷ open_part
joins_open octet (line ∷ lines) open_part = open_part

-- what stands after the last line feed
abbrev pub open_line : List ℕ → List ℕ
open_line [] = []
open_line (octet ∷ octets) = if octet == 10 then open_line octets else joins_open octet (whole_lines octets) (open_line octets)

-- a carriage return at the end is dropped
abbrev pub without_return : List ℕ → List ℕ
without_return [] = []
without_return (octet ∷ []) = if octet == 13 then [] else octet ∷ []
without_return (octet ∷ next ∷ octets) = octet ∷ without_return (next ∷ octets)

-- an open line that has an octet is a last line of its own
abbrev pub last_line : List ℕ → List (List ℕ)
last_line [] = []
last_line (octet ∷ octets) = (octet ∷ octets) ∷ []

-- the octets keep the limits: of octets, of lines, an open one among them, and of octets in a line
pub record Fits (octets : List ℕ) : Type 0 where
  pub in_all : length octets ≤ most_octets
  pub lines : length (whole_lines octets) + length (last_line (open_line octets)) ≤ most_lines
  pub each : AllByRecursion (λ line. length line ≤ most_in_line) (whole_lines octets)
  pub last : length (open_line octets) ≤ most_in_line
