-- The fields of a line of a transcript, and their text.
use Rattle.std.specs.Prelude.{ℕ, ◌/◌, List, [], ◌∷◌, ◌++◌, codes}
use Rattle.std.specs.Fmt.{decimal}
use Rattle.hex.specs.Hex.{encode_lower}
use Rattle.script_lines.specs.Tags.{Tags, name_at}

-- a field of a transcript line
pub data Cell : Type 0 where
  Word : (text : List ℕ) → Cell
  Number : (number : ℕ) → Cell
  -- a preferred size of a TPDU, in octets
  Preferred : (size : ℕ) → Cell
  System : (system : ℕ) → Cell
  Lan : (lan : ℕ) → Cell
  Digits : (octets : List ℕ) → Cell
  Octets : (octets : List ℕ) → Cell

-- octets in hexadecimal, and `-` for none
abbrev pub octets_text : List ℕ → List ℕ
octets_text [] = codes "-"
octets_text (octet ∷ octets) = encode_lower (octet ∷ octets)

abbrev pub cell_text : Tags → Cell → List ℕ
cell_text tags (Word text) = text
cell_text tags (Number number) = decimal number
cell_text tags (Preferred size) = codes "p" ++ decimal (size / 128)
cell_text tags (System system) = name_at tags.systems system
cell_text tags (Lan lan) = name_at tags.lans lan
cell_text tags (Digits octets) = encode_lower octets
cell_text tags (Octets octets) = octets_text octets

-- the fields with one blank between two of them, and a line feed
abbrev pub line : List (List ℕ) → List ℕ
line [] = 10 ∷ []
line (field ∷ []) = field ++ 10 ∷ []
line (field ∷ next ∷ more) = field ++ 32 ∷ line (next ∷ more)
