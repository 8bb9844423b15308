-- What is left of a line that is taken field by field.
use Rattle.std.specs.Prelude.{ℕ, ◌+◌, List, [], length, Option, Some, None}
use Rattle.script_lines.specs.Field.{fields_of}
use Rattle.script_lines.specs.Reading.{listed_names}

abbrev pub fields_left : Option (List ℕ) → List (List ℕ)
fields_left None = []
fields_left (Some rest) = fields_of rest

-- a blank stands before what is left
abbrev pub octets_left : Option (List ℕ) → ℕ
octets_left None = 0
octets_left (Some rest) = length rest + 1

-- the fields that are left, and the column of the first
pub record Left : Type 0 where
  pub column : ℕ
  pub fields : List (List ℕ)

-- the names that are left of a list
abbrev pub names_left : Option (List ℕ) → List (List ℕ)
names_left None = []
names_left (Some rest) = listed_names rest
