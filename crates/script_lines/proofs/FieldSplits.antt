-- The first of the parts of a line ends at its first separator.
use Rattle.std.proofs.Common.{◌≡◌, ℕ, ◌<◌, Bool, true, false, List, [], ◌∷◌, length, Option, Some, None, refl, sym, ◌∙◌, ap, arith, eqb}
use Rattle.std.specs.Prelude.{◌==◌, IsTrue, is_some, not}
use Rattle.std.specs.Option.{option_copied}
use Rattle.std.specs.Borrow.{Bor}
use Rattle.std.specs.List.{slice_split, position_or_len, before_first, after_first}
use Rattle.std.proofs.lemmas.List.Splits.{slice_split_first, slice_split_none, length-slice_split}
use Rattle.std.proofs.lemmas.List.Sums.{fails_before_first}
use Rattle.std.proofs.lemmas.List.Elements.{All-from_get_or}
use Rattle.script_lines.specs.Field.{fields_of}
use Rattle.script_lines.specs.Reading.{listed_names}
use Rattle.script_lines.specs.steps.Split.{fields_left}

-- the parts, by whether there is a separator
pub record HasBlank (blank : ℕ) (line field rest : List ℕ) : Type 0 where
  pub at : position_or_len (λ b. eqb b blank) line < length line
  pub field_is : field ≡ before_first (λ b. eqb b blank) line
  pub rest_is : rest ≡ after_first (λ b. eqb b blank) line

parts : ℕ → List ℕ → List (List ℕ)
parts blank line = slice_split (λ b. eqb b blank) line

first_part : (blank : ℕ) (line field rest : List ℕ) → HasBlank blank line field rest → parts blank line ≡ field ∷ parts blank rest
unfolding parts
first_part blank line field rest h =
    slice_split_first (λ b. eqb b blank) line 0 h.at ∙ ap (λ (first : List ℕ). first ∷ slice_split (λ b. eqb b blank) (after_first (λ b. eqb b blank) line)) (sym h.field_is) ∙ ap (λ (left : List ℕ). field ∷ slice_split (λ b. eqb b blank) left) (sym h.rest_is)

only_part : (blank : ℕ) (line : List ℕ) → position_or_len (λ b. eqb b blank) line ≡ length line → parts blank line ≡ line ∷ []
unfolding parts
only_part blank line h =
    slice_split_none (λ b. eqb b blank) line (All-from_get_or (λ b. eqb b blank ≡ false) line 0 (λ i lt. fails_before_first (λ b. eqb b blank) line i 0 (omega (arith, h))))

pub first_field : (line field rest : List ℕ) → HasBlank 32 line field rest → fields_of line ≡ field ∷ fields_of rest
unfolding fields_of parts
first_field line field rest h = first_part 32 line field rest h

pub only_field : (line : List ℕ) → position_or_len (λ b. eqb b 32) line ≡ length line → fields_of line ≡ line ∷ []
unfolding fields_of parts
only_field line h = only_part 32 line h

pub first_name : (line field rest : List ℕ) → HasBlank 44 line field rest → listed_names line ≡ field ∷ listed_names rest
unfolding listed_names parts
first_name line field rest h = first_part 44 line field rest h

pub only_name : (line : List ℕ) → position_or_len (λ b. eqb b 44) line ≡ length line → listed_names line ≡ line ∷ []
unfolding listed_names parts
only_name line h = only_part 44 line h

pub fields_stand : (line : List ℕ) → fields_of line ≡ [] → ⊥
unfolding fields_of
fields_stand line h = let n = length-slice_split (λ octet. octet == 32) line in absurd (omega (arith, ap (λ (fields : List (List ℕ)). length fields) h))

-- no field is left exactly where nothing is left
pub nothing_left : (rest : Option (Bor (List ℕ))) (b : Bool) → is_some rest ≡ not b → (IsTrue b → fields_left (option_copied rest) ≡ []) × (fields_left (option_copied rest) ≡ [] → IsTrue b)
nothing_left None true is = (λ _. refl, λ _. refl)
nothing_left None false is = absurd cc
nothing_left (Some line) true is = absurd cc
nothing_left (Some line) false is = (λ no. absurd cc, λ none. absurd (fields_stand line.now none))
