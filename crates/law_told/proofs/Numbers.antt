-- The number of a frame in a `deliver` line is one that was read, and so within its bounds.
use Rattle.std.proofs.Common.{◌≡◌, ◌≤◌, ℕ, List, [], ◌∷◌, Ok, sym, subst}
use Rattle.std.specs.Prelude.{None}
use Rattle.script_lines.specs.declared.words.FieldKind.TheVariants as forms
use Rattle.script_lines.specs.declared.words.NameKind.TheVariants as named
use Rattle.script_lines.specs.declared.words.WordKind.TheVariants as plain
use Rattle.script_lines.specs.declared.words.Word.{Word}
use Rattle.script_lines.specs.declared.words.Word.TheVariants as words
use Rattle.script_lines.specs.declared.line.Line.{Line}
use Rattle.script_lines.specs.declared.line.Line.TheVariants as lines
use Rattle.script_lines.specs.declared.field_values.FieldValues.{FieldValues}
use Rattle.script_lines.specs.Field.{number_of}
use Rattle.script_lines.specs.Grammar.{Reading, count_fault, fields_read, line_for, line_read, next_column, next_number}
use Rattle.script_lines.specs.Known.{Declared, no_parts}
use Rattle.script_lines.specs.Reading.{system_of}
use Rattle.script_lines.specs.Table.{row_of}
use Rattle.script_bench.specs.steps.Came.{Came, Idle, Worded, came}
use Rattle.law_setup.proofs.Values.{number_within, same_parts, step}

-- a frame of the line has a number of at most nine digits
abbrev pub HasNumber : Line → Type 0
HasNumber (lines.Deliver number system) = number ≤ 999999999
HasNumber line = Unit {0}

deliver_number : (names : Declared) (past column : ℕ) (fields : List (List ℕ)) (out : FieldValues) → count_fault past column (forms.Plain (plain.Number 0 999999999) ∷ forms.Named named.System ∷ []) fields ≡ None
    → fields_read names no_parts column (forms.Plain (plain.Number 0 999999999) ∷ forms.Named named.System ∷ []) fields ≡ Ok out → out.number ≤ 999999999
deliver_number names past column [] out count is = absurd (cc)
deliver_number names past column (first ∷ []) out count is = absurd (cc)
deliver_number names past column (first ∷ second ∷ third ∷ others) out count is = absurd (cc)
deliver_number names past column (first ∷ second ∷ []) out count is =
    let a = step column (number_of 0 999999999 first) (λ number. record no_parts { number = number }) (λ more. fields_read names more (next_column column first) (forms.Named named.System ∷ []) (second ∷ [])) out is in
    let b = step (next_column column first) (system_of names second) (λ system. record no_parts { number = a.value; system = system }) (λ more. Ok more) out a.rest in
    subst (λ (p : FieldValues). p.number ≤ 999999999) (same_parts _ out b.rest) (number_within 0 999999999 first a.value a.read_is).most_is

word_number : (names : Declared) (past column number : ℕ) (fields : List (List ℕ)) (parts : FieldValues) (word : Word) → count_fault past column (row_of word).fields fields ≡ None
    → fields_read names no_parts column (row_of word).fields fields ≡ Ok parts → HasNumber (line_for number word parts)
word_number names past column number fields parts words.Deliver count filled = deliver_number names past column fields parts count filled
word_number names past column number fields parts other count filled = tt

came_number : (names : Declared) (reading : Reading) → Came names reading → HasNumber reading.line
came_number names reading (Idle is) = subst (λ (r : Reading). HasNumber r.line) (sym is) tt
came_number names reading (Worded word h) =
    subst (λ (r : Reading). HasNumber r.line) (sym h.is) (word_number names h.past h.column (next_number names (row_of word).effect) h.fields h.parts word h.counted h.filled)

pub line_number : (names : Declared) (octets : List ℕ) (line : Line) (new : Declared) → line_read names octets ≡ Ok (record { line = line; names = new }) → HasNumber line
line_number names octets line new is = came_number names (record { line = line; names = new }) (came names octets (record { line = line; names = new }) is)
