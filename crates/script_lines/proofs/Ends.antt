-- One turn of the table's two loops, and how the answers of the steps make the answer of a line.
use Rattle.std.proofs.Common.{◌≡◌, ℕ, ◌+◌, ◌<◌, Bool, false, List, [], ◌∷◌, length, drop, refl, subst, add-one, drop-cons}
use Rattle.std.specs.Prelude.{Err, Some, None, Option, Result, ◌&&◌, not}
use Rattle.script_lines.specs.declared.cause.LineCause.TheVariants as causes
use Rattle.script_lines.specs.declared.cause.LineFault.{LineFault}
use Rattle.script_lines.specs.declared.cause.LineRefusal.{LineRefusal}
use Rattle.script_lines.specs.declared.cause.LineRefusal.TheVariants as refusals
use Rattle.script_lines.specs.declared.line.Line.{Line}
use Rattle.script_lines.specs.declared.words.FieldKind.{FieldKind}
use Rattle.script_lines.specs.declared.words.FieldKind.TheVariants as kinds
use Rattle.script_lines.specs.declared.words.Word.{Word}
use Rattle.script_lines.specs.declared.field_values.FieldValues.{FieldValues}
use Rattle.script_lines.specs.declared.line_table.Row.{Row}
use Rattle.script_lines.specs.Known.{Declared, no_parts}
use Rattle.script_lines.specs.Table.{row_of}
use Rattle.script_lines.specs.Grammar.{fault, next_column, count_fault, fields_read, counted_read, is_of_later_version, is_out_of_order, stands_wrong, whole_read, worded_read, Reads}
use Rattle.script_lines.specs.Gives.{GivesAt}
use Rattle.script_lines.specs.steps.Counted.{counted, all_read}

-- a field is counted
pub count_step : (past column : ℕ) (forms : List FieldKind) (i : ℕ) (fields : List (List ℕ)) (field : List ℕ) (rest : List (List ℕ)) (next : ℕ)
    → i < length forms → fields ≡ field ∷ rest → next ≡ next_column column field
    → count_fault past column (drop i forms) fields ≡ count_fault past next (drop (i + 1) forms) rest
count_step past column forms i fields field rest next lt is at = rw (is, at, add-one i, drop-cons forms i kinds.Octets) refl

-- a field is missing
pub count_ends : (past column : ℕ) (forms : List FieldKind) (i : ℕ) (fields : List (List ℕ))
    → i < length forms → fields ≡ [] → count_fault past column (drop i forms) fields ≡ Some (fault causes.Fields past)
count_ends past column forms i fields lt is = rw (is, drop-cons forms i kinds.Octets) refl

-- the fields gone over once answer as those that are counted first
counted_whole : (names : Declared) (word : Word) (column : ℕ) (fields : List (List ℕ)) (found : Option LineFault)
    → counted_read names word column fields found ≡ whole_read names word (counted found (fields_read names no_parts column (row_of word).fields fields))
counted_whole names word column fields None = refl
counted_whole names word column fields (Some found) = refl

-- the answer of the steps after a word is that of the line
worded_by : (names : Declared) (word : Word) (past column : ℕ) (fields : List (List ℕ)) (read : Result FieldValues LineFault)
    → is_of_later_version names word ≡ false
    → is_out_of_order names word ≡ false
    → all_read names no_parts past column (row_of word).fields fields ≡ read
    → (result : Result Line LineRefusal) (new : Declared)
    → Reads (whole_read names word read) names result new
    → Reads (worded_read names past column fields (Some word)) names result new
worded_by names word past column fields read known order is result new r =
    rw (known, order, counted_whole names word column fields (count_fault past column (row_of word).fields fields), is) r

-- the same by what the code knows of its row
pub worded_from : (names : Declared) (word : Word) (past column : ℕ) (fields : List (List ℕ)) (read : Result FieldValues LineFault) (first : FieldValues) (row : Row)
    → row.of_set_up ≡ (row_of word).of_set_up → row.is_later ≡ (row_of word).is_later → row.is_first ≡ (row_of word).is_first → row.fields.now ≡ (row_of word).fields → first ≡ no_parts
    → (row.is_later && not names.second) ≡ false → stands_wrong names row.of_set_up row.is_first ≡ false
    → all_read names first past column row.fields.now fields ≡ read
    → (result : Result Line LineRefusal) (new : Declared)
    → Reads (whole_read names word read) names result new
    → Reads (worded_read names past column fields (Some word)) names result new
worded_from names word past column fields read first row is_set_up is_later is_the_first is_forms is_first known order is result new r =
    worded_by names word past column fields read
    (subst (λ (b : Bool). (b && not names.second) ≡ false) is_later known)
    (subst (λ (b : Bool). stands_wrong names b (row_of word).is_first ≡ false) is_set_up (subst (λ (b : Bool). stands_wrong names row.of_set_up b ≡ false) is_the_first order))
    (subst (λ (f : List FieldKind). all_read names no_parts past column f fields ≡ read) is_forms (subst (λ (p : FieldValues). all_read names p past column row.fields.now fields ≡ read) is_first is))
    result new r

-- the same where a field is refused
pub worded_refused : (names : Declared) (word : Word) (past column : ℕ) (fields : List (List ℕ)) (first after : FieldValues) (row : Row)
    → row.of_set_up ≡ (row_of word).of_set_up → row.is_later ≡ (row_of word).is_later → row.is_first ≡ (row_of word).is_first → row.fields.now ≡ (row_of word).fields → first ≡ no_parts
    → (row.is_later && not names.second) ≡ false → stands_wrong names row.of_set_up row.is_first ≡ false
    → (refusal : LineRefusal)
    → GivesAt {A = FieldValues} {U = Unit {0}} (all_read names first past column row.fields.now fields) (Err refusal) after
    → Reads (worded_read names past column fields (Some word)) names (Err refusal) names
worded_refused names word past column fields first after row is_set_up is_later is_the_first is_forms is_first known order (refusals.Fault found) is =
    worded_from names word past column fields (Err found) first row is_set_up is_later is_the_first is_forms is_first known order is (Err (refusals.Fault found)) names (refl, refl)
worded_refused names word past column fields first after row is_set_up is_later is_the_first is_forms is_first known order refusals.NoMemory is = refl
