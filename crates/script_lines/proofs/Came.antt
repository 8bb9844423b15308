-- Where a line that is read comes from: from nothing, or from the fields of a word, with no limit passed.
use Rattle.std.proofs.Common.{◌≡◌, ℕ, ◌+◌, Bool, true, false, List, [], ◌∷◌, length, Some, None, refl, sym}
use Rattle.std.specs.Prelude.{Option, Result, Ok, Err, if◌then◌else◌}
use Rattle.script_lines.specs.declared.cause.LineCause.{LineCause}
use Rattle.script_lines.specs.declared.cause.LineCause.TheVariants as causes
use Rattle.script_lines.specs.declared.cause.LineFault.{LineFault}
use Rattle.script_lines.specs.declared.words.Dialect.{Dialect}
use Rattle.script_lines.specs.declared.words.Word.{Word}
use Rattle.script_lines.specs.declared.words.Word.TheVariants as words
use Rattle.script_lines.specs.declared.line.Line.TheVariants as lines
use Rattle.script_lines.specs.declared.field_values.FieldValues.{FieldValues}
use Rattle.script_lines.specs.Field.{fields_of}
use Rattle.script_lines.specs.Known.{Declared, no_parts}
use Rattle.script_lines.specs.Table.{row_of, word_of}
use Rattle.script_lines.specs.Grammar.{Reading, fault, next_column, count_fault, fields_read, next_number, line_for, declared_by, with_limit, whole_read, counted_read, is_of_later_version, is_out_of_order, worded_read, split_read, is_idle, text_read, printable_read, line_read}
use Rattle.script_lines.proofs.Filled.{AllGood, are_clear, onto, all_good}

abbrev ok : Reading → Result Reading LineFault
ok reading = Ok reading

ok_same : (first second : Reading) → ok first ≡ ok second → first ≡ second
ok_same first second is = cc

row_clear : (word : Word) → are_clear [] (row_of word).fields ≡ true
row_clear words.Version = refl
row_clear word = refl

-- the word names a line in the scripts of the command
abbrev pub IsWordOf : Dialect → Word → Type 0
IsWordOf dialect word = (field : List ℕ) × (word_of dialect field ≡ Some word)

-- where a reading comes from
pub data Came (names : Declared) (reading : Reading) : Type 0 where
  Idle : reading ≡ record { line = lines.Nothing; names = names } → Came names reading
  Worded : (word : Word) (parts : FieldValues) → IsWordOf names.dialect word → AllGood names (onto (row_of word).fields []) parts
      → reading ≡ record { line = line_for (next_number names (row_of word).effect) word parts; names = declared_by names (row_of word).effect parts } → Came names reading

limited : (names : Declared) (word : Word) (parts : FieldValues) (limit : Option LineCause) (reading : Reading) → IsWordOf names.dialect word → with_limit names word parts limit ≡ Ok reading
    → AllGood names (onto (row_of word).fields []) parts → Came names reading
limited names word parts (Some cause) reading its is g = absurd (cc)
limited names word parts None reading its is g = Worded word parts its g (sym (ok_same _ reading is))

whole : (names : Declared) (word : Word) (past column : ℕ) (fields : List (List ℕ)) (read : Result FieldValues LineFault) (reading : Reading) → IsWordOf names.dialect word
    → count_fault past column (row_of word).fields fields ≡ None → fields_read names no_parts column (row_of word).fields fields ≡ read
    → whole_read names word read ≡ Ok reading → Came names reading
whole names word past column fields (Err found) reading its count is i = absurd (cc)
whole names word past column fields (Ok parts) reading its count is i =
    limited names word parts _ reading its i (all_good names no_parts parts past column [] (row_of word).fields fields (row_clear word) tt count is)

counted : (names : Declared) (word : Word) (past column : ℕ) (fields : List (List ℕ)) (found : Option LineFault) (reading : Reading) → IsWordOf names.dialect word
    → count_fault past column (row_of word).fields fields ≡ found → counted_read names word column fields found ≡ Ok reading → Came names reading
counted names word past column fields (Some found) reading its count i = absurd (cc)
counted names word past column fields None reading its count i = whole names word past column fields _ reading its count refl i

-- a test that fails a reading did not hold where it was read
passes : {A : Type 0} (fails : Bool) (f : LineFault) (r : Result A LineFault) (x : A) → (if fails then Err f else r) ≡ Ok x → r ≡ Ok x
passes true f r x is = absurd (cc)
passes false f r x is = is

worded : (names : Declared) (field : List ℕ) (past column : ℕ) (fields : List (List ℕ)) (word : Option Word) (reading : Reading) → word_of names.dialect field ≡ word
    → worded_read names past column fields word ≡ Ok reading → Came names reading
worded names field past column fields None reading named i = absurd (cc)
worded names field past column fields (Some word) reading named i =
    counted names word past column fields _ reading (field, named) refl
    (passes (is_out_of_order names word) (fault causes.Order 1) _ reading (passes (is_of_later_version names word) (fault causes.Word 1) _ reading i))

split : (names : Declared) (past : ℕ) (fields : List (List ℕ)) (reading : Reading) → split_read names past fields ≡ Ok reading → Came names reading
split names past [] reading i = absurd (cc)
split names past (word ∷ fields) reading i = worded names word past (next_column 1 word) fields _ reading refl i

printable : (names : Declared) (octets : List ℕ) (at : Option ℕ) (reading : Reading) → printable_read names octets at ≡ Ok reading → Came names reading
unfolding text_read
printable names octets (Some place) reading i = absurd (cc)
printable names octets None reading i = idle (is_idle octets) i
  where
    idle : (is_it : Bool) → (if is_it then Ok (record { line = lines.Nothing; names = names }) else split_read names (length octets + 1) (fields_of octets)) ≡ Ok reading → Came names reading
    idle true i = Idle (sym (ok_same _ reading i))
    idle false i = split names (length octets + 1) (fields_of octets) reading i

pub came : (names : Declared) (octets : List ℕ) (reading : Reading) → line_read names octets ≡ Ok reading → Came names reading
unfolding line_read
came names octets reading i = printable names octets _ reading (passes _ (fault causes.Long 40001) _ reading i)
