-- Where a line that is read comes from: from nothing, or from the fields of a word, with no limit passed.
use Rattle.std.proofs.Common.{◌≡◌, ℕ, ◌+◌, Bool, true, false, List, [], ◌∷◌, length, Option, Some, None, Result, Ok, Err, refl, sym}
use Rattle.std.specs.Prelude.{if◌then◌else◌}
use Rattle.script_lines.specs.declared.cause.LineCause.{LineCause}
use Rattle.script_lines.specs.declared.cause.LineCause.TheVariants as causes
use Rattle.script_lines.specs.declared.cause.LineFault.{LineFault}
use Rattle.script_lines.specs.declared.words.Word.{Word}
use Rattle.script_lines.specs.declared.line.Line.TheVariants as lines
use Rattle.script_lines.specs.declared.field_values.FieldValues.{FieldValues}
use Rattle.script_lines.specs.Field.{fields_of}
use Rattle.script_lines.specs.Known.{Declared, no_parts}
use Rattle.script_lines.specs.Table.{row_of, word_of}
use Rattle.script_lines.specs.Grammar.{Reading, fault, next_column, count_fault, fields_read, limit_cause, next_number, line_for, declared_by, with_limit, whole_read, counted_read, is_of_later_version, is_out_of_order, worded_read, split_read, is_idle, text_read, printable_read, line_read}

-- the fields of a word, with no limit passed
pub record IsWorded (names : Declared) (word : Word) (reading : Reading) : Type 0 where
  pub field : List ℕ
  pub past : ℕ
  pub column : ℕ
  pub fields : List (List ℕ)
  pub parts : FieldValues
  pub word_is : word_of names.dialect field ≡ Some word
  pub placed : is_out_of_order names word ≡ false
  pub counted : count_fault past column (row_of word).fields fields ≡ None
  pub filled : fields_read names no_parts column (row_of word).fields fields ≡ Ok parts
  pub limit : limit_cause names (row_of word).effect parts ≡ None
  pub is : reading ≡ record { line = line_for (next_number names (row_of word).effect) word parts; names = declared_by names (row_of word).effect parts }

pub data Came (names : Declared) (reading : Reading) : Type 0 where
  Idle : reading ≡ record { line = lines.Nothing; names = names } → Came names reading
  Worded : (word : Word) → IsWorded names word reading → Came names reading

abbrev ok : Reading → Result Reading LineFault
ok reading = Ok reading

ok_same : (first second : Reading) → ok first ≡ ok second → first ≡ second
ok_same first second is = cc

module _ (names : Declared) (word : Word) (field : List ℕ) (past column : ℕ) (fields : List (List ℕ)) (word_is : word_of names.dialect field ≡ Some word) where
  limited : (parts : FieldValues) (limit : Option LineCause) (reading : Reading) → is_out_of_order names word ≡ false → count_fault past column (row_of word).fields fields ≡ None
      → fields_read names no_parts column (row_of word).fields fields ≡ Ok parts → limit_cause names (row_of word).effect parts ≡ limit
      → with_limit names word parts limit ≡ Ok reading → Came names reading
  limited parts (Some cause) reading placed counted filled limit i = absurd (cc)
  limited parts None reading placed counted filled limit i =
      Worded word (record {
        field = field;
        past = past;
        column = column;
        fields = fields;
        parts = parts;
        word_is = word_is;
        placed = placed;
        counted = counted;
        filled = filled;
        limit = limit;
        is = sym (ok_same _ reading i);
      })

  whole : (read : Result FieldValues LineFault) (reading : Reading) → is_out_of_order names word ≡ false → count_fault past column (row_of word).fields fields ≡ None
      → fields_read names no_parts column (row_of word).fields fields ≡ read → whole_read names word read ≡ Ok reading → Came names reading
  whole (Err found) reading placed counted filled i = absurd (cc)
  whole (Ok parts) reading placed counted filled i = limited parts _ reading placed counted filled refl i

  counted : (found : Option LineFault) (reading : Reading) → is_out_of_order names word ≡ false → count_fault past column (row_of word).fields fields ≡ found
      → counted_read names word column fields found ≡ Ok reading → Came names reading
  counted (Some found) reading placed count i = absurd (cc)
  counted None reading placed count i = whole _ reading placed count refl i

  ordered : (late out : Bool) (reading : Reading) → is_out_of_order names word ≡ out
      → (if late then Err (fault causes.Word 1) else if out then Err (fault causes.Order 1) else counted_read names word column fields (count_fault past column (row_of word).fields fields)) ≡ Ok reading → Came names reading
  ordered true out reading placed i = absurd (cc)
  ordered false true reading placed i = absurd (cc)
  ordered false false reading placed i = counted _ reading placed refl i

worded : (names : Declared) (field : List ℕ) (past column : ℕ) (fields : List (List ℕ)) (word : Option Word) (reading : Reading) → word_of names.dialect field ≡ word
    → worded_read names past column fields word ≡ Ok reading → Came names reading
worded names field past column fields None reading is i = absurd (cc)
worded names field past column fields (Some word) reading is i = ordered names word field past column fields is (is_of_later_version names word) _ reading refl i

split : (names : Declared) (past : ℕ) (fields : List (List ℕ)) (reading : Reading) → split_read names past fields ≡ Ok reading → Came names reading
split names past [] reading i = absurd (cc)
split names past (word ∷ fields) reading i = worded names word past (next_column 1 word) fields _ reading refl i

idle : (names : Declared) (octets : List ℕ) (is_it : Bool) (reading : Reading)
    → (if is_it then Ok (record { line = lines.Nothing; names = names }) else split_read names (length octets + 1) (fields_of octets)) ≡ Ok reading → Came names reading
idle names octets true reading i = Idle (sym (ok_same _ reading i))
idle names octets false reading i = split names (length octets + 1) (fields_of octets) reading i

text : (names : Declared) (octets : List ℕ) (reading : Reading) → text_read names octets ≡ Ok reading → Came names reading
unfolding text_read
text names octets reading i = idle names octets (is_idle octets) reading i

printable : (names : Declared) (octets : List ℕ) (at : Option ℕ) (reading : Reading) → printable_read names octets at ≡ Ok reading → Came names reading
printable names octets (Some place) reading i = absurd (cc)
printable names octets None reading i = text names octets reading i

long : (names : Declared) (octets : List ℕ) (is_it : Bool) (at : Option ℕ) (reading : Reading) → (if is_it then Err (fault causes.Long 40001) else printable_read names octets at) ≡ Ok reading → Came names reading
long names octets true at reading i = absurd (cc)
long names octets false at reading i = printable names octets at reading i

pub came : (names : Declared) (octets : List ℕ) (reading : Reading) → line_read names octets ≡ Ok reading → Came names reading
unfolding line_read
came names octets reading i = long names octets _ _ reading i
