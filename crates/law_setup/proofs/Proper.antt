-- A line that was read keeps the limits of the script: its size of a TPDU is one that a script may name, its selectors have 32 octets at most, and its
-- credit is at most 255.
use Rattle.std.proofs.Common.{◌≡◌, ℕ, ◌≤◌, Bool, true, false, List, [], ◌∷◌, length, Result, Ok, Err, refl, sym, ◌∙◌, subst, arith}
use Rattle.std.specs.Prelude.{◌&&◌, if◌then◌else◌, nat_le}
use Rattle.std.specs.List.{AllByRecursion}
use Rattle.std.proofs.lemmas.Bool.Decides.{nat_tests}
use Rattle.script_lines.specs.declared.cause.LineCause.{LineCause}
use Rattle.script_lines.specs.declared.cause.LineCause.TheVariants as causes
use Rattle.script_lines.specs.declared.words.FieldKind.{FieldKind}
use Rattle.script_lines.specs.declared.words.FieldKind.TheVariants as forms
use Rattle.script_lines.specs.declared.words.NameKind.TheVariants as named
use Rattle.script_lines.specs.declared.words.WordKind.TheVariants as plain
use Rattle.script_lines.specs.declared.words.Word.{Word}
use Rattle.script_lines.specs.declared.words.Word.TheVariants as words
use Rattle.script_lines.specs.declared.line.Line.{Line}
use Rattle.script_lines.specs.declared.line.Line.TheVariants as lines
use Rattle.script_lines.specs.declared.field_values.FieldValues.{FieldValues}
use Rattle.script_lines.specs.Field.{octets_of, within}
use Rattle.script_lines.specs.Gives.{into, then_read}
use Rattle.script_lines.specs.Grammar.{Reading, at_column, fields_read, line_for, next_column, next_number}
use Rattle.script_lines.specs.Known.{Declared, no_parts}
use Rattle.script_lines.specs.Reading.{field_read, new_selector, selector_of}
use Rattle.script_lines.specs.Script.{Says}
use Rattle.script_lines.specs.Table.{row_of}
use Rattle.law_tp4_lawful.specs.Limits.{IsProperLine}
use Rattle.script_bench.specs.steps.Came.{Came, Idle, Worded, came}
use Rattle.law_setup.specs.Lines.{RunsAt}
use Rattle.script_bench.specs.steps.Moves.{line_moves}
use Rattle.law_setup.proofs.Started.{still_started}
use Rattle.law_setup.proofs.Kept.{line_runs}
use Rattle.law_setup.proofs.Values.{same_parts, then_by}

-- ---- selectors

-- selectors of a line have 32 octets at most
abbrev AreShort : FieldValues → Type 0
AreShort parts = (length parts.selector ≤ 32) × (length parts.called ≤ 32)

short_within : (octets selector : List ℕ) (b : Bool) → (nat_le 1 (length octets) && nat_le (length octets) 32) ≡ b → (if b then Ok octets else Err causes.Range) ≡ Ok selector → length selector ≤ 32
short_within octets selector true fits is = let same : octets ≡ selector = cc in subst (λ (s : List ℕ). length s ≤ 32) same (grind (arith, nat_tests))
short_within octets selector false fits is = absurd (cc)

short_by : (read : Result (List ℕ) LineCause) (selector : List ℕ) → then_read read (within 1 32) ≡ Ok selector → length selector ≤ 32
short_by (Err cause) selector is = absurd (cc)
short_by (Ok octets) selector is = short_within octets selector (nat_le 1 (length octets) && nat_le (length octets) 32) refl is

selector_short : (field selector : List ℕ) → selector_of field ≡ Ok selector → length selector ≤ 32
unfolding selector_of
selector_short field selector is = short_by (octets_of field) selector is

new_selector_short : (names : Declared) (system : ℕ) (field selector : List ℕ) → new_selector names system field ≡ Ok selector → length selector ≤ 32
unfolding new_selector
new_selector_short names system field selector is = selector_short field selector (then_by (selector_of field) _ causes.Repeat selector is).read_is

put_short : {A : Type 0} (read : Result A LineCause) (put : A → FieldValues) (more : FieldValues) → into read put ≡ Ok more → ((value : A) → read ≡ Ok value → AreShort (put value)) → AreShort more
put_short (Err cause) put more is short = absurd (cc)
put_short (Ok value) put more is short = let same : put value ≡ more = cc in subst AreShort same (short value refl)

short_field : (names : Declared) (form : FieldKind) (parts more : FieldValues) (field : List ℕ) → field_read names parts form field ≡ Ok more → AreShort parts → AreShort more
short_field names (forms.Named named.System) parts more field is s = put_short _ _ more is (λ value read. s)
short_field names (forms.Plain plain.Key) parts more field is s = put_short _ _ more is (λ value read. s)
short_field names forms.NewSelector parts more field is s = put_short _ _ more is (λ value read. (new_selector_short names parts.system field value read, s.1))
short_field names forms.Selector parts more field is s = put_short _ _ more is (λ value read. (selector_short field value read, s.1))
short_field names forms.Called parts more field is s = put_short _ _ more is (λ value read. (s.0, selector_short field value read))
short_field names other parts more field is s = put_short _ _ more is (λ value read. s)

short_fields : (names : Declared) (forms : List FieldKind) (fields : List (List ℕ)) (column : ℕ) (parts out : FieldValues) → fields_read names parts column forms fields ≡ Ok out → AreShort parts → AreShort out
short_fields names [] fields column parts out is s = subst AreShort (same_parts parts out is) s
short_fields names (form ∷ forms) [] column parts out is s = subst AreShort (same_parts parts out is) s
short_fields names (form ∷ forms) (field ∷ fields) column parts out is s =
    by (λ more i short. short_fields names forms fields (next_column column field) more out i short) (field_read names parts form field) refl is
  where
    by : ((more : FieldValues) → fields_read names more (next_column column field) forms fields ≡ Ok out → AreShort more → AreShort out) → (read : Result FieldValues LineCause) → field_read names parts form field ≡ read
        → at_column column read (λ more. fields_read names more (next_column column field) forms fields) ≡ Ok out → AreShort out
    by rest (Err cause) here i = absurd (cc)
    by rest (Ok more) here i = rest more i (short_field names form parts more field here s)

-- ---- one line

-- the selectors of a connect line
abbrev HasShort : Line → Type 0
HasShort (lines.Connect system selector to called options octets) = (length selector ≤ 32) × (length called ≤ 32)
HasShort line = Unit {0}

word_short : (number : ℕ) (word : Word) (parts : FieldValues) → AreShort parts → HasShort (line_for number word parts)
word_short number words.Connect parts s = s
word_short number other parts s = tt

came_short : (names : Declared) (reading : Reading) → Came names reading → HasShort reading.line
came_short names reading (Idle is) = subst (λ (r : Reading). HasShort r.line) (sym is) tt
came_short names reading (Worded word h) =
    subst (λ (r : Reading). HasShort r.line) (sym h.is)
    (word_short (next_number names (row_of word).effect) word h.parts (short_fields names (row_of word).fields h.fields h.column no_parts h.parts h.filled (omega arith, omega arith)))

line_proper : (count clock : ℕ) (line : Line) → RunsAt count clock line → HasShort line → IsProperLine line
line_proper count clock (lines.Connect system selector to called options octets) runs s = (runs.2, s.0, s.1)
line_proper count clock (lines.Accept end options octets) runs s = runs
line_proper count clock (lines.Window end credit) runs s = runs
line_proper count clock other runs s = tt

-- ---- the lines after the set-up

pub script_proper : (names : Declared) (texts : List (List ℕ)) (script : List Line) (last : Declared) → names.started ≡ true → Says names texts script last → AllByRecursion IsProperLine script
script_proper names [] [] last begun says = tt
script_proper names [] (line ∷ script) last begun says = absurd says
script_proper names (text ∷ texts) [] last begun says = tt
script_proper names (text ∷ texts) (line ∷ script) last begun says =
    let new = says.0 in
    let reading : Reading = record { line = line; names = new } in (
      line_proper (length names.systems) 0 line (line_runs names 0 text line new begun (omega arith) says.1) (came_short names reading (came names text reading says.1)),
      script_proper new texts script last ((line_moves names text line new says.1).started ∙ still_started names.started line begun) says.2,
    )
