-- A line that is read is one of its command: its word is among those of the command, and each of these makes such a line.
use Rattle.std.proofs.Common.{◌≡◌, ℕ, Bool, true, false, List, [], ◌∷◌, Some, refl, sym, ◌∙◌, ap, subst}
use Rattle.std.specs.Prelude.{Ok, find, if◌then◌else◌}
use Rattle.std.specs.List.{AllByRecursion}
use Rattle.script_lines.specs.declared.words.Dialect.{Dialect}
use Rattle.script_lines.specs.declared.words.Dialect.TheVariants as dialects
use Rattle.script_lines.specs.declared.words.Effect.{Effect}
use Rattle.script_lines.specs.declared.words.Effect.TheVariants as effects
use Rattle.script_lines.specs.declared.words.Word.{Word}
use Rattle.script_lines.specs.declared.line.Line.{Line}
use Rattle.script_lines.specs.declared.line.Line.TheVariants as lines
use Rattle.script_lines.specs.declared.field_values.FieldValues.{FieldValues}
use Rattle.script_lines.specs.Commands.{HasLine}
use Rattle.script_lines.specs.Field.{is_word}
use Rattle.script_lines.specs.Grammar.{Reading, declared_by, line_for, line_read, next_number}
use Rattle.script_lines.specs.Known.{Declared, nothing_declared}
use Rattle.script_lines.specs.Script.{Says}
use Rattle.script_lines.specs.Table.{row_of, words_of}
use Rattle.script_lines.proofs.Came.{Came, Idle, IsWordOf, Worded, came}

-- what holds of all words holds of the one that is found
found_among : (P : Word → Type 0) (test : Word → Bool) (all : List Word) (word : Word) → AllByRecursion P all → find test all ≡ Some word → P word
found_among P test [] word each is = absurd (cc)
found_among P test (first ∷ all) word each is = by (found_among P test all word each.1) (test first) is
  where
    by : (find test all ≡ Some word → P word) → (b : Bool) → (if b then Some first else find test all) ≡ Some word → P word
    by rest true i = let same : first ≡ word = cc in subst P same each.0
    by rest false i = rest i

each_has : (dialect : Dialect) (number : ℕ) (parts : FieldValues) → AllByRecursion (λ word. HasLine dialect (line_for number word parts)) (words_of dialect)
each_has dialects.Run number parts = (tt, (tt, (tt, (tt, (tt, (tt, (tt, (tt, (tt, (tt, (tt, (tt, (tt, (tt, (tt, (tt, (tt, (tt, (tt, (tt, (tt, (tt, (tt, tt)))))))))))))))))))))))
each_has dialects.Datagrams number parts = (tt, (tt, (tt, (tt, (tt, (tt, (tt, (tt, (tt, (tt, (tt, (tt, (tt, tt)))))))))))))
each_has dialects.Inactive number parts = (tt, (tt, (tt, (tt, (tt, (tt, (tt, (tt, (tt, (tt, (tt, (tt, (tt, (tt, (tt, (tt, (tt, tt)))))))))))))))))
each_has dialects.Relay number parts = (tt, (tt, (tt, (tt, (tt, (tt, (tt, (tt, (tt, (tt, (tt, (tt, (tt, (tt, (tt, (tt, (tt, (tt, (tt, (tt, (tt, tt)))))))))))))))))))))

idle_has : (dialect : Dialect) → HasLine dialect lines.Nothing
idle_has dialects.Run = tt
idle_has dialect = tt

word_has : (dialect : Dialect) (number : ℕ) (word : Word) (parts : FieldValues) → IsWordOf dialect word → HasLine dialect (line_for number word parts)
word_has dialect number word parts its =
    found_among (λ w. HasLine dialect (line_for number w parts)) (λ w. is_word (row_of w).text its.0) (words_of dialect) word (each_has dialect number parts) its.1

declared_stays : (names : Declared) (effect : Effect) (parts : FieldValues) → (declared_by names effect parts).dialect ≡ names.dialect
declared_stays names effects.Nothing parts = refl
declared_stays names effect parts = refl

came_has : (names : Declared) (reading : Reading) → Came names reading → HasLine names.dialect reading.line
came_has names reading (Idle is) = subst (HasLine names.dialect) (sym (ap (λ (r : Reading). r.line) is)) (idle_has names.dialect)
came_has names reading (Worded word parts its good is) =
    subst (HasLine names.dialect) (sym (ap (λ (r : Reading). r.line) is)) (word_has names.dialect (next_number names (row_of word).effect) word parts its)

came_stays : (names : Declared) (reading : Reading) → Came names reading → reading.names.dialect ≡ names.dialect
came_stays names reading (Idle is) = ap (λ (r : Reading). r.names.dialect) is
came_stays names reading (Worded word parts its good is) = ap (λ (r : Reading). r.names.dialect) is ∙ declared_stays names (row_of word).effect parts

pub line_has : (names : Declared) (octets : List ℕ) (reading : Reading) → line_read names octets ≡ Ok reading → HasLine names.dialect reading.line
line_has names octets reading is = came_has names reading (came names octets reading is)

pub line_stays : (names : Declared) (octets : List ℕ) (reading : Reading) → line_read names octets ≡ Ok reading → reading.names.dialect ≡ names.dialect
line_stays names octets reading is = came_stays names reading (came names octets reading is)

says_have : (dialect : Dialect) (old : Declared) (script : List (List ℕ)) (said : List Line) (last : Declared) → old.dialect ≡ dialect → Says old script said last → AllByRecursion (HasLine dialect) said
says_have dialect old [] [] last same says = tt
says_have dialect old [] (line ∷ said) last same says = absurd says
says_have dialect old (octets ∷ others) [] last same says = tt
says_have dialect old (octets ∷ others) (line ∷ said) last same says =
    let reading : Reading = record { line = line; names = says.0 } in (
      subst (λ (d : Dialect). HasLine d line) same (line_has old octets reading says.1),
      says_have dialect says.0 others said last (line_stays old octets reading says.1 ∙ same) says.2,
    )

pub script_has : (dialect : Dialect) (script : List (List ℕ)) (said : List Line) (last : Declared) → Says (nothing_declared dialect) script said last → AllByRecursion (HasLine dialect) said
script_has dialect script said last says = says_have dialect (nothing_declared dialect) script said last refl says
