-- A line that is read names what is declared.
use Rattle.std.proofs.Common.{◌≡◌, ℕ, List, [], refl, sym, ap, subst}
use Rattle.std.specs.Prelude.{Ok}
use Rattle.script_lines.specs.declared.words.Word.{Word}
use Rattle.script_lines.specs.declared.words.Word.TheVariants as words
use Rattle.script_lines.specs.declared.field_values.FieldValues.{FieldValues}
use Rattle.script_lines.specs.Known.{Declared}
use Rattle.script_lines.specs.Table.{row_of}
use Rattle.script_lines.specs.Grammar.{Reading, next_number, line_for, line_read}
use Rattle.script_lines.specs.Names.{NamesDeclared}
use Rattle.script_lines.proofs.Came.{Came, Idle, Worded, came}
use Rattle.script_lines.proofs.Filled.{AllGood, onto}

named : (names : Declared) (word : Word) (parts : FieldValues) → AllGood names (onto (row_of word).fields []) parts → NamesDeclared names (line_for (next_number names (row_of word).effect) word parts)
named names words.Lan parts g = refl
named names words.Es parts g = refl
named names words.Is parts g = refl
named names words.Port parts g = (g.1.1.0, g.1.0)
named names words.Route parts g = (g.1.1.1.0, g.1.0, g.0)
named names words.Path parts g = (refl, g.0)
named names words.Tsap parts g = g.1.0
named names words.Relay parts g = (g.1.1.1.0, g.1.0.0, g.1.0.1)
named names words.Connect parts g = (g.1.1.1.1.1.1.1.1.0, g.1.1.1.1.1.1.0)
named names words.Unit parts g = (g.1.1.1.1.0, g.1.1.1.0, g.1.0)
named names words.Deliver parts g = g.0
named names words.Inject parts g = (g.1.1.0, g.1.0)
named names words.Restart parts g = g.0
named names words.Send parts g = (g.1.1.1.1.0, g.1.1.0)
named names word parts g = tt

by_origin : (names : Declared) (reading : Reading) → Came names reading → NamesDeclared names reading.line
by_origin names reading (Idle is) = subst (NamesDeclared names) (sym (ap (λ (r : Reading). r.line) is)) tt
by_origin names reading (Worded word parts its good is) = subst (NamesDeclared names) (sym (ap (λ (r : Reading). r.line) is)) (named names word parts good)

pub line_named : (names : Declared) (octets : List ℕ) (reading : Reading) → line_read names octets ≡ Ok reading → NamesDeclared names reading.line
line_named names octets reading is = by_origin names reading (came names octets reading is)
