-- The reader of a line that sets a key refuses it where W would not stay below I; no other line has to do with either.
use Rattle.std.proofs.Common.{◌≡◌, ◌<◌, ℕ, true, List, [], ◌∷◌, None, Ok, refl, sym, ◌∙◌, ap, subst, arith}
use Rattle.std.proofs.lemmas.Bool.{ltb-true}
use Rattle.script_lines.specs.declared.cause.LineCause.TheVariants as causes
use Rattle.script_lines.specs.declared.field_values.FieldValues.{FieldValues}
use Rattle.script_lines.specs.declared.line.Line.{Line}
use Rattle.script_lines.specs.declared.settings.Key.{Key}
use Rattle.script_lines.specs.declared.settings.Key.TheVariants as keys
use Rattle.script_lines.specs.declared.settings.Settings.{Settings}
use Rattle.script_lines.specs.declared.words.Dialect.{Dialect}
use Rattle.script_lines.specs.declared.words.FieldKind.TheVariants as forms
use Rattle.script_lines.specs.declared.words.Word.{Word}
use Rattle.script_lines.specs.declared.words.Word.TheVariants as words
use Rattle.script_lines.specs.declared.words.WordKind.TheVariants as plain
use Rattle.script_lines.specs.Field.{number_of}
use Rattle.script_lines.specs.Grammar.{Reading, count_fault, declared_by, fields_read, line_for, line_read, next_column, next_number}
use Rattle.script_lines.specs.Known.{Declared, no_parts, nothing_declared}
use Rattle.script_lines.specs.Reading.{unset_key, value_of}
use Rattle.script_lines.specs.Script.{Says, Script}
use Rattle.script_lines.specs.Settings.{keeps_order, key_of, least_of, most_of, setting_or, with_setting}
use Rattle.script_lines.specs.Table.{row_of}
use Rattle.script_setup.specs.declared.transport.Limits.{Limits}
use Rattle.script_setup.specs.SetUp.{SetUp, nothing_said, set_up, with_time}
use Rattle.script_bench.specs.steps.Came.{Came, Idle, Worded, came}
use Rattle.law_setup.proofs.Values.{same_parts, step, then_by}
use Rattle.law_recovery_scripts.specs.Ordered.{AreOrdered, set_up_by}

value_orders : (settings : Settings) (key : Key) (field : List ℕ) (value : ℕ) → value_of settings key field ≡ Ok value → keeps_order (with_setting settings key value) ≡ true
unfolding value_of
value_orders settings key field value is = (then_by (number_of (least_of key) (most_of key) field) (λ v. keeps_order (with_setting settings key v)) causes.Range value is).passes

-- a line that sets a key
set_orders : (names : Declared) (past column : ℕ) (fields : List (List ℕ)) (out : FieldValues) → count_fault past column (forms.Plain plain.Key ∷ forms.Plain plain.Value ∷ []) fields ≡ None
    → fields_read names no_parts column (forms.Plain plain.Key ∷ forms.Plain plain.Value ∷ []) fields ≡ Ok out → keeps_order (with_setting names.settings out.key out.number) ≡ true
set_orders names past column [] out count is = absurd (cc)
set_orders names past column (first ∷ []) out count is = absurd (cc)
set_orders names past column (first ∷ second ∷ third ∷ others) out count is = absurd (cc)
set_orders names past column (first ∷ second ∷ []) out count is =
    let a = step column (unset_key names.settings (key_of first)) (λ key. record no_parts { key = key })
    (λ more. fields_read names more (next_column column first) (forms.Plain plain.Value ∷ []) (second ∷ [])) out is in
    let b = step (next_column column first) (value_of names.settings a.value second) (λ value. record no_parts { key = a.value; number = value }) (λ more. Ok more) out a.rest in
    subst (λ (p : FieldValues). keeps_order (with_setting names.settings p.key p.number) ≡ true) (same_parts _ out b.rest) (value_orders names.settings a.value second b.value b.read_is)

module _ (names : Declared) (setup : SetUp) (o : AreOrdered names setup) where
  -- the same W and I
  same : (new : Declared) (later : SetUp) → new.settings ≡ names.settings → later.limits ≡ setup.limits → AreOrdered new later
  same new later settings limits =
      let window : later.limits.window ≡ setup.limits.window = ap (λ (l : Limits). l.window) limits in
      let inactive : later.limits.inactive ≡ setup.limits.inactive = ap (λ (l : Limits). l.inactive) limits in
      record {
        window = window ∙ o.window ∙ ap (λ (s : Settings). setting_or s keys.W) (sym settings);
        inactive = inactive ∙ o.inactive ∙ ap (λ (s : Settings). setting_or s keys.I) (sym settings);
        order = omega (arith, window, inactive, o.order);
      }

  ordered : (value : ℕ) (key : Key) → (with_time setup key value).limits.window ≡ setting_or (with_setting names.settings key value) keys.W
      → (with_time setup key value).limits.inactive ≡ setting_or (with_setting names.settings key value) keys.I → keeps_order (with_setting names.settings key value) ≡ true
      → AreOrdered (record names { settings = with_setting names.settings key value }) (with_time setup key value)
  ordered value key window inactive keeps = record { window = window; inactive = inactive; order = omega (arith, window, inactive, ltb-true _ _ keeps) }

  time_orders : (key : Key) (value : ℕ) → keeps_order (with_setting names.settings key value) ≡ true → AreOrdered (record names { settings = with_setting names.settings key value }) (with_time setup key value)
  time_orders keys.Life value keeps = ordered value keys.Life o.window o.inactive keeps
  time_orders keys.T1 value keeps = ordered value keys.T1 o.window o.inactive keeps
  time_orders keys.W value keeps = ordered value keys.W refl o.inactive keeps
  time_orders keys.I value keeps = ordered value keys.I o.window refl keeps
  time_orders keys.N value keeps = ordered value keys.N o.window o.inactive keeps
  time_orders keys.Refs value keeps = ordered value keys.Refs o.window o.inactive keeps
  time_orders keys.Credit value keeps = ordered value keys.Credit o.window o.inactive keeps
  time_orders keys.Ct value keeps = ordered value keys.Ct o.window o.inactive keeps
  time_orders keys.Hold value keeps = ordered value keys.Hold o.window o.inactive keeps

  module _ (past column : ℕ) (fields : List (List ℕ)) (parts : FieldValues) where
    abbrev After : Word → Type 0
    After word = AreOrdered (declared_by names (row_of word).effect parts) (set_up setup (line_for (next_number names (row_of word).effect) word parts))

    word_orders : (word : Word) → count_fault past column (row_of word).fields fields ≡ None → fields_read names no_parts column (row_of word).fields fields ≡ Ok parts → After word
    word_orders words.Set count filled = time_orders parts.key parts.number (set_orders names past column fields parts count filled)
    word_orders other count filled = same _ _ refl refl

  came_orders : (reading : Reading) → Came names reading → AreOrdered reading.names (set_up setup reading.line)
  came_orders reading (Idle is) = subst (λ (r : Reading). AreOrdered r.names (set_up setup r.line)) (sym is) o
  came_orders reading (Worded word h) =
      subst (λ (r : Reading). AreOrdered r.names (set_up setup r.line)) (sym h.is) (word_orders h.past h.column h.fields h.parts word h.counted h.filled)

pub line_keeps : (names : Declared) (setup : SetUp) (octets : List ℕ) (line : Line) (new : Declared) → AreOrdered names setup
    → line_read names octets ≡ Ok (record { line = line; names = new }) → AreOrdered new (set_up setup line)
line_keeps names setup octets line new o is = came_orders names setup o (record { line = line; names = new }) (came names octets (record { line = line; names = new }) is)

lines_keep : (names last : Declared) (setup : SetUp) (texts : List (List ℕ)) (script : List Line) → AreOrdered names setup → Says names texts script last → AreOrdered last (set_up_by setup script)
lines_keep names last setup [] [] o s = subst (λ (n : Declared). AreOrdered n setup) (sym s) o
lines_keep names last setup [] (line ∷ script) o s = absurd s
lines_keep names last setup (octets ∷ texts) [] o s = absurd s
lines_keep names last setup (octets ∷ texts) (line ∷ script) o s = lines_keep s.0 last (set_up setup line) texts script (line_keeps names setup octets line s.0 o s.1) s.2

pub script_ordered : (dialect : Dialect) (texts : List (List ℕ)) (script : List Line) → Script dialect texts script → (set_up_by nothing_said script).limits.window < (set_up_by nothing_said script).limits.inactive
script_ordered dialect texts script s =
    (lines_keep (nothing_declared dialect) s.0 nothing_said texts script (record { window = refl; inactive = refl; order = omega arith }) s.1).order
