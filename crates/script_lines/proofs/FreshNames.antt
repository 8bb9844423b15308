-- Names stay names, no two alike: a line that declares one asks for a name that stands nowhere, and no other line changes a name.
use Rattle.std.proofs.Common.{◌≡◌, ℕ, ◌<◌, true, List, [], ◌∷◌, ◌++◌, length, map, get_or, Some, None, refl, sym, ◌∙◌, ap, subst, arith, inl, inr, length-append}
use Rattle.std.specs.Prelude.{Option, Ok, position, nat_eq, nat_lt, slice_get}
use Rattle.std.specs.Cmp.Lexicographic.{pointwise}
use Rattle.std.specs.List.{position_or_len}
use Rattle.std.proofs.Math.ListN.{get_or-append}
use Rattle.std.proofs.Math.Seq.{get_or-append_seam, map-set_same}
use Rattle.std.proofs.lemmas.Bool.{cases_lt}
use Rattle.std.proofs.lemmas.Bool.Decides.{nat_tests}
use Rattle.std.proofs.lemmas.List.{length-map, map-append}
use Rattle.std.proofs.lemmas.List.Sums.{fails_before_first}
use Rattle.std.proofs.lemmas.Option.{unwrap_or-slice_get, slice_get-get_or, get_or_from_slice_get}
use Rattle.script_lines.specs.declared.words.Dialect.{Dialect}
use Rattle.script_lines.specs.declared.words.Word.{Word}
use Rattle.script_lines.specs.declared.words.Word.TheVariants as words
use Rattle.script_lines.specs.declared.line.Line.{Line}
use Rattle.script_lines.specs.declared.field_values.FieldValues.{FieldValues}
use Rattle.script_lines.specs.declared.system.LanRow.{LanRow}
use Rattle.script_lines.specs.Field.{is_name}
use Rattle.script_lines.specs.Known.{Declared, KnownSystem, nothing_declared, with_changed, changed}
use Rattle.script_lines.specs.Script.{Says}
use Rattle.script_lines.specs.Table.{row_of}
use Rattle.script_lines.specs.Tags.{AreNames, HaveNames, name_at}
use Rattle.script_lines.specs.Grammar.{Reading, declared_by, line_read}
use Rattle.script_lines.proofs.Came.{Came, Idle, Worded, came}
use Rattle.script_lines.proofs.Filled.{AllGood, onto}
use Rattle.script_lines.proofs.Named.{name_there}
use Rattle.script_lines.proofs.Printing.{at_end}

-- ---- one name more

data At (names : List (List ℕ)) (name : List ℕ) (n : ℕ) : Type 0 where
  Front : n < length names → name_at (names ++ name ∷ []) n ≡ name_at names n → At names name n
  End : n ≡ length names → name_at (names ++ name ∷ []) n ≡ name → At names name n

at : (names : List (List ℕ)) (name : List ℕ) (n : ℕ) → n < length (names ++ name ∷ []) → At names name n
at names name n lt = elim (cases_lt n (length names)) [
  | inl front ↦ Front front (unwrap_or-slice_get (names ++ name ∷ []) n [] ∙ get_or-append names (name ∷ []) [] n front ∙ sym (unwrap_or-slice_get names n []))
  | inr past ↦ let here : n ≡ length names = omega (arith, length-append names (name ∷ [])) in
      End here (unwrap_or-slice_get (names ++ name ∷ []) n [] ∙ ap (λ (i : ℕ). get_or (names ++ name ∷ []) i []) here ∙ get_or-append_seam names name [] [])
]

one_by : (names : List (List ℕ)) (name : List ℕ) (first second : ℕ) → AreNames names → ((i : ℕ) → i < length names → name_at names i ≡ name → ⊥)
    → name_at (names ++ name ∷ []) first ≡ name_at (names ++ name ∷ []) second → At names name first → At names name second → first ≡ second
one_by names name first second are fresh same (Front a ea) (Front b eb) = are.one first second a b (sym ea ∙ same ∙ eb)
one_by names name first second are fresh same (Front a ea) (End b eb) = absurd (fresh first a (sym ea ∙ same ∙ eb))
one_by names name first second are fresh same (End a ea) (Front b eb) = absurd (fresh second b (sym eb ∙ sym same ∙ ea))
one_by names name first second are fresh same (End a ea) (End b eb) = a ∙ sym b

named_by : (names : List (List ℕ)) (name : List ℕ) (n : ℕ) → AreNames names → is_name name ≡ true → At names name n → is_name (name_at (names ++ name ∷ []) n) ≡ true
named_by names name n are named (Front a ea) = ap is_name ea ∙ are.named n a
named_by names name n are named (End a ea) = ap is_name ea ∙ named

one_more : (names : List (List ℕ)) (name : List ℕ) → AreNames names → is_name name ≡ true → ((i : ℕ) → i < length names → name_at names i ≡ name → ⊥) → AreNames (names ++ name ∷ [])
one_more names name are named fresh = record {
  named = λ n lt. named_by names name n are named (at names name n lt);
  one = λ first second lf ls same. one_by names name first second are fresh same (at names name first lf) (at names name second ls);
}

-- ---- a name that stands nowhere

same_word : (xs : List ℕ) → pointwise nat_eq xs xs ≡ true
same_word [] = refl
same_word (x ∷ xs) = let here : nat_eq x x ≡ true = grind (arith, nat_tests) in rw here (same_word xs)

nowhere : {A : Type 0} (f : A → List ℕ) (rows : List A) (name : List ℕ) → position (λ row. pointwise nat_eq (f row) name) rows ≡ None
    → (i : ℕ) → i < length (map f rows) → name_at (map f rows) i ≡ name → ⊥
nowhere f [] name none i lt is = absurd (omega arith)
nowhere f (row ∷ rows) name none i lt is =
    let test = λ (r : _). pointwise nat_eq (f r) name in
    let within : i < length (row ∷ rows) = omega (arith, length-map (row ∷ rows) f) in
    let past = at_end (position_or_len test (row ∷ rows)) (length (row ∷ rows)) (nat_lt (position_or_len test (row ∷ rows)) (length (row ∷ rows))) refl none in
    let fails = fails_before_first test (row ∷ rows) i row (omega arith) in
    let there = name_there f (row ∷ rows) i (get_or (row ∷ rows) i row) (slice_get-get_or (row ∷ rows) i row within) in
    let holds : pointwise nat_eq (f (get_or (row ∷ rows) i row)) name ≡ true = ap (λ (text : List ℕ). pointwise nat_eq text name) (sym there ∙ is) ∙ same_word name in
    cc

-- ---- names that stay

kept : (systems : List KnownSystem) (at : ℕ) (change : KnownSystem → KnownSystem) → ((system : KnownSystem) → (change system).name ≡ system.name)
    → map (λ system. system.name) (changed systems at change) ≡ map (λ system. system.name) systems
kept systems at change same = by (slice_get systems at) refl
  where
    by : (found : Option KnownSystem) → slice_get systems at ≡ found → map (λ system. system.name) (with_changed systems at change found) ≡ map (λ system. system.name) systems
    by None is = refl
    by (Some system) is =
        map-set_same (λ (s : KnownSystem). s.name) systems at (change system) system (same system ∙ ap (λ (s : KnownSystem). s.name) (sym (get_or_from_slice_get systems at system system is)))

-- ---- a line

kept_by : (names : Declared) (word : Word) (parts : FieldValues) → AllGood names (onto (row_of word).fields []) parts → HaveNames names → HaveNames (declared_by names (row_of word).effect parts)
kept_by names words.Lan parts g h =
    (h.0, subst AreNames (sym (map-append (λ (lan : LanRow). lan.name) names.lans _)) (one_more _ parts.name h.1 g.1.1.0.0 (nowhere (λ (lan : LanRow). lan.name) names.lans parts.name g.1.1.0.1)))
kept_by names words.Es parts g h =
    (subst AreNames (sym (map-append (λ (system : KnownSystem). system.name) names.systems _)) (one_more _ parts.name h.0 g.1.0.0 (nowhere (λ (system : KnownSystem). system.name) names.systems parts.name g.1.0.1)), h.1)
kept_by names words.Is parts g h =
    (subst AreNames (sym (map-append (λ (system : KnownSystem). system.name) names.systems _)) (one_more _ parts.name h.0 g.1.0.0 (nowhere (λ (system : KnownSystem). system.name) names.systems parts.name g.1.0.1)), h.1)
kept_by names words.Port parts g h = (subst AreNames (sym (kept names.systems parts.system _ (λ system. refl))) h.0, h.1)
kept_by names words.Route parts g h = (subst AreNames (sym (kept names.systems parts.system _ (λ system. refl))) h.0, h.1)
kept_by names words.Tsap parts g h = (subst AreNames (sym (kept names.systems parts.system _ (λ system. refl))) h.0, h.1)
kept_by names words.Relay parts g h = (subst AreNames (sym (kept names.systems parts.system _ (λ system. refl))) h.0, h.1)
kept_by names word parts g h = h

by_origin : (names : Declared) (reading : Reading) → Came names reading → HaveNames names → HaveNames reading.names
by_origin names reading (Idle is) h = subst HaveNames (sym (ap (λ (r : Reading). r.names) is)) h
by_origin names reading (Worded word parts its good is) h = subst HaveNames (sym (ap (λ (r : Reading). r.names) is)) (kept_by names word parts good h)

line_keeps : (names : Declared) (octets : List ℕ) (reading : Reading) → line_read names octets ≡ Ok reading → HaveNames names → HaveNames reading.names
line_keeps names octets reading is h = by_origin names reading (came names octets reading is) h

says_keep : (old : Declared) (script : List (List ℕ)) (said : List Line) (last : Declared) → Says old script said last → HaveNames old → HaveNames last
says_keep old [] [] last says h = subst HaveNames (sym says) h
says_keep old [] (line ∷ said) last says h = absurd says
says_keep old (octets ∷ others) [] last says h = absurd says
says_keep old (octets ∷ others) (line ∷ said) last says h =
    says_keep says.0 others said last says.2 (line_keeps old octets (record { line = line; names = says.0 }) says.1 h)

no_names : AreNames []
no_names = record {
  named = λ n lt. absurd (omega arith);
  one = λ first second lf ls same. absurd (omega arith);
}

-- the names of a script are names
pub script_names : (dialect : Dialect) (script : List (List ℕ)) (said : List Line) (last : Declared) → Says (nothing_declared dialect) script said last → HaveNames last
script_names dialect script said last says = says_keep (nothing_declared dialect) script said last says (no_names, no_names)
