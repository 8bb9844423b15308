-- What each field of a line keeps of what was read before it: a size that is one, a credit in its bounds, and octets; so each line that
-- was read has these.
use Rattle.std.proofs.Common.{◌≡◌, ◌==◌, ℕ, ◌*◌, ◌≤◌, drop, Bool, true, false, List, [], ◌∷◌, ◌++◌, length, None, Result, Ok, Err, refl, sym, subst, append_assoc, arith}
use Rattle.std.specs.Prelude.{◌||◌, ◌&&◌, if◌then◌else◌, nat_le}
use Rattle.std.specs.List.{AllByRecursion, list_any}
use Rattle.std.proofs.lemmas.Bool.Decides.{nat_tests}
use Rattle.law_carrier_answers.specs.Answers.{AreOctets}
use Rattle.tp4_conn.specs.End.{IsSize, IsSizedBy}
use Rattle.script_lines.specs.declared.cause.LineCause.{LineCause}
use Rattle.script_lines.specs.declared.cause.LineCause.TheVariants as causes
use Rattle.script_lines.specs.declared.field_forms.TpduSize.{TpduSize}
use Rattle.script_lines.specs.declared.words.FieldKind.{FieldKind}
use Rattle.script_lines.specs.declared.words.FieldKind.TheVariants as forms
use Rattle.script_lines.specs.declared.words.NameKind.TheVariants as named
use Rattle.script_lines.specs.declared.words.WordKind.TheVariants as plain
use Rattle.script_lines.specs.declared.field_values.FieldValues.{FieldValues}
use Rattle.script_lines.specs.Field.{number_of, octets_of, within}
use Rattle.script_lines.specs.Gives.{into, then_read}
use Rattle.script_lines.specs.Grammar.{at_column, count_fault, fields_read, next_column}
use Rattle.script_lines.specs.Known.{Declared, no_parts}
use Rattle.script_lines.specs.Reading.{as_listed, as_preferred, field_read, is_preferred, is_size, new_selector, passing, selector_of, size_of, with_size}
use Rattle.script_lines.specs.Table.{agreement}
use Rattle.law_setup.specs.Lines.{IsShort}
use Rattle.law_setup.proofs.InOctets.{unit_octets}
use Rattle.law_setup.proofs.Values.{number_within, same_parts, then_by}

-- ---- what one field gives

any_listed : (P : ℕ → Type 0) (listed : List ℕ) (n : ℕ) → AllByRecursion P listed → list_any (λ other. other == n) listed ≡ true → P n
any_listed P [] n all is = absurd (cc)
any_listed P (first ∷ listed) n all is = by (any_listed P listed n all.1) (first == n) refl is
  where
    by : (list_any (λ other. other == n) listed ≡ true → P n) → (b : Bool) → (first == n) ≡ b → (b || list_any (λ other. other == n) listed) ≡ true → P n
    by others true here i = let same : first ≡ n = grind (arith, nat_tests) in subst P same all.0
    by others false here i = others i

sizes_listed : AllByRecursion IsSize (128 ∷ 256 ∷ 512 ∷ 1024 ∷ 2048 ∷ 4096 ∷ 8192 ∷ [])
unfolding IsSize
sizes_listed = (refl, (refl, (refl, (refl, (refl, (refl, (refl, tt)))))))

abbrev IsSizeRead : TpduSize → Type 0
IsSizeRead size = IsSizedBy size.preferred size.octets

listed_by : (read : Result ℕ LineCause) (size : TpduSize) → as_listed read ≡ Ok size → IsSizeRead size
listed_by (Err cause) size is = absurd (cc)
listed_by (Ok first) size is = by (is_size first) refl is
  where
    by : (b : Bool) → is_size first ≡ b → passing b causes.Syntax (record { octets = first; preferred = false }) ≡ Ok size → IsSizeRead size
    by true listed i =
        let same : record { octets = first; preferred = false } ≡ size = cc in
        subst IsSizeRead same (any_listed IsSize (128 ∷ 256 ∷ 512 ∷ 1024 ∷ 2048 ∷ 4096 ∷ 8192 ∷ []) first sizes_listed listed)
    by false listed i = absurd (cc)

preferred_by : (digits : List ℕ) (read : Result ℕ LineCause) (size : TpduSize) → number_of 1 128 digits ≡ read → as_preferred read ≡ Ok size → IsSizeRead size
preferred_by digits (Err cause) size reads is = absurd (cc)
preferred_by digits (Ok number) size reads is =
    let within = number_within 1 128 digits number reads in
    let same : record { octets = 128 * number; preferred = true } ≡ size = cc in
    subst IsSizeRead same (number, refl, within.least_is, within.most_is)

size_read : (second : Bool) (field : List ℕ) (size : TpduSize) → size_of second field ≡ Ok size → IsSizeRead size
unfolding size_of
size_read second field size is = by (second && is_preferred field) is
  where
    by : (b : Bool) → (if b then as_preferred (number_of 1 128 (drop 1 field)) else as_listed (number_of 0 999999999 field)) ≡ Ok size → IsSizeRead size
    by true i = preferred_by (drop 1 field) (number_of 1 128 (drop 1 field)) size refl i
    by false i = listed_by (number_of 0 999999999 field) size i

bounded_by : (all selector : List ℕ) (b : Bool) → (nat_le 1 (length all) && nat_le (length all) 32) ≡ b → AreOctets all → (if b then Ok all else Err causes.Range) ≡ Ok selector → IsShort selector
bounded_by all selector true here are is = let same : all ≡ selector = cc in subst IsShort same (record { few = grind (arith, nat_tests); octets = are })
bounded_by all selector false here are is = absurd (cc)

bounded_octets : (read : Result (List ℕ) LineCause) (octets : List ℕ) → ((all : List ℕ) → read ≡ Ok all → AreOctets all) → then_read read (within 1 32) ≡ Ok octets → IsShort octets
bounded_octets (Err cause) octets are is = absurd (cc)
bounded_octets (Ok all) octets are is = bounded_by all octets (nat_le 1 (length all) && nat_le (length all) 32) refl (are all refl) is

selector_short : (field selector : List ℕ) → selector_of field ≡ Ok selector → IsShort selector
unfolding selector_of
selector_short field selector is = bounded_octets (octets_of field) selector (λ all read. unit_octets field all read) is

new_selector_short : (names : Declared) (system : ℕ) (field selector : List ℕ) → new_selector names system field ≡ Ok selector → IsShort selector
unfolding new_selector
new_selector_short names system field selector is = selector_short field selector (then_by (selector_of field) _ causes.Repeat selector is).read_is

-- ---- what all fields keep

-- the credit is in its bounds, octets are octets, and where a size was read it is one
pub record AreFine (sized : Bool) (parts : FieldValues) : Type 0 where
  pub size : sized ≡ true → IsSizedBy parts.options.preferred parts.options.size
  pub credit : parts.credit ≤ 255
  pub octets : AreOctets parts.octets
  pub selector : IsShort parts.selector
  pub called : IsShort parts.called

none_short : IsShort []
none_short = record { few = omega arith; octets = tt }

none_fine : AreFine false no_parts
none_fine = record { size = λ is. absurd (cc); credit = omega arith; octets = tt; selector = none_short; called = none_short }

through : {A : Type 0} (sized : Bool) (read : Result A LineCause) (put : A → FieldValues) (more : FieldValues) → into read put ≡ Ok more → ((value : A) → read ≡ Ok value → AreFine sized (put value)) → AreFine sized more
through sized (Err cause) put more is fine = absurd (cc)
through sized (Ok value) put more is fine = let same : put value ≡ more = cc in subst (AreFine sized) same (fine value refl)

module _ (names : Declared) (sized : Bool) where
  field_fine : (form : FieldKind) (parts more : FieldValues) (field : List ℕ) → field_read names parts form field ≡ Ok more → AreFine sized parts → AreFine sized more
  field_fine (forms.Named named.System) parts more field is f = through sized _ _ more is (λ value read. record { size = f.size; credit = f.credit; octets = f.octets; selector = f.selector; called = f.called })
  field_fine (forms.Plain plain.Credit) parts more field is f =
      through sized _ _ more is (λ value read. record { size = f.size; credit = (number_within 0 255 field value read).most_is; octets = f.octets; selector = f.selector; called = f.called })
  field_fine (forms.Plain plain.Size) parts more field is f =
      through sized _ _ more is (λ value read. record { size = λ asked. size_read names.second field value read; credit = f.credit; octets = f.octets; selector = f.selector; called = f.called })
  field_fine forms.NewSelector parts more field is f =
      through sized _ _ more is (λ value read. record { size = f.size; credit = f.credit; octets = f.octets; selector = new_selector_short names parts.system field value read; called = f.called })
  field_fine forms.Selector parts more field is f =
      through sized _ _ more is (λ value read. record { size = f.size; credit = f.credit; octets = f.octets; selector = selector_short field value read; called = f.called })
  field_fine forms.Called parts more field is f =
      through sized _ _ more is (λ value read. record { size = f.size; credit = f.credit; octets = f.octets; selector = f.selector; called = selector_short field value read })
  field_fine forms.Octets parts more field is f =
      through sized _ _ more is (λ value read. record { size = f.size; credit = f.credit; octets = unit_octets field value read; selector = f.selector; called = f.called })
  field_fine other parts more field is f = through sized _ _ more is (λ value read. record { size = f.size; credit = f.credit; octets = f.octets; selector = f.selector; called = f.called })

  left_fine : (forms : List FieldKind) (fields : List (List ℕ)) (column : ℕ) (parts out : FieldValues) → fields_read names parts column forms fields ≡ Ok out → AreFine sized parts → AreFine sized out
  left_fine [] fields column parts out is f = subst (AreFine sized) (same_parts parts out is) f
  left_fine (form ∷ forms) [] column parts out is f = subst (AreFine sized) (same_parts parts out is) f
  left_fine (form ∷ forms) (field ∷ fields) column parts out is f =
      by (λ more i g. left_fine forms fields (next_column column field) more out i g) (field_read names parts form field) refl is
    where
      by : ((more : FieldValues) → fields_read names more (next_column column field) forms fields ≡ Ok out → AreFine sized more → AreFine sized out) → (read : Result FieldValues LineCause) → field_read names parts form field ≡ read
          → at_column column read (λ more. fields_read names more (next_column column field) forms fields) ≡ Ok out → AreFine sized out
      by rest (Err cause) here i = absurd (cc)
      by rest (Ok more) here i = rest more i (field_fine form parts more field here f)

-- the field of a size
size_fine : (names : Declared) (parts more : FieldValues) (field : List ℕ) → field_read names parts (forms.Plain plain.Size) field ≡ Ok more → AreFine false parts → AreFine true more
size_fine names parts more field is f =
    through true (size_of names.second field) (λ size. record parts { options = with_size parts.options size }) more is
    (λ value read. record { size = λ asked. size_read names.second field value read; credit = f.credit; octets = f.octets; selector = f.selector; called = f.called })

-- fields among which a size stands
sized_fine : (names : Declared) (before others : List FieldKind) (fields : List (List ℕ)) (past column : ℕ) (parts out : FieldValues)
    → count_fault past column (before ++ forms.Plain plain.Size ∷ others) fields ≡ None → fields_read names parts column (before ++ forms.Plain plain.Size ∷ others) fields ≡ Ok out
    → AreFine false parts → AreFine true out
sized_fine names [] others [] past column parts out count is f = absurd (cc)
sized_fine names [] others (field ∷ fields) past column parts out count is f = by (field_read names parts (forms.Plain plain.Size) field) refl is
  where
    by : (read : Result FieldValues LineCause) → field_read names parts (forms.Plain plain.Size) field ≡ read → at_column column read (λ more. fields_read names more (next_column column field) others fields) ≡ Ok out
        → AreFine true out
    by (Err cause) here i = absurd (cc)
    by (Ok more) here i = left_fine names true others fields (next_column column field) more out i (size_fine names parts more field here f)
sized_fine names (form ∷ before) others [] past column parts out count is f = absurd (cc)
sized_fine names (form ∷ before) others (field ∷ fields) past column parts out count is f =
    by (λ more i g. sized_fine names before others fields past (next_column column field) more out count i g) (field_read names parts form field) refl is
  where
    by : ((more : FieldValues) → fields_read names more (next_column column field) (before ++ forms.Plain plain.Size ∷ others) fields ≡ Ok out → AreFine false more → AreFine true out) → (read : Result FieldValues LineCause)
        → field_read names parts form field ≡ read → at_column column read (λ more. fields_read names more (next_column column field) (before ++ forms.Plain plain.Size ∷ others) fields) ≡ Ok out → AreFine true out
    by rest (Err cause) here i = absurd (cc)
    by rest (Ok more) here i = rest more i (field_fine names false form parts more field here f)

-- ---- what a line that was read has

pub all_fine : (names : Declared) (forms : List FieldKind) (fields : List (List ℕ)) (column : ℕ) (out : FieldValues) → fields_read names no_parts column forms fields ≡ Ok out → AreFine false out
all_fine names forms fields column out is = left_fine names false forms fields column no_parts out is none_fine

-- a line with an agreement has a size
pub agreed_size : (names : Declared) (before : List FieldKind) (fields : List (List ℕ)) (past column : ℕ) (out : FieldValues) → count_fault past column (before ++ agreement) fields ≡ None
    → fields_read names no_parts column (before ++ agreement) fields ≡ Ok out → IsSizedBy out.options.preferred out.options.size
agreed_size names before fields past column out count is =
    let same : before ++ agreement ≡ (before ++ forms.Plain plain.Format ∷ []) ++ forms.Plain plain.Size ∷ left = sym (append_assoc before (forms.Plain plain.Format ∷ []) (forms.Plain plain.Size ∷ left)) in
    (sized_fine names (before ++ forms.Plain plain.Format ∷ []) left fields past column no_parts out
    (subst (λ (f : List FieldKind). count_fault past column f fields ≡ None) same count) (subst (λ (f : List FieldKind). fields_read names no_parts column f fields ≡ Ok out) same is) none_fine).size refl
  where
    left : List FieldKind
    left = forms.Plain plain.Expedited ∷ forms.Plain plain.Sum ∷ forms.Octets ∷ []
