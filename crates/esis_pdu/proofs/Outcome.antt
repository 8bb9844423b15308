-- Reading from left to right answers the first fault of the table, or what it read where there is none.
use Rattle.std.proofs.Common.{◌≡◌, ℕ, cond, Bool, true, false, List, [], ◌∷◌, length, Option, Some, None, Result, Ok, Err, refl, ◌∙◌, sym}
use Rattle.std.specs.Prelude.{◌==◌, nat_le}
use Rattle.std.specs.Option.{is_some}
use Rattle.pdu_parts.specs.Checksum.{checksum_in}
use Rattle.pdu_parts.specs.FirstFault.{first_failing, must, or_else}
use Rattle.pdu_parts.specs.Parameter.{left_in}
use Rattle.pdu_parts.proofs.Readings.{◌>>=◌, found_or}
use Rattle.esis_pdu.specs.declared.fault.EsisFault.{EsisFault}
use Rattle.esis_pdu.specs.declared.fault.EsisFault.TheVariants as faults
use Rattle.esis_pdu.specs.Faults.{first_fault, front, has_options, indicator, is_length, is_type, is_version, parts_in, steps, type_in}
use Rattle.esis_pdu.specs.Hellos.{Esis}
use Rattle.esis_pdu.specs.steps.Reading.{body_at, esis_at, front_at, pdu_at, with_options}

abbrev table : Bool → Bool → Bool → Bool → Bool → Option Esis → Option EsisFault
table long whole version checksum kind parts =
    first_failing
    (must long faults.Short ∷ must whole faults.Length ∷ must version faults.Version ∷ must checksum faults.Checksum ∷ must kind faults.Kind
    ∷ must (is_some parts) faults.Address ∷ must (has_options parts) faults.Option ∷ [])

abbrev pub answer : Option EsisFault → Option Esis → Result Esis EsisFault
answer None parts = found_or parts faults.Address
answer (Some fault) parts = Err fault

last : (optional : Bool) (pdu : Esis) → cond optional (Ok pdu) (Err faults.Option) ≡ answer (first_failing (must optional faults.Option ∷ [])) (Some pdu)
last true pdu = refl
last false pdu = refl

behind : (version checksum kind : Bool) (parts : Option Esis)
    → cond version (cond checksum (cond kind (with_options parts) (Err faults.Kind)) (Err faults.Checksum)) (Err faults.Version)
    ≡ answer (table true true version checksum kind parts) parts
behind false checksum kind parts = refl
behind true false kind parts = refl
behind true true false parts = refl
behind true true true None = refl
behind true true true (Some pdu) = last (length (left_in pdu.options) == 0) pdu

whole : (long fits : Bool) (pdu : List ℕ) (version checksum kind : Bool) (parts : Option Esis)
    → pdu_at pdu ≡ cond version (cond checksum (cond kind (with_options parts) (Err faults.Kind)) (Err faults.Checksum)) (Err faults.Version)
    → (cond long (cond fits (Ok pdu) (Err faults.Length)) (Err faults.Short) >>= pdu_at) ≡ answer (table long fits version checksum kind parts) parts
whole false fits pdu version checksum kind parts is = refl
whole true false pdu version checksum kind parts is = refl
whole true true pdu version checksum kind parts is = is ∙ behind version checksum kind parts

pub outcome : (octets : List ℕ) → esis_at octets ≡ answer (first_fault octets) (parts_in (front octets))
unfolding steps front_at body_at
outcome octets =
    let pdu : List ℕ = front octets in
    whole (nat_le 10 (length octets)) (is_length (indicator octets) (length octets)) pdu (is_version pdu) (is_some (checksum_in pdu)) (is_type (type_in pdu)) (parts_in pdu) refl

-- what passes each test
pub record Passes (octets : List ℕ) (pdu : Esis) : Type 0 where
  pub long : nat_le 10 (length octets) ≡ true
  pub fits : is_length (indicator octets) (length octets) ≡ true
  pub version : is_version (front octets) ≡ true
  pub checksum : is_some (checksum_in (front octets)) ≡ true
  pub kind : is_type (type_in (front octets)) ≡ true
  pub parts : parts_in (front octets) ≡ Some pdu
  pub options : length (left_in pdu.options) == 0 ≡ true

none_fails : (long whole version checksum kind optional : Bool) (parts : Option Esis) (pdu : Esis) → long ≡ true → whole ≡ true → version ≡ true → checksum ≡ true
    → kind ≡ true → parts ≡ Some pdu → length (left_in pdu.options) == 0 ≡ true → table long whole version checksum kind parts ≡ None
none_fails long whole version checksum kind optional parts pdu a b c d e f g = rw (a, b, c, d, e, f, g) refl

pub no_fault : (octets : List ℕ) (pdu : Esis) → Passes octets pdu → first_fault octets ≡ None
unfolding steps
no_fault octets pdu p = none_fails _ _ _ _ _ true _ pdu p.long p.fits p.version p.checksum p.kind p.parts p.options

passed : (holds : Bool) (fault : EsisFault) (later : Option EsisFault) → or_else (must holds fault) later ≡ None → (holds ≡ true) × (later ≡ None)
passed true fault later none = (refl, none)
passed false fault later none = absurd cc

parts_passed : (octets : List ℕ) (parts : Option Esis) → parts_in (front octets) ≡ parts → first_failing (must (is_some parts) faults.Address ∷ must (has_options parts) faults.Option ∷ []) ≡ None
    → (pdu : Esis) × (parts_in (front octets) ≡ Some pdu) × (length (left_in pdu.options) == 0 ≡ true)
parts_passed octets None is none = absurd cc
parts_passed octets (Some pdu) is none = (pdu, is, (passed (length (left_in pdu.options) == 0) faults.Option None none).0)

pub passes : (octets : List ℕ) → first_fault octets ≡ None → (pdu : Esis) × Passes octets pdu
unfolding steps
passes octets none =
    let a = passed (nat_le 10 (length octets)) faults.Short _ none in
    let b = passed (is_length (indicator octets) (length octets)) faults.Length _ a.1 in
    let c = passed (is_version (front octets)) faults.Version _ b.1 in
    let d = passed (is_some (checksum_in (front octets))) faults.Checksum _ c.1 in
    let e = passed (is_type (type_in (front octets))) faults.Kind _ d.1 in
    let f = parts_passed octets (parts_in (front octets)) refl e.1 in
    (f.0, record { long = a.0; fits = b.0; version = c.0; checksum = d.0; kind = e.0; parts = f.1; options = f.2 })

-- ---- what an answer means

answer_ok : (fault : Option EsisFault) (parts : Option Esis) (pdu : Esis) → answer fault parts ≡ Ok pdu → (fault ≡ None) × (parts ≡ Some pdu)
answer_ok None None pdu e = absurd cc
answer_ok None (Some made) pdu e = (refl, cc)
answer_ok (Some fault) parts pdu e = absurd cc

answer_fault : (fault : Option EsisFault) (parts : Option Esis) (told : EsisFault) → (fault ≡ None → (pdu : Esis) × (parts ≡ Some pdu)) → answer fault parts ≡ Err told → fault ≡ Some told
answer_fault None None told there e = let some = there refl in absurd (let is = some.1 in cc)
answer_fault None (Some made) told there e = absurd cc
answer_fault (Some fault) parts told there e = cc

pub reads_ok : (octets : List ℕ) (pdu : Esis) → esis_at octets ≡ Ok pdu → Passes octets pdu
reads_ok octets pdu e =
    let both = answer_ok (first_fault octets) (parts_in (front octets)) pdu (sym (outcome octets) ∙ e) in
    let there = passes octets both.0 in
    let p = there.1 in
    let same : there.0 ≡ pdu = cc (p.parts, both.1) in
    record { long = p.long; fits = p.fits; version = p.version; checksum = p.checksum; kind = p.kind; parts = both.1; options = rw (← same) p.options }

pub reads_fault : (octets : List ℕ) (fault : EsisFault) → esis_at octets ≡ Err fault → first_fault octets ≡ Some fault
reads_fault octets fault e =
    answer_fault (first_fault octets) (parts_in (front octets)) fault (λ none. let there = passes octets none in (there.0, there.1.parts)) (sym (outcome octets) ∙ e)
