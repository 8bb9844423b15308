-- A PDU at the front passes each test and is what is read; octets that pass each test begin with what is read.
use Rattle.std.proofs.Common.{◌≡◌, ◌⊎◌, ℕ, ◌+◌, ◌*◌, ◌/◌, ◌%◌, ◌<◌, ◌≤◌, true, List, [], ◌∷◌, ◌++◌, length, take, drop, get_or, slice_index, Option, Some, None, Result, Ok, Err, refl, sym, ap, ◌∙◌, arith, inl, inr}
use Rattle.std.specs.Prelude.{All, IfErr, IfOk, IsOkAnd, ◌==◌, ◌&&◌}
use Rattle.std.proofs.lemmas.Bool.{cases_lt}
use Rattle.std.proofs.lemmas.List.{append-nil, drop_at, get_or-take, get_or_past, length-append, length-take-le, nil_from_length, take-append-drop, take_at}
use Rattle.std.proofs.lemmas.Option.{same_Some}
use Rattle.pdu_parts.specs.Checksum.{IsChecksum}
use Rattle.pdu_parts.specs.Front.{Apart, BeginsWith, FrontOrFault, OneFront, OneValue}
use Rattle.pdu_parts.specs.Number.{number_at}
use Rattle.pdu_parts.specs.Parameter.{left_in, parameters_in, spelled}
use Rattle.pdu_parts.proofs.Readings.{Gives}
use Rattle.pdu_parts.proofs.Parameters.{reads_parameters}
use Rattle.esis_pdu.specs.declared.fault.EsisFault.{EsisFault}
use Rattle.esis_pdu.specs.declared.hello.Hello.{Hello}
use Rattle.esis_pdu.specs.declared.hello.Hello.TheVariants.{Esh, Ish, Rd}
use Rattle.esis_pdu.specs.declared.hello.HelloRef.{HelloRef}
use Rattle.esis_pdu.specs.Addresses.{parts_at}
use Rattle.esis_pdu.specs.Faults.{IsEsisFault, first_fault, front, indicator, is_length, is_type, is_version, parts_in, type_in}
use Rattle.esis_pdu.specs.Hellos.{Esis, IsEsis, hold_of, parts, type_of}
use Rattle.esis_pdu.specs.Lent.{esis_of}
use Rattle.esis_pdu.specs.steps.Reading.{esis_at}
use Rattle.esis_pdu.proofs.Checksums.{checksum_found, checksum_there}
use Rattle.esis_pdu.proofs.Fields.{some_of}
use Rattle.esis_pdu.proofs.Outcome.{Passes, no_fault, passes, reads_fault, reads_ok}
use Rattle.esis_pdu.proofs.Parts.{IsRead, parts_again, parts_take}

-- ---- numbers

length_fits : (len given : ℕ) → is_length len given ≡ true → (10 ≤ len) × (len ≤ 254) × (len ≤ given)
length_fits len given e = (grind arith, grind arith, grind arith)

fits_length : (len given : ℕ) → 10 ≤ len → len ≤ 254 → len ≤ given → is_length len given ≡ true
fits_length len given least most given_is = grind arith

version_is : (first third : ℕ) → (first == 130) && (third == 1) ≡ true → (first ≡ 130) × (third ≡ 1)
version_is first third e = (grind arith, grind arith)

higher_is : (higher lower : ℕ) → lower < 256 → (higher * 256 + lower) / 256 ≡ higher
higher_is higher lower small = omega arith

lower_is : (higher lower : ℕ) → lower < 256 → (higher * 256 + lower) % 256 ≡ lower
lower_is higher lower small = omega arith

number_is : (number : ℕ) → number / 256 * 256 + number % 256 ≡ number
number_is number = omega arith

-- ---- a list of nine octets and more

nine : (octets : List ℕ) (a b c h l : ℕ) (tail : List ℕ) → 9 ≤ length octets → slice_index octets 0 ≡ a → slice_index octets 1 ≡ b → slice_index octets 2 ≡ c
    → slice_index octets 5 ≡ h → slice_index octets 6 ≡ l → drop 9 octets ≡ tail
    → octets ≡ a ∷ b ∷ c ∷ slice_index octets 3 ∷ slice_index octets 4 ∷ h ∷ l ∷ slice_index octets 7 ∷ slice_index octets 8 ∷ tail
nine (x0 ∷ x1 ∷ x2 ∷ x3 ∷ x4 ∷ x5 ∷ x6 ∷ x7 ∷ x8 ∷ rest) a b c h l tail long e0 e1 e2 e5 e6 e9 = cc
nine octets a b c h l tail long e0 e1 e2 e5 e6 e9 = absurd (omega arith)

-- ---- octets that pass begin with what is read

options_whole : (octets : List ℕ) → length (left_in octets) == 0 ≡ true → octets ≡ spelled (parameters_in octets)
options_whole octets e =
    let short : length (left_in octets) ≡ 0 = grind arith in
    let none : left_in octets ≡ [] = nil_from_length (left_in octets) short in
    reads_parameters.parts octets ∙ ap (λ (xs : List ℕ). spelled (parameters_in octets) ++ xs) none ∙ append-nil (spelled (parameters_in octets))

pub begins : (octets : List ℕ) (pdu : Esis) → ((i : ℕ) → get_or octets i 0 < 256) → Passes octets pdu → BeginsWith IsEsis octets pdu (drop (indicator octets) octets)
begins octets pdu small p =
    let x = front octets in
    let fits = length_fits (indicator octets) (length octets) p.fits in
    let size : length x ≡ indicator octets = length-take-le (indicator octets) octets fits.2 in
    let at : (k : ℕ) → k < 10 → get_or x k 0 ≡ get_or octets k 0 = λ k below. get_or-take (indicator octets) octets k 0 (omega arith) in
    let less : (k : ℕ) → k < 10 → get_or x k 0 < 256 = λ k below. omega (arith, at k below, small k) in
    let version = version_is (get_or x 0 0) (get_or x 2 0) p.version in
    let read = some_of (parts_in x) (IsRead (type_in x) (number_at 5 x) (drop 9 x)) pdu (parts_take (type_in x) (number_at 5 x) (drop 9 x)) p.parts in
    let checked = checksum_found x (less 7 (omega arith)) (less 8 (omega arith)) p.checksum in
    let high : get_or x 5 0 ≡ hold_of pdu.hello / 256 =
    sym (ap (λ (n : ℕ). n / 256) read.hold_is ∙ higher_is (get_or x 5 0) (get_or x 6 0) (less 6 (omega arith))) in
    let low : get_or x 6 0 ≡ hold_of pdu.hello % 256 =
    sym (ap (λ (n : ℕ). n % 256) read.hold_is ∙ lower_is (get_or x 5 0) (get_or x 6 0) (less 6 (omega arith))) in
    record {
      front = x;
      whole = sym (take-append-drop (indicator octets) octets);
      stands = record {
        reserved = get_or x 3 0;
        kind = get_or x 4 0;
        first = get_or x 7 0;
        second = get_or x 8 0;
        written = nine x 130 (length x) 1 (hold_of pdu.hello / 256) (hold_of pdu.hello % 256) (parts pdu.hello ++ pdu.options)
            (omega arith) version.0 (at 1 (omega arith) ∙ sym size) version.1 high low read.spelled;
        least = omega arith;
        most = omega arith;
        type_is = sym read.type_is;
        used = checked.0;
        checked = checked.1;
        addressed = read.addressed;
        parameters = parameters_in pdu.options;
        optional = options_whole pdu.options p.options;
      };
    }

-- ---- a PDU at the front passes

type_again : (hello : Hello) (type : ℕ) → type ≡ type_of hello → is_type type ≡ true
type_again (Esh hold addresses) type e = rw e refl
type_again (Ish hold title) type e = rw e refl
type_again (Rd hold address snpa title) type e = rw e refl

-- what was read, and what is left behind it
pub record Stands (octets : List ℕ) (pdu : Esis) (rest : List ℕ) : Type 0 where
  pub passes : Passes octets pdu
  pub left : rest ≡ drop (indicator octets) octets

pub reads : (octets : List ℕ) (pdu : Esis) (rest : List ℕ) → BeginsWith IsEsis octets pdu rest → Stands octets pdu rest
reads octets pdu rest f =
    let x = f.front in
    let s = f.stands in
    let e = f.whole ∙ ap (λ (xs : List ℕ). xs ++ rest) s.written in
    let len : indicator octets ≡ length x = ap (λ (xs : List ℕ). slice_index xs 1) e in
    let long : length octets ≡ length x + length rest = ap length f.whole ∙ length-append x rest in
    let same : front octets ≡ x = ap (λ (n : ℕ). take n octets) len ∙ ap (take (length x)) f.whole ∙ take_at x rest (length x) refl in
    let left : drop (indicator octets) octets ≡ rest = ap (λ (n : ℕ). drop n octets) len ∙ ap (drop (length x)) f.whole ∙ drop_at x rest (length x) refl in
    let type : type_in x ≡ type_of pdu.hello = ap (λ (xs : List ℕ). slice_index xs 4 % 32) s.written ∙ s.type_is in
    let hold : number_at 5 x ≡ hold_of pdu.hello = ap (number_at 5) s.written ∙ number_is (hold_of pdu.hello) in
    let body : drop 9 x ≡ parts pdu.hello ++ pdu.options = ap (drop 9) s.written in
    let version : is_version x ≡ true = ap is_version s.written in
    let first : slice_index x 7 ≡ s.first = ap (λ (xs : List ℕ). slice_index xs 7) s.written in
    let second : slice_index x 8 ≡ s.second = ap (λ (xs : List ℕ). slice_index xs 8) s.written in
    let checked : IsChecksum s.used (slice_index x 7) (slice_index x 8) x = rw (first, second) s.checked in
    let found : parts_in x ≡ Some pdu =
    ap (λ (n : ℕ). parts_at n (number_at 5 x) (drop 9 x)) type ∙ ap (λ (n : ℕ). parts_at (type_of pdu.hello) n (drop 9 x)) hold
    ∙ ap (parts_at (type_of pdu.hello) (hold_of pdu.hello)) body ∙ parts_again pdu.hello pdu.options s.addressed in
    let ended : left_in pdu.options ≡ [] = ap left_in (s.optional ∙ sym (append-nil (spelled s.parameters))) ∙ (reads_parameters.again s.parameters [] refl).1 in
    record {
      passes = record {
        long = grind (arith, long, s.least);
        fits = fits_length (indicator octets) (length octets) (omega (arith, len, s.least)) (omega (arith, len, s.most)) (omega (arith, len, long));
        version = ap is_version same ∙ version;
        checksum = rw same (checksum_there x s.used checked);
        kind = type_again pdu.hello (type_in (front octets)) (ap type_in same ∙ type);
        parts = ap parts_in same ∙ found;
        options = rw ended refl;
      };
      left = sym left;
    }

-- ---- the laws

pub one_front : OneFront IsEsis
one_front octets value other rest more f g =
    let a = reads octets value rest f in
    let b = reads octets other more g in
    (same_Some value other (sym a.passes.parts ∙ b.passes.parts), a.left ∙ sym b.left)

whole_front : (octets : List ℕ) (pdu : Esis) → IsEsis octets pdu → BeginsWith IsEsis octets pdu []
whole_front octets pdu is = record { front = octets; whole = sym (append-nil octets); stands = is }

pub one_value : OneValue IsEsis
one_value octets value other is are = (one_front octets value other [] [] (whole_front octets value is) (whole_front octets other are)).0

pub apart : Apart IsEsis IsEsisFault
apart octets rest pdu fault f fails = let none : first_fault octets ≡ None = no_fault octets pdu (reads octets pdu rest f).passes in absurd cc

either : (octets : List ℕ) (found : Option EsisFault) → first_fault octets ≡ found → ((i : ℕ) → get_or octets i 0 < 256)
    → ((pdu : Esis) × (rest : List ℕ) × BeginsWith IsEsis octets pdu rest) ⊎ ((fault : EsisFault) × IsEsisFault octets fault)
either octets None is small = let there = passes octets is in inl (there.0, drop (indicator octets) octets, begins octets there.0 small there.1)
either octets (Some fault) is small = inr (fault, is)

each_small : (octets : List ℕ) → All (λ octet. octet < 256) octets → (i : ℕ) → get_or octets i 0 < 256
each_small octets all i = elim (cases_lt i (length octets)) [ inl within ↦ all i 0 within | inr past ↦ rw (get_or_past octets i 0 past) (omega arith) ]

pub front_or_fault : FrontOrFault IsEsis IsEsisFault
front_or_fault octets all = either octets (first_fault octets) refl (each_small octets all)

-- ---- what the reader answers

pub answer_ok : (octets : List ℕ) (result : Result HelloRef EsisFault) → ((i : ℕ) → get_or octets i 0 < 256) → Gives esis_of result (esis_at octets)
    → IfOk result (λ read. (rest : List ℕ) × BeginsWith IsEsis octets (esis_of read) rest)
answer_ok octets (Ok read) small given = (drop (indicator octets) octets, begins octets (esis_of read) small (reads_ok octets (esis_of read) given))
answer_ok octets (Err fault) small given = tt

pub answer_fault : (octets : List ℕ) (result : Result HelloRef EsisFault) → Gives esis_of result (esis_at octets) → IfErr result (IsEsisFault octets)
answer_fault octets (Ok read) given = tt
answer_fault octets (Err fault) given = reads_fault octets fault given

pub answer_only : (octets : List ℕ) (result : Result HelloRef EsisFault) → Gives esis_of result (esis_at octets)
    → (pdu : Esis) (rest : List ℕ) → BeginsWith IsEsis octets pdu rest → IsOkAnd result (λ read. esis_of read ≡ pdu)
answer_only octets (Ok read) given pdu rest f = same_Some (esis_of read) pdu (sym (reads_ok octets (esis_of read) given).parts ∙ (reads octets pdu rest f).passes.parts)
answer_only octets (Err fault) given pdu rest f = absurd (apart octets rest pdu fault f (reads_fault octets fault given))

abbrev failed : EsisFault → Result HelloRef EsisFault
failed fault = Err fault

pub answer_each_fault : (octets : List ℕ) (result : Result HelloRef EsisFault) → Gives esis_of result (esis_at octets)
    → (fault : EsisFault) → IsEsisFault octets fault → result ≡ Err fault
answer_each_fault octets (Ok read) given fault fails = let none = no_fault octets (esis_of read) (reads_ok octets (esis_of read) given) in absurd cc
answer_each_fault octets (Err found) given fault fails = ap failed (same_Some found fault (sym (reads_fault octets found given) ∙ fails))
