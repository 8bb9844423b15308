-- A value that is plain and allowed is what the octets that are written for it stand for, kind by kind.
use Rattle.std.proofs.Common.{◌≡◌, ℕ, ◌+◌, ◌/◌, ◌%◌, ◌<◌, ◌≤◌, Bool, true, false, cond, if◌then◌else◌, leb, nat_eq, List, [], ◌∷◌, ◌++◌, length, Option, Some, None, refl, sym, ap, ◌∙◌, arith}
use Rattle.std.specs.Prelude.{IsTrue, IsSome, is_some, slice_index, unwrap_or}
use Rattle.std.specs.List.{AllByRecursion}
use Rattle.std.specs.Int.{w32, to_be_bytes}
use Rattle.std.proofs.lemmas.Bool.{eqb-true, eq-eqb, le-leb, lt-leb, ne_eqb}
use Rattle.tpdu.specs.declared.kind.Kind.TheVariants.{Cr, Cc, Dr, Dc, Dt, Ed, Ak, Ea, Er}
use Rattle.tpdu.specs.declared.kind.Kind.{Kind}
use Rattle.tpdu.specs.declared.tpdu.Format.{Format}
use Rattle.tpdu.specs.declared.tpdu.Format.TheVariants.{Normal, Extended}
use Rattle.tpdu.specs.declared.tpdu.Tpdu.{Tpdu}
use Rattle.tpdu.specs.declared.tpdu.Tpdu.TheVariants as tpdus
use Rattle.tpdu.specs.Kinds.{kind_of, is_connect, data_suits}
use Rattle.tpdu.specs.Parameters.{sizes, size_in, preferred_of, last_value}
use Rattle.pdu_parts.specs.Number.{two_octets, number_at}
use Rattle.pdu_parts.specs.Parameter.{Parameter}
use Rattle.tpdu.specs.Values.{value_of, quad_at, number_of, is_last, class_format, text, octet_under, pair_under, preferred, size}
use Rattle.tpdu.specs.Grammar.{Suits, has_sum}
use Rattle.tpdu.specs.Writing.{kind_for, code_for, fixed_for, number_for, class_for, size_code, code_in, parameter, parameters_for, size_parameters, preferred_parameters, connect_parameters, body_for, sums_for, parts_for, IsPlain, IsOctet, IsNumber, IsKnownSize, IsPreferred, IsConnect, IsAllowed}

-- ---- numbers

pub number_back : (n : ℕ) → number_at 0 (two_octets n) ≡ n
number_back n = omega arith

quad_again : (n : ℕ) → n < 4294967296 → quad_at 0 (to_be_bytes w32 n) ≡ n
quad_again n lt = omega arith

number_again : (width : Format) (last : Bool) (n high low : ℕ) → IsNumber width n → (number_of width (high ∷ low ∷ number_for width last n) ≡ n) × (is_last width (high ∷ low ∷ number_for width last n) ≡ last)
number_again Normal true n high low lt = (omega arith, le-leb _ _ (omega arith))
number_again Normal false n high low lt = (omega arith, lt-leb _ _ (omega arith))
number_again Extended true n high low lt =
    let q = quad_again (n % 2147483648 + 2147483648) (omega arith) in (omega arith, le-leb _ _ (omega arith))
number_again Extended false n high low lt =
    let q = quad_again (n % 2147483648 + 0) (omega arith) in (omega arith, lt-leb _ _ (omega arith))

class_again : (format : Format) → class_format (class_for format) ≡ format
class_again Normal = refl
class_again Extended = refl

class_four : (format : Format) → class_for format / 16 ≡ 4
class_four Normal = refl
class_four Extended = refl

-- ---- codes

request_code : (m : ℕ) → m < 16 → kind_of (0xE0 + m) ≡ Some Cr
request_code m lt =
    let a : leb 0xE0 (0xE0 + m) ≡ true = le-leb _ _ (omega arith) in
    let b : leb (0xE0 + m) 0xEF ≡ true = le-leb _ _ (omega arith) in
    rw (a, b) refl

confirm_code : (m : ℕ) → m < 16 → kind_of (0xD0 + m) ≡ Some Cc
confirm_code m lt =
    let a : leb 0xE0 (0xD0 + m) ≡ false = lt-leb _ _ (omega arith) in
    let b : leb 0xD0 (0xD0 + m) ≡ true = le-leb _ _ (omega arith) in
    let c : leb (0xD0 + m) 0xDF ≡ true = le-leb _ _ (omega arith) in
    rw (a, b, c) refl

ack_kind : (m : ℕ) → m < 16 → kind_of (0x60 + m) ≡ Some Ak
ack_kind m lt =
    let a : leb 0xE0 (0x60 + m) ≡ false = lt-leb _ _ (omega arith) in
    let b : leb 0xD0 (0x60 + m) ≡ false = lt-leb _ _ (omega arith) in
    let c : leb 0x80 (0x60 + m) ≡ false = lt-leb _ _ (omega arith) in
    let d : leb 0xC0 (0x60 + m) ≡ false = lt-leb _ _ (omega arith) in
    let e : leb 0xF0 (0x60 + m) ≡ false = lt-leb _ _ (omega arith) in
    let f : leb 0x10 (0x60 + m) ≡ true = le-leb _ _ (omega arith) in
    let g : leb (0x60 + m) 0x10 ≡ false = lt-leb _ _ (omega arith) in
    let h : leb 0x60 (0x60 + m) ≡ true = le-leb _ _ (omega arith) in
    let i : leb (0x60 + m) 0x6F ≡ true = le-leb _ _ (omega arith) in
    rw (a, b, c, d, e, f, g, h, i) refl

-- ---- sizes

size_step : (b : Bool) (octets size code : ℕ) (rest : Option ℕ) → nat_eq size octets ≡ b → IsSome (cond b (Some code) rest) → (IsSome rest → size_in sizes (unwrap_or rest 0) ≡ Some octets) → size_in sizes code ≡ Some size
    → size_in sizes (unwrap_or (cond b (Some code) rest) 0) ≡ Some octets
size_step true octets size code rest e some h here = here ∙ ap Some (eqb-true _ _ e)
size_step false octets size code rest e some h here = h some

pub size_again : (octets : ℕ) → IsSome (code_in sizes octets) → size_in sizes (size_code octets) ≡ Some octets
size_again octets some =
    size_step (nat_eq 128 octets) octets 128 7 _ refl some (λ s7.
    size_step (nat_eq 256 octets) octets 256 8 _ refl s7 (λ s8.
    size_step (nat_eq 512 octets) octets 512 9 _ refl s8 (λ s9.
    size_step (nat_eq 1024 octets) octets 1024 10 _ refl s9 (λ s10.
    size_step (nat_eq 2048 octets) octets 2048 11 _ refl s10 (λ s11.
    size_step (nat_eq 4096 octets) octets 4096 12 _ refl s11 (λ s12.
    size_step (nat_eq 8192 octets) octets 8192 13 _ refl s12 (λ s13. absurd cc) refl) refl) refl) refl) refl) refl) refl

-- ---- kind by kind

pub record Fine (width : Format) (summed : Bool) (tpdu : Tpdu) (first second : ℕ) : Type 0 where
  pub code : kind_of (code_for width tpdu) ≡ Some (kind_for tpdu)
  pub class : IsTrue (is_connect (kind_for tpdu)) → slice_index (fixed_for width tpdu) 4 / 16 ≡ 4
  pub parameters : AllByRecursion (Suits (kind_for tpdu)) (parameters_for tpdu ++ sums_for summed first second)
  pub has : has_sum (parameters_for tpdu ++ sums_for summed first second) ≡ summed
  pub body : IsTrue (data_suits (kind_for tpdu) (length (body_for tpdu)))
  pub value : value_of (parts_for width tpdu (sums_for summed first second)) ≡ tpdu

sums_suit : (kind : Kind) (summed : Bool) (first second : ℕ) → Suits kind (record { code = 0xC3; value = first ∷ second ∷ [] }) → AllByRecursion (Suits kind) (sums_for summed first second)
sums_suit kind true first second h = (h, tt)
sums_suit kind false first second h = tt

sums_has : (summed : Bool) (first second : ℕ) → has_sum (sums_for summed first second) ≡ summed
sums_has true first second = refl
sums_has false first second = refl

-- the parameters of a CR and a CC suit both
record Connects (calling called : List ℕ) (octets preferred : Option ℕ) (extra : ℕ) (summed : Bool) (first second : ℕ) : Type 0 where
  has : has_sum (connect_parameters calling called octets preferred extra ++ sums_for summed first second) ≡ summed
  request : AllByRecursion (Suits Cr) (connect_parameters calling called octets preferred extra ++ sums_for summed first second)
  confirm : AllByRecursion (Suits Cc) (connect_parameters calling called octets preferred extra ++ sums_for summed first second)

known_size : (octets : ℕ) → IsSome (code_in sizes octets) → IsSome (size_in sizes (size_code octets))
known_size octets some = ap is_some (size_again octets some)

-- a preferred size of one octet is read as it is
preferred_again : (number : ℕ) → 1 ≤ number → number ≤ 255 → preferred_of (number % 256 ∷ []) ≡ Some number
preferred_again number some low =
    let same : number % 256 ≡ number = omega (arith, low) in
    let not_none : nat_eq (number % 256) 0 ≡ false = ne_eqb _ _ (λ e. omega (arith, e, same, some)) in
    ap (λ (b : Bool). if b then None else Some (number % 256)) not_none ∙ ap Some same

known_preferred : (number : ℕ) → 1 ≤ number → number ≤ 255 → IsSome (preferred_of (number % 256 ∷ []))
known_preferred number some low = ap is_some (preferred_again number some low)

connect_has : (calling called : List ℕ) (octets preferred : Option ℕ) (extra : ℕ) (summed : Bool) (first second : ℕ) → has_sum (connect_parameters calling called octets preferred extra ++ sums_for summed first second) ≡ summed
connect_has calling called None None extra true first second = refl
connect_has calling called None (Some number) extra true first second = refl
connect_has calling called (Some octets) None extra true first second = refl
connect_has calling called (Some octets) (Some number) extra true first second = refl
connect_has calling called octets preferred extra summed first second = refl

-- sizes, where they are there, and then the rest
sizes_suit : (kind : Kind) (octets preferred : Option ℕ) (extra : ℕ) (summed : Bool) (first second : ℕ) → ((size : ℕ) → IsSome (code_in sizes size) → Suits kind (parameter 0xC0 (size_code size ∷ [])))
    → ((number : ℕ) → 1 ≤ number → number ≤ 255 → Suits kind (parameter 0xF0 (number % 256 ∷ []))) → Suits kind (parameter 0xC6 (extra ∷ [])) → Suits kind (record { code = 0xC3; value = first ∷ second ∷ [] })
    → IsKnownSize octets → IsPreferred preferred → IsOctet preferred
    → AllByRecursion (Suits kind) ((size_parameters octets ++ preferred_parameters preferred ++ parameter 0xC6 (extra ∷ []) ∷ []) ++ sums_for summed first second)
sizes_suit kind None None extra summed first second size number more sum known some low = (more, sums_suit kind summed first second sum)
sizes_suit kind None (Some n) extra summed first second size number more sum known some low = (number n some low, (more, sums_suit kind summed first second sum))
sizes_suit kind (Some s) None extra summed first second size number more sum known some low = (size s known, (more, sums_suit kind summed first second sum))
sizes_suit kind (Some s) (Some n) extra summed first second size number more sum known some low = (size s known, (number n some low, (more, sums_suit kind summed first second sum)))

connects : (credit : ℕ) (calling called : List ℕ) (octets preferred_is : Option ℕ) (extra : ℕ) (body : List ℕ) (summed : Bool) (first second : ℕ) → IsConnect credit calling called octets preferred_is body → IsOctet preferred_is
    → Connects calling called octets preferred_is extra summed first second
connects credit calling called octets preferred_is extra body summed first second h low =
    let one : 1 ≤ 1 = omega arith in
    let four : 1 ≤ 4 = omega arith in
    let no : (n m : ℕ) → nat_eq n m ≡ false → n ≡ m → ⊥ = λ n m different e. cc (different, eq-eqb n m e) in
    record {
      has = connect_has calling called octets preferred_is extra summed first second;
      request = (
        (omega arith, h.calling_fits, (λ e. absurd (no 0xC1 0xC0 refl e)), (λ e. absurd (no 0xC1 0xF0 refl e))),
        (
          (omega arith, h.called_fits, (λ e. absurd (no 0xC2 0xC0 refl e)), (λ e. absurd (no 0xC2 0xF0 refl e))),
          sizes_suit Cr octets preferred_is extra summed first second (λ s k. (one, one, λ e. known_size s k, (λ e. absurd (no 0xC0 0xF0 refl e)))) (λ n some few. (one, four, (λ e. absurd (no 0xF0 0xC0 refl e)), λ e. known_preferred n some few))
              (one, one, (λ e. absurd (no 0xC6 0xC0 refl e)), (λ e. absurd (no 0xC6 0xF0 refl e))) (omega arith, omega arith, (λ e. absurd (no 0xC3 0xC0 refl e)), (λ e. absurd (no 0xC3 0xF0 refl e))) h.size_known h.preferred_known low,
        ),
      );
      confirm = (
        (omega arith, h.calling_fits, (λ e. absurd (no 0xC1 0xC0 refl e)), (λ e. absurd (no 0xC1 0xF0 refl e))),
        (
          (omega arith, h.called_fits, (λ e. absurd (no 0xC2 0xC0 refl e)), (λ e. absurd (no 0xC2 0xF0 refl e))),
          sizes_suit Cc octets preferred_is extra summed first second (λ s k. (one, one, λ e. known_size s k, (λ e. absurd (no 0xC0 0xF0 refl e)))) (λ n some few. (one, four, (λ e. absurd (no 0xF0 0xC0 refl e)), λ e. known_preferred n some few))
              (one, one, (λ e. absurd (no 0xC6 0xC0 refl e)), (λ e. absurd (no 0xC6 0xF0 refl e))) (omega arith, omega arith, (λ e. absurd (no 0xC3 0xC0 refl e)), (λ e. absurd (no 0xC3 0xF0 refl e))) h.size_known h.preferred_known low,
        ),
      );
    }

-- what stands for a CR and a CC, whether there is a checksum or not
abbrev Stands : List ℕ → List ℕ → Option ℕ → Option ℕ → ℕ → List Parameter → Type 0
Stands calling called octets preferred_is extra ps =
    (text 0xC1 ps ≡ calling) × (text 0xC2 ps ≡ called) × (size ps ≡ octets) × (preferred ps ≡ preferred_is) × (unwrap_or (octet_under 0xC6 ps) 1 ≡ extra) × (octet_under 0xC4 ps ≡ None) × (last_value 0xC7 ps ≡ None)
    × (pair_under 0x85 ps ≡ None)

connect_value : (calling called : List ℕ) (octets preferred_is : Option ℕ) (extra : ℕ) (summed : Bool) (first second : ℕ) → IsKnownSize octets → IsPreferred preferred_is → IsOctet preferred_is
    → Stands calling called octets preferred_is extra (connect_parameters calling called octets preferred_is extra ++ sums_for summed first second)
connect_value calling called None None extra true first second known some low = (refl, refl, refl, refl, refl, refl, refl, refl)
connect_value calling called None None extra false first second known some low = (refl, refl, refl, refl, refl, refl, refl, refl)
connect_value calling called None (Some n) extra true first second known some low = (refl, refl, refl, preferred_again n some low, refl, refl, refl, refl)
connect_value calling called None (Some n) extra false first second known some low = (refl, refl, refl, preferred_again n some low, refl, refl, refl, refl)
connect_value calling called (Some s) None extra true first second known some low = (refl, refl, size_again s known, refl, refl, refl, refl, refl)
connect_value calling called (Some s) None extra false first second known some low = (refl, refl, size_again s known, refl, refl, refl, refl, refl)
connect_value calling called (Some s) (Some n) extra true first second known some low = (refl, refl, size_again s known, preferred_again n some low, refl, refl, refl, refl)
connect_value calling called (Some s) (Some n) extra false first second known some low = (refl, refl, size_again s known, preferred_again n some low, refl, refl, refl, refl)

ack_has_by : (b summed : Bool) (value : List ℕ) (first second : ℕ) → has_sum (cond b [] (parameter 0x8A value ∷ []) ++ sums_for summed first second) ≡ summed
ack_has_by true true value first second = refl
ack_has_by false true value first second = refl
ack_has_by b summed value first second = refl

ack_suits_by : (b summed : Bool) (value : List ℕ) (first second : ℕ) → length value ≡ 2 → AllByRecursion (Suits Ak) (cond b [] (parameter 0x8A value ∷ []) ++ sums_for summed first second)
ack_suits_by true summed value first second two = sums_suit Ak summed first second (omega arith, omega arith, λ e. absurd (omega arith), λ e. absurd (omega arith))
ack_suits_by false summed value first second two =
    ((omega arith, omega arith, λ e. absurd (omega arith), λ e. absurd (omega arith)), sums_suit Ak summed first second (omega arith, omega arith, λ e. absurd (omega arith), λ e. absurd (omega arith)))

ack_value_by : (b summed : Bool) (n first second : ℕ) → nat_eq n 0 ≡ b
    → let ps = cond b [] (parameter 0x8A (two_octets n) ∷ []) ++ sums_for summed first second in (unwrap_or (pair_under 0x8A ps) 0 ≡ n) × (last_value 0x8C ps ≡ None)
ack_value_by true true n first second e = (sym (eqb-true _ _ e), refl)
ack_value_by true false n first second e = (sym (eqb-true _ _ e), refl)
ack_value_by false true n first second e = (number_back n, refl)
ack_value_by false false n first second e = (number_back n, refl)

-- a DR, DC, DT, ED, EA and ER have no parameter but the checksum
bare_value : (code : ℕ) (summed : Bool) (first second : ℕ) → nat_eq 0xC3 code ≡ false → last_value code (sums_for summed first second) ≡ None
bare_value code true first second e = rw e refl
bare_value code false first second e = refl

pub fine : (width : Format) (summed : Bool) (tpdu : Tpdu) (first second : ℕ) → IsPlain tpdu → IsAllowed width tpdu → Fine width summed tpdu first second
unfolding value_of
fine width summed (tpdus.Cr credit source format calling called octets preferred_is extra version classes ack_time body) first second plain allowed =
    let c = connects credit calling called octets preferred_is extra body summed first second allowed plain.0 in
    let v = connect_value calling called octets preferred_is extra summed first second allowed.size_known allowed.preferred_known plain.0 in
    let few = allowed.few_credits in
    let credit_is : (0xE0 + credit % 16) % 16 ≡ credit = omega arith in
    record {
      code = request_code (credit % 16) (omega arith);
      class = λ _. class_four format;
      parameters = c.request;
      has = c.has;
      body = le-leb _ _ allowed.octets_fit;
      value = λ i. tpdus.Cr (credit_is i) (number_back source i) (class_again format i) (v.0 i) (v.1 i) (v.2 i) (v.3 i) (v.4 i) ((v.5 ∙ sym plain.1) i) ((v.6 ∙ sym plain.2) i) ((v.7 ∙ sym plain.3) i) body;
    }
fine width summed (tpdus.Cc credit destination source format calling called octets preferred_is extra version classes ack_time body) first second plain allowed =
    let c = connects credit calling called octets preferred_is extra body summed first second allowed plain.0 in
    let v = connect_value calling called octets preferred_is extra summed first second allowed.size_known allowed.preferred_known plain.0 in
    let few = allowed.few_credits in
    let credit_is : (0xD0 + credit % 16) % 16 ≡ credit = omega arith in
    record {
      code = confirm_code (credit % 16) (omega arith);
      class = λ _. class_four format;
      parameters = c.confirm;
      has = c.has;
      body = le-leb _ _ allowed.octets_fit;
      value = λ i. tpdus.Cc (credit_is i) (number_back destination i) (number_back source i) (class_again format i) (v.0 i) (v.1 i) (v.2 i) (v.3 i) (v.4 i) ((v.5 ∙ sym plain.1) i) ((v.6 ∙ sym plain.2) i) ((v.7 ∙ sym plain.3) i) body;
    }
fine width summed (tpdus.Dr destination source reason info body) first second plain allowed = record {
  code = refl;
  class = λ h. absurd cc;
  parameters = sums_suit Dr summed first second (omega arith, omega arith, λ e. absurd (omega arith), λ e. absurd (omega arith));
  has = sums_has summed first second;
  body = le-leb _ _ allowed;
  value = λ i. tpdus.Dr (number_back destination i) (number_back source i) reason ((bare_value 0xE0 summed first second refl ∙ sym plain) i) body;
}
fine width summed (tpdus.Dc destination source) first second plain allowed = record {
  code = refl;
  class = λ h. absurd cc;
  parameters = sums_suit Dc summed first second (omega arith, omega arith, λ e. absurd (omega arith), λ e. absurd (omega arith));
  has = sums_has summed first second;
  body = refl;
  value = λ i. tpdus.Dc (number_back destination i) (number_back source i);
}
fine width summed (tpdus.Dt destination last number body) first second plain allowed =
    let n = number_again width last number (destination / 256) (destination % 256) allowed in
    record {
      code = refl;
      class = λ h. absurd cc;
      parameters = sums_suit Dt summed first second (omega arith, omega arith, λ e. absurd (omega arith), λ e. absurd (omega arith));
      has = sums_has summed first second;
      body = refl;
      value = λ i. tpdus.Dt (number_back destination i) (n.1 i) (n.0 i) body;
    }
fine width summed (tpdus.Ed destination last number body) first second plain allowed =
    let n = number_again width last number (destination / 256) (destination % 256) allowed.0 in
    record {
      code = refl;
      class = λ h. absurd cc;
      parameters = sums_suit Ed summed first second (omega arith, omega arith, λ e. absurd (omega arith), λ e. absurd (omega arith));
      has = sums_has summed first second;
      body = rw (le-leb 1 (length body) allowed.1, le-leb (length body) 16 allowed.2) refl;
      value = λ i. tpdus.Ed (number_back destination i) (n.1 i) (n.0 i) body;
    }
fine Normal summed (tpdus.Ak destination number credit subsequence confirmation) first second plain allowed =
    let n = number_again Normal false number (destination / 256) (destination % 256) allowed.0 in
    let v = ack_value_by (nat_eq subsequence 0) summed subsequence first second refl in
    let few : credit < 16 = allowed.1 in
    let credit_is : (0x60 + credit % 16) % 16 ≡ credit = omega arith in
    record {
      code = ack_kind (credit % 16) (omega arith);
      class = λ h. absurd cc;
      parameters = ack_suits_by (nat_eq subsequence 0) summed (two_octets subsequence) first second refl;
      has = ack_has_by (nat_eq subsequence 0) summed (two_octets subsequence) first second;
      body = refl;
      value = λ i. tpdus.Ak (number_back destination i) (n.0 i) (credit_is i) (v.0 i) ((v.1 ∙ sym plain) i);
    }
fine Extended summed (tpdus.Ak destination number credit subsequence confirmation) first second plain allowed =
    let n = number_again Extended false number (destination / 256) (destination % 256) allowed.0 in
    let v = ack_value_by (nat_eq subsequence 0) summed subsequence first second refl in
    record {
      code = refl;
      class = λ h. absurd cc;
      parameters = ack_suits_by (nat_eq subsequence 0) summed (two_octets subsequence) first second refl;
      has = ack_has_by (nat_eq subsequence 0) summed (two_octets subsequence) first second;
      body = refl;
      value = λ i. tpdus.Ak (number_back destination i) (n.0 i) (number_back credit i) (v.0 i) ((v.1 ∙ sym plain) i);
    }
fine width summed (tpdus.Ea destination number) first second plain allowed =
    let n = number_again width false number (destination / 256) (destination % 256) allowed in
    record {
      code = refl;
      class = λ h. absurd cc;
      parameters = sums_suit Ea summed first second (omega arith, omega arith, λ e. absurd (omega arith), λ e. absurd (omega arith));
      has = sums_has summed first second;
      body = refl;
      value = λ i. tpdus.Ea (number_back destination i) (n.0 i);
    }
fine width summed (tpdus.Er destination cause rejected) first second plain allowed = record {
  code = refl;
  class = λ h. absurd cc;
  parameters = sums_suit Er summed first second (omega arith, omega arith, λ e. absurd (omega arith), λ e. absurd (omega arith));
  has = sums_has summed first second;
  body = refl;
  value = λ i. tpdus.Er (number_back destination i) cause ((bare_value 0xC1 summed first second refl ∙ sym plain) i);
}
