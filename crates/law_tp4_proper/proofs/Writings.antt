-- A TPDU that its format allows can be written: its header is short, and two octets of a checksum take both sums to 0.
use Rattle.std.proofs.Common.{◌≡◌, ℕ, ◌+◌, ◌*◌, ◌-◌, ◌%◌, ◌==◌, ◌<◌, ◌≤◌, Bool, true, false, List, [], ◌∷◌, ◌++◌, length, sum, reverse, append_assoc, refl, sym, subst, ◌∙◌, arith, inl, inr}
use Rattle.std.proofs.lemmas.Bool.{cases_eq}
use Rattle.std.specs.Prelude.{Option, Some, None, unwrap_or, if◌then◌else◌}
use Rattle.osi_base.specs.Fletcher.{Sealed, place_sum}
use Rattle.osi_base.proofs.FletcherPair.{seals_pair}
use Rattle.pdu_parts.specs.Number.{two_octets}
use Rattle.pdu_parts.specs.Parameter.{Parameter, spelled}
use Rattle.law_carrier_answers.specs.Answers.{AreOctets}
use Rattle.tpdu.specs.declared.tpdu.Format.{Format}
use Rattle.tpdu.specs.declared.tpdu.Format.TheVariants.{Normal, Extended}
use Rattle.tpdu.specs.declared.tpdu.Tpdu.{Tpdu}
use Rattle.tpdu.specs.declared.tpdu.Tpdu.TheVariants.{Cr, Cc, Dr, Dc, Dt, Ed, Ak, Ea, Er}
use Rattle.tpdu.specs.Writing.{IsAllowed, IsWritten, ack_parameters, body_for, class_for, code_for, connect_parameters, count_for, fixed_for, is_summed, number_for, parameter, parameters_for, preferred_parameters, size_code, size_parameters}
use Rattle.tpdu.specs.steps.Sums.{SumsIf}
use Rattle.tpdu.proofs.Formats.{fits}
use Rattle.tpdu.proofs.Spellings.{spelled_by}
use Rattle.tp4_number.proofs.Past.{if_kept}
use Rattle.law_tp4_proper.specs.Octets.{HasOctets, IsPair}
use Rattle.law_tp4_proper.proofs.Octets.{bytes_are_octets, octets_both, two_are_octets}

-- ---- a checksum

-- an octet from 1 to 255 that is the same modulo 255
record IsUsed (value octet : ℕ) : Type 0 where
  used : (0 < octet) × (octet < 256)
  same : octet % 255 ≡ value % 255

used : (value : ℕ) → (octet : ℕ) × IsUsed value octet
used value = elim (cases_eq (value % 255) 0) [
  | inl none ↦ (255, record { used = (omega arith, omega arith); same = omega (arith, none) })
  | inr some ↦ (value % 255, record { used = (omega (arith, some), omega arith); same = omega arith })
]

record Seal (front after : List ℕ) : Type 0 where
  high : ℕ
  low : ℕ
  high_used : (0 < high) × (high < 256)
  low_used : (0 < low) × (low < 256)
  sealed : Sealed (front ++ high ∷ low ∷ after)

seal : (front after : List ℕ) → Seal front after
seal front after =
    let f = sum (front ++ 0 ∷ 0 ∷ after) % 255 in
    let g = place_sum 1 (reverse (front ++ 0 ∷ 0 ∷ after)) % 255 in
    let b = length after + 1 in
    let x = used (b * f + (255 - g)) in
    let y = used ((b + 1) * (255 - f) + g) in
    record {
      high = x.0;
      low = y.0;
      high_used = x.1.used;
      low_used = y.1.used;
      sealed = seals_pair front after f g b x.0 y.0 refl refl refl x.1.same y.1.same;
    }

record Summed (summed : Bool) (old body : List ℕ) : Type 0 where
  new : List ℕ
  sums : SumsIf summed old body new
  octets : AreOctets old → AreOctets new

summed_with : (summed : Bool) (old body : List ℕ) → Summed summed old body
summed_with false old body = record { new = old; sums = refl; octets = λ h. h }
summed_with true old body =
    let s = seal (old ++ 0xC3 ∷ 2 ∷ []) body in
    let same : (old ++ 0xC3 ∷ 2 ∷ s.high ∷ s.low ∷ []) ++ body ≡ (old ++ 0xC3 ∷ 2 ∷ []) ++ s.high ∷ s.low ∷ body =
    append_assoc old (0xC3 ∷ 2 ∷ s.high ∷ s.low ∷ []) body ∙ sym (append_assoc old (0xC3 ∷ 2 ∷ []) (s.high ∷ s.low ∷ body)) in
    record {
      new = old ++ 0xC3 ∷ 2 ∷ s.high ∷ s.low ∷ [];
      sums = record { high = s.high; low = s.low; high_used = s.high_used; low_used = s.low_used; appended = refl; sealed = subst Sealed (sym same) s.sealed };
      octets = λ h. octets_both old (0xC3 ∷ 2 ∷ s.high ∷ s.low ∷ []) h (omega arith, (omega arith, (s.high_used.1, (s.low_used.1, tt))));
    }

-- ---- the parts in octets

class_low : (format : Format) → class_for format < 256
class_low Normal = omega arith
class_low Extended = omega arith

number_octets : (width : Format) (last : Bool) (number : ℕ) → AreOctets (number_for width last number)
number_octets Normal true number = (omega arith, tt)
number_octets Normal false number = (omega arith, tt)
number_octets Extended last number = bytes_are_octets 4 _

code_low : (width : Format) (tpdu : Tpdu) → code_for width tpdu < 256
code_low width (Cr credit source width_of calling called size preferred extra version classes ack_time octets) = omega arith
code_low width (Cc credit destination source width_of calling called size preferred extra version classes ack_time octets) = omega arith
code_low width (Dr destination source reason info octets) = omega arith
code_low width (Dc destination source) = omega arith
code_low width (Dt destination last number octets) = omega arith
code_low width (Ed destination last number octets) = omega arith
code_low Normal (Ak destination number credit subsequence confirmation) = omega arith
code_low Extended (Ak destination number credit subsequence confirmation) = omega arith
code_low width (Ea destination number) = omega arith
code_low width (Er destination cause rejected) = omega arith

fixed_octets : (width : Format) (tpdu : Tpdu) → HasOctets tpdu → AreOctets (fixed_for width tpdu)
fixed_octets width (Cr credit source width_of calling called size preferred extra version classes ack_time octets) h =
    octets_both (two_octets 0) (two_octets source ++ class_for width_of ∷ []) (omega arith, (omega arith, tt))
    (octets_both (two_octets source) (class_for width_of ∷ []) (two_are_octets source h.0) (class_low width_of, tt))
fixed_octets width (Cc credit destination source width_of calling called size preferred extra version classes ack_time octets) h =
    octets_both (two_octets destination) (two_octets source ++ class_for width_of ∷ []) (two_are_octets destination h.0)
    (octets_both (two_octets source) (class_for width_of ∷ []) (two_are_octets source h.1) (class_low width_of, tt))
fixed_octets width (Dr destination source reason info octets) h =
    octets_both (two_octets destination) (two_octets source ++ reason ∷ []) (two_are_octets destination h.0)
    (octets_both (two_octets source) (reason ∷ []) (two_are_octets source h.1) (h.2, tt))
fixed_octets width (Dc destination source) h = octets_both (two_octets destination) (two_octets source) (two_are_octets destination h.0) (two_are_octets source h.1)
fixed_octets width (Dt destination last number octets) h =
    octets_both (two_octets destination) (number_for width last number) (two_are_octets destination h.0) (number_octets width last number)
fixed_octets width (Ed destination last number octets) h =
    octets_both (two_octets destination) (number_for width last number) (two_are_octets destination h.0) (number_octets width last number)
fixed_octets Normal (Ak destination number credit subsequence confirmation) h =
    octets_both (two_octets destination) (number_for Normal false number ++ []) (two_are_octets destination h.0)
    (octets_both (number_for Normal false number) [] (number_octets Normal false number) tt)
fixed_octets Extended (Ak destination number credit subsequence confirmation) h =
    octets_both (two_octets destination) (number_for Extended false number ++ two_octets credit) (two_are_octets destination h.0)
    (octets_both (number_for Extended false number) (two_octets credit) (number_octets Extended false number) (two_are_octets credit h.1))
fixed_octets width (Ea destination number) h =
    octets_both (two_octets destination) (number_for width false number) (two_are_octets destination h) (number_octets width false number)
fixed_octets width (Er destination cause rejected) h = octets_both (two_octets destination) (cause ∷ []) (two_are_octets destination h.0) (h.1, tt)

size_low : (size : ℕ) → size_code size < 256
size_low size =
    test 128 7 _ (omega arith) (test 256 8 _ (omega arith) (test 512 9 _ (omega arith) (test 1024 10 _ (omega arith)
    (test 2048 11 _ (omega arith) (test 4096 12 _ (omega arith) (test 8192 13 _ (omega arith) (omega arith)))))))
  where
    test : (octets code : ℕ) (rest : Option ℕ) → code < 256 → unwrap_or rest 0 < 256 → unwrap_or (if octets == size then Some code else rest) 0 < 256
    test octets code rest low h = if_kept (λ (found : Option ℕ). unwrap_or found 0 < 256) (octets == size) (Some code) rest (λ _. low) (λ _. h)

-- the sizes that a CR or a CC names, and its additional options
extra_octets : (extra : ℕ) → extra < 256 → AreOctets (spelled (parameter 0xC6 (extra ∷ []) ∷ []))
extra_octets extra low = (omega arith, (omega arith, (low, tt)))

preferred_octets : (preferred : Option ℕ) (extra : ℕ) → extra < 256 → AreOctets (spelled (preferred_parameters preferred ++ parameter 0xC6 (extra ∷ []) ∷ []))
preferred_octets None extra low = extra_octets extra low
preferred_octets (Some number) extra low = (omega arith, (omega arith, (omega arith, extra_octets extra low)))

sizes_octets : (size preferred : Option ℕ) (extra : ℕ) → extra < 256
    → AreOctets (spelled (size_parameters size ++ preferred_parameters preferred ++ parameter 0xC6 (extra ∷ []) ∷ []))
sizes_octets None preferred extra low = preferred_octets preferred extra low
sizes_octets (Some size) preferred extra low = (omega arith, (omega arith, (size_low size, preferred_octets preferred extra low)))

connect_octets : (calling called : List ℕ) (size preferred : Option ℕ) (extra : ℕ) → length calling ≤ 32 → length called ≤ 32 → AreOctets calling → AreOctets called → extra < 256
    → AreOctets (spelled (connect_parameters calling called size preferred extra))
connect_octets calling called size preferred extra short few one other low =
    let last : List Parameter = size_parameters size ++ preferred_parameters preferred ++ parameter 0xC6 (extra ∷ []) ∷ [] in (
      omega arith,
      (
        omega (arith, short),
        octets_both calling (spelled (parameter 0xC2 called ∷ last)) one (
          omega arith,
          (
            omega (arith, few),
            octets_both called (spelled last) other (sizes_octets size preferred extra low),
          ),
        ),
      ),
    )

ack_octets : (subsequence : ℕ) → IsPair subsequence → AreOctets (spelled (ack_parameters subsequence))
ack_octets subsequence low =
    if_kept (λ (ps : List Parameter). AreOctets (spelled ps)) (subsequence == 0) [] (parameter 0x8A (two_octets subsequence) ∷ [])
    (λ _. tt)
    (λ _. (omega arith, (omega arith, two_are_octets subsequence low)))

parameter_octets : (width : Format) (tpdu : Tpdu) → IsAllowed width tpdu → HasOctets tpdu → AreOctets (spelled (parameters_for tpdu))
parameter_octets width (Cr credit source width_of calling called size preferred extra version classes ack_time octets) a h =
    connect_octets calling called size preferred extra a.calling_fits a.called_fits h.1 h.2 h.3
parameter_octets width (Cc credit destination source width_of calling called size preferred extra version classes ack_time octets) a h =
    connect_octets calling called size preferred extra a.calling_fits a.called_fits h.2 h.3 h.4
parameter_octets width (Dr destination source reason info octets) a h = tt
parameter_octets width (Dc destination source) a h = tt
parameter_octets width (Dt destination last number octets) a h = tt
parameter_octets width (Ed destination last number octets) a h = tt
parameter_octets width (Ak destination number credit subsequence confirmation) a h = ack_octets subsequence h.2
parameter_octets width (Ea destination number) a h = tt
parameter_octets width (Er destination cause rejected) a h = tt

body_octets : (tpdu : Tpdu) → HasOctets tpdu → AreOctets (body_for tpdu)
body_octets (Cr credit source width_of calling called size preferred extra version classes ack_time octets) h = h.4
body_octets (Cc credit destination source width_of calling called size preferred extra version classes ack_time octets) h = h.5
body_octets (Dr destination source reason info octets) h = h.3
body_octets (Dc destination source) h = tt
body_octets (Dt destination last number octets) h = h.1
body_octets (Ed destination last number octets) h = h.1
body_octets (Ak destination number credit subsequence confirmation) h = tt
body_octets (Ea destination number) h = tt
body_octets (Er destination cause rejected) h = tt

-- ---- all of it

pub record Writing (width : Format) (sum : Bool) (tpdu : Tpdu) : Type 0 where
  pub octets : List ℕ
  pub written : IsWritten width sum tpdu octets
  pub are : AreOctets octets

pub some_writing : (width : Format) (sum : Bool) (tpdu : Tpdu) → IsAllowed width tpdu → HasOctets tpdu → Writing width sum tpdu
some_writing width sum tpdu a h =
    let summed = is_summed sum tpdu in
    let count = count_for width summed tpdu in
    let short : count ≤ 254 = fits width sum tpdu a in
    let start : List ℕ = count ∷ code_for width tpdu ∷ [] in
    let old : List ℕ = (start ++ fixed_for width tpdu) ++ spelled (parameters_for tpdu) in
    let s = summed_with summed old (body_for tpdu) in
    let header : AreOctets old =
    octets_both (start ++ fixed_for width tpdu) (spelled (parameters_for tpdu))
    (octets_both start (fixed_for width tpdu) (omega (arith, short), (code_low width tpdu, tt)) (fixed_octets width tpdu h))
    (parameter_octets width tpdu a h) in
    record {
      octets = s.new ++ body_for tpdu;
      written = spelled_by width summed tpdu count old s.new (s.new ++ body_for tpdu) refl short refl s.sums refl;
      are = octets_both s.new (body_for tpdu) (s.octets header) (body_octets tpdu h);
    }
