-- A fixed part with the checksum 0 and the parts behind it are what is written once they are sealed.
use Rattle.std.proofs.Common.{◌≡◌, ℕ, ◌%◌, ◌<◌, ◌≤◌, List, [], ◌∷◌, ◌++◌, length, take, drop, Bool, true, false, cond, Some, None, refl, sym, ap, subst, ◌∙◌, arith}
use Rattle.std.specs.Prelude.{nat_le}
use Rattle.std.proofs.lemmas.Bool.{leb-true}
use Rattle.std.proofs.lemmas.List.{append-nil}
use Rattle.osi_base.specs.Fletcher.{Sealed, Seals}
use Rattle.osi_base.proofs.FletcherPair.{one_pair}
use Rattle.pdu_parts.specs.Number.{two_octets}
use Rattle.esis_pdu.specs.declared.hello.Hello.{Hello}
use Rattle.esis_pdu.specs.declared.hello.Hello.TheVariants.{Esh, Ish, Rd}
use Rattle.esis_pdu.specs.Hellos.{IsAddressed, IsEsis, IsWritten, hold_of, parts, size_of, type_of}
use Rattle.esis_pdu.specs.Laws.{OneWriting}
use Rattle.esis_pdu.specs.steps.Writing.{draft_part, within}

type_low : (hello : Hello) → type_of hello % 32 ≡ type_of hello
type_low (Esh hold addresses) = refl
type_low (Ish hold title) = refl
type_low (Rd hold address snpa title) = refl

parts_some : (hello : Hello) → 0 < length (parts hello)
parts_some (Esh hold addresses) = omega arith
parts_some (Ish hold title) = omega arith
parts_some (Rd hold address snpa title) = omega arith

-- what is sealed is written
pub sealed_is_written : (draft : List ℕ) (hello : Hello) (octets : List ℕ) → draft ≡ draft_part (size_of hello) hello ++ parts hello → Seals draft 7 octets → IsWritten hello octets
sealed_is_written draft hello octets made s = record {
  first = s.first;
  second = s.second;
  written = s.written ∙ ap (λ (xs : List ℕ). take 7 xs ++ s.first ∷ s.second ∷ drop 9 xs) made;
  checked = (s.first_used.0, s.first_used.1, s.second_used.0, s.second_used.1, s.sealed);
}

-- what is written is a PDU, where it is not too long
pub written_is_pdu : (hello : Hello) (octets : List ℕ) → IsAddressed hello → size_of hello ≤ 254 → IsWritten hello octets
    → IsEsis octets (record { hello = hello; options = [] })
written_is_pdu hello octets addressed fits w =
    let size : length octets ≡ size_of hello = omega (arith, ap length w.written) in
    record {
      reserved = 0;
      kind = type_of hello;
      first = w.first;
      second = w.second;
      written = w.written
          ∙ ap (λ (n : ℕ). 130 ∷ n ∷ 1 ∷ 0 ∷ type_of hello ∷ two_octets (hold_of hello) ++ w.first ∷ w.second ∷ parts hello) (sym size)
          ∙ ap (λ (xs : List ℕ). 130 ∷ length octets ∷ 1 ∷ 0 ∷ type_of hello ∷ two_octets (hold_of hello) ++ w.first ∷ w.second ∷ xs) (sym (append-nil (parts hello)));
      least = omega (arith, size, parts_some hello);
      most = omega (arith, size);
      type_is = type_low hello;
      used = true;
      checked = w.checked;
      addressed = addressed;
      parameters = [];
      optional = refl;
    }

-- the two octets of the checksum are the same, and nothing else differs
pub one_writing : OneWriting
one_writing hello octets others w v =
    let before : List ℕ = 130 ∷ size_of hello ∷ 1 ∷ 0 ∷ type_of hello ∷ two_octets (hold_of hello) in
    let a = w.checked in
    let b = v.checked in
    let sealed : Sealed (before ++ w.first ∷ w.second ∷ parts hello) = subst Sealed w.written a.4 in
    let resealed : Sealed (before ++ v.first ∷ v.second ∷ parts hello) = subst Sealed v.written b.4 in
    let same = one_pair before (parts hello) w.first w.second v.first v.second a.0 a.1 a.2 a.3 b.0 b.1 b.2 b.3 sealed resealed in
    w.written
    ∙ ap (λ (n : ℕ). before ++ n ∷ w.second ∷ parts hello) same.0
    ∙ ap (λ (n : ℕ). before ++ v.first ∷ n ∷ parts hello) same.1
    ∙ sym v.written

-- a size that is told is at most 254
within_test : (b : Bool) (size len : ℕ) → (b ≡ true → size ≤ 254) → Some len ≡ cond b (Some size) None → (len ≡ size) × (size ≤ 254)
within_test true size len fits e = (cc, fits refl)
within_test false size len fits e = absurd cc

pub within_most : (size len : ℕ) → Some len ≡ within 254 size → (len ≡ size) × (size ≤ 254)
within_most size len e = within_test (nat_le size 254) size len (leb-true size 254) e
