-- The octets that are written: they are a spelling of the UD, and the only one that is written.
use Rattle.std.proofs.Common.{◌≡◌, ℕ, ◌+◌, List, [], ◌∷◌, ◌++◌, length, take, drop, refl, sym, ap, subst, ◌∙◌, append_assoc, arith}
use Rattle.std.proofs.lemmas.List.{length-append, take_at, drop_at}
use Rattle.osi_base.specs.Fletcher.{Sealed, Seals}
use Rattle.osi_base.proofs.FletcherPair.{one_pair}
use Rattle.pdu_parts.specs.Parameter.{spelled}
use Rattle.cltp.specs.Ud.{Ud, IsSelector, IsUd}
use Rattle.cltp.specs.Writing.{parameters_for, IsWritten}

-- what stands before the two octets of the checksum
abbrev pub before_sum : ℕ → List ℕ → List ℕ → List ℕ
before_sum n from to = n ∷ 0x40 ∷ 0xC1 ∷ length from ∷ (from ++ 0xC2 ∷ length to ∷ (to ++ 0xC3 ∷ 2 ∷ []))

length-before : (n : ℕ) (from to : List ℕ) → length (before_sum n from to) ≡ 8 + length from + length to
length-before n from to = omega (arith, length-append from (0xC2 ∷ length to ∷ (to ++ 0xC3 ∷ 2 ∷ [])), length-append to (0xC3 ∷ 2 ∷ []))

length-for : (ud : Ud) (first second : ℕ) → length (spelled (parameters_for ud first second)) ≡ 8 + length ud.from + length ud.to
length-for ud first second = omega (arith, length-append ud.from (0xC2 ∷ length ud.to ∷ (ud.to ++ 0xC3 ∷ 2 ∷ first ∷ second ∷ [])), length-append ud.to (0xC3 ∷ 2 ∷ first ∷ second ∷ []))

-- the parameters one after another, and what follows
before_more : (n : ℕ) (from to more : List ℕ) → (n ∷ 0x40 ∷ 0xC1 ∷ length from ∷ (from ++ 0xC2 ∷ length to ∷ to)) ++ 0xC3 ∷ 2 ∷ more ≡ before_sum n from to ++ more
before_more n from to more =
    let tail : to ++ 0xC3 ∷ 2 ∷ more ≡ (to ++ 0xC3 ∷ 2 ∷ []) ++ more = sym (append_assoc to (0xC3 ∷ 2 ∷ []) more) in
    ap (λ (t : List ℕ). n ∷ 0x40 ∷ 0xC1 ∷ length from ∷ t)
    (append_assoc from (0xC2 ∷ length to ∷ to) (0xC3 ∷ 2 ∷ more) ∙ ap (λ (t : List ℕ). from ++ 0xC2 ∷ length to ∷ t) tail
    ∙ sym (append_assoc from (0xC2 ∷ length to ∷ (to ++ 0xC3 ∷ 2 ∷ [])) more))

-- all octets, with the two of the checksum apart
around_sum : (n : ℕ) (ud : Ud) (first second : ℕ)
    → n ∷ 0x40 ∷ (spelled (parameters_for ud first second) ++ ud.octets) ≡ before_sum n ud.from ud.to ++ first ∷ second ∷ ud.octets
around_sum n ud first second =
    let tail = first ∷ second ∷ ud.octets in
    let inner : (ud.to ++ 0xC3 ∷ 2 ∷ first ∷ second ∷ []) ++ ud.octets ≡ (ud.to ++ 0xC3 ∷ 2 ∷ []) ++ tail
    = append_assoc ud.to (0xC3 ∷ 2 ∷ first ∷ second ∷ []) ud.octets ∙ sym (append_assoc ud.to (0xC3 ∷ 2 ∷ []) tail) in
    let outer : (ud.from ++ 0xC2 ∷ length ud.to ∷ (ud.to ++ 0xC3 ∷ 2 ∷ first ∷ second ∷ [])) ++ ud.octets ≡ (ud.from ++ 0xC2 ∷ length ud.to ∷ (ud.to ++ 0xC3 ∷ 2 ∷ [])) ++ tail
    = append_assoc ud.from (0xC2 ∷ length ud.to ∷ (ud.to ++ 0xC3 ∷ 2 ∷ first ∷ second ∷ [])) ud.octets
    ∙ ap (λ (t : List ℕ). ud.from ++ 0xC2 ∷ length ud.to ∷ t) inner
    ∙ sym (append_assoc ud.from (0xC2 ∷ length ud.to ∷ (ud.to ++ 0xC3 ∷ 2 ∷ [])) tail) in
    ap (λ (t : List ℕ). n ∷ 0x40 ∷ 0xC1 ∷ length ud.from ∷ t) outer

-- the same, where the first octet counts the header
pub whole_at : (ud : Ud) (n first second : ℕ) → n ≡ 9 + length ud.from + length ud.to
    → before_sum n ud.from ud.to ++ first ∷ second ∷ ud.octets ≡ (length (spelled (parameters_for ud first second)) + 1) ∷ 0x40 ∷ (spelled (parameters_for ud first second) ++ ud.octets)
whole_at ud n first second is =
    let same : n ≡ length (spelled (parameters_for ud first second)) + 1 = omega (arith, is, length-for ud first second) in
    sym (around_sum n ud first second) ∙ ap (λ (k : ℕ). k ∷ 0x40 ∷ (spelled (parameters_for ud first second) ++ ud.octets)) same

pub written_is : (ud : Ud) (octets : List ℕ) → IsWritten ud octets → IsSelector ud.from → IsSelector ud.to → IsUd octets ud
written_is ud octets w from to = record {
  parameters = parameters_for ud w.first w.second;
  whole = w.whole;
  few = omega (arith, length-for ud w.first w.second, from.most, to.most);
  each = ((from.some, from.most), ((to.some, to.most), ((omega arith, omega arith), tt)));
  from = refl;
  to = refl;
  sealed = λ _. w.sealed;
}

pub one_writing : (ud : Ud) (octets others : List ℕ) → IsWritten ud octets → IsWritten ud others → octets ≡ others
one_writing ud octets others s t =
    let n = 9 + length ud.from + length ud.to in
    let before = before_sum n ud.from ud.to in
    let one : octets ≡ before ++ s.first ∷ s.second ∷ ud.octets = s.whole ∙ sym (whole_at ud n s.first s.second refl) in
    let other : others ≡ before ++ t.first ∷ t.second ∷ ud.octets = t.whole ∙ sym (whole_at ud n t.first t.second refl) in
    let pair = one_pair before ud.octets s.first s.second t.first t.second s.first_used.0 s.first_used.1 s.second_used.0 s.second_used.1 t.first_used.0 t.first_used.1 t.second_used.0 t.second_used.1
    (subst Sealed one s.sealed) (subst Sealed other t.sealed) in
    one ∙ (λ i. before ++ pair.0 i ∷ pair.1 i ∷ ud.octets) ∙ sym other

-- what was sealed is written
pub sealed_is : (ud : Ud) (n at : ℕ) (was sealed : List ℕ) → n ≡ 9 + length ud.from + length ud.to → at ≡ 8 + length ud.from + length ud.to
    → was ≡ before_sum n ud.from ud.to ++ 0 ∷ 0 ∷ ud.octets → Seals was at sealed → IsWritten ud sealed
sealed_is ud n at was sealed n_is at_is was_is s =
    let before = before_sum n ud.from ud.to in
    let count : length before ≡ at = length-before n ud.from ud.to ∙ sym at_is in
    let front : take at was ≡ before = ap (take at) was_is ∙ take_at before (0 ∷ 0 ∷ ud.octets) at count in
    let longer = before ++ 0 ∷ 0 ∷ [] in
    let longer_count : length longer ≡ at + 2 = omega (arith, length-append before (0 ∷ 0 ∷ [])) in
    let tail : drop (at + 2) was ≡ ud.octets = ap (drop (at + 2)) (was_is ∙ sym (append_assoc before (0 ∷ 0 ∷ []) ud.octets)) ∙ drop_at longer ud.octets (at + 2) longer_count in
    let written : sealed ≡ before ++ s.first ∷ s.second ∷ ud.octets = s.written ∙ λ i. front i ++ s.first ∷ s.second ∷ tail i in
    record {
      first = s.first;
      second = s.second;
      whole = written ∙ whole_at ud n s.first s.second n_is;
      first_used = s.first_used;
      second_used = s.second_used;
      sealed = s.sealed;
    }

-- the same from the steps of the code
pub written_from : (ud : Ud) (n at : ℕ) (start one two three four five sealed : List ℕ) → n ≡ 9 + length ud.from + length ud.to → at ≡ 8 + length ud.from + length ud.to
    → start ≡ [] → one ≡ start ++ n ∷ 0x40 ∷ [] → two ≡ one ++ 0xC1 ∷ length ud.from ∷ ud.from → three ≡ two ++ 0xC2 ∷ length ud.to ∷ ud.to
    → four ≡ three ++ 0xC3 ∷ 2 ∷ 0 ∷ 0 ∷ [] → five ≡ four ++ ud.octets → Seals five at sealed → IsWritten ud sealed
written_from ud n at start one two three four five sealed n_is at_is start_is one_is two_is three_is four_is five_is s =
    let one_all : one ≡ n ∷ 0x40 ∷ [] = one_is ∙ ap (λ (t : List ℕ). t ++ n ∷ 0x40 ∷ []) start_is in
    let two_all : two ≡ n ∷ 0x40 ∷ 0xC1 ∷ length ud.from ∷ ud.from = two_is ∙ ap (λ (t : List ℕ). t ++ 0xC1 ∷ length ud.from ∷ ud.from) one_all in
    let three_all : three ≡ n ∷ 0x40 ∷ 0xC1 ∷ length ud.from ∷ (ud.from ++ 0xC2 ∷ length ud.to ∷ ud.to)
    = three_is ∙ ap (λ (t : List ℕ). t ++ 0xC2 ∷ length ud.to ∷ ud.to) two_all in
    let more = 0 ∷ 0 ∷ [] in
    let four_all : four ≡ before_sum n ud.from ud.to ++ more
    = four_is ∙ ap (λ (t : List ℕ). t ++ 0xC3 ∷ 2 ∷ 0 ∷ 0 ∷ []) three_all ∙ before_more n ud.from ud.to more in
    let five_all : five ≡ before_sum n ud.from ud.to ++ 0 ∷ 0 ∷ ud.octets
    = five_is ∙ ap (λ (t : List ℕ). t ++ ud.octets) four_all ∙ append_assoc (before_sum n ud.from ud.to) more ud.octets in
    sealed_is ud n at five sealed n_is at_is five_all s

-- how many octets the steps of the code give
pub length-steps : (from to octets : List ℕ) (n code : ℕ) (start one two three four five : List ℕ) → start ≡ [] → one ≡ start ++ n ∷ code ∷ []
    → two ≡ one ++ 0xC1 ∷ length from ∷ from → three ≡ two ++ 0xC2 ∷ length to ∷ to → four ≡ three ++ 0xC3 ∷ 2 ∷ 0 ∷ 0 ∷ [] → five ≡ four ++ octets
    → length five ≡ 10 + length from + length to + length octets
length-steps from to octets n code start one two three four five a b c d e f =
    omega (
      arith,
      ap length a,
      ap length b ∙ length-append start (n ∷ code ∷ []),
      ap length c ∙ length-append one (0xC1 ∷ length from ∷ from),
      ap length d ∙ length-append two (0xC2 ∷ length to ∷ to),
      ap length e ∙ length-append three (0xC3 ∷ 2 ∷ 0 ∷ 0 ∷ []),
      ap length f ∙ length-append four octets,
    )
