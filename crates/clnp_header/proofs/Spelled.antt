-- A DT PDU has one spelling: its lengths follow from its fields, and so do all octets but the checksum, of which there is one that can be used.
use Rattle.std.proofs.Common.{◌≡◌, ℕ, ◌+◌, Bool, true, false, List, ◌∷◌, ◌++◌, length, Option, refl, sym, take, drop, ap, subst, ◌∙◌, arith, length-append}
use Rattle.osi_base.proofs.FletcherPair.{one_pair}
use Rattle.clnp_options.specs.declared.reason.PduKind.{PduKind}
use Rattle.clnp_options.specs.declared.reason.PduKind.TheVariants.{Dt, Er}
use Rattle.clnp_header.specs.declared.pdu.Pdu.{Pdu}
use Rattle.clnp_header.specs.declared.pdu.SegmentPart.{SegmentPart}
use Rattle.clnp_header.specs.Flags.{AreFlags}
use Rattle.clnp_header.specs.Grammar.{IsPdu, fixed_part, variable_part}
use Rattle.pdu_parts.specs.Checksum.{IsChecksum}
use Rattle.pdu_parts.specs.Number.{two_octets}
use Rattle.osi_base.specs.Fletcher.{Sealed}
use Rattle.clnp_header.specs.Writing.{IsWritten, SealsIf, plain_header}
use Rattle.clnp_header.proofs.Parts.{length-header}

one_checksum : (used : Bool) (before after : List ℕ) (x y u v : ℕ) → IsChecksum used x y (before ++ x ∷ y ∷ after) → IsChecksum used u v (before ++ u ∷ v ∷ after) → (x ≡ u) × (y ≡ v)
one_checksum false before after x y u v h k = (h.0 ∙ sym k.0, h.1 ∙ sym k.1)
one_checksum true before after x y u v h k = one_pair before after x y u v h.0 h.1 h.2 h.3 k.0 k.1 k.2 k.3 h.4 k.4

one_flags : (kind : PduKind) (flags others : ℕ) (segment : Option SegmentPart) (report : Bool) → kind ≡ Dt → AreFlags kind flags segment report → AreFlags kind others segment report → flags ≡ others
one_flags Dt flags others segment report dt h k = h ∙ sym k
one_flags Er flags others segment report dt h k = absurd cc

pub one_list : (octets others : List ℕ) (pdu : Pdu) → pdu.kind ≡ Dt → IsPdu octets pdu → IsPdu others pdu → octets ≡ others
one_list octets others pdu dt h k =
    let header_same : length k.header ≡ length h.header = length-header others pdu k ∙ sym (length-header octets pdu h) in
    let length-octets : length octets ≡ length h.header + length pdu.body = ap length h.whole ∙ length-append h.header pdu.body in
    let length-others : length others ≡ length k.header + length pdu.body = ap length k.whole ∙ length-append k.header pdu.body in
    let whole_same : length others ≡ length octets = omega arith in
    let flags_same : k.flags ≡ h.flags = one_flags pdu.kind k.flags h.flags pdu.segment pdu.report dt k.flags_part h.flags_part in
    let options_same : k.options ≡ h.options = k.options_part.parts ∙ sym h.options_part.parts in
    let n = length h.header in
    let m = length octets in
    let spelled : ℕ → ℕ → List ℕ = λ (x : ℕ) (y : ℕ). fixed_part n pdu.lifetime h.flags m x y ++ variable_part pdu h.options in
    let other_parts : k.header ≡ spelled k.first k.second = k.parts ∙ rw (header_same, whole_same, flags_same, options_same) refl in
    let before : List ℕ = 0x81 ∷ n ∷ 0x01 ∷ pdu.lifetime ∷ h.flags ∷ two_octets m in
    let after : List ℕ = variable_part pdu h.options in
    let P : ℕ → ℕ → List ℕ → Type 0 = IsChecksum pdu.checksum_used in
    let first : IsChecksum pdu.checksum_used h.first h.second (before ++ h.first ∷ h.second ∷ after) = subst (λ (xs : List ℕ). P h.first h.second xs) h.parts h.checksum in
    let second : IsChecksum pdu.checksum_used k.first k.second (before ++ k.first ∷ k.second ∷ after) = subst (λ (xs : List ℕ). P k.first k.second xs) other_parts k.checksum in
    let same = one_checksum pdu.checksum_used before after h.first h.second k.first k.second first second in
    let headers : h.header ≡ k.header = h.parts ∙ ap (λ (x : ℕ). spelled x h.second) same.0 ∙ ap (λ (y : ℕ). spelled k.first y) same.1 ∙ sym other_parts in
    h.whole ∙ ap (λ (xs : List ℕ). xs ++ pdu.body) headers ∙ sym k.whole

-- ---- what is written

one_sealed : (used : Bool) (plain one other : List ℕ) → SealsIf used plain one → SealsIf used plain other → one ≡ other
one_sealed false plain one other h k = h ∙ sym k
one_sealed true plain one other h k =
    let before = take 7 plain in
    let after = drop 9 plain in
    let same =
    one_pair before after h.first h.second k.first k.second h.first_used.0 h.first_used.1 h.second_used.0 h.second_used.1 k.first_used.0 k.first_used.1 k.second_used.0 k.second_used.1
    (subst Sealed h.written h.sealed) (subst Sealed k.written k.sealed) in
    h.written ∙ ap (λ (x : ℕ). before ++ x ∷ h.second ∷ after) same.0 ∙ ap (λ (y : ℕ). before ++ k.first ∷ y ∷ after) same.1 ∙ sym k.written

pub one_writing : (pdu : Pdu) (octets others : List ℕ) → IsWritten pdu octets → IsWritten pdu others → octets ≡ others
one_writing pdu octets others h k =
    h.whole ∙ ap (λ (xs : List ℕ). xs ++ pdu.body) (one_sealed pdu.checksum_used (plain_header pdu) h.header k.header h.sealed k.sealed) ∙ sym k.whole
