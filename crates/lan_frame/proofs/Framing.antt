-- What is read as a frame is that frame with padding behind it, and the other way round.
-- That octets are a frame is seven facts on their first 17 members and their length. With those members
-- written out both sides compute, and what is left is that a length field is its two octets.
use Rattle.std.proofs.Common.{◌≡◌, ℕ, ◌+◌, ◌-◌, ◌*◌, ◌/◌, ◌%◌, ◌<◌, ◌≤◌, Bool, true, false, if◌then◌else◌, List, [], ◌∷◌, ◌++◌, length, take, drop, Some, None, refl, sym, ap, ◌∙◌, subst, arith, length-append, length-drop, length-take}
use Rattle.std.proofs.lemmas.Bool.Decides.{nat_tests}
use Rattle.std.proofs.lemmas.List.{length-take-le, take-append-drop}
use Rattle.std.proofs.lemmas.List.Elements.{All-get_or}
use Rattle.std.proofs.Math.Seq.{take-append_seam}
use Rattle.std.specs.Prelude.{All, slice_index}
use Rattle.osi_base.specs.Numbers.{big_number}
use Rattle.lan_frame.specs.Frame.{Framed, IsFrame, frame_in, is_alien, length_field, whole_frame}

-- the header is that of a frame with a network PDU, and that many octets are there
record HasHeader (octets : List ℕ) : Type 0 where
  pub long : 17 ≤ length octets
  pub least : 4 ≤ length_field octets
  pub most : length_field octets ≤ 1500
  pub whole : 14 + length_field octets ≤ length octets
  pub dsap : slice_index octets 14 ≡ 254
  pub ssap : slice_index octets 15 ≡ 254
  pub control : slice_index octets 16 ≡ 3

-- the frame that is read behind it
abbrev found : List ℕ → Framed
found octets = record { to = take 6 octets; from = take 6 (drop 6 octets); pdu = take (length_field octets - 3) (drop 17 octets) }

has_header : (octets : List ℕ) → is_alien octets ≡ false → HasHeader octets
has_header octets h = record {
  long = grind (arith, nat_tests);
  least = grind (arith, nat_tests);
  most = grind (arith, nat_tests);
  whole = grind (arith, nat_tests);
  dsap = grind (arith, nat_tests);
  ssap = grind (arith, nat_tests);
  control = grind (arith, nat_tests);
}

not_alien : (octets : List ℕ) → HasHeader octets → is_alien octets ≡ false
not_alien octets h = grind (arith, nat_tests)

-- ---- what is read is a frame

record IsRead (alien : Bool) (first frame : Framed) : Type 0 where
  pub not_alien : alien ≡ false
  pub same : first ≡ frame

is_read : (alien : Bool) (first frame : Framed) → (if alien then None else Some first) ≡ Some frame → IsRead alien first frame
is_read true first frame e = absurd cc
is_read false first frame e = record { not_alien = refl; same = cc }

found_framed : (octets : List ℕ) → slice_index octets 13 < 256 → HasHeader octets → IsFrame octets (found octets)
found_framed (a ∷ b ∷ c ∷ d ∷ e ∷ f ∷ g ∷ h ∷ i ∷ j ∷ k ∷ l ∷ high ∷ low ∷ dsap ∷ ssap ∷ control ∷ rest) octet header =
    let count : ℕ = high * 256 + low - 3 in
    let within : count ≤ length rest = omega arith in
    let pdu : length (take count rest) ≡ count = length-take-le count rest within in
    let parts : take count rest ++ drop count rest ≡ rest = take-append-drop count rest in
    let higher : (length (take count rest) + 3) / 256 ≡ high = omega arith in
    let lower : (length (take count rest) + 3) % 256 ≡ low = omega arith in
    record {
      to = refl;
      from = refl;
      least = omega arith;
      most = omega arith;
      padding = drop count rest;
      is = cc;
    }
found_framed octets octet header = absurd (omega arith)

pub read_framed : (octets : List ℕ) (frame : Framed) → All (λ octet. octet < 256) octets → frame_in octets ≡ Some frame → IsFrame octets frame
read_framed octets frame all e =
    let read = is_read (is_alien octets) (found octets) frame e in
    let facts = has_header octets read.not_alien in
    let octet : slice_index octets 13 < 256 = All-get_or (λ (x : ℕ). x < 256) octets 13 0 (omega arith) all in
    subst (λ (x : Framed). IsFrame octets x) read.same (found_framed octets octet facts)

-- ---- a frame is read

header_read : (octets : List ℕ) → HasHeader octets → frame_in octets ≡ Some (found octets)
header_read octets h = rw (not_alien octets h) refl

whole_has_header : (to from pdu padding : List ℕ) → length to ≡ 6 → length from ≡ 6 → 1 ≤ length pdu → length pdu ≤ 1497
    → HasHeader (whole_frame to from pdu ++ padding)
whole_has_header (a ∷ b ∷ c ∷ d ∷ e ∷ f ∷ []) (g ∷ h ∷ i ∷ j ∷ k ∷ l ∷ []) pdu padding six other least most =
    let behind : length (pdu ++ padding) ≡ length pdu + length padding = length-append pdu padding in
    record {
      long = omega arith;
      least = omega arith;
      most = omega arith;
      whole = omega arith;
      dsap = refl;
      ssap = refl;
      control = refl;
    }
whole_has_header to from pdu padding six other least most = absurd (omega arith)

whole_found : (to from pdu padding : List ℕ) → length to ≡ 6 → length from ≡ 6
    → found (whole_frame to from pdu ++ padding) ≡ record { to = to; from = from; pdu = pdu }
whole_found (a ∷ b ∷ c ∷ d ∷ e ∷ f ∷ []) (g ∷ h ∷ i ∷ j ∷ k ∷ l ∷ []) pdu padding six other =
    let count : (length pdu + 3) / 256 * 256 + (length pdu + 3) % 256 - 3 ≡ length pdu = omega arith in
    rw (count, take-append_seam pdu padding) refl
whole_found to from pdu padding six other = absurd (omega arith)

pub framed_read : (octets : List ℕ) (frame : Framed) → IsFrame octets frame → frame_in octets ≡ Some frame
framed_read octets frame h =
    let whole : List ℕ = whole_frame frame.to frame.from frame.pdu ++ h.padding in
    ap frame_in h.is
    ∙ header_read whole (whole_has_header frame.to frame.from frame.pdu h.padding h.to h.from h.least h.most)
    ∙ ap (λ (x : Framed). Some x) (whole_found frame.to frame.from frame.pdu h.padding h.to h.from)

-- ---- what the cursor gives is the frame

header_taken : (octets : List ℕ) → 12 + 2 + 3 ≤ length octets → 4 ≤ big_number 2 (drop 6 (drop 6 octets)) → big_number 2 (drop 6 (drop 6 octets)) ≤ 1500
    → big_number 2 (drop 6 (drop 6 octets)) ≤ length (drop 3 (drop 2 (drop 6 (drop 6 octets)))) + 3 → take 3 (drop 2 (drop 6 (drop 6 octets))) ≡ 254 ∷ 254 ∷ 3 ∷ []
    → HasHeader octets
    × (found octets ≡ record { to = take 6 octets; from = take 6 (drop 6 octets); pdu = take (big_number 2 (drop 6 (drop 6 octets)) - 3) (drop 3 (drop 2 (drop 6 (drop 6 octets)))) })
header_taken (a ∷ b ∷ c ∷ d ∷ e ∷ f ∷ g ∷ h ∷ i ∷ j ∷ k ∷ l ∷ high ∷ low ∷ dsap ∷ ssap ∷ control ∷ rest) long least most whole llc =
    let same : high * 256 + low - 3 ≡ big_number 2 (high ∷ low ∷ dsap ∷ ssap ∷ control ∷ rest) - 3 = omega arith in
    (record { long = omega arith; least = omega arith; most = omega arith; whole = omega arith; dsap = cc; ssap = cc; control = cc }, rw same refl)
header_taken octets long least most whole llc = absurd (omega arith)

-- the parts of a frame as they are taken, one after another
pub record IsTaken (octets : List ℕ) (frame : Framed) : Type 0 where
  pub from_on : List ℕ
  pub length_on : List ℕ
  pub llc_on : List ℕ
  pub pdu_on : List ℕ
  pub count : ℕ
  pub from_is : from_on ≡ drop 6 octets
  pub length_is : length_on ≡ drop 6 from_on
  pub llc_is : llc_on ≡ drop 2 length_on
  pub pdu_is : pdu_on ≡ drop 3 llc_on
  pub to : frame.to ≡ take 6 octets
  pub from : frame.from ≡ take 6 from_on
  pub count_is : count ≡ big_number 2 length_on
  pub llc : take 3 llc_on ≡ 254 ∷ 254 ∷ 3 ∷ []
  pub least : 4 ≤ count
  pub most : count ≤ 1500
  pub enough : count ≤ length pdu_on + 3
  pub pdu : frame.pdu ≡ take (count - 3) pdu_on

pub frame_taken : (octets : List ℕ) (frame : Framed) → IsTaken octets frame → Some frame ≡ frame_in octets
frame_taken octets frame h =
    let count : h.count ≡ big_number 2 (drop 6 (drop 6 octets)) = cc in
    let pdu_on : h.pdu_on ≡ drop 3 (drop 2 (drop 6 (drop 6 octets))) = cc in
    let llc : take 3 (drop 2 (drop 6 (drop 6 octets))) ≡ 254 ∷ 254 ∷ 3 ∷ [] = cc in
    let three : length (take 3 (drop 2 (drop 6 (drop 6 octets)))) ≡ 3 = ap length llc in
    let long : 12 + 2 + 3 ≤ length octets = omega (arith, three, length-take {A = ℕ}, length-drop {A = ℕ}) in
    let behind : length h.pdu_on ≡ length (drop 3 (drop 2 (drop 6 (drop 6 octets)))) = ap length pdu_on in
    let read = header_taken octets long (omega (arith, count)) (omega (arith, count)) (omega (arith, count, behind)) llc in
    let to : frame.to ≡ take 6 octets = h.to in
    let from : frame.from ≡ take 6 (drop 6 octets) = cc in
    let pdu : frame.pdu ≡ take (big_number 2 (drop 6 (drop 6 octets)) - 3) (drop 3 (drop 2 (drop 6 (drop 6 octets)))) = cc in
    ap (λ (x : Framed). Some x) (λ i. record { to = to i; from = from i; pdu = pdu i }) ∙ ap (λ (x : Framed). Some x) (sym read.1) ∙ sym (header_read octets read.0)
