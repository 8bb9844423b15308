-- The runs of a segment's data stand in it where they begin, so an octet of a run is the octet of the unit at its position.
use Rattle.std.proofs.Common.{◌≡◌, ℕ, zero, suc, ◌+◌, Bool, true, false, List, [], ◌∷◌, ◌++◌, length, slice_get, Option, Some, sym, ◌∙◌, ap, subst, arith}
use Rattle.std.specs.List.{AllByRecursion}
use Rattle.pdu_parts.specs.Parameter.{spelled}
use Rattle.clnp_header.specs.declared.pdu.Pdu.{Pdu}
use Rattle.clnp_header.specs.declared.pdu.SegmentPart.{SegmentPart}
use Rattle.clnp_header.specs.Grammar.{segment_part}
use Rattle.clnp_header.specs.Values.{parameters}
use Rattle.clnp_header.specs.Writing.{header_length}
use Rattle.clnp_segment.specs.Cutting.{Pieces, piece_of, piece_pdus}
use Rattle.clnp_segment.specs.Joining.{IsSegmentOf}
use Rattle.clnp_segment.specs.Laws.{CutsAlike}
use Rattle.clnp_segment.specs.Units.{IsOfUnit, segment_in}

pub get_left : (xs ys : List ℕ) (i octet : ℕ) → slice_get xs i ≡ Some octet → slice_get (xs ++ ys) i ≡ Some octet
get_left [] ys i octet h = absurd cc
get_left (x ∷ xs) ys zero octet h = h
get_left (x ∷ xs) ys (suc i) octet h = get_left xs ys i octet h

get_right : (xs ys : List ℕ) (i octet : ℕ) → slice_get ys i ≡ Some octet → slice_get (xs ++ ys) (length xs + i) ≡ Some octet
get_right [] ys i octet h = subst (λ (n : ℕ). slice_get ys n ≡ Some octet) (omega arith) h
get_right (x ∷ xs) ys i octet h =
    let later : suc (length xs + i) ≡ length (x ∷ xs) + i = omega arith in
    subst (λ (n : ℕ). slice_get (x ∷ (xs ++ ys)) n ≡ Some octet) later (get_right xs ys i octet h)

module _ (unit : List ℕ) (header room : ℕ) (pdu : Pdu) (part : SegmentPart) (segment : pdu.segment ≡ Some part) (is : IsSegmentOf unit header (segment_in pdu part)) where
  same_header : (position : ℕ) (last : Bool) (octets : List ℕ) → header_length (piece_of pdu part position last octets) ≡ header_length pdu
  same_header position last octets =
      ap (λ (s : Option SegmentPart). 11 + length pdu.destination + length pdu.source + length (segment_part s) + length (spelled (parameters pdu.options))) (sym segment)

  piece_is : (position : ℕ) (last : Bool) (octets : List ℕ) → ((i octet : ℕ) → slice_get octets i ≡ Some octet → slice_get pdu.body (position + i) ≡ Some octet)
      → IsOfUnit unit header (piece_of pdu part position last octets)
  piece_is position last octets stands = record {
    header_is = same_header position last octets ∙ is.header_is;
    total_is = is.total_is;
    octets = λ p octet has. is.octets p octet (record { place = position + has.place; at = omega (arith, has.at); is = stands has.place octet has.is });
  }

  pieces_are : (position : ℕ) (octets : List ℕ) (pieces : List (List ℕ)) → ((i octet : ℕ) → slice_get octets i ≡ Some octet → slice_get pdu.body (position + i) ≡ Some octet)
      → Pieces room (header_length pdu) octets pieces → AllByRecursion (IsOfUnit unit header) (piece_pdus pdu part position pieces)
  pieces_are position octets [] stands h = absurd h
  pieces_are position octets (last ∷ []) stands h =
      (piece_is position true last (λ i octet there. stands i octet (subst (λ (xs : List ℕ). slice_get xs i ≡ Some octet) h.1 there)), tt)
  pieces_are position octets (piece ∷ next ∷ pieces) stands h =
      let rest = h.2.0 in
      let whole : (i octet : ℕ) → slice_get (piece ++ rest) i ≡ Some octet → slice_get pdu.body (position + i) ≡ Some octet =
      λ i octet there. stands i octet (subst (λ (xs : List ℕ). slice_get xs i ≡ Some octet) (sym h.2.1) there) in (
        piece_is position false piece (λ i octet there. whole i octet (get_left piece rest i octet there)),
        pieces_are (position + length piece) rest (next ∷ pieces)
            (λ i octet there. subst (λ (n : ℕ). slice_get pdu.body n ≡ Some octet) (omega arith) (whole (length piece + i) octet (get_right piece rest i octet there))) h.2.2,
      )

pub cut_alike : CutsAlike
cut_alike pdu part room pdus unit header segment is h =
    subst (AllByRecursion (IsOfUnit unit header)) (sym h.2)
    (pieces_are unit header room pdu part segment is 0 pdu.body h.0 (λ i octet there. subst (λ (n : ℕ). slice_get pdu.body n ≡ Some octet) (omega arith) there) h.1)
