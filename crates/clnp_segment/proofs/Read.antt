-- A PDU that was read ends within the initial PDU: the header that is lent is no longer than that of the grammar.
use Rattle.std.proofs.Common.{◌≡◌, ℕ, ◌+◌, ◌≤◌, List, length, take, Option, Some, refl, sym, ◌∙◌, ap, subst, arith, length-append}
use Rattle.std.specs.Prelude.{MatchOption}
use Rattle.std.proofs.lemmas.List.{length-take-le}
use Rattle.pdu_parts.specs.Front.{BeginsWith}
use Rattle.clnp_header.specs.declared.pdu.PduRef.{PduRef}
use Rattle.clnp_header.specs.declared.pdu.SegmentPart.{SegmentPart}
use Rattle.clnp_header.specs.Grammar.{IsPdu, IsSegment, MayBeSegment}
use Rattle.clnp_header.specs.Values.{value_of}
use Rattle.clnp_header.specs.Writing.{header_length}
use Rattle.clnp_header.proofs.Parts.{length-header}
use Rattle.clnp_segment.specs.Laws.{ReadIsHandedOn, ReadMayCome}
use Rattle.clnp_segment.specs.Store.{FitsIn, MayCome}
use Rattle.clnp_segment.proofs.Cuttings.{placed_below}

segment_there : (segment : Option SegmentPart) (part : SegmentPart) (pdu_length data_length : ℕ) → segment ≡ Some part → MayBeSegment segment pdu_length data_length → IsSegment part pdu_length data_length
segment_there segment part pdu_length data_length is h = subst (λ (s : Option SegmentPart). MayBeSegment s pdu_length data_length) is h

may_come : (pdu : PduRef) (part : SegmentPart) → pdu.segment ≡ Some part → FitsIn pdu part → MayCome pdu
may_come pdu part is h = subst (λ (s : Option SegmentPart). MatchOption s ⊥ (FitsIn pdu)) (sym is) h

-- the header that is lent is as long as the grammar's
lent_length : (octets rest : List ℕ) (pdu : PduRef) → BeginsWith IsPdu octets (value_of pdu) rest → pdu.header.now ≡ take (header_length (value_of pdu)) octets
    → length pdu.header.now ≡ header_length (value_of pdu)
lent_length octets rest pdu read lent =
    let h = read.stands in
    let long : length h.header ≡ header_length (value_of pdu) = length-header read.front (value_of pdu) h in
    let front : length read.front ≡ length h.header + length pdu.body.now = ap length h.whole ∙ length-append h.header pdu.body.now in
    let whole : length octets ≡ length read.front + length rest = ap length read.whole ∙ length-append read.front rest in
    ap length lent ∙ length-take-le (header_length (value_of pdu)) octets (omega (arith, long, front, whole))

pub read_may_come : ReadMayCome
read_may_come octets rest pdu part read lent is =
    let h = read.stands in
    let long : length h.header ≡ header_length (value_of pdu) = length-header read.front (value_of pdu) h in
    let front : length read.front ≡ length h.header + length pdu.body.now = ap length h.whole ∙ length-append h.header pdu.body.now in
    let placed = (segment_there pdu.segment part (length read.front) (length pdu.body.now) is h.segment).placed in
    let low : part.offset + length read.front ≤ part.total = placed_below part.more (part.offset + length read.front) part.total placed in
    may_come pdu part is (omega (arith, low, front, long, lent_length octets rest pdu read lent))

pub read_handed_on : ReadIsHandedOn
read_handed_on octets rest pdu part left reportable read lent is =
    record { read = pdu; part = part; value = refl; segment = is; header = lent_length octets rest pdu read lent; coming_is = refl }
