-- What is written for the value of a PDU.
use Rattle.std.specs.Prelude.{◌≡◌, ◌⊎◌, ℕ, ◌+◌, ◌<◌, ◌≤◌, Bool, true, false, List, ◌++◌, length, Option, None, MatchOption}
use Rattle.osi_base.specs.Fletcher.{Seals}
use Rattle.pdu_parts.specs.Parameter.{spelled}
use Rattle.clnp_options.specs.Grammar.{AreAllowed}
use Rattle.clnp_options.specs.declared.reason.PduKind.{PduKind}
use Rattle.clnp_options.specs.declared.reason.PduKind.TheVariants.{Dt, Er}
use Rattle.clnp_header.specs.declared.pdu.Pdu.{Pdu}
use Rattle.clnp_header.specs.declared.pdu.SegmentPart.{SegmentPart}
use Rattle.clnp_header.specs.Flags.{written_flags}
use Rattle.clnp_header.specs.Grammar.{MayBeSegment, fixed_part, segment_part, variable_part}
use Rattle.clnp_header.specs.Values.{parameters}

-- how many octets the header has, and the whole PDU
abbrev pub header_length : Pdu → ℕ
header_length pdu =
    11 + length pdu.destination + length pdu.source + length (segment_part pdu.segment) + length (spelled (parameters pdu.options))

abbrev pub pdu_length : Pdu → ℕ
pdu_length pdu = header_length pdu + length pdu.body

-- the PDU with other data
abbrev pub with_body : Pdu → List ℕ → Pdu
with_body pdu body = record pdu { body = body }

-- how many octets they are, where they are 254 at most, and else none
abbrev pub IsShort : ℕ → Option ℕ → Type 0
IsShort length result = MatchOption result (254 < length) (λ count. (count ≡ length) × (count ≤ 254))

-- the header passes 254 octets, or the PDU 65,535
abbrev pub IsTooLong : Pdu → Type 0
IsTooLong pdu = (254 < header_length pdu) ⊎ (65535 < pdu_length pdu)

-- ---- what the grammar asks of a value

-- only a DT PDU has a segmentation part and wants a report
abbrev pub HasKind : PduKind → Option SegmentPart → Bool → Type 0
HasKind Dt segment report = Unit {0}
HasKind Er segment report = (segment ≡ None) × (report ≡ false)

pub record IsWritable (pdu : Pdu) : Type 0 where
  pub kind : HasKind pdu.kind pdu.segment pdu.report
  pub segment : MayBeSegment pdu.segment (pdu_length pdu) (length pdu.body)
  pub options : AreAllowed pdu.kind (parameters pdu.options)

-- ---- the octets

-- the fixed part with the flags, that length of the PDU, and a checksum of zeros
abbrev pub fixed_part_of : Pdu → ℕ → List ℕ
fixed_part_of pdu whole = fixed_part (header_length pdu) pdu.lifetime (written_flags pdu.kind pdu.segment pdu.report) whole 0 0

-- the header with that length of the PDU and a checksum of zeros: that fixed part, the addresses, the segmentation part, and the options as they are
abbrev pub header_of : Pdu → ℕ → List ℕ
header_of pdu whole = fixed_part_of pdu whole ++ variable_part pdu (spelled (parameters pdu.options))

abbrev pub plain_header : Pdu → List ℕ
plain_header pdu = header_of pdu (pdu_length pdu)

-- the checksum was written where it is used, and else nothing
abbrev pub SealsIf : Bool → List ℕ → List ℕ → Type 0
SealsIf true old new = Seals old 7 new
SealsIf false old new = new ≡ old

-- the octets are those of the PDU: that header with its checksum, and the data
pub record IsWritten (pdu : Pdu) (octets : List ℕ) : Type 0 where
  pub header : List ℕ
  pub sealed : SealsIf pdu.checksum_used (plain_header pdu) header
  pub whole : octets ≡ header ++ pdu.body
