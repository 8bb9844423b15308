-- The PDUs of the protocol as whole lists of octets (X.233, structure and encoding of PDUs).
use Rattle.std.specs.Prelude.{◌≡◌, ℕ, ◌+◌, ◌<◌, ◌≤◌, ◌%◌, Bool, true, false, List, [], ◌∷◌, ◌++◌, length, Option, Some, None}
use Rattle.pdu_parts.specs.Checksum.{IsChecksum}
use Rattle.pdu_parts.specs.Field.{IsAddress, field}
use Rattle.pdu_parts.specs.Number.{two_octets}
use Rattle.clnp_options.specs.Grammar.{IsOptions}
use Rattle.clnp_header.specs.declared.pdu.Pdu.{Pdu}
use Rattle.clnp_header.specs.declared.pdu.SegmentPart.{SegmentPart}
use Rattle.clnp_header.specs.Flags.{AreFlags}
use Rattle.clnp_header.specs.Values.{parameters}

-- ---- parts

-- the fixed part: identifier, length indicator, version, lifetime, flags and type, segment length, checksum
abbrev pub fixed_part : ℕ → ℕ → ℕ → ℕ → ℕ → ℕ → List ℕ
fixed_part header_length lifetime flags pdu_length first second =
    0x81 ∷ header_length ∷ 0x01 ∷ lifetime ∷ flags ∷ two_octets pdu_length ++ first ∷ second ∷ []

-- the segmentation part: identifier, offset, total length
abbrev pub segment_part : Option SegmentPart → List ℕ
segment_part None = []
segment_part (Some part) = two_octets part.id ++ (two_octets part.offset ++ two_octets part.total)

-- the addresses, the segmentation part where there is one, and the options
abbrev pub variable_part : Pdu → List ℕ → List ℕ
variable_part pdu options = field pdu.destination ++ (field pdu.source ++ (segment_part pdu.segment ++ options))

-- ---- conditions

-- where the PDU ends in the initial PDU: before its end where more segments follow, and else at its end
abbrev pub IsPlaced : Bool → ℕ → ℕ → Type 0
IsPlaced true end total = end < total
IsPlaced false end total = end ≡ total

-- a segment: its data begins at a multiple of 8, and where more follow it is some and a multiple of 8
pub record IsSegment (part : SegmentPart) (pdu_length data_length : ℕ) : Type 0 where
  pub aligned : part.offset % 8 ≡ 0
  pub some : part.more ≡ true → 0 < data_length
  pub eights : part.more ≡ true → data_length % 8 ≡ 0
  pub placed : IsPlaced part.more (part.offset + pdu_length) part.total

abbrev pub MayBeSegment : Option SegmentPart → ℕ → ℕ → Type 0
MayBeSegment None pdu_length data_length = Unit {0}
MayBeSegment (Some part) pdu_length data_length = IsSegment part pdu_length data_length

-- ---- the whole

-- the octets are the fixed part, the addresses, the segmentation part, the options and the data, one after another, with the fields of the PDU
pub record IsPdu (octets : List ℕ) (pdu : Pdu) : Type 0 where
  pub header : List ℕ
  pub options : List ℕ
  pub flags : ℕ
  pub first : ℕ
  pub second : ℕ
  pub whole : octets ≡ header ++ pdu.body
  pub parts : header ≡ fixed_part (length header) pdu.lifetime flags (length octets) first second ++ variable_part pdu options
  pub flags_part : AreFlags pdu.kind flags pdu.segment pdu.report
  pub checksum : IsChecksum pdu.checksum_used first second header
  pub destination : IsAddress pdu.destination
  pub source : IsAddress pdu.source
  pub segment : MayBeSegment pdu.segment (length octets) (length pdu.body)
  pub options_part : IsOptions pdu.kind options (parameters pdu.options)
  pub header_fits : length header ≤ 254
  pub pdu_fits : length octets ≤ 65535
