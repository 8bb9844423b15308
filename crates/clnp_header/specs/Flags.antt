-- The octet of the flags and the type (X.233, fixed part): SP, MS and E/R in the upper three bits, the type in the lower five.
use Rattle.std.specs.Prelude.{◌≡◌, ◌==◌, ◌&&◌, ◌||◌, not, ℕ, ◌+◌, Bool, false, if◌then◌else◌, Option, None, bit_and}
use Rattle.clnp_options.specs.declared.reason.PduKind.{PduKind}
use Rattle.clnp_options.specs.declared.reason.PduKind.TheVariants.{Dt, Er}
use Rattle.clnp_header.specs.declared.pdu.SegmentPart.{SegmentPart}
use Rattle.clnp_header.specs.Values.{is_segment, is_followed}

-- the octet with these bits and this type
abbrev pub flags_octet : Bool → Bool → Bool → ℕ → ℕ
flags_octet segmented more report type =
    (if segmented then 0x80 else 0) + (if more then 0x40 else 0) + (if report then 0x20 else 0) + type

-- the flags of an ER PDU, in which MS and E/R are ignored
pub record AreErFlags (flags : ℕ) (segment : Option SegmentPart) (report : Bool) : Type 0 where
  pub more_bit : Bool
  pub report_bit : Bool
  pub parts : flags ≡ flags_octet false more_bit report_bit 0x01
  pub whole : segment ≡ None
  pub unreported : report ≡ false

-- the flags by type: in a DT PDU they say whether there is a segmentation part, more segments follow, a report is wanted
abbrev pub AreFlags : PduKind → ℕ → Option SegmentPart → Bool → Type 0
AreFlags Dt flags segment report = flags ≡ flags_octet (is_segment segment) (is_followed segment) report 0x1c
AreFlags Er flags segment report = AreErFlags flags segment report

-- the flags that a PDU is written with: in an ER PDU, MS and E/R are 0
abbrev pub written_flags : PduKind → Option SegmentPart → Bool → ℕ
written_flags Dt segment report = flags_octet (is_segment segment) (is_followed segment) report 0x1c
written_flags Er segment report = 0x01

-- ---- tests of an octet

-- the bits of an octet that a mask has
abbrev pub has_bit : ℕ → ℕ → Bool
has_bit octet mask = not (bit_and octet mask == 0)

-- segmentation permitted; more segments; error report; the type
abbrev pub is_segmented : ℕ → Bool
is_segmented flags = has_bit flags 0x80

abbrev pub has_more : ℕ → Bool
has_more flags = has_bit flags 0x40

abbrev pub wants_report : ℕ → Bool
wants_report flags = has_bit flags 0x20

abbrev pub is_dt : ℕ → Bool
is_dt flags = bit_and flags 0x1f == 0x1c

abbrev pub is_er : ℕ → Bool
is_er flags = bit_and flags 0x1f == 0x01

abbrev pub kind_of : ℕ → PduKind
kind_of flags = if is_dt flags then Dt else Er

-- a DT PDU, the last segment where segmentation is not permitted, or an ER PDU without a segmentation part
abbrev pub are_flags : ℕ → Bool
are_flags flags = (is_dt flags && (is_segmented flags || not (has_more flags))) || (is_er flags && not (is_segmented flags))
