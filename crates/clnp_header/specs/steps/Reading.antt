-- Reading a PDU from left to right, with the first fault that is met.
use Rattle.std.specs.Prelude.{◌==◌, ◌&&◌, ◌||◌, not, ℕ, ◌+◌, ◌-◌, ◌%◌, Bool, false, if◌then◌else◌, nat_le, nat_lt, List, length, take, drop, map, slice_index, option_map, Option, Some, None, Result, Ok, Err}
use Rattle.pdu_parts.specs.Checksum.{checksum_in}
use Rattle.pdu_parts.specs.Field.{address_at}
use Rattle.pdu_parts.specs.Number.{number_at}
use Rattle.pdu_parts.specs.Parameter.{Parameter, parameters_in}
use Rattle.pdu_parts.proofs.Readings.{◌>>=◌, found_or, unless}
use Rattle.clnp_options.specs.Faults.{first_fault as first_options_fault}
use Rattle.clnp_options.specs.declared.reason.Fault.{Fault}
use Rattle.clnp_options.specs.declared.reason.PduKind.TheVariants.{Dt, Er}
use Rattle.clnp_options.specs.declared.reason.Reason.TheVariants.{HeaderSyntax, IncompletePdu, IncorrectChecksum, UnsupportedVersion}
use Rattle.clnp_header.specs.declared.flags.Flags.{Flags}
use Rattle.clnp_header.specs.declared.pdu.Pdu.{Pdu}
use Rattle.clnp_header.specs.declared.pdu.SegmentPart.{SegmentPart}
use Rattle.clnp_header.specs.Faults.{fault, is_placed, with_report}
use Rattle.clnp_header.specs.Flags.{has_more, is_dt, is_er, is_segmented, wants_report}
use Rattle.clnp_header.specs.Values.{is_followed, is_segment, own}

unfoldable pub header_read : List ℕ → Result (List ℕ) Fault
header_read octets =
    if nat_lt (length octets) 9 then Err (fault IncompletePdu 0 false)
    else if not (slice_index octets 0 == 0x81) then Err (fault HeaderSyntax 1 false)
    else if nat_lt (slice_index octets 1) 13 || nat_lt 254 (slice_index octets 1) then Err (fault HeaderSyntax 2 false)
    else if nat_lt (length octets) (slice_index octets 1) then Err (fault IncompletePdu 2 false)
    else if not (slice_index octets 2 == 0x01) then Err (fault UnsupportedVersion 3 false)
    else Ok (take (slice_index octets 1) octets)

abbrev pub checksum_read : List ℕ → Result Bool Fault
checksum_read header = found_or (checksum_in header) (fault IncorrectChecksum 8 false)

unfoldable pub flags_read : ℕ → Result Flags Fault
flags_read octet =
    if is_dt octet && (is_segmented octet || not (has_more octet))
    then Ok (record { kind = Dt; segmented = is_segmented octet; more = has_more octet; report = wants_report octet })
    else if is_er octet && not (is_segmented octet)
    then Ok (record { kind = Er; segmented = false; more = false; report = false })
    else Err (fault HeaderSyntax 5 false)

-- the bits SP and MS
abbrev pub segment_bits : Option SegmentPart → ℕ
segment_bits segment = (if is_segment segment then 0x80 else 0) + (if is_followed segment then 0x40 else 0)

abbrev pub address_read : List ℕ → ℕ → Result (List ℕ) Fault
address_read header at = found_or (option_map (λ x. x.0) (address_at (drop at header))) (fault HeaderSyntax (at + 1) false)

unfoldable pub segment_read : List ℕ → ℕ → Flags → Result (Option SegmentPart) Fault
segment_read header at flags =
    if not flags.segmented then Ok None
    else if nat_lt (length header) (at + 6) then Err (fault HeaderSyntax (at + 1) flags.report)
    else if not (number_at (at + 2) header % 8 == 0) then Err (fault HeaderSyntax (at + 3) flags.report)
    else Ok (Some (record {
      id = number_at at header;
      offset = number_at (at + 2) header;
      total = number_at (at + 4) header;
      more = flags.more;
    }))

-- the octets of a segmentation part
abbrev pub segment_octets : Option SegmentPart → ℕ
segment_octets None = 0
segment_octets (Some part) = 6

abbrev pub options_read : List ℕ → ℕ → Flags → Result (List Parameter) Fault
options_read header at flags =
    unless (with_report flags.report (first_options_fault flags.kind (at + 1) (drop at header))) (parameters_in (drop at header))

unfoldable pub body_read : List ℕ → ℕ → Flags → Result (List ℕ) Fault
body_read octets header flags =
    if nat_lt (number_at 5 octets) header then Err (fault HeaderSyntax 6 flags.report)
    else if nat_lt (length octets) (number_at 5 octets) then Err (fault IncompletePdu 6 flags.report)
    else if flags.more && (nat_le (number_at 5 octets) header || not ((number_at 5 octets - header) % 8 == 0)) then Err (fault HeaderSyntax 6 flags.report)
    else Ok (take (number_at 5 octets - header) (drop header octets))

unfoldable pub placed_read : Option SegmentPart → ℕ → ℕ → Bool → Result Unit Fault
placed_read None whole place report = Ok tt
placed_read (Some part) whole place report =
    if is_placed part.more (part.offset + whole) part.total then Ok tt else Err (fault HeaderSyntax place report)

-- the header, and the PDU
unfoldable pub pdu_read : List ℕ → Result (List ℕ × Pdu) Fault
pdu_read octets = do
  header ← header_read octets
  checksum_used ← checksum_read header
  flags ← flags_read (slice_index header 4)
  destination ← address_read header 9
  source ← address_read header (10 + length destination)
  segment ← segment_read header (11 + length destination + length source) flags
  options ← options_read header (11 + length destination + length source + segment_octets segment) flags
  body ← body_read octets (length header) flags
  nothing ← placed_read segment (length header + length body) (11 + length destination + length source + 5) flags.report
  Ok (
    header,
    record {
      kind = flags.kind;
      destination = destination;
      source = source;
      lifetime = slice_index header 3;
      checksum_used = checksum_used;
      report = flags.report;
      segment = segment;
      options = map own options;
      body = body;
    },
  )
