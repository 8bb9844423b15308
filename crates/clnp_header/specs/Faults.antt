-- The faults of a PDU, in order (X.233, PDU header analysis and reasons for discard).
use Rattle.std.specs.Prelude.{◌≡◌, ◌==◌, ◌&&◌, ◌||◌, not, ℕ, ◌+◌, ◌-◌, ◌%◌, Bool, false, if◌then◌else◌, nat_le, nat_lt, List, [], ◌∷◌, length, take, drop, slice_index, is_some, Option, Some, None}
use Rattle.pdu_parts.specs.Checksum.{checksum_in}
use Rattle.pdu_parts.specs.Field.{address_at}
use Rattle.pdu_parts.specs.FirstFault.{must, first_failing}
use Rattle.pdu_parts.specs.Number.{number_at}
use Rattle.clnp_options.specs.Faults.{first_fault as first_options_fault}
use Rattle.clnp_options.specs.declared.reason.Fault.{Fault}
use Rattle.clnp_options.specs.declared.reason.Reason.{Reason}
use Rattle.clnp_options.specs.declared.reason.Reason.TheVariants.{HeaderSyntax, IncompletePdu, IncorrectChecksum, UnsupportedVersion}
use Rattle.clnp_header.specs.Flags.{are_flags, has_more, is_dt, is_segmented, kind_of, wants_report}

-- a reason at a place, and whether a report is wanted
abbrev pub fault : Reason → ℕ → Bool → Fault
fault reason place reportable = record { reason = reason; place = place; reportable = reportable }

-- a fault of the options, with a report that is wanted or not
abbrev pub with_report : Bool → Option Fault → Option Fault
with_report reportable None = None
with_report reportable (Some fault) = Some (record fault { reportable = reportable })

-- data that is some and a multiple of 8 octets
abbrev pub is_eights : ℕ → ℕ → Bool
is_eights header_length pdu_length = nat_lt header_length pdu_length && ((pdu_length - header_length) % 8 == 0)

-- the end of a PDU in the initial PDU: before its end where more segments follow, and else at its end
abbrev pub is_placed : Bool → ℕ → ℕ → Bool
is_placed more end total = if more then nat_lt end total else end == total

-- the steps in order, for octets with this header. A position counts from 0, a place from 1
abbrev pub steps : List ℕ → List ℕ → List (Option Fault)
steps octets header =
    let flags = slice_index header 4 in
    let segmented = is_segmented flags in
    let more = is_dt flags && has_more flags in
    let report = is_dt flags && wants_report flags in
    let whole = number_at 5 octets in
    let source = 10 + slice_index header 9 in
    let segment = source + 1 + slice_index header source in
    let options = segment + (if segmented then 6 else 0) in
    must (nat_le 9 (length octets)) (fault IncompletePdu 0 false)
    ∷ must (slice_index octets 0 == 0x81) (fault HeaderSyntax 1 false)
    ∷ must (nat_le 13 (slice_index octets 1) && nat_le (slice_index octets 1) 254) (fault HeaderSyntax 2 false)
    ∷ must (nat_le (slice_index octets 1) (length octets)) (fault IncompletePdu 2 false)
    ∷ must (slice_index octets 2 == 0x01) (fault UnsupportedVersion 3 false)
    ∷ must (is_some (checksum_in header)) (fault IncorrectChecksum 8 false)
    ∷ must (are_flags flags) (fault HeaderSyntax 5 false)
    ∷ must (is_some (address_at (drop 9 header))) (fault HeaderSyntax 10 false)
    ∷ must (is_some (address_at (drop source header))) (fault HeaderSyntax (source + 1) false)
    ∷ must (not segmented || nat_le (segment + 6) (length header)) (fault HeaderSyntax (segment + 1) report)
    ∷ must (not segmented || (number_at (segment + 2) header % 8 == 0)) (fault HeaderSyntax (segment + 3) report)
    ∷ with_report report (first_options_fault (kind_of flags) (options + 1) (drop options header))
    ∷ must (nat_le (length header) whole) (fault HeaderSyntax 6 report)
    ∷ must (nat_le whole (length octets)) (fault IncompletePdu 6 report)
    ∷ must (not more || is_eights (length header) whole) (fault HeaderSyntax 6 report)
    ∷ must (not segmented || is_placed more (number_at (segment + 2) header + whole) (number_at (segment + 4) header)) (fault HeaderSyntax (segment + 5) report)
    ∷ []

-- the fault of the first step that fails, where the header is as long as its second octet says
unfoldable pub first_fault : List ℕ → Option Fault
first_fault octets = first_failing (steps octets (take (slice_index octets 1) octets))

abbrev pub IsPduFault : List ℕ → Fault → Type 0
IsPduFault octets fault = first_fault octets ≡ Some fault
