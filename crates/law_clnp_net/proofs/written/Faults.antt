-- A report is wanted only of a fault behind the addresses: no step up to them gives a fault that is reportable, so both addresses are there;
-- and the place of such a fault is in the header, or the one behind it.
use Rattle.std.proofs.Common.{◌≡◌, ℕ, ◌+◌, ◌<◌, ◌≤◌, Bool, true, false, List, [], ◌∷◌, ◌++◌, length, Option, Some, None, refl, sym, ◌∙◌, ap, subst, arith, take, drop, length-append}
use Rattle.std.specs.Prelude.{◌||◌, ◌&&◌, ◌==◌, ◌%◌, IfSome, IsSome, get_or, if◌then◌else◌, nat_le, not, slice_index}
use Rattle.std.specs.List.{AllByRecursion}
use Rattle.pdu_parts.specs.Field.{address_at, field}
use Rattle.pdu_parts.specs.FirstFault.{first_failing, must}
use Rattle.clnp_options.specs.declared.reason.Fault.{Fault}
use Rattle.std.proofs.lemmas.Bool.{and_parts, leb-true}
use Rattle.std.proofs.lemmas.List.{get_or-drop, length-drop, length-take}
use Rattle.pdu_parts.specs.Parameter.{spelled, Parameter}
use Rattle.pdu_parts.proofs.Addresses.{reads_address}
use Rattle.clnp_options.specs.Faults.{IsFaultAfter, Missing, Twice, Unfit, Unknown, first_fault as first_options_fault}
use Rattle.clnp_options.specs.declared.reason.PduKind.{PduKind}
use Rattle.clnp_options.specs.declared.reason.Reason.TheVariants.{HeaderSyntax, IncompletePdu}
use Rattle.clnp_options.proofs.FirstFault.{first_from_fault}
use Rattle.clnp_options.proofs.Tables.{walk_agrees}
use Rattle.clnp_header.specs.Faults.{IsPduFault, first_fault, is_eights, is_placed, steps, with_report, fault as at_place}
use Rattle.clnp_header.specs.Flags.{has_more, is_dt, is_segmented, kind_of, wants_report}
use Rattle.pdu_parts.specs.Number.{number_at}
use Rattle.clnp_header.proofs.Quiet.{IsQuiet, first_of_rest, holds, quiet_front, quiet_must, some_there}
use Rattle.clnp_system.specs.Node.{Frame}
use Rattle.clnp_system.specs.Reporting.{discarded_octets, faulty_header, some_address, source_in}
use Rattle.clnp_system.specs.Setting.{is_group}
use Rattle.law_carrier_answers.specs.Answers.{AreOctets}
use Rattle.law_clnp_net.specs.Standing.{IsNsap}
use Rattle.law_clnp_net.proofs.written.Fitting.{FitsDiscarded}
use Rattle.law_clnp_net.proofs.written.Octets.{octets_drop, octets_front, octets_take, some_of}

quiet_rest : (front rest : List (Option Fault)) (fault : Fault) → AllByRecursion IsQuiet front → fault.reportable ≡ true → first_failing (front ++ rest) ≡ Some fault
    → first_failing rest ≡ Some fault
quiet_rest [] rest fault quiet wanted is = is
quiet_rest (step ∷ front) rest fault quiet wanted is =
    let here = first_of_rest step (front ++ rest) fault quiet.0 wanted is in quiet_rest front rest fault quiet.1 wanted here.1

-- ---- places

-- the place of a fault that a step gives is below a limit
abbrev pub Low : ℕ → Option Fault → Type 0
Low limit step = IfSome step (λ found. found.place < limit)

pub bounded : (limit : ℕ) (all : List (Option Fault)) (found : Fault) → AllByRecursion (Low limit) all → first_failing all ≡ Some found → found.place < limit
bounded limit [] found low e = absurd cc
bounded limit (None ∷ all) found low e = bounded limit all found low.1 e
bounded limit (Some other ∷ all) found low e = let same : other ≡ found = cc in subst (λ (f : Fault). f.place < limit) same low.0

pub low_must : (limit : ℕ) (is : Bool) (found : Fault) → found.place < limit → Low limit (must is found)
low_must limit true found h = tt
low_must limit false found h = h

place_after : (kind : PduKind) (place : ℕ) (before : List Parameter) (rest : List ℕ) (found : Fault) → IsFaultAfter kind place before rest found → found.place ≤ place
place_after kind place before rest found (Unfit some unfit e) = omega (arith, ap (λ (f : Fault). f.place) e)
place_after kind place before rest found (Twice option after parts stood other e) = omega (arith, ap (λ (f : Fault). f.place) e)
place_after kind place before rest found (Unknown option after reason parts once why e) = omega (arith, ap (λ (f : Fault). f.place) e)
place_after kind place before rest found (Missing nothing er none e) = omega (arith, ap (λ (f : Fault). f.place) e)

options_place : (kind : PduKind) (first : ℕ) (octets : List ℕ) (found : Fault) → first_options_fault kind first octets ≡ Some found → found.place ≤ first + length octets
options_place kind first octets found why =
    let is = first_from_fault kind first octets found (sym (walk_agrees kind first octets) ∙ why) in
    let within = place_after kind (first + length (spelled is.before)) is.before is.rest found is.fails in
    omega (arith, within, ap length is.parts ∙ length-append (spelled is.before) is.rest)

pub low_reported : (limit : ℕ) (report : Bool) (step : Option Fault) → Low limit step → Low limit (with_report report step)
low_reported limit report None h = tt
low_reported limit report (Some found) h = h

pub low_options : (limit : ℕ) (kind : PduKind) (first : ℕ) (octets : List ℕ) → first + length octets < limit → Low limit (first_options_fault kind first octets)
low_options limit kind first octets short = by (first_options_fault kind first octets) refl
  where
    by : (step : Option Fault) → first_options_fault kind first octets ≡ step → Low limit step
    by None e = tt
    by (Some found) e = omega (arith, options_place kind first octets found e, short)

first_is : (step : Option Fault) (all : List (Option Fault)) (found one : Fault) → step ≡ Some one → first_failing (step ∷ all) ≡ Some found → one ≡ found
first_is None all found one e is = absurd cc
first_is (Some other) all found one e is = cc

-- the steps behind the addresses, where the segmentation part begins at that position of the header
abbrev later : (segmented report place_ok whole_ok out_ok eights_ok end_ok : Bool) (segment : ℕ) (options : ℕ → Option Fault) → List (Option Fault)
later segmented report place_ok whole_ok out_ok eights_ok end_ok segment options =
    must (not segmented || place_ok) (at_place HeaderSyntax (segment + 3) report)
    ∷ options (segment + (if segmented then 6 else 0))
    ∷ must whole_ok (at_place HeaderSyntax 6 report)
    ∷ must out_ok (at_place IncompletePdu 6 report)
    ∷ must eights_ok (at_place HeaderSyntax 6 report)
    ∷ must (not segmented || end_ok) (at_place HeaderSyntax (segment + 5) report)
    ∷ []

abbrev behind : (segmented report place_ok whole_ok out_ok eights_ok end_ok : Bool) (segment long : ℕ) (options : ℕ → Option Fault) → List (Option Fault)
behind segmented report place_ok whole_ok out_ok eights_ok end_ok segment long options =
    must (not segmented || nat_le (segment + 6) long) (at_place HeaderSyntax (segment + 1) report)
    ∷ later segmented report place_ok whole_ok out_ok eights_ok end_ok segment options

behind_place : (segmented report place_ok whole_ok out_ok eights_ok end_ok : Bool) (segment long : ℕ) (options : ℕ → Option Fault) (found : Fault) → segment ≤ long → long ≤ 254
    → ((at : ℕ) → at ≤ long → Low 256 (options at))
    → first_failing (behind segmented report place_ok whole_ok out_ok eights_ok end_ok segment long options) ≡ Some found → found.place < 256
behind_place false report place_ok whole_ok out_ok eights_ok end_ok segment long options found within short low is =
    bounded 256 (behind false report place_ok whole_ok out_ok eights_ok end_ok segment long options) found
    (tt, (tt, (low (segment + 0) (omega (arith, within)), (low_must 256 whole_ok (at_place HeaderSyntax 6 report) (omega arith), (low_must 256 out_ok (at_place IncompletePdu 6 report) (omega arith), (low_must 256 eights_ok (at_place HeaderSyntax 6 report) (omega arith), (tt, tt))))))) is
behind_place true report place_ok whole_ok out_ok eights_ok end_ok segment long options found within short low is =
    by (nat_le (segment + 6) long) refl
  where
    by : (fits : Bool) → nat_le (segment + 6) long ≡ fits → found.place < 256
    by true e =
        let room : segment + 6 ≤ long = leb-true (segment + 6) long e in
        bounded 256 (behind true report place_ok whole_ok out_ok eights_ok end_ok segment long options) found (
          low_must 256 (nat_le (segment + 6) long) (at_place HeaderSyntax (segment + 1) report) (omega (arith, within, short)),
          (
            low_must 256 place_ok (at_place HeaderSyntax (segment + 3) report) (omega (arith, room, short)),
            (
              low (segment + 6) room,
              (
                low_must 256 whole_ok (at_place HeaderSyntax 6 report) (omega arith),
                (
                  low_must 256 out_ok (at_place IncompletePdu 6 report) (omega arith),
                  (low_must 256 eights_ok (at_place HeaderSyntax 6 report) (omega arith), (low_must 256 end_ok (at_place HeaderSyntax (segment + 5) report) (omega (arith, room, short)), tt)),
                ),
              ),
            ),
          ),
        ) is
    by false e =
        let first : must (nat_le (segment + 6) long) (at_place HeaderSyntax (segment + 1) report) ≡ Some (at_place HeaderSyntax (segment + 1) report) =
        ap (λ (b : Bool). must b (at_place HeaderSyntax (segment + 1) report)) e in
        let same : at_place HeaderSyntax (segment + 1) report ≡ found =
        first_is (must (nat_le (segment + 6) long) (at_place HeaderSyntax (segment + 1) report)) (later true report place_ok whole_ok out_ok eights_ok end_ok segment options) found
        (at_place HeaderSyntax (segment + 1) report) first is in
        subst (λ (f : Fault). f.place < 256) same (omega (arith, within, short))

-- ---- the whole

-- the source address, and where the part behind it begins
record HasSource (header : List ℕ) : Type 0 where
  address : List ℕ
  rest : List ℕ
  found : address_at (drop (10 + slice_index header 9) header) ≡ Some (address, rest)
  within : 10 + slice_index header 9 + 1 + slice_index header (10 + slice_index header 9) ≤ length header

source_of : (header : List ℕ) → IsSome (address_at (drop (10 + slice_index header 9) header)) → HasSource header
source_of header some =
    let source : ℕ = 10 + slice_index header 9 in
    let found = some_of (address_at (drop source header)) some in
    let there = reads_address.found (drop source header) found.0.0 found.0.1 found.1 in
    let size : length (drop source header) ≡ 1 + length found.0.0 + length found.0.1 = ap length there.1 ∙ omega (arith, length-append found.0.0 found.0.1) in
    let octet : get_or header source 0 ≡ length found.0.0 =
    ap (λ (n : ℕ). get_or header n 0) (omega arith) ∙ sym (get_or-drop source header 0 0) ∙ ap (λ (xs : List ℕ). get_or xs 0 0) there.1 in
    record { address = found.0.0; rest = found.0.1; found = found.1; within = omega (arith, size, octet, length-drop source header) }

-- what is wanted of a fault of which a report goes out
record IsReported (octets : List ℕ) (found : Fault) : Type 0 where
  source : HasSource (faulty_header octets)
  place : found.place < 256

is_reported : (octets : List ℕ) (found : Fault) → IsPduFault octets found → found.reportable ≡ true → IsReported octets found
unfolding first_fault
is_reported octets found is wanted =
    let header : List ℕ = faulty_header octets in
    let all = steps octets header in
    let flags : ℕ = slice_index header 4 in
    let more : Bool = is_dt flags && has_more flags in
    let report : Bool = is_dt flags && wants_report flags in
    let whole : ℕ = number_at 5 octets in
    let segment : ℕ = 10 + slice_index header 9 + 1 + slice_index header (10 + slice_index header 9) in
    let last : AllByRecursion IsQuiet (drop 4 (take 9 all)) = (quiet_must _ _ refl, (quiet_must _ _ refl, (quiet_must _ _ refl, (quiet_must _ _ refl, (quiet_must _ _ refl, tt))))) in
    let quiet : AllByRecursion IsQuiet (take 9 all) = (quiet_must _ _ refl, (quiet_must _ _ refl, (quiet_must _ _ refl, (quiet_must _ _ refl, last)))) in
    let none = quiet_front (take 9 all) (drop 9 all) found quiet wanted is in
    let rest = quiet_rest (take 9 all) (drop 9 all) found quiet wanted is in
    let source = source_of header (some_there _ (holds _ _ none.1.1.1.1.1.1.1.1.0)) in
    let indicator = and_parts (nat_le 13 (slice_index octets 1)) (nat_le (slice_index octets 1) 254) (holds _ _ none.1.1.0) in
    let most : slice_index octets 1 ≤ 254 = leb-true (slice_index octets 1) 254 indicator.1 in
    let short : length header ≤ 254 = omega (arith, length-take (slice_index octets 1) octets, most) in
    record {
      source = source;
      place = behind_place (is_segmented flags) report (number_at (segment + 2) header % 8 == 0) (nat_le (length header) whole) (nat_le whole (length octets))
          (not more || is_eights (length header) whole) (is_placed more (number_at (segment + 2) header + whole) (number_at (segment + 4) header)) segment (length header)
          (λ at. with_report report (first_options_fault (kind_of flags) (at + 1) (drop at header))) found source.within short
          (λ at le. low_reported 256 report (first_options_fault (kind_of flags) (at + 1) (drop at header))
          (low_options 256 (kind_of flags) (at + 1) (drop at header) (omega (arith, length-drop at header, le, short)))) rest;
    }

source_fits : (header : List ℕ) → AreOctets header → HasSource header → IsNsap (source_in header)
source_fits header h s =
    let there = reads_address.found (drop (10 + slice_index header 9) header) s.address s.rest s.found in
    let fits : IsNsap s.address = record { is = there.0; octets = (octets_front (field s.address) s.rest (subst AreOctets there.1 (octets_drop (10 + slice_index header 9) header h))).1 } in
    subst IsNsap (ap some_address (sym s.found)) fits

pub fault_fits : (frame : Frame) (found : Fault) → AreOctets frame.octets → IsPduFault frame.octets found → FitsDiscarded (discarded_octets frame found)
fault_fits frame found h is = record {
  source = λ wanted.
      let r = is_reported frame.octets found is (and_parts found.reportable (not (is_group frame.to.snpa)) wanted).0 in
      source_fits (faulty_header frame.octets) (octets_take (slice_index frame.octets 1) frame.octets h) r.source;
  place = λ wanted. (is_reported frame.octets found is (and_parts found.reportable (not (is_group frame.to.snpa)) wanted).0).place;
  header = octets_take (slice_index frame.octets 1) frame.octets h;
}
