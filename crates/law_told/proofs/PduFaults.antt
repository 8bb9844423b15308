-- The place of a fault of a PDU lies in its header, or behind it.
use Rattle.std.proofs.Common.{◌≤◌, ◌<◌, ℕ, ◌+◌, Bool, true, false, List, length, drop, take, arith, if◌then◌else◌}
use Rattle.std.specs.Prelude.{◌&&◌, slice_index}
use Rattle.std.specs.List.{AllByRecursion}
use Rattle.std.proofs.lemmas.List.{length-drop, length-take}
use Rattle.law_carrier_answers.specs.Answers.{AreOctets}
use Rattle.clnp_options.specs.declared.reason.Fault.{Fault}
use Rattle.clnp_header.specs.Faults.{IsPduFault, first_fault, steps}
use Rattle.clnp_header.specs.Flags.{is_dt, is_segmented, kind_of, wants_report}
use Rattle.law_clnp_net.proofs.written.Faults.{Low, bounded, low_must, low_options, low_reported}
use Rattle.law_clnp_net.proofs.written.Octets.{octets_take}
use Rattle.law_tp4_proper.proofs.Octets.{octet_at}

six : (test : Bool) → (if test then 6 else 0) ≤ 6
six true = omega arith
six false = omega arith

low_steps : (octets header : List ℕ) → AreOctets header → length header < 256 → AllByRecursion (Low 2048) (steps octets header)
low_steps octets header h short =
    let flags = slice_index header 4 in
    let report = is_dt flags && wants_report flags in
    let source = 10 + slice_index header 9 in
    let segment = source + 1 + slice_index header source in
    let options = segment + (if is_segmented flags then 6 else 0) in
    let first = octet_at header 9 h in
    let second = octet_at header source h in
    let part = six (is_segmented flags) in
    let behind = length-drop options header in
    let place : options + 1 + length (drop options header) < 2048 = omega (arith, first, second, part, behind, short) in
    let last : AllByRecursion (Low 2048) (drop 12 (steps octets header)) = (low_must 2048 _ _ (omega arith), (low_must 2048 _ _ (omega arith), (low_must 2048 _ _ (omega arith), (low_must 2048 _ _ (omega (arith, first, second)), tt)))) in
    let later : AllByRecursion (Low 2048) (drop 8 (steps octets header)) =
    (low_must 2048 _ _ (omega (arith, first)), (low_must 2048 _ _ (omega (arith, first, second)), (low_must 2048 _ _ (omega (arith, first, second)), (low_reported 2048 report _ (low_options 2048 (kind_of flags) (options + 1) (drop options header) place), last)))) in
    let middle : AllByRecursion (Low 2048) (drop 4 (steps octets header)) = (low_must 2048 _ _ (omega arith), (low_must 2048 _ _ (omega arith), (low_must 2048 _ _ (omega arith), (low_must 2048 _ _ (omega arith), later)))) in
    (low_must 2048 _ _ (omega arith), (low_must 2048 _ _ (omega arith), (low_must 2048 _ _ (omega arith), (low_must 2048 _ _ (omega arith), middle))))

pub pdu_fault_low : (octets : List ℕ) (found : Fault) → AreOctets octets → IsPduFault octets found → found.place < 2048
unfolding first_fault
pdu_fault_low octets found h is =
    let header = take (slice_index octets 1) octets in
    let long = length-take (slice_index octets 1) octets in
    let first = octet_at octets 1 h in
    bounded 2048 (steps octets header) found (low_steps octets header (octets_take (slice_index octets 1) octets h) (omega (arith, long, first))) is
