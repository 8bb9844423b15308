-- A report is wanted only of a fault behind the addresses: no step up to them gives a fault that is reportable, so both addresses are there.
use Rattle.std.proofs.Common.{◌≡◌, ℕ, ◌+◌, false, List, refl, take, drop}
use Rattle.std.specs.Prelude.{IsSome, not, slice_index}
use Rattle.pdu_parts.specs.Field.{address_at}
use Rattle.clnp_options.specs.declared.reason.Fault.{Fault}
use Rattle.clnp_header.specs.Faults.{IsPduFault, first_fault, steps}
use Rattle.clnp_header.proofs.Quiet.{holds, quiet_front, quiet_must, reportable, some_there}
use Rattle.clnp_system.specs.Reporting.{faulty_header}

pub reported_source : (octets : List ℕ) (fault : Fault) → IsPduFault octets fault → not fault.reportable ≡ false
    → IsSome (address_at (drop (10 + slice_index (faulty_header octets) 9) (faulty_header octets)))
unfolding first_fault
reported_source octets fault is asked =
    let wanted = reportable fault.reportable asked in
    let all = steps octets (faulty_header octets) in
    let none = quiet_front (take 9 all) (drop 9 all) fault (
      quiet_must _ _ refl,
      (
        quiet_must _ _ refl,
        (
          quiet_must _ _ refl,
          (
            quiet_must _ _ refl,
            (quiet_must _ _ refl, (quiet_must _ _ refl, (quiet_must _ _ refl, (quiet_must _ _ refl, (quiet_must _ _ refl, tt))))),
          ),
        ),
      ),
    ) wanted is in
    some_there _ (holds _ _ none.1.1.1.1.1.1.1.1.0)
