-- What comes after those that are left comes after all.
use Rattle.std.proofs.Common.{◌≡◌, ◌-◌}
use Rattle.esis_pdu.specs.steps.Reading.{after_addresses}
use Rattle.esis_pdu.proofs.reading.after_addresses.Given as goal

abbrev pub invariant-loop : goal.invariant-loop
invariant-loop l = after_addresses (l.count - l.counter) l.rest ≡ after_addresses l.count l.octets
