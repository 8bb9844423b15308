-- The address that is wanted is so much nearer to the front of those that are left.
use Rattle.std.proofs.Common.{◌≡◌, ◌-◌, slice_get}
use Rattle.esis_pdu.specs.Addresses.{addresses_in}
use Rattle.esis_pdu.proofs.hello.AddressesRef.nth.Given as goal

abbrev pub invariant-loop : goal.invariant-loop
invariant-loop l =
    slice_get (addresses_in (l.self.count - l.counter) l.rest) (l.index - l.counter)
    ≡ slice_get (addresses_in l.self.count l.self.octets.now) l.index
