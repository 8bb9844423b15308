use Rattle.std.proofs.Common.{◌++◌, ◌-◌}
use Rattle.std.specs.Prelude.{map}
use Rattle.esis_pdu.specs.Addresses.{addresses_in}
use Rattle.capture_show.specs.Texts.{address_text, addresses_text}
use Rattle.capture_show.proofs.Listing.{Stands}
use Rattle.capture_show.proofs.listed.push_addresses.Given as goal

abbrev pub invariant-loop : goal.invariant-loop
invariant-loop l =
    Stands l.some l.out.items (map address_text (addresses_in (l.count - l.counter) l.left)) (l.initial.out.items ++ addresses_text (addresses_in l.count l.octets))
