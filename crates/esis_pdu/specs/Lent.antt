-- PDUs that borrow their octets, as values.
use Rattle.std.specs.Prelude.{ℕ, List}
use Rattle.esis_pdu.specs.declared.hello.AddressesRef.{AddressesRef}
use Rattle.esis_pdu.specs.declared.hello.Hello.{Hello}
use Rattle.esis_pdu.specs.declared.hello.Hello.TheVariants.{Esh, Ish, Rd}
use Rattle.esis_pdu.specs.declared.hello.HelloRef.{HelloRef}
use Rattle.esis_pdu.specs.declared.hello.HelloRef.TheVariants as lent
use Rattle.esis_pdu.specs.Addresses.{addresses_in}
use Rattle.esis_pdu.specs.Hellos.{Esis}

-- the addresses, in order
abbrev pub listed : AddressesRef → List (List ℕ)
listed addresses = addresses_in addresses.count addresses.octets.now

-- the PDU without its options
abbrev pub value_of : HelloRef → Hello
value_of (lent.Esh hold addresses options) = Esh hold (listed addresses)
value_of (lent.Ish hold title options) = Ish hold title
value_of (lent.Rd hold address snpa title options) = Rd hold address snpa title

-- its options
abbrev pub options_of : HelloRef → List ℕ
options_of (lent.Esh hold addresses options) = options.now
options_of (lent.Ish hold title options) = options.now
options_of (lent.Rd hold address snpa title options) = options.now

-- both
abbrev pub esis_of : HelloRef → Esis
esis_of hello = record { hello = value_of hello; options = options_of hello }
