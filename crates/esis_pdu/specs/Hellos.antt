-- The PDUs of ES-IS (ISO 9542, structure and encoding of PDUs): fixed part, addresses and options.
use Rattle.std.specs.Prelude.{◌≡◌, ℕ, ◌+◌, ◌%◌, ◌≤◌, Bool, true, List, ◌∷◌, [], ◌++◌, length, Option, Some, None, IfSome}
use Rattle.std.specs.List.{flat_map, AllByRecursion}
use Rattle.pdu_parts.specs.Checksum.{IsChecksum}
use Rattle.pdu_parts.specs.Field.{IsAddress, field}
use Rattle.pdu_parts.specs.Number.{two_octets}
use Rattle.pdu_parts.specs.Parameter.{Parameter, spelled}
use Rattle.esis_pdu.specs.declared.hello.Hello.{Hello}
use Rattle.esis_pdu.specs.declared.hello.Hello.TheVariants.{Esh, Ish, Rd}

-- the type of a PDU
abbrev pub type_of : Hello → ℕ
type_of (Esh hold addresses) = 2
type_of (Ish hold title) = 4
type_of (Rd hold address snpa title) = 6

-- the holding time in seconds
abbrev pub hold_of : Hello → ℕ
hold_of (Esh hold addresses) = hold
hold_of (Ish hold title) = hold
hold_of (Rd hold address snpa title) = hold

-- a title behind its length, or a length of 0 for none
abbrev pub title_field : Option (List ℕ) → List ℕ
title_field None = 0 ∷ []
title_field (Some title) = field title

-- what stands between the fixed part and the options
abbrev pub parts : Hello → List ℕ
parts (Esh hold addresses) = length addresses ∷ flat_map field addresses
parts (Ish hold title) = field title
parts (Rd hold address snpa title) = field address ++ field snpa ++ title_field title

-- each address and title has 1 to 20 octets, and an SNPA has 6
abbrev pub IsAddressed : Hello → Type 0
IsAddressed (Esh hold addresses) = AllByRecursion IsAddress addresses
IsAddressed (Ish hold title) = IsAddress title
IsAddressed (Rd hold address snpa title) = IsAddress address × (length snpa ≡ 6) × IfSome title IsAddress

-- a PDU with the octets of its options
pub record Esis : Type 0 where
  pub hello : Hello
  pub options : List ℕ

-- the octets are that PDU. The reserved octet and the high bits of the type octet may have any value
pub record IsEsis (octets : List ℕ) (pdu : Esis) : Type 0 where
  pub reserved : ℕ
  pub kind : ℕ
  pub first : ℕ
  pub second : ℕ
  pub written :
      octets ≡ 130 ∷ length octets ∷ 1 ∷ reserved ∷ kind ∷ two_octets (hold_of pdu.hello) ++ first ∷ second ∷ (parts pdu.hello ++ pdu.options)
  pub least : 10 ≤ length octets
  pub most : length octets ≤ 254
  pub type_is : kind % 32 ≡ type_of pdu.hello
  pub used : Bool
  pub checked : IsChecksum used first second octets
  pub addressed : IsAddressed pdu.hello
  pub parameters : List Parameter
  pub optional : pdu.options ≡ spelled parameters

-- how many octets the PDU has without options
abbrev pub size_of : Hello → ℕ
size_of hello = 9 + length (parts hello)

-- the octets that are written of a PDU: the reserved octet and the high bits of the type are 0, the checksum is used, there are no options
pub record IsWritten (hello : Hello) (octets : List ℕ) : Type 0 where
  pub first : ℕ
  pub second : ℕ
  pub written : octets ≡ 130 ∷ size_of hello ∷ 1 ∷ 0 ∷ type_of hello ∷ two_octets (hold_of hello) ++ first ∷ second ∷ parts hello
  pub checked : IsChecksum true first second octets
