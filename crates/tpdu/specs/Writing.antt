-- How a TPDU is written (X.224, structure and encoding of TPDUs): of the ways to spell a value, this one.
use Rattle.std.specs.Prelude.{◌≡◌, ◌==◌, ◌≤◌, ◌<◌, ℕ, ◌+◌, ◌%◌, Bool, true, false, ◌||◌, IsTrue, List, [], ◌∷◌, ◌++◌, length, Option, Some, None, IsSome, unwrap_or, if◌then◌else◌}
use Rattle.std.specs.Int.{w32, to_be_bytes}
use Rattle.osi_base.specs.Fletcher.{Sealed}
use Rattle.pdu_parts.specs.Number.{two_octets}
use Rattle.pdu_parts.specs.Parameter.{Parameter}
use Rattle.tpdu.specs.declared.kind.Kind.{Kind}
use Rattle.tpdu.specs.declared.kind.Kind.TheVariants.{Cr, Cc, Dr, Dc, Dt, Ed, Ak, Ea, Er}
use Rattle.tpdu.specs.declared.tpdu.Format.{Format}
use Rattle.tpdu.specs.declared.tpdu.Format.TheVariants.{Normal, Extended}
use Rattle.tpdu.specs.declared.tpdu.Tpdu.{Tpdu}
use Rattle.tpdu.specs.declared.tpdu.Tpdu.TheVariants as tpdus
use Rattle.tpdu.specs.Kinds.{is_request}
use Rattle.tpdu.specs.Parameters.{Size, sizes}
use Rattle.tpdu.specs.Values.{Parts}
use Rattle.tpdu.specs.Grammar.{header_of}

abbrev pub kind_for : Tpdu → Kind
kind_for (tpdus.Cr _ _ _ _ _ _ _ _ _ _ _ _) = Cr
kind_for (tpdus.Cc _ _ _ _ _ _ _ _ _ _ _ _ _) = Cc
kind_for (tpdus.Dr _ _ _ _ _) = Dr
kind_for (tpdus.Dc _ _) = Dc
kind_for (tpdus.Dt _ _ _ _) = Dt
kind_for (tpdus.Ed _ _ _ _) = Ed
kind_for (tpdus.Ak _ _ _ _ _) = Ak
kind_for (tpdus.Ea _ _) = Ea
kind_for (tpdus.Er _ _ _) = Er

-- the code octet of a kind, with a credit of 4 bits in CR, CC and in AK of normal formats
abbrev pub ack_code : Format → ℕ → ℕ
ack_code Normal credit = 0x60 + credit % 16
ack_code Extended credit = 0x60

abbrev pub code_for : Format → Tpdu → ℕ
code_for width (tpdus.Cr credit _ _ _ _ _ _ _ _ _ _ _) = 0xE0 + credit % 16
code_for width (tpdus.Cc credit _ _ _ _ _ _ _ _ _ _ _ _) = 0xD0 + credit % 16
code_for width (tpdus.Dr _ _ _ _ _) = 0x80
code_for width (tpdus.Dc _ _) = 0xC0
code_for width (tpdus.Dt _ _ _ _) = 0xF0
code_for width (tpdus.Ed _ _ _ _) = 0x10
code_for width (tpdus.Ak _ _ credit _ _) = ack_code width credit
code_for width (tpdus.Ea _ _) = 0x20
code_for width (tpdus.Er _ _ _) = 0x70

-- class 4, and bit 2 for extended formats
abbrev pub class_for : Format → ℕ
class_for Normal = 0x40
class_for Extended = 0x42

-- a number with its top bit: 7 bits in one octet, or 31 in four
abbrev pub number_for : Format → Bool → ℕ → List ℕ
number_for Normal last number = (number % 128 + (if last then 128 else 0)) ∷ []
number_for Extended last number = to_be_bytes w32 (number % 2147483648 + (if last then 2147483648 else 0))

-- the credit of an AK behind its number
abbrev pub credit_for : Format → ℕ → List ℕ
credit_for Normal credit = []
credit_for Extended credit = two_octets credit

-- the fixed part behind the code
abbrev pub fixed_for : Format → Tpdu → List ℕ
fixed_for width (tpdus.Cr _ source format _ _ _ _ _ _ _ _ _) = two_octets 0 ++ two_octets source ++ class_for format ∷ []
fixed_for width (tpdus.Cc _ destination source format _ _ _ _ _ _ _ _ _) = two_octets destination ++ two_octets source ++ class_for format ∷ []
fixed_for width (tpdus.Dr destination source reason _ _) = two_octets destination ++ two_octets source ++ reason ∷ []
fixed_for width (tpdus.Dc destination source) = two_octets destination ++ two_octets source
fixed_for width (tpdus.Dt destination last number _) = two_octets destination ++ number_for width last number
fixed_for width (tpdus.Ed destination last number _) = two_octets destination ++ number_for width last number
fixed_for width (tpdus.Ak destination number credit _ _) = two_octets destination ++ number_for width false number ++ credit_for width credit
fixed_for width (tpdus.Ea destination number) = two_octets destination ++ number_for width false number
fixed_for width (tpdus.Er destination cause _) = two_octets destination ++ cause ∷ []

-- the code of a size; 0 for one that has none
abbrev pub code_in : List Size → ℕ → Option ℕ
code_in [] octets = None
code_in (size ∷ sizes) octets = if size.octets == octets then Some size.code else code_in sizes octets

abbrev pub size_code : ℕ → ℕ
size_code octets = unwrap_or (code_in sizes octets) 0

abbrev pub parameter : ℕ → List ℕ → Parameter
parameter code value = record { code = code; value = value }

-- a size, and a preferred size, where the value holds it
abbrev pub size_parameters : Option ℕ → List Parameter
size_parameters None = []
size_parameters (Some size) = parameter 0xC0 (size_code size ∷ []) ∷ []

abbrev pub preferred_parameters : Option ℕ → List Parameter
preferred_parameters None = []
preferred_parameters (Some number) = parameter 0xF0 (number % 256 ∷ []) ∷ []

-- the octets of a size that is there
abbrev pub size_count : Option ℕ → ℕ
size_count None = 0
size_count (Some size) = 3

-- the parameters of a CR and a CC: calling and called selector, sizes, additional options
abbrev pub connect_parameters : List ℕ → List ℕ → Option ℕ → Option ℕ → ℕ → List Parameter
connect_parameters calling called size preferred extra =
    parameter 0xC1 calling ∷ parameter 0xC2 called ∷ (size_parameters size ++ preferred_parameters preferred ++ parameter 0xC6 (extra ∷ []) ∷ [])

-- the subsequence of an AK, where it is not 0
abbrev pub ack_parameters : ℕ → List Parameter
ack_parameters subsequence = if subsequence == 0 then [] else parameter 0x8A (two_octets subsequence) ∷ []

-- the parameters but for the checksum, in the order in which they are written
abbrev pub parameters_for : Tpdu → List Parameter
parameters_for (tpdus.Cr _ _ _ calling called size preferred extra _ _ _ _) = connect_parameters calling called size preferred extra
parameters_for (tpdus.Cc _ _ _ _ calling called size preferred extra _ _ _ _) = connect_parameters calling called size preferred extra
parameters_for (tpdus.Dr _ _ _ _ _) = []
parameters_for (tpdus.Dc _ _) = []
parameters_for (tpdus.Dt _ _ _ _) = []
parameters_for (tpdus.Ed _ _ _ _) = []
parameters_for (tpdus.Ak _ _ _ subsequence _) = ack_parameters subsequence
parameters_for (tpdus.Ea _ _) = []
parameters_for (tpdus.Er _ _ _) = []

abbrev pub body_for : Tpdu → List ℕ
body_for (tpdus.Cr _ _ _ _ _ _ _ _ _ _ _ octets) = octets
body_for (tpdus.Cc _ _ _ _ _ _ _ _ _ _ _ _ octets) = octets
body_for (tpdus.Dr _ _ _ _ octets) = octets
body_for (tpdus.Dc _ _) = []
body_for (tpdus.Dt _ _ _ octets) = octets
body_for (tpdus.Ed _ _ _ octets) = octets
body_for (tpdus.Ak _ _ _ _ _) = []
body_for (tpdus.Ea _ _) = []
body_for (tpdus.Er _ _ _) = []

-- a checksum is written where it is asked for, and in every CR
abbrev pub is_summed : Bool → Tpdu → Bool
is_summed sum tpdu = sum || is_request (kind_for tpdu)

-- the parts that are written, with these octets of a checksum where there is one
abbrev pub sums_for : Bool → ℕ → ℕ → List Parameter
sums_for true first second = parameter 0xC3 (first ∷ second ∷ []) ∷ []
sums_for false first second = []

abbrev pub parts_for : Format → Tpdu → List Parameter → Parts
parts_for width tpdu sums = record {
  kind = kind_for tpdu;
  format = width;
  code = code_for width tpdu;
  fixed = fixed_for width tpdu;
  parameters = parameters_for tpdu ++ sums;
  body = body_for tpdu;
}

-- the octets of the header that is written, behind its length indicator
abbrev pub count_for : Format → Bool → Tpdu → ℕ
count_for width summed tpdu = length (header_of (parts_for width tpdu (sums_for summed 0 0)))

abbrev pub header_count : Format → Bool → Tpdu → ℕ
header_count width sum tpdu = count_for width (is_summed sum tpdu) tpdu

-- the octets are the header with its length indicator, and the data; neither octet of the checksum is 0, and it holds
pub record IsSpelled (width : Format) (summed : Bool) (tpdu : Tpdu) (octets : List ℕ) : Type 0 where
  pub short : count_for width summed tpdu ≤ 254
  pub first : ℕ
  pub second : ℕ
  pub all : let header = header_of (parts_for width tpdu (sums_for summed first second)) in octets ≡ length header ∷ (header ++ body_for tpdu)
  pub first_used : IsTrue summed → (0 < first) × (first < 256)
  pub second_used : IsTrue summed → (0 < second) × (second < 256)
  pub sealed : IsTrue summed → Sealed octets

abbrev pub IsWritten : Format → Bool → Tpdu → List ℕ → Type 0
IsWritten width sum tpdu octets = IsSpelled width (is_summed sum tpdu) tpdu octets

-- what one octet holds
abbrev pub IsOctet : Option ℕ → Type 0
IsOctet None = Unit {0}
IsOctet (Some number) = number ≤ 255

-- a value that holds no field that is not written, and whose preferred size has one octet
abbrev pub IsPlain : Tpdu → Type 0
IsPlain (tpdus.Cr _ _ _ _ _ _ preferred _ version classes ack_time _) = IsOctet preferred × (version ≡ None) × (classes ≡ None) × (ack_time ≡ None)
IsPlain (tpdus.Cc _ _ _ _ _ _ _ preferred _ version classes ack_time _) = IsOctet preferred × (version ≡ None) × (classes ≡ None) × (ack_time ≡ None)
IsPlain (tpdus.Dr _ _ _ info _) = info ≡ None
IsPlain (tpdus.Dc _ _) = Unit {0}
IsPlain (tpdus.Dt _ _ _ _) = Unit {0}
IsPlain (tpdus.Ed _ _ _ _) = Unit {0}
IsPlain (tpdus.Ak _ _ _ _ confirmation) = confirmation ≡ None
IsPlain (tpdus.Ea _ _) = Unit {0}
IsPlain (tpdus.Er _ _ rejected) = rejected ≡ None

-- what the format has octets for: credits, numbers, selectors, sizes and data
abbrev pub IsNumber : Format → ℕ → Type 0
IsNumber Normal number = number < 128
IsNumber Extended number = number < 2147483648

abbrev pub IsCredit : Format → ℕ → Type 0
IsCredit Normal credit = credit < 16
IsCredit Extended credit = Unit {0}

-- a size has a code, and a preferred size is at least 1, where they are there
abbrev pub IsKnownSize : Option ℕ → Type 0
IsKnownSize None = Unit {0}
IsKnownSize (Some size) = IsSome (code_in sizes size)

abbrev pub IsPreferred : Option ℕ → Type 0
IsPreferred None = Unit {0}
IsPreferred (Some number) = 1 ≤ number

pub record IsConnect (credit : ℕ) (calling called : List ℕ) (size preferred : Option ℕ) (octets : List ℕ) : Type 0 where
  pub few_credits : credit < 16
  pub calling_fits : length calling ≤ 32
  pub called_fits : length called ≤ 32
  pub size_known : IsKnownSize size
  pub preferred_known : IsPreferred preferred
  pub octets_fit : length octets ≤ 32

abbrev pub IsAllowed : Format → Tpdu → Type 0
IsAllowed width (tpdus.Cr credit _ _ calling called size preferred _ _ _ _ octets) = IsConnect credit calling called size preferred octets
IsAllowed width (tpdus.Cc credit _ _ _ calling called size preferred _ _ _ _ octets) = IsConnect credit calling called size preferred octets
IsAllowed width (tpdus.Dr _ _ _ _ octets) = length octets ≤ 64
IsAllowed width (tpdus.Dc _ _) = Unit {0}
IsAllowed width (tpdus.Dt _ _ number _) = IsNumber width number
IsAllowed width (tpdus.Ed _ _ number octets) = IsNumber width number × (1 ≤ length octets) × (length octets ≤ 16)
IsAllowed width (tpdus.Ak _ number credit _ _) = IsNumber width number × IsCredit width credit
IsAllowed width (tpdus.Ea _ number) = IsNumber width number
IsAllowed width (tpdus.Er _ _ _) = Unit {0}
