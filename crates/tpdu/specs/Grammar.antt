-- The grammar of TPDUs (X.224, structure and encoding of TPDUs; concatenation and separation).
use Rattle.std.specs.Prelude.{◌≡◌, ◌≤◌, ℕ, ◌/◌, Bool, IsTrue, List, [], ◌∷◌, ◌++◌, length, slice_index, Option, Some, None, is_some, IsSome}
use Rattle.std.specs.List.{AllByRecursion}
use Rattle.osi_base.specs.Fletcher.{Sealed}
use Rattle.pdu_parts.specs.Front.{BeginsWith}
use Rattle.pdu_parts.specs.Parameter.{Parameter, spelled}
use Rattle.tpdu.specs.declared.kind.Kind.{Kind}
use Rattle.tpdu.specs.declared.kind.Kind.TheVariants.{Cr}
use Rattle.tpdu.specs.declared.parameter.Lengths.{Lengths}
use Rattle.tpdu.specs.declared.tpdu.Format.{Format}
use Rattle.tpdu.specs.declared.tpdu.Tpdu.{Tpdu}
use Rattle.tpdu.specs.Kinds.{kind_of, fixed_count, is_connect, data_suits}
use Rattle.tpdu.specs.Parameters.{lengths_of, size_of, preferred_of, last_value}
use Rattle.tpdu.specs.Values.{TpduAndSum, Parts, value_of, destination_of, reaches_end, format_for}

-- the header behind the length indicator: code, fixed part, parameters
abbrev pub header_of : Parts → List ℕ
header_of parts = parts.code ∷ (parts.fixed ++ spelled parts.parameters)

-- a parameter by the table: its value has one of the lengths, a size has a size code, and a preferred size is one. A CR and a CC
-- skip what they do not know
abbrev pub SuitsBy : Option Lengths → Kind → Parameter → Type 0
SuitsBy None kind p = IsTrue (is_connect kind)
SuitsBy (Some lengths) kind p =
    (lengths.least ≤ length p.value) × (length p.value ≤ lengths.most) × (p.code ≡ 0xC0 → IsSome (size_of p.value)) × (p.code ≡ 0xF0 → IsSome (preferred_of p.value))

abbrev pub Suits : Kind → Parameter → Type 0
Suits kind p = SuitsBy (lengths_of kind p.code) kind p

-- whether there is a checksum
abbrev pub has_sum : List Parameter → Bool
has_sum ps = is_some (last_value 0xC3 ps)

-- the octets are the length indicator, the header and the data, and each part is as the kind has it
pub record Spells (parts : Parts) (octets : List ℕ) : Type 0 where
  pub all : octets ≡ length (header_of parts) ∷ (header_of parts ++ parts.body)
  pub header : length (header_of parts) ≤ 254
  pub code : kind_of parts.code ≡ Some parts.kind
  pub fixed : length parts.fixed ≡ fixed_count parts.kind parts.format
  pub class : IsTrue (is_connect parts.kind) → slice_index parts.fixed 4 / 16 ≡ 4
  pub parameters : AllByRecursion (Suits parts.kind) parts.parameters
  pub sealed : IsTrue (has_sum parts.parameters) → Sealed octets
  pub summed : parts.kind ≡ Cr → IsTrue (has_sum parts.parameters)
  pub body : IsTrue (data_suits parts.kind (length parts.body))

-- the octets are the TPDU in this format, with a checksum or without
pub record IsTpdu (format : Format) (octets : List ℕ) (tpdu : TpduAndSum) : Type 0 where
  pub parts : Parts
  pub spells : Spells parts octets
  pub format_is : parts.format ≡ format
  pub value_is : value_of parts ≡ tpdu.0
  pub sum_is : has_sum parts.parameters ≡ tpdu.1

-- in extended formats exactly where the destination reference is listed
abbrev pub IsListedTpdu : List ℕ → List ℕ → TpduAndSum → Type 0
IsListedTpdu extended octets tpdu = IsTpdu (format_for extended (destination_of tpdu.0)) octets tpdu

-- the TPDU stands at the front of the octets of a unit, and the rest behind it: nothing behind a CR, CC, DR, DT or ED
pub record BeginsWithTpdu (extended octets : List ℕ) (tpdu : TpduAndSum) (rest : List ℕ) : Type 0 where
  pub begins : BeginsWith (IsListedTpdu extended) octets tpdu rest
  pub end : IsTrue (reaches_end tpdu.0) → rest ≡ []

-- the octets of a unit are the TPDUs, one after another
abbrev pub IsBundle : List ℕ → List ℕ → List Tpdu → Type 0
IsBundle extended octets [] = octets ≡ []
IsBundle extended octets (tpdu ∷ tpdus) =
    (sum : Bool) × (rest : List ℕ) × BeginsWithTpdu extended octets (tpdu, sum) rest × IsBundle extended rest tpdus
