-- How a UD is written (X.234, unit data TPDU): of the ways to spell it, this one.
use Rattle.std.specs.Prelude.{◌≡◌, ◌<◌, ℕ, ◌+◌, List, [], ◌∷◌, ◌++◌, length}
use Rattle.osi_base.specs.Fletcher.{Sealed}
use Rattle.pdu_parts.specs.Parameter.{Parameter, spelled}
use Rattle.cltp.specs.Ud.{Ud}

abbrev pub parameter : ℕ → List ℕ → Parameter
parameter code value = record { code = code; value = value }

-- both selectors, and a checksum of these two octets
abbrev pub parameters_for : Ud → ℕ → ℕ → List Parameter
parameters_for ud first second = parameter 0xC1 ud.from ∷ parameter 0xC2 ud.to ∷ parameter 0xC3 (first ∷ second ∷ []) ∷ []

-- the octets are the header with its length indicator, and the data; neither octet of the checksum is 0, and it holds
pub record IsWritten (ud : Ud) (octets : List ℕ) : Type 0 where
  pub first : ℕ
  pub second : ℕ
  pub whole : let header = spelled (parameters_for ud first second) in octets ≡ (length header + 1) ∷ 0x40 ∷ (header ++ ud.octets)
  pub first_used : (0 < first) × (first < 256)
  pub second_used : (0 < second) × (second < 256)
  pub sealed : Sealed octets
