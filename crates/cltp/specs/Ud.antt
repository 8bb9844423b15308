-- The grammar of a UD (X.234, unit data TPDU).
use Rattle.std.specs.Prelude.{◌≡◌, ◌≤◌, ℕ, ◌+◌, IsTrue, is_some, List, ◌∷◌, ◌++◌, length, Some}
use Rattle.std.specs.List.{AllByRecursion}
use Rattle.osi_base.specs.Fletcher.{Sealed}
use Rattle.pdu_parts.specs.Parameter.{Parameter, spelled}
use Rattle.cltp.specs.declared.ud.UdRef.{UdRef}
use Rattle.tpdu.specs.Parameters.{last_value}
use Rattle.cltp.specs.Parameters.{Suits}

-- what a UD carries: the selectors of its source and of its destination, and the data
pub record Ud : Type 0 where
  pub from : List ℕ
  pub to : List ℕ
  pub octets : List ℕ

abbrev pub ud_of : UdRef → Ud
ud_of ud = record { from = ud.from_selector.now; to = ud.to_selector.now; octets = ud.octets.now }

-- a transport selector has 1 to 32 octets
pub record IsSelector (selector : List ℕ) : Type 0 where
  pub some : 1 ≤ length selector
  pub most : length selector ≤ 32

-- the octets are the length indicator, the code, the parameters and the data. Both selectors are there, and where a checksum is, it
-- holds over all of them; of a repeated parameter the last value counts
pub record IsUd (octets : List ℕ) (ud : Ud) : Type 0 where
  pub parameters : List Parameter
  pub whole : octets ≡ (length (spelled parameters) + 1) ∷ 0x40 ∷ (spelled parameters ++ ud.octets)
  pub few : length (spelled parameters) + 1 ≤ 254
  pub each : AllByRecursion Suits parameters
  pub from : last_value 0xC1 parameters ≡ Some ud.from
  pub to : last_value 0xC2 parameters ≡ Some ud.to
  pub sealed : IsTrue (is_some (last_value 0xC3 parameters)) → Sealed octets
