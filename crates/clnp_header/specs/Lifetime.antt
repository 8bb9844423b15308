-- Lowering the lifetime of a PDU in place (X.233, PDU lifetime control).
use Rattle.std.specs.Prelude.{ℕ, ◌-◌, ◌≤◌, List}
use Rattle.pdu_parts.specs.Front.{BeginsWith}
use Rattle.clnp_header.specs.declared.pdu.Pdu.{Pdu}
use Rattle.clnp_header.specs.Grammar.{IsPdu}

-- the PDU with a lifetime that is shorter
abbrev pub lowered : ℕ → Pdu → Pdu
lowered by pdu = record pdu { lifetime = pdu.lifetime - by }

-- a PDU with that much lifetime stands at the front of the octets
abbrev pub HasLifetime : List ℕ → ℕ → Type 0
HasLifetime octets by = (pdu : Pdu) × (rest : List ℕ) × BeginsWith IsPdu octets pdu rest × (by ≤ pdu.lifetime)
