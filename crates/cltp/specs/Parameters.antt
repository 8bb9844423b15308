-- The parameters of a UD, and what their values are (X.234, variable part).
use Rattle.std.specs.Prelude.{ℕ, ◌≤◌, ◌==◌, ◌&&◌, ◌||◌, nat_le, length, Option, Some, None, if◌then◌else◌}
use Rattle.pdu_parts.specs.FirstFault.{must}
use Rattle.pdu_parts.specs.Parameter.{Parameter}
use Rattle.script_journal.specs.declared.cause.UdCause.{UdCause}
use Rattle.script_journal.specs.declared.cause.UdCause.TheVariants.{Param, Unknown}
use Rattle.cltp.specs.declared.parameter.Lengths.{Lengths}

-- a source or a destination transport selector has 1 to 32 octets, a checksum two; no other parameter is known
abbrev pub lengths_of : ℕ → Option Lengths
lengths_of code =
    if code == 0xC1 || code == 0xC2 then Some (record { least = 1; most = 32 })
    else if code == 0xC3 then Some (record { least = 2; most = 2 })
    else None

-- a parameter is known, and its value has one of the lengths
abbrev pub SuitsBy : Option Lengths → Parameter → Type 0
SuitsBy None p = ⊥
SuitsBy (Some lengths) p = (lengths.least ≤ length p.value) × (length p.value ≤ lengths.most)

abbrev pub Suits : Parameter → Type 0
Suits p = SuitsBy (lengths_of p.code) p

-- what is wrong with a parameter that stands whole
abbrev pub trouble_by : Option Lengths → Parameter → Option UdCause
trouble_by None p = Some Unknown
trouble_by (Some lengths) p = must (nat_le lengths.least (length p.value) && nat_le (length p.value) lengths.most) Param

abbrev pub trouble : Parameter → Option UdCause
trouble p = trouble_by (lengths_of p.code) p
