-- The parameters that each kind knows, and what their values are (X.224, variable part).
use Rattle.std.specs.Prelude.{ℕ, ◌+◌, ◌*◌, Bool, ◌&&◌, ◌||◌, not, ◌==◌, nat_le, List, [], ◌∷◌, length, Option, Some, None, is_some, if◌then◌else◌}
use Rattle.std.specs.Option.{option_or}
use Rattle.pdu_parts.specs.FirstFault.{must}
use Rattle.pdu_parts.specs.Parameter.{Parameter}
use Rattle.tpdu.specs.declared.fault.TpduCause.{TpduCause}
use Rattle.tpdu.specs.declared.fault.TpduCause.TheVariants.{Param, Unknown}
use Rattle.tpdu.specs.declared.kind.Kind.{Kind}
use Rattle.tpdu.specs.declared.kind.Kind.TheVariants.{Cr, Cc, Dr, Dc, Dt, Ed, Ak, Ea, Er}
use Rattle.tpdu.specs.declared.parameter.Lengths.{Lengths}
use Rattle.tpdu.specs.Kinds.{is_connect}

-- a code that a kind knows, with the least and the most octets of its value
pub record Row : Type 0 where
  pub code : ℕ
  pub least : ℕ
  pub most : ℕ

abbrev pub row : ℕ → ℕ → ℕ → Row
row code least most = record { code = code; least = least; most = most }

-- the checksum
abbrev pub sum_rows : List Row
sum_rows = row 0xC3 2 2 ∷ []

-- calling and called selector, size, preferred size, version, additional options, alternative classes,
-- acknowledgement time, checksum
abbrev pub connect_rows : List Row
connect_rows =
    row 0xC1 0 32
    ∷ row 0xC2 0 32
    ∷ row 0xC0 1 1
    ∷ row 0xF0 1 4
    ∷ row 0xC4 1 1
    ∷ row 0xC6 1 1
    ∷ row 0xC7 0 255
    ∷ row 0x85 2 2
    ∷ sum_rows

-- what each kind knows: in a DR additional information, in an AK subsequence and flow control
-- confirmation, in an ER the rejected TPDU
abbrev pub rows : Kind → List Row
rows Cr = connect_rows
rows Cc = connect_rows
rows Dr = row 0xE0 0 255 ∷ sum_rows
rows Dc = sum_rows
rows Dt = sum_rows
rows Ed = sum_rows
rows Ak = row 0x8A 2 2 ∷ row 0x8C 8 8 ∷ sum_rows
rows Ea = sum_rows
rows Er = row 0xC1 0 255 ∷ sum_rows

abbrev pub lengths_in : List Row → ℕ → Option Lengths
lengths_in [] code = None
lengths_in (row ∷ rows) code =
    if row.code == code then Some (record { least = row.least; most = row.most }) else lengths_in rows code

abbrev pub lengths_of : Kind → ℕ → Option Lengths
lengths_of kind code = lengths_in (rows kind) code

-- a size code, and the octets that it stands for
pub record Size : Type 0 where
  pub code : ℕ
  pub octets : ℕ

abbrev pub sizes : List Size
sizes =
    record { code = 7; octets = 128 }
    ∷ record { code = 8; octets = 256 }
    ∷ record { code = 9; octets = 512 }
    ∷ record { code = 10; octets = 1024 }
    ∷ record { code = 11; octets = 2048 }
    ∷ record { code = 12; octets = 4096 }
    ∷ record { code = 13; octets = 8192 }
    ∷ []

abbrev pub size_in : List Size → ℕ → Option ℕ
size_in [] code = None
size_in (size ∷ sizes) code = if size.code == code then Some size.octets else size_in sizes code

abbrev pub size_of : List ℕ → Option ℕ
size_of (code ∷ []) = size_in sizes code
size_of octets = None

-- the number of one to four octets, the highest first
abbrev pub number_in : List ℕ → ℕ
number_in (a ∷ []) = a
number_in (a ∷ b ∷ []) = a * 256 + b
number_in (a ∷ b ∷ c ∷ []) = a * 65536 + (b * 256 + c)
number_in (a ∷ b ∷ c ∷ d ∷ []) = (a * 256 + b) * 65536 + (c * 256 + d)
number_in octets = 0

-- a preferred size, in units of 128 octets, is a number of at least 1
abbrev pub preferred_of : List ℕ → Option ℕ
preferred_of octets = if number_in octets == 0 then None else Some (number_in octets)

-- a size parameter has a size code, and a preferred size is one
abbrev pub has_sizes : Parameter → Bool
has_sizes p = (not (p.code == 0xC0) || is_some (size_of p.value)) && (not (p.code == 0xF0) || is_some (preferred_of p.value))

-- what is wrong with a parameter that stands whole: a CR and a CC skip those that they do not know
abbrev pub trouble_by : Option Lengths → Kind → Parameter → Option TpduCause
trouble_by None kind p = must (is_connect kind) Unknown
trouble_by (Some lengths) kind p = must (nat_le lengths.least (length p.value) && nat_le (length p.value) lengths.most && has_sizes p) Param

abbrev pub trouble : Kind → Parameter → Option TpduCause
trouble kind p = trouble_by (lengths_of kind p.code) kind p

-- the place of the value of the last checksum, of parameters that begin at the place
abbrev pub sum_place : ℕ → List Parameter → Option ℕ
sum_place place [] = None
sum_place place (p ∷ ps) = option_or (sum_place (place + (2 + length p.value)) ps) (if p.code == 0xC3 then Some (place + 2) else None)

-- the value of the last parameter with this code
abbrev pub last_value : ℕ → List Parameter → Option (List ℕ)
last_value code [] = None
last_value code (p ∷ ps) = option_or (last_value code ps) (if p.code == code then Some p.value else None)

abbrev pub octet_in : List ℕ → ℕ
octet_in (octet ∷ []) = octet
octet_in octets = 0

abbrev pub pair_in : List ℕ → ℕ
pair_in (high ∷ low ∷ []) = high * 256 + low
pair_in octets = 0
