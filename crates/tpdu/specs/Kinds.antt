-- The kinds of TPDU: codes, fixed parts and data (X.224, structure and encoding of TPDUs).
use Rattle.std.specs.Prelude.{ℕ, Bool, true, false, ◌&&◌, ◌==◌, nat_le, List, [], ◌∷◌, Option, Some, None, if◌then◌else◌}
use Rattle.tpdu.specs.declared.kind.Kind.{Kind}
use Rattle.tpdu.specs.declared.kind.Kind.TheVariants.{Cr, Cc, Dr, Dc, Dt, Ed, Ak, Ea, Er}
use Rattle.tpdu.specs.declared.tpdu.Format.{Format}
use Rattle.tpdu.specs.declared.tpdu.Format.TheVariants.{Normal, Extended}

-- the codes from first to last are those of a kind
pub record Codes : Type 0 where
  pub first : ℕ
  pub last : ℕ
  pub kind : Kind

-- CR, CC and AK have a credit in the low half
abbrev pub codes : List Codes
codes =
    record { first = 0xE0; last = 0xEF; kind = Cr }
    ∷ record { first = 0xD0; last = 0xDF; kind = Cc }
    ∷ record { first = 0x80; last = 0x80; kind = Dr }
    ∷ record { first = 0xC0; last = 0xC0; kind = Dc }
    ∷ record { first = 0xF0; last = 0xF0; kind = Dt }
    ∷ record { first = 0x10; last = 0x10; kind = Ed }
    ∷ record { first = 0x60; last = 0x6F; kind = Ak }
    ∷ record { first = 0x20; last = 0x20; kind = Ea }
    ∷ record { first = 0x70; last = 0x70; kind = Er }
    ∷ []

abbrev pub kind_in : List Codes → ℕ → Option Kind
kind_in [] code = None
kind_in (row ∷ rows) code = if nat_le row.first code && nat_le code row.last then Some row.kind else kind_in rows code

abbrev pub kind_of : ℕ → Option Kind
kind_of code = kind_in codes code

-- the octets of a number: 7 bits in normal formats, 31 in extended formats
abbrev pub number_count : Format → ℕ
number_count Normal = 1
number_count Extended = 4

-- the octets of the fixed part after the code
abbrev pub fixed_count : Kind → Format → ℕ
fixed_count Cr _ = 5
fixed_count Cc _ = 5
fixed_count Dr _ = 5
fixed_count Dc _ = 4
fixed_count Dt Normal = 3
fixed_count Dt Extended = 6
fixed_count Ed Normal = 3
fixed_count Ed Extended = 6
fixed_count Ak Normal = 3
fixed_count Ak Extended = 8
fixed_count Ea Normal = 3
fixed_count Ea Extended = 6
fixed_count Er _ = 3

-- a CR, which has a checksum always
abbrev pub is_request : Kind → Bool
is_request Cr = true
is_request _ = false

-- a CR or a CC
abbrev pub is_connect : Kind → Bool
is_connect Cr = true
is_connect Cc = true
is_connect Dr = false
is_connect Dc = false
is_connect Dt = false
is_connect Ed = false
is_connect Ak = false
is_connect Ea = false
is_connect Er = false

-- it reaches to the end of the unit
abbrev pub takes_rest : Kind → Bool
takes_rest Cr = true
takes_rest Cc = true
takes_rest Dr = true
takes_rest Dc = false
takes_rest Dt = true
takes_rest Ed = true
takes_rest Ak = false
takes_rest Ea = false
takes_rest Er = false

-- it may have data of so many octets
abbrev pub data_suits : Kind → ℕ → Bool
data_suits Cr count = nat_le count 32
data_suits Cc count = nat_le count 32
data_suits Dr count = nat_le count 64
data_suits Dc count = count == 0
data_suits Dt count = true
data_suits Ed count = nat_le 1 count && nat_le count 16
data_suits Ak count = count == 0
data_suits Ea count = count == 0
data_suits Er count = count == 0

-- it has a number
abbrev pub has_number : Kind → Bool
has_number Cr = false
has_number Cc = false
has_number Dr = false
has_number Dc = false
has_number Dt = true
has_number Ed = true
has_number Ak = true
has_number Ea = true
has_number Er = false
