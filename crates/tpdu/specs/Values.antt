-- What the parts of a TPDU stand for (X.224, structure of TPDUs; encoding of numbers and credits).
use Rattle.std.specs.Prelude.{ℕ, ◌+◌, ◌*◌, ◌/◌, ◌%◌, Bool, true, false, ◌==◌, nat_le, List, [], slice_index, Option, Some, None, option_map, option_and_then, unwrap_or, if◌then◌else◌}
use Rattle.std.specs.List.{list_any}
use Rattle.pdu_parts.specs.Number.{number_at}
use Rattle.pdu_parts.specs.Parameter.{Parameter}
use Rattle.tpdu.specs.declared.kind.Kind.{Kind}
use Rattle.tpdu.specs.declared.kind.Kind.TheVariants.{Cr, Cc, Dr, Dc, Dt, Ed, Ak, Ea, Er}
use Rattle.tpdu.specs.declared.tpdu.Format.{Format}
use Rattle.tpdu.specs.declared.tpdu.Format.TheVariants.{Normal, Extended}
use Rattle.tpdu.specs.declared.tpdu.Tpdu.{Tpdu}
use Rattle.tpdu.specs.declared.tpdu.Tpdu.TheVariants as tpdus
use Rattle.tpdu.specs.declared.tpdu.TpduRef.{TpduRef}
use Rattle.tpdu.specs.declared.tpdu.TpduRef.TheVariants as refs
use Rattle.tpdu.specs.Parameters.{size_of, preferred_of, last_value, octet_in, pair_in}

-- the owned value, without `sum`
abbrev pub tpdu_of : TpduRef → Tpdu
tpdu_of (refs.Cr credit source width calling called size preferred extra version classes ack_time sum octets) =
    tpdus.Cr credit source width calling.now called.now size preferred extra version (option_map (λ r. r.now) classes) ack_time octets.now
tpdu_of (refs.Cc credit destination source width calling called size preferred extra version classes ack_time sum octets) =
    tpdus.Cc credit destination source width calling.now called.now size preferred extra version (option_map (λ r. r.now) classes) ack_time octets.now
tpdu_of (refs.Dr destination source reason info sum octets) = tpdus.Dr destination source reason (option_map (λ r. r.now) info) octets.now
tpdu_of (refs.Dc destination source sum) = tpdus.Dc destination source
tpdu_of (refs.Dt destination last number sum octets) = tpdus.Dt destination last number octets.now
tpdu_of (refs.Ed destination last number sum octets) = tpdus.Ed destination last number octets.now
tpdu_of (refs.Ak destination number credit subsequence confirmation sum) = tpdus.Ak destination number credit subsequence (option_map (λ r. r.now) confirmation)
tpdu_of (refs.Ea destination number sum) = tpdus.Ea destination number
tpdu_of (refs.Er destination cause rejected sum) = tpdus.Er destination cause (option_map (λ r. r.now) rejected)

-- whether a checksum was there
abbrev pub sum_of : TpduRef → Bool
sum_of (refs.Cr _ _ _ _ _ _ _ _ _ _ _ sum _) = sum
sum_of (refs.Cc _ _ _ _ _ _ _ _ _ _ _ _ sum _) = sum
sum_of (refs.Dr _ _ _ _ sum _) = sum
sum_of (refs.Dc _ _ sum) = sum
sum_of (refs.Dt _ _ _ sum _) = sum
sum_of (refs.Ed _ _ _ sum _) = sum
sum_of (refs.Ak _ _ _ _ _ sum) = sum
sum_of (refs.Ea _ _ sum) = sum
sum_of (refs.Er _ _ _ sum) = sum

-- a TPDU, and whether it has a checksum
abbrev pub TpduAndSum : Type 0
TpduAndSum = Tpdu × Bool

abbrev pub seen : TpduRef → TpduAndSum
seen tpdu = (tpdu_of tpdu, sum_of tpdu)

-- the parts of a TPDU, one after another behind its length indicator
pub record Parts : Type 0 where
  pub kind : Kind
  pub format : Format
  pub code : ℕ
  pub fixed : List ℕ
  pub parameters : List Parameter
  pub body : List ℕ

-- the number of four octets
abbrev pub quad_at : ℕ → List ℕ → ℕ
quad_at at octets = 65536 * number_at at octets + number_at (at + 2) octets

-- a number behind the destination reference: 7 bits in one octet, or 31 in four
abbrev pub number_of : Format → List ℕ → ℕ
number_of Normal fixed = slice_index fixed 2 % 128
number_of Extended fixed = quad_at 2 fixed % 2147483648

-- the top bit of such a number
abbrev pub is_last : Format → List ℕ → Bool
is_last Normal fixed = nat_le 128 (slice_index fixed 2)
is_last Extended fixed = nat_le 2147483648 (quad_at 2 fixed)

-- bit 2 of the class octet
abbrev pub class_format : ℕ → Format
class_format class = if class / 2 % 2 == 1 then Extended else Normal

-- a credit of 4 bits in the code octet, or of 16 behind the number
abbrev pub credit_of : Format → ℕ → List ℕ → ℕ
credit_of Normal code fixed = code % 16
credit_of Extended code fixed = number_at 6 fixed

-- parameters with their defaults: an empty selector, expedited data; a size may be absent
abbrev pub text : ℕ → List Parameter → List ℕ
text code ps = unwrap_or (last_value code ps) []

abbrev pub octet_under : ℕ → List Parameter → Option ℕ
octet_under code ps = option_map octet_in (last_value code ps)

abbrev pub pair_under : ℕ → List Parameter → Option ℕ
pair_under code ps = option_map pair_in (last_value code ps)

abbrev pub size : List Parameter → Option ℕ
size ps = option_and_then size_of (last_value 0xC0 ps)

abbrev pub preferred : List Parameter → Option ℕ
preferred ps = option_and_then preferred_of (last_value 0xF0 ps)

-- the fields of each kind
abbrev pub fields : Kind → Format → ℕ → List ℕ → List Parameter → List ℕ → Tpdu
fields Cr width code fixed ps body =
    tpdus.Cr (code % 16) (number_at 2 fixed) (class_format (slice_index fixed 4)) (text 0xC1 ps) (text 0xC2 ps) (size ps) (preferred ps)
    (unwrap_or (octet_under 0xC6 ps) 1) (octet_under 0xC4 ps) (last_value 0xC7 ps) (pair_under 0x85 ps) body
fields Cc width code fixed ps body =
    tpdus.Cc (code % 16) (number_at 0 fixed) (number_at 2 fixed) (class_format (slice_index fixed 4)) (text 0xC1 ps) (text 0xC2 ps) (size ps) (preferred ps)
    (unwrap_or (octet_under 0xC6 ps) 1) (octet_under 0xC4 ps) (last_value 0xC7 ps) (pair_under 0x85 ps) body
fields Dr width code fixed ps body = tpdus.Dr (number_at 0 fixed) (number_at 2 fixed) (slice_index fixed 4) (last_value 0xE0 ps) body
fields Dc width code fixed ps body = tpdus.Dc (number_at 0 fixed) (number_at 2 fixed)
fields Dt width code fixed ps body = tpdus.Dt (number_at 0 fixed) (is_last width fixed) (number_of width fixed) body
fields Ed width code fixed ps body = tpdus.Ed (number_at 0 fixed) (is_last width fixed) (number_of width fixed) body
fields Ak width code fixed ps body =
    tpdus.Ak (number_at 0 fixed) (number_of width fixed) (credit_of width code fixed) (unwrap_or (pair_under 0x8A ps) 0) (last_value 0x8C ps)
fields Ea width code fixed ps body = tpdus.Ea (number_at 0 fixed) (number_of width fixed)
fields Er width code fixed ps body = tpdus.Er (number_at 0 fixed) (slice_index fixed 2) (last_value 0xC1 ps)

unfoldable pub value_of : Parts → Tpdu
value_of parts = fields parts.kind parts.format parts.code parts.fixed parts.parameters parts.body

-- the destination reference; a CR has none
abbrev pub destination_of : Tpdu → Option ℕ
destination_of (tpdus.Cr _ _ _ _ _ _ _ _ _ _ _ _) = None
destination_of (tpdus.Cc _ destination _ _ _ _ _ _ _ _ _ _ _) = Some destination
destination_of (tpdus.Dr destination _ _ _ _) = Some destination
destination_of (tpdus.Dc destination _) = Some destination
destination_of (tpdus.Dt destination _ _ _) = Some destination
destination_of (tpdus.Ed destination _ _ _) = Some destination
destination_of (tpdus.Ak destination _ _ _ _) = Some destination
destination_of (tpdus.Ea destination _) = Some destination
destination_of (tpdus.Er destination _ _) = Some destination

-- it reaches to the end of the unit
abbrev pub reaches_end : Tpdu → Bool
reaches_end (tpdus.Cr _ _ _ _ _ _ _ _ _ _ _ _) = true
reaches_end (tpdus.Cc _ _ _ _ _ _ _ _ _ _ _ _ _) = true
reaches_end (tpdus.Dr _ _ _ _ _) = true
reaches_end (tpdus.Dc _ _) = false
reaches_end (tpdus.Dt _ _ _ _) = true
reaches_end (tpdus.Ed _ _ _ _) = true
reaches_end (tpdus.Ak _ _ _ _ _) = false
reaches_end (tpdus.Ea _ _) = false
reaches_end (tpdus.Er _ _ _) = false

-- extended formats exactly for a destination reference that is listed
abbrev pub format_for : List ℕ → Option ℕ → Format
format_for extended None = Normal
format_for extended (Some destination) = if list_any (λ reference. reference == destination) extended then Extended else Normal
