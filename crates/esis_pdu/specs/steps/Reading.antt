-- Reading a PDU from left to right, with the first fault that is met.
use Rattle.std.specs.Prelude.{ℕ, nat_le, if◌then◌else◌, List, length, drop, Option, Some, None, option_map, Result, Ok, Err}
use Rattle.std.specs.Option.{is_some}
use Rattle.pdu_parts.specs.Checksum.{checksum_in}
use Rattle.pdu_parts.specs.Number.{number_at}
use Rattle.pdu_parts.proofs.Readings.{◌>>=◌}
use Rattle.esis_pdu.specs.declared.fault.EsisFault.{EsisFault}
use Rattle.esis_pdu.specs.declared.fault.EsisFault.TheVariants as faults
use Rattle.esis_pdu.specs.Addresses.{addresses_at, parts_at}
use Rattle.esis_pdu.specs.Faults.{front, has_options, indicator, is_length, is_type, is_version, type_in}
use Rattle.esis_pdu.specs.Hellos.{Esis}

-- the octets after so many addresses
abbrev pub after_addresses : ℕ → List ℕ → Option (List ℕ)
after_addresses count octets = option_map (λ found. found.1) (addresses_at count octets)

-- the octets that the length indicator counts
unfoldable pub front_at : List ℕ → Result (List ℕ) EsisFault
front_at octets =
    if nat_le 10 (length octets) then (if is_length (indicator octets) (length octets) then Ok (front octets) else Err faults.Length)
    else Err faults.Short

-- the addresses, with the octets after them where they are options
abbrev pub with_options : Option Esis → Result Esis EsisFault
with_options None = Err faults.Address
with_options (Some pdu) = if has_options (Some pdu) then Ok pdu else Err faults.Option

-- what stands behind the fixed part, by the type
unfoldable pub body_at : ℕ → ℕ → List ℕ → Result Esis EsisFault
body_at type hold body = if is_type type then with_options (parts_at type hold body) else Err faults.Kind

abbrev pub hello_at : List ℕ → Result Esis EsisFault
hello_at pdu = body_at (type_in pdu) (number_at 5 pdu) (drop 9 pdu)

-- a whole PDU
abbrev pub pdu_at : List ℕ → Result Esis EsisFault
pdu_at pdu =
    if is_version pdu then (if is_some (checksum_in pdu) then hello_at pdu else Err faults.Checksum)
    else Err faults.Version

-- the PDU at the front, with its options
abbrev pub esis_at : List ℕ → Result Esis EsisFault
esis_at octets = do
  pdu ← front_at octets
  pdu_at pdu
