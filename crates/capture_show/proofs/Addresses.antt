-- The addresses of an ESH stand behind their count, the tenth octet.
use Rattle.std.proofs.Common.{◌≡◌, ℕ, ◌≤◌, List, ◌++◌, length, drop, ◌∙◌, ap, append_assoc, arith, length-append}
use Rattle.std.specs.Prelude.{slice_index}
use Rattle.std.specs.List.{flat_map}
use Rattle.pdu_parts.specs.Field.{field}
use Rattle.pdu_parts.specs.Front.{BeginsWith}
use Rattle.esis_pdu.specs.Addresses.{addresses_in}
use Rattle.esis_pdu.specs.declared.hello.Hello.TheVariants.{Esh}
use Rattle.esis_pdu.specs.Hellos.{Esis, IsEsis}
use Rattle.esis_pdu.proofs.Fields.{listed_again}

-- a PDU has ten octets at least
pub long : (octets : List ℕ) (value : Esis) (rest : List ℕ) → BeginsWith IsEsis octets value rest → 10 ≤ length octets
long octets value rest f = let whole = ap length f.whole ∙ length-append f.front rest in omega (arith, whole, f.stands.least)

-- the addresses, found from the octets
pub addresses_stand : (octets : List ℕ) (hold : ℕ) (addresses : List (List ℕ)) (options rest : List ℕ)
    → BeginsWith IsEsis octets (record { hello = Esh hold addresses; options = options }) rest → addresses_in (slice_index octets 9) (drop 10 octets) ≡ addresses
addresses_stand octets hold addresses options rest f =
    let e = f.whole ∙ ap (λ (xs : List ℕ). xs ++ rest) f.stands.written in
    let count : slice_index octets 9 ≡ length addresses = ap (λ (xs : List ℕ). slice_index xs 9) e in
    let behind : drop 10 octets ≡ (flat_map field addresses ++ options) ++ rest = ap (drop 10) e in
    ap (λ (n : ℕ). addresses_in n (drop 10 octets)) count
    ∙ ap (addresses_in (length addresses)) (behind ∙ append_assoc (flat_map field addresses) options rest)
    ∙ listed_again addresses (options ++ rest) f.stands.addressed
