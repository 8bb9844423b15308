-- The addresses of PDUs, from left to right: a value and the octets after it (ISO 9542, structure and encoding of PDUs).
use Rattle.std.specs.Prelude.{ℕ, zero, suc, ◌==◌, if◌then◌else◌, List, [], ◌∷◌, length, Option, Some, None}
use Rattle.pdu_parts.specs.Field.{address_at, field_at}
use Rattle.esis_pdu.specs.declared.hello.Hello.TheVariants.{Esh, Ish, Rd}
use Rattle.esis_pdu.specs.Hellos.{Esis}

infixl 10 ◌>>=◌
abbrev pub ◌>>=◌ : {A B : Type 0} → Option A → (A → Option B) → Option B
(Some x) >>= f = f x
None >>= f = None

-- an SNPA: a field of 6 octets
unfoldable pub snpa_at : List ℕ → Option (List ℕ × List ℕ)
snpa_at octets = do
  found ← field_at octets
  if length found.0 == 6 then Some (found.0, found.1) else None

-- a title: an address, or a length of 0 for none
unfoldable pub title_at : List ℕ → Option (Option (List ℕ) × List ℕ)
title_at [] = None
title_at (len ∷ rest) = if len == 0 then Some (None, rest) else (do
  title ← address_at (len ∷ rest)
  Some (Some title.0, title.1))

-- so many addresses
unfoldable pub addresses_at : ℕ → List ℕ → Option (List (List ℕ) × List ℕ)
addresses_at zero octets = Some ([], octets)
addresses_at (suc count) octets = do
  first ← address_at octets
  more ← addresses_at count first.1
  Some (first.0 ∷ more.0, more.1)

-- a count, and as many addresses
unfoldable pub counted_at : List ℕ → Option (List (List ℕ) × List ℕ)
counted_at [] = None
counted_at (count ∷ octets) = addresses_at count octets

-- the addresses of each type of PDU, with the holding time that stood before them. What is left are the options
unfoldable pub esh_at : ℕ → List ℕ → Option Esis
esh_at hold body = do
  addresses ← counted_at body
  Some (record { hello = Esh hold addresses.0; options = addresses.1 })

unfoldable pub ish_at : ℕ → List ℕ → Option Esis
ish_at hold body = do
  title ← address_at body
  Some (record { hello = Ish hold title.0; options = title.1 })

unfoldable pub rd_at : ℕ → List ℕ → Option Esis
rd_at hold body = do
  address ← address_at body
  snpa ← snpa_at address.1
  title ← title_at snpa.1
  Some (record { hello = Rd hold address.0 snpa.0 title.0; options = title.1 })

-- the addresses of a PDU of that type
unfoldable pub parts_at : ℕ → ℕ → List ℕ → Option Esis
parts_at type hold body =
    if type == 2 then esh_at hold body
    else if type == 4 then ish_at hold body
    else if type == 6 then rd_at hold body
    else None

-- what was found at the front, and then more of the octets after it
abbrev pub in_front : Option (List ℕ × List ℕ) → (List ℕ → List (List ℕ)) → List (List ℕ)
in_front None more = []
in_front (Some x) more = x.0 ∷ more x.1

-- at most so many addresses, as far as they stand whole
unfoldable pub addresses_in : ℕ → List ℕ → List (List ℕ)
addresses_in zero octets = []
addresses_in (suc count) octets = in_front (address_at octets) (addresses_in count)
