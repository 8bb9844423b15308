-- Titles as both route options hold them (X.233, source routing and recording of route): a length and the title's octets each.
use Rattle.std.specs.Prelude.{◌≡◌, ℕ, zero, suc, ◌-◌, List, [], ◌∷◌, length, take, Bool, true, false, ◌&&◌, nat_lt, nat_le, All}
use Rattle.std.specs.List.{flat_map}
use Rattle.pdu_parts.specs.Field.{IsAddress, field}

-- the octets of entries, one after another
abbrev pub entries : List (List ℕ) → List ℕ
entries titles = flat_map field titles

-- the octets are entries of these titles, one after another
pub record AreEntries (octets : List ℕ) (titles : List (List ℕ)) : Type 0 where
  pub parts : octets ≡ entries titles
  pub each : All IsAddress titles

-- whether the octets after so many are entries, one after another
unfoldable pub are_entries_after : ℕ → List ℕ → Bool
are_entries_after (suc count) [] = false
are_entries_after (suc count) (octet ∷ octets) = are_entries_after count octets
are_entries_after zero [] = true
are_entries_after zero (len ∷ octets) = nat_lt 0 len && nat_le len 20 && are_entries_after len octets

-- whether the octets are entries, one after another
abbrev pub are_entries : List ℕ → Bool
are_entries octets = are_entries_after 0 octets

-- whether entries fill the octets up to an offset, which counts the first of them as 3
abbrev pub are_entries_to : ℕ → List ℕ → Bool
are_entries_to offset octets = nat_le 3 offset && nat_le (offset - 3) (length octets) && are_entries (take (offset - 3) octets)
