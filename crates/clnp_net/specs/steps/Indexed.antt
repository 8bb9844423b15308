-- The index of what is afloat: once it is wanted, each unit stands in it with its key and its running number.
use Rattle.std.specs.Prelude.{◌≡◌, ◌<◌, ℕ, ◌+◌, ◌*◌, ◌-◌, ◌%◌, Bool, true, false, not, nat_eq, List, [], ◌∷◌, slice_get, Option, Some, None}
use Rattle.std.specs.Cmp.Lexicographic.{pointwise}
use Rattle.osi_base.specs.declared.unit.Unit.{Unit as CarriedUnit}
use Rattle.osi_base.specs.Floated.{is_unit_of, is_young, IsFloated}

-- a sum with the octets behind what was added up
abbrev pub sum_from : ℕ → List ℕ → ℕ
sum_from sum [] = sum
sum_from sum (octet ∷ octets) = sum_from ((sum * 31 % 4294967296 + octet) % 4294967296) octets

abbrev pub key_of : CarriedUnit (List ℕ) → ℕ
key_of unit = sum_from (sum_from (sum_from 0 unit.from) unit.to) unit.octets

-- the key before the running number
abbrev pub code_of : ℕ → ℕ → ℕ
code_of key number = key * 4294967296 + number % 4294967296

-- each has its code among those, by numbers upward
abbrev pub AreIndexed : (ℕ → Bool) → ℕ → List (ℕ × CarriedUnit (List ℕ)) → Type 0
AreIndexed has number [] = Unit {0}
AreIndexed has number (entry ∷ entries) = (has (code_of (key_of entry.1) number) ≡ true) × AreIndexed has (number + 1) entries

-- there are not too many units, and each is in the index where there is one
pub record IsIndexed (limit : ℕ) (on : Bool) (has : ℕ → Bool) (first : ℕ) (entries : List (ℕ × CarriedUnit (List ℕ))) : Type 0 where
  pub floated : IsFloated (record { limit = limit; entries = entries })
  pub indexed : on ≡ true → AreIndexed has first entries
  pub most : limit < 4294967296
  pub low : first < 4294967296

-- the unit of that code equals this one
abbrev pub is_there : CarriedUnit (List ℕ) → Option (ℕ × CarriedUnit (List ℕ)) → Bool
is_there unit None = false
is_there unit (Some entry) = is_unit_of (pointwise nat_eq) unit entry

abbrev pub unit_at : List (ℕ × CarriedUnit (List ℕ)) → ℕ → CarriedUnit (List ℕ) → ℕ → Bool
unit_at entries first unit code = is_there unit (slice_get entries ((code % 4294967296 + (4294967296 - first)) % 4294967296))

-- the oldest is too old
abbrev pub is_front_older : ℕ → ℕ → List (ℕ × CarriedUnit (List ℕ)) → Bool
is_front_older now age [] = false
is_front_older now age (entry ∷ entries) = not (is_young now age entry)
