-- The units that a carrier took and may still let arrive (X.233, PDU lifetime control).
use Rattle.std.specs.Prelude.{ℕ, ◌+◌, ◌≤◌, Bool, ◌&&◌, nat_le, nat_eq, List, [], ◌∷◌, length}
use Rattle.std.specs.Cmp.Lexicographic.{pointwise}
use Rattle.std.specs.List.{AllByRecursion}
use Rattle.osi_base.specs.declared.unit.Unit.{Unit as CarriedUnit}

-- the most units, and the units with the ticks at which they were taken
pub record Floated (A : Type 0) : Type 0 where
  pub limit : ℕ
  pub entries : List (ℕ × CarriedUnit A)

-- at most that old
abbrev pub is_young : {A : Type 0} → ℕ → ℕ → ℕ × CarriedUnit A → Bool
is_young now age entry = nat_le now (entry.0 + age)

-- the entry is of that unit, by the addresses' equality
abbrev pub is_unit_of : {A : Type 0} → (A → A → Bool) → CarriedUnit A → ℕ × CarriedUnit A → Bool
is_unit_of eq unit entry = eq entry.1.from unit.from && eq entry.1.to unit.to && pointwise nat_eq entry.1.octets unit.octets

-- the ticks do not fall
abbrev pub IsOrdered : {A : Type 0} → List (ℕ × CarriedUnit A) → Type 0
IsOrdered [] = Unit {0}
IsOrdered (entry ∷ entries) = AllByRecursion (λ later. entry.0 ≤ later.0) entries × IsOrdered entries

-- at most `limit` units, oldest first
pub record IsFloated {A : Type 0} (floated : Floated A) : Type 0 where
  pub within : length floated.entries ≤ floated.limit
  pub ordered : IsOrdered floated.entries
