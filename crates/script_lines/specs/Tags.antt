-- The names of the declared systems and LANs, by their numbers.
use Rattle.std.specs.Prelude.{◌≡◌, ℕ, ◌<◌, true, List, [], length, map, slice_get, unwrap_or}
use Rattle.script_lines.specs.Field.{is_name}
use Rattle.script_lines.specs.Known.{Declared}

-- the names of the systems and of the LANs, each list from the number 0 on
pub record Tags : Type 0 where
  pub systems : List (List ℕ)
  pub lans : List (List ℕ)

-- the name of this number, or nothing where none has it
abbrev pub name_at : List (List ℕ) → ℕ → List ℕ
name_at names number = unwrap_or (slice_get names number) []

abbrev pub tags_of : Declared → Tags
tags_of names = record { systems = map (λ system. system.name) names.systems; lans = map (λ lan. lan.name) names.lans }

-- names of their own form, no two alike
pub record AreNames (names : List (List ℕ)) : Type 0 where
  pub named : (number : ℕ) → number < length names → is_name (name_at names number) ≡ true
  pub one : (first second : ℕ) → first < length names → second < length names → name_at names first ≡ name_at names second → first ≡ second

-- the names of the systems are such, and those of the LANs
abbrev pub HaveNames : Declared → Type 0
HaveNames names = AreNames (tags_of names).systems × AreNames (tags_of names).lans
