-- The tags of the rows: where an address differs from another in its tag, it is another.
use Rattle.std.specs.Prelude.{◌≡◌, ◌≢◌, ℕ, ◌+◌, ◌*◌, ◌%◌, ◌<◌, ◌≤◌, List, [], ◌∷◌, length, map, slice_index_or}
use Rattle.esis_tables.specs.declared.holding_time.Row.{Row}

-- a sum with the octets behind what was added up
abbrev pub tag_from : ℕ → List ℕ → ℕ
tag_from tag [] = tag
tag_from tag (octet ∷ octets) = tag_from ((tag * 251 % 256 + octet) % 256) octets

abbrev pub tag_of : List ℕ → ℕ
tag_of address = tag_from 0 address

-- exactly the tags of the addresses of the rows, in their order
abbrev pub AreTags : List Row → List ℕ → Type 0
AreTags rows tags = tags ≡ map (λ row. tag_of row.address) rows

-- no place from there up to that one has the tag, and it has it itself where it is not behind the last
pub record IsNextTagged (tags : List ℕ) (tag start place : ℕ) : Type 0 where
  pub low : start ≤ place
  pub high : place ≤ length tags
  pub others : (k : ℕ) → start ≤ k → k < place → slice_index_or tags k 0 ≢ tag
