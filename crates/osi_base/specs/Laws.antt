-- What holds of every checksum.
use Rattle.std.specs.Prelude.{◌≡◌, ℕ, ◌+◌, ◌<◌, List, ◌∷◌, ◌++◌}
use Rattle.osi_base.specs.Fletcher.{Sealed}

-- two used checksums over the same other octets are the same
abbrev pub OneSeal : Type 0
OneSeal =
    (before after : List ℕ) (x y u v : ℕ) → 0 < x → x < 256 → 0 < y → y < 256 → 0 < u → u < 256 → 0 < v → v < 256
    → Sealed (before ++ x ∷ y ∷ after) → Sealed (before ++ u ∷ v ∷ after) → (x ≡ u) × (y ≡ v)
