-- Numbers and wire numbers (X.224, sequence numbering). `block` is a quarter of the wire's numbers.
use Rattle.std.specs.Prelude.{◌≡◌, ℕ, ◌+◌, ◌-◌, ◌*◌, ◌/◌, ◌%◌, ◌<◌, ◌≤◌, List, Contains}

-- what stands on the wire for a number
unfoldable pub wire : ℕ → ℕ → ℕ
wire block n = n % (4 * block)

-- a number that does not wrap
abbrev pub whole : ℕ → ℕ → ℕ
whole block n = n

-- how far one wire number lies ahead of another
unfoldable pub ahead : ℕ → ℕ → ℕ → ℕ
ahead block from w = (w + (4 * block - from)) % (4 * block)

-- the first number at or above `from` that stands as w on the wire
abbrev pub near : ℕ → ℕ → ℕ → ℕ
near block from w = from + ahead block (wire block from) w

-- the first number of the third block after that of n
unfoldable pub three_on : ℕ → ℕ → ℕ
three_on block n = (n / block + 3) * block

-- the number rule: n opens no block, or the third block before it was last sent more than `limit` ticks ago
abbrev pub MaySend : ℕ → ℕ → List (ℕ × ℕ) → ℕ → ℕ → Type 0
MaySend block limit sends n now = (m tick : ℕ) → Contains sends (m, tick) → n ≡ three_on block m → tick + limit < now

-- x is the least number from `from` on whose wire number is w
pub record IsNear (block from w x : ℕ) : Type 0 where
  pub low : from ≤ x
  pub stands : wire block x ≡ w
  pub least : (y : ℕ) → from ≤ y → wire block y ≡ w → x ≤ y
