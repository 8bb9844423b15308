-- A line that comes in parts.
use Rattle.std.specs.Prelude.{◌≢◌, ℕ, List}
use Rattle.std.specs.List.{AllByRecursion}

-- no octet is a line feed
abbrev pub HasNoFeed : List ℕ → Type 0
HasNoFeed octets = AllByRecursion (λ octet. octet ≢ 10) octets
