-- The limits of an input as octets.
use Rattle.std.specs.Prelude.{ℕ}

-- the most octets of an input
abbrev pub most_octets : ℕ
most_octets = 16777216

-- the most octets that one read asks for
abbrev pub most_read : ℕ
most_read = 4096
