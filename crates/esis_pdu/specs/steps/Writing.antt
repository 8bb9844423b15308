-- What is written before it is sealed.
use Rattle.std.specs.Prelude.{ℕ, ◌/◌, ◌%◌, nat_le, if◌then◌else◌, List, [], ◌∷◌, Option, Some, None}
use Rattle.esis_pdu.specs.declared.hello.Hello.{Hello}
use Rattle.esis_pdu.specs.Hellos.{hold_of, type_of}

-- a length, where it is at most that
abbrev pub within : ℕ → ℕ → Option ℕ
within most len = if nat_le len most then Some len else None

-- the fixed part with that length indicator, the checksum 0
abbrev pub draft_part : ℕ → Hello → List ℕ
draft_part len hello = 130 ∷ len ∷ 1 ∷ 0 ∷ type_of hello ∷ hold_of hello / 256 ∷ hold_of hello % 256 ∷ 0 ∷ 0 ∷ []
