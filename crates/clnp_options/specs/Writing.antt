-- Options written in place.
use Rattle.std.specs.Prelude.{◌≡◌, ℕ, ◌+◌, List, [], ◌∷◌, ◌++◌, length, take, drop}
use Rattle.pdu_parts.specs.Parameter.{Parameter, spelled_one}

-- the option stands at that position, and all octets before and after it stayed
abbrev pub IsWritten : List ℕ → ℕ → Parameter → List ℕ → Type 0
IsWritten old position option new = new ≡ take position old ++ (spelled_one option ++ drop (position + (length option.value + 2)) old)

-- the options were written one after another, the first of them at that position
abbrev pub AreWritten : List ℕ → ℕ → List Parameter → List ℕ → Type 0
AreWritten old position [] new = new ≡ old
AreWritten old position (option ∷ options) new =
    (mid : List ℕ) × IsWritten old position option mid × AreWritten mid (position + (length option.value + 2)) options new
