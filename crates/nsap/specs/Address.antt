-- Addresses as lists of octets (X.233, addressing; ISO/IEC 8348, network addresses).
use Rattle.std.specs.Prelude.{ℕ, ◌-◌, Bool, List, length, take, nat_eq, slice_index}
use Rattle.std.specs.List.{starts_with}
use Rattle.std.specs.Cmp.Lexicographic.{pointwise}

-- the last octet
abbrev pub selector_of : List ℕ → ℕ
selector_of address = slice_index address (length address - 1)

-- all but the last octet
abbrev pub system_part : List ℕ → List ℕ
system_part address = take (length address - 1) address

-- equal but for the last octet
abbrev pub is_same_system : List ℕ → List ℕ → Bool
is_same_system first second = pointwise nat_eq (system_part first) (system_part second)

-- the octets of the prefix are the first of the address
abbrev pub covers : List ℕ → List ℕ → Bool
covers prefix address = starts_with nat_eq address prefix
