-- Data unit identifiers, given by halves (X.233, data unit identifier).
use Rattle.std.specs.Prelude.{ℕ, ◌+◌, Bool, false, ◌==◌, ◌&&◌, ◌||◌, nat_le, nat_lt, if◌then◌else◌, Option, Some, None}
use Rattle.clnp_system.specs.Node.{Node}

-- the identifier is the first of a half
abbrev pub begins_half : ℕ → Bool
begins_half id = id == 0 || id == 32768

-- the last tick at which one of its half was given
abbrev pub last_of : {N : Type 0} → Node N → Option ℕ
last_of node = if nat_lt node.next_id 32768 then node.low else node.high

-- that was in the last so many ticks
abbrev pub is_recent : Option ℕ → ℕ → ℕ → Bool
is_recent None now life = false
is_recent (Some tick) now life = nat_le now (tick + life)

-- the next identifier may not be given yet
abbrev pub is_spent : {N : Type 0} → Node N → ℕ → Bool
is_spent node now = begins_half node.next_id && is_recent (last_of node) now node.setup.life

-- after the next identifier was given
abbrev pub numbered : {N : Type 0} → Node N → ℕ → Node N
numbered node now = record node {
  next_id = if node.next_id == 65535 then 0 else node.next_id + 1;
  low = if nat_lt node.next_id 32768 then Some now else node.low;
  high = if nat_lt node.next_id 32768 then node.high else Some now;
}
