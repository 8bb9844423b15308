-- The systems of a network before its first call: their titles, and their transport entities.
use Rattle.std.specs.Prelude.{◌≡◌, ℕ, List, slice_get, Some}
use Rattle.tp4_conn.specs.declared.timers.Timers.{Timers}
use Rattle.tp4_world.specs.declared.place.Placed.{Placed}
use Rattle.nsap.specs.Address.{system_part}

-- two systems have two titles, and not by their selectors alone
abbrev pub AreDistinct : List (List ℕ) → Type 0
AreDistinct titles = (one other : ℕ) (title next : List ℕ) → slice_get titles one ≡ Some title → slice_get titles other ≡ Some next → system_part title ≡ system_part next → one ≡ other

-- an entity with these timers, before its first call
pub record IsUntouched (timers : Timers) (one : Placed) : Type 0 where
  pub timers_are : one.entity.timers ≡ timers
  pub clock : one.entity.clock ≡ 0
