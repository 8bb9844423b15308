-- The deadlines of the units, in their order, and the first unit of least deadline among those that are past it.
use Rattle.std.specs.Prelude.{◌≡◌, ℕ, ◌<◌, ◌≤◌, List, ◌∷◌, ◌++◌, length, map, Option, Some, None}
use Rattle.std.specs.List.{AllByRecursion}
use Rattle.due_links.specs.Entries.{Entries}
use Rattle.clnp_segment.specs.Store.{Partial}

abbrev pub deadline_of : Partial → Option ℕ
deadline_of unit = Some unit.deadline

-- exactly the deadlines of the units, with room for so many
abbrev pub AreDeadlines : ℕ → List Partial → Entries → Type 0
AreDeadlines units held due = due ≡ record { most = units; ticks = map deadline_of held }

-- where it is in the list
pub record IsDue (now : ℕ) (held : List Partial) (place : ℕ) : Type 0 where
  pub before : List Partial
  pub unit : Partial
  pub rest : List Partial
  pub stands : held ≡ before ++ unit ∷ rest
  pub counted : place ≡ length before
  pub past : unit.deadline < now
  pub sooner : AllByRecursion (λ other. unit.deadline < other.deadline) before
  pub first : AllByRecursion (λ other. unit.deadline ≤ other.deadline) rest

abbrev pub FindsDue : ℕ → List Partial → Option ℕ → Type 0
FindsDue now held None = AllByRecursion (λ unit. now ≤ unit.deadline) held
FindsDue now held (Some place) = IsDue now held place
