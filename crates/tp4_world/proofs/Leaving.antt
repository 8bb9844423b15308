-- What was told so far, and what is told from there on.
use Rattle.std.proofs.Common.{◌≡◌, ℕ, List, ◌++◌}
use Rattle.script_journal.specs.declared.event.Event.{Event}
use Rattle.tp4_flow.specs.declared.step.EndEvent.{EndEvent}
use Rattle.tp4_world.specs.Telling.{ends_after, events_after}
use Rattle.tp4_world.specs.declared.place.EndAt.{EndAt}

-- of these that were told, these are left
pub record Left (system : ℕ) (own : List ℕ) (first : List EndAt) (before : List Event) (told : List EndEvent) (ends : List EndAt) (events : List Event) (left : List EndEvent) : Type 0 where
  pub ends_are : ends_after first system told ≡ ends_after ends system left
  pub events_are : before ++ events_after first system own told ≡ events ++ events_after ends system own left
