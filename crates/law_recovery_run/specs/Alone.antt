-- An end that is left alone: neither does its user disconnect nor does its system begin again.
use Rattle.std.specs.Prelude.{ℕ, List, Contains}
use Rattle.script_journal.specs.declared.event.Event.{Event}
use Rattle.script_journal.specs.declared.event.Event.TheVariants as events

-- in these events the user of the end x does not disconnect, and its system does not begin again
pub record IsLeftAlone (x system : ℕ) (journal : List Event) : Type 0 where
  pub user : (octets : List ℕ) → Contains journal (events.Disconnect x octets) → ⊥
  pub again : Contains journal (events.Restart system) → ⊥
