-- A call for the next unit that was refused, by what it told.
use Rattle.std.specs.Prelude.{◌≡◌, ℕ, Bool, false, List, ◌∷◌, ◌++◌}
use Rattle.script_journal.specs.declared.event.Event.{Event}
use Rattle.tp4_conn.specs.declared.call.UserCall.{UserCall}
use Rattle.tp4_relay.specs.declared.unit.MarkedUnit.{MarkedUnit}
use Rattle.tp4_relay.specs.Pump.{unit_call}

-- the call at the end for the first unit that waits was refused, and what it told stands in what was made
pub record IsNextRefused {S : Type 0} (calls : S → ℕ → UserCall → Bool → List Event → S → Type 0) (made : List Event) (end : ℕ) (waiting : List MarkedUnit) : Type 0 where
  pub unit : MarkedUnit
  pub rest : List MarkedUnit
  pub is : waiting ≡ unit ∷ rest
  pub old : S
  pub new : S
  pub told : List Event
  pub refused : calls old end (unit_call unit) false told new
  pub before : List Event
  pub after : List Event
  pub stands : made ≡ before ++ (told ++ after)
