-- When a sending half is to be called again. A half is settled where all that may go went: what is left waits for an
-- acknowledgement, for credit or for the number rule, and what waits for the number rule was told as held.
use Rattle.std.specs.Prelude.{◌≡◌, ◌≢◌, ℕ, ◌≤◌, ◌⊎◌, Bool, true, ◌||◌, ◌==◌, not, length, Option, Some, None, is_some}
use Rattle.tp4_flow.specs.declared.rules.Life.TheVariants.{Exhausted}
use Rattle.tp4_number.specs.declared.blocks.Blocks.{Blocks}
use Rattle.tp4_number.specs.Sender.{opens_at}
use Rattle.tp4_sending.specs.SendingHalf.{FlowSender, nothing, block_in, is_noted, is_urgent, has_next, life_of, ticked}

-- the number rule holds this number back up to some tick, and that was told
pub record IsHeld (block limit : ℕ) (blocks : Blocks) (n : ℕ) (noted : Option ℕ) : Type 0 where
  pub rule : is_some (opens_at block limit blocks n) ≡ true
  pub told : is_noted noted n ≡ true

-- an ED, a DT is next
abbrev pub waits_urgent : FlowSender → Bool
waits_urgent s = not (is_some s.urgent.out || length s.urgent.units == 0)

abbrev pub waits_normal : FlowSender → Bool
waits_normal s = not (is_urgent s || not (has_next s))

pub record IsSettled (s : FlowSender) : Type 0 where
  pub urgent : waits_urgent s ≡ true → IsHeld (block_in s) s.rules.limit s.urgent.blocks s.urgent.next s.urgent.noted
  pub normal : waits_normal s ≡ true → IsHeld (block_in s) s.rules.limit s.numbers.blocks s.numbers.next s.noted

-- a tick that is there has come
abbrev pub IsDue : Option ℕ → ℕ → Type 0
IsDue None now = ⊥
IsDue (Some tick) now = tick ≤ now

-- the call of a tick gives up, changes the half, tells or sends something
abbrev pub Acts : FlowSender → Type 0
Acts s = (life_of s ≡ Exhausted) ⊎ (ticked s ≢ nothing s)
