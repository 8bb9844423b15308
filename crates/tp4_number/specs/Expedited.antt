-- One sender of EDs and one receiver, with all that was ever sent between them. One ED at most is outstanding.
use Rattle.std.specs.Prelude.{◌≡◌, ◌↔◌, ℕ, ◌+◌, ◌<◌, ◌≤◌, if◌then◌else◌, ◌&&◌, ◌==◌, nat_lt, true, List, [], ◌∷◌, ◌++◌, Contains}
use Rattle.tp4_number.specs.Number.{wire, MaySend}
use Rattle.tp4_number.specs.Sender.{no_blocks, may_send, marked}
use Rattle.tp4_number.specs.declared.blocks.Blocks.{Blocks}
use Rattle.tp4_number.specs.Traffic.{Rules}

pub record Urgent : Type 0 where
  pub clock : ℕ
  pub base : ℕ  -- the first ED without its EA. It is outstanding where `next` is above it
  pub next : ℕ
  pub blocks : Blocks
  pub sends : List (ℕ × ℕ)
  pub expected : ℕ
  pub answers : List (ℕ × ℕ)  -- every EA that was ever sent: the number of the ED, and the tick

pub data UrgentEvent : Type 0 where
  Ticks : UrgentEvent
  Sends_ed : UrgentEvent
  Resends_ed : UrgentEvent
  Ed_comes : (n tick : ℕ) → UrgentEvent
  Ea_comes : (n tick : ℕ) → UrgentEvent

-- an ED comes that was sent as n: it is the one expected, or the one before it, or ignored
abbrev pub ed_taken : ℕ → Urgent → ℕ → Urgent
ed_taken block u n =
    if wire block n == wire block u.expected then record u { expected = u.expected + 1; answers = u.answers ++ (n, u.clock) ∷ [] }
    else if wire block (n + 1) == wire block u.expected then record u { answers = u.answers ++ (n, u.clock) ∷ [] }
    else u

-- an EA comes that was sent for n
abbrev pub ea_taken : ℕ → Urgent → ℕ → Urgent
ea_taken block u n =
    if nat_lt u.base u.next && wire block n == wire block u.base
    then record u { base = u.base + 1 }
    else u

abbrev pub MayUrgent : Rules → Urgent → UrgentEvent → Type 0
MayUrgent rules u Ticks = Unit {0}
MayUrgent rules u Sends_ed = (u.next ≡ u.base) × (may_send rules.block rules.limit u.blocks u.next u.clock ≡ true)
MayUrgent rules u Resends_ed = u.base < u.next
MayUrgent rules u (Ed_comes n tick) = Contains u.sends (n, tick) × (u.clock ≤ tick + rules.life)
MayUrgent rules u (Ea_comes n tick) = Contains u.answers (n, tick) × (u.clock ≤ tick + rules.life)

abbrev pub urgently : Rules → Urgent → UrgentEvent → Urgent
urgently rules u Ticks = record u { clock = u.clock + 1 }
urgently rules u Sends_ed = record u { next = u.next + 1; blocks = marked rules.block u.blocks u.next u.clock; sends = u.sends ++ (u.next, u.clock) ∷ [] }
urgently rules u Resends_ed = record u { blocks = marked rules.block u.blocks u.base u.clock; sends = u.sends ++ (u.base, u.clock) ∷ [] }
urgently rules u (Ed_comes n tick) = ed_taken rules.block u n
urgently rules u (Ea_comes n tick) = ea_taken rules.block u n

abbrev pub LeadsUrgently : Rules → Urgent → List UrgentEvent → Urgent → Type 0
LeadsUrgently rules old [] new = new ≡ old
LeadsUrgently rules old (event ∷ events) new = MayUrgent rules old event × LeadsUrgently rules (urgently rules old event) events new

abbrev pub quiet : ℕ → Urgent
quiet tick =
    record {
      clock = tick;
      base = 0;
      next = 0;
      blocks = no_blocks;
      sends = [];
      expected = 0;
      answers = [];
    }

-- no ED and no EA afloat with another number has the wire number of the one expected
pub record IsAlone (rules : Rules) (u : Urgent) : Type 0 where
  pub ed : (n tick : ℕ) → Contains u.sends (n, tick) → u.clock ≤ tick + rules.life → wire rules.block n ≡ wire rules.block u.expected → n ≡ u.expected
  pub before : (n tick : ℕ) → Contains u.sends (n, tick) → u.clock ≤ tick + rules.life → wire rules.block (n + 1) ≡ wire rules.block u.expected → n + 1 ≡ u.expected
  pub ea : (n tick : ℕ) → Contains u.answers (n, tick) → u.clock ≤ tick + rules.life → u.base < u.next → wire rules.block n ≡ wire rules.block u.base
      → n ≡ u.base

-- the blocks that the sender keeps obey the number rule over all EDs that were ever sent: the next one goes exactly where the rule lets it go, and what was
-- sent once may be sent again
pub record ObeysRule (rules : Rules) (u : Urgent) : Type 0 where
  pub rule : (may_send rules.block rules.limit u.blocks u.next u.clock ≡ true) ↔ MaySend rules.block rules.limit u.sends u.next u.clock
  pub again : (n : ℕ) → n < u.blocks.high → MaySend rules.block rules.limit u.sends n u.clock
  pub sent : (n tick : ℕ) → Contains u.sends (n, tick) → n < u.blocks.high
