-- What holds of a sending half between calls: its numbers stand in order and grow no faster than ticks, and its ticks have passed.
use Rattle.std.specs.Prelude.{◌≡◌, ℕ, ◌+◌, ◌*◌, ◌<◌, ◌≤◌, length, All, Option, Some, None}
use Rattle.std.specs.List.{sum_by}
use Rattle.tpdu.specs.declared.tpdu.Format.{Format}
use Rattle.tpdu.specs.declared.tpdu.Format.TheVariants.{Normal, Extended}
use Rattle.tp4_flow.specs.declared.rules.FlowRules.{FlowRules}
use Rattle.tp4_number.specs.declared.blocks.Blocks.{Blocks}
use Rattle.tp4_sending.specs.declared.tries.Tries.{Tries}
use Rattle.tp4_sending.specs.SendingHalf.{FlowSender, UrgentSender, block_in}

-- the terms of a connection have these bounds
pub record IsRules (rules : FlowRules) : Type 0 where
  pub some : 0 < rules.piece
  pub piece : rules.piece ≤ 16384
  pub t1 : rules.t1 ≤ 255
  pub sendings : rules.sendings ≤ 16
  pub limit : rules.limit ≤ 4335

-- the most credit that an AK of a format can grant
abbrev pub most_granted : Format → ℕ
most_granted Normal = 15
most_granted Extended = 65535

-- numbers below `base` are acknowledged; blocks begin no faster than ticks pass
pub record IsCounted (block clock base next : ℕ) (b : Blocks) : Type 0 where
  pub next_from : base ≤ next
  pub next_to : next ≤ b.high
  pub high_low : b.high < base + block
  pub first_low : b.first ≤ b.high
  pub first_to : b.high ≤ b.first + block
  pub newest : b.newest ≤ clock
  pub second : b.second ≤ clock
  pub third : b.third ≤ clock
  pub grown : b.first ≤ 3 * (block * b.newest) + 2 * block
  pub grown2 : b.first ≤ 3 * (block * b.second) + 3 * block
  pub grown3 : b.first ≤ 3 * (block * b.third) + 4 * block

-- the number of the first ED without its EA, where there is one
abbrev pub urgent_base : UrgentSender → Option Tries → ℕ → Type 0
urgent_base u None base = base ≡ u.next
urgent_base u (Some tries) base = base + 1 ≡ u.next

-- it was sent in time gone by, and no more than 16 times
abbrev pub IsTried : ℕ → Tries → Type 0
IsTried clock tries = (tries.last ≤ clock) × (tries.count ≤ 16)

abbrev pub IsGone : ℕ → Option Tries → Type 0
IsGone clock None = Unit {0}
IsGone clock (Some tries) = IsTried clock tries

-- a number that is there is this one or below it
abbrev pub IsUpTo : Option ℕ → ℕ → Type 0
IsUpTo None high = Unit {0}
IsUpTo (Some n) high = n ≤ high

pub record IsSending (s : FlowSender) : Type 0 where
  pub rules : IsRules s.rules
  pub clock : s.clock ≤ 4000000000
  pub credit : s.numbers.credit ≤ most_granted s.rules.format
  pub normal : IsCounted (block_in s) s.clock s.numbers.base s.numbers.next s.numbers.blocks
  pub window : length s.window + s.numbers.base ≡ s.numbers.next
  pub tries : All (IsTried s.clock) s.window
  pub first : s.queue.first ≤ s.numbers.base
  pub units : length s.queue.units ≤ 64
  pub octets : sum_by length s.queue.units ≤ 131072
  pub urgent : (base : ℕ) × urgent_base s.urgent s.urgent.out base × IsCounted (block_in s) s.clock base s.urgent.next s.urgent.blocks
  pub out : IsGone s.clock s.urgent.out
  pub expedited : length s.urgent.units ≤ 64
  pub noted : IsUpTo s.noted s.numbers.blocks.high
  pub urged : IsUpTo s.urgent.noted s.urgent.blocks.high
