-- So the line in which a sending half stands keeps what is known of it: it began with no more than the room of its receiver, or an AK of the line said it.
use Rattle.std.specs.Prelude.{◌≡◌, ◌≤◌, ℕ, ◌+◌, Contains}
use Rattle.tp4_number.specs.Number.{wire}
use Rattle.tp4_number.specs.Traffic.{Answer, Rules, Traffic}
use Rattle.tp4_sending.specs.SendingHalf.{FlowSender}
use Rattle.tp4_conn.specs.Table.{Event}
use Rattle.law_recovery_ends.specs.Knowing.{SaysAk}

-- the halves stand in traffic that only says more
pub record AreIn (s t : FlowSender) (old new : Traffic) : Type 0 where
  pub was : old.sender ≡ s.numbers
  pub is : new.sender ≡ t.numbers
  pub grows : (a : Answer) → Contains old.answers a → Contains new.answers a

-- the AK that came was said, and is afloat
pub record WasSaid (rules : Rules) (old : Traffic) (event : Event) : Type 0 where
  pub a : Answer
  pub there : Contains old.answers a
  pub live : old.clock ≤ a.tick + rules.life
  pub is : (w credit subsequence : ℕ) → SaysAk event w credit subsequence → (w ≡ wire rules.block a.number) × (credit ≡ a.credit) × (subsequence ≡ a.subsequence)
