-- What holds after any events, and why each DT and AK afloat is read for what it is.
use Rattle.std.proofs.Common.{◌≡◌, ℕ, ◌+◌, ◌*◌, ◌<◌, ◌≤◌, true, arith, List, Contains}
use Rattle.tp4_number.specs.Traffic.{Rules, IsFit, Answer, Traffic, ReadsRightly}
use Rattle.tp4_number.specs.Window.{is_held}
use Rattle.tp4_number.proofs.Numbers.{near_is, near_old}
use Rattle.tp4_number.proofs.Accounts.{Accounts}

-- the window, and the receiver beside it
pub record IsOrdered (block base next credit high expected room : ℕ) : Type 0 where
  pub next_from : base ≤ next
  pub next_to : next ≤ high
  pub high_low : high < base + block
  pub credit_low : credit < block
  pub base_low : base ≤ expected
  pub expected_low : expected ≤ high
  pub room_low : room < block

-- an AK was sent. What it asked for came after it
pub record IsSaid (rules : Rules) (clock expected : ℕ) (sends : List (ℕ × ℕ)) (a : Answer) : Type 0 where
  pub low : a.number ≤ expected
  pub past : a.tick ≤ clock
  pub credit : a.credit < rules.block
  pub passed : a.number < expected → (tick : ℕ) × Contains sends (a.number, tick) × (a.tick ≤ tick + rules.life)

pub record Sound (rules : Rules) (w : Traffic) : Type 0 where
  pub account : Accounts rules w.clock w.sender.blocks w.sends
  pub order : IsOrdered rules.block w.sender.base w.sender.next w.sender.credit w.sender.blocks.high w.receiver.expected w.receiver.inbox.credit
  pub got : (d : ℕ) → is_held w.receiver.inbox.held d ≡ true → w.receiver.expected + d < w.sender.blocks.high
  pub said : (a : Answer) → Contains w.answers a → IsSaid rules w.clock w.receiver.expected w.sends a

module _ (rules : Rules) (w : Traffic) (fit : IsFit rules) (s : Sound rules w) where
  -- a DT afloat is at most three blocks old
  dt_young : (n tick : ℕ) → Contains w.sends (n, tick) → w.clock ≤ tick + rules.life → w.receiver.expected ≤ n + 3 * rules.block
  dt_young n tick c live =
      let m = s.account.marks n tick c in
      omega (arith, m.in_use, s.order.expected_low, s.account.blocks.to, fit.long)

  -- an AK afloat is at most three blocks old
  ak_young : (a : Answer) → Contains w.answers a → w.clock ≤ a.tick + rules.life → a.number < w.sender.base → w.sender.base ≤ a.number + 3 * rules.block
  ak_young a c live old =
      let p = (s.said a c).passed (omega (arith, s.order.base_low)) in
      let m = s.account.marks a.number p.0 p.1 in
      omega (arith, m.in_use, p.2, s.order.expected_low, s.order.base_low, s.account.blocks.to, fit.long)

  pub reads : ReadsRightly rules w
  reads = let o = s.order in record {
    new_dt = λ n tick c live up. near_is rules.block w.receiver.expected n fit.some up (omega (arith, (s.account.marks n tick c).below));
    old_dt = λ n tick c live down.
        let y = dt_young n tick c live in
        omega (arith, near_old rules.block w.receiver.expected n fit.some down (omega arith), fit.some);
    new_ak = λ a c live up. near_is rules.block w.sender.base a.number fit.some up (omega (arith, (s.said a c).low));
    old_ak = λ a c live down.
        let y = ak_young a c live down in
        omega (arith, near_old rules.block w.sender.base a.number fit.some down (omega arith), fit.some);
  }
