-- What a sending half knows of its receiver, over its calls (X.224, class 4: explicit flow control).
use Rattle.std.specs.Prelude.{◌≡◌, ℕ, ◌+◌, ◌≤◌}
use Rattle.tp4_sending.specs.SendingHalf.{FlowSender}

-- no number was sent beyond the window
abbrev pub IsWithin : FlowSender → Type 0
IsWithin s = s.numbers.next ≤ s.numbers.base + s.numbers.credit

-- it knows the same as before, and keeps within its window
pub record KeepsView (s t : FlowSender) : Type 0 where
  pub rules : t.rules ≡ s.rules
  pub base : t.numbers.base ≡ s.numbers.base
  pub credit : t.numbers.credit ≡ s.numbers.credit
  pub subsequence : t.numbers.subsequence ≡ s.numbers.subsequence
  pub edge : IsWithin t

-- it knows what an AK says that was read as number n, up to which it has sent, and keeps within its window
pub record TakesView (s : FlowSender) (n credit subsequence : ℕ) (t : FlowSender) : Type 0 where
  pub low : n ≤ s.numbers.blocks.high
  pub base : t.numbers.base ≡ n
  pub credit_is : t.numbers.credit ≡ credit
  pub subsequence_is : t.numbers.subsequence ≡ subsequence
  pub edge : IsWithin t
