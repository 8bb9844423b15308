-- The sender's four words on its blocks say what the number rule says of all that was ever sent.
use Rattle.std.proofs.Common.{◌≡◌, ℕ, ◌+◌, ◌*◌, ◌/◌, ◌<◌, ◌≤◌, ◌↔◌, inl, inr, true, List, arith}
use Rattle.std.proofs.Math.Nat.{mul-le-mul_right}
use Rattle.std.proofs.lemmas.Bool.{cases_lt}
use Rattle.std.proofs.lemmas.Bool.Decides.{nat_tests}
use Rattle.tp4_number.specs.Number.{three_on, MaySend}
use Rattle.tp4_number.specs.Sender.{may_send}
use Rattle.tp4_number.specs.declared.blocks.Blocks.{Blocks}
use Rattle.tp4_number.specs.Traffic.{Rules, IsFit, Traffic, KeepsRule}
use Rattle.tp4_number.proofs.Sound.{Sound}
use Rattle.tp4_number.proofs.Accounts.{Accounts, times, opens}

three_on_to : (block n : ℕ) → three_on block n ≤ n + 3 * block
unfolding three_on
three_on_to block n = omega arith

three_on_from : (block n : ℕ) → 0 < block → n + 2 * block < three_on block n
unfolding three_on
three_on_from block n some = omega arith

-- no first number of a block lies within another block
gap : (block k n : ℕ) → k * block < three_on block n → (k + 1) * block ≤ three_on block n
unfolding three_on
gap block k n low = elim (cases_lt k (n / block + 3)) [
  | inl less ↦ mul-le-mul_right block (omega arith)
  | inr more ↦ (let g : (n / block + 3) * block ≤ k * block = mul-le-mul_right block more in absurd (omega arith))
]

module _ (rules : Rules) (clock : ℕ) (b : Blocks) (sends : List (ℕ × ℕ)) (fit : IsFit rules) (account : Accounts rules clock b sends) where
  -- what lies below the end of the newest block may go, unless it was never sent
  pub below_end : (n : ℕ) → n < b.first + rules.block → MaySend rules.block rules.limit sends n clock
  below_end n low m tick c is =
      let k = account.marks m tick c in
      elim (cases_lt (tick + rules.limit) clock) [
        | inl past ↦ past
        | inr live ↦ absurd (omega (arith, k.in_use live, three_on_from rules.block m fit.some, account.blocks.whole.1, gap rules.block account.blocks.whole.0 m (omega (arith, k.in_use live, three_on_from rules.block m fit.some, account.blocks.whole.1))))
      ]

  -- what the words let go, the rule lets go
  lets : (next : ℕ) → next ≤ b.high → may_send rules.block rules.limit b next clock ≡ true → MaySend rules.block rules.limit sends next clock
  lets next low t = elim (cases_lt next (b.first + rules.block)) [
    | inl within ↦ below_end next within
    | inr opening ↦ λ m tick c is.
        let k = account.marks m tick c in
        elim (opens _ _ _ _ _ _ opening t) [
          | inl early ↦ absurd (omega (arith, three_on_from rules.block m fit.some, low, account.blocks.to))
          | inr late ↦ omega (arith, k.third, three_on_from rules.block m fit.some, three_on_to rules.block m, low, account.blocks.to)
        ]
  ]

  -- what the three words forbid, the rule forbids
  only : (next : ℕ) → next ≤ b.high → MaySend rules.block rules.limit sends next clock → may_send rules.block rules.limit b next clock ≡ true
  only next low h = elim (cases_lt next (b.first + rules.block)) [
    | inl within ↦ grind (arith, nat_tests)
    | inr opening ↦ elim (cases_lt rules.block b.first) [
      | inr early ↦ grind (arith, nat_tests)
      | inl late ↦
          (let q = account.in_third late in
          let above = three_on_from rules.block q.0 fit.some in
          let below = three_on_to rules.block q.0 in
          let k = account.blocks.whole.0 in
          let start = account.blocks.whole.1 in
          let one = gap rules.block k q.0 (omega arith) in
          let is : next ≡ three_on rules.block q.0 = elim (cases_lt ((k + 1) * rules.block) (three_on rules.block q.0)) [
            | inl more ↦ absurd (omega (arith, gap rules.block (k + 1) q.0 more))
            | inr same ↦ omega (arith, low, account.blocks.to)
          ] in
          let ago = h q.0 b.third q.1 is in
          grind (arith, nat_tests))
    ]
  ]

  pub rule : (next : ℕ) → next ≤ b.high → (may_send rules.block rules.limit b next clock ≡ true) ↔ MaySend rules.block rules.limit sends next clock
  rule next low = (lets next low, only next low)

module _ (rules : Rules) (w : Traffic) (fit : IsFit rules) (s : Sound rules w) where
  pub keeps : KeepsRule rules w
  keeps = record {
    rule = rule rules w.clock w.sender.blocks w.sends fit s.account w.sender.next s.order.next_to;
    base_low = s.order.base_low;
    expected_low = s.order.expected_low;
    high_low = s.order.high_low;
    sent = λ n tick c. (s.account.marks n tick c).below;
    again = λ n low. below_end rules w.clock w.sender.blocks w.sends fit s.account n (omega (arith, s.account.blocks.to));
    low = omega (arith, s.account.blocks.to, s.account.blocks.grown, times rules.block w.sender.blocks.newest w.clock s.account.blocks.newest_low);
  }
