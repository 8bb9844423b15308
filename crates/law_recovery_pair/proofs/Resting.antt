-- Where nothing waits and no end is due, long enough after the tick, nothing is outstanding.
use Rattle.std.proofs.Common.{◌≡◌, ℕ, ◌+◌, ◌<◌, ◌≤◌, inl, inr, true, max, List, [], sym, ◌∙◌, ap, subst, arith, Contains, true≢false}
use Rattle.std.proofs.lemmas.Bool.{cases_lt}
use Rattle.tp4_number.specs.Window.{is_held}
use Rattle.tp4_number.specs.Traffic.{Rules, Answer, Traffic}
use Rattle.tp4_number.proofs.Accounts.{none}
use Rattle.tp4_number.proofs.Sound.{Sound}
use Rattle.law_recovery_pair.specs.Views.{View, said, known, LeadsTo}
use Rattle.law_recovery_pair.specs.Recovering.{Road, IsDue, Waits, Passed, Holds, Leaves, IsRecovering, IsNotDue, IsLevel}

pub rests : (rules : Rules) (size u t1 window : ℕ) (r : Road) → Sound rules r.traffic → IsRecovering size u r → r.dts ≡ [] → r.aks ≡ [] → IsNotDue t1 window r.traffic → u + max t1 window ≤ r.traffic.clock + 1 → IsLevel r.traffic
rests rules size u t1 window r s j no_dts no_aks idle late = record {
  view = same;
  held = λ n low high. held n low high;
  next = elim (cases_lt w.sender.base w.sender.next) [
    | inl some ↦ absurd (omega_free (held w.sender.base (omega arith) some))
    | inr done ↦ omega (arith, done, s.order.next_from)
  ];
}
  where
    w : Traffic
    w = r.traffic

    same : known w ≡ said w
    same = elim j.views [
      | inl l ↦ subst (λ (x : List Answer). LeadsTo (known r.traffic) x (said r.traffic)) no_aks l
      | inr q ↦ absurd (omega (arith, idle.spoke.2, q.past idle.spoke.0 idle.spoke.1, late))
    ]

    held : (n : ℕ) → w.sender.base ≤ n → n < w.sender.next → (d : ℕ) × (w.receiver.expected + d ≡ n) × (is_held w.receiver.inbox.held d ≡ true)
    held n low high =
        let t = idle.number n low high in
        by (j.due n t.0 t.1 (omega (arith, t.2, late)) low high)
      where
        by : IsDue r n → (d : ℕ) × (w.receiver.expected + d ≡ n) × (is_held w.receiver.inbox.held d ≡ true)
        by (Waits tick c) = absurd (none (n, tick) (subst (λ (x : List (ℕ × ℕ)). Contains x (n, tick)) no_dts c))
        by (Passed p) = absurd (omega (arith, p, low, ap (λ (k : View). k.number) same))
        by (Holds d at h) = (d, at, h)
        by (Leaves a c out) = absurd (none a (subst (λ (x : List Answer). Contains x a) no_aks c))

    omega_free : (d : ℕ) × (w.receiver.expected + d ≡ w.sender.base) × (is_held w.receiver.inbox.held d ≡ true) → ⊥
    omega_free x =
        let first : x.0 ≡ 0 = omega (arith, x.1, ap (λ (k : View). k.number) same) in
        absurd (true≢false (sym (subst (λ (d : ℕ). is_held w.receiver.inbox.held d ≡ true) first x.2) ∙ j.free))
