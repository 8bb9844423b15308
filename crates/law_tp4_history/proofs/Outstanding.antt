-- Of EDs the receiver expects the one that is outstanding, or the next: an EA is taken only for the one outstanding, and none is sent before its ED
-- came.
use Rattle.std.proofs.Common.{◌≡◌, inl, inr, ℕ, ◌+◌, ◌<◌, ◌≤◌, true, ◌&&◌, ◌==◌, nat_lt, List, [], ◌∷◌, ◌++◌, ap, subst, arith, Contains}
use Rattle.std.proofs.lemmas.Bool.{eqb-true}
use Rattle.std.proofs.lemmas.Bool.Decides.{nat_tests}
use Rattle.std.proofs.lemmas.List.Elements.{Contains-push_cases}
use Rattle.tp4_number.proofs.Past.{if_kept}
use Rattle.tp4_number.proofs.Accounts.{none}
use Rattle.tp4_number.specs.Number.{wire}
use Rattle.tp4_number.specs.Traffic.{Rules}
use Rattle.tp4_number.specs.Expedited.{Urgent, UrgentEvent, Ticks, Sends_ed, Resends_ed, Ed_comes, Ea_comes, MayUrgent, urgently, LeadsUrgently, quiet, IsAlone}

pub record IsOutstanding (u : Urgent) : Type 0 where
  pub base_low : u.base ≤ u.expected
  pub expected_low : u.expected ≤ u.next
  pub sent : (n tick : ℕ) → Contains u.sends (n, tick) → n < u.next
  pub said : (n tick : ℕ) → Contains u.answers (n, tick) → n < u.expected

both : (a b c d : ℕ) → (nat_lt a b && c == d) ≡ true → (a < b) × (c ≡ d)
both a b c d t = grind (arith, nat_tests)

module _ (rules : Rules) (u : Urgent) (alone : IsAlone rules u) (s : IsOutstanding u) where
  sending : (n next : ℕ) → n < next → u.next ≤ next → (n_ tick : ℕ) → Contains (u.sends ++ (n, u.clock) ∷ []) (n_, tick) → n_ < next
  sending n next low up m tick c = elim (Contains-push_cases u.sends (n, u.clock) (m, tick) c) [
    | inl old ↦ omega (arith, s.sent m tick old, up)
    | inr new ↦ omega (arith, ap (λ (p : ℕ × ℕ). p.0) new, low)
  ]

  saying : (n to : ℕ) → n < to → u.expected ≤ to → (m tick : ℕ) → Contains (u.answers ++ (n, u.clock) ∷ []) (m, tick) → m < to
  saying n to low up m tick c = elim (Contains-push_cases u.answers (n, u.clock) (m, tick) c) [
    | inl old ↦ omega (arith, s.said m tick old, up)
    | inr new ↦ omega (arith, ap (λ (p : ℕ × ℕ). p.0) new, low)
  ]

  pub outstanding_event : (event : UrgentEvent) → MayUrgent rules u event → IsOutstanding (urgently rules u event)
  outstanding_event Ticks may = record { base_low = s.base_low; expected_low = s.expected_low; sent = s.sent; said = s.said }
  outstanding_event Sends_ed may = record { base_low = s.base_low; expected_low = omega (arith, s.expected_low); sent = sending u.next (u.next + 1) (omega arith) (omega arith); said = s.said }
  outstanding_event Resends_ed may = record { base_low = s.base_low; expected_low = s.expected_low; sent = sending u.base u.next may (omega arith); said = s.said }
  outstanding_event (Ed_comes n tick) may =
      if_kept IsOutstanding (wire rules.block n == wire rules.block u.expected) _ _
      (λ t.
      let e = alone.ed n tick may.0 may.1 (eqb-true _ _ t) in
      record { base_low = omega (arith, s.base_low); expected_low = omega (arith, e, s.sent n tick may.0); sent = s.sent; said = saying n (u.expected + 1) (omega (arith, e)) (omega arith) })
      (λ _. if_kept IsOutstanding (wire rules.block (n + 1) == wire rules.block u.expected) _ _
      (λ t.
      let e = alone.before n tick may.0 may.1 (eqb-true _ _ t) in
      record { base_low = s.base_low; expected_low = s.expected_low; sent = s.sent; said = saying n u.expected (omega (arith, e)) (omega arith) })
      (λ _. s))
  outstanding_event (Ea_comes n tick) may =
      if_kept IsOutstanding (nat_lt u.base u.next && wire rules.block n == wire rules.block u.base) _ _
      (λ t.
      let b = both _ _ _ _ t in
      let e = alone.ea n tick may.0 may.1 b.0 b.1 in
      record { base_low = omega (arith, e, s.said n tick may.0); expected_low = s.expected_low; sent = s.sent; said = s.said })
      (λ _. s)

pub outstanding_quiet : (tick : ℕ) → IsOutstanding (quiet tick)
outstanding_quiet tick = record { base_low = omega arith; expected_low = omega arith; sent = λ n t c. absurd (none _ c); said = λ n t c. absurd (none _ c) }

pub urgently_more : (rules : Rules) (events : List UrgentEvent) (old u : Urgent) (event : UrgentEvent) → LeadsUrgently rules old events u → MayUrgent rules u event
    → LeadsUrgently rules old (events ++ event ∷ []) (urgently rules u event)
urgently_more rules [] old u event h may = (subst (λ (x : Urgent). MayUrgent rules x event) h may, ap (λ (x : Urgent). urgently rules x event) h)
urgently_more rules (e ∷ events) old u event h may = (h.0, urgently_more rules events (urgently rules old e) u event h.1 may)
