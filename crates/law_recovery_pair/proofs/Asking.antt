-- Each move keeps that an ED that is outstanding waits, or its EA does (`IsAsking`).
use Rattle.std.proofs.Common.{◌≡◌, ◌⊎◌, ℕ, ◌+◌, ◌<◌, ◌≤◌, ◌||◌, ◌&&◌, ◌==◌, nat_lt, inl, inr, Bool, true, false, List, [], ◌∷◌, ◌++◌, refl, sym, ◌∙◌, ap, subst, arith, Contains, if◌then◌else◌, true≢false}
use Rattle.std.proofs.lemmas.Bool.{cases_lt, cases_eq, eq-eqb, lt-ltb}
use Rattle.std.proofs.lemmas.List.Elements.{Contains-append_left, Contains-push}
use Rattle.tp4_number.specs.Traffic.{Rules, IsFit}
use Rattle.tp4_number.specs.Number.{wire}
use Rattle.tp4_number.specs.Expedited.{Urgent, ed_taken, ea_taken}
use Rattle.tp4_number.proofs.Accounts.{none}
use Rattle.tp4_number.proofs.Expedited.{Calm}
use Rattle.tp4_number.proofs.Past.{if_kept}
use Rattle.law_recovery_pair.specs.Urgent.{UrgentRoad, UrgentMove, Passes, Asks, Asks_again, Ed_arrives, Ea_arrives, Late_ed, Late_ea, ea_of, MayGo, gone_on, IsAsking}
use Rattle.law_recovery_pair.proofs.Keeping.{first_or}

module _ (rules : Rules) (fit : IsFit rules) (tick : ℕ) (r : UrgentRoad) (s : Calm rules r.urgent) (j : IsAsking tick r) where
  abbrev u : Urgent
  u = r.urgent

  -- a receiver has the EA of the ED that is outstanding
  answers_it : (n : ℕ) → n ≡ u.base → u.base < u.next → ea_of rules u n ≡ (n, u.clock) ∷ []
  answers_it n is out = by (wire rules.block n == wire rules.block u.expected) (wire rules.block (n + 1) == wire rules.block u.expected)
      (elim (cases_eq u.expected n) [
        | inl first ↦ inl (eq-eqb _ _ (ap (wire rules.block) (sym first)))
        | inr other ↦ inr (eq-eqb _ _ (ap (wire rules.block) (next_one other)))
      ])
    where
      next_one : (u.expected ≡ n → ⊥) → n + 1 ≡ u.expected
      next_one other = elim (cases_lt n u.expected) [
        | inl above ↦ omega (arith, above, is, s.expected_low, s.one)
        | inr below ↦ absurd (other (omega (arith, below, is, s.base_low)))
      ]

      one : List (ℕ × ℕ)
      one = (n, u.clock) ∷ []

      by : (a b : Bool) → (a ≡ true) ⊎ (b ≡ true) → (if a || b then one else []) ≡ one
      by true b h = refl
      by false true h = refl
      by false false h = absurd (elim h [ inl e ↦ absurd (true≢false (sym e)) | inr e ↦ absurd (true≢false (sym e)) ])

  -- an ED comes: the sender is as it was
  comes : (n : ℕ) (eds : List (ℕ × ℕ)) → ((at : ℕ) → Contains r.eds (u.base, at) → Contains eds (u.base, at) ⊎ (n ≡ u.base))
      → (to : Urgent) → to.sends ≡ u.sends → to.base ≡ u.base → to.next ≡ u.next → IsAsking tick (record { urgent = to; eds = eds; eas = r.eas ++ ea_of rules u n })
  comes n eds left to sends base next t c since out =
      let c2 : Contains u.sends (u.base, t) = subst (λ (l : List (ℕ × ℕ)). Contains l (u.base, t)) sends (subst (λ (b : ℕ). Contains to.sends (b, t)) base c) in
      let out2 : u.base < u.next = omega (arith, base, next, out) in
      subst (λ (b : ℕ). ((at : ℕ) × Contains eds (b, at)) ⊎ ((at : ℕ) × Contains (r.eas ++ ea_of rules u n) (b, at))) (sym base) (
      elim (j t c2 since out2) [
        | inl ed ↦ elim (left ed.0 ed.1) [
          | inl still ↦ inl (ed.0, still)
          | inr here ↦ inr (u.clock, subst (λ (l : List (ℕ × ℕ)). Contains (r.eas ++ l) (u.base, u.clock)) (sym (answers_it n here out2)) (subst (λ (b : ℕ). Contains (r.eas ++ (n, u.clock) ∷ []) (b, u.clock)) here (Contains-push r.eas (n, u.clock))))
        ]
        | inr ea ↦ inr (ea.0, Contains-append_left r.eas _ _ ea.1)
      ])

  -- what an ED does to the sender: nothing
  ed_sender : (n : ℕ) → (ed_taken rules.block u n).sends ≡ u.sends × (ed_taken rules.block u n).base ≡ u.base × (ed_taken rules.block u n).next ≡ u.next
  ed_sender n =
      let P = λ (x : Urgent). (x.sends ≡ u.sends) × (x.base ≡ u.base) × (x.next ≡ u.next) in
      if_kept P (wire rules.block n == wire rules.block u.expected) _ _ (λ _. (refl, refl, refl))
      (λ _. if_kept P (wire rules.block (n + 1) == wire rules.block u.expected) _ _ (λ _. (refl, refl, refl)) (λ _. (refl, refl, refl)))

  -- an EA comes
  heard : (n : ℕ) (eas : List (ℕ × ℕ)) → ((at : ℕ) → Contains r.eas (u.base, at) → Contains eas (u.base, at) ⊎ (n ≡ u.base)) → IsAsking tick (record r { urgent = ea_taken rules.block u n; eas = eas })
  heard n eas left =
      if_kept (λ (x : Urgent). IsAsking tick (record r { urgent = x; eas = eas })) (nat_lt u.base u.next && wire rules.block n == wire rules.block u.base) _ _
      (λ taken. λ t c since out. absurd (omega (arith, out, s.next_to, s.one)))
      (λ not. λ t c since out. elim (j t c since out) [
        | inl ed ↦ inl ed
        | inr ea ↦ elim (left ea.0 ea.1) [ inl still ↦ inr (ea.0, still) | inr here ↦ absurd (true≢false (sym (hits here out) ∙ not)) ]
      ])
    where
      hits : n ≡ u.base → u.base < u.next → (nat_lt u.base u.next && wire rules.block n == wire rules.block u.base) ≡ true
      hits here out = by (nat_lt u.base u.next) (wire rules.block n == wire rules.block u.base) (lt-ltb _ _ out) (eq-eqb _ _ (ap (wire rules.block) here))
        where
          by : (a b : Bool) → a ≡ true → b ≡ true → (a && b) ≡ true
          by true b p q = q
          by false b p q = absurd (true≢false (sym p))

  head : (n t m at : ℕ) (waits rest : List (ℕ × ℕ)) → waits ≡ (n, t) ∷ rest → Contains waits (m, at) → Contains rest (m, at) ⊎ (n ≡ m)
  head n t m at waits rest e c = elim (first_or (n, t) (m, at) rest (subst (λ (l : List (ℕ × ℕ)). Contains l (m, at)) e c)) [ inl same ↦ inr (ap (λ (p : ℕ × ℕ). p.0) same) | inr later ↦ inl later ]

  pub asks_on : (move : UrgentMove) → MayGo rules tick r move → IsAsking tick (gone_on rules r move)
  asks_on Passes may = j
  asks_on Asks may = λ t c since out. inl (u.clock, subst (λ (b : ℕ). Contains (r.eds ++ (u.next, u.clock) ∷ []) (b, u.clock)) may.0 (Contains-push r.eds (u.next, u.clock)))
  asks_on Asks_again may = λ t c since out. inl (u.clock, Contains-push r.eds (u.base, u.clock))
  asks_on (Ed_arrives n t rest) may = let x = ed_sender n in comes n rest (λ at c. head n t u.base at r.eds rest may.0 c) (ed_taken rules.block u n) x.0 x.1 x.2
  asks_on (Ea_arrives n t rest) may = heard n rest (λ at c. head n t u.base at r.eas rest may.0 c)
  asks_on (Late_ed n t) may = let x = ed_sender n in comes n r.eds (λ at c. inl c) (ed_taken rules.block u n) x.0 x.1 x.2
  asks_on (Late_ea n t) may = heard n r.eas (λ at c. inl c)

  -- where nothing waits and no ED is due, none is outstanding
  pub no_ed : (t1 : ℕ) → r.eds ≡ [] → r.eas ≡ [] → (u.base < u.next → (t : ℕ) × Contains u.sends (u.base, t) × (u.clock < t + t1)) → tick + t1 ≤ u.clock + 1 → u.next ≡ u.base
  no_ed t1 no_eds no_eas idle late = elim (cases_lt u.base u.next) [
    | inr done ↦ omega (arith, done, s.next_from)
    | inl out ↦
        (let x = idle out in
        absurd (elim (j x.0 x.1 (omega (arith, x.2, late)) out) [
          | inl ed ↦ absurd (none (u.base, ed.0) (subst (λ (l : List (ℕ × ℕ)). Contains l (u.base, ed.0)) no_eds ed.1))
          | inr ea ↦ absurd (none (u.base, ea.0) (subst (λ (l : List (ℕ × ℕ)). Contains l (u.base, ea.0)) no_eas ea.1))
        ]))
  ]
