-- What an AK that is afloat does to the sender: it is read for what it is; a newer one is taken, an older one is not.
use Rattle.std.proofs.Common.{◌≡◌, ℕ, ◌+◌, ◌⊎◌, inl, inr, true, false, nat_lt, max, min, refl, sym, ◌∙◌, ap, subst, arith}
use Rattle.std.proofs.lemmas.Bool.{ltb-true, ltb-false, cases_lt}
use Rattle.std.proofs.lemmas.Bool.Decides.{nat_tests}
use Rattle.tp4_number.specs.Number.{wire, near}
use Rattle.tp4_number.specs.Sender.{Sender, is_newer, told}
use Rattle.tp4_number.specs.Traffic.{Rules, IsFit, Answer, Traffic, Ak_comes, May, after}
use Rattle.tp4_number.proofs.Past.{if_kept}
use Rattle.tp4_number.proofs.Sound.{Sound, reads}
use Rattle.law_recovery_pair.specs.Views.{View, view_of, known, IsNoOlder, Further, Later, Wider}
use Rattle.law_recovery_pair.proofs.Older.{older_both}

abbrev pub knows : Sender → View
knows s = record { number = s.base; credit = s.credit; subsequence = s.subsequence }

-- an AK was taken
pub record IsTaken (s new : Sender) (a : Answer) : Type 0 where
  pub newer : IsNoOlder (knows s) (view_of a)
  pub view : knows new ≡ view_of a
  pub next : new.next ≡ max a.number (min s.next (a.number + a.credit))
  pub blocks : new.blocks ≡ s.blocks

-- or it was not, for it is no newer than what is known
pub record IsLeft (s new : Sender) (a : Answer) : Type 0 where
  pub older : IsNoOlder (view_of a) (knows s)
  pub same : new ≡ s

newer_is : (s : Sender) (a : Answer) → is_newer s a.number a.credit a.subsequence ≡ true → IsNoOlder (knows s) (view_of a)
newer_is s a e = elim (cases_lt s.base a.number) [
  | inl less ↦ Further less
  | inr more ↦ elim (cases_lt s.subsequence a.subsequence) [
    | inl less ↦ Later (grind (arith, nat_tests)) less
    | inr rest ↦ Wider (grind (arith, nat_tests)) (grind (arith, nat_tests)) (grind (arith, nat_tests))
  ]
]

older_is : (s : Sender) (a : Answer) → is_newer s a.number a.credit a.subsequence ≡ false → IsNoOlder (view_of a) (knows s)
older_is s a e = elim (cases_lt a.number s.base) [
  | inl less ↦ Further less
  | inr more ↦ elim (cases_lt a.subsequence s.subsequence) [
    | inl less ↦ Later (grind (arith, nat_tests)) less
    | inr rest ↦ Wider (grind (arith, nat_tests)) (grind (arith, nat_tests)) (grind (arith, nat_tests))
  ]
]

module _ (rules : Rules) (fit : IsFit rules) (w : Traffic) (s : Sound rules w) where
  pub tells : (a : Answer) → May rules w (Ak_comes a) → IsTaken w.sender (after rules w (Ak_comes a)).sender a ⊎ IsLeft w.sender (after rules w (Ak_comes a)).sender a
  tells a may =
      let n = near rules.block w.sender.base (wire rules.block a.number) in
      let P = λ (to : Sender). IsTaken w.sender to a ⊎ IsLeft w.sender to a in
      elim (cases_lt a.number w.sender.base) [
        | inl old ↦ if_kept P (nat_lt w.sender.blocks.high n) _ _
            (λ _. inr (record { older = Further old; same = refl }))
            (λ f. absurd (omega (arith, ltb-false _ _ f, (reads rules w fit s).old_ak a may.0 may.1 old)))
        | inr new ↦
            (let is : n ≡ a.number = (reads rules w fit s).new_ak a may.0 may.1 new in
            subst (λ (m : ℕ). P (told w.sender m a.credit a.subsequence)) (sym is) (
            if_kept P (nat_lt w.sender.blocks.high a.number) _ _
            (λ t. absurd (omega (arith, ltb-true _ _ t, (s.said a may.0).low, s.order.expected_low)))
            (λ _. if_kept P (is_newer w.sender a.number a.credit a.subsequence) _ _
            (λ t. inl (record { newer = newer_is w.sender a t; view = refl; next = refl; blocks = refl }))
            (λ f. inr (record { older = older_is w.sender a f; same = refl })))))
      ]

  -- a sender takes each newer one
  pub takes : (a : Answer) → May rules w (Ak_comes a) → IsNoOlder (known w) (view_of a) → known (after rules w (Ak_comes a)) ≡ view_of a
  takes a may newer = elim (tells a may) [
    | inl taken ↦ taken.view
    | inr left ↦ ap knows left.same ∙ older_both (known w) (view_of a) newer left.older
  ]
