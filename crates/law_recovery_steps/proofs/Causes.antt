-- Why an Opened end leaves by a tick: by what was so at t0, or it would not be due.
use Rattle.std.proofs.Common.{◌≡◌, ◌⊎◌, inl, inr, ◌<◌, ◌≤◌, ℕ, ◌+◌, ◌||◌, nat_le, Bool, true, false, if◌then◌else◌, List, [], ◌∷◌, Option, Some, None, refl, sym, ◌∙◌, ap, arith, Contains, true≢false}
use Rattle.std.specs.List.{AllByRecursion, list_any}
use Rattle.std.proofs.lemmas.Bool.{and_parts, cases_Bool, leb-true}
use Rattle.std.proofs.lemmas.List.Elements.{Contains-append_left, Contains-push}
use Rattle.tp4_flow.specs.declared.rules.Life.TheVariants.{Exhausted, Goes}
use Rattle.tp4_sending.specs.SendingHalf.{FlowSender, at, is_urgent_spent, is_window_spent, life_of}
use Rattle.tp4_sending.specs.Pieces.{is_spent}
use Rattle.tp4_sending.specs.declared.tries.Tries.{Tries}
use Rattle.law_recovery_pair.proofs.Keeping.{later_too}
use Rattle.law_recovery_ends.specs.Due.{AreYoung}
use Rattle.law_recovery_steps.specs.Quieting.{IsYoung}
use Rattle.law_recovery_steps.specs.Going.{IsTryOf}
use Rattle.law_recovery_steps.proofs.SendingAgain.{HaveTried, OutTries}

either : (a b : Bool) → (a || b) ≡ true → (a ≡ true) ⊎ (b ≡ true)
either true b e = inl refl
either false b e = inr e

-- what is tried was tried at t0 already, as it is, or since, or once
abbrev pub IsEarly : ℕ → FlowSender → Tries → Type 0
IsEarly t0 s tries = IsTryOf s tries ⊎ ((t0 < tries.last) ⊎ (tries.count ≤ 1))

-- what is given up at this tick
pub record GivesUp (t0 now : ℕ) (first s : FlowSender) : Type 0 where
  pub tries : Tries
  pub early : IsEarly t0 first tries
  pub spent : s.rules.sendings ≤ tries.count
  pub last : tries.last + s.rules.t1 ≡ now

module _ (t0 now : ℕ) (first s : FlowSender) where
  spent_parts : (tries : Tries) → is_spent s.rules.t1 s.rules.sendings (now + 1) tries ≡ true → IsEarly t0 first tries → now < tries.last + s.rules.t1 → GivesUp t0 (now + 1) first s
  spent_parts tries e early young =
      let parts : (nat_le (tries.last + s.rules.t1) (now + 1) ≡ true) × (nat_le s.rules.sendings tries.count ≡ true) = and_parts _ _ e in
      let late : tries.last + s.rules.t1 ≤ now + 1 = leb-true _ _ parts.0 in
      record { tries = tries; early = early; spent = leb-true _ _ parts.1; last = omega (arith, late, young) }

  window_spent : (window : List Tries) → list_any (is_spent s.rules.t1 s.rules.sendings (now + 1)) window ≡ true → AllByRecursion (IsEarly t0 first) window → AreYoung s.rules.t1 now window → GivesUp t0 (now + 1) first s
  window_spent [] e all young = absurd (true≢false (sym e))
  window_spent (tries ∷ window) e all young = elim (either (is_spent s.rules.t1 s.rules.sendings (now + 1) tries) (list_any (is_spent s.rules.t1 s.rules.sendings (now + 1)) window) e) [
    | inl here ↦ spent_parts tries here all.0 young.0
    | inr later ↦ window_spent window later all.1 young.1
  ]

  urgent_spent : (out : Option Tries) → is_urgent_spent (at (now + 1) s) out ≡ true → OutTries (IsEarly t0 first) out → IsYoung s.rules.t1 now out → GivesUp t0 (now + 1) first s
  urgent_spent None e early young = absurd (true≢false (sym e))
  urgent_spent (Some tries) e early young = spent_parts tries e early young

  goes_not : Goes ≡ Exhausted → ⊥
  goes_not e = cc e

  pub gives_up : life_of (at (now + 1) s) ≡ Exhausted → HaveTried (IsEarly t0 first) s → AreYoung s.rules.t1 now s.window → IsYoung s.rules.t1 now s.urgent.out → GivesUp t0 (now + 1) first s
  gives_up e tried young young_ed = elim (cases_Bool (is_window_spent (at (now + 1) s) || is_urgent_spent (at (now + 1) s) s.urgent.out)) [
    | inl spent ↦ elim (either (is_window_spent (at (now + 1) s)) (is_urgent_spent (at (now + 1) s) s.urgent.out) spent) [
      | inl window ↦ window_spent s.window window tried.window young
      | inr ed ↦ urgent_spent s.urgent.out ed tried.out young_ed
    ]
    | inr none ↦ absurd (goes_not (sym (ap (λ (b : Bool). if b then Exhausted else Goes) none) ∙ e))
  ]

  -- and none is, where nothing is tried
  pub never_spent : (window : List Tries) (out : Option Tries) → window ≡ [] → out ≡ None
      → (if list_any (is_spent s.rules.t1 s.rules.sendings (now + 1)) window || is_urgent_spent (at (now + 1) s) out then Exhausted else Goes) ≡ Goes
  never_spent [] None e f = refl
  never_spent (tries ∷ window) out e f = absurd (cc e)
  never_spent [] (Some tries) e f = absurd (cc f)

-- at the beginning all is of then
module _ (t0 : ℕ) (s : FlowSender) where
  all_of : (window : List Tries) → ((tries : Tries) → Contains window tries → IsTryOf s tries) → AllByRecursion (IsEarly t0 s) window
  all_of [] f = tt
  all_of (tries ∷ window) f = (inl (f tries (Contains-append_left (tries ∷ []) window tries (Contains-push [] tries))), all_of window (λ x c. f x (later_too tries x window c)))

  out_of : (out : Option Tries) → s.urgent.out ≡ out → OutTries (IsEarly t0 s) out
  out_of None e = tt
  out_of (Some tries) e = inl (inr e)

  pub begins_early : HaveTried (IsEarly t0 s) s
  begins_early = record { window = all_of s.window (λ tries c. inl c); out = out_of s.urgent.out refl }
