-- One entity changes at one of its references, and an end more is made.
use Rattle.std.proofs.Common.{◌≡◌, ◌⊎◌, inl, inr, ℕ, zero, suc, ◌+◌, Bool, true, false, List, [], ◌∷◌, ◌++◌, length, slice_get, Some, refl, sym, ap, ◌∙◌, arith}
use Rattle.std.proofs.lemmas.Bool.{cases_eq, ne_eqb}
use Rattle.std.specs.Prelude.{if◌then◌else◌}
pub use Rattle.tp4_entity.proofs.Standings.{at_other, at_same}
use Rattle.tp4_world.specs.World.{latest, latest_from, is_at}
use Rattle.tp4_world.specs.declared.place.EndAt.{EndAt}

-- ---- the ends that were made, and the latest of a place

pub made_last : (ends : List EndAt) (end : EndAt) → length (ends ++ end ∷ []) ≡ length ends + 1
made_last [] end = refl
made_last (one ∷ ends) end = ap suc (made_last ends end) ∙ omega arith

pub get_last : (ends : List EndAt) (end one : EndAt) (k : ℕ) → slice_get (ends ++ end ∷ []) k ≡ Some one → (slice_get ends k ≡ Some one) ⊎ ((k ≡ length ends) × (end ≡ one))
get_last [] end one zero h = inr (refl, cc h)
get_last [] end one (suc k) h = absurd cc
get_last (first ∷ ends) end one zero h = inl h
get_last (first ∷ ends) end one (suc k) h = elim (get_last ends end one k h) [ inl old ↦ inl old | inr new ↦ inr (ap suc new.0 ∙ refl, new.1) ]

latest_from_last : (next seen : ℕ) (ends : List EndAt) (end : EndAt) (system reference : ℕ) → is_at system reference end ≡ true
    → latest_from next seen (ends ++ end ∷ []) system reference ≡ next + length ends
latest_from_last next seen [] end system reference is = ap (λ (b : Bool). if b then next else seen) is ∙ omega arith
latest_from_last next seen (one ∷ ends) end system reference is =
    latest_from_last (next + 1) (if is_at system reference one then next else seen) ends end system reference is ∙ omega arith

pub latest_last : (ends : List EndAt) (system reference : ℕ) → latest (ends ++ record { system = system; reference = reference } ∷ []) system reference ≡ length ends + 1
latest_last ends system reference = latest_from_last 1 0 ends (record { system = system; reference = reference }) system reference (grind arith) ∙ omega arith

latest_from_other : (next seen : ℕ) (ends : List EndAt) (end : EndAt) (system reference : ℕ) → is_at system reference end ≡ false → latest_from next seen (ends ++ end ∷ []) system reference ≡ latest_from next seen ends system reference
latest_from_other next seen [] end system reference apart = ap (λ (b : Bool). if b then next else seen) apart
latest_from_other next seen (one ∷ ends) end system reference apart = latest_from_other (next + 1) (if is_at system reference one then next else seen) ends end system reference apart

not_there : (system reference at r : ℕ) → (at ≡ system → r ≡ reference → ⊥) → is_at at r (record { system = system; reference = reference }) ≡ false
not_there system reference at r apart = elim (cases_eq system at) [
  | inl same ↦ (elim (cases_eq reference r) [
    | inl is ↦ absurd (apart (sym same) (sym is))
    | inr other ↦ grind (arith, ne_eqb)
  ])
  | inr other ↦ grind (arith, ne_eqb)
]

-- another place has the latest that it had
pub latest_other : (ends : List EndAt) (system reference at r : ℕ) → (at ≡ system → r ≡ reference → ⊥) → latest (ends ++ record { system = system; reference = reference } ∷ []) at r ≡ latest ends at r
latest_other ends system reference at r apart = latest_from_other 1 0 ends (record { system = system; reference = reference }) at r (not_there system reference at r apart)
