-- An end that is made is the latest at its own reference alone.
use Rattle.std.proofs.Common.{◌≡◌, inl, inr, ℕ, ◌+◌, ◌==◌, Bool, true, false, ◌&&◌, if◌then◌else◌, List, [], ◌∷◌, ◌++◌, refl, sym, ◌∙◌, ap}
use Rattle.std.proofs.lemmas.Bool.{cases_eq, ne_eqb}
use Rattle.tp4_world.specs.World.{is_at, latest, latest_from}
use Rattle.tp4_world.specs.declared.place.EndAt.{EndAt}

found_elsewhere : (next found : ℕ) (ends : List EndAt) (end : EndAt) (system reference : ℕ) → is_at system reference end ≡ false
    → latest_from next found (ends ++ end ∷ []) system reference ≡ latest_from next found ends system reference
found_elsewhere next found [] end system reference is = ap (λ (b : Bool). if b then next else found) is
found_elsewhere next found (one ∷ ends) end system reference is = found_elsewhere (next + 1) (if is_at system reference one then next else found) ends end system reference is

-- elsewhere the latest is as before
pub latest_elsewhere : (ends : List EndAt) (end : EndAt) (system reference : ℕ) → (system ≡ end.system → reference ≡ end.reference → ⊥) → latest (ends ++ end ∷ []) system reference ≡ latest ends system reference
latest_elsewhere ends end system reference apart = found_elsewhere 1 0 ends end system reference (elim (cases_eq end.system system) [
  | inl same ↦ ap (λ (b : Bool). (end.system == system) && b) (ne_eqb end.reference reference (λ other. apart (sym same) (sym other))) ∙ none (end.system == system)
  | inr other ↦ ap (λ (b : Bool). b && (end.reference == reference)) (ne_eqb end.system system other)
])
  where
    none : (b : Bool) → (b && false) ≡ false
    none true = refl
    none false = refl
