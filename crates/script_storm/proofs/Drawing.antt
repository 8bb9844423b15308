-- A word is drawn from the front of those that are left.
use Rattle.std.proofs.Common.{◌≡◌, ℕ, zero, suc, ◌-◌, ◌<◌, [], ◌∷◌, refl, arith}
use Rattle.rand_core.specs.Steps.{first_words}

pub none_left : {S : Type 0} (step : S → ℕ × S) (state : S) (left : ℕ) → left ≡ 0 → first_words step left state ≡ []
unfolding first_words
none_left step state zero is = refl
none_left step state (suc left) is = absurd (omega arith)

pub one_drawn : {S : Type 0} (step : S → ℕ × S) (state : S) (left : ℕ) → 0 < left
    → first_words step left state ≡ (step state).0 ∷ first_words step (left - 1) (step state).1
unfolding first_words
one_drawn step state zero some = absurd (omega arith)
one_drawn step state (suc left) some = let less : suc left - 1 ≡ left = omega arith in rw less refl
