-- An octet is known by its bits: tried for each octet.
use Rattle.std.proofs.Common.{◌≡◌, ◌==◌, ◌&&◌, ◌||◌, not, ℕ, zero, suc, ◌<◌, Bool, true, false, refl, subst, arith, inl, inr}
use Rattle.std.proofs.lemmas.Bool.{cases_lt, eqb-true}
use Rattle.clnp_header.specs.Flags.{flags_octet, is_dt, is_er, is_segmented, has_more, wants_report}

-- a test holds of each number below
abbrev all_below : ℕ → (ℕ → Bool) → Bool
all_below zero test = true
all_below (suc n) test = test n && all_below n test

pub and_true : (a b : Bool) → (a && b) ≡ true → (a ≡ true) × (b ≡ true)
and_true true b e = (refl, e)
and_true false b e = absurd cc

all_below-at : (n : ℕ) (test : ℕ → Bool) (k : ℕ) → all_below n test ≡ true → k < n → test k ≡ true
all_below-at zero test k e lt = absurd (omega arith)
all_below-at (suc n) test k e lt =
    let both = and_true (test n) (all_below n test) e in
    elim (cases_lt k n) [
      | inl below ↦ all_below-at n test k both.1 below
      | inr above ↦ let same : n ≡ k = omega arith in subst (λ m. test m ≡ true) same both.0
    ]

-- the octet that has the same flags, and a type
abbrev same_flags : ℕ → ℕ → ℕ
same_flags octet type = flags_octet (is_segmented octet) (has_more octet) (wants_report octet) type

abbrev dt_test : ℕ → Bool
dt_test octet = not (is_dt octet) || (octet == same_flags octet 0x1c)

abbrev er_test : ℕ → Bool
er_test octet = not (is_er octet) || (octet == same_flags octet 0x01)

holds_of : (a b : Bool) → (not a || b) ≡ true → a ≡ true → b ≡ true
holds_of true b e h = e
holds_of false b e h = absurd cc

pub flags_of_dt : (octet : ℕ) → octet < 256 → is_dt octet ≡ true → octet ≡ flags_octet (is_segmented octet) (has_more octet) (wants_report octet) 0x1c
flags_of_dt octet fits dt = eqb-true _ _ (holds_of (is_dt octet) _ (all_below-at 256 dt_test octet refl fits) dt)

pub flags_of_er : (octet : ℕ) → octet < 256 → is_er octet ≡ true → octet ≡ flags_octet (is_segmented octet) (has_more octet) (wants_report octet) 0x01
flags_of_er octet fits er = eqb-true _ _ (holds_of (is_er octet) _ (all_below-at 256 er_test octet refl fits) er)
