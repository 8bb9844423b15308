-- The number rule asks of a clock what `opens_at` says: by the test on the blocks, then by the clock.
use Rattle.std.proofs.Common.{◌≡◌, ◌↔◌, ℕ, ◌+◌, ◌||◌, Bool, true, false, nat_lt, nat_le, if◌then◌else◌, Some, None, refl, arith}
use Rattle.std.proofs.lemmas.Bool.Decides.{nat_tests}
use Rattle.tp4_number.specs.declared.blocks.Blocks.{Blocks}
use Rattle.tp4_number.specs.Sender.{may_send, opens_at, IsPast}

by_tests : (a b : Bool) (tick now : ℕ) → ((a || b || nat_lt tick now) ≡ true) ↔ IsPast (if a || b then None else Some (tick + 1)) now
by_tests true b tick now = (λ _. tt, λ _. refl)
by_tests false true tick now = (λ _. tt, λ _. refl)
by_tests false false tick now = (λ h. grind (arith, nat_tests), λ h. grind (arith, nat_tests))

pub opens : (block limit : ℕ) (b : Blocks) (n now : ℕ) → (may_send block limit b n now ≡ true) ↔ IsPast (opens_at block limit b n) now
opens block limit b n now = by_tests (nat_lt n (b.first + block)) (nat_le b.first block) (b.third + limit) now
