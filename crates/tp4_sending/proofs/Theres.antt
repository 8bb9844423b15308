-- What may be sent again is there, also after one more sending of a number.
use Rattle.std.proofs.Common.{◌≡◌, ℕ, ◌+◌, ◌<◌, ◌≤◌, ◌-◌, Bool, true, false, nat_lt, if◌then◌else◌, List, [], ◌∷◌, ◌++◌, length, length-append, drop, ap, arith}
use Rattle.tp4_number.specs.declared.blocks.Blocks.{Blocks}
use Rattle.tp4_number.specs.Sender.{marked}
use Rattle.circular_buffer.specs.Buffer.{keep_last}
use Rattle.tp4_sending.specs.declared.tries.Tries.{Tries}

by_test : {A : Type 0} (P : A → Type 0) (b : Bool) (x y : A) → P x → P y → P (if b then x else y)
by_test P true x y t f = t
by_test P false x y t f = f

pub marked_there : (block : ℕ) (b : Blocks) (n now end : ℕ) → b.high ≤ end → n < end → (marked block b n now).high ≤ end
marked_there block b n now end low there =
    by_test (λ (to : Blocks). to.high ≤ end) (nat_lt n b.first) _ _ (omega (arith, low, there))
    (by_test (λ (to : Blocks). to.high ≤ end) (nat_lt n (b.first + block)) _ _ (omega (arith, low, there)) (omega (arith, low, there)))

-- where there is room for one more none goes
pub all_kept : (capacity : ℕ) (window : List Tries) (tries : Tries) → length window < capacity → keep_last capacity (window ++ tries ∷ []) ≡ window ++ tries ∷ []
all_kept capacity window tries room =
    let none : length (window ++ tries ∷ []) - capacity ≡ 0 = omega (arith, room, length-append window (tries ∷ [])) in
    ap (λ (k : ℕ). drop k (window ++ tries ∷ [])) none
