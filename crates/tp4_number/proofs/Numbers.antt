-- A number is found again from its wire number within one turn of the wire.
use Rattle.std.proofs.Common.{◌≡◌, ℕ, ◌+◌, ◌-◌, ◌*◌, ◌/◌, ◌%◌, ◌<◌, ◌≤◌, sym, ◌∙◌, ap, arith, inl, inr}
use Rattle.std.proofs.lemmas.Bool.{cases_lt}
use Rattle.std.proofs.Math.Nat.{add-mul-mod_self_left, mod-eq_of_lt, add-mod_right, mod-add-mod, add-mod-mod}
use Rattle.tp4_number.specs.Number.{wire, ahead, near, IsNear}

-- how far n lies above e, from what is left of both
distance : (turn e n : ℕ) → 0 < turn → e ≤ n → n < e + turn → (n % turn + (turn - e % turn)) % turn ≡ n - e
distance turn e n some low high =
    let sums : (n % turn + (turn - e % turn)) + turn * (n / turn) ≡ (n - e) + turn * (e / turn + 1) = omega arith in
    let short : n - e < turn = omega arith in
    sym (add-mul-mod_self_left (n % turn + (turn - e % turn)) turn (n / turn)) ∙ ap (λ (x : ℕ). x % turn) sums ∙ add-mul-mod_self_left (n - e) turn (e / turn + 1) ∙ mod-eq_of_lt short

pub near_is : (block e n : ℕ) → 0 < block → e ≤ n → n < e + 4 * block → near block e (wire block n) ≡ n
unfolding ahead wire
near_is block e n some low high = omega (arith, distance (4 * block) e n (omega arith) low high)

pub wire_turns : (block n : ℕ) → wire block (n + 4 * block) ≡ wire block n
unfolding wire
wire_turns block n = add-mod_right n (4 * block)

-- an old number is read one turn higher
pub near_old : (block e n : ℕ) → 0 < block → n < e → e ≤ n + 4 * block → near block e (wire block n) ≡ n + 4 * block
near_old block e n some low high = ap (near block e) (sym (wire_turns block n)) ∙ near_is block e (n + 4 * block) some high (omega arith)

-- what code computes for `ahead`
pub ahead_within : (block from w : ℕ) → from ≤ w → w < 4 * block → ahead block from w ≡ w - from
unfolding ahead
ahead_within block from w low high =
    let e : w + (4 * block - from) ≡ (w - from) + 4 * block = omega arith in
    let short : w - from < 4 * block = omega arith in
    ap (λ (x : ℕ). x % (4 * block)) e ∙ add-mod_right (w - from) (4 * block) ∙ mod-eq_of_lt short

pub ahead_turned : (block from w : ℕ) → w < from → from < 4 * block → ahead block from w ≡ w + (4 * block - from)
unfolding ahead
ahead_turned block from w low high = let short : w + (4 * block - from) < 4 * block = omega arith in mod-eq_of_lt short

-- the wire number of what lies k further on
pub wire_on : (block n k : ℕ) → wire block (n + k) ≡ (wire block n + k) % (4 * block)
unfolding wire
wire_on block n k = sym (mod-add-mod n (4 * block) k)

near_stands : (block e w : ℕ) → 0 < block → w < 4 * block → wire block (near block e w) ≡ w
unfolding wire ahead
near_stands block e w some low =
    let turn = 4 * block in
    let sums : e + (w + (turn - e % turn)) ≡ w + turn * (e / turn + 1) = omega arith in
    add-mod-mod e (w + (turn - e % turn)) turn ∙ ap (λ (x : ℕ). x % turn) sums ∙ add-mul-mod_self_left w turn (e / turn + 1) ∙ mod-eq_of_lt low

near_low : (block e w : ℕ) → 0 < block → near block e w < e + 4 * block
unfolding ahead
near_low block e w some = omega arith

pub near_first : (block e w : ℕ) → 0 < block → w < 4 * block → IsNear block e w (near block e w)
near_first block e w some low = record {
  low = omega arith;
  stands = near_stands block e w some low;
  least = λ y up is. elim (cases_lt y (e + 4 * block)) [
    | inl within ↦ omega (arith, ap (near block e) is, near_is block e y some up within)
    | inr far ↦ omega (arith, near_low block e w some)
  ];
}
