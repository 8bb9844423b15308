-- Octets behind some room: what is written into a buffer, and what of it stands behind the room then.
use Rattle.std.proofs.Common.{◌≡◌, ◌⊎◌, ℕ, zero, suc, ◌+◌, ◌-◌, ◌<◌, ◌≤◌, min, List, [], ◌∷◌, ◌++◌, drop, length, take, inl, inr, sym, ap, ◌∙◌, arith}
use Rattle.std.proofs.lemmas.Bool.{cases_lt}
use Rattle.std.proofs.lemmas.List.{drop-append-le, drop-take, length-drop, length-take, take_all}

drop_drop : (a b : ℕ) (xs : List ℕ) → drop b (drop a xs) ≡ drop (a + b) xs
drop_drop zero b xs = ap (λ (n : ℕ). drop n xs) (omega arith)
drop_drop (suc a) zero [] = let e : suc a ≡ suc a + 0 = omega arith in ap (λ (n : ℕ). drop {A = ℕ} n []) e
drop_drop (suc a) (suc b) [] = let e : suc (a + suc b) ≡ suc a + suc b = omega arith in ap (λ (n : ℕ). drop {A = ℕ} n []) e
drop_drop (suc a) b (x ∷ xs) = let e : suc (a + b) ≡ suc a + b = omega arith in drop_drop a b xs ∙ ap (λ (n : ℕ). drop n (x ∷ xs)) e

-- the room is part of a front that is kept
behind_room : (room kept : ℕ) (xs ys : List ℕ) → room ≤ length xs → drop room (take (room + kept) xs ++ ys) ≡ take kept (drop room xs) ++ ys
behind_room room kept xs ys low =
    drop-append-le room (take (room + kept) xs) ys (omega (arith, length-take (room + kept) xs, low)) ∙ ap (λ (zs : List ℕ). zs ++ ys) (drop-take room kept xs)

-- as many as there are at most
take_most : (n : ℕ) (xs : List ℕ) → take (min n (length xs)) xs ≡ take n xs
take_most n xs = by (cases_lt (length xs) n)
  where
    by : (length xs < n) ⊎ (n ≤ length xs) → take (min n (length xs)) xs ≡ take n xs
    by (inl more) = take_all (min n (length xs)) xs (omega (arith, more)) ∙ sym (take_all n xs (omega (arith, more)))
    by (inr low) = let e : min n (length xs) ≡ n = omega (arith, low) in ap (λ (k : ℕ). take k xs) e

-- what is written over octets behind the room
pub over : (room from : ℕ) (xs new octets : List ℕ) → room ≤ length xs → new ≡ take (room + from) xs ++ (octets ++ drop (room + from + length octets) xs)
    → drop room new ≡ take from (drop room xs) ++ (octets ++ drop (from + length octets) (drop room xs))
over room from xs new octets low is =
    let e : room + from + length octets ≡ room + (from + length octets) = omega arith in
    ap (drop room) is
    ∙ behind_room room from xs (octets ++ drop (room + from + length octets) xs) low
    ∙ ap (λ (zs : List ℕ). take from (drop room xs) ++ (octets ++ zs)) (ap (λ (n : ℕ). drop n xs) e ∙ sym (drop_drop room (from + length octets) xs))

-- what follows a front of the octets
pub behind : (room kept front : ℕ) (xs new ys : List ℕ) → room ≤ length xs → front ≡ room + min kept (length xs - room) → new ≡ take front xs ++ ys
    → drop room new ≡ take kept (drop room xs) ++ ys
behind room kept front xs new ys low front_is is =
    ap (drop room) is ∙ ap (λ (n : ℕ). drop room (take n xs ++ ys)) front_is
    ∙ behind_room room (min kept (length xs - room)) xs ys low
    ∙ ap (λ (n : ℕ). take (min kept n) (drop room xs) ++ ys) (sym (length-drop room xs))
    ∙ ap (λ (zs : List ℕ). zs ++ ys) (take_most kept (drop room xs))
