-- The two sums over lists. The running sum of the code is the place sum of the reversed list:
-- its weights count from the end. Both place sums together are the sum times the length and one.
use Rattle.std.proofs.Common.{ℕ, ◌+◌, ◌*◌, ◌≡◌, ◌<◌, List, [], ◌∷◌, ◌++◌, sum, take, reverse, length, get_or, refl, arith}
use Rattle.std.proofs.lemmas.List.{reverse-append, length-reverse, take_more}
use Rattle.std.proofs.lemmas.List.Sums.{sum_by-cons, sum_by-append, sum_by_more}
use Rattle.osi_base.specs.Fletcher.{place_sum}

pub sum-cons : (x : ℕ) (xs : List ℕ) → sum (x ∷ xs) ≡ x + sum xs
sum-cons x xs = sum_by-cons (λ n. n) x xs

pub sum-append : (xs ys : List ℕ) → sum (xs ++ ys) ≡ sum xs + sum ys
sum-append xs ys = sum_by-append (λ n. n) xs ys

pub place_sum-shift : (first more : ℕ) (xs : List ℕ) → place_sum (first + more) xs ≡ place_sum first xs + more * sum xs
place_sum-shift first more [] = omega arith
place_sum-shift first more (x ∷ xs) =
    let e : first + more + 1 ≡ first + 1 + more = omega arith in
    rw (sum-cons x xs, e) (omega (arith, place_sum-shift (first + 1) more xs))

pub place_sum-append :
    (first : ℕ) (xs ys : List ℕ) → place_sum first (xs ++ ys) ≡ place_sum first xs + place_sum (first + length xs) ys
place_sum-append first [] ys = let e : first + 0 ≡ first = omega arith in rw e (omega arith)
place_sum-append first (x ∷ xs) ys =
    let e : first + length (x ∷ xs) ≡ first + 1 + length xs = omega arith in
    rw e (omega (arith, place_sum-append (first + 1) xs ys))

pub sum-reverse : (xs : List ℕ) → sum (reverse xs) ≡ sum xs
sum-reverse [] = refl
sum-reverse (x ∷ xs) =
    rw (reverse-append (x ∷ []) xs, sum-append (reverse xs) (x ∷ []), sum-cons x xs) (omega (arith, sum-reverse xs))

-- what the code adds for one more octet
pub running_sum-push :
    (xs : List ℕ) (y : ℕ) → place_sum 1 (reverse (xs ++ y ∷ [])) ≡ place_sum 1 (reverse xs) + sum xs + y
running_sum-push xs y =
    rw (reverse-append xs (y ∷ [])) (omega (arith, place_sum-shift 1 1 (reverse xs), sum-reverse xs))

pub running_sum-append :
    (xs ys : List ℕ)
    → place_sum 1 (reverse (xs ++ ys)) ≡ place_sum 1 (reverse xs) + length ys * sum xs + place_sum 1 (reverse ys)
running_sum-append xs ys =
    rw (reverse-append xs ys, place_sum-append 1 (reverse ys) (reverse xs), length-reverse ys, place_sum-shift 1 (length ys) (reverse xs), sum-reverse xs)
    (omega arith)

-- each octet has its place from the end and its place from the front, one more than the length together
pub both_place_sums :
    (xs : List ℕ) → place_sum 1 (reverse xs) + place_sum 1 xs ≡ (length xs + 1) * sum xs
both_place_sums [] = refl
both_place_sums (x ∷ xs) =
    rw (reverse-append (x ∷ []) xs, place_sum-append 1 (reverse xs) (x ∷ []), length-reverse xs, place_sum-shift 1 1 xs, sum-cons x xs)
    (omega (arith, both_place_sums xs))

pub sum_more :
    (xs : List ℕ) (i : ℕ) → i < length xs → sum (take (i + 1) xs) ≡ sum (take i xs) + get_or xs i 0
sum_more xs i below = sum_by_more (λ n. n) xs i 0 below

pub running_sum_more :
    (xs : List ℕ) (i : ℕ)
    → i < length xs
    → place_sum 1 (reverse (take (i + 1) xs)) ≡ place_sum 1 (reverse (take i xs)) + sum (take i xs) + get_or xs i 0
running_sum_more xs i below = rw (take_more xs i 0 below) (running_sum-push (take i xs) (get_or xs i 0))
