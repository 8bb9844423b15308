-- Units of two marks in one list: the normal ones, the expedited ones, and how many expedited ones stand before a normal one, as the list grows
-- at its end.
use Rattle.std.proofs.Common.{◌≡◌, ℕ, zero, suc, ◌+◌, ◌-◌, ◌<◌, ◌≤◌, List, [], ◌∷◌, ◌++◌, length, get_or, refl, ◌∙◌, ap, arith}
use Rattle.std.proofs.Math.ListN.{get_or-append}
use Rattle.std.proofs.Math.Seq.{get_or-append_right}
use Rattle.script_journal.specs.Lawful.{Marked, Normal, Expedited, normals, expediteds, befores}
use Rattle.law_tp4_history.specs.Line.{all_normal}

pub normals-append : (xs ys : List Marked) → normals (xs ++ ys) ≡ normals xs ++ normals ys
normals-append [] ys = refl
normals-append (Normal o ∷ xs) ys = ap (λ (us : List (List ℕ)). o ∷ us) (normals-append xs ys)
normals-append (Expedited o ∷ xs) ys = normals-append xs ys

pub expediteds-append : (xs ys : List Marked) → expediteds (xs ++ ys) ≡ expediteds xs ++ expediteds ys
expediteds-append [] ys = refl
expediteds-append (Normal o ∷ xs) ys = expediteds-append xs ys
expediteds-append (Expedited o ∷ xs) ys = ap (λ (us : List (List ℕ)). o ∷ us) (expediteds-append xs ys)

pub normals_all : (units : List (List ℕ)) → normals (all_normal units) ≡ units
normals_all [] = refl
normals_all (o ∷ units) = ap (λ (us : List (List ℕ)). o ∷ us) (normals_all units)

pub expediteds_all : (units : List (List ℕ)) → expediteds (all_normal units) ≡ []
expediteds_all [] = refl
expediteds_all (o ∷ units) = expediteds_all units

pub length-befores : (m : ℕ) (xs : List Marked) → length (befores m xs) ≡ length (normals xs)
length-befores m [] = refl
length-befores m (Normal o ∷ xs) = ap suc (length-befores m xs)
length-befores m (Expedited o ∷ xs) = length-befores (m + 1) xs

befores_on : (m n : ℕ) (xs : List Marked) → m ≡ n → befores m xs ≡ befores n xs
befores_on m n xs e = ap (λ (k : ℕ). befores k xs) e

pub befores-append : (m : ℕ) (xs ys : List Marked) → befores m (xs ++ ys) ≡ befores m xs ++ befores (m + length (expediteds xs)) ys
befores-append m [] ys = befores_on m (m + 0) ys (omega arith)
befores-append m (Normal o ∷ xs) ys = ap (λ (ns : List ℕ). m ∷ ns) (befores-append m xs ys)
befores-append m (Expedited o ∷ xs) ys =
    let e : m + 1 + length (expediteds xs) ≡ m + suc (length (expediteds xs)) = omega arith in
    befores-append (m + 1) xs ys ∙ ap (λ (ns : List ℕ). befores (m + 1) xs ++ ns) (befores_on (m + 1 + length (expediteds xs)) (m + suc (length (expediteds xs))) ys e)

-- no more than there are
pub befores_low : (m : ℕ) (xs : List Marked) (k : ℕ) → get_or (befores m xs) k 0 ≤ m + length (expediteds xs)
befores_low m [] k = omega arith
befores_low m (Normal o ∷ xs) zero = omega arith
befores_low m (Normal o ∷ xs) (suc k) = befores_low m xs k
befores_low m (Expedited o ∷ xs) k = omega (arith, befores_low (m + 1) xs k)

befores_all : (m : ℕ) (units : List (List ℕ)) (k : ℕ) → k < length units → get_or (befores m (all_normal units)) k 0 ≡ m
befores_all m [] k h = absurd (omega (arith, h))
befores_all m (o ∷ units) zero h = refl
befores_all m (o ∷ units) (suc k) h = befores_all m units k (omega (arith, h))

-- a unit keeps its place when others follow
pub befores_kept : (xs ys : List Marked) (k : ℕ) → k < length (normals xs) → get_or (befores 0 (xs ++ ys)) k 0 ≡ get_or (befores 0 xs) k 0
befores_kept xs ys k h = ap (λ (ns : List ℕ). get_or ns k 0) (befores-append 0 xs ys) ∙ get_or-append (befores 0 xs) _ 0 k (omega (arith, h, length-befores 0 xs))

-- normal units that follow have all expedited ones before them
pub befores_new : (xs : List Marked) (units : List (List ℕ)) (k : ℕ) → length (normals xs) ≤ k → k < length (normals xs) + length units
    → get_or (befores 0 (xs ++ all_normal units)) k 0 ≡ length (expediteds xs)
befores_new xs units k low high =
    let count = length-befores 0 xs in
    ap (λ (ns : List ℕ). get_or ns k 0) (befores-append 0 xs (all_normal units))
    ∙ get_or-append_right (befores 0 xs) (befores (0 + length (expediteds xs)) (all_normal units)) k 0 (omega (arith, count, low))
    ∙ befores_all (0 + length (expediteds xs)) units (k - length (befores 0 xs)) (omega (arith, count, low, high))
    ∙ omega arith
