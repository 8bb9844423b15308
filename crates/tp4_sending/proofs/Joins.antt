-- The pieces of units in order join to these units: one unit's pieces end it, and those of the units behind it follow.
use Rattle.std.proofs.Common.{◌≡◌, ℕ, zero, suc, ◌+◌, ◌-◌, ◌*◌, ◌/◌, ◌%◌, ◌<◌, ◌≤◌, Bool, true, false, nat_lt, nat_le, min, if◌then◌else◌, List, [], ◌∷◌, ◌++◌, length, take, drop, All, Option, Some, inl, inr, refl, sym, ◌∙◌, ap, arith, length-append}
use Rattle.std.specs.List.{sum_by}
use Rattle.std.proofs.Math.Nat.{mul-le-mul_left}
use Rattle.std.proofs.Math.Seq.{take-add}
use Rattle.std.proofs.lemmas.Bool.{lt-ltb, le-ltb, leb-true, leb-false, cases_lt}
use Rattle.std.proofs.lemmas.List.{take_all, length-take}
use Rattle.std.proofs.lemmas.List.Elements.{All-head, All-tail}
use Rattle.std.proofs.lemmas.List.Sums.{sum_by-cons}
use Rattle.tp4_number.specs.declared.piece.Piece.{Piece}
use Rattle.tp4_number.specs.Window.{Joined, joined, joined_by, begun_by}
use Rattle.tp4_sending.specs.Cutting.{cuts}
use Rattle.tp4_sending.specs.Pieces.{cut_at, cut_of, count_in}

-- pieces behind those of the first unit are those of the other units
past_first : (size : ℕ) (unit : List ℕ) (units : List (List ℕ)) (n k m : ℕ) → n ≡ count_in size unit + k → cuts size (unit ∷ units) n m ≡ cuts size units k m
past_first size unit units n k zero e = refl
past_first size unit units n k (suc m) e =
    let out : nat_lt n (count_in size unit) ≡ false = le-ltb _ _ (omega (arith, e)) in
    let at : n - count_in size unit ≡ k = omega (arith, e) in
    ap (λ (b : Bool). (if b then Some (cut_of size unit n) else cut_at size units (n - count_in size unit)) ∷ cuts size (unit ∷ units) (n + 1) m) out
    ∙ ap (λ (j : ℕ). cut_at size units j ∷ cuts size (unit ∷ units) (n + 1) m) at
    ∙ ap (λ (l : List (Option Piece)). cut_at size units k ∷ l) (past_first size unit units (n + 1) (k + 1) m (omega (arith, e)))

-- where the pieces of a unit lie in it
record Lies (size len k : ℕ) : Type 0 where
  begins : k * size < len
  ends : len ≤ k * size + size → k + 1 ≡ len / size + min 1 (len % size)
  goes : k * size + size < len → k + 1 < len / size + min 1 (len % size)

lies : (size len k : ℕ) → 0 < size → k < len / size + min 1 (len % size) → Lies size len k
lies size len k some within =
    let whole : size * (len / size) + len % size ≡ len = omega arith in
    let rest : len % size < size = omega arith in
    elim (cases_lt k (len / size)) [
      | inl before ↦
          let low : size * (k + 1) ≤ size * (len / size) = mul-le-mul_left size (omega (arith, before)) in
          record {
            begins = omega (arith, low, whole, some);
            ends = λ h. elim (cases_lt (k + 1) (len / size)) [
              | inl more ↦ let more2 : size * (k + 2) ≤ size * (len / size) = mul-le-mul_left size (omega (arith, more)) in absurd (omega (arith, more2, whole, h, some))
              | inr last ↦ let is : k + 1 ≡ len / size = omega (arith, last, before) in
                  let same : size * (k + 1) ≡ size * (len / size) = ap (λ (j : ℕ). size * j) is in
                  omega (arith, is, same, whole, h)
            ];
            goes = λ h. elim (cases_lt (k + 1) (len / size)) [
              | inl more ↦ omega (arith, more)
              | inr last ↦ let is : k + 1 ≡ len / size = omega (arith, last, before) in
                  let same : size * (k + 1) ≡ size * (len / size) = ap (λ (j : ℕ). size * j) is in
                  omega (arith, is, same, whole, h)
            ];
          }
      | inr at ↦
          let is : k ≡ len / size = omega (arith, at, within) in
          let same : size * k ≡ size * (len / size) = ap (λ (j : ℕ). size * j) is in
          record {
            begins = omega (arith, same, whole, within, at);
            ends = λ h. omega (arith, is, within);
            goes = λ h. absurd (omega (arith, h, same, whole, rest));
          }
    ]

-- so many more pieces, and a unit before the others
abbrev put_before : ℕ → List ℕ → Joined → Joined
put_before r unit j = record { count = j.count + r; units = unit ∷ j.units; begun = j.begun; is_large = j.is_large }

abbrev stopped : List ℕ → Joined
stopped begun = record { count = 0; units = []; begun = begun; is_large = true }

abbrev cut_with : ℕ → List ℕ → ℕ → Bool → Piece
cut_with size unit k last = record { last = last; octets = take size (drop (k * size) unit) }

-- the pieces of a unit from the k-th on, of which r are left, and m pieces behind it
one_unit : (size : ℕ) (unit : List ℕ) (units : List (List ℕ)) (fuel r k m : ℕ) → 0 < size → length unit ≤ 16384 → fuel ≡ r + m → k + r ≡ count_in size unit → 0 < r
    → joined (take (k * size) unit) (cuts size (unit ∷ units) k fuel) ≡ put_before r unit (joined [] (cuts size units 0 m))
one_unit size unit units zero r k m some low f c left = absurd (omega (arith, f, left))
one_unit size unit units (suc fuel) r k m some low f c left =
    let begun = take (k * size) unit in
    let places = cuts size (unit ∷ units) (k + 1) fuel in
    let octets : begun ++ take size (drop (k * size) unit) ≡ take (k * size + size) unit = sym (take-add (k * size) size unit) in
    let fits : nat_lt 16384 (length begun + length (take size (drop (k * size) unit))) ≡ false =
    le-ltb _ _ (omega (arith, length-append begun (take size (drop (k * size) unit)), ap length octets, length-take (k * size + size) unit, low)) in
    ap (λ (b : Bool). joined begun ((if b then Some (cut_of size unit k) else cut_at size units (k - count_in size unit)) ∷ places)) (lt-ltb _ _ (omega (arith, c, left)))
    ∙ ap (λ (b : Bool). if b then stopped begun else joined_by (cut_of size unit k) (begun ++ take size (drop (k * size) unit)) (joined (begun_by (cut_of size unit k) (begun ++ take size (drop (k * size) unit))) places)) fits
    ∙ ap (λ (o : List ℕ). joined_by (cut_of size unit k) o (joined (begun_by (cut_of size unit k) o) places)) octets
    ∙ by (nat_le (length unit) (k * size + size)) refl (lies size (length unit) k some (omega (arith, c, left))) (λ (more : 1 < r). one_unit size unit units fuel (r - 1) (k + 1) m some low (omega (arith, f, more)) (omega (arith, c, more)) (omega (arith, more)))
  where
    by : (last : Bool) → nat_le (length unit) (k * size + size) ≡ last → Lies size (length unit) k
        → (1 < r → joined (take ((k + 1) * size) unit) (cuts size (unit ∷ units) (k + 1) fuel) ≡ put_before (r - 1) unit (joined [] (cuts size units 0 m)))
        → joined_by (cut_with size unit k last) (take (k * size + size) unit) (joined (begun_by (cut_with size unit k last) (take (k * size + size) unit)) (cuts size (unit ∷ units) (k + 1) fuel))
        ≡ put_before r unit (joined [] (cuts size units 0 m))
    by true e l more =
        let end : k + 1 ≡ count_in size unit = l.ends (leb-true _ _ e) in
        let one : 1 ≡ r = omega (arith, end, c) in
        let rest_is : fuel ≡ m = omega (arith, f, one) in
        let all : take (k * size + size) unit ≡ unit = take_all _ unit (leb-true _ _ e) in
        let rest : joined [] (cuts size (unit ∷ units) (k + 1) fuel) ≡ joined [] (cuts size units 0 m) =
        ap (joined []) (past_first size unit units (k + 1) 0 fuel (omega (arith, end)) ∙ ap (cuts size units 0) rest_is) in
        λ i. record { count = (rest i).count + one i; units = all i ∷ (rest i).units; begun = (rest i).begun; is_large = (rest i).is_large }
    by false e l more =
        let below : k * size + size < length unit = leb-false _ _ e in
        let on : k + 1 < count_in size unit = l.goes below in
        let next : k * size + size ≡ (k + 1) * size = omega arith in
        let rest = ap (λ (n : ℕ). joined (take n unit) (cuts size (unit ∷ units) (k + 1) fuel)) next ∙ more (omega (arith, on, c)) in
        let j = joined [] (cuts size units 0 m) in
        let count : j.count + (r - 1) + 1 ≡ j.count + r = omega (arith, left) in
        (λ i. record { count = (rest i).count + 1; units = (rest i).units; begun = (rest i).begun; is_large = (rest i).is_large })
        ∙ (λ i. record { count = count i; units = unit ∷ j.units; begun = j.begun; is_large = j.is_large })

-- a unit has a piece where it has an octet
some_pieces : (size len : ℕ) → 0 < size → 0 < len → 0 < len / size + min 1 (len % size)
some_pieces size len some low =
    let whole : size * (len / size) + len % size ≡ len = omega arith in
    elim (cases_lt 0 (len / size)) [
      | inl more ↦ omega (arith, more)
      | inr none ↦
          let is : len / size ≡ 0 = omega (arith, none) in
          let same : size * (len / size) ≡ size * 0 = ap (λ (j : ℕ). size * j) is in
          omega (arith, whole, same, low)
    ]

pub all_units : (size : ℕ) (units : List (List ℕ)) → 0 < size → All (λ (u : List ℕ). (0 < length u) × (length u ≤ 16384)) units
    → joined [] (cuts size units 0 (sum_by (count_in size) units)) ≡ record { count = sum_by (count_in size) units; units = units; begun = []; is_large = false }
all_units size [] some h = refl
all_units size (unit ∷ units) some h =
    let low = All-head (λ (u : List ℕ). (0 < length u) × (length u ≤ 16384)) unit units h in
    let rest = all_units size units some (All-tail (λ (u : List ℕ). (0 < length u) × (length u ≤ 16384)) unit units h) in
    let m = sum_by (count_in size) units in
    let r = count_in size unit in
    let total : sum_by (count_in size) (unit ∷ units) ≡ r + m = sum_by-cons (count_in size) unit units in
    let none : 0 ≡ 0 * size = omega arith in
    let begin : [] ≡ take (0 * size) unit = ap (λ (n : ℕ). take n unit) none in
    let count : m + r ≡ sum_by (count_in size) (unit ∷ units) = omega (arith, total) in
    ap (λ (n : ℕ). joined [] (cuts size (unit ∷ units) 0 n)) total
    ∙ ap (λ (b : List ℕ). joined b (cuts size (unit ∷ units) 0 (r + m))) begin
    ∙ one_unit size unit units (r + m) r 0 m some low.1 refl (omega arith) (some_pieces size (length unit) some low.0)
    ∙ ap (put_before r unit) rest
    ∙ (λ i. record { count = count i; units = unit ∷ units; begun = []; is_large = false })
