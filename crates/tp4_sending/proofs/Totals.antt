-- What is counted of the units stays true as a unit joins them, and as the first ones go: the number behind the last piece stays.
use Rattle.std.proofs.Common.{◌≡◌, ◌<◌, ◌≤◌, ◌*◌, ◌/◌, ◌%◌, ℕ, ◌+◌, nat_le, nat_lt, Bool, true, false, if◌then◌else◌, List, [], ◌∷◌, ◌++◌, length, refl, sym, ◌∙◌, ap, arith}
use Rattle.std.specs.Prelude.{min}
use Rattle.std.specs.List.{sum_by}
use Rattle.std.proofs.Math.Nat.{mul-le-mul_left}
use Rattle.std.proofs.lemmas.Bool.{ltb-false, ltb-true}
use Rattle.std.proofs.lemmas.Grind.{div_ceil_times}
use Rattle.std.proofs.lemmas.List.Sums.{sum_by-append, sum_by-cons}
use Rattle.tp4_sending.specs.Pieces.{Queue, count_in, end_of, freed, freed_by}
use Rattle.tp4_sending.specs.steps.Total.{IsTotal}

pub queued_total : (size end octets : ℕ) (queue : Queue) (unit : List ℕ) → IsTotal size end octets queue
    → IsTotal size (end + count_in size unit) (octets + length unit) (record queue { units = queue.units ++ unit ∷ [] })
queued_total size end octets queue unit h =
    let counts = sum_by-append (count_in size) queue.units (unit ∷ []) in
    let count = sum_by-cons (count_in size) unit [] in
    let lengths = sum_by-append length queue.units (unit ∷ []) in
    let one = sum_by-cons length unit [] in
    record { end_is = omega (arith, h.end_is, counts, count); octets_is = omega (arith, h.octets_is, lengths, one) }

-- a unit has no more pieces than octets
count_low : (size octets : ℕ) → 0 < size → octets / size + min 1 (octets % size) ≤ octets
count_low size octets some = by_test (nat_lt octets pieces) refl
  where
    pieces : ℕ
    pieces = octets / size + min 1 (octets % size)

    by_test : (test : Bool) → nat_lt octets pieces ≡ test → pieces ≤ octets
    by_test false is = ltb-false octets pieces is
    by_test true is =
        let more : octets + 1 ≤ pieces = omega (arith, ltb-true octets pieces is) in
        let grows : size * (octets + 1) ≤ size * pieces = mul-le-mul_left size more in
        let times : octets * 1 ≤ octets * size = mul-le-mul_left octets some in
        absurd (omega (arith, grows, times, (div_ceil_times octets size some).1))

pub counts_low : (size : ℕ) (units : List (List ℕ)) → 0 < size → sum_by (count_in size) units ≤ sum_by length units
counts_low size [] some = omega arith
counts_low size (unit ∷ units) some =
    let here = count_low size (length unit) some in
    let rest = counts_low size units some in
    let counts = sum_by-cons (count_in size) unit units in
    let lengths = sum_by-cons length unit units in
    omega (arith, here, rest, counts, lengths)

-- the first units go
pub freed_end : (size n first : ℕ) (units : List (List ℕ)) → end_of size (freed_by size n first units) ≡ first + sum_by (count_in size) units
freed_end size n first [] = refl
freed_end size n first (unit ∷ units) =
    by (nat_le (first + count_in size unit) n) (freed_end size n (first + count_in size unit) units) (sum_by-cons (count_in size) unit units)
  where
    by : (b : Bool) → end_of size (freed_by size n (first + count_in size unit) units) ≡ first + count_in size unit + sum_by (count_in size) units
        → sum_by (count_in size) (unit ∷ units) ≡ count_in size unit + sum_by (count_in size) units
        → end_of size (if b then freed_by size n (first + count_in size unit) units else record { units = unit ∷ units; first = first }) ≡ first + sum_by (count_in size) (unit ∷ units)
    by true rest sum = rest ∙ omega (arith, sum)
    by false rest sum = refl

pub freed_total : (size n end was octets : ℕ) (queue new : Queue) → IsTotal size end was queue → new ≡ freed size n queue → octets ≡ sum_by length new.units → IsTotal size end octets new
freed_total size n end was octets queue new h is left =
    record { end_is = h.end_is ∙ sym (freed_end size n queue.first queue.units) ∙ ap (end_of size) (sym is); octets_is = left }
