-- Joining the pieces of units from the front gives these units: each unit shown takes off its pieces, and what has begun is a front of the next.
-- The only products are those of a number of pieces and the size of one.
use Rattle.std.proofs.Common.{◌≡◌, inl, inr, ℕ, zero, suc, ◌+◌, ◌-◌, ◌*◌, ◌/◌, ◌%◌, ◌<◌, ◌≤◌, min, Bool, true, false, nat_lt, nat_le, if◌then◌else◌, List, [], ◌∷◌, ◌++◌, length, get_or, take, drop, Option, Some, None, refl, sym, ◌∙◌, ap, subst, arith, add-zero, append-nil, append_assoc, length-append}
use Rattle.std.proofs.Math.Nat.{suc-mul, mul-le-mul_right, le_of_mul-le-mul_right}
use Rattle.std.proofs.Math.Seq.{take-add}
use Rattle.std.specs.List.{sum_by}
use Rattle.std.proofs.lemmas.List.{take_all}
use Rattle.std.proofs.lemmas.List.Sums.{sum_by-cons}
use Rattle.std.proofs.lemmas.Bool.{cases_lt, cases_eq, lt-ltb, le-ltb, leb-true, leb-false}
use Rattle.tp4_number.proofs.Past.{if_kept}
use Rattle.tp4_number.specs.declared.piece.Piece.{Piece}
use Rattle.tp4_number.specs.Window.{Joined, joined, joined_by, begun_by, is_larger}
use Rattle.tp4_sending.specs.Pieces.{count_in, cut_of, cut_at}
use Rattle.law_tp4_history.specs.Complete.{AllFull, Begun, Complete}

-- a unit has a piece for each `size` of its octets, and for the rest
module _ (size len : ℕ) (some : 0 < size) where
  past_all : (n : ℕ) → len ≤ n * size → len / size + min 1 (len % size) ≤ n
  past_all n h =
      let whole : len / size * size + len % size ≡ len = omega arith in
      let q : len / size ≤ n = le_of_mul-le-mul_right {m = len / size} {n = n} {k = size} (omega (arith, whole, h)) some in
      elim (cases_lt (len / size) n) [
        | inl below ↦ omega (arith, below)
        | inr above ↦
            (let same : len / size ≡ n = omega (arith, q, above) in
            let more : len / size * size ≡ n * size = ap (λ (k : ℕ). k * size) same in
            omega (arith, same, whole, h, more))
      ]

  within : (n : ℕ) → n < len / size + min 1 (len % size) → n * size < len
  within n h = elim (cases_lt (n * size) len) [ inl below ↦ below | inr above ↦ absurd (omega (arith, h, past_all n above)) ]

  pub one_more : (n : ℕ) → n * size < len → n < len / size + min 1 (len % size)
  one_more n h =
      let whole : len / size * size + len % size ≡ len = omega arith in
      let rest : len % size < size = omega arith in
      elim (cases_lt n (len / size)) [
        | inl below ↦ omega (arith, below)
        | inr above ↦ elim (cases_eq n (len / size)) [
          | inl same ↦ (let more : n * size ≡ len / size * size = ap (λ (k : ℕ). k * size) same in omega (arith, same, h, whole, more))
          | inr other ↦
              (let up : suc (len / size) ≤ n = omega (arith, above, other) in
              let more : suc (len / size) * size ≤ n * size = mul-le-mul_right size up in
              absurd (omega (arith, more, suc-mul (len / size) size, h, whole, rest)))
        ]
      ]

-- the unit in which piece n stands
abbrev pub unit_at : ℕ → List (List ℕ) → ℕ → ℕ
unit_at size [] n = 0
unit_at size (unit ∷ units) n = if nat_lt n (count_in size unit) then 0 else suc (unit_at size units (n - count_in size unit))

begun_none : (size : ℕ) (units : List (List ℕ)) → AllFull units → Begun size units 0 []
begun_none size [] full = (refl, refl)
begun_none size (unit ∷ units) full = let none : 0 ≡ 0 * size = omega arith in (omega (arith, full.0, none), ap (λ (k : ℕ). take k unit) none)

-- a front of the units
pub front : (size : ℕ) (units : List (List ℕ)) (n : ℕ) (shown : List (List ℕ)) (begun : List ℕ) → Complete size units n shown begun → (rest : List (List ℕ)) × (units ≡ shown ++ rest)
front size units n [] begun c = (units, refl)
front size [] n (s ∷ shown) begun c = absurd c
front size (unit ∷ units) n (s ∷ shown) begun c =
    let r = front size units (n - count_in size unit) shown begun c.2 in
    (r.0, ap (λ (u : List ℕ). u ∷ units) (sym c.0) ∙ ap (λ (us : List (List ℕ)). s ∷ us) r.1)

-- a unit all of whose pieces are among them was shown
pub shown_whole : (size : ℕ) → 0 < size → (units : List (List ℕ)) (n : ℕ) (shown : List (List ℕ)) (begun : List ℕ) → Complete size units n shown begun
    → (m : ℕ) → m ≤ length units → sum_by (count_in size) (take m units) ≤ n → m ≤ length shown
shown_whole size some units n shown begun c zero low most = omega arith
shown_whole size some [] n shown begun c (suc m) low most = absurd (omega (arith, low))
shown_whole size some (unit ∷ units) n [] begun c (suc m) low most =
    let more : n < count_in size unit = one_more size (length unit) some n c.0 in
    absurd (omega (arith, more, most, sum_by-cons (count_in size) unit (take m units)))
shown_whole size some (unit ∷ units) n (s ∷ shown) begun c (suc m) low most =
    let rest : sum_by (count_in size) (take m units) ≤ n - count_in size unit = omega (arith, most, sum_by-cons (count_in size) unit (take m units), c.1) in
    let less : m ≤ length shown = shown_whole size some units (n - count_in size unit) shown begun c.2 m (omega (arith, low)) rest in
    omega (arith, less)

-- one unit more
pub complete_more : (size : ℕ) (units : List (List ℕ)) (n : ℕ) (shown : List (List ℕ)) (begun unit : List ℕ) → 0 < length unit → Complete size units n shown begun
    → Complete size (units ++ unit ∷ []) n shown begun
complete_more size [] n [] begun unit some c =
    let zeros : 0 * size ≡ 0 = omega arith in
    let none : n * size ≡ 0 = ap (λ (k : ℕ). k * size) c.0 ∙ zeros in
    (omega (arith, none, some), c.1 ∙ sym (ap (λ (k : ℕ). take k unit) none))
complete_more size (first ∷ units) n [] begun unit some c = c
complete_more size [] n (s ∷ shown) begun unit some c = absurd c
complete_more size (first ∷ units) n (s ∷ shown) begun unit some c = (c.0, c.1, complete_more size units (n - count_in size first) shown begun unit some c.2)

pub full_more : (units : List (List ℕ)) (unit : List ℕ) → 0 < length unit → AllFull units → AllFull (units ++ unit ∷ [])
full_more [] unit some full = (some, full)
full_more (first ∷ units) unit some full = (full.0, full_more units unit some full.1)

-- its pieces stay
pub cut_more : (size : ℕ) (units more : List (List ℕ)) (n : ℕ) (piece : Piece) → cut_at size units n ≡ Some piece → (cut_at size (units ++ more) n ≡ Some piece) × (unit_at size (units ++ more) n ≡ unit_at size units n)
cut_more size [] more n piece e = absurd (cc e)
cut_more size (unit ∷ units) more n piece e = by (nat_lt n (count_in size unit)) e (λ f. cut_more size units more (n - count_in size unit) piece f)
  where
    by : (b : Bool) → (if b then Some (cut_of size unit n) else cut_at size units (n - count_in size unit)) ≡ Some piece
        → (cut_at size units (n - count_in size unit) ≡ Some piece → (cut_at size (units ++ more) (n - count_in size unit) ≡ Some piece) × (unit_at size (units ++ more) (n - count_in size unit) ≡ unit_at size units (n - count_in size unit)))
        → ((if b then Some (cut_of size unit n) else cut_at size (units ++ more) (n - count_in size unit)) ≡ Some piece)
        × ((if b then 0 else suc (unit_at size (units ++ more) (n - count_in size unit))) ≡ (if b then 0 else suc (unit_at size units (n - count_in size unit))))
    by true f rest = (f, refl)
    by false f rest = let r = rest f in (r.0, ap suc r.1)

pub unit_low : (size : ℕ) (units : List (List ℕ)) (n : ℕ) (piece : Piece) → cut_at size units n ≡ Some piece → unit_at size units n < length units
unit_low size [] n piece e = absurd (cc e)
unit_low size (unit ∷ units) n piece e = by (nat_lt n (count_in size unit)) e (λ f. unit_low size units (n - count_in size unit) piece f)
  where
    by : (b : Bool) → (if b then Some (cut_of size unit n) else cut_at size units (n - count_in size unit)) ≡ Some piece
        → (cut_at size units (n - count_in size unit) ≡ Some piece → unit_at size units (n - count_in size unit) < length units)
        → (if b then 0 else suc (unit_at size units (n - count_in size unit))) < suc (length units)
    by true f rest = omega arith
    by false f rest = omega (arith, rest f)

-- what one piece more makes of what was shown, and of the octets begun
abbrev pub shown_on : Bool → List (List ℕ) → List ℕ → List (List ℕ)
shown_on last shown octets = if last then shown ++ octets ∷ [] else shown

shown_under : (last : Bool) (s : List ℕ) (shown : List (List ℕ)) (octets : List ℕ) → shown_on last (s ∷ shown) octets ≡ s ∷ shown_on last shown octets
shown_under true s shown octets = refl
shown_under false s shown octets = refl

-- one piece of the first unit
module _ (size : ℕ) (some : 0 < size) (unit : List ℕ) (units : List (List ℕ)) (full : AllFull units) (n : ℕ) (begun : List ℕ) (low : n * size < length unit) (is : begun ≡ take (n * size) unit) where
  octets_are : begun ++ take size (drop (n * size) unit) ≡ take (n * size + size) unit
  octets_are = ap (λ (b : List ℕ). b ++ take size (drop (n * size) unit)) is ∙ sym (take-add (n * size) size unit)

  next_is : (n + 1) * size ≡ n * size + size
  next_is = let e : n + 1 ≡ suc n = omega arith in ap (λ (k : ℕ). k * size) e ∙ suc-mul n size

  first_step : (b : Bool) → nat_le (length unit) (n * size + size) ≡ b
      → Complete size (unit ∷ units) (n + 1) (if b then (begun ++ take size (drop (n * size) unit)) ∷ [] else []) (if b then [] else begun ++ take size (drop (n * size) unit))
  first_step true e =
      let all : length unit ≤ n * size + size = leb-true _ _ e in
      let most : count_in size unit ≤ n + 1 = past_all size (length unit) some (n + 1) (omega (arith, all, next_is)) in
      let least : n < count_in size unit = one_more size (length unit) some n low in
      let none : 0 ≡ n + 1 - count_in size unit = omega (arith, most, least) in
      (octets_are ∙ take_all (n * size + size) unit all, most, subst (λ (k : ℕ). Begun size units k []) none (begun_none size units full))
  first_step false e = (omega (arith, leb-false _ _ e, next_is), octets_are ∙ sym (ap (λ (k : ℕ). take k unit) next_is))

pub one_piece : (size : ℕ) → 0 < size → (units : List (List ℕ)) → AllFull units → (n : ℕ) (shown : List (List ℕ)) (begun : List ℕ) (piece : Piece) → Complete size units n shown begun
    → cut_at size units n ≡ Some piece
    → Complete size units (n + 1) (shown_on piece.last shown (begun ++ piece.octets)) (begun_by piece (begun ++ piece.octets)) × (unit_at size units n ≡ length shown)
one_piece size some [] full n [] begun piece c e = absurd (cc e)
one_piece size some [] full n (s ∷ shown) begun piece c e = absurd c
one_piece size some (unit ∷ units) full n [] begun piece c e =
    let low : nat_lt n (count_in size unit) ≡ true = lt-ltb _ _ (one_more size (length unit) some n c.0) in
    let is : Some (cut_of size unit n) ≡ Some piece = sym (ap (λ (b : Bool). if b then Some (cut_of size unit n) else cut_at size units (n - count_in size unit)) low) ∙ e in
    let same : cut_of size unit n ≡ piece = cc is in (
      subst (λ (p : Piece). Complete size (unit ∷ units) (n + 1) (shown_on p.last [] (begun ++ p.octets)) (begun_by p (begun ++ p.octets))) same
          (first_step size some unit units full.1 n begun c.0 c.1 (nat_le (length unit) (n * size + size)) refl),
      ap (λ (b : Bool). if b then 0 else suc (unit_at size units (n - count_in size unit))) low,
    )
one_piece size some (unit ∷ units) full n (s ∷ shown) begun piece c e =
    let high : nat_lt n (count_in size unit) ≡ false = le-ltb _ _ c.1 in
    let rest = one_piece size some units full.1 (n - count_in size unit) shown begun piece c.2 (sym (ap (λ (b : Bool). if b then Some (cut_of size unit n) else cut_at size units (n - count_in size unit)) high) ∙ e) in
    let on : n - count_in size unit + 1 ≡ n + 1 - count_in size unit = omega (arith, c.1) in
    let less : count_in size unit ≤ n + 1 = omega (arith, c.1) in (
      subst (λ (us : List (List ℕ)). Complete size (unit ∷ units) (n + 1) us (begun_by piece (begun ++ piece.octets))) (sym (shown_under piece.last s shown (begun ++ piece.octets)))
          (c.0, less, subst (λ (k : ℕ). Complete size units k (shown_on piece.last shown (begun ++ piece.octets)) (begun_by piece (begun ++ piece.octets))) on rest.0),
      ap (λ (b : Bool). if b then 0 else suc (unit_at size units (n - count_in size unit))) high ∙ ap suc rest.1,
    )

-- what pieces in order join to
pub record Joins (size : ℕ) (units : List (List ℕ)) (n : ℕ) (shown : List (List ℕ)) (j : Joined) : Type 0 where
  pub complete : Complete size units (n + j.count) (shown ++ j.units) j.begun
  -- each unit shown has a piece among them
  pub at : (k : ℕ) → length shown ≤ k → k < length (shown ++ j.units) → (m : ℕ) × (m < n + j.count) × (unit_at size units m ≡ k)

joins_none : (size : ℕ) (units : List (List ℕ)) (n : ℕ) (shown : List (List ℕ)) (begun : List ℕ) (large : Bool) → Complete size units n shown begun
    → Joins size units n shown (record { count = 0; units = []; begun = begun; is_large = large })
joins_none size units n shown begun large c = record {
  complete = subst (λ (k : ℕ). Complete size units k (shown ++ []) begun) (sym (add-zero n)) (subst (λ (us : List (List ℕ)). Complete size units n us begun) (sym (append-nil shown)) c);
  at = λ k low high. absurd (omega (arith, low, high, ap length (append-nil shown)));
}

shown_then : (last : Bool) (shown : List (List ℕ)) (octets : List ℕ) (units : List (List ℕ)) → shown_on last shown octets ++ units ≡ shown ++ (if last then octets ∷ units else units)
shown_then true shown octets units = append_assoc shown (octets ∷ []) units
shown_then false shown octets units = refl

shown_count : (last : Bool) (shown : List (List ℕ)) (octets : List ℕ) → length (shown_on last shown octets) ≤ length shown + 1
shown_count true shown octets = omega (arith, length-append shown (octets ∷ []))
shown_count false shown octets = omega arith

pub joins : (size : ℕ) → 0 < size → (units : List (List ℕ)) → AllFull units → (places : List (Option Piece)) (n : ℕ) (shown : List (List ℕ)) (begun : List ℕ) → Complete size units n shown begun
    → ((d : ℕ) (piece : Piece) → get_or places d None ≡ Some piece → cut_at size units (n + d) ≡ Some piece) → Joins size units n shown (joined begun places)
joins size some units full [] n shown begun c held = joins_none size units n shown begun false c
joins size some units full (None ∷ places) n shown begun c held = joins_none size units n shown begun false c
joins size some units full (Some piece ∷ places) n shown begun c held =
    if_kept (Joins size units n shown) (is_larger begun piece) _ _
    (λ _. joins_none size units n shown begun true c)
    (λ _. on (joins size some units full places (n + 1) (shown_on piece.last shown octets) (begun_by piece octets) step.0 (λ d p is. subst (λ (k : ℕ). cut_at size units k ≡ Some p) (omega arith) (held (suc d) p is))))
  where
    octets : List ℕ
    octets = begun ++ piece.octets

    step : Complete size units (n + 1) (shown_on piece.last shown (begun ++ piece.octets)) (begun_by piece (begun ++ piece.octets)) × (unit_at size units n ≡ length shown)
    step = one_piece size some units full n shown begun piece c (subst (λ (k : ℕ). cut_at size units k ≡ Some piece) (add-zero n) (held 0 piece refl))

    on : {j : Joined} → Joins size units (n + 1) (shown_on piece.last shown (begun ++ piece.octets)) j → Joins size units n shown (joined_by piece (begun ++ piece.octets) j)
    on {j} r =
        let same : shown_on piece.last shown (begun ++ piece.octets) ++ j.units ≡ shown ++ (if piece.last then (begun ++ piece.octets) ∷ j.units else j.units) = shown_then piece.last shown (begun ++ piece.octets) j.units in
        record {
          complete = subst (λ (us : List (List ℕ)). Complete size units (n + (j.count + 1)) us j.begun) same
              (subst (λ (k : ℕ). Complete size units k (shown_on piece.last shown (begun ++ piece.octets) ++ j.units) j.begun) (omega arith) r.complete);
          at = λ k low high. elim (cases_lt k (length (shown_on piece.last shown (begun ++ piece.octets)))) [
            | inl below ↦ (n, omega arith, step.1 ∙ omega (arith, low, below, shown_count piece.last shown (begun ++ piece.octets)))
            | inr above ↦ (let m = r.at k above (omega (arith, high, ap length same)) in (m.0, omega (arith, m.1), m.2))
          ];
        }
