-- The strays among what waits are counted one by one.
use Rattle.std.proofs.Common.{◌≡◌, ℕ, zero, suc, ◌+◌, ◌<◌, ◌≤◌, Bool, true, false, cond, List, [], ◌∷◌, ◌++◌, length, take, drop, slice_get, refl, sym, ◌∙◌, ap, arith, add-one, Some}
use Rattle.std.specs.Prelude.{min}
use Rattle.osi_base.specs.declared.unit.Unit.{Unit as CarriedUnit}
use Rattle.osi_base.specs.declared.unit.Up.{Up}
use Rattle.osi_base.specs.declared.unit.Up.TheVariants.{Unit as Came, Note as Noted}
use Rattle.inactive_step.specs.declared.row.InactiveRow.{InactiveRow}
use Rattle.inactive_step.specs.Step.{counted, is_afloat, strays_in}

take_past : {A : Type 0} (n : ℕ) (xs : List A) → length xs ≤ n → take n xs ≡ xs
take_past zero [] h = refl
take_past (suc n) [] h = refl
take_past zero (x ∷ xs) h = absurd (omega (arith, h))
take_past {A} (suc n) (x ∷ xs) h = ap (λ (l : List A). x ∷ l) (take_past n xs (omega (arith, h)))

take_drop : {A : Type 0} (n : ℕ) (xs : List A) → take n xs ++ drop n xs ≡ xs
take_drop zero xs = refl
take_drop (suc n) [] = refl
take_drop {A} (suc n) (x ∷ xs) = ap (λ (l : List A). x ∷ l) (take_drop n xs)

-- one member more
one_more : {A : Type 0} (xs : List A) (place : ℕ) (one : A) → slice_get xs place ≡ Some one → take (place + 1) xs ≡ take place xs ++ one ∷ []
one_more [] place one h = absurd cc
one_more {A} (x ∷ xs) zero one h = let same : x ≡ one = cc h in ap (λ (u : A). u ∷ []) same
one_more {A} (x ∷ xs) (suc place) one h =
    ap (λ (n : ℕ). take n (x ∷ xs)) (add-one (suc place)) ∙ ap (λ (n : ℕ). x ∷ take n xs) (sym (add-one place)) ∙ ap (λ (us : List A). x ∷ us) (one_more xs place one h)

there : {A : Type 0} (xs : List A) (at : ℕ) → at < length xs → (x : A) × (slice_get xs at ≡ Some x)
there [] at h = absurd (omega (arith, h))
there (x ∷ xs) zero h = (x, refl)
there (x ∷ xs) (suc at) h = there xs at (omega (arith, h))

module _ (rows : List InactiveRow) (now : ℕ) (entries : List (ℕ × CarriedUnit (List ℕ))) where
  abbrev strays_of : List (Up (List ℕ)) → ℕ
  strays_of ups = strays_in rows now entries ups

  strays_on : (ups more : List (Up (List ℕ))) → strays_of (ups ++ more) ≡ strays_of ups + strays_of more
  strays_on [] more = omega arith
  strays_on (Noted note ∷ ups) more = strays_on ups more
  strays_on (Came arrival ∷ ups) more = by (is_afloat rows now entries arrival.unit) (strays_on ups more)
    where
      by : (b : Bool) → strays_of (ups ++ more) ≡ strays_of ups + strays_of more
          → cond b (strays_of (ups ++ more)) (strays_of (ups ++ more) + 1) ≡ cond b (strays_of ups) (strays_of ups + 1) + strays_of more
      by true e = e
      by false e = omega (arith, e)

  -- the strays among what stands from a place on, up to another
  pub record Counting (strays from place count : ℕ) (ups : List (Up (List ℕ))) : Type 0 where
    pub more : ℕ
    pub are : strays_of (take from ups) + more ≡ strays_of (take place ups)
    pub count_is : count ≡ min (strays + more) 4294967295

  pub counting_none : (strays from : ℕ) (ups : List (Up (List ℕ))) → strays ≤ 4294967295 → Counting strays from from strays ups
  counting_none strays from ups fits = record { more = 0; are = omega arith; count_is = grind (arith, fits) }

  pub counting_next : (strays from place count one all : ℕ) (ups : List (Up (List ℕ))) → place < length ups → Counting strays from place count ups
      → ((up : Up (List ℕ)) → slice_get ups place ≡ Some up → one ≡ strays_of (up ∷ [])) → all ≡ min (count + one) 4294967295 → Counting strays from (place + 1) all ups
  counting_next strays from place count one all ups within h is sum =
      let up = there ups place within in
      let e : strays_of (take (place + 1) ups) ≡ strays_of (take place ups) + one =
      ap (λ (us : List (Up (List ℕ))). strays_of us) (one_more ups place up.0 up.1) ∙ strays_on (take place ups) (up.0 ∷ [])
      ∙ ap (λ (n : ℕ). strays_of (take place ups) + n) (sym (is up.0 up.1)) in
      record {
        more = h.more + one;
        are = omega (arith, h.are, e);
        count_is = total h.count_is sum;
      }
    where
      total : count ≡ min (strays + h.more) 4294967295 → all ≡ min (count + one) 4294967295 → all ≡ min (strays + (h.more + one)) 4294967295
      total a b = grind (arith, a, b)

  pub counted_whole : (strays from place count : ℕ) (honest : Bool) (ups : List (Up (List ℕ))) → honest ≡ false → length ups ≤ place → Counting strays from place count ups
      → count ≡ counted honest strays (strays_of (drop from ups))
  counted_whole strays from place count honest ups not_honest past h =
      let all : strays_of ups ≡ strays_of (take from ups) + strays_of (drop from ups) =
      ap (λ (us : List (Up (List ℕ))). strays_of us) (sym (take_drop from ups)) ∙ strays_on (take from ups) (drop from ups) in
      let whole : strays_of (take place ups) ≡ strays_of ups = ap (λ (us : List (Up (List ℕ))). strays_of us) (take_past place ups past) in
      let more : h.more ≡ strays_of (drop from ups) = omega (arith, h.are, all, whole) in
      h.count_is ∙ ap (λ (n : ℕ). min (strays + n) 4294967295) more ∙ sym (ap (λ (b : Bool). counted b strays (strays_of (drop from ups))) not_honest)
