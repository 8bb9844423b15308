-- The LANs have a least fresh pair, or none: of finitely many frames one is the first that is open, and of the systems of finitely many ports
-- one is the least that it is open to.
use Rattle.std.proofs.Common.{◌≡◌, ◌⊎◌, ℕ, zero, suc, ◌+◌, ◌<◌, ◌≤◌, Bool, true, false, List, [], ◌∷◌, length, Option, Some, None, slice_get, All, refl, sym, subst, arith, inl, inr}
use Rattle.std.specs.Prelude.{◌&&◌}
use Rattle.std.proofs.lemmas.Bool.{cases_Bool, cases_lt}
use Rattle.std.proofs.lemmas.List.Elements.{All-cons, All-nil}
use Rattle.osi_base.specs.Link.{IsLeastFresh}
use Rattle.lan_step.specs.declared.row.Lan.{Lan}
use Rattle.lan_step.specs.declared.row.PortRow.{PortRow}
use Rattle.lan_step.specs.Bag.{Bag, link_of}
use Rattle.lan_step.specs.Frames.{Frame, kept}
use Rattle.lan_step.specs.Receivers.{is_one_of}
use Rattle.lan_bag.specs.steps.Openings.{IsFirstOpen, IsLeastOpen, is_open, is_open_at, is_open_to}
use Rattle.lan_bag.proofs.Openings.{IsLeastAmong, least_fresh, least_open, none_fresh, shut}

-- ---- the first number below a bound that passes a test

record FirstBelow (test : ℕ → Bool) (bound : ℕ) : Type 0 where
  place : ℕ
  within : place ≤ bound
  before : (k : ℕ) → k < place → test k ≡ false
  here : place < bound → test place ≡ true

next_below : (test : ℕ → Bool) (bound : ℕ) → FirstBelow test bound → (test bound ≡ true) ⊎ (test bound ≡ false) → FirstBelow test (suc bound)
next_below test bound f passes = by (cases_lt f.place bound) passes
  where
    by : (f.place < bound) ⊎ (bound ≤ f.place) → (test bound ≡ true) ⊎ (test bound ≡ false) → FirstBelow test (suc bound)
    by (inl sooner) passes = record { place = f.place; within = omega (arith, sooner); before = f.before; here = λ h. f.here sooner }
    by (inr past) (inl here) = record { place = bound; within = omega arith; before = λ k lt. f.before k (omega (arith, lt, past)); here = λ h. here }
    by (inr past) (inr fails) = record { place = suc bound; within = omega arith; before = none; here = λ h. absurd (omega (arith, h)) }
      where
        none : (k : ℕ) → k < suc bound → test k ≡ false
        none k lt = elim (cases_lt k bound) [
          | inl less ↦ f.before k (omega (arith, less, past))
          | inr last ↦ let e : bound ≡ k = omega (arith, last, lt) in subst (λ (n : ℕ). test n ≡ false) e fails
        ]

first_below : (test : ℕ → Bool) (bound : ℕ) → FirstBelow test bound
first_below test zero = record { place = 0; within = omega arith; before = λ k lt. absurd (omega (arith, lt)); here = λ lt. absurd (omega (arith, lt)) }
first_below test (suc bound) = next_below test bound (first_below test bound) (cases_Bool (test bound))

-- ---- the least system of a frame

module _ (clock : ℕ) (lans : List Lan) (rows : List PortRow) (frame : Frame) where
  and_second : (row : PortRow) → is_open_at clock lans rows frame row ≡ true → is_open_to clock lans rows frame row.system ≡ true
  and_second row e = by (is_one_of frame.unit.to row) (is_open_to clock lans rows frame row.system) e
    where
      by : (a b : Bool) → (a && b) ≡ true → b ≡ true
      by true b e = e
      by false b e = absurd cc

  all_open : (system : ℕ) (least : ℕ) (some_rows : List PortRow) → system ≤ least → All (λ (row : PortRow). is_open_at clock lans rows frame row ≡ true → least ≤ row.system) some_rows
      → All (λ (row : PortRow). is_open_at clock lans rows frame row ≡ true → system ≤ row.system) some_rows
  all_open system least some_rows le all = λ k d lt open_at. omega (arith, le, all k d lt open_at)

  none_open : (system : ℕ) (some_rows : List PortRow) → All (λ (row : PortRow). is_open_at clock lans rows frame row ≡ false) some_rows
      → All (λ (row : PortRow). is_open_at clock lans rows frame row ≡ true → system ≤ row.system) some_rows
  none_open system some_rows all = λ k d lt open_at. let shut_there = all k d lt in cc

  abbrev Among : List PortRow → Type 0
  Among some_rows = (least : Option ℕ) × IsLeastAmong clock lans rows frame some_rows least

  abbrev Upward : ℕ → PortRow → Type 0
  Upward least row = is_open_at clock lans rows frame row ≡ true → least ≤ row.system

  abbrev Closed : PortRow → Type 0
  Closed row = is_open_at clock lans rows frame row ≡ false

  row_open : (row : PortRow) (some_rows : List PortRow) (least : Option ℕ) → IsLeastAmong clock lans rows frame some_rows least → is_open_at clock lans rows frame row ≡ true → Among (row ∷ some_rows)
  row_open row some_rows None rest opened =
      (Some row.system, (and_second row opened, All-cons (Upward row.system) row some_rows (λ h. omega arith) (none_open row.system some_rows rest)))
  row_open row some_rows (Some least) rest opened = elim (cases_lt least row.system) [
    | inl lower ↦ (Some least, (rest.0, All-cons (Upward least) row some_rows (λ h. omega (arith, lower)) rest.1))
    | inr higher ↦ (Some row.system, (and_second row opened, All-cons (Upward row.system) row some_rows (λ h. omega arith) (all_open row.system least some_rows higher rest.1)))
  ]

  row_closed : (row : PortRow) (some_rows : List PortRow) (least : Option ℕ) → IsLeastAmong clock lans rows frame some_rows least → is_open_at clock lans rows frame row ≡ false → Among (row ∷ some_rows)
  row_closed row some_rows None rest closed = (None, All-cons Closed row some_rows closed rest)
  row_closed row some_rows (Some least) rest closed = (Some least, (rest.0, All-cons (Upward least) row some_rows (λ opened. absurd cc) rest.1))

  among : (some_rows : List PortRow) → Among some_rows
  among [] = (None, All-nil Closed)
  among (row ∷ some_rows) =
      let rest = among some_rows in
      elim (cases_Bool (is_open_at clock lans rows frame row)) [
        | inl opened ↦ row_open row some_rows rest.0 rest.1 opened
        | inr closed ↦ row_closed row some_rows rest.0 rest.1 closed
      ]

  least_system : (least : Option ℕ) × IsLeastOpen clock lans rows frame least
  least_system = let all = among rows in (all.0, least_open clock lans rows frame all.0 all.1)

-- ---- the pair

by_system : (bag : Bag) (place : ℕ) (frame : Frame) → IsFirstOpen bag.clock bag.lans bag.rows bag.frames place → kept (slice_get bag.frames place) ≡ Some frame
    → (least : Option ℕ) → IsLeastOpen bag.clock bag.lans bag.rows frame least → (found : Option (ℕ × ℕ)) × IsLeastFresh (link_of bag) found
by_system bag place frame f at None h =
    (None, none_fresh bag place f (subst (λ (slot : Option Frame). is_open bag.clock bag.lans bag.rows slot ≡ false) (sym at) (shut bag.clock bag.lans bag.rows frame h)))
by_system bag place frame f at (Some least) h = (Some (place + 1, least), least_fresh bag place frame least f at h)

by_slot : (bag : Bag) (place : ℕ) → IsFirstOpen bag.clock bag.lans bag.rows bag.frames place → (slot : Option Frame) → kept (slice_get bag.frames place) ≡ slot
    → (found : Option (ℕ × ℕ)) × IsLeastFresh (link_of bag) found
by_slot bag place f None at = (None, none_fresh bag place f (subst (λ (slot : Option Frame). is_open bag.clock bag.lans bag.rows slot ≡ false) (sym at) refl))
by_slot bag place f (Some frame) at =
    let least = least_system bag.clock bag.lans bag.rows frame in
    by_system bag place frame f at least.0 least.1

pub least_pair : (bag : Bag) → (found : Option (ℕ × ℕ)) × IsLeastFresh (link_of bag) found
least_pair bag =
    let f = first_below (λ k. is_open bag.clock bag.lans bag.rows (kept (slice_get bag.frames k))) (length bag.frames) in
    by_slot bag f.place (record { within = f.within; before = f.before; here = f.here }) (kept (slice_get bag.frames f.place)) refl
