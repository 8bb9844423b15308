-- The frames are the late ones that are gone from the front, and the slots behind them: what is done to the slots is done
-- to the frames.
use Rattle.std.proofs.Common.{◌≡◌, ℕ, zero, suc, ◌+◌, ◌-◌, ◌<◌, ◌≤◌, is_some, cond, List, [], ◌∷◌, ◌++◌, length, set, get_or, replicate, refl, sym, ◌∙◌, ap, arith, Option, Some, None, slice_get, zero-add}
use Rattle.std.proofs.lemmas.List.{length-set}
use Rattle.std.proofs.lemmas.List.Sums.{sum_by-cons}
use Rattle.std.proofs.lemmas.Option.{slice_get-get_or}
use Rattle.lan_step.specs.declared.row.Lan.{Lan}
use Rattle.lan_step.specs.Frames.{Frame, kept, kept_at, marked, marked_frame, marked_slot, marked_at}
use Rattle.lan_step.specs.Offers.{live_count}
use Rattle.lan_bag.specs.steps.Store.{marked_in, IsStored}
use Rattle.lan_bag.specs.steps.Wheel.{given_up_at}

count_cons : (slot : Option Frame) (slots : List (Option Frame)) → live_count (slot ∷ slots) ≡ cond (is_some slot) 1 0 + live_count slots
count_cons slot slots = sum_by-cons (λ (x : Option Frame). cond (is_some x) 1 0) slot slots

-- a frame is given up where it is late

get_behind : (gone k : ℕ) (slots : List (Option Frame)) → slice_get (replicate gone None ++ slots) (gone + k) ≡ slice_get slots k
get_behind zero k slots = ap (slice_get slots) (zero-add k)
get_behind (suc gone) k slots = let e : suc gone + k ≡ suc (gone + k) = omega arith in ap (slice_get (None ∷ (replicate gone None ++ slots))) e ∙ get_behind gone k slots

set_behind : (gone k : ℕ) (slots : List (Option Frame)) (slot : Option Frame) → set (replicate gone None ++ slots) (gone + k) slot ≡ replicate gone None ++ set slots k slot
set_behind zero k slots slot = ap (λ (i : ℕ). set slots i slot) (zero-add k)
set_behind (suc gone) k slots slot =
    let e : suc gone + k ≡ suc (gone + k) = omega arith in
    ap (λ (i : ℕ). set (None ∷ (replicate gone None ++ slots)) i slot) e ∙ ap (λ (frames : List (Option Frame)). None ∷ frames) (set_behind gone k slots slot)

behind_given_up : (clock : ℕ) (lans : List Lan) (gone k : ℕ) (slots : List (Option Frame)) → replicate gone None ++ given_up_at clock lans slots k ≡ given_up_at clock lans (replicate gone None ++ slots) (gone + k)
behind_given_up clock lans gone k slots =
    sym (set_behind gone k slots (kept_at clock lans (kept (slice_get slots k))))
    ∙ ap (λ (slot : Option (Option Frame)). set (replicate gone None ++ slots) (gone + k) (kept_at clock lans (kept slot))) (sym (get_behind gone k slots))

pub place_given_up : (clock : ℕ) (lans : List Lan) (gone place : ℕ) (slots : List (Option Frame)) → gone ≤ place → replicate gone None ++ given_up_at clock lans slots (place - gone) ≡ given_up_at clock lans (replicate gone None ++ slots) place
place_given_up clock lans gone place slots h =
    let e : gone + (place - gone) ≡ place = omega (arith, h) in
    behind_given_up clock lans gone (place - gone) slots ∙ ap (λ (k : ℕ). given_up_at clock lans (replicate gone None ++ slots) k) e

pub gone_given_up : (clock : ℕ) (lans : List Lan) (gone place : ℕ) (slots : List (Option Frame)) → place < gone → replicate gone None ++ slots ≡ given_up_at clock lans (replicate gone None ++ slots) place
gone_given_up clock lans zero place slots h = absurd (omega arith)
gone_given_up clock lans (suc gone) zero slots h = refl
gone_given_up clock lans (suc gone) (suc place) slots h = ap (λ (frames : List (Option Frame)). None ∷ frames) (gone_given_up clock lans gone place slots (omega arith))

-- a slot is marked
same_slot : (slots : List (Option Frame)) (k : ℕ) → slice_get slots k ≡ Some None → set slots k None ≡ slots
same_slot [] k h = cc
same_slot (slot ∷ slots) zero h = let e : slot ≡ None = cc in ap (λ (s : Option Frame). s ∷ slots) (sym e)
same_slot (slot ∷ slots) (suc k) h = ap (λ (frames : List (Option Frame)). slot ∷ frames) (same_slot slots k h)

set_marked : (slots : List (Option Frame)) (k : ℕ) (slot : Option Frame) (system : ℕ) → slice_get slots k ≡ Some slot → set slots k (marked_in slot system) ≡ marked_frame slots k system slot
set_marked slots k None system h = same_slot slots k h
set_marked slots k (Some frame) system h = refl

pub slot_marked : (slots : List (Option Frame)) (k : ℕ) (d : Option Frame) (system : ℕ) → k < length slots → set slots k (marked_in (get_or slots k d) system) ≡ marked_slot slots k system
slot_marked slots k d system h =
    let at = slice_get-get_or slots k d h in
    set_marked slots k (get_or slots k d) system at ∙ ap (λ (o : Option (Option Frame)). marked_frame slots k system (kept o)) (sym at)

cons_marked : (slots : List (Option Frame)) (k system : ℕ) (slot : Option Frame) → marked_frame (None ∷ slots) (suc k) system slot ≡ None ∷ marked_frame slots k system slot
cons_marked slots k system None = refl
cons_marked slots k system (Some frame) = refl

marked_behind : (gone k system : ℕ) (slots : List (Option Frame)) → marked_slot (replicate gone None ++ slots) (gone + k) system ≡ replicate gone None ++ marked_slot slots k system
marked_behind zero k system slots = ap (λ (i : ℕ). marked_slot slots i system) (zero-add k)
marked_behind (suc gone) k system slots =
    let e : suc gone + k ≡ suc (gone + k) = omega arith in
    ap (λ (i : ℕ). marked_slot (None ∷ (replicate gone None ++ slots)) i system) e
    ∙ (cons_marked (replicate gone None ++ slots) (gone + k) system (kept (slice_get (replicate gone None ++ slots) (gone + k)))
    ∙ ap (λ (frames : List (Option Frame)). None ∷ frames) (marked_behind gone k system slots))

pub number_marked : (gone number system : ℕ) (slots : List (Option Frame)) → gone < number → replicate gone None ++ marked_slot slots (number - 1 - gone) system ≡ marked_at (replicate gone None ++ slots) number system
number_marked gone zero system slots h = absurd (omega arith)
number_marked gone (suc place) system slots h =
    let e : gone + (suc place - 1 - gone) ≡ place = omega arith in
    sym (marked_behind gone (suc place - 1 - gone) system slots) ∙ ap (λ (i : ℕ). marked_slot (replicate gone None ++ slots) i system) e

count_set : (slots : List (Option Frame)) (k : ℕ) (frame other : Frame) → slice_get slots k ≡ Some (Some frame) → live_count (set slots k (Some other)) ≡ live_count slots
count_set [] k frame other h = cc
count_set (slot ∷ slots) zero frame other h =
    let e : slot ≡ Some frame = cc in
    count_cons (Some other) slots ∙ (sym (count_cons (Some frame) slots) ∙ ap (λ (s : Option Frame). live_count (s ∷ slots)) (sym e))
count_set (slot ∷ slots) (suc k) frame other h =
    omega (arith, count_cons slot (set slots k (Some other)), count_cons slot slots, count_set slots k frame other h)

marked_stored : (gone live k system : ℕ) (slots : List (Option Frame)) (o : Option (Option Frame)) → slice_get slots k ≡ o → IsStored gone slots live → IsStored gone (marked_frame slots k system (kept o)) live
marked_stored gone live k system slots None h s = s
marked_stored gone live k system slots (Some None) h s = s
marked_stored gone live k system slots (Some (Some frame)) h s = record {
  counted = s.counted ∙ sym (count_set slots k frame (marked frame system) h);
  most = s.most;
  numbers = omega (arith, s.numbers, length-set slots k (Some (marked frame system)));
}

pub slot_stored : (gone live k system : ℕ) (slots : List (Option Frame)) → IsStored gone slots live → IsStored gone (marked_slot slots k system) live
slot_stored gone live k system slots s = marked_stored gone live k system slots (slice_get slots k) refl s
