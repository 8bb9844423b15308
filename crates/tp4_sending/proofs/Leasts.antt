-- The least tick of a window: of two parts of it, and of its places one after another.
use Rattle.std.proofs.Common.{◌≡◌, ℕ, ◌+◌, ◌<◌, ◌≤◌, List, [], ◌∷◌, ◌++◌, length, drop, get_or, add-one, min, refl, sym, ◌∙◌, ap, subst, arith, Option, Some, None, option_map}
use Rattle.std.specs.List.{All}
use Rattle.std.proofs.Math.Seq.{drop-cons}
use Rattle.std.proofs.lemmas.List.{drop_all}
use Rattle.std.proofs.lemmas.List.Elements.{All-nil, All-cons, All-head, All-tail}
use Rattle.tp4_sending.specs.declared.tries.Tries.{Tries}
use Rattle.tp4_sending.specs.Kept.{IsTried}
use Rattle.tp4_sending.specs.Pieces.{once, sooner, least_due}
use Rattle.tp4_sending.specs.steps.Known.{IsKnown}

sooner_assoc : (t : ℕ) (a b : Option ℕ) → sooner (Some t) (sooner a b) ≡ sooner (sooner (Some t) a) b
sooner_assoc t None b = refl
sooner_assoc t (Some a) None = refl
sooner_assoc t (Some a) (Some b) = let same : min t (min a b) ≡ min (min t a) b = omega arith in ap (λ (n : ℕ). Some n) same

least_append : (t1 : ℕ) (front back : List Tries) → least_due t1 (front ++ back) ≡ sooner (least_due t1 front) (least_due t1 back)
least_append t1 [] back = refl
least_append t1 (tries ∷ front) back =
    ap (λ (due : Option ℕ). sooner (Some (tries.last + t1)) due) (least_append t1 front back) ∙ sooner_assoc (tries.last + t1) (least_due t1 front) (least_due t1 back)

-- one more that is sent at the tick of the clock
pub known_push : (t1 clock : ℕ) (window : List Tries) (due : Option (Option ℕ)) → IsKnown t1 window due
    → IsKnown t1 (window ++ once clock ∷ []) (option_map (λ (first : Option ℕ). sooner first (Some (clock + t1))) due)
known_push t1 clock window None h = tt
known_push t1 clock window (Some due) h = ap (λ (first : Option ℕ). sooner first (Some (clock + t1))) h ∙ sym (least_append t1 window (once clock ∷ []))

front_of : (clock : ℕ) (front back : List Tries) → All (IsTried clock) (front ++ back) → All (IsTried clock) front
front_of clock [] back h = All-nil (IsTried clock)
front_of clock (tries ∷ front) back h =
    All-cons (IsTried clock) tries front (All-head (IsTried clock) tries (front ++ back) h) (front_of clock front back (All-tail (IsTried clock) tries (front ++ back) h))

back_of : (clock : ℕ) (front back : List Tries) → All (IsTried clock) (front ++ back) → All (IsTried clock) back
back_of clock [] back h = h
back_of clock (tries ∷ front) back h = back_of clock front back (All-tail (IsTried clock) tries (front ++ back) h)

pub tried_front : (clock : ℕ) (window front back : List Tries) → front ++ back ≡ window → All (IsTried clock) window → All (IsTried clock) front
tried_front clock window front back e h = front_of clock front back (subst (All (IsTried clock)) (sym e) h)

pub tried_back : (clock : ℕ) (window front back : List Tries) → front ++ back ≡ window → All (IsTried clock) window → All (IsTried clock) back
tried_back clock window front back e h = back_of clock front back (subst (All (IsTried clock)) (sym e) h)

pub least_parts : (t1 : ℕ) (window front back : List Tries) → front ++ back ≡ window → sooner (least_due t1 front) (least_due t1 back) ≡ least_due t1 window
least_parts t1 window front back e = sym (least_append t1 front back) ∙ ap (least_due t1) e

pub least_on : (t1 least : ℕ) (tries : Tries) (window others : List Tries) (at : ℕ) → at < length others → tries ≡ get_or others at tries
    → sooner (Some (least + t1)) (least_due t1 (drop at others)) ≡ least_due t1 window
    → sooner (Some (min least tries.last + t1)) (least_due t1 (drop (at + 1) others)) ≡ least_due t1 window
least_on t1 least tries window others at h e old =
    let back : drop at others ≡ tries ∷ drop (at + 1) others = rw add-one (drop-cons others at tries h) ∙ ap (λ (x : Tries). x ∷ drop (at + 1) others) (sym e) in
    let both : min least tries.last + t1 ≡ min (least + t1) (tries.last + t1) = omega arith in
    ap (λ (n : ℕ). sooner (Some n) (least_due t1 (drop (at + 1) others))) both
    ∙ sym (sooner_assoc (least + t1) (Some (tries.last + t1)) (least_due t1 (drop (at + 1) others)))
    ∙ ap (λ (l : List Tries). sooner (Some (least + t1)) (least_due t1 l)) (sym back)
    ∙ old

pub least_all : (t1 least : ℕ) (window others : List Tries) (at : ℕ) → length others ≤ at
    → sooner (Some (least + t1)) (least_due t1 (drop at others)) ≡ least_due t1 window → Some (least + t1) ≡ least_due t1 window
least_all t1 least window others at h old = ap (λ (l : List Tries). sooner (Some (least + t1)) (least_due t1 l)) (sym (drop_all at others h)) ∙ old
