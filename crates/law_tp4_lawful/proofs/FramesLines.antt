-- What a step of an end leaves of the lines of others.
use Rattle.std.proofs.Common.{◌≡◌, ◌≢◌, ◌⊎◌, inl, inr, ℕ, zero, suc, ◌<◌, true, Option, refl, sym, ◌∙◌, ap, arith}
use Rattle.std.proofs.lemmas.Bool.{cases_Bool, cases_eq, cond-true, cond-false, eq-eqb, ne_eqb}
use Rattle.law_tp4_history.specs.Ends.{End, Offer, Terms, Times}
use Rattle.law_tp4_history.specs.History.{History, IsPartner, set_end}
use Rattle.law_tp4_history.specs.Tracks.{Doing, Go, MayDo, Nothing, Start, Track, Whole, done, set_track}
use Rattle.law_tp4_history.proofs.Sound.{Sound}
use Rattle.law_tp4_history.proofs.Tracked.{Tracked, at_track, not_begun}
use Rattle.law_tp4_lawful.proofs.Known.{HasBegun}

-- ---- partners

abbrev CalledBy : History → ℕ → ℕ → Type 0
CalledBy h k b = ((h.end b).birth.is_called ≡ true) × ((h.end b).birth.caller ≡ k)

find_called : (h : History) (k bound : ℕ) → ((b : ℕ) × (b < bound) × CalledBy h k b) ⊎ ((b : ℕ) → b < bound → CalledBy h k b → ⊥)
find_called h k zero = inr (λ b low is. omega (arith, low))
find_called h k (suc n) = elim (find_called h k n) [
  | inl found ↦ inl (found.0, omega (arith, found.1), found.2)
  | inr none ↦ elim (cases_Bool (h.end n).birth.is_called) [
    | inl called ↦ elim (cases_eq (h.end n).birth.caller k) [
      | inl is ↦ inl (n, omega arith, (called, is))
      | inr other ↦ inr (λ b low is. elim (cases_eq b n) [ inl same ↦ other (ap (λ (j : ℕ). (h.end j).birth.caller) (sym same) ∙ is.1) | inr apart ↦ none b (omega (arith, low, apart)) is ])
    ]
    | inr calls ↦ inr (λ b low is. elim (cases_eq b n) [ inl same ↦ cc (calls, ap (λ (j : ℕ). (h.end j).birth.is_called) same, is.0) | inr apart ↦ none b (omega (arith, low, apart)) is ])
  ]
]

-- an end has a partner, or none
pub has_partner : (times : Times) (h : History) → Sound times h → (k : ℕ) → k < h.count → ((z : ℕ) × IsPartner h k z) ⊎ ((z : ℕ) → IsPartner h k z → ⊥)
has_partner times h s k low = elim (cases_Bool (h.end k).birth.is_called) [
  | inl called ↦ inl ((h.end k).birth.caller, inr (record { a_low = s.caller_low k low called; b_low = low; called = called; is = refl }))
  | inr calls ↦ elim (find_called h k h.count) [
    | inl found ↦ inl (found.0, inl (record { a_low = low; b_low = found.1; called = found.2.0; is = found.2.1 }))
    | inr none ↦ inr (λ z p. elim p [ inl q ↦ none z q.b_low (q.called, q.is) | inr q ↦ cc (q.called, calls) ])
  ]
]

-- partners are two
pub apart_from : (times : Times) (h : History) → Sound times h → (x z : ℕ) → IsPartner h x z → x ≢ z
apart_from times h s x z (inl p) same = cc ((s.pairs x z p).calls, p.called, ap (λ (k : ℕ). (h.end k).birth.is_called) same)
apart_from times h s x z (inr p) same = cc ((s.pairs z x p).calls, p.called, ap (λ (k : ℕ). (h.end k).birth.is_called) same)

-- ---- one end is another now

pub end_here : (end : ℕ → End) (y : ℕ) (e : End) → set_end end y e y ≡ e
end_here end y e = cond-true _ _ _ (eq-eqb y y refl)

pub end_other : (end : ℕ → End) (y : ℕ) (e : End) (k : ℕ) → k ≢ y → set_end end y e k ≡ end k
end_other end y e k apart = cond-false _ _ _ (ne_eqb k y apart)

-- ---- two lines are others now

module _ (track : ℕ → Track) (y z : ℕ) (own theirs : Track) where
  pub line_theirs : set_track (set_track track y own) z theirs z ≡ theirs
  line_theirs = cond-true _ _ _ (eq-eqb z z refl)

  pub line_own : y ≢ z → set_track (set_track track y own) z theirs y ≡ own
  line_own apart = cond-false _ _ _ (ne_eqb y z apart) ∙ cond-true _ _ _ (eq-eqb y y refl)

  pub line_other : (k : ℕ) → k ≢ y → k ≢ z → set_track (set_track track y own) z theirs k ≡ track k
  line_other k no_y no_z = cond-false _ _ _ (ne_eqb k z no_z) ∙ cond-false _ _ _ (ne_eqb k y no_y)

-- a line that has begun stays so
pub begun_on : (times : Times) (w : Whole) (y : ℕ) (new : End) (taken : Option Offer) (doing : Doing) → MayDo times w y new taken doing → (k : ℕ) → (w.track k).is_begun ≡ true → (done w.track y doing k).is_begun ≡ true
begun_on times w y new taken Nothing may k begun = begun
begun_on times w y new taken (Start z own theirs) may k begun =
    at_track (λ (j : ℕ) (to : Track). to.is_begun ≡ true) (set_track w.track y own) z theirs k may.3.begun (λ _. at_track (λ (j : ℕ) (to : Track). to.is_begun ≡ true) w.track y own k may.2.begun (λ _. begun))
begun_on times w y new taken (Go z own theirs) may k begun =
    at_track (λ (j : ℕ) (to : Track). to.is_begun ≡ true) (set_track w.track y own) z theirs k (ap (λ (t : Track). t.is_begun) may.2.same ∙ may.2.begun)
    (λ _. at_track (λ (j : ℕ) (to : Track). to.is_begun ≡ true) w.track y own k (ap (λ (t : Track). t.is_begun) may.1.same ∙ may.1.begun) (λ _. begun))

-- and keeps the size of its pieces
size_on : (times : Times) (w : Whole) → Sound times w.base → Tracked times w → (y : ℕ) (new : End) (taken : Option Offer) (doing : Doing) → MayDo times w y new taken doing
    → (k : ℕ) → (w.track k).is_begun ≡ true → (done w.track y doing k).size ≡ (w.track k).size
size_on times w s t y new taken Nothing may k begun = refl
size_on times w s t y new taken (Start z own theirs) may k begun =
    let none = not_begun times w s t y z new may.0 may.1 in
    at_track (λ (j : ℕ) (to : Track). (w.track j).is_begun ≡ true → to.size ≡ (w.track j).size) (set_track w.track y own) z theirs k (λ was. absurd (cc (was, none.1)))
    (λ _. at_track (λ (j : ℕ) (to : Track). (w.track j).is_begun ≡ true → to.size ≡ (w.track j).size) w.track y own k (λ was. absurd (cc (was, none.0))) (λ _ _. refl)) begun
size_on times w s t y new taken (Go z own theirs) may k begun =
    at_track (λ (j : ℕ) (to : Track). to.size ≡ (w.track j).size) (set_track w.track y own) z theirs k (ap (λ (x : Track). x.size) may.2.same)
    (λ _. at_track (λ (j : ℕ) (to : Track). to.size ≡ (w.track j).size) w.track y own k (ap (λ (x : Track). x.size) may.1.same) (λ _. refl))

pub has_begun_on : (times : Times) (w : Whole) → Sound times w.base → Tracked times w → (y : ℕ) (new : End) (taken : Option Offer) (doing : Doing) → MayDo times w y new taken doing
    → (k : ℕ) (terms : Terms) → HasBegun (w.track k) terms → HasBegun (done w.track y doing k) terms
has_begun_on times w s t y new taken doing may k terms h = record {
  begun = begun_on times w y new taken doing may k h.begun;
  size = size_on times w s t y new taken doing may k h.begun ∙ h.size;
}
