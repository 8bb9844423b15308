-- The transport entities of a set-up: each selector of a system is registered once, and each end system has its entity in turn.
use Rattle.std.proofs.Common.{◌≡◌, ℕ, ◌+◌, ◌<◌, ◌≤◌, false, List, [], ◌∷◌, ◌++◌, length, take, drop, get_or, sym, ◌∙◌, ap, subst, append_assoc}
use Rattle.std.proofs.lemmas.List.{append-nil, drop_more, take-append-drop}
use Rattle.tp4_conn.specs.End.{IsTimed}
use Rattle.tp4_entity.specs.Association.{is_registered}
use Rattle.script_setup.specs.declared.transport.Limits.{Limits}
use Rattle.script_setup.specs.Fitting.{AreLimits, AreSelectorsApart}
use Rattle.script_setup.specs.SetUp.{timers_of}

-- a list around the element at a place
pub split_item : {X : Type 0} (xs : List X) (i : ℕ) (x : X) → i < length xs → x ≡ get_or xs i x → xs ≡ take i xs ++ x ∷ drop (i + 1) xs
split_item {X} xs i x lt is =
    sym (take-append-drop i xs) ∙ ap (λ (rest : List X). take i xs ++ rest) (drop_more xs i x lt ∙ ap (λ (y : X). y ∷ drop (i + 1) xs) (sym is))

apart_at : (before front rest : List (List ℕ)) (selector : List ℕ) → AreSelectorsApart before (front ++ selector ∷ rest) → is_registered (before ++ front) selector ≡ false
apart_at before [] rest selector apart = subst (λ (b : List (List ℕ)). is_registered b selector ≡ false) (sym (append-nil before)) apart.0
apart_at before (first ∷ front) rest selector apart =
    subst (λ (b : List (List ℕ)). is_registered b selector ≡ false) (append_assoc before (first ∷ []) front) (apart_at (before ++ first ∷ []) front rest selector apart.1)

pub fresh_here : (selectors : List (List ℕ)) (i : ℕ) (selector : List ℕ) → AreSelectorsApart [] selectors → i < length selectors → selector ≡ get_or selectors i selector
    → is_registered (take i selectors) selector ≡ false
fresh_here selectors i selector apart lt is =
    apart_at [] (take i selectors) (drop (i + 1) selectors) selector (subst (AreSelectorsApart []) (split_item selectors i selector lt is) apart)

-- the times of the limits are in their ranges
pub are_timed : (life : ℕ) (limits : Limits) → AreLimits limits → life ≤ 255 → IsTimed (timers_of life limits)
are_timed life limits a most = record {
  life = most;
  t1_least = a.least_t1;
  t1 = a.most_t1;
  sendings_least = a.least_sendings;
  sendings = a.most_sendings;
  window_least = a.least_window;
  window = a.most_window;
  inactive_least = a.least_inactive;
  inactive = a.most_inactive;
  credit = a.most_credit;
}
