-- The list of units afloat loses exactly those that are older than the lifetime.
use Rattle.std.proofs.Common.{ℕ, ◌+◌, ◌≤◌, Bool, true, false, cond, List, [], ◌∷◌, inl, inr}
use Rattle.std.specs.List.{Contains, filter}
use Rattle.std.proofs.lemmas.Bool.{le-leb}
use Rattle.osi_base.specs.declared.unit.Unit.{Unit as CarriedUnit}
use Rattle.osi_base.specs.Floated.{is_young}
use Rattle.law_clnp_step.specs.Sound.{IsAmong}
use Rattle.law_clnp_step.proofs.Lists.{among_contains, among_filter, contains_among}

was_kept : {A : Type 0} (b : Bool) (x y : A) (xs ys : List A) → (IsAmong x xs → IsAmong x ys) → IsAmong x (cond b (y ∷ xs) xs) → IsAmong x (y ∷ ys)
was_kept true x y xs ys f (inl e) = inl e
was_kept true x y xs ys f (inr h) = inr (f h)
was_kept false x y xs ys f h = inr (f h)

pub among_kept : {A : Type 0} (test : A → Bool) (x : A) (xs : List A) → IsAmong x (filter test xs) → IsAmong x xs
among_kept test x [] h = h
among_kept test x (y ∷ ys) h = was_kept (test y) x y (filter test ys) ys (among_kept test x ys) h

pub none_new : (now life : ℕ) (entries : List (ℕ × CarriedUnit (List ℕ))) (entry : ℕ × CarriedUnit (List ℕ)) → Contains (filter (is_young now life) entries) entry → Contains entries entry
none_new now life entries entry h = contains_among entry entries (among_kept (is_young now life) entry entries (among_contains entry (filter (is_young now life) entries) h))

pub none_lost : (now life : ℕ) (entries : List (ℕ × CarriedUnit (List ℕ))) (entry : ℕ × CarriedUnit (List ℕ)) → Contains entries entry → now ≤ entry.0 + life
    → Contains (filter (is_young now life) entries) entry
none_lost now life entries entry h live =
    contains_among entry (filter (is_young now life) entries) (among_filter (is_young now life) entry entries (among_contains entry entries h) (le-leb now (entry.0 + life) live))
