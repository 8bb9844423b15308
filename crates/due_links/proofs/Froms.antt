-- The tick before which no id is due, where one id comes or goes, and where the first was found.
use Rattle.std.proofs.Common.{◌≡◌, ℕ, zero, suc, ◌<◌, ◌≤◌, List, length, get_or, set, replicate, Option, Some, None, inl, inr, sym, ◌∙◌, subst, arith}
use Rattle.std.proofs.lemmas.Bool.{cases_eq}
use Rattle.std.proofs.lemmas.Option.{same_Some}
use Rattle.std.proofs.lemmas.List.{get_or-set_same, get_or-set_other, length-set}
use Rattle.due_links.specs.declared.bucket.Node.{Node}
use Rattle.due_links.specs.steps.Kept.{AreFrom, IsFirstNode}
use Rattle.due_links.proofs.Maps.{slot_within}

pub from_set : (from low : ℕ) (ticks : List (Option ℕ)) (id : ℕ) (tick : Option ℕ) → AreFrom from ticks → low ≤ from → ((at : ℕ) → tick ≡ Some at → low ≤ at) → AreFrom low (set ticks id tick)
from_set from low ticks id tick h below here other at is = elim (cases_eq other id) [
  | inl e ↦
      let inside : other < length ticks = omega (arith, slot_within (set ticks id tick) other at is, length-set ticks id tick) in
      let same : get_or (set ticks id tick) id None ≡ Some at = subst (λ (i : ℕ). get_or (set ticks id tick) i None ≡ Some at) e is in
      here at (sym (get_or-set_same ticks id tick None (omega (arith, inside, e))) ∙ same)
  | inr far ↦ let was : from ≤ at = h other at (sym (get_or-set_other ticks id other tick None far) ∙ is) in omega (arith, was, below)
]

pub from_gone : (from : ℕ) (ticks : List (Option ℕ)) (id : ℕ) → AreFrom from ticks → AreFrom from (set ticks id None)
from_gone from ticks id h = from_set from from ticks id None h (omega arith) (λ at e. absurd cc)

pub from_come : (from low at : ℕ) (ticks : List (Option ℕ)) (id : ℕ) → low ≤ from → low ≤ at → AreFrom from ticks → AreFrom low (set ticks id (Some at))
from_come from low at ticks id below here h = from_set from low ticks id (Some at) h below (λ other e. let same : at ≡ other = same_Some at other e in omega (arith, same, here))

-- the tick of the first, and any where there is none
pub from_first : (ticks : List (Option ℕ)) (n : Node) → IsFirstNode ticks (Some n) → AreFrom n.at ticks
from_first ticks n first id at is = elim (first.1.least id at is) [
  | inl later ↦ omega (arith, later)
  | inr same ↦ omega (arith, same.0)
]

pub from_none : (from : ℕ) (ticks : List (Option ℕ)) → IsFirstNode ticks None → AreFrom from ticks
from_none from ticks none id at is = let no = none id in absurd cc

pub from_empty : (from count : ℕ) (ticks : List (Option ℕ)) → ticks ≡ replicate count None → AreFrom from ticks
from_empty from count ticks empty = subst (λ (xs : List (Option ℕ)). AreFrom from xs) (sym empty) (λ id at is. absurd (none_there count id at is))
  where
    none_there : (count id at : ℕ) → get_or (replicate count None) id None ≡ Some at → ⊥
    none_there zero id at is = absurd cc
    none_there (suc count) zero at is = absurd cc
    none_there (suc count) (suc id) at is = none_there count id at is
