-- Where an event stands in a journal that goes on, and which events show no unit and leave the clock.
use Rattle.std.proofs.Common.{◌≡◌, ℕ, ◌⊎◌, List, [], ◌∷◌, ◌++◌, refl, sym, ◌∙◌, ap, subst, inl, inr}
use Rattle.std.specs.List.{AllByRecursion}
use Rattle.script_journal.specs.declared.event.Event.{Event}
use Rattle.script_journal.specs.declared.event.Event.TheVariants as events
use Rattle.script_journal.specs.RawLawful.{clock_after, clock_from}

-- an element of two lists stands in the first or in the second
pub split_at : {X : Type 0} (xs ys before after : List X) (e : X) → xs ++ ys ≡ before ++ e ∷ after
    → ((more : List X) × (xs ≡ before ++ e ∷ more)) ⊎ ((more : List X) × (before ≡ xs ++ more) × (ys ≡ more ++ e ∷ after))
split_at [] ys before after e is = inr (before, refl, is)
split_at (x ∷ xs) ys [] after e is =
    let head : x ≡ e = cc in
    inl (xs, ap (λ z. z ∷ xs) head)
split_at {X} (x ∷ xs) ys (b ∷ before) after e is =
    let head : x ≡ b = cc in
    let tail : xs ++ ys ≡ before ++ e ∷ after = cc in
    elim (split_at xs ys before after e tail) [
      | inl found ↦ inl (found.0, ap {B = List X} (λ (zs : List X). x ∷ zs) found.1 ∙ ap {B = List X} (λ (z : X). z ∷ before ++ e ∷ found.0) head)
      | inr found ↦ inr (found.0, ap {B = List X} (λ (z : X). z ∷ before) (sym head) ∙ ap {B = List X} (λ (zs : List X). x ∷ zs) found.1, found.2)
    ]

pub clock_from-append : (now : ℕ) (xs ys : List Event) → clock_from now (xs ++ ys) ≡ clock_from (clock_from now xs) ys
clock_from-append now [] ys = refl
clock_from-append now (x ∷ xs) ys = clock_from-append (clock_after now x) xs ys

-- the event shows no unit
abbrev pub IsOther : Event → Type 0
IsOther (events.Unit system from octets) = ⊥
IsOther event = Unit {0}

pub no_unit : (made before after : List Event) (system : ℕ) (from octets : List ℕ) → AllByRecursion IsOther made → made ≡ before ++ events.Unit system from octets ∷ after → ⊥
no_unit [] [] after system from octets others is = cc
no_unit [] (event ∷ before) after system from octets others is = cc
no_unit (e ∷ made) [] after system from octets others is =
    let head : e ≡ events.Unit system from octets = cc in
    subst IsOther head others.0
no_unit (e ∷ made) (event ∷ before) after system from octets others is =
    let tail : made ≡ before ++ events.Unit system from octets ∷ after = cc in
    no_unit made before after system from octets others.1 tail
