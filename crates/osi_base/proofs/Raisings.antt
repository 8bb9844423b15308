-- A carrier over a carrier: what a choice and an injection below have alike, the strays that are seen after one, and a call that takes up
-- what waits.
use Rattle.std.proofs.Common.{◌≡◌, ◌≢◌, ℕ, ◌+◌, min, Bool, true, false, List, [], ◌∷◌, ◌++◌, refl, sym, ◌∙◌, ap, inl, arith, Option, None}
use Rattle.std.specs.Prelude.{if◌then◌else◌}
use Rattle.std.specs.List.{AllByRecursion}
use Rattle.std.proofs.lemmas.List.Elements.{recursion_from_All}
use Rattle.osi_base.specs.declared.unit.Up.{Up}
use Rattle.osi_base.specs.declared.unit.Up.TheVariants.{Unit as Came, Note as Noted}
use Rattle.osi_base.specs.declared.unit.Picked.{Picked}
use Rattle.osi_base.specs.declared.unit.Injected.{Injected}
use Rattle.osi_base.specs.declared.unit.Injected.TheVariants.{Taken as WasInjected}
use Rattle.osi_base.specs.Link.{Link, IsLawful, IsNote}
use Rattle.osi_base.specs.Calls.{Chooses, Injects, IsSameLink, NothingNew, TakesUp, after_first}
use Rattle.osi_base.proofs.Standings.{took_same}

pub record IsRaised {A : Type 0} (old called : Link A) : Type 0 where
  pub same : IsSameLink old called
  pub clock : called.clock ≡ old.clock
  pub grows : NothingNew old called
  pub was_honest : called.honest ≡ true → old.honest ≡ true
  pub ups : List (Up A)
  pub waiting : called.waiting ≡ old.waiting ++ ups
  pub lawful : called.honest ≡ true → AllByRecursion (IsLawful old) ups

unfoldable pub raised_choice : {A : Type 0} (old : Link A) (pick system : ℕ) (answer : Picked) (called : Link A) → Chooses old pick system answer called → IsRaised old called
raised_choice old pick system answer called c = record {
  same = c.same;
  clock = c.clock;
  grows = c.grows;
  was_honest = λ h. sym c.honest ∙ h;
  ups = c.ups;
  waiting = c.adds.waiting;
  lawful = λ h. recursion_from_All (IsLawful old) c.ups (c.lawful (sym c.honest ∙ h));
}

pub notes_lawful : {A : Type 0} (seen : Link A) (ups : List (Up A)) → AllByRecursion IsNote ups → AllByRecursion (IsLawful seen) ups
notes_lawful seen [] h = tt
notes_lawful seen (Noted note ∷ ups) h = (tt, notes_lawful seen ups h.1)
notes_lawful seen (Came arrival ∷ ups) h = absurd h.0

pub not_taken : {A : Type 0} (old : Link A) (answer : Injected) (called : Link A) → Injects old answer called → called.honest ≡ true → answer ≢ WasInjected
not_taken old answer called c h is = let e : called.honest ≡ false = c.injected is in cc

unfoldable pub raised_injection : {A : Type 0} (old : Link A) (answer : Injected) (called : Link A) → Injects old answer called → IsRaised old called
raised_injection old answer called c = record {
  same = c.same;
  clock = c.clock;
  grows = c.grows;
  was_honest = λ h. sym (c.honest (not_taken old answer called c h)) ∙ h;
  ups = c.ups;
  waiting = c.adds.waiting;
  lawful = λ h. notes_lawful old c.ups (recursion_from_All IsNote c.ups (c.refused (not_taken old answer called c h)));
}

-- strays, before and after, where they are counted once octets were injected
pub strays_none : (after was : Bool) (strays more : ℕ) → after ≡ true → was ≡ true → (if after then 0 else more) ≡ min ((if was then 0 else strays) + 0) 4294967295
strays_none true true strays more h k = refl
strays_none true false strays more h k = absurd cc
strays_none false was strays more h k = absurd cc

pub strays_some : (after was : Bool) (strays more count : ℕ) → after ≡ false → (was ≡ true → strays ≡ 0) → count ≡ min (strays + more) 4294967295
    → (if after then 0 else count) ≡ min ((if was then 0 else strays) + more) 4294967295
strays_some true was strays more count h k is = absurd cc
strays_some false true strays more count h k is = is ∙ ap (λ (n : ℕ). min (n + more) 4294967295) (k refl)
strays_some false false strays more count h k is = is

-- the first of what waits is taken up, and nothing else changes
pub takes_up : {A : Type 0} (link : Link A) (waiting : List (Up A)) (answer : Option (Up A)) → link.waiting ≡ after_first answer waiting → (answer ≡ None → link.waiting ≡ [])
    → TakesUp link answer (record link { waiting = waiting })
takes_up link waiting answer is none = record {
  same = record { bound = λ to. refl; room = λ to. refl; belongs = λ to system. refl };
  clock = refl;
  honest = refl;
  strays = refl;
  grows = λ entry h. h;
  lost = λ entry h live. h;
  waiting = is;
  none = none;
  takes = λ pick system is. is;
  picks = record { given = omega arith; again = λ pick system is. inl is };
  took = λ pick system is. took_same (link.takes pick system) (link.took pick system) is;
}
