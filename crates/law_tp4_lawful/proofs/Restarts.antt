-- When an entity began again, and the restarts of its address in a history.
use Rattle.std.proofs.Common.{inl, inr, ◌≡◌, ◌≢◌, ℕ, ◌≤◌, List, [], ◌∷◌, ◌++◌, Contains, refl, ap, subst, ◌∙◌, arith}
use Rattle.std.proofs.lemmas.List.Elements.{Contains-push_cases}
use Rattle.tp4_entity.specs.Entity.{Entity}
use Rattle.tp4_entity.specs.Step.{restarted}
use Rattle.law_tp4_lawful.proofs.Known.{AreBegan}

-- an entity with the same address that began again at the same tick
pub same_began : (now : ℕ) (restarts : List (List ℕ × ℕ)) (old new : Entity) → new.own ≡ old.own → new.restarted ≡ old.restarted → AreBegan now restarts old → AreBegan now restarts new
same_began now restarts old new own at began r there =
    let b = began r (subst (λ (a : List ℕ). Contains restarts (a, r)) own there) in
    record { tick = b.tick; began = at ∙ b.began; since = b.since; past = b.past }

-- at a later tick
pub later_began : (now then : ℕ) (restarts : List (List ℕ × ℕ)) (e : Entity) → now ≤ then → AreBegan now restarts e → AreBegan then restarts e
later_began now then restarts e low began r there =
    let b = began r there in
    record { tick = b.tick; began = b.began; since = b.since; past = omega (arith, low, b.past) }

-- it begins again
pub again_began : (now : ℕ) (restarts : List (List ℕ × ℕ)) (e : Entity) → AreBegan now restarts e → AreBegan now (restarts ++ (e.own, now) ∷ []) (restarted now e)
again_began now restarts e began r there = record {
  tick = now;
  began = refl;
  since = elim (Contains-push_cases restarts (e.own, now) (e.own, r) there) [
    | inl old ↦ let b = began r old in omega (arith, b.since, b.past)
    | inr is ↦ let at = ap (λ (p : List ℕ × ℕ). p.1) is in omega (arith, at)
  ];
  past = omega arith;
}

-- another one does
pub other_began : (now : ℕ) (restarts : List (List ℕ × ℕ)) (e : Entity) (address : List ℕ) → address ≢ e.own → AreBegan now restarts e → AreBegan now (restarts ++ (address, now) ∷ []) e
other_began now restarts e address apart began r there = elim (Contains-push_cases restarts (address, now) (e.own, r) there) [
  | inl old ↦ began r old
  | inr is ↦ absurd (apart (ap (λ (p : List ℕ × ℕ). p.0) is))
]
