-- Octets begin with a TPDU or have a fault, and what stands behind a TPDU is shorter.
use Rattle.std.proofs.Common.{Bool, true, false, inl, inr, ℕ, zero, suc, ◌≤◌, List, [], ◌∷◌, ◌++◌, length, refl, arith}
use Rattle.tpdu.specs.Grammar.{BeginsWithTpdu}
use Rattle.tpdu.specs.Values.{TpduAndSum}
use Rattle.tpdu.proofs.Fronts.{front_or}
use Rattle.tp4_flow.specs.declared.step.EndEvent.{EndEvent}
use Rattle.tp4_flow.specs.declared.step.What.TheVariants.{BadTpdu}
use Rattle.tp4_entity.specs.Entity.{Acted, Entity, at}
use Rattle.tp4_entity.specs.Silence.{is_silent}
use Rattle.tp4_entity.specs.Unit.{EndsWith, Faulty, HearsUnit, Separates, TakesBy, TakesUnit, Whole, all_met, extended_of, ignored}
use Rattle.tp4_entity.proofs.Units.{shorter}

record Read (extended octets : List ℕ) : Type 0 where
  tpdus : List TpduAndSum
  rest : List ℕ
  told : List EndEvent
  separates : Separates extended octets tpdus rest
  ends : EndsWith extended rest told

read_on : (extended octets behind : List ℕ) (tpdu : TpduAndSum) → BeginsWithTpdu extended octets tpdu behind → Read extended behind → Read extended octets
read_on extended octets behind tpdu begins r = record { tpdus = tpdu ∷ r.tpdus; rest = r.rest; told = r.told; separates = (behind, begins, r.separates); ends = r.ends }

read_all : (fuel : ℕ) (extended octets : List ℕ) → length octets ≤ fuel → Read extended octets
read_all fuel extended [] low = record { tpdus = []; rest = []; told = []; separates = refl; ends = Whole refl refl }
read_all zero extended (octet ∷ octets) low = absurd (omega (arith, low))
read_all (suc fuel) extended (octet ∷ octets) low = elim (front_or extended (octet ∷ octets)) [
  | inl front ↦
      let less = shorter extended (octet ∷ octets) front.1 front.0 front.2 in
      read_on extended (octet ∷ octets) front.1 front.0 front.2 (read_all fuel extended front.1 (omega (arith, less, low)))
  | inr bad ↦ record {
    tpdus = [];
    rest = octet ∷ octets;
    told = record { reference = 0; what = BadTpdu bad.0.cause bad.0.place } ∷ [];
    separates = refl;
    ends = Faulty bad.0 (λ e. cc e) bad.1 refl;
  }
]

pub some_outcome : (wrap : ℕ → ℕ → ℕ) (now : ℕ) (entity : Entity) (from octets : List ℕ) → (acted : Acted) × HearsUnit wrap now entity from octets acted
some_outcome wrap now entity from octets =
    let r = read_all (length octets) (extended_of entity) octets (omega arith) in
    let all = all_met wrap now (at now entity) from r.tpdus in (
      record { entity = all.entity; events = all.events ++ r.told; tpdus = all.tpdus },
      record { tpdus = r.tpdus; rest = r.rest; told = r.told; separates = r.separates; ends = r.ends; entity = refl; events = refl; tpdus_are = refl },
    )

pub some_taking : (wrap : ℕ → ℕ → ℕ) (now : ℕ) (entity : Entity) (from octets : List ℕ) → (acted : Acted) × TakesUnit wrap now entity from octets acted
some_taking wrap now entity from octets = by (is_silent now entity)
  where
    by : (b : Bool) → (acted : Acted) × TakesBy b wrap now entity from octets acted
    by true = (ignored now entity, refl)
    by false = some_outcome wrap now entity from octets
