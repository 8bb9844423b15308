-- A unit has one outcome: octets have one TPDU at their front or a fault, and never both.
use Rattle.std.proofs.Common.{◌≡◌, ℕ, Bool, true, false, List, [], ◌∷◌, ◌++◌, length, Some, refl, sym, ap, subst, ◌∙◌, arith}
use Rattle.tpdu.specs.Faults.{IsTpduFault}
use Rattle.tpdu.specs.Grammar.{BeginsWithTpdu}
use Rattle.tpdu.specs.Values.{TpduAndSum}
use Rattle.tpdu.specs.declared.fault.TpduFault.{TpduFault}
use Rattle.tpdu.proofs.Fronts.{apart, same_front}
use Rattle.tp4_flow.specs.declared.step.EndEvent.{EndEvent}
use Rattle.tp4_flow.specs.declared.step.What.TheVariants.{BadTpdu, Silent}
use Rattle.tp4_flow.specs.Told.{Told, Grows}
use Rattle.tp4_number.specs.Number.{wire}
use Rattle.tp4_entity.specs.Entity.{Acted, Entity, at}
use Rattle.tp4_entity.specs.Silence.{is_silent}
use Rattle.tp4_entity.specs.Step.{DoesSo}
use Rattle.tp4_entity.specs.Unit.{ignored, EndsWith, Faulty, HearsUnit, TakesBy, TakesUnit, Separates, Whole, all_met, extended_of}
use Rattle.tp4_entity.proofs.Units.{shorter}

-- nothing stands at the front of what ends the reading
ended : (extended octets rest behind : List ℕ) (told : List EndEvent) (tpdu : TpduAndSum) → EndsWith extended rest told → octets ≡ rest → BeginsWithTpdu extended octets tpdu behind → ⊥
ended extended octets rest behind told tpdu (Whole none is) same begins =
    let less = shorter extended octets behind tpdu begins in
    let zero = ap length (same ∙ none) in
    omega (arith, less, zero)
ended extended octets rest behind told tpdu (Faulty fault some fails is) same begins = apart extended octets behind tpdu fault begins (subst (λ (o : List ℕ). IsTpduFault extended o fault) (sym same) fails)

bad : TpduFault → List EndEvent
bad fault = record { reference = 0; what = BadTpdu fault.cause fault.place } ∷ []

same_fault : (one other : TpduFault) → Some one ≡ Some other → one ≡ other
same_fault one other h = cc h

one_end : (extended rest last : List ℕ) (told said : List EndEvent) → EndsWith extended rest told → EndsWith extended last said → rest ≡ last → told ≡ said
one_end extended rest last told said (Whole none is) (Whole empty are) same = is ∙ sym are
one_end extended rest last told said (Whole none is) (Faulty fault some fails are) same = absurd (some (sym same ∙ none))
one_end extended rest last told said (Faulty fault some fails is) (Whole empty are) same = absurd (some (same ∙ empty))
one_end extended rest last told said (Faulty fault some fails is) (Faulty other more fault_is are) same =
    let f = same_fault fault other (sym (subst (λ (o : List ℕ). IsTpduFault extended o fault) same fails) ∙ fault_is) in
    is ∙ ap (λ (x : TpduFault). record { reference = 0; what = BadTpdu x.cause x.place } ∷ []) f ∙ sym are

-- one list of TPDUs, and one end
pub record Alike (tpdus others : List TpduAndSum) (told said : List EndEvent) : Type 0 where
  pub tpdus_are : tpdus ≡ others
  pub told_is : told ≡ said

alike : (extended octets rest last : List ℕ) (tpdus others : List TpduAndSum) (told said : List EndEvent) → Separates extended octets tpdus rest → EndsWith extended rest told
    → Separates extended octets others last → EndsWith extended last said → Alike tpdus others told said
alike extended octets rest last [] [] told said s e t f = record { tpdus_are = refl; told_is = one_end extended rest last told said e f (sym s ∙ t) }
alike extended octets rest last [] (tpdu ∷ others) told said s e t f = absurd (ended extended octets rest t.0 told tpdu e s t.1)
alike extended octets rest last (tpdu ∷ tpdus) [] told said s e t f = absurd (ended extended octets last s.0 said tpdu f t s.1)
alike extended octets rest last (tpdu ∷ tpdus) (other ∷ others) told said s e t f =
    let front = same_front extended octets tpdu other s.0 t.0 s.1 t.1 in
    let later = alike extended s.0 rest last tpdus others told said s.2 e (subst (λ (o : List ℕ). Separates extended o others last) (sym front.1) t.2) f in
    record { tpdus_are = λ i. front.0 i ∷ later.tpdus_are i; told_is = later.told_is }

pub one_outcome : (wrap : ℕ → ℕ → ℕ) (now : ℕ) (old : Entity) (from octets : List ℕ) (one other : Acted) → HearsUnit wrap now old from octets one → HearsUnit wrap now old from octets other → one ≡ other
one_outcome wrap now old from octets one other h k =
    let same = alike (extended_of old) octets h.rest k.rest h.tpdus k.tpdus h.told k.told h.separates h.ends k.separates k.ends in
    let all = ap (all_met wrap now (at now old) from) same.tpdus_are in
    λ i. record {
      entity = (h.entity ∙ ap (λ (a : Acted). a.entity) all ∙ sym k.entity) i;
      events = (h.events ∙ (λ j. (all j).events ++ same.told_is j) ∙ sym k.events) i;
      tpdus = (h.tpdus_are ∙ ap (λ (a : Acted). a.tpdus) all ∙ sym k.tpdus_are) i;
    }

takes_one : (quiet : Bool) (wrap : ℕ → ℕ → ℕ) (now : ℕ) (old : Entity) (from octets : List ℕ) (one other : Acted) → TakesBy quiet wrap now old from octets one → TakesBy quiet wrap now old from octets other → one ≡ other
takes_one true wrap now old from octets one other h k = h ∙ sym k
takes_one false wrap now old from octets one other h k = one_outcome wrap now old from octets one other h k

-- silent or not
pub one_taking : (wrap : ℕ → ℕ → ℕ) (now : ℕ) (old : Entity) (from octets : List ℕ) (one other : Acted) → TakesUnit wrap now old from octets one → TakesUnit wrap now old from octets other → one ≡ other
one_taking wrap now old from octets one other h k = takes_one (is_silent now old) wrap now old from octets one other h k

-- a silent entity tells the unit alone
pub ignores : (now : ℕ) (old new : Entity) (from octets : List ℕ) (was out : Told) → is_silent now old ≡ true → new ≡ at now old → Grows was (record { reference = 0; what = Silent } ∷ []) [] out
    → (x : Acted) × TakesUnit wire now old from octets x × DoesSo x new was out
ignores now old new from octets was out silent same told =
    (ignored now old, subst (λ b. TakesBy b wire now old from octets (ignored now old)) (sym silent) refl, record { entity_is = same; told = told })
