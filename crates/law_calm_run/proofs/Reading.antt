-- A unit that was written for one TPDU is read as that TPDU, where it is read in the format in which it was written: octets that begin with a
-- TPDU have no fault, and the unit is that TPDU alone.
use Rattle.std.proofs.Common.{◌≡◌, ℕ, List, [], ◌∷◌, ◌++◌, refl, sym, ◌∙◌, ap, subst, inl, inr, append-nil}
use Rattle.tpdu.specs.Grammar.{BeginsWithTpdu, IsListedTpdu, IsTpdu}
use Rattle.tpdu.specs.Values.{TpduAndSum, destination_of, format_for}
use Rattle.tpdu.specs.Writing.{IsWritten, is_summed}
use Rattle.tpdu.specs.declared.tpdu.Format.{Format}
use Rattle.tpdu.proofs.Formats.{either}
use Rattle.tpdu.proofs.Fronts.{apart, spelling_first}
use Rattle.tpdu.proofs.WriteLaws.{spelled_is}
use Rattle.tp4_number.specs.Number.{whole}
use Rattle.tp4_flow.specs.declared.step.EndEvent.{EndEvent}
use Rattle.tp4_flow.specs.declared.step.Sent.{Sent}
use Rattle.tp4_conn.specs.Proper.{IsSendable}
use Rattle.tp4_entity.specs.Association.{met}
use Rattle.tp4_entity.specs.Entity.{Acted, Entity, at}
use Rattle.tp4_entity.specs.Unit.{EndsWith, Faulty, HearsUnit, Separates, Whole, all_met, extended_of}
use Rattle.law_tp4_proper.specs.Units.{IsBad, IsOne}
use Rattle.law_tp4_proper.proofs.OneUnits.{one_in_unit}
use Rattle.law_calm_run.proofs.Hall.{IsReadBy}
use Rattle.law_tp4_lawful.proofs.WorldHears.{acted_same}

-- the TPDU, as it is read
abbrev pub was : Sent → TpduAndSum
was sent = (sent.tpdu, is_summed sent.sum sent.tpdu)

module _ (e : Entity) (octets : List ℕ) (sent : Sent) (fits : IsSendable sent) (written : IsWritten sent.format sent.sum sent.tpdu octets) (read : IsReadBy e sent) where
  -- the octets begin with it
  begins : BeginsWithTpdu (extended_of e) octets (was sent) []
  begins = subst (λ (o : List ℕ). BeginsWithTpdu (extended_of e) o (was sent) []) (append-nil octets) (spelling_first (extended_of e) octets [] (was sent) listed (λ _. refl))
    where
      spelled : IsTpdu sent.format octets (was sent)
      spelled = spelled_is sent.format sent.sum sent.tpdu octets written fits.0 fits.1

      listed : IsListedTpdu (extended_of e) octets (was sent)
      listed = elim read [
        | inl none ↦ either sent.format (format_for (extended_of e) (destination_of sent.tpdu)) octets (was sent) none spelled
        | inr same ↦ subst (λ (f : Format). IsTpdu f octets (was sent)) (sym same) spelled
      ]

  -- so no fault is told
  no_fault : (rest : List ℕ) (told : List EndEvent) → octets ≡ rest → EndsWith (extended_of e) rest told → told ≡ []
  no_fault rest told same (Whole none is) = is
  no_fault rest told same (Faulty fault some fails is) =
      absurd (apart (extended_of e) rest [] (was sent) fault (subst (λ (o : List ℕ). BeginsWithTpdu (extended_of e) o (was sent) []) same begins) fails)

  one : (rest : List ℕ) (tpdus : List TpduAndSum) (told : List EndEvent) → Separates (extended_of e) octets tpdus rest → EndsWith (extended_of e) rest told
      → (tpdus ≡ was sent ∷ []) × (told ≡ [])
  one rest tpdus told s ends = elim (one_in_unit (extended_of e) octets rest sent tpdus told fits written s ends) [
    | inl is ↦ (is.tpdus_are ∙ ap (λ (t : TpduAndSum). t ∷ []) (of is), is.told_is)
    | inr bad ↦ absurd (never bad)
  ]
    where
      of : (is : IsOne (extended_of e) sent tpdus rest told) → is.tpdu ≡ was sent
      of is = elim read [
        | inl none ↦ is.read_as.control none
        | inr same ↦ is.read_as.flow same
      ]

      some : (event : EndEvent) → event ∷ [] ≡ [] → ⊥
      some event is = cc is

      never : IsBad tpdus told → ⊥
      never bad = some _ (sym bad.told_is ∙ no_fault rest told (subst (λ (ts : List TpduAndSum). Separates (extended_of e) octets ts rest) bad.tpdus_are s) ends)

-- ---- what the entity does

-- the entity hears that TPDU
pub heard_as : (now : ℕ) (e : Entity) (from octets : List ℕ) (sent : Sent) (acted : Acted) → IsSendable sent → IsWritten sent.format sent.sum sent.tpdu octets
    → HearsUnit whole now e from octets acted → IsReadBy e sent → acted ≡ met whole now (at now e) from (was sent)
heard_as now e from octets sent acted fits written h read =
    let is = one e octets sent fits written read h.rest h.tpdus h.told h.separates h.ends in
    let m : Acted = met whole now (at now e) from (was sent) in
    let all : all_met whole now (at now e) from h.tpdus ≡ all_met whole now (at now e) from (was sent ∷ []) = ap (λ (ts : List TpduAndSum). all_met whole now (at now e) from ts) is.0 in
    acted_same acted m
    (h.entity ∙ ap (λ (a : Acted). a.entity) all)
    (h.events ∙ ap (λ (es : List EndEvent). (all_met whole now (at now e) from h.tpdus).events ++ es) is.1 ∙ append-nil (all_met whole now (at now e) from h.tpdus).events ∙ ap (λ (a : Acted). a.events) all ∙ append-nil m.events)
    (h.tpdus_are ∙ ap (λ (a : Acted). a.tpdus) all ∙ append-nil m.tpdus)
