-- A unit TPDU by TPDU: the formats are those from before it, since what makes an end agree on one reaches to the end of the unit.
use Rattle.std.proofs.Common.{◌≡◌, ◌∙◌, ℕ, zero, suc, replicate, Option, Some, None, Bool, true, false, List, [], ◌∷◌, length, refl, sym, ap, subst, arith}
use Rattle.law_carrier_answers.specs.Answers.{AreOctets}
use Rattle.tpdu.specs.Grammar.{BeginsWithTpdu}
use Rattle.tpdu.specs.Values.{TpduAndSum, reaches_end}
use Rattle.tpdu.proofs.Allowed.{first_is_allowed}
use Rattle.tp4_flow.specs.declared.step.Sent.{Sent}
use Rattle.tp4_conn.specs.Proper.{AreSendable}
use Rattle.tp4_conn.proofs.Sendables.{appended as sendable_both}
use Rattle.tp4_entity.specs.Association.{met}
use Rattle.tp4_entity.specs.Entity.{Acted, Entity, at}
use Rattle.tp4_conn.specs.End.{End}
use Rattle.tp4_entity.specs.Silence.{is_silent}
use Rattle.tp4_entity.specs.Step.{restarted}
use Rattle.tp4_entity.specs.Unit.{HearsUnit, Separates, TakesBy, TakesUnit, all_met, extended_of, followed}
use Rattle.tp4_entity.proofs.Restarts.{none_stands}
use Rattle.tp4_entity.proofs.Units.{met_keeps, shorter}
use Rattle.law_tp4_proper.specs.Octets.{AreAddressed, EntityInOctets, StepInOctets}
use Rattle.law_tp4_proper.specs.Rest.{IsAtRest, IsProperStep}
use Rattle.law_tp4_proper.proofs.Ends.{clocked, met_rests}
use Rattle.law_tp4_proper.proofs.OctetEnds.{clocked_in, met_in}
use Rattle.law_tp4_proper.proofs.OctetSends.{appended}
use Rattle.law_tp4_proper.proofs.Readings.{first_octets}

-- the formats behind a TPDU, where others follow
same_formats : (wrap : ℕ → ℕ → ℕ) (now : ℕ) (e : Entity) (from octets behind : List ℕ) (tpdu next : TpduAndSum) (after : List ℕ) → BeginsWithTpdu (extended_of e) octets tpdu behind
    → BeginsWithTpdu (extended_of e) behind next after → extended_of (met wrap now e from tpdu).entity ≡ extended_of e
same_formats wrap now e from octets behind tpdu next after begins more = by (reaches_end tpdu.0) refl
  where
    by : (b : Bool) → reaches_end tpdu.0 ≡ b → extended_of (met wrap now e from tpdu).entity ≡ extended_of e
    by false is = met_keeps wrap now e from tpdu is
    by true is =
        let none = ap length (begins.end is) in
        let less = shorter (extended_of e) behind after next more in absurd (omega (arith, none, less))

none_met : (now : ℕ) (e : Entity) → IsAtRest now e → IsProperStep now (record { entity = e; events = []; tpdus = [] })
none_met now e r = record { rest = r; tpdus = tt }

both_met : (now : ℕ) (first second : Acted) → IsProperStep now first → IsProperStep now second → IsProperStep now (followed first second)
both_met now first second h k = record { rest = k.rest; tpdus = sendable_both first.tpdus second.tpdus h.tpdus k.tpdus }

-- all of them
all_rest : (wrap : ℕ → ℕ → ℕ) (now : ℕ) (e : Entity) (from octets : List ℕ) (tpdus : List TpduAndSum) (rest : List ℕ) → IsAtRest now e → Separates (extended_of e) octets tpdus rest
    → IsProperStep now (all_met wrap now e from tpdus)
all_rest wrap now e from octets [] rest r s = none_met now e r
all_rest wrap now e from octets (tpdu ∷ []) rest r s =
    let first = met_rests wrap now e from tpdu r (first_is_allowed (extended_of e) octets s.0 tpdu s.1) in
    both_met now (met wrap now e from tpdu) _ first (none_met now (met wrap now e from tpdu).entity first.rest)
all_rest wrap now e from octets (tpdu ∷ next ∷ tpdus) rest r s =
    let first = met_rests wrap now e from tpdu r (first_is_allowed (extended_of e) octets s.0 tpdu s.1) in
    let same = same_formats wrap now e from octets s.0 tpdu next s.2.0 s.1 s.2.1 in
    both_met now (met wrap now e from tpdu) _ first
    (all_rest wrap now (met wrap now e from tpdu).entity from s.0 (next ∷ tpdus) rest first.rest (subst (λ (x : List ℕ). Separates x s.0 (next ∷ tpdus) rest) (sym same) s.2))

pub heard_rests : (wrap : ℕ → ℕ → ℕ) (now : ℕ) (e : Entity) (from octets : List ℕ) (acted : Acted) → IsAtRest now e → HearsUnit wrap now e from octets acted → IsProperStep now acted
heard_rests wrap now e from octets acted r h =
    let all = all_rest wrap now (at now e) from octets h.tpdus h.rest (clocked now now e r) h.separates in record {
      rest = subst (λ (x : Entity). IsAtRest now x) (sym h.entity) all.rest;
      tpdus = subst AreSendable (sym h.tpdus_are) all.tpdus;
    }

pub taken_rests : (wrap : ℕ → ℕ → ℕ) (now : ℕ) (e : Entity) (from octets : List ℕ) (acted : Acted) → IsAtRest now e → TakesUnit wrap now e from octets acted → IsProperStep now acted
taken_rests wrap now e from octets acted r t = by (is_silent now e) t
  where
    by : (b : Bool) → TakesBy b wrap now e from octets acted → IsProperStep now acted
    by true h = subst (λ (x : Acted). IsProperStep now x) (sym h) (record { rest = clocked now now e r; tpdus = tt })
    by false h = heard_rests wrap now e from octets acted r h

module _ (is_address : List ℕ → Bool) where
  none_in : (e : Entity) → EntityInOctets is_address e → StepInOctets is_address (record { entity = e; events = []; tpdus = [] })
  none_in e i = record { entity = i; tpdus = tt }

  both_in : (first second : Acted) → StepInOctets is_address first → StepInOctets is_address second → StepInOctets is_address (followed first second)
  both_in first second h k = record { entity = k.entity; tpdus = appended is_address first.tpdus second.tpdus h.tpdus k.tpdus }

  all_in : (wrap : ℕ → ℕ → ℕ) (now : ℕ) (e : Entity) (from octets : List ℕ) (tpdus : List TpduAndSum) (rest : List ℕ) → is_address from ≡ true → AreOctets octets → IsAtRest now e
      → EntityInOctets is_address e → Separates (extended_of e) octets tpdus rest → StepInOctets is_address (all_met wrap now e from tpdus)
  all_in wrap now e from octets [] rest address h r i s = none_in e i
  all_in wrap now e from octets (tpdu ∷ []) rest address h r i s =
      let first = met_in is_address wrap now e from tpdu i r.proper address (first_octets (extended_of e) octets s.0 tpdu s.1 h).0 in
      both_in (met wrap now e from tpdu) _ first (none_in (met wrap now e from tpdu).entity first.entity)
  all_in wrap now e from octets (tpdu ∷ next ∷ tpdus) rest address h r i s =
      let read = first_octets (extended_of e) octets s.0 tpdu s.1 h in
      let first = met_in is_address wrap now e from tpdu i r.proper address read.0 in
      let at_rest = met_rests wrap now e from tpdu r (first_is_allowed (extended_of e) octets s.0 tpdu s.1) in
      let same = same_formats wrap now e from octets s.0 tpdu next s.2.0 s.1 s.2.1 in
      both_in (met wrap now e from tpdu) _ first
      (all_in wrap now (met wrap now e from tpdu).entity from s.0 (next ∷ tpdus) rest address read.1 at_rest.rest first.entity
      (subst (λ (x : List ℕ). Separates x s.0 (next ∷ tpdus) rest) (sym same) s.2))

  pub heard_in : (wrap : ℕ → ℕ → ℕ) (now : ℕ) (e : Entity) (from octets : List ℕ) (acted : Acted) → is_address from ≡ true → AreOctets octets → IsAtRest now e → EntityInOctets is_address e
      → HearsUnit wrap now e from octets acted → StepInOctets is_address acted
  heard_in wrap now e from octets acted address h r i u =
      let all = all_in wrap now (at now e) from octets u.tpdus u.rest address h (clocked now now e r) (clocked_in is_address now e i) u.separates in record {
        entity = subst (λ (x : Entity). EntityInOctets is_address x) (sym u.entity) all.entity;
        tpdus = subst (λ (l : List Sent). AreAddressed is_address l) (sym u.tpdus_are) all.tpdus;
      }

  pub taken_in : (wrap : ℕ → ℕ → ℕ) (now : ℕ) (e : Entity) (from octets : List ℕ) (acted : Acted) → is_address from ≡ true → AreOctets octets → IsAtRest now e → EntityInOctets is_address e
      → TakesUnit wrap now e from octets acted → StepInOctets is_address acted
  taken_in wrap now e from octets acted address h r i t = by (is_silent now e) t
    where
      by : (b : Bool) → TakesBy b wrap now e from octets acted → StepInOctets is_address acted
      by true is = subst (λ (x : Acted). StepInOctets is_address x) (sym is) (record { entity = clocked_in is_address now e i; tpdus = tt })
      by false heard = heard_in wrap now e from octets acted address h r i heard

  long_none : (count : ℕ) → length (replicate {A = Option End} count None) ≡ count
  long_none zero = refl
  long_none (suc count) = ap suc (long_none count)

  pub restarting_in : (now : ℕ) (e : Entity) → EntityInOctets is_address e → EntityInOctets is_address (restarted now e)
  restarting_in now e i = record {
    own = i.own;
    few = let long = long_none (length e.ends) in let few = i.few in omega (arith, long, few);
    ends = λ reference end h. let gone : None ≡ Some end = sym (none_stands now reference e) ∙ h in absurd (cc gone);
  }
