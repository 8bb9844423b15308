-- All that the ends of an entity tell can be read back, and the entity keeps what its ends keep.
use Rattle.std.proofs.Common.{◌≡◌, ◌<◌, ◌∙◌, ℕ, zero, suc, ◌+◌, ◌-◌, Bool, true, false, not, List, [], ◌∷◌, length, Option, Some, None, refl, sym, subst, arith}
use Rattle.std.specs.List.{list_any}
use Rattle.std.proofs.lemmas.List.{length-set}
use Rattle.std.proofs.lemmas.Option.{none-some}
use Rattle.law_carrier_answers.specs.Answers.{AreOctets}
use Rattle.tpdu.specs.Values.{TpduAndSum, destination_of, format_for}
use Rattle.tpdu.specs.Writing.{IsAllowed}
use Rattle.tpdu.specs.declared.tpdu.Format.{Format}
use Rattle.tpdu.specs.declared.tpdu.Tpdu.{Tpdu}
use Rattle.tpdu.specs.declared.tpdu.Tpdu.TheVariants.{Cr, Cc, Dr, Dc, Dt, Ed, Ak, Ea, Er}
use Rattle.tpdu.proofs.Allowed.{first_is_allowed}
use Rattle.tp4_number.proofs.Past.{if_kept}
use Rattle.tp4_flow.specs.declared.step.EndEvent.{EndEvent}
use Rattle.tp4_flow.specs.declared.step.Sent.{Sent}
use Rattle.tp4_conn.specs.Calls.{IsCall, call_refusal}
use Rattle.tp4_conn.specs.End.{End, Moved, end_of}
use Rattle.tp4_conn.specs.Making.{connected, on_cr}
use Rattle.tp4_conn.specs.Matching.{is_match}
use Rattle.tp4_conn.specs.Table.{Called, Took, Ticked, due, stepped}
use Rattle.tp4_conn.specs.declared.call.ConnectRequest.{ConnectRequest}
use Rattle.tp4_conn.specs.declared.call.UserCall.{UserCall}
use Rattle.tp4_entity.specs.Association.{answers, calls, is_called, is_registered, met, met_by, new_end, requested, unmatched}
use Rattle.tp4_entity.specs.Entity.{Acted, Entity, at, end_at, moved, with_end}
use Rattle.tp4_entity.specs.References.{least_free}
use Rattle.tp4_entity.specs.Silence.{is_silent}
use Rattle.tp4_entity.specs.Step.{call_of, calling, calling_end, connecting, end_refusal, first_due, kept_end, restarted, ticking, ticking_at, ticking_end, user_refusal}
use Rattle.tp4_entity.specs.Unit.{EndsWith, Faulty, HearsUnit, Separates, TakesBy, TakesUnit, Whole, all_met, extended_of, followed}
use Rattle.tp4_entity.proofs.PlaceLaws.{Place}
use Rattle.tp4_entity.proofs.Restarts.{none_stands}
use Rattle.tp4_entity.proofs.Standings.{free_least}
use Rattle.law_tp4_proper.specs.Octets.{CallInOctets, EntityInOctets, HasOctets, IsPair}
use Rattle.law_tp4_proper.specs.Rest.{AreProper}
use Rattle.law_tp4_proper.proofs.Ends.{not_refused, same_end, set_ends}
use Rattle.law_tp4_proper.proofs.Readings.{first_octets}
use Rattle.law_told.proofs.Sends.{AreToldBy, told_both}
use Rattle.law_told.proofs.FaultPlaces.{fault_low}
use Rattle.law_told.proofs.Rows.{RowTold, StageFew, after_call, called_told, connected_told, indicated_told, stage_after, stage_later, ticked_end_told, took_told}

-- what each end keeps
abbrev pub EntityFew : ℕ → Entity → Type 0
EntityFew n e = (reference : ℕ) (end : End) → end_at e reference ≡ Some end → StageFew n end.stage

pub record ActedTold (n : ℕ) (acted : Acted) : Type 0 where
  pub entity : EntityFew n acted.entity
  pub events : AreToldBy n acted.events

pub entity_later : (n : ℕ) (e : Entity) → EntityFew n e → EntityFew (n + 1) e
entity_later n e k = λ reference end is. stage_later n end.stage (k reference end is)

-- by as many units as one likes
pub entity_on : (n more : ℕ) (e : Entity) → EntityFew n e → EntityFew (n + more) e
entity_on n zero e k = subst (λ (m : ℕ). EntityFew m e) (let same : n ≡ n + 0 = omega arith in same) k
entity_on n (suc more) e k = subst (λ (m : ℕ). EntityFew m e) (let same : n + more + 1 ≡ n + suc more = omega arith in same) (entity_later (n + more) e (entity_on n more e k))

clocked : (n now : ℕ) (e : Entity) → EntityFew n e → EntityFew n (at now e)
clocked n now e k = λ reference end is. k reference end is

stays : (n : ℕ) (e : Entity) (tpdus : List Sent) → EntityFew n e → ActedTold n (answers e tpdus)
stays n e tpdus k = record { entity = k; events = tt }

moved_told : (n : ℕ) (e : Entity) (reference : ℕ) (m : Moved) → EntityFew n e → RowTold n m → ActedTold n (moved e reference m)
moved_told n e reference m k r = record {
  entity = set_ends (λ (end : End). StageFew n end.stage) e reference (Some (end_of m)) k (λ end is. same_end (λ (x : End). StageFew n x.stage) (end_of m) end r.stage is);
  events = r.events;
}

pub connecting_told : (n now reference : ℕ) (e : Entity) (request : ConnectRequest) → EntityFew n e → ActedTold n (connecting now e reference request)
connecting_told n now reference e request k = moved_told n (at now e) reference (connected now (call_of e reference request)) (clocked n now e k) (connected_told n now (call_of e reference request))

-- ---- a call

module _ (is_address : List ℕ → Bool) where
  called_end : (n : ℕ) (wrap : ℕ → ℕ → ℕ) (now reference : ℕ) (e : Entity) (call : UserCall) (place : Place) → end_at e reference ≡ place → end_refusal call place ≡ None → EntityInOctets is_address e → AreProper e
      → EntityFew n e → CallInOctets is_address call → IsCall call → ActedTold (after_call n call) (calling_end wrap now e reference call place)
  called_end n wrap now reference e call None is none i p k c fits = absurd cc
  called_end n wrap now reference e call (Some end) is none i p k c fits =
      moved_told (after_call n call) e reference (stepped wrap now end (Called call)) (λ other one there. stage_after n call one.stage (k other one there))
      (called_told is_address n wrap now end call (i.ends reference end is) (p.ends reference end is).proper.size (k reference end is) c fits (not_refused (call_refusal end.base end.stage call) none))

  pub calling_told : (n : ℕ) (wrap : ℕ → ℕ → ℕ) (now reference : ℕ) (e : Entity) (call : UserCall) → user_refusal e reference call ≡ None → EntityInOctets is_address e → AreProper e → EntityFew n e
      → CallInOctets is_address call → IsCall call → ActedTold (after_call n call) (calling wrap now e reference call)
  calling_told n wrap now reference e call none i p k c fits =
      called_end n wrap now reference (at now e) call (end_at e reference) refl none (record { own = i.own; few = i.few; ends = i.ends }) (record { timers = p.timers; inactive = p.inactive; ends = p.ends })
      (clocked n now e k) c fits

-- ---- a TPDU

-- there are no more references than two octets have
abbrev HasFew : Entity → Type 0
HasFew e = length e.ends < 65536

set_few : (e : Entity) (reference : ℕ) (place : Place) → HasFew e → HasFew (with_end e reference place)
set_few e reference place few = omega (arith, length-set e.ends (reference - 1) place, few)

record MetTold (n : ℕ) (acted : Acted) : Type 0 where
  told : ActedTold n acted
  few : HasFew acted.entity

moved_met : (n : ℕ) (e : Entity) (reference : ℕ) (m : Moved) → EntityFew n e → HasFew e → RowTold n m → MetTold n (moved e reference m)
moved_met n e reference m k few r = record { told = moved_told n e reference m k r; few = set_few e reference (Some (end_of m)) few }

stays_met : (n : ℕ) (e : Entity) (tpdus : List Sent) → EntityFew n e → HasFew e → MetTold n (answers e tpdus)
stays_met n e tpdus k few = record { told = stays n e tpdus k; few = few }

module _ (n : ℕ) (wrap : ℕ → ℕ → ℕ) (now : ℕ) (from : List ℕ) (address : AreOctets from) (some : 0 < length from) (width : Format) where
  unmatched_told : (e : Entity) (tpdu : Tpdu) → EntityFew n e → HasFew e → MetTold n (unmatched e from tpdu)
  unmatched_told e tpdu k few = record { told = record { entity = k; events = (tt, tt) }; few = few }

  met_end : (e : Entity) (tpdu : Tpdu) (sum : Bool) (reference : ℕ) (place : Place) → end_at e reference ≡ place → EntityFew n e → HasFew e → HasOctets tpdu → IsAllowed width tpdu
      → MetTold n (met_by wrap now e from (tpdu, sum) reference place)
  met_end e tpdu sum reference None is k few t a = unmatched_told e tpdu k few
  met_end e tpdu sum reference (Some end) is k few t a =
      if_kept (MetTold n) (is_match end.base end.stage from tpdu) (moved e reference (stepped wrap now end (Took tpdu sum))) (unmatched e from tpdu)
      (λ _. moved_met n e reference (stepped wrap now end (Took tpdu sum)) k few (took_told n wrap now width end tpdu sum (k reference end is) t a))
      (λ _. unmatched_told e tpdu k few)

  made_told : (e : Entity) (reference : ℕ) (cr : Tpdu) (made : Option Moved) → on_cr now reference from e.timers cr ≡ made → EntityFew n e → HasFew e → IsPair reference → HasOctets cr → IsAllowed width cr
      → MetTold n (calls e reference made)
  made_told e reference cr None is k few low t a = stays_met n e [] k few
  made_told e reference cr (Some m) is k few low t a = moved_met n e reference m k few (indicated_told n now reference width from e.timers cr m low address some t a is)

  new_end_told : (e : Entity) (source : ℕ) (cr : Tpdu) (found : Option ℕ) → least_free now e ≡ found → EntityFew n e → HasFew e → HasOctets cr → IsAllowed width cr → MetTold n (new_end now e from source cr found)
  new_end_told e source cr None is k few t a = stays_met n e _ k few
  new_end_told e source cr (Some reference) is k few t a =
      let place = free_least now reference e is in
      made_told e reference cr (on_cr now reference from e.timers cr) refl k few (omega (arith, place.most, few)) t a

  requested_told : (e : Entity) (source : ℕ) (called : List ℕ) (cr : Tpdu) → EntityFew n e → HasFew e → HasOctets cr → IsAllowed width cr → MetTold n (requested now e from source called cr)
  requested_told e source called cr k few t a =
      if_kept (MetTold n) (list_any (is_called false from source) e.ends) _ _
      (λ _. stays_met n e [] k few)
      (λ _. if_kept (MetTold n) (list_any (is_called true from source) e.ends) _ _
      (λ _. stays_met n e _ k few)
      (λ _. if_kept (MetTold n) (not (is_registered e.selectors called)) _ _
      (λ _. stays_met n e _ k few)
      (λ _. new_end_told e source cr (least_free now e) refl k few t a)))

  met_told : (e : Entity) (tpdu : TpduAndSum) → EntityFew n e → HasFew e → HasOctets tpdu.0 → IsAllowed width tpdu.0 → MetTold n (met wrap now e from tpdu)
  met_told e (Cr credit source format calling called size preferred extra version classes ack_time text, sum) k few t a =
      requested_told e source called (Cr credit source format calling called size preferred extra version classes ack_time text) k few t a
  met_told e (Cc credit destination source format calling called size preferred extra version classes ack_time text, sum) k few t a =
      met_end e (Cc credit destination source format calling called size preferred extra version classes ack_time text) sum destination (end_at e destination) refl k few t a
  met_told e (Dr destination source reason info text, sum) k few t a = met_end e (Dr destination source reason info text) sum destination (end_at e destination) refl k few t a
  met_told e (Dc destination source, sum) k few t a = met_end e (Dc destination source) sum destination (end_at e destination) refl k few t a
  met_told e (Dt destination last number text, sum) k few t a = met_end e (Dt destination last number text) sum destination (end_at e destination) refl k few t a
  met_told e (Ed destination last number text, sum) k few t a = met_end e (Ed destination last number text) sum destination (end_at e destination) refl k few t a
  met_told e (Ak destination number credit subsequence confirmation, sum) k few t a =
      met_end e (Ak destination number credit subsequence confirmation) sum destination (end_at e destination) refl k few t a
  met_told e (Ea destination number, sum) k few t a = met_end e (Ea destination number) sum destination (end_at e destination) refl k few t a
  met_told e (Er destination cause rejected, sum) k few t a = met_end e (Er destination cause rejected) sum destination (end_at e destination) refl k few t a

-- ---- a unit

module _ (n : ℕ) (wrap : ℕ → ℕ → ℕ) (now : ℕ) (from : List ℕ) (address : AreOctets from) (some : 0 < length from) where
  both_told : (first second : Acted) → ActedTold n first → ActedTold n second → ActedTold n (followed first second)
  both_told first second h k = record { entity = k.entity; events = told_both n first.events second.events h.events k.events }

  -- the octets that are left, and what was told of those before them
  record AllTold (e : Entity) (tpdus : List TpduAndSum) (rest : List ℕ) : Type 0 where
    told : ActedTold n (all_met wrap now e from tpdus)
    octets : AreOctets rest

  all_told : (extended : List ℕ) (e : Entity) (octets : List ℕ) (tpdus : List TpduAndSum) (rest : List ℕ) → AreOctets octets → EntityFew n e → HasFew e → Separates extended octets tpdus rest → AllTold e tpdus rest
  all_told extended e octets [] rest h k few s = record { told = record { entity = k; events = tt }; octets = subst AreOctets s h }
  all_told extended e octets (tpdu ∷ tpdus) rest h k few s =
      let read = first_octets extended octets s.0 tpdu s.1 h in
      let first = met_told n wrap now from address some (format_for extended (destination_of tpdu.0)) e tpdu k few read.0 (first_is_allowed extended octets s.0 tpdu s.1) in
      let others = all_told extended (met wrap now e from tpdu).entity s.0 tpdus rest read.1 first.told.entity first.few s.2 in
      record { told = both_told (met wrap now e from tpdu) (all_met wrap now (met wrap now e from tpdu).entity from tpdus) first.told others.told; octets = others.octets }

  ends_told : (extended rest : List ℕ) (told : List EndEvent) → AreOctets rest → EndsWith extended rest told → AreToldBy n told
  ends_told extended rest told h (Whole none is) = subst (AreToldBy n) (sym is) tt
  ends_told extended rest told h (Faulty fault some_left why is) = subst (AreToldBy n) (sym is) (fault_low extended rest fault h why, tt)

  heard_told : (e : Entity) (octets : List ℕ) (acted : Acted) → AreOctets octets → EntityFew n e → HasFew e → HearsUnit wrap now e from octets acted → ActedTold n acted
  heard_told e octets acted h k few u =
      let all = all_told (extended_of e) (at now e) octets u.tpdus u.rest h (clocked n now e k) few u.separates in record {
        entity = subst (λ (x : Entity). EntityFew n x) (sym u.entity) all.told.entity;
        events = subst (AreToldBy n) (sym u.events) (told_both n (all_met wrap now (at now e) from u.tpdus).events u.told all.told.events (ends_told (extended_of e) u.rest u.told all.octets u.ends));
      }

  pub taken_told : (e : Entity) (octets : List ℕ) (acted : Acted) → AreOctets octets → EntityFew n e → length e.ends < 65536 → TakesUnit wrap now e from octets acted → ActedTold n acted
  taken_told e octets acted h k few t = by (is_silent now e) t
    where
      by : (b : Bool) → TakesBy b wrap now e from octets acted → ActedTold n acted
      by true is = subst (ActedTold n) (sym is) (record { entity = clocked n now e k; events = (tt, tt) })
      by false heard = heard_told e octets acted h k few heard

-- ---- a tick, and a new beginning

kept_few : (n : ℕ) (m : Moved) (next : Option ℕ) → RowTold n m → (end : End) → kept_end m next ≡ Some end → StageFew n end.stage
kept_few n m None r end h = absurd (none-some _ h)
kept_few n m (Some tick) r end h = same_end (λ (x : End). StageFew n x.stage) (end_of m) end r.stage h

tick_end : (n : ℕ) (wrap : ℕ → ℕ → ℕ) (now : ℕ) (e : Entity) (reference : ℕ) (place : Place) → end_at e reference ≡ place → EntityFew n e → ActedTold n (ticking_end wrap now e reference place)
tick_end n wrap now e reference None is k = stays n e [] k
tick_end n wrap now e reference (Some end) is k =
    let m = stepped wrap now end Ticked in
    let r = ticked_end_told n wrap now end (k reference end is) in
    record {
      entity = set_ends (λ (x : End). StageFew n x.stage) e reference (kept_end m (due m.base m.stage)) k (kept_few n m (due m.base m.stage) r);
      events = r.events;
    }

tick_at : (n : ℕ) (wrap : ℕ → ℕ → ℕ) (now : ℕ) (e : Entity) (found : Option ℕ) → EntityFew n e → ActedTold n (ticking_at wrap now e found)
tick_at n wrap now e None k = stays n e [] k
tick_at n wrap now e (Some reference) k = tick_end n wrap now e reference (end_at e reference) refl k

pub ticking_told : (n : ℕ) (wrap : ℕ → ℕ → ℕ) (now : ℕ) (e : Entity) → EntityFew n e → ActedTold n (ticking wrap now e)
ticking_told n wrap now e k = tick_at n wrap now (at now e) (first_due now e) (clocked n now e k)

pub restarting_few : (n now : ℕ) (e : Entity) → EntityFew n (restarted now e)
restarting_few n now e = λ reference end h. let gone : None ≡ Some end = sym (none_stands now reference e) ∙ h in absurd (cc gone)
