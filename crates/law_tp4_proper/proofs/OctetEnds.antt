-- All ends of an entity stay in octets, and so does what it sends.
use Rattle.std.proofs.Common.{◌≡◌, ◌<◌, ℕ, Bool, true, false, ◌==◌, ◌-◌, not, List, [], ◌∷◌, length, Option, Some, None, refl, arith}
use Rattle.std.specs.List.{list_any}
use Rattle.std.proofs.lemmas.List.{length-set}
use Rattle.std.proofs.lemmas.Option.{none-some}
use Rattle.tpdu.specs.Values.{TpduAndSum}
use Rattle.tpdu.specs.declared.tpdu.Tpdu.{Tpdu}
use Rattle.tpdu.specs.declared.tpdu.Tpdu.TheVariants.{Cr, Cc, Dr, Dc, Dt, Ed, Ak, Ea, Er}
use Rattle.tp4_number.proofs.Past.{if_kept}
use Rattle.tp4_flow.specs.declared.step.Sent.{Sent}
use Rattle.tp4_conn.specs.End.{End, IsTimed, Moved, end_of}
use Rattle.tp4_conn.specs.Making.{connected, on_cr}
use Rattle.tp4_conn.specs.Matching.{is_match}
use Rattle.tp4_conn.specs.Table.{Called, Took, Ticked, due, stepped}
use Rattle.tp4_conn.specs.declared.call.ConnectRequest.{ConnectRequest}
use Rattle.tp4_conn.specs.declared.call.UserCall.{UserCall}
use Rattle.tp4_entity.specs.Association.{answers, calls, is_called, is_registered, met, met_by, new_end, refusal, requested, stateless, unmatched}
use Rattle.tp4_entity.specs.Entity.{Entity, at, end_at, moved, with_end}
use Rattle.tp4_entity.specs.References.{least_free}
use Rattle.tp4_entity.specs.Step.{call_of, calling, calling_end, connecting, first_due, kept_end, ticking, ticking_at, ticking_end}
use Rattle.tp4_entity.proofs.PlaceLaws.{Place}
use Rattle.tp4_entity.proofs.Standings.{free_least}
use Rattle.law_tp4_proper.specs.Octets.{AreAddressed, CallInOctets, ConnectInOctets, EndInOctets, EntityInOctets, HasOctets, IsPair, StepInOctets}
use Rattle.law_tp4_proper.specs.Rest.{AreProper}
use Rattle.law_tp4_proper.proofs.Ends.{same_end, set_ends}
use Rattle.law_tp4_proper.proofs.OctetRows.{RowInOctets, called_in, connected_in, indicated_in, ticked_end_in, took_in}

set_few : (e : Entity) (reference : ℕ) (place : Place) → length e.ends < 65536 → length (with_end e reference place).ends < 65536
set_few e reference place few = omega (arith, length-set e.ends (reference - 1) place, few)

module _ (is_address : List ℕ → Bool) where
  stays_in : (e : Entity) (tpdus : List Sent) → EntityInOctets is_address e → AreAddressed is_address tpdus → StepInOctets is_address (answers e tpdus)
  stays_in e tpdus i fits = record { entity = i; tpdus = fits }

  moved_in : (e : Entity) (reference : ℕ) (m : Moved) → EntityInOctets is_address e → RowInOctets is_address m → StepInOctets is_address (moved e reference m)
  moved_in e reference m i r = record {
    entity = record {
      own = i.own;
      few = set_few e reference (Some (end_of m)) i.few;
      ends = set_ends (EndInOctets is_address) e reference (Some (end_of m)) i.ends (λ end is. same_end (EndInOctets is_address) (end_of m) end r.end is);
    };
    tpdus = r.tpdus;
  }

  pub clocked_in : (now : ℕ) (e : Entity) → EntityInOctets is_address e → EntityInOctets is_address (at now e)
  clocked_in now e i = record { own = i.own; few = i.few; ends = i.ends }

  timed_at : (e : Entity) (reference : ℕ) (end : End) → AreProper e → end_at e reference ≡ Some end → IsTimed end.base.timers
  timed_at e reference end p h = (p.ends reference end h).proper.timers

  pub connecting_in : (now reference : ℕ) (e : Entity) (request : ConnectRequest) → EntityInOctets is_address e → ConnectInOctets is_address (call_of e reference request)
      → StepInOctets is_address (connecting now e reference request)
  connecting_in now reference e request i c = moved_in (at now e) reference (connected now (call_of e reference request)) (clocked_in now e i) (connected_in is_address now (call_of e reference request) c)

  called_end : (wrap : ℕ → ℕ → ℕ) (now reference : ℕ) (e : Entity) (call : UserCall) (place : Place) → end_at e reference ≡ place → EntityInOctets is_address e → AreProper e → CallInOctets is_address call
      → StepInOctets is_address (calling_end wrap now e reference call place)
  called_end wrap now reference e call None is i p c = stays_in e [] i tt
  called_end wrap now reference e call (Some end) is i p c =
      moved_in e reference (stepped wrap now end (Called call)) i (called_in is_address wrap now end call (i.ends reference end is) (timed_at e reference end p is) c)

  pub calling_in : (wrap : ℕ → ℕ → ℕ) (now reference : ℕ) (e : Entity) (call : UserCall) → EntityInOctets is_address e → AreProper e → CallInOctets is_address call
      → StepInOctets is_address (calling wrap now e reference call)
  calling_in wrap now reference e call i p c =
      called_end wrap now reference (at now e) call (end_at e reference) refl (clocked_in now e i) (record { timers = p.timers; inactive = p.inactive; ends = p.ends }) c

  -- ---- a TPDU

  refusal_in : (to : List ℕ) (reference reason : ℕ) → is_address to ≡ true → IsPair reference → reason < 256 → AreAddressed is_address (refusal to reference reason ∷ [])
  refusal_in to reference reason address pair low = ((address, (pair, omega arith, low, tt)), tt)

  stateless_in : (from : List ℕ) (tpdu : Tpdu) → is_address from ≡ true → HasOctets tpdu → AreAddressed is_address (stateless from tpdu)
  stateless_in from (Cc credit destination source width calling called size preferred extra version classes ack_time text) address t = refusal_in from source 132 address t.1 (omega arith)
  stateless_in from (Dr destination source reason info text) address t = if_kept (AreAddressed is_address) (source == 0) _ _ (λ _. tt) (λ _. ((address, (t.1, t.0)), tt))
  stateless_in from (Cr credit source width calling called size preferred extra version classes ack_time text) address t = tt
  stateless_in from (Dc destination source) address t = tt
  stateless_in from (Dt destination last number text) address t = tt
  stateless_in from (Ed destination last number text) address t = tt
  stateless_in from (Ak destination number credit subsequence confirmation) address t = tt
  stateless_in from (Ea destination number) address t = tt
  stateless_in from (Er destination cause rejected) address t = tt

  unmatched_in : (e : Entity) (from : List ℕ) (tpdu : Tpdu) → EntityInOctets is_address e → is_address from ≡ true → HasOctets tpdu → StepInOctets is_address (unmatched e from tpdu)
  unmatched_in e from tpdu i address t = record { entity = i; tpdus = stateless_in from tpdu address t }

  met_end : (wrap : ℕ → ℕ → ℕ) (now : ℕ) (e : Entity) (from : List ℕ) (tpdu : Tpdu) (sum : Bool) (reference : ℕ) (place : Place) → end_at e reference ≡ place → EntityInOctets is_address e → AreProper e
      → is_address from ≡ true → HasOctets tpdu → StepInOctets is_address (met_by wrap now e from (tpdu, sum) reference place)
  met_end wrap now e from tpdu sum reference None is i p address t = unmatched_in e from tpdu i address t
  met_end wrap now e from tpdu sum reference (Some end) is i p address t =
      if_kept (StepInOctets is_address) (is_match end.base end.stage from tpdu) (moved e reference (stepped wrap now end (Took tpdu sum))) (unmatched e from tpdu)
      (λ _. moved_in e reference (stepped wrap now end (Took tpdu sum)) i (took_in is_address wrap now end tpdu sum (i.ends reference end is) (timed_at e reference end p is) t))
      (λ _. unmatched_in e from tpdu i address t)

  made_in : (now : ℕ) (e : Entity) (reference : ℕ) (from : List ℕ) (cr : Tpdu) (made : Option Moved) → on_cr now reference from e.timers cr ≡ made → EntityInOctets is_address e → IsPair reference
      → is_address from ≡ true → HasOctets cr → StepInOctets is_address (calls e reference made)
  made_in now e reference from cr None is i low address t = stays_in e [] i tt
  made_in now e reference from cr (Some m) is i low address t = moved_in e reference m i (indicated_in is_address now reference from e.timers cr m low address t is)

  new_end_in : (now : ℕ) (e : Entity) (from : List ℕ) (source : ℕ) (cr : Tpdu) (found : Option ℕ) → least_free now e ≡ found → EntityInOctets is_address e → IsPair source
      → is_address from ≡ true → HasOctets cr → StepInOctets is_address (new_end now e from source cr found)
  new_end_in now e from source cr None is i low address t = stays_in e _ i (refusal_in from source 129 address low (omega arith))
  new_end_in now e from source cr (Some reference) is i low address t =
      let free = free_least now reference e is in
      made_in now e reference from cr (on_cr now reference from e.timers cr) refl i (omega (arith, free.most, i.few)) address t

  requested_in : (now : ℕ) (e : Entity) (from : List ℕ) (source : ℕ) (called : List ℕ) (cr : Tpdu) → EntityInOctets is_address e → IsPair source
      → is_address from ≡ true → HasOctets cr → StepInOctets is_address (requested now e from source called cr)
  requested_in now e from source called cr i low address t =
      if_kept (StepInOctets is_address) (list_any (is_called false from source) e.ends) _ _
      (λ _. stays_in e [] i tt)
      (λ _. if_kept (StepInOctets is_address) (list_any (is_called true from source) e.ends) _ _
      (λ _. stays_in e _ i (refusal_in from source 131 address low (omega arith)))
      (λ _. if_kept (StepInOctets is_address) (not (is_registered e.selectors called)) _ _
      (λ _. stays_in e _ i (refusal_in from source 3 address low (omega arith)))
      (λ _. new_end_in now e from source cr (least_free now e) refl i low address t)))

  pub met_in : (wrap : ℕ → ℕ → ℕ) (now : ℕ) (e : Entity) (from : List ℕ) (tpdu : TpduAndSum) → EntityInOctets is_address e → AreProper e
      → is_address from ≡ true → HasOctets tpdu.0 → StepInOctets is_address (met wrap now e from tpdu)
  met_in wrap now e from (Cr credit source width calling called size preferred extra version classes ack_time text, sum) i p address t =
      requested_in now e from source called (Cr credit source width calling called size preferred extra version classes ack_time text) i t.0 address t
  met_in wrap now e from (Cc credit destination source width calling called size preferred extra version classes ack_time text, sum) i p address t =
      met_end wrap now e from (Cc credit destination source width calling called size preferred extra version classes ack_time text) sum destination (end_at e destination) refl i p address t
  met_in wrap now e from (Dr destination source reason info text, sum) i p address t =
      met_end wrap now e from (Dr destination source reason info text) sum destination (end_at e destination) refl i p address t
  met_in wrap now e from (Dc destination source, sum) i p address t = met_end wrap now e from (Dc destination source) sum destination (end_at e destination) refl i p address t
  met_in wrap now e from (Dt destination last number text, sum) i p address t =
      met_end wrap now e from (Dt destination last number text) sum destination (end_at e destination) refl i p address t
  met_in wrap now e from (Ed destination last number text, sum) i p address t =
      met_end wrap now e from (Ed destination last number text) sum destination (end_at e destination) refl i p address t
  met_in wrap now e from (Ak destination number credit subsequence confirmation, sum) i p address t =
      met_end wrap now e from (Ak destination number credit subsequence confirmation) sum destination (end_at e destination) refl i p address t
  met_in wrap now e from (Ea destination number, sum) i p address t = met_end wrap now e from (Ea destination number) sum destination (end_at e destination) refl i p address t
  met_in wrap now e from (Er destination cause rejected, sum) i p address t =
      met_end wrap now e from (Er destination cause rejected) sum destination (end_at e destination) refl i p address t

  -- ---- a tick

  kept_in : (m : Moved) (next : Option ℕ) → RowInOctets is_address m → (end : End) → kept_end m next ≡ Some end → EndInOctets is_address end
  kept_in m None r end h = absurd (none-some _ h)
  kept_in m (Some tick) r end h = same_end (EndInOctets is_address) (end_of m) end r.end h

  tick_end : (wrap : ℕ → ℕ → ℕ) (now : ℕ) (e : Entity) (reference : ℕ) (place : Place) → end_at e reference ≡ place → EntityInOctets is_address e
      → StepInOctets is_address (ticking_end wrap now e reference place)
  tick_end wrap now e reference None is i = stays_in e [] i tt
  tick_end wrap now e reference (Some end) is i =
      let m = stepped wrap now end Ticked in
      let r = ticked_end_in is_address wrap now end (i.ends reference end is) in
      record {
        entity = record {
          own = i.own;
          few = set_few e reference (kept_end m (due m.base m.stage)) i.few;
          ends = set_ends (EndInOctets is_address) e reference (kept_end m (due m.base m.stage)) i.ends (kept_in m (due m.base m.stage) r);
        };
        tpdus = r.tpdus;
      }

  tick_at : (wrap : ℕ → ℕ → ℕ) (now : ℕ) (e : Entity) (found : Option ℕ) → EntityInOctets is_address e → StepInOctets is_address (ticking_at wrap now e found)
  tick_at wrap now e None i = stays_in e [] i tt
  tick_at wrap now e (Some reference) i = tick_end wrap now e reference (end_at e reference) refl i

  pub ticking_in : (wrap : ℕ → ℕ → ℕ) (now : ℕ) (e : Entity) → EntityInOctets is_address e → StepInOctets is_address (ticking wrap now e)
  ticking_in wrap now e i = tick_at wrap now (at now e) (first_due now e) (clocked_in now e i)
