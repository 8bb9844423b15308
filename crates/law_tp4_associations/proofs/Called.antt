-- A call on an end that stands, where nothing waits: its association goes on, and the others stay.
use Rattle.std.proofs.Common.{◌≡◌, ◌⊎◌, ℕ, ◌<◌, Bool, true, false, List, [], length, slice_get, slice_set, Option, Some, None, refl, sym, ◌∙◌, ap, subst, inl, inr}
use Rattle.std.proofs.lemmas.Bool.{cases_eq}
use Rattle.std.specs.List.{AllByRecursion}
use Rattle.tp4_flow.specs.declared.step.Sent.{Sent}
use Rattle.tp4_number.specs.Number.{whole}
use Rattle.tp4_conn.specs.declared.call.CallRefusal.{CallRefusal}
use Rattle.tp4_conn.specs.declared.call.UserCall.{UserCall}
use Rattle.tp4_conn.specs.declared.timers.Timers.{Timers}
use Rattle.tp4_conn.specs.Calls.{IsCall, call_refusal}
use Rattle.tp4_conn.specs.End.{End, IsTimed, Moved, end_of}
use Rattle.tp4_conn.specs.Table.{Called, stepped}
use Rattle.tp4_entity.specs.Entity.{Acted, Entity, at, end_at, moved, with_end}
use Rattle.tp4_entity.specs.Step.{calling, calling_end, end_refusal, refused_by, user_refusal}
use Rattle.tp4_world.specs.World.{entity_at, with_entity}
use Rattle.tp4_world.specs.declared.place.Placed.{Placed}
use Rattle.law_tp4_associations.specs.Association.{Association, Posted, party, post, system_of, waiting, with_party}
use Rattle.law_tp4_associations.specs.Laws.{WasCalled}
use Rattle.law_tp4_associations.specs.Standing.{IsAssociation, IsParty, Standing}
use Rattle.law_tp4_associations.proofs.Calling.{called_goes, calling_goes}
use Rattle.law_tp4_associations.proofs.Handed.{all_post, place_of, placing_of, standing_on, within_list}
use Rattle.law_tp4_associations.proofs.Keeping.{row_keeps}
use Rattle.law_tp4_associations.proofs.Meeting.{stands_among}
use Rattle.law_tp4_associations.proofs.Places.{Placing, get_other, get_same, put_placing, same_some, set_count, with_system}
use Rattle.law_tp4_associations.proofs.Spots.{spot, spot_at, spot_put, stands_some, waiting_apart, waiting_post}

-- an end of an association is another one now, or is taken out
pub party_placing : (entities : List Placed) (all : List Association) (k : ℕ) (by : Bool) (a : Association) (e f : Entity) (end : End) (next : Option End) → Placing (spot entities) all → slice_get all k ≡ Some a
    → entity_at entities (system_of a by) ≡ Some e → party a by ≡ Some end → f.ends ≡ e.ends → ((w : End) → next ≡ Some w → w.base.own ≡ end.base.own)
    → Placing (spot (with_entity entities (system_of a by) (with_end f end.base.own next))) (slice_set all k (with_party a by next))
party_placing entities all k by a e f end next placing is here party_is ends own_is =
    let p : IsParty all k by (system_of a by) end.base.own end = record { a = a; is = is; end_is = party_is; system_is = refl; reference_is = refl } in
    let stands : end_at e end.base.own ≡ Some end = sym (spot_at entities (system_of a by) end.base.own e here) ∙ placing.stand k by (system_of a by) end.base.own end p in
    put_placing (spot entities) (spot (with_entity entities (system_of a by) (with_end f end.base.own next))) all k by a end.base.own next placing is
    (spot_put entities (system_of a by) end.base.own e f (Some end) next here ends (stands_some e end.base.own end stands) (stands_among e end.base.own end stands))
    (λ w w_is. ap (λ (z : End). z.base.own) (same_some w end (sym w_is ∙ party_is))) own_is
    (λ j other w q. placing.apart j k other by (system_of a by) end.base.own w end q p)

-- what waits is of this association
pub each_posted : (timers : Timers) (own : ℕ → List ℕ) (now : ℕ) (all : List Association) (k : ℕ) (by : Bool) (tpdus : List Sent) (a b : Association) → slice_get all k ≡ Some a
    → ((j : ℕ) (c : Association) → slice_get all j ≡ Some c → IsAssociation timers own now c [] [])
    → IsAssociation timers own now b (waiting k true (post k by tpdus)) (waiting k false (post k by tpdus))
    → (j : ℕ) (c : Association) → slice_get (slice_set all k b) j ≡ Some c → IsAssociation timers own now c (waiting j true (post k by tpdus)) (waiting j false (post k by tpdus))
each_posted timers own now all k by tpdus a b is others goes j c got = on (cases_eq j k)
  where
    on : (j ≡ k) ⊎ (j ≡ k → ⊥) → IsAssociation timers own now c (waiting j true (post k by tpdus)) (waiting j false (post k by tpdus))
    on (inl same) =
        let c_is : b ≡ c = same_some b c (sym (get_same all k a b is) ∙ ap (slice_get (slice_set all k b)) (sym same) ∙ got) in
        subst (λ (n : ℕ). IsAssociation timers own now c (waiting n true (post k by tpdus)) (waiting n false (post k by tpdus))) (sym same)
        (subst (λ (d : Association). IsAssociation timers own now d (waiting k true (post k by tpdus)) (waiting k false (post k by tpdus))) c_is goes)
    on (inr apart) =
        subst (λ (l : List Sent). IsAssociation timers own now c l (waiting j false (post k by tpdus))) (sym (waiting_apart k j by true tpdus (λ both. apart (sym both.0))))
        (subst (IsAssociation timers own now c []) (sym (waiting_apart k j by false tpdus (λ both. apart (sym both.0)))) (others j c (sym (get_other all k j b apart) ∙ got)))

-- the call is not refused
allowed_of : (e : Entity) (reference : ℕ) (end : End) (call : UserCall) → end_at e reference ≡ Some end → user_refusal e reference call ≡ None → call_refusal end.base end.stage call ≡ None
allowed_of e reference end call stands ok = by (call_refusal end.base end.stage call) (sym (ap (end_refusal call) stands) ∙ ok)
  where
    by : (o : Option CallRefusal) → refused_by o ≡ None → o ≡ None
    by None r = refl
    by (Some why) r = absurd (cc r)

module _ (timers : Timers) (own : ℕ → List ℕ) where
  -- of the calling end, of the called one
  goes_by : (now : ℕ) (a : Association) (by : Bool) (end : End) (call : UserCall) (k : ℕ) → IsAssociation timers own now a [] [] → party a by ≡ Some end → call_refusal end.base end.stage call ≡ None → IsCall call → IsTimed timers
      → let m = stepped whole now end (Called call) in
      IsAssociation timers own now (with_party a by (Some (end_of m))) (waiting k true (post k by m.tpdus)) (waiting k false (post k by m.tpdus))
  goes_by now a true end call k i is allowed proper timed =
      let m : Moved = stepped whole now end (Called call) in
      subst (λ (l : List Sent). IsAssociation timers own now (record a { calling = Some (end_of m) }) l (waiting k false (post k true m.tpdus))) (sym (waiting_post k true m.tpdus))
      (subst (IsAssociation timers own now (record a { calling = Some (end_of m) }) m.tpdus) (sym (waiting_apart k k true false m.tpdus (λ both. cc (both.1)))) (calling_goes timers own now a call i end is allowed))
  goes_by now a false end call k i is allowed proper timed =
      let m : Moved = stepped whole now end (Called call) in
      subst (λ (l : List Sent). IsAssociation timers own now (record a { called = Some (end_of m) }) l (waiting k false (post k false m.tpdus))) (sym (waiting_apart k k false true m.tpdus (λ both. cc (both.1))))
      (subst (IsAssociation timers own now (record a { called = Some (end_of m) }) []) (sym (waiting_post k false m.tpdus)) (called_goes timers own now a call i end is allowed proper timed))

  called_on : (now : ℕ) (entities : List Placed) (all : List Association) (k : ℕ) (by : Bool) (end : End) (a : Association) (e : Entity) (call : UserCall)
      → Standing timers own now entities all [] → slice_get all k ≡ Some a → party a by ≡ Some end → entity_at entities (system_of a by) ≡ Some e → user_refusal e end.base.own call ≡ None → IsCall call
      → let m = stepped whole now end (Called call) in
      Standing timers own now (with_entity entities (system_of a by) (calling whole now e end.base.own call).entity) (slice_set all k (with_party a by (Some (end_of m)))) (post k by m.tpdus)
  called_on now entities all k by end a e call st is party_is here ok proper =
      let m : Moved = stepped whole now end (Called call) in
      let b : Association = with_party a by (Some (end_of m)) in
      let stands = place_of timers own now entities all [] st k by e a is here end party_is in
      let acted_is : calling whole now e end.base.own call ≡ moved (at now e) end.base.own m = ap (calling_end whole now (at now e) end.base.own call) stands in
      subst (λ (x : Acted). Standing timers own now (with_entity entities (system_of a by) x.entity) (slice_set all k b) (post k by m.tpdus)) (sym acted_is)
      (standing_on timers own entities (system_of a by) e (with_end (at now e) end.base.own (Some (end_of m))) st.systems here refl refl now (slice_set all k b) (post k by m.tpdus)
      (party_placing entities all k by a e (at now e) end (Some (end_of m)) (placing_of timers own now entities all [] st) is here party_is refl
      (λ w w_is. ap (λ (z : End). z.base.own) (sym (same_some (end_of m) w w_is)) ∙ (row_keeps now end (Called call)).own))
      (each_posted timers own now all k by m.tpdus a b is st.each (goes_by now a by end call k (st.each k a is) party_is (allowed_of e end.base.own end call stands ok) proper st.systems.timed))
      (there_set all k by a b is (λ j c d got. st.there j c d got) (λ d. with_system a by d (Some (end_of m))))
      (subst (λ (n : ℕ). AllByRecursion (λ (p : Posted). p.of < n) (post k by m.tpdus)) (sym (set_count all k b)) (all_post (length all) k by m.tpdus (within_list all k a is))))
    where
      there_set : (all : List Association) (k : ℕ) (by : Bool) (a b : Association) → slice_get all k ≡ Some a
          → ((j : ℕ) (c : Association) (d : Bool) → slice_get all j ≡ Some c → (x : Entity) × (entity_at entities (system_of c d) ≡ Some x)) → ((d : Bool) → system_of b d ≡ system_of a d)
          → (j : ℕ) (c : Association) (d : Bool) → slice_get (slice_set all k b) j ≡ Some c → (x : Entity) × (entity_at entities (system_of c d) ≡ Some x)
      there_set all k by a b is from same j c d got = on (cases_eq j k)
        where
          on : (j ≡ k) ⊎ (j ≡ k → ⊥) → (x : Entity) × (entity_at entities (system_of c d) ≡ Some x)
          on (inl e) =
              let c_is : b ≡ c = same_some b c (sym (get_same all k a b is) ∙ ap (slice_get (slice_set all k b)) (sym e) ∙ got) in
              let t = from k a d is in
              (t.0, ap (entity_at entities) (ap (λ (x : Association). system_of x d) (sym c_is) ∙ same d) ∙ t.1)
          on (inr apart) = from j c d (sym (get_other all k j b apart) ∙ got)

  pub calls : WasCalled timers own
  calls now entities all k by system reference end p e call st proper here stands ok is_call =
      let m : Moved = stepped whole now end (Called call) in
      subst (λ (s : ℕ). Standing timers own now (with_entity entities s (calling whole now e reference call).entity) (slice_set all k (with_party p.a by (Some (end_of m)))) (post k by m.tpdus)) p.system_is
      (subst (λ (r : ℕ). Standing timers own now (with_entity entities (system_of p.a by) (calling whole now e r call).entity) (slice_set all k (with_party p.a by (Some (end_of m)))) (post k by m.tpdus)) p.reference_is
      (called_on now entities all k by end p.a e call st p.is p.end_is (ap (entity_at entities) p.system_is ∙ here) (ap (λ (r : ℕ). user_refusal e r call) p.reference_is ∙ ok) is_call))
