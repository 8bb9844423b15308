-- A connect request, where nothing waits: a new end takes a free reference, and begins an association with its CR.
use Rattle.std.proofs.Common.{◌≡◌, ◌⊎◌, ℕ, zero, suc, ◌<◌, Bool, true, false, List, [], ◌∷◌, ◌++◌, length, map, slice_get, slice_set, Option, Some, None, refl, sym, ◌∙◌, ap, subst, inl, inr, arith}
use Rattle.std.proofs.lemmas.Bool.{eqb-false}
use Rattle.tp4_flow.specs.declared.step.Sent.{Sent}
use Rattle.tp4_conn.specs.declared.timers.Timers.{Timers}
use Rattle.tp4_conn.specs.End.{End, end_of}
use Rattle.tp4_conn.specs.Making.{connected as made_by}
use Rattle.tp4_entity.specs.Entity.{Entity, at, with_end}
use Rattle.tp4_entity.specs.References.{is_free_place}
use Rattle.tp4_entity.specs.Step.{call_of, connecting}
use Rattle.tp4_world.specs.World.{entity_at, with_entity}
use Rattle.tp4_world.specs.declared.place.Placed.{Placed}
use Rattle.law_tp4_associations.specs.Association.{Association, cleared, party, post, system_of, waiting, with_party}
use Rattle.law_tp4_associations.specs.Laws.{Connected}
use Rattle.law_tp4_associations.specs.Handing.{requested_by}
use Rattle.law_tp4_associations.specs.Phase.{Asking}
use Rattle.law_tp4_associations.specs.Standing.{IsAssociation, IsCaller, IsParty}
use Rattle.law_tp4_associations.proofs.Handed.{all_post, placing_of, standing_on, within_list}
use Rattle.law_tp4_associations.proofs.Meeting.{stands_among}
use Rattle.law_tp4_associations.proofs.Phases.{cleared_on}
use Rattle.law_tp4_associations.proofs.Places.{IsPut, Placing, clear_placing, cleared_system, map_count, map_got, put_placing, same_some}
use Rattle.law_tp4_associations.proofs.Spots.{least_is, spot, spot_at, spot_put, waiting_apart, waiting_post}

-- ---- a list and one more

pub get_last : {A : Type 0} (l : List A) (x : A) → slice_get (l ++ x ∷ []) (length l) ≡ Some x
get_last [] x = refl
get_last (y ∷ l) x = get_last l x

pub set_last : {A : Type 0} (l : List A) (x y : A) → slice_set (l ++ x ∷ []) (length l) y ≡ l ++ y ∷ []
set_last [] x y = refl
set_last (z ∷ l) x y = ap (λ (m : List _). z ∷ m) (set_last l x y)

pub front_or_last : {A : Type 0} (l : List A) (x c : A) (j : ℕ) → slice_get (l ++ x ∷ []) j ≡ Some c → (slice_get l j ≡ Some c) ⊎ ((j ≡ length l) × (x ≡ c))
front_or_last [] x c zero is = inr (refl, same_some x c is)
front_or_last [] x c (suc j) is = absurd (cc is)
front_or_last (y ∷ l) x c zero is = inl is
front_or_last (y ∷ l) x c (suc j) is = elim (front_or_last l x c j is) [ inl a ↦ inl a | inr b ↦ inr (ap suc b.0, b.1) ]

count_last : {A : Type 0} (l : List A) (x : A) → length (l ++ x ∷ []) ≡ suc (length l)
count_last [] x = refl
count_last (y ∷ l) x = ap suc (count_last l x)

-- an association of which no end stands
append_placing : (at_place : ℕ → ℕ → Option End) (all : List Association) (blank : Association) → blank.calling ≡ None → blank.called ≡ None → Placing at_place all → Placing at_place (all ++ blank ∷ [])
append_placing at_place all blank no_calling no_called p = record {
  stand = λ k by s r z q. p.stand k by s r z (back k by s r z q);
  known = λ s r z is. let q = p.known s r z is in (q.0, q.1, record { a = q.2.a; is = front all q.0 q.2.a q.2.is; end_is = q.2.end_is; system_is = q.2.system_is; reference_is = q.2.reference_is });
  apart = λ k j by other s r x y q t. p.apart k j by other s r x y (back k by s r x q) (back j other s r y t);
}
  where
    no_party : (by : Bool) (z : End) → party blank by ≡ Some z → ⊥
    no_party true z is = cc (no_calling, is)
    no_party false z is = cc (no_called, is)

    back : (k : ℕ) (by : Bool) (s r : ℕ) (z : End) → IsParty (all ++ blank ∷ []) k by s r z → IsParty all k by s r z
    back k by s r z q = elim (front_or_last all blank q.a k q.is) [
      | inl f ↦ record { a = q.a; is = f; end_is = q.end_is; system_is = q.system_is; reference_is = q.reference_is }
      | inr l ↦ absurd (no_party by z (ap (λ (b : Association). party b by) l.1 ∙ q.end_is))
    ]

    front : (l : List Association) (k : ℕ) (c : Association) → slice_get l k ≡ Some c → slice_get (l ++ blank ∷ []) k ≡ Some c
    front [] k c is = absurd (cc is)
    front (x ∷ l) zero c is = is
    front (x ∷ l) (suc k) c is = front l k c is

module _ (timers : Timers) (own : ℕ → List ℕ) where
  pub connects : Connected timers own
  connects now entities all system e reference request to f st proper here free is_call to_is there_is =
      let l = least_is now e reference free in
      let new : Association = requested_by timers own now e system reference request to in
      let z : End = end_of (made_by now (call_of e reference request)) in
      let blank : Association = record new { calling = None } in
      let acted = connecting now e reference request in
      let others : List Association = map (cleared system reference) all in
      let k : ℕ = length others in
      let k_is : k ≡ length all = map_count (cleared system reference) all in
      let put = spot_put entities system reference e (at now e) l.old (Some z) here refl l.some l.at in
      let cleared_put = spot_put entities system reference e (at now e) l.old None here refl l.some l.at in
      let entities_on : List Placed = with_entity entities system acted.entity in
      let empty : List Placed = with_entity entities system (with_end (at now e) reference None) in
      let second : IsPut (spot empty) (spot entities_on) system reference (Some z) = record { here = put.here; other = λ t r apart. put.other t r apart ∙ sym (cleared_put.other t r apart) } in
      let first : Placing (spot empty) (others ++ blank ∷ []) =
      append_placing (spot empty) others blank refl refl (clear_placing (spot entities) (spot empty) all system reference (placing_of timers own now entities all [] st) cleared_put) in
      let placed : Placing (spot entities_on) (slice_set (others ++ blank ∷ []) k (with_party blank true (Some z))) =
      put_placing (spot empty) (spot entities_on) (others ++ blank ∷ []) k true blank reference (Some z) first (get_last others blank) second (λ w w_is. absurd (cc w_is)) (λ w w_is. ap (λ (x : End). x.base.own) (sym (same_some z w w_is)))
      (λ j other w q. absurd (cc (first.stand j other system reference w q, cleared_put.here))) in
      let low : 0 < reference = let some : reference ≡ 0 → ⊥ = eqb-false reference 0 l.some in omega (arith, some) in
      let timers_are : e.timers ≡ timers = st.systems.timers_are system e here in
      standing_on timers own entities system e acted.entity st.systems here refl refl now (others ++ new ∷ []) (post (length all) true acted.tpdus)
      (subst (Placing (spot entities_on)) (set_last others blank new) placed)
      (λ j c got. elim (front_or_last others new c j got) [
        | inl f_is ↦
            (let m = map_got (cleared system reference) all j c f_is in
            let apart : length all ≡ j → ⊥ = (λ same. let in_list = within_list all j m.from m.is in absurd (omega (arith, same, in_list))) in
            let i = st.each j m.from m.is in
            subst (λ (l : List Sent). IsAssociation timers own now c l (waiting j false (post (length all) true acted.tpdus))) (sym (waiting_apart (length all) j true true acted.tpdus (λ both. apart both.0)))
            (subst (IsAssociation timers own now c []) (sym (waiting_apart (length all) j true false acted.tpdus (λ both. apart both.0)))
            (subst (λ (x : Association). IsAssociation timers own now x [] []) m.to (cleared_on timers own now system reference m.from [] [] i (λ by w w_is at_s own_w.
            let stands = sym (spot_at entities system reference e here) ∙ (placing_of timers own now entities all [] st).stand j by system reference w (record { a = m.from; is = m.is; end_is = w_is; system_is = at_s; reference_is = own_w }) in
            let old_is : l.old ≡ Some w = same_some l.old (Some w) (sym l.at ∙ stands_among e reference w stands) in
            ap (is_free_place now) (sym old_is) ∙ l.free)))))
        | inr last ↦
            (let j_is : length all ≡ j = sym k_is ∙ sym last.0 in
            subst (λ (n : ℕ). IsAssociation timers own now c (waiting n true (post (length all) true acted.tpdus)) (waiting n false (post (length all) true acted.tpdus))) j_is
            (subst (λ (x : Association). IsAssociation timers own now x (waiting (length all) true (post (length all) true acted.tpdus)) (waiting (length all) false (post (length all) true acted.tpdus))) last.1
            (subst (λ (l : List Sent). IsAssociation timers own now new l (waiting (length all) false (post (length all) true acted.tpdus))) (sym (waiting_post (length all) true acted.tpdus))
            (subst (IsAssociation timers own now new acted.tpdus) (sym (waiting_apart (length all) (length all) true false acted.tpdus (λ both. cc (both.1))))
            (record {
              phase = Asking z _ refl refl (record { stage = tt; unagreed = refl }) refl refl refl;
              caller = λ x is. subst (IsCaller timers reference (own to)) (same_some z x is) (record { own_is = refl; to = to_is; is_called = refl; timers_are = timers_are; size = is_call.size; proposed = refl });
              called = λ y is. absurd (cc is);
              some = low;
            })))))
      ])
      (λ j c d got. elim (front_or_last others new c j got) [
        | inl f_is ↦
            (let m = map_got (cleared system reference) all j c f_is in
            let t = st.there j m.from d m.is in (t.0, ap (entity_at entities) (ap (λ (x : Association). system_of x d) (sym m.to) ∙ cleared_system system reference m.from d) ∙ t.1))
        | inr last ↦ subst (λ (x : Association). (y : Entity) × (entity_at entities (system_of x d) ≡ Some y)) last.1 (by_side d e f here there_is)
      ])
      (all_post (length (others ++ new ∷ [])) (length all) true acted.tpdus (let n = count_last others new in omega (arith, n, k_is)))
    where
      by_side : (d : Bool) (e f : Entity) → entity_at entities system ≡ Some e → entity_at entities to ≡ Some f → (y : Entity) × (entity_at entities (system_of (requested_by timers own now e system reference request to) d) ≡ Some y)
      by_side true e f one other = (e, one)
      by_side false e f one other = (f, other)
