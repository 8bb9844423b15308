-- The first TPDU that waits is handed to the entity of the other side: it is of one association, which goes on; the others stay as they are, and so do their ends.
use Rattle.std.proofs.Common.{◌≡◌, ◌⊎◌, ℕ, ◌-◌, ◌<◌, ◌==◌, nat_eq, Bool, true, false, not, ◌&&◌, ◌||◌, List, [], ◌∷◌, ◌++◌, length, map, slice_get, slice_set, Option, Some, None, zero, suc, refl, sym, ◌∙◌, ap, subst, inl, inr, append-nil, arith}
use Rattle.std.specs.List.{AllByRecursion, list_any}
use Rattle.std.specs.Cmp.Lexicographic.{pointwise, same_text}
use Rattle.std.proofs.lemmas.Bool.{cases_eq, eqb-true}
use Rattle.osi_base.proofs.Members.{all_both}
use Rattle.tp4_flow.specs.declared.step.Sent.{Sent}
use Rattle.tp4_number.specs.Number.{whole}
use Rattle.tp4_conn.specs.declared.states.StateData.{StateData}
use Rattle.tp4_conn.specs.declared.states.StateData.TheVariants.{Frozen}
use Rattle.tp4_conn.specs.declared.timers.Timers.{Timers}
use Rattle.tp4_conn.specs.End.{End, Moved, end_of, frozen_for}
use Rattle.tp4_conn.specs.Making.{indicated}
use Rattle.tp4_conn.specs.Matching.{is_called_by}
use Rattle.tp4_conn.specs.Table.{Took, stepped}
use Rattle.tp4_entity.specs.Association.{is_called, is_frozen, met}
use Rattle.tp4_entity.specs.Entity.{Acted, Entity, at, end_at, moved, there, with_end}
use Rattle.tp4_entity.specs.References.{is_free_place, least_free, was_frozen}
use Rattle.tp4_world.specs.World.{entity_at, with_entity}
use Rattle.tp4_world.specs.declared.place.Placed.{Placed}
use Rattle.tp4_world.proofs.Entities.{with_found}
use Rattle.law_tp4_associations.specs.Association.{Association, Posted, cleared, party, post, system_of, waiting, with_party}
use Rattle.law_tp4_associations.specs.Handing.{Aside, Begins, Hands, IsBetweenOpen, Taken, Takes, TellsOfNoEnd}
use Rattle.law_tp4_associations.specs.Laws.{Handed}
use Rattle.law_tp4_associations.specs.Phase.{IsFrozen}
use Rattle.law_tp4_associations.specs.Standing.{AreSystems, IsAssociation, IsParty, Standing}
use Rattle.law_tp4_associations.proofs.Handing.{Begins_one, Deals, Leaves_it, Takes_one, dealt_back, dealt_forth}
use Rattle.law_tp4_associations.proofs.Keeping.{row_keeps}
use Rattle.law_tp4_associations.proofs.Meeting.{stands_among}
use Rattle.law_tp4_associations.proofs.Phases.{Gone, IsGone, Stays, caller_stands, cleared_on, gone_or_not, has_caller, over_where_free}
use Rattle.law_tp4_associations.proofs.Places.{IsPut, Placing, clear_placing, cleared_got, cleared_system, get_map, get_other, get_same, map_count, map_got, put_placing, same_some, set_count, with_system}
use Rattle.law_tp4_associations.proofs.Spots.{end_is, entity_other, from_spot, least_is, spot, spot_at, spot_put, spot_same, stands_above, stands_some, to_spot, waiting_apart, waiting_behind, waiting_first, waiting_post, waiting_then}

pub placing_of : (timers : Timers) (own : ℕ → List ℕ) (now : ℕ) (entities : List Placed) (all : List Association) (queue : List Posted) → Standing timers own now entities all queue → Placing (spot entities) all
placing_of timers own now entities all queue st = record {
  stand = λ k by s r z q. to_spot entities s r z (st.stand k by s r z q);
  known = λ s r z is. st.known s r z (from_spot entities s r z is);
  apart = st.apart;
}

pub placing_same : (old new : ℕ → ℕ → Option End) (all : List Association) → ((s r : ℕ) → new s r ≡ old s r) → Placing old all → Placing new all
placing_same old new all same p = record {
  stand = λ k by s r z q. same s r ∙ p.stand k by s r z q;
  known = λ s r z is. p.known s r z (sym (same s r) ∙ is);
  apart = p.apart;
}

pub set_back : {A : Type 0} (l : List A) (k : ℕ) (x : A) → slice_get l k ≡ Some x → slice_set l k x ≡ l
set_back [] k x is = refl
set_back (y ∷ l) zero x is = ap (λ (z : _). z ∷ l) (sym (same_some y x is))
set_back (y ∷ l) (suc k) x is = ap (λ (m : List _). y ∷ m) (set_back l k x is)

pub all_post : (count k : ℕ) (by : Bool) (l : List Sent) → k < count → AllByRecursion (λ (posted : Posted). posted.of < count) (post k by l)
all_post count k by [] low = tt
all_post count k by (sent ∷ l) low = (low, all_post count k by l low)

pub within_list : {A : Type 0} (l : List A) (k : ℕ) (x : A) → slice_get l k ≡ Some x → k < length l
within_list [] k x is = absurd (cc is)
within_list (y ∷ l) zero x is = omega arith
within_list (y ∷ l) (suc k) x is = let low = within_list l k x is in omega (arith, low)

-- ---- an entity is another one now

module _ (timers : Timers) (own : ℕ → List ℕ) (entities : List Placed) (s : ℕ) (e f : Entity) (systems : AreSystems timers own entities) (is : entity_at entities s ≡ Some e) (own_is : f.own ≡ e.own) (timers_is : f.timers ≡ e.timers) where
  -- each entity was one of that system, with the same address and timers
  record Was (t : ℕ) (x : Entity) : Type 0 where
    old : Entity
    is_old : entity_at entities t ≡ Some old
    same_own : x.own ≡ old.own
    same_timers : x.timers ≡ old.timers

  was : (t : ℕ) (x : Entity) → entity_at (with_entity entities s f) t ≡ Some x → Was t x
  was t x at = by (cases_eq t s)
    where
      by : (t ≡ s) ⊎ (t ≡ s → ⊥) → Was t x
      by (inr unlike) = record { old = x; is_old = sym (entity_other entities s t f unlike) ∙ at; same_own = refl; same_timers = refl }
      by (inl same) =
          let x_is : f ≡ x = same_some f x (sym (with_found entities s e f is) ∙ ap (entity_at (with_entity entities s f)) (sym same) ∙ at) in
          record { old = e; is_old = ap (entity_at entities) same ∙ is; same_own = ap (λ (y : Entity). y.own) (sym x_is) ∙ own_is; same_timers = ap (λ (y : Entity). y.timers) (sym x_is) ∙ timers_is }

  pub systems_on : AreSystems timers own (with_entity entities s f)
  systems_on = record {
    own_is = λ t x at. let w = was t x at in w.same_own ∙ systems.own_is t w.old w.is_old;
    timers_are = λ t x at. let w = was t x at in w.same_timers ∙ systems.timers_are t w.old w.is_old;
    apart = λ t u x y at there_. let w = was t x at in let v = was u y there_ in systems.apart t u w.old v.old w.is_old v.is_old;
    timed = systems.timed;
    inactive = systems.inactive;
  }

  pub there_on : (t : ℕ) (x : Entity) → entity_at entities t ≡ Some x → (y : Entity) × (entity_at (with_entity entities s f) t ≡ Some y)
  there_on t x at = by (cases_eq t s)
    where
      by : (t ≡ s) ⊎ (t ≡ s → ⊥) → (y : Entity) × (entity_at (with_entity entities s f) t ≡ Some y)
      by (inr unlike) = (x, entity_other entities s t f unlike ∙ at)
      by (inl same) = (f, ap (entity_at (with_entity entities s f)) same ∙ with_found entities s e f is)

  pub standing_on : (now : ℕ) (all : List Association) (queue : List Posted) → Placing (spot (with_entity entities s f)) all
      → ((k : ℕ) (a : Association) → slice_get all k ≡ Some a → IsAssociation timers own now a (waiting k true queue) (waiting k false queue))
      → ((k : ℕ) (a : Association) (by : Bool) → slice_get all k ≡ Some a → (x : Entity) × (entity_at entities (system_of a by) ≡ Some x))
      → AllByRecursion (λ (posted : Posted). posted.of < length all) queue → Standing timers own now (with_entity entities s f) all queue
  standing_on now all queue p each there_is posted = record {
    systems = systems_on;
    each = each;
    there = λ k a by got. let t = there_is k a by got in there_on (system_of a by) t.0 t.1;
    stand = λ k by t r z q. from_spot (with_entity entities s f) t r z (p.stand k by t r z q);
    known = λ t r z at. p.known t r z (to_spot (with_entity entities s f) t r z at);
    apart = p.apart;
    posted = posted;
  }

-- ---- one association goes on

module _ (timers : Timers) (own : ℕ → List ℕ) (now : ℕ) (entities : List Placed) (all : List Association) (k : ℕ) (by : Bool) (sent : Sent) (rest : List Posted) (e : Entity) (a : Association)
    (st : Standing timers own now entities all (record { of = k; by = by; sent = sent } ∷ rest)) (is : slice_get all k ≡ Some a) (here : entity_at entities (system_of a (not by)) ≡ Some e) where
  abbrev posted : Posted
  posted = record { of = k; by = by; sent = sent }

  abbrev queue_after : Acted → List Posted
  queue_after acted = rest ++ post k (not by) acted.tpdus

  abbrev s : ℕ
  s = system_of a (not by)

  placing : Placing (spot entities) all
  placing = placing_of timers own now entities all (posted ∷ rest) st

  -- what waits of another association
  others_wait : (acted : Acted) (j : ℕ) (c : Bool) → (j ≡ k → ⊥) → waiting j c (queue_after acted) ≡ waiting j c (posted ∷ rest)
  others_wait acted j c apart =
      waiting_then j c rest (post k (not by) acted.tpdus) ∙ ap (λ (l : List Sent). waiting j c rest ++ l) (waiting_apart k j (not by) c acted.tpdus (λ both. apart (sym both.0)))
      ∙ append-nil (waiting j c rest) ∙ sym (waiting_behind posted rest j c (λ both. apart (sym both.0)))

  -- the associations after it: each is as it was, or without an end whose reference is free
  each_on : (acted : Acted) (b : Association) (others : List Association)
      → ((j : ℕ) (c : Association) → slice_get others j ≡ Some c → (old : Association) × (slice_get all j ≡ Some old) × ((forth back : List Sent) → IsAssociation timers own now old forth back → IsAssociation timers own now c forth back))
      → IsAssociation timers own now b (waiting k true (queue_after acted)) (waiting k false (queue_after acted)) → (old : Association) → slice_get others k ≡ Some old
      → (j : ℕ) (c : Association) → slice_get (slice_set others k b) j ≡ Some c → IsAssociation timers own now c (waiting j true (queue_after acted)) (waiting j false (queue_after acted))
  each_on acted b others from goes old at j c got = go (cases_eq j k)
    where
      go : (j ≡ k) ⊎ (j ≡ k → ⊥) → IsAssociation timers own now c (waiting j true (queue_after acted)) (waiting j false (queue_after acted))
      go (inl same) =
          let c_is : b ≡ c = same_some b c (sym (get_same others k old b at) ∙ ap (slice_get (slice_set others k b)) (sym same) ∙ got) in
          subst (λ (n : ℕ). IsAssociation timers own now c (waiting n true (queue_after acted)) (waiting n false (queue_after acted))) (sym same)
          (subst (λ (d : Association). IsAssociation timers own now d (waiting k true (queue_after acted)) (waiting k false (queue_after acted))) c_is goes)
      go (inr apart) =
          let f = from j c (sym (get_other others k j b apart) ∙ got) in
          subst (λ (l : List Sent). IsAssociation timers own now c l (waiting j false (queue_after acted))) (sym (others_wait acted j true apart))
          (subst (λ (l : List Sent). IsAssociation timers own now c (waiting j true (posted ∷ rest)) l) (sym (others_wait acted j false apart))
          (f.2 (waiting j true (posted ∷ rest)) (waiting j false (posted ∷ rest)) (st.each j f.0 f.1)))

  there_set : (b : Association) (others : List Association) → ((j : ℕ) (c : Association) (d : Bool) → slice_get others j ≡ Some c → (x : Entity) × (entity_at entities (system_of c d) ≡ Some x))
      → ((d : Bool) → system_of b d ≡ system_of a d) → (old : Association) → slice_get others k ≡ Some old
      → (j : ℕ) (c : Association) (d : Bool) → slice_get (slice_set others k b) j ≡ Some c → (x : Entity) × (entity_at entities (system_of c d) ≡ Some x)
  there_set b others from same old at j c d got = go (cases_eq j k)
    where
      go : (j ≡ k) ⊎ (j ≡ k → ⊥) → (x : Entity) × (entity_at entities (system_of c d) ≡ Some x)
      go (inl e) =
          let c_is : b ≡ c = same_some b c (sym (get_same others k old b at) ∙ ap (slice_get (slice_set others k b)) (sym e) ∙ got) in
          let t = st.there k a d is in
          (t.0, ap (entity_at entities) (ap (λ (x : Association). system_of x d) (sym c_is) ∙ same d) ∙ t.1)
      go (inr apart) = from j c d (sym (get_other others k j b apart) ∙ got)

  posted_on : (acted : Acted) (after : List Association) → length after ≡ length all → AllByRecursion (λ (p : Posted). p.of < length after) (queue_after acted)
  posted_on acted after same =
      subst (λ (n : ℕ). AllByRecursion (λ (p : Posted). p.of < n) (queue_after acted)) (sym same)
      (all_both (λ (p : Posted). p.of < length all) rest (post k (not by) acted.tpdus) st.posted.1 (all_post (length all) k (not by) acted.tpdus (within_list all k a is)))

  abbrev Handed_so : Acted → Type 0
  Handed_so acted = Hands timers own now entities all posted rest e a acted

  -- the end takes it
  takes_on : (end : End) → party a (not by) ≡ Some end → (m : Moved) → m ≡ stepped whole now end (Took sent.tpdu sent.sum)
      → IsAssociation timers own now (with_party a (not by) (Some (end_of m))) (waiting k true (queue_after (moved (at now e) end.base.own m))) (waiting k false (queue_after (moved (at now e) end.base.own m)))
      → Handed_so (moved (at now e) end.base.own m)
  takes_on end party_is m m_is goes =
      let acted : Acted = moved (at now e) end.base.own m in
      let b : Association = with_party a (not by) (Some (end_of m)) in
      let p : IsParty all k (not by) s end.base.own end = record { a = a; is = is; end_is = party_is; system_is = refl; reference_is = refl } in
      let stands : end_at e end.base.own ≡ Some end = sym (spot_at entities s end.base.own e here) ∙ placing.stand k (not by) s end.base.own end p in
      let put = spot_put entities s end.base.own e (at now e) (Some end) (Some (end_of m)) here refl (stands_some e end.base.own end stands) (stands_among e end.base.own end stands) in
      let own_on : m.base.own ≡ end.base.own = ap (λ (x : Moved). x.base.own) m_is ∙ (row_keeps now end (Took sent.tpdu sent.sum)).own in
      record {
        b = b;
        others = all;
        takes = Taken end party_is (ap (moved (at now e) end.base.own) m_is) (ap (λ (x : Moved). with_party a (not by) (Some (end_of x))) m_is) refl;
        standing = standing_on timers own entities s e acted.entity st.systems here refl refl now (slice_set all k b) (queue_after acted)
            (put_placing (spot entities) (spot (with_entity entities s acted.entity)) all k (not by) a end.base.own (Some (end_of m)) placing is put
            (λ w w_is. ap (λ (z : End). z.base.own) (same_some w end (sym w_is ∙ party_is))) (λ w w_is. ap (λ (z : End). z.base.own) (sym (same_some (end_of m) w w_is)) ∙ own_on)
            (λ j other w q. let both = placing.apart j k other (not by) s end.base.own w end q p in (both.0, both.1)))
            (each_on acted b all (λ j c got. (c, got, λ forth back i. i)) goes a is)
            (there_set b all (λ j c d got. st.there j c d got) (λ d. with_system a (not by) d (Some (end_of m))) a is)
            (posted_on acted (slice_set all k b) (set_count all k b));
      }

  -- no end does
  leaves_on : (acted : Acted) → acted.entity ≡ at now e → TellsOfNoEnd acted.events → (IsBetweenOpen a → ⊥) → IsAssociation timers own now a (waiting k true (queue_after acted)) (waiting k false (queue_after acted)) → Handed_so acted
  leaves_on acted same told shut goes =
      let back : slice_set all k a ≡ all = set_back all k a is in
      record {
        b = a;
        others = all;
        takes = Aside same told refl refl shut;
        standing = standing_on timers own entities s e acted.entity st.systems here (ap (λ (x : Entity). x.own) same) (ap (λ (x : Entity). x.timers) same) now (slice_set all k a) (queue_after acted)
            (subst (Placing (spot (with_entity entities s acted.entity))) (sym back)
            (placing_same (spot entities) (spot (with_entity entities s acted.entity)) all (spot_same entities s e acted.entity here (ap (λ (x : Entity). x.ends) same)) placing))
            (each_on acted a all (λ j c got. (c, got, λ forth back_l i. i)) goes a is)
            (there_set a all (λ j c d got. st.there j c d got) (λ d. refl) a is)
            (posted_on acted (slice_set all k a) (set_count all k a));
      }

  -- the called end is made, at a free reference
  begins_on : (reference : ℕ) (z : End) → by ≡ true → a.called ≡ None → least_free now (at now e) ≡ Some reference → z.base.own ≡ reference → (acted : Acted)
      → acted.entity ≡ with_end (at now e) reference (Some z)
      → ((others : List Association) → others ≡ map (cleared s reference) all → Takes own now (at now e) posted acted all others a (record a { called = Some z }))
      → IsAssociation timers own now (record a { called = Some z }) (waiting k true (queue_after acted)) (waiting k false (queue_after acted)) → Handed_so acted
  begins_on reference z by_is none free own_is acted acted_is takes goes =
      let l = least_is now (at now e) reference free in
      let f : Entity = with_end (at now e) reference (Some z) in
      let empty : Entity = with_end (at now e) reference None in
      let others : List Association = map (cleared s reference) all in
      let put = spot_put entities s reference e (at now e) l.old (Some z) here refl l.some l.at in
      let cleared_put = spot_put entities s reference e (at now e) l.old None here refl l.some l.at in
      let second : IsPut (spot (with_entity entities s empty)) (spot (with_entity entities s f)) s reference (Some z) =
      record { here = put.here; other = λ t r apart. put.other t r apart ∙ sym (cleared_put.other t r apart) } in
      let first : Placing (spot (with_entity entities s empty)) others = clear_placing (spot entities) (spot (with_entity entities s empty)) all s reference placing cleared_put in
      let got : slice_get others k ≡ Some (cleared s reference a) = get_map (cleared s reference) all k a is in
      let a_is : with_party (cleared s reference a) (not by) (Some z) ≡ record a { called = Some z } =
      ap (λ (c : Bool). with_party (cleared s reference a) (not c) (Some z)) by_is ∙ (λ i. record a { calling = kept (gone_or_not s reference a true) i; called = Some z }) in
      subst (λ (x : Entity). acted.entity ≡ x → Handed_so acted) (sym acted_is) (λ same. record {
        b = record a { called = Some z };
        others = others;
        takes = takes others refl;
        standing = standing_on timers own entities s e acted.entity st.systems here (ap (λ (x : Entity). x.own) acted_is) (ap (λ (x : Entity). x.timers) acted_is) now (slice_set others k (record a { called = Some z })) (queue_after acted)
            (subst (λ (x : Entity). Placing (spot (with_entity entities s x)) (slice_set others k (record a { called = Some z }))) (sym acted_is)
            (subst (λ (x : Association). Placing (spot (with_entity entities s f)) (slice_set others k x)) a_is
            (put_placing (spot (with_entity entities s empty)) (spot (with_entity entities s f)) others k (not by) (cleared s reference a) reference (Some z) first got
            (subst (λ (t : ℕ). IsPut (spot (with_entity entities s empty)) (spot (with_entity entities s f)) t reference (Some z)) (sym (cleared_system s reference a (not by))) second)
            (λ w w_is. absurd (none_called w w_is)) (λ w w_is. ap (λ (x : End). x.base.own) (sym (same_some z w w_is)) ∙ own_is)
            (λ j other w q. absurd (none_there j other w q first cleared_put.here)))))
            (each_on acted (record a { called = Some z }) others from goes (cleared s reference a) got)
            (there_set (record a { called = Some z }) others
            (λ j c d c_is. let m = map_got (cleared s reference) all j c c_is in
            let t = st.there j m.from d m.is in (t.0, ap (entity_at entities) (ap (λ (x : Association). system_of x d) (sym m.to) ∙ cleared_system s reference m.from d) ∙ t.1))
            (λ d. with_system a false d (Some z)) (cleared s reference a) got)
            (posted_on acted (slice_set others k (record a { called = Some z })) (set_count others k (record a { called = Some z }) ∙ map_count (cleared s reference) all));
      }) refl
    where
      -- an end at the free reference is free
      free_there : (j : ℕ) (d : Bool) (c : Association) → slice_get all j ≡ Some c → (w : End) → party c d ≡ Some w → system_of c d ≡ s → w.base.own ≡ reference → was_frozen now (frozen_for w.base.timers) w.stage ≡ true
      free_there j d c c_is w w_is at_s own_w =
          let l = least_is now (at now e) reference free in
          let q : IsParty all j d s reference w = record { a = c; is = c_is; end_is = w_is; system_is = at_s; reference_is = own_w } in
          let stands : end_at e reference ≡ Some w = sym (spot_at entities s reference e here) ∙ placing.stand j d s reference w q in
          let old_is : l.old ≡ Some w = same_some l.old (Some w) (sym l.at ∙ stands_among e reference w stands) in
          ap (is_free_place now) (sym old_is) ∙ l.free

      from : (j : ℕ) (c : Association) → slice_get (map (cleared s reference) all) j ≡ Some c
          → (old : Association) × (slice_get all j ≡ Some old) × ((forth back : List Sent) → IsAssociation timers own now old forth back → IsAssociation timers own now c forth back)
      from j c c_is =
          let m = map_got (cleared s reference) all j c c_is in
          (m.from, m.is, λ forth back i. subst (λ (x : Association). IsAssociation timers own now x forth back) m.to (cleared_on timers own now s reference m.from forth back i (λ d w. free_there j d m.from m.is w)))

      none_called : (w : End) → party (cleared s reference a) (not by) ≡ Some w → ⊥
      none_called w w_is = cc (subst (λ (c : Bool). party a (not c) ≡ Some w) by_is (cleared_got s reference a (not by) w w_is).0, none)

      none_there : (j : ℕ) (other : Bool) (w : End) → IsParty (map (cleared s reference) all) j other (system_of (cleared s reference a) (not by)) reference w
          → Placing (spot (with_entity entities s (with_end (at now e) reference None))) (map (cleared s reference) all) → spot (with_entity entities s (with_end (at now e) reference None)) s reference ≡ None → ⊥
      none_there j other w q p empty_is =
          cc (p.stand j other s reference w (record { a = q.a; is = q.is; end_is = q.end_is; system_is = q.system_is ∙ cleared_system s reference a (not by); reference_is = q.reference_is }), empty_is)

      -- something of it waits, so no end of it is free, and the calling end stays
      kept : IsGone s reference a true → party (cleared s reference a) true ≡ a.calling
      kept (Stays same) = same
      kept (Gone w w_is at_s own_w) =
          let over = over_where_free timers own now a (waiting k true (posted ∷ rest)) (waiting k false (posted ∷ rest)) (st.each k a is) w (free_there k true a is w w_is at_s own_w) true w_is in
          absurd (not_none_wait (sym (ap (λ (c : Bool). waiting k c (posted ∷ rest)) (sym by_is) ∙ waiting_first posted rest) ∙ over.forth_is))
        where
          not_none_wait : sent ∷ waiting k by rest ≡ [] → ⊥
          not_none_wait e = cc e

  -- whatever is done of it
  pub deals_on : (acted : Acted) (b : Association) → Deals own now (at now e) by sent acted a b → IsAssociation timers own now b (waiting k true (queue_after acted)) (waiting k false (queue_after acted)) → Handed_so acted
  deals_on acted b (Takes_one end party_is acted_is b_is) goes =
      let m : Moved = stepped whole now end (Took sent.tpdu sent.sum) in
      subst Handed_so (sym acted_is)
      (takes_on end party_is m refl
      (subst (λ (x : Acted). IsAssociation timers own now (with_party a (not by) (Some (end_of m))) (waiting k true (queue_after x)) (waiting k false (queue_after x))) acted_is
      (subst (λ (x : Association). IsAssociation timers own now x (waiting k true (queue_after acted)) (waiting k false (queue_after acted))) b_is goes)))
  deals_on acted b (Leaves_it same told b_is shut) goes =
      leaves_on acted same told shut (subst (λ (x : Association). IsAssociation timers own now x (waiting k true (queue_after acted)) (waiting k false (queue_after acted))) b_is goes)
  deals_on acted b (Begins_one reference base octets by_is none free own_is to partner acted_is b_is) goes =
      let z : End = end_of (indicated base octets) in
      let at_called : system_of a (not by) ≡ a.to = ap (λ (c : Bool). system_of a (not c)) by_is in
      begins_on reference z by_is none free own_is acted (ap (λ (x : Acted). x.entity) acted_is)
      (λ others others_are. Begins reference base octets by_is none free own_is to partner acted_is refl (others_are ∙ ap (λ (t : ℕ). map (cleared t reference) all) at_called))
      (subst (λ (x : Association). IsAssociation timers own now x (waiting k true (queue_after acted)) (waiting k false (queue_after acted))) b_is goes)

-- ---- no other end of that caller is there

none_any : {A : Type 0} (p : A → Bool) (l : List A) → ((k : ℕ) (x : A) → slice_get l k ≡ Some x → p x ≡ false) → list_any p l ≡ false
none_any p [] none = refl
none_any p (x ∷ l) none = ap (λ (b : Bool). b || list_any p l) (none 0 x refl) ∙ none_any p l (λ k y is. none (suc k) y is)

and_both : (a b : Bool) → (a && b) ≡ true → (a ≡ true) × (b ≡ true)
and_both true b e = (refl, e)
and_both false b e = absurd (cc e)

not_frozen : (stage : StateData) → not (is_frozen stage) ≡ true → IsFrozen stage → ⊥
not_frozen (Frozen when) e f = cc e
not_frozen other e f = f

module _ (timers : Timers) (own : ℕ → List ℕ) (now : ℕ) (entities : List Placed) (all : List Association) (queue : List Posted) (k : ℕ) (e : Entity) (a : Association)
    (st : Standing timers own now entities all queue) (is : slice_get all k ≡ Some a) (here : entity_at entities a.to ≡ Some e) (x : End) (calling : a.calling ≡ Some x) (none : a.called ≡ None) where
  -- an end of that caller that is not frozen is the called end of an association whose calling end stands: of this one
  alone : (reference : ℕ) (z : End) → end_at e reference ≡ Some z → is_called false (own a.from.system) a.from.reference (Some z) ≡ true → ⊥
  alone reference z stands called =
      let parts = and_both (is_called_by z.base (own a.from.system) a.from.reference) (not (is_frozen z.stage)) called in
      let two = and_both z.base.is_called (pointwise nat_eq z.base.to (own a.from.system) && z.base.partner == a.from.reference) parts.0 in
      let three = and_both (pointwise nat_eq z.base.to (own a.from.system)) (z.base.partner == a.from.reference) two.1 in
      let q = st.known a.to reference z (e, here, stands) in
      by_role q.0 q.1 q.2 two.0 (same_text z.base.to (own a.from.system) (sym three.0)) (eqb-true z.base.partner a.from.reference three.1) (not_frozen z.stage parts.1)
    where
      by_role : (j : ℕ) (by : Bool) → IsParty all j by a.to reference z → z.base.is_called ≡ true → z.base.to ≡ own a.from.system → z.base.partner ≡ a.from.reference → (IsFrozen z.stage → ⊥) → ⊥
      by_role j true q called to partner live = cc ((st.each j q.a q.is).caller z q.end_is).is_called
      by_role j false q called to partner live =
          let i = st.each j q.a q.is in
          let c = i.called z q.end_is in
          let y = caller_stands timers (own q.a.from.system) (own q.a.to) now q.a (waiting j true queue) (waiting j false queue) z q.end_is live i.phase in
          let mine = st.there k a true is in
          let theirs = st.there j q.a true q.is in
          let same : q.a.from.system ≡ a.from.system = st.systems.apart q.a.from.system a.from.system theirs.0 mine.0 theirs.1 mine.1 (sym c.to ∙ to) in
          let one : IsParty all j true a.from.system a.from.reference y.0 = record { a = q.a; is = q.is; end_is = y.1; system_is = same; reference_is = (i.caller y.0 y.1).own_is ∙ sym c.partner ∙ partner } in
          let other : IsParty all k true a.from.system a.from.reference x = record { a = a; is = is; end_is = calling; system_is = refl; reference_is = ((st.each k a is).caller x calling).own_is } in
          let j_is = (st.apart j k true true a.from.system a.from.reference y.0 x one other).0 in
          let a_is : q.a ≡ a = same_some q.a a (sym q.is ∙ ap (slice_get all) j_is ∙ is) in
          cc (sym q.end_is ∙ ap (λ (b : Association). b.called) a_is ∙ none)

  pub none_there_yet : list_any (is_called false (own a.from.system) a.from.reference) e.ends ≡ false
  none_there_yet = none_any (is_called false (own a.from.system) a.from.reference) e.ends (λ n place at_n. by place n at_n)
    where
      by : (place : Option End) (n : ℕ) → slice_get e.ends n ≡ Some place → is_called false (own a.from.system) a.from.reference place ≡ false
      by None n at_n = refl
      by (Some z) n at_n = on (is_called false (own a.from.system) a.from.reference (Some z)) refl
        where
          on : (b : Bool) → is_called false (own a.from.system) a.from.reference (Some z) ≡ b → b ≡ false
          on false is_b = refl
          on true is_b =
              let back : suc n - 1 ≡ n = omega arith in
              let some : (suc n == 0) ≡ false = grind arith in
              let stands : end_at e (suc n) ≡ Some z = end_is e (suc n) some ∙ ap (λ (m : ℕ). there (slice_get e.ends m)) back ∙ ap there at_n in
              absurd (alone (suc n) z stands is_b)

-- ---- the law

module _ (timers : Timers) (own : ℕ → List ℕ) where
  pub place_of : (now : ℕ) (entities : List Placed) (all : List Association) (queue : List Posted) (st : Standing timers own now entities all queue) (k : ℕ) (by : Bool) (e : Entity) (a : Association)
      → slice_get all k ≡ Some a → entity_at entities (system_of a by) ≡ Some e → (z : End) → party a by ≡ Some z → end_at e z.base.own ≡ Some z
  place_of now entities all queue st k by e a is here z party_is =
      sym (spot_at entities (system_of a by) z.base.own e here)
      ∙ to_spot entities (system_of a by) z.base.own z (st.stand k by (system_of a by) z.base.own z (record { a = a; is = is; end_is = party_is; system_is = refl; reference_is = refl }))

  handed_by : (now : ℕ) (entities : List Placed) (all : List Association) (k : ℕ) (by : Bool) (sent : Sent) (rest : List Posted) (e : Entity) (a : Association)
      → Standing timers own now entities all (record { of = k; by = by; sent = sent } ∷ rest) → slice_get all k ≡ Some a → entity_at entities (system_of a (not by)) ≡ Some e
      → Hands timers own now entities all (record { of = k; by = by; sent = sent }) rest e a (met whole now (at now e) (own (system_of a by)) (sent.tpdu, sent.sum))
  handed_by now entities all k true sent rest e a st is here =
      let posted : Posted = record { of = k; by = true; sent = sent } in
      let i = st.each k a is in
      let forth : waiting k true (posted ∷ rest) ≡ sent ∷ waiting k true rest = waiting_first posted rest in
      let back : waiting k false (posted ∷ rest) ≡ waiting k false rest = waiting_behind posted rest k false (λ both. cc (both.1)) in
      let j : IsAssociation timers own now a (sent ∷ waiting k true rest) (waiting k false rest) =
      subst (λ (l : List Sent). IsAssociation timers own now a l (waiting k false rest)) forth (subst (IsAssociation timers own now a (waiting k true (posted ∷ rest))) back i) in
      let d = dealt_forth timers own now a (at now e) sent (waiting k true rest) (waiting k false rest) j
      (λ y called. let stands = place_of now entities all (posted ∷ rest) st k false e a is here y called in (stands_above e y.base.own y stands, stands))
      (st.systems.timers_are a.to e here) st.systems.inactive
      (λ none. let x = has_caller timers (own a.from.system) (own a.to) now a sent (waiting k true rest) (waiting k false rest) j.phase in
      none_there_yet timers own now entities all (posted ∷ rest) k e a st is here x.0 x.1 none) in
      let acted : Acted = met whole now (at now e) (own a.from.system) (sent.tpdu, sent.sum) in
      let forth_after : waiting k true (rest ++ post k false acted.tpdus) ≡ waiting k true rest =
      waiting_then k true rest (post k false acted.tpdus) ∙ ap (λ (l : List Sent). waiting k true rest ++ l) (waiting_apart k k false true acted.tpdus (λ both. cc (both.1))) ∙ append-nil (waiting k true rest) in
      let back_after : waiting k false (rest ++ post k false acted.tpdus) ≡ waiting k false rest ++ acted.tpdus =
      waiting_then k false rest (post k false acted.tpdus) ∙ ap (λ (l : List Sent). waiting k false rest ++ l) (waiting_post k false acted.tpdus) in
      deals_on timers own now entities all k true sent rest e a st is here acted d.b d.deal
      (subst (λ (l : List Sent). IsAssociation timers own now d.b l (waiting k false (rest ++ post k false acted.tpdus))) (sym forth_after)
      (subst (IsAssociation timers own now d.b (waiting k true rest)) (sym back_after) d.goes))
  handed_by now entities all k false sent rest e a st is here =
      let posted : Posted = record { of = k; by = false; sent = sent } in
      let i = st.each k a is in
      let back : waiting k false (posted ∷ rest) ≡ sent ∷ waiting k false rest = waiting_first posted rest in
      let forth : waiting k true (posted ∷ rest) ≡ waiting k true rest = waiting_behind posted rest k true (λ both. cc (both.1)) in
      let j : IsAssociation timers own now a (waiting k true rest) (sent ∷ waiting k false rest) =
      subst (λ (l : List Sent). IsAssociation timers own now a l (sent ∷ waiting k false rest)) forth (subst (IsAssociation timers own now a (waiting k true (posted ∷ rest))) back i) in
      let d = dealt_back timers own now a (at now e) sent (waiting k true rest) (waiting k false rest) j
      (λ x calling. place_of now entities all (posted ∷ rest) st k true e a is here x calling)
      (λ y called. let t = st.there k a false is in stands_above t.0 y.base.own y (place_of now entities all (posted ∷ rest) st k false t.0 a is t.1 y called)) in
      let acted : Acted = met whole now (at now e) (own a.to) (sent.tpdu, sent.sum) in
      let back_after : waiting k false (rest ++ post k true acted.tpdus) ≡ waiting k false rest =
      waiting_then k false rest (post k true acted.tpdus) ∙ ap (λ (l : List Sent). waiting k false rest ++ l) (waiting_apart k k true false acted.tpdus (λ both. cc (both.1))) ∙ append-nil (waiting k false rest) in
      let forth_after : waiting k true (rest ++ post k true acted.tpdus) ≡ waiting k true rest ++ acted.tpdus =
      waiting_then k true rest (post k true acted.tpdus) ∙ ap (λ (l : List Sent). waiting k true rest ++ l) (waiting_post k true acted.tpdus) in
      deals_on timers own now entities all k false sent rest e a st is here acted d.b d.deal
      (subst (λ (l : List Sent). IsAssociation timers own now d.b l (waiting k false (rest ++ post k true acted.tpdus))) (sym forth_after)
      (subst (IsAssociation timers own now d.b (waiting k true rest ++ acted.tpdus)) (sym back_after) d.goes))

  pub handed : Handed timers own
  handed now entities all posted rest e a st proper is here = handed_by now entities all posted.of posted.by posted.sent rest e a st is here
