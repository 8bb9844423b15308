-- A tick of all associations where nothing waits: at first no end ticked; the first due end of an entity is one that did not tick, and then it did; where none is due any more
-- each association has gone on by its ends' ticks.
use Rattle.std.proofs.Common.{◌≡◌, ◌⊎◌, ℕ, ◌+◌, ◌<◌, Bool, true, false, not, List, [], ◌++◌, length, slice_get, slice_set, Option, Some, None, refl, sym, ◌∙◌, ap, subst, inl, inr, append-nil}
use Rattle.std.specs.List.{AllByRecursion}
use Rattle.std.proofs.lemmas.Bool.{cases_eq}
use Rattle.osi_base.proofs.Members.{all_both}
use Rattle.tp4_flow.specs.declared.step.Sent.{Sent}
use Rattle.tp4_number.specs.Number.{whole}
use Rattle.tp4_conn.specs.declared.timers.Timers.{Timers}
use Rattle.tp4_conn.specs.End.{End}
use Rattle.tp4_conn.specs.Table.{Ticked, due, stepped}
use Rattle.tp4_entity.specs.Entity.{Entity, at, end_at, with_end}
use Rattle.tp4_entity.specs.Step.{first_due, is_due, kept_end, ticking, ticking_at, ticking_end}
use Rattle.tp4_world.specs.World.{entity_at, with_entity}
use Rattle.tp4_world.specs.declared.place.Placed.{Placed}
use Rattle.law_tp4_associations.specs.Association.{Association, Posted, party, post, system_of, waiting, with_party}
use Rattle.law_tp4_associations.specs.Handing.{AreProperEnds}
use Rattle.law_tp4_associations.specs.Laws.{Ticks}
use Rattle.law_tp4_associations.specs.Standing.{AreSystems, IsAssociation, IsParty, Standing}
use Rattle.law_tp4_associations.specs.Ticking.{HasTicked, IsTicking, ticked_end, ticked_tpdus}
use Rattle.law_tp4_associations.proofs.Dues.{IsDueAt, first_is_due, none_due, ticked_not_due}
use Rattle.law_tp4_associations.proofs.Handed.{all_post, placing_same, systems_on, there_on, within_list}
use Rattle.law_tp4_associations.proofs.Meeting.{stands_among}
use Rattle.law_tp4_associations.proofs.Places.{IsPut, Placing, get_other, get_same, put_placing, same_some, set_count, with_system}
use Rattle.law_tp4_associations.proofs.Spots.{from_spot, spot, spot_put, spot_same, stands_some, to_spot, waiting_apart, waiting_post, waiting_then}
use Rattle.law_tp4_associations.proofs.Clocked.{after_tick, association_ticks, ticked_from}

not_ticked : (now : ℕ) (old : Option End) → ticked_end false now old ≡ old
not_ticked now None = refl
not_ticked now (Some end) = refl

none_sent : (now : ℕ) (old : Option End) → ticked_tpdus false now old ≡ []
none_sent now None = refl
none_sent now (Some end) = refl

module _ (timers : Timers) (own : ℕ → List ℕ) (now : ℕ) where
  -- ---- one association

  abbrev Has : Association → Association → (Bool → List Sent) → Type 0
  Has a b sent = HasTicked timers own now a b sent

  same_sent : (a b : Association) (sent new : Bool → List Sent) → ((by : Bool) → new by ≡ sent by) → Has a b sent → Has a b new
  same_sent a b sent new same h = record { stood = h.stood; proper = h.proper; ticked = h.ticked; from_is = h.from_is; to_is = h.to_is; party_is = h.party_is; sent_is = λ by. same by ∙ h.sent_is by }

  -- an end that did not tick is as it was
  was_so : (a b : Association) (sent : Bool → List Sent) (h : Has a b sent) (by : Bool) → h.ticked by ≡ false → (party a by ≡ party b by) × (sent by ≡ [])
  was_so a b sent h by none = (
    sym (h.party_is by ∙ ap (λ (c : Bool). ticked_end c (now + 1) (party a by)) none ∙ not_ticked (now + 1) (party a by)),
    h.sent_is by ∙ ap (λ (c : Bool). ticked_tpdus c (now + 1) (party a by)) none ∙ none_sent (now + 1) (party a by),
  )

  abbrev with_tick : (Bool → Bool) → Bool → Bool → Bool
  with_tick ticked true true = true
  with_tick ticked true false = ticked false
  with_tick ticked false true = ticked true
  with_tick ticked false false = true

  -- and then it ticks
  ticks_then : (a b : Association) (sent new : Bool → List Sent) (h : Has a b sent) (by : Bool) (end : End) → h.ticked by ≡ false → party b by ≡ Some end
      → new by ≡ sent by ++ ticked_tpdus true (now + 1) (Some end) → new (not by) ≡ sent (not by) → Has a (with_party b by (ticked_end true (now + 1) (Some end))) new
  ticks_then a b sent new h true end none is more same =
      let w = was_so a b sent h true none in
      let old : party a true ≡ Some end = w.0 ∙ is in
      record {
        stood = h.stood;
        proper = h.proper;
        ticked = with_tick h.ticked true;
        from_is = h.from_is;
        to_is = h.to_is;
        party_is = λ c. parties c old;
        sent_is = λ c. sends c (more ∙ ap (λ (l : List Sent). l ++ ticked_tpdus true (now + 1) (Some end)) w.1 ∙ ap (ticked_tpdus true (now + 1)) (sym old));
      }
    where
      parties : (c : Bool) → party a true ≡ Some end → party (with_party b true (ticked_end true (now + 1) (Some end))) c ≡ ticked_end (with_tick h.ticked true c) (now + 1) (party a c)
      parties true old = ap (ticked_end true (now + 1)) (sym old)
      parties false old = h.party_is false

      sends : (c : Bool) → new true ≡ ticked_tpdus true (now + 1) (party a true) → new c ≡ ticked_tpdus (with_tick h.ticked true c) (now + 1) (party a c)
      sends true first = first
      sends false first = same ∙ h.sent_is false
  ticks_then a b sent new h false end none is more same =
      let w = was_so a b sent h false none in
      let old : party a false ≡ Some end = w.0 ∙ is in
      record {
        stood = h.stood;
        proper = h.proper;
        ticked = with_tick h.ticked false;
        from_is = h.from_is;
        to_is = h.to_is;
        party_is = λ c. parties c old;
        sent_is = λ c. sends c (more ∙ ap (λ (l : List Sent). l ++ ticked_tpdus true (now + 1) (Some end)) w.1 ∙ ap (ticked_tpdus true (now + 1)) (sym old));
      }
    where
      parties : (c : Bool) → party a false ≡ Some end → party (with_party b false (ticked_end true (now + 1) (Some end))) c ≡ ticked_end (with_tick h.ticked false c) (now + 1) (party a c)
      parties false old = ap (ticked_end true (now + 1)) (sym old)
      parties true old = h.party_is true

      sends : (c : Bool) → new false ≡ ticked_tpdus true (now + 1) (party a false) → new c ≡ ticked_tpdus (with_tick h.ticked false c) (now + 1) (party a c)
      sends false first = first
      sends true first = same ∙ h.sent_is true

  -- an end that is due did not tick yet
  due_not_ticked : (a b : Association) (sent : Bool → List Sent) (h : Has a b sent) (by : Bool) (end : End) → party b by ≡ Some end → is_due (now + 1) (Some end) ≡ true → h.ticked by ≡ false
  due_not_ticked a b sent h by end is late = on (h.ticked by) refl
    where
      on : (c : Bool) → h.ticked by ≡ c → c ≡ false
      on false e = refl
      on true e =
          let same : ticked_end true (now + 1) (party a by) ≡ Some end = ap (λ (c : Bool). ticked_end c (now + 1) (party a by)) (sym e) ∙ sym (h.party_is by) ∙ is in
          absurd (cc (late, sym (ap (is_due (now + 1)) same) ∙ ticked_not_due (now + 1) (party a by) (h.proper by)))

  -- ---- all

  abbrev Ticking : List Placed → List Association → List Association → List Posted → Type 0
  Ticking entities before all queue = IsTicking timers own now entities before all queue

  begins_so : (entities : List Placed) (all : List Association) → Standing timers own now entities all [] → AreProperEnds entities → Ticking entities all all []
  begins_so entities all st proper = record {
    systems = st.systems;
    each = λ k b is. (
      b,
      is,
      record {
        stood = st.each k b is;
        proper = λ by end e. proper (system_of b by) end.base.own end (st.stand k by (system_of b by) end.base.own end (record { a = b; is = is; end_is = e; system_is = refl; reference_is = refl }));
        ticked = λ by. false;
        from_is = refl;
        to_is = refl;
        party_is = λ by. sym (not_ticked (now + 1) (party b by));
        sent_is = λ by. sym (none_sent (now + 1) (party b by));
      },
    );
    there = st.there;
    stand = st.stand;
    known = st.known;
    apart = st.apart;
    posted = tt;
  }

  placing_in : (entities : List Placed) (before all : List Association) (queue : List Posted) → Ticking entities before all queue → Placing (spot entities) all
  placing_in entities before all queue t = record {
    stand = λ k by s r z q. to_spot entities s r z (t.stand k by s r z q);
    known = λ s r z is. t.known s r z (from_spot entities s r z is);
    apart = t.apart;
  }

  -- an entity is another one now
  module _ (entities : List Placed) (before : List Association) (s : ℕ) (e f : Entity) (systems : AreSystems timers own entities) (is : entity_at entities s ≡ Some e) (own_is : f.own ≡ e.own) (timers_is : f.timers ≡ e.timers) where
    ticking_on : (all : List Association) (queue : List Posted) → Placing (spot (with_entity entities s f)) all
        → ((k : ℕ) (b : Association) → slice_get all k ≡ Some b → (a : Association) × (slice_get before k ≡ Some a) × Has a b (λ by. waiting k by queue))
        → ((k : ℕ) (a : Association) (by : Bool) → slice_get all k ≡ Some a → (x : Entity) × (entity_at entities (system_of a by) ≡ Some x))
        → AllByRecursion (λ (posted : Posted). posted.of < length all) queue → Ticking (with_entity entities s f) before all queue
    ticking_on all queue p each there_is posted = record {
      systems = systems_on timers own entities s e f systems is own_is timers_is;
      each = each;
      there = λ k a by got. let t = there_is k a by got in there_on timers own entities s e f systems is own_is timers_is (system_of a by) t.0 t.1;
      stand = λ k by t r z q. from_spot (with_entity entities s f) t r z (p.stand k by t r z q);
      known = λ t r z at. p.known t r z (to_spot (with_entity entities s f) t r z at);
      apart = p.apart;
      posted = posted;
    }

  clock_so : (clock : ℕ) (entities : List Placed) (before all : List Association) (queue : List Posted) (system : ℕ) (e : Entity) → Ticking entities before all queue → entity_at entities system ≡ Some e
      → Ticking (with_entity entities system (at clock e)) before all queue
  clock_so clock entities before all queue system e t is =
      ticking_on entities before system e (at clock e) t.systems is refl refl all queue
      (placing_same (spot entities) (spot (with_entity entities system (at clock e))) all (spot_same entities system e (at clock e) is refl) (placing_in entities before all queue t)) t.each t.there t.posted

  -- ---- an end ticks

  module _ (entities : List Placed) (before all : List Association) (queue : List Posted) (t : Ticking entities before all queue) (system : ℕ) (e : Entity) (is : entity_at entities system ≡ Some e)
      (reference : ℕ) (d : IsDueAt (now + 1) e reference) (k : ℕ) (by : Bool) (p : IsParty all k by system reference d.end) where
    abbrev next : Option End
    next = ticked_end true (now + 1) (Some d.end)

    abbrev more : List Sent
    more = ticked_tpdus true (now + 1) (Some d.end)

    abbrev b : Association
    b = with_party p.a by next

    abbrev after : Entity
    after = with_end (at (now + 1) e) reference next

    placing_after : Placing (spot (with_entity entities system after)) (slice_set all k b)
    placing_after =
        put_placing (spot entities) (spot (with_entity entities system after)) all k by p.a reference next (placing_in entities before all queue t) p.is
        (subst (λ (s : ℕ). IsPut (spot entities) (spot (with_entity entities system after)) s reference next) (sym p.system_is)
        (spot_put entities system reference e (at (now + 1) e) (Some d.end) next is refl (stands_some e reference d.end d.stands) (stands_among e reference d.end d.stands)))
        (λ w w_is. ap (λ (z : End). z.base.own) (same_some w d.end (sym w_is ∙ p.end_is)) ∙ p.reference_is)
        (λ w w_is. let f = ticked_from true (now + 1) (Some d.end) w w_is in ap (λ (b : _). b.own) f.base ∙ ap (λ (z : End). z.base.own) (sym (same_some d.end f.was f.is)) ∙ p.reference_is)
        (λ j other w q. t.apart j k other by system reference w d.end (record { a = q.a; is = q.is; end_is = q.end_is; system_is = q.system_is ∙ p.system_is; reference_is = q.reference_is }) p)

    abbrev queue_after : List Posted
    queue_after = queue ++ post k by more

    others_wait : (j : ℕ) (c : Bool) → ((k ≡ j) × (by ≡ c) → ⊥) → waiting j c queue_after ≡ waiting j c queue
    others_wait j c apart = waiting_then j c queue (post k by more) ∙ ap (λ (l : List Sent). waiting j c queue ++ l) (waiting_apart k j by c more apart) ∙ append-nil (waiting j c queue)

    other_side : (c : Bool) → c ≡ not c → ⊥
    other_side true e = cc e
    other_side false e = cc e

    each_after : (j : ℕ) (c : Association) → slice_get (slice_set all k b) j ≡ Some c → (a : Association) × (slice_get before j ≡ Some a) × Has a c (λ o. waiting j o queue_after)
    each_after j c got = go (cases_eq j k)
      where
        go : (j ≡ k) ⊎ (j ≡ k → ⊥) → (a : Association) × (slice_get before j ≡ Some a) × Has a c (λ o. waiting j o queue_after)
        go (inr apart) =
            let h = t.each j c (sym (get_other all k j b apart) ∙ got) in
            (h.0, h.1, same_sent h.0 c (λ o. waiting j o queue) (λ o. waiting j o queue_after) (λ o. others_wait j o (λ both. apart (sym both.0))) h.2)
        go (inl same) =
            let c_is : b ≡ c = same_some b c (sym (get_same all k p.a b p.is) ∙ ap (slice_get (slice_set all k b)) (sym same) ∙ got) in
            let h = t.each k p.a p.is in
            subst (λ (n : ℕ). (a : Association) × (slice_get before n ≡ Some a) × Has a c (λ o. waiting n o queue_after)) (sym same) (
              h.0,
              h.1,
              subst (λ (x : Association). Has h.0 x (λ o. waiting k o queue_after)) c_is
                  (ticks_then h.0 p.a (λ o. waiting k o queue) (λ o. waiting k o queue_after) h.2 by d.end
                  (due_not_ticked h.0 p.a (λ o. waiting k o queue) h.2 by d.end p.end_is d.due) p.end_is
                  (waiting_then k by queue (post k by more) ∙ ap (λ (l : List Sent). waiting k by queue ++ l) (waiting_post k by more))
                  (others_wait k (not by) (λ both. other_side by both.1))),
            )

    there_after : (j : ℕ) (c : Association) (o : Bool) → slice_get (slice_set all k b) j ≡ Some c → (x : Entity) × (entity_at entities (system_of c o) ≡ Some x)
    there_after j c o got = go (cases_eq j k)
      where
        go : (j ≡ k) ⊎ (j ≡ k → ⊥) → (x : Entity) × (entity_at entities (system_of c o) ≡ Some x)
        go (inr apart) = t.there j c o (sym (get_other all k j b apart) ∙ got)
        go (inl same) =
            let c_is : b ≡ c = same_some b c (sym (get_same all k p.a b p.is) ∙ ap (slice_get (slice_set all k b)) (sym same) ∙ got) in
            let x = t.there k p.a o p.is in
            (x.0, ap (entity_at entities) (ap (λ (y : Association). system_of y o) (sym c_is) ∙ with_system p.a by o next) ∙ x.1)

    end_ticks : Ticking (with_entity entities system after) before (slice_set all k b) queue_after
    end_ticks =
        ticking_on entities before system e after t.systems is refl refl (slice_set all k b) queue_after placing_after each_after there_after
        (subst (λ (n : ℕ). AllByRecursion (λ (posted : Posted). posted.of < n) queue_after) (sym (set_count all k b))
        (all_both (λ (posted : Posted). posted.of < length all) queue (post k by more) t.posted (all_post (length all) k by more (within_list all k p.a p.is))))

  abbrev HasOne : List Placed → List Association → List Association → List Posted → ℕ → Entity → ℕ → Type 0
  HasOne entities before all queue system e reference =
      (k : ℕ) × (by : Bool) × (end : End) × (end_at e reference ≡ Some end) × (p : IsParty all k by system reference end)
      × (let m = stepped whole (now + 1) end Ticked in
      Ticking (with_entity entities system (ticking whole (now + 1) e).entity) before (slice_set all k (with_party p.a by (kept_end m (due m.base m.stage)))) (queue ++ post k by m.tpdus))

  one_so : (entities : List Placed) (before all : List Association) (queue : List Posted) (system : ℕ) (e : Entity) (reference : ℕ) → Ticking entities before all queue
      → entity_at entities system ≡ Some e → first_due (now + 1) e ≡ Some reference → HasOne entities before all queue system e reference
  one_so entities before all queue system e reference t is first =
      let d = first_is_due (now + 1) e reference first in
      let q = t.known system reference d.end (e, is, d.stands) in
      let same : (ticking whole (now + 1) e).entity ≡ with_end (at (now + 1) e) reference (ticked_end true (now + 1) (Some d.end)) =
      ap (λ (o : Option ℕ). (ticking_at whole (now + 1) (at (now + 1) e) o).entity) first ∙ ap (λ (o : Option End). (ticking_end whole (now + 1) (at (now + 1) e) reference o).entity) d.stands in (
        q.0,
        q.1,
        d.end,
        d.stands,
        q.2,
        subst (λ (f : Entity). Ticking (with_entity entities system f) before (slice_set all q.0 (with_party q.2.a q.1 (ticked_end true (now + 1) (Some d.end)))) (queue ++ post q.0 q.1 (ticked_tpdus true (now + 1) (Some d.end))))
            (sym same) (end_ticks entities before all queue t system e is reference d q.0 q.1 q.2),
      )

  -- ---- none is due any more

  ends_so : (entities : List Placed) (before all : List Association) (queue : List Posted) → Ticking entities before all queue
      → ((system : ℕ) (e : Entity) → entity_at entities system ≡ Some e → first_due (now + 1) e ≡ None) → Standing timers own (now + 1) entities all queue
  ends_so entities before all queue t none = record { systems = t.systems; each = each_is; there = t.there; stand = t.stand; known = t.known; apart = t.apart; posted = t.posted }
    where
      each_is : (k : ℕ) (b : Association) → slice_get all k ≡ Some b → IsAssociation timers own (now + 1) b (waiting k true queue) (waiting k false queue)
      each_is k b is =
          let found = t.each k b is in
          let h = found.2 in
          let goes = association_ticks timers own now found.0 h.stood h.ticked (quiet found.0 h) in
          subst (λ (l : List Sent). IsAssociation timers own (now + 1) b l (waiting k false queue)) (sym (h.sent_is true))
          (subst (λ (l : List Sent). IsAssociation timers own (now + 1) b (ticked_tpdus (h.ticked true) (now + 1) found.0.calling) l) (sym (h.sent_is false))
          (subst (λ (x : Association). IsAssociation timers own (now + 1) x (ticked_tpdus (h.ticked true) (now + 1) found.0.calling) (ticked_tpdus (h.ticked false) (now + 1) found.0.called))
          (sym (same_association found.0 h)) goes))
        where
          same_association : (a : Association) (h : Has a b (λ by. waiting k by queue)) → b ≡ after_tick h.ticked (now + 1) a
          same_association a h = λ i. record { from = h.from_is i; to = h.to_is i; calling = h.party_is true i; called = h.party_is false i }

          quiet : (a : Association) (h : Has a b (λ by. waiting k by queue)) (by : Bool) (z : End) → ticked_end (h.ticked by) (now + 1) (party a by) ≡ Some z → is_due (now + 1) (Some z) ≡ false
          quiet a h by z z_is =
              let stands = t.stand k by (system_of b by) z.base.own z (record { a = b; is = is; end_is = h.party_is by ∙ z_is; system_is = refl; reference_is = refl }) in
              none_due (now + 1) stands.0 z.base.own z (none (system_of b by) stands.0 stands.1) stands.2

-- the clock goes on, each due end ticks once, and none is due then
pub ticks_so : (timers : Timers) (own : ℕ → List ℕ) → Ticks timers own (IsTicking timers own)
ticks_so timers own = record {
  begins = begins_so timers own;
  one = λ now entities before all queue system e reference t proper. one_so timers own now entities before all queue system e reference t;
  clock = λ now clock entities before all queue system e. clock_so timers own now clock entities before all queue system e;
  ends = ends_so timers own;
}
