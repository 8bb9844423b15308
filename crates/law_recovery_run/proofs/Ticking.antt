-- A tick at which an end in CrWait is due: it sends its CR again, and the other ends of the network leave it so.
use Rattle.std.proofs.Common.{◌≡◌, ℕ, ◌+◌, ◌<◌, ◌≤◌, ◌==◌, nat_lt, Bool, true, false, List, [], ◌∷◌, ◌++◌, Some, refl, sym, ◌∙◌, ap, subst, arith}
use Rattle.std.specs.List.{Contains}
use Rattle.std.proofs.lemmas.Bool.{eqb-false, eqb-true, le-leb, leb-true, ltb-false, ltb-true}
use Rattle.std.proofs.lemmas.List.Elements.{Contains-append_left, Contains-append_right, Contains-push}
use Rattle.std.proofs.lemmas.Option.{same_Some}
use Rattle.script_journal.specs.declared.event.Event.{Event}
use Rattle.tp4_number.specs.Number.{whole}
use Rattle.tp4_number.proofs.Past.{if_kept}
use Rattle.tp4_flow.specs.declared.step.Sent.{Sent}
use Rattle.tp4_sending.specs.Pieces.{again}
use Rattle.tp4_conn.specs.Agreeing.{request}
use Rattle.tp4_conn.specs.CrWait.{cr_wait_tick}
use Rattle.tp4_conn.specs.End.{End, Moved}
use Rattle.tp4_conn.specs.Table.{Ticked, at as now_at, due, stepped}
use Rattle.tp4_conn.specs.declared.end_record.EndRecord.{EndRecord}
use Rattle.tp4_conn.specs.declared.states.InCrWait.{InCrWait}
use Rattle.tp4_conn.specs.declared.states.StateData.TheVariants.{CrWait}
use Rattle.tp4_entity.specs.Entity.{Acted, Entity, at, end_at}
use Rattle.tp4_entity.specs.Step.{is_due, kept_end, ticked_to, ticking, ticking_at, ticking_end}
use Rattle.tp4_entity.proofs.Standings.{within}
use Rattle.law_tp4_associations.proofs.Dues.{IsDueAt, first_is_due, none_due}
use Rattle.tp4_world.specs.World.{entity_at, with_entity}
use Rattle.tp4_world.specs.declared.place.Placed.{Placed}
use Rattle.tp4_world.proofs.Entities.{with_found}
use Rattle.law_tp4_lawful.proofs.Frames.{entity_other}
use Rattle.law_tp4_lawful.proofs.MakesPlaces.{at_other, at_same}
use Rattle.law_calm_run.proofs.Hall.{Clocks, Hall, Over, Post, TickGoes, TickStep, Ticking, Ticks, TicksDone, TicksMore, posted}
use Rattle.law_recovery_run.specs.Requesting.{IsSentAgain, cr_from, in_cr_wait, sent_again}

module _ (now system own : ℕ) (b : EndRecord) (r : InCrWait) (some : 1 ≤ b.timers.t1) (late : r.tries.last + b.timers.t1 ≤ now) (few : r.tries.count < b.timers.sendings) where
  abbrev sending : Moved
  sending = record { base = now_at now b; stage = CrWait (record r { tries = again now r.tries }); events = []; tpdus = request b r.octets ∷ [] }

  tick_row : stepped whole now (in_cr_wait b r) Ticked ≡ sending
  unfolding cr_wait_tick
  tick_row = if_kept (λ (m : Moved). m ≡ sending) (nat_lt now (r.tries.last + b.timers.t1)) _ _ (λ early. absurd (omega (arith, late, ltb-true now (r.tries.last + b.timers.t1) early)))
      (λ _. if_kept (λ (m : Moved). m ≡ sending) (nat_lt r.tries.count b.timers.sendings) _ _ (λ _. refl) (λ many. absurd (omega (arith, few, ltb-false r.tries.count b.timers.sendings many))))

  -- it is due still, or it sent its CR
  data IsTicked (hall : Hall) : Type 0 where
    Late : (entity : Entity) → entity_at hall.entities system ≡ Some entity → end_at entity own ≡ Some (in_cr_wait b r) → IsTicked hall
    Sent_now : IsSentAgain now system own b r hall → IsTicked hall

  -- its entity at that system, and what stands there
  record IsSeen (hall : Hall) (e : End) : Type 0 where
    entity : Entity
    there : entity_at hall.entities system ≡ Some entity
    stands : end_at entity own ≡ Some e

  -- an entity is another one now: that end stands as it stood, where that entity has it so
  seen_on : (old : Hall) (place : ℕ) (was is : Entity) (new : Hall) (e : End) → new.entities ≡ with_entity old.entities place is → entity_at old.entities place ≡ Some was
      → (system ≡ place → end_at is own ≡ end_at was own) → IsSeen old e → IsSeen new e
  seen_on old place was is new e entities there same s = by (system == place) refl
    where
      by : (c : Bool) → (system == place) ≡ c → IsSeen new e
      by true here =
          let at_it : system ≡ place = eqb-true system place here in
          record {
            entity = is;
            there = ap (λ (ps : List Placed). entity_at ps system) entities ∙ ap (entity_at (with_entity old.entities place is)) at_it ∙ with_found old.entities place was is there;
            stands = same at_it ∙ ap (λ (z : Entity). end_at z own) (same_Some was s.entity (sym there ∙ ap (entity_at old.entities) (sym at_it) ∙ s.there)) ∙ s.stands;
          }
      by false apart = record {
        entity = s.entity;
        there = ap (λ (ps : List Placed). entity_at ps system) entities ∙ entity_other old.entities place system is (eqb-false system place apart) ∙ s.there;
        stands = s.stands;
      }

  -- either way
  kept_so : (old : Hall) (place : ℕ) (was is : Entity) (new : Hall) → new.entities ≡ with_entity old.entities place is → entity_at old.entities place ≡ Some was
      → (system ≡ place → end_at is own ≡ end_at was own) → ((post : Post) → Contains old.posts post → Contains new.posts post) → IsTicked old → IsTicked new
  kept_so old place was is new entities there same more (Late entity at_it stands) =
      let s : IsSeen new (in_cr_wait b r) = seen_on old place was is new (in_cr_wait b r) entities there same (record { entity = entity; there = at_it; stands = stands }) in
      Late s.entity s.there s.stands
  kept_so old place was is new entities there same more (Sent_now q) =
      let s : IsSeen new (sent_again now b r) = seen_on old place was is new (sent_again now b r) entities there same (record { entity = q.entity; there = q.there; stands = q.stands }) in
      Sent_now (record { entity = s.entity; there = s.there; stands = s.stands; waits = more (cr_from system b r) q.waits })

  module _ (old new : Hall) (made : List Event) (t : Ticks old made new) (clock : old.clock ≡ now) (before : IsTicked old) where
    d : IsDueAt old.clock t.entity t.reference
    d = first_is_due old.clock t.entity t.reference t.due

    abbrev m : Moved
    m = stepped whole old.clock d.end Ticked

    abbrev acted : Acted
    acted = ticking whole old.clock t.entity

    acted_is : acted ≡ ticked_to (at old.clock t.entity) t.reference m
    acted_is =
        ap (ticking_at whole old.clock (at old.clock t.entity)) t.due ∙ ap (ticking_end whole old.clock (at old.clock t.entity) t.reference) d.stands

    entities : new.entities ≡ with_entity old.entities t.system acted.entity
    entities = ap (λ (h : Hall). h.entities) t.does.becomes

    posts : new.posts ≡ old.posts ++ posted t.system acted.tpdus
    posts = ap (λ (h : Hall). h.posts) t.does.becomes

    more : (post : Post) → Contains old.posts post → Contains new.posts post
    more post c = subst (λ (l : List Post). Contains l post) (sym posts) (Contains-append_left old.posts (posted t.system acted.tpdus) post c)

    aside : (system ≡ t.system → own ≡ t.reference → ⊥) → IsTicked new
    aside apart = kept_so old t.system t.entity acted.entity new entities t.there
        (λ here. ap (λ (z : Acted). end_at z.entity own) acted_is ∙ at_other (at old.clock t.entity) t.reference own _ (within t.entity t.reference d.end d.stands).least (apart here)) more before

    -- it is this end that ticks
    module _ (here : system ≡ t.system) (same : own ≡ t.reference) where
      it : (entity : Entity) (e : End) → entity_at old.entities system ≡ Some entity → end_at entity own ≡ Some e → d.end ≡ e
      it entity e there stands =
          let owner : t.entity ≡ entity = same_Some t.entity entity (sym t.there ∙ ap (entity_at old.entities) (sym here) ∙ there) in
          same_Some d.end e (sym d.stands ∙ (λ i. end_at (owner i) (sym same i)) ∙ stands)

      ticks_now : IsTicked old → IsTicked new
      ticks_now (Late entity there stands) =
          let m_is : m ≡ sending = (λ i. stepped whole (clock i) (it entity (in_cr_wait b r) there stands i) Ticked) ∙ tick_row in
          let inside = within t.entity t.reference d.end d.stands in
          Sent_now (record {
            entity = acted.entity;
            there = ap (entity_at new.entities) here ∙ ap (λ (ps : List Placed). entity_at ps t.system) entities ∙ with_found old.entities t.system t.entity acted.entity t.there;
            stands = ap (end_at acted.entity) same ∙ ap (λ (z : Acted). end_at z.entity t.reference) acted_is
                ∙ at_same (at old.clock t.entity) t.reference (kept_end m (due m.base m.stage)) inside.least inside.most ∙ ap (λ (z : Moved). kept_end z (due z.base z.stage)) m_is;
            waits = subst (λ (l : List Post). Contains l (cr_from system b r)) (sym posts)
                (Contains-append_right old.posts (posted t.system acted.tpdus) (cr_from system b r)
                (subst (λ (l : List Sent). Contains (posted t.system l) (cr_from system b r)) (sym (ap (λ (z : Acted). z.tpdus) acted_is ∙ ap (λ (z : Moved). z.tpdus) m_is))
                (subst (λ (n : ℕ). Contains (posted n (request b r.octets ∷ [])) (cr_from system b r)) here (Contains-push [] (cr_from system b r)))));
          })
      ticks_now (Sent_now q) =
          let due_now : is_due now (Some (sent_again now b r)) ≡ true = (λ i. is_due (sym clock i) (Some (sym (it q.entity (sent_again now b r) q.there q.stands) i))) ∙ d.due in
          absurd (omega (arith, some, leb-true (now + b.timers.t1) now due_now))

    ticks_on : IsTicked new
    ticks_on = by (system == t.system) (own == t.reference) refl refl
      where
        by : (c e : Bool) → (system == t.system) ≡ c → (own == t.reference) ≡ e → IsTicked new
        by true true here same = ticks_now (eqb-true system t.system here) (eqb-true own t.reference same) before
        by true false here apart = aside (λ _ same. eqb-false own t.reference apart same)
        by false e apart any = aside (λ here _. eqb-false system t.system apart here)

  -- within the tick
  step_on : (old mid : Hall) (made : List Event) → TickStep old made mid → old.clock ≡ now → IsTicked old → IsTicked mid × (mid.clock ≡ now)
  step_on old mid made (Ticking t) clock before = (ticks_on old mid made t clock before, ap (λ (h : Hall). h.clock) t.does.becomes ∙ clock)
  step_on old mid made (Over o) clock before = (
    kept_so old o.system o.entity (at old.clock o.entity) mid (ap (λ (h : Hall). h.entities) o.becomes) o.there (λ here. refl)
        (λ post c. subst (λ (l : List Post). Contains l post) (sym (ap (λ (h : Hall). h.posts) o.becomes)) c) before,
    ap (λ (h : Hall). h.clock) o.becomes ∙ clock,
  )

  goes_on : (old new : Hall) (made : List Event) → TickGoes old made new → old.clock ≡ now → IsTicked old → IsTicked new × (new.clock ≡ now)
  goes_on old new made (TicksDone o m n none same) clock before = (subst IsTicked (sym same) before, ap (λ (h : Hall). h.clock) same ∙ clock)
  goes_on old new made (TicksMore o m n mid here rest proper step goes is) clock before =
      let first = step_on old mid here step clock before in
      goes_on mid new rest goes first.1 first.0

pub sends_again : (old new : Hall) (made : List Event) (system own : ℕ) (entity : Entity) (b : EndRecord) (r : InCrWait) → Clocks old made new → entity_at old.entities system ≡ Some entity
    → end_at entity own ≡ Some (in_cr_wait b r) → 1 ≤ b.timers.t1 → r.tries.last + b.timers.t1 ≤ old.clock + 1 → r.tries.count < b.timers.sendings → IsSentAgain (old.clock + 1) system own b r new
sends_again old new made system own entity b r c there stands some late few =
    let done = goes_on (old.clock + 1) system own b r some late few (record old { clock = old.clock + 1 }) new c.later c.ticks refl (Late entity there stands) in
    by done.0 done.1
  where
    by : IsTicked (old.clock + 1) system own b r some late few new → new.clock ≡ old.clock + 1 → IsSentAgain (old.clock + 1) system own b r new
    by (Sent_now q) clock = q
    by (Late z at_it at_own) clock =
        let over : is_due new.clock (Some (in_cr_wait b r)) ≡ false = none_due new.clock z own (in_cr_wait b r) (c.over system z at_it) at_own in
        let due_now : is_due new.clock (Some (in_cr_wait b r)) ≡ true = le-leb (r.tries.last + b.timers.t1) new.clock (omega (arith, late, clock)) in
        absurd (cc (over, due_now))
