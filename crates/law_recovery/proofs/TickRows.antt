-- An end ticks that is due: the end that asked sends its CR again, or its sendings are over; an end that it called gives up its user, or sends its CC again, or its sendings are over; or neither sees
-- anything of it.
use Rattle.std.proofs.Common.{◌≡◌, ◌⊎◌, inl, inr, ℕ, ◌+◌, nat_lt, true, false, List, [], ◌∷◌, ◌++◌, Option, Some, None, refl, sym, ◌∙◌, ap, subst, arith, append-nil, append_assoc}
use Rattle.std.proofs.lemmas.Bool.{leb-true, ltb-true}
use Rattle.std.proofs.lemmas.List.Elements.{Contains-append_left, Contains-append_right, Contains-push}
use Rattle.std.proofs.lemmas.Option.{none-some, same_Some}
use Rattle.std.specs.List.{AllByRecursion, Contains}
use Rattle.osi_base.specs.Link.{Link}
use Rattle.osi_base.proofs.Members.{all_both}
use Rattle.script_journal.specs.declared.event.Event.{Event as JournalEvent}
use Rattle.script_journal.specs.declared.event.Event.TheVariants as events
use Rattle.tpdu.specs.declared.service.EndTold.TheVariants as tells
use Rattle.tpdu.specs.declared.service.GoneCause.TheVariants.{Exhausted}
use Rattle.tpdu.specs.declared.service.Options.{Options}
use Rattle.tp4_number.specs.Number.{whole}
use Rattle.tp4_number.proofs.Past.{if_kept}
use Rattle.tp4_flow.specs.declared.step.EndEvent.{EndEvent}
use Rattle.tp4_flow.specs.declared.step.Sent.{Sent}
use Rattle.tp4_sending.specs.Pieces.{again}
use Rattle.tp4_conn.specs.Agreeing.{request}
use Rattle.tp4_conn.specs.CrWait.{cr_wait_tick}
use Rattle.tp4_conn.specs.End.{End, Moved, end_of, frozen, gone}
use Rattle.tp4_conn.specs.Matching.{is_called_by}
use Rattle.tp4_conn.specs.Table.{Ticked, at as now_at, due, on_tick, stepped}
use Rattle.tp4_conn.specs.declared.end_record.EndRecord.{EndRecord}
use Rattle.tp4_conn.specs.declared.states.InCrWait.{InCrWait}
use Rattle.tp4_conn.specs.declared.states.StateData.{StateData}
use Rattle.tp4_conn.specs.declared.states.StateData.TheVariants as stages
use Rattle.tp4_conn.specs.declared.timers.Timers.{Timers}
use Rattle.tp4_entity.specs.Entity.{Entity, at, end_at, with_end}
use Rattle.tp4_entity.specs.Step.{is_due, kept_end}
use Rattle.law_tp4_history.specs.Tracks.{Whole}
use Rattle.law_tp4_history.specs.Moves.{IsSeenIn, stop_of}
use Rattle.tp4_world.specs.Telling.{ends_after, events_after}
use Rattle.tp4_world.specs.World.{World, entity_at, latest, with_entity}
use Rattle.tp4_world.specs.declared.place.EndAt.{EndAt}
use Rattle.tp4_world.specs.declared.place.Placed.{Placed}
use Rattle.law_tp4_lawful.proofs.Worlds.{Explains}
use Rattle.law_recovery_world.proofs.SeeSteps.{kept_at}
use Rattle.law_calm_run.proofs.Hall.{Post, posted}
use Rattle.law_recovery_run.proofs.Aiming.{Going}
use Rattle.law_recovery_run.proofs.Aside.{both_are}
pub use Rattle.law_recovery_run.proofs.Aside.{frozen_of}
use Rattle.law_recovery_run.proofs.Waiting.{posted_each}
use Rattle.law_recovery_run.specs.Requesting.{AreListening, IsUnanswered, cr_from, in_cr_wait}
use Rattle.law_recovery_run.proofs.RequestComes.{Asking, IsHere, IsPending, IsWaiting, here_same, waiting_same}
use Rattle.law_recovery_run.proofs.Keeping.{IsKeptApart}
use Rattle.law_recovery.proofs.Asking.{at_place}
use Rattle.law_recovery.proofs.Accepting.{only_called, quiet_row}
use Rattle.law_recovery.proofs.Elsewhere.{Changes, IsNow, accepted_on, bare_on, changed_there, listens_on, now_at as now_there, replied_on, selects_on, still_pending, unanswered_on}
use Rattle.law_recovery.proofs.Replying.{Replies, ak_wait_due, tick_replies}
use Rattle.law_recovery.proofs.HalvesRowing.{IsCalled, apart_posts, called_or, calls, changes, is_it, known, numbers_same, placed, row_bare, row_pending, row_replied, row_replies}
use Rattle.law_recovery.proofs.State.{Accepted, AreApart, Asked, Early, IsAccepted, IsBare, IsOn, IsQuiet, IsReplied, Over, Replied, Told, apart_as, pending_on}
use Rattle.law_recovery.proofs.HalvesTelling.{first_is, told_before, told_behind, told_in}

-- ---- an end in CrWait

module _ (now : ℕ) (b : EndRecord) (r : InCrWait) where
  abbrev sends : Moved
  sends = record { base = now_at now b; stage = stages.CrWait (record r { tries = again now r.tries }); events = []; tpdus = request b r.octets ∷ [] }

  abbrev is_spent : Moved
  is_spent = frozen (now_at now b) (gone (now_at now b) Exhausted []) []

  -- it sends its CR again, or its sendings are over
  tick_row : is_due now (Some (in_cr_wait b r)) ≡ true → (stepped whole now (in_cr_wait b r) Ticked ≡ sends) ⊎ (stepped whole now (in_cr_wait b r) Ticked ≡ is_spent)
  unfolding cr_wait_tick
  tick_row late = if_kept (λ (m : Moved). (m ≡ sends) ⊎ (m ≡ is_spent)) (nat_lt now (r.tries.last + b.timers.t1)) _ _
      (λ early. absurd (omega (arith, leb-true (r.tries.last + b.timers.t1) now late, ltb-true now (r.tries.last + b.timers.t1) early)))
      (λ _. if_kept (λ (m : Moved). (m ≡ sends) ⊎ (m ≡ is_spent)) (nat_lt r.tries.count b.timers.sendings) _ _ (λ _. inl refl) (λ _. inr refl))

-- ---- an end ticks

module _ {C : Type 0} (link : C → Link (List ℕ)) (titles : List (List ℕ)) (timers : Timers) (w : Whole) (journal : List JournalEvent) (old : World C) (explains : Explains link titles timers w journal old)
    (going : Going) (new : World C) (made : List JournalEvent) (s : ℕ) (entity : Entity) (there : entity_at old.entities s ≡ Some entity) (reference : ℕ) (o : End) (stands : end_at entity reference ≡ Some o)
    (is_due_now : is_due (link old.carrier).clock (Some o) ≡ true)
    (entities : new.entities ≡ with_entity old.entities s
    (with_end (at (link old.carrier).clock entity) reference (kept_end (stepped whole (link old.carrier).clock o Ticked) (due (stepped whole (link old.carrier).clock o Ticked).base (stepped whole (link old.carrier).clock o Ticked).stage))))
    (ends : new.ends ≡ ends_after old.ends s (stepped whole (link old.carrier).clock o Ticked).events) (clock : (link new.carrier).clock ≡ (link old.carrier).clock) (aside : List JournalEvent)
    (made_is : made ≡ events_after old.ends s entity.own (stepped whole (link old.carrier).clock o Ticked).events ++ aside) where
  abbrev now : ℕ
  now = (link old.carrier).clock

  abbrev m : Moved
  m = stepped whole now o Ticked

  abbrev place : Option End
  place = kept_end m (due m.base m.stage)

  place_is : (e : End) → place ≡ Some e → e ≡ end_of m
  place_is e is = kept_at m (due m.base m.stage) e is

  abbrev a : Changes link old new
  a = changes link titles timers w journal old explains going new s entity there reference o stands Ticked place place_is entities ends clock

  module _ (x system : ℕ) (from : List ℕ) (N : Type 0) (F : Type 0) (y limit : ℕ) (first : EndRecord) (asked : InCrWait) (late : List JournalEvent) (posts : List Post) where
    abbrev On : Type 0
    On = IsOn link x system from N F y limit first asked (late ++ made) new (posts ++ posted s m.tpdus)

    module _ (b : EndRecord) (r : InCrWait) (h : IsHere system x from N b r old) where
      abbrev sent_base : EndRecord
      sent_base = now_at now b

      abbrev sent_stage : InCrWait
      sent_stage = record r { tries = again now r.tries }

      -- ---- it is the end that asked

      module _ (at_it : s ≡ system) (same : reference ≡ b.own) where
        is : o ≡ in_cr_wait b r
        is = is_it link titles timers w journal old explains going new s entity there reference o stands Ticked place place_is entities ends clock x system from N b r h at_it same

        row : (m ≡ sends now b r) ⊎ (m ≡ is_spent now b r)
        row = elim (tick_row now b r (subst (λ (z : End). is_due now (Some z) ≡ true) is is_due_now)) [
          | inl again ↦ inl (ap (λ (z : End). stepped whole now z Ticked) is ∙ again)
          | inr over ↦ inr (ap (λ (z : End). stepped whole now z Ticked) is ∙ over)
        ]

        -- its sendings are over
        over : m ≡ is_spent now b r → On
        over spent = Told (told_behind N late made x (told_in N old.ends s entity.own b.own x m.events [] aside made
            (record { what = tells.Gone Exhausted []; rest = []; is = ap (λ (z : Moved). z.events) spent; named = tt })
            (ap (λ (n : ℕ). latest old.ends n b.own) at_it ∙ h.number) made_is))

        -- its CR waits again
        module _ (sent : m ≡ sends now b r) where
          here_now : IsHere system x from N sent_base sent_stage new
          here_now = record {
            entity = a.changed;
            there = ap (entity_at new.entities) (sym at_it) ∙ changed_there link old new a;
            own_is = ap (λ (z : Entity). z.own) (same_Some entity h.entity (sym there ∙ ap (entity_at old.entities) at_it ∙ h.there)) ∙ h.own_is;
            stands = ap (end_at a.changed) (sym same) ∙ placed link titles timers w journal old explains going new s entity there reference o stands Ticked place place_is entities ends clock
                ∙ ap (λ (z : Moved). kept_end z (due z.base z.stage)) sent;
            number = a_number ∙ h.number;
          }
            where
              a_number : latest new.ends system b.own ≡ latest old.ends system b.own
              a_number = ap (λ (es : List EndAt). latest es system b.own) (ends ∙ ap (λ (z : Moved). ends_after old.ends s z.events) sent)

          waits : Contains (posts ++ posted s m.tpdus) (cr_from system sent_base sent_stage)
          waits = Contains-append_right posts (posted s m.tpdus) (cr_from system sent_base sent_stage)
              (subst (λ (l : List Sent). Contains (posted s l) (cr_from system sent_base sent_stage)) (sym (ap (λ (z : Moved). z.tpdus) sent))
              (subst (λ (n : ℕ). Contains (posted n (request b r.octets ∷ [])) (cr_from system sent_base sent_stage)) (sym at_it) (Contains-push [] (cr_from system sent_base sent_stage))))

          -- what is in its name is its CR
          own_apart : AreApart system from N sent_base sent_stage (posted s m.tpdus)
          own_apart = subst (λ (l : List Sent). AreApart system from N sent_base sent_stage (posted s l)) (sym (ap (λ (z : Moved). z.tpdus) sent)) (
            record {
              refused = λ to_it. absurd (none-some b.own to_it.target);
              named = λ here names. ap (λ (n : ℕ). record { system = n; sent = request b r.octets }) at_it;
              sourced = λ kind. absurd (cc kind);
            },
            tt,
          )

          asks_again : (F → ⊥) → IsBare link x system from N b r old posts → On
          asks_again never bare = Asked never sent_base sent_stage
              (record {
                here = here_now;
                unanswered = unanswered_on link old new a x system from N b r bare.unanswered (λ p at_p to called. absurd (not_called p at_p called));
                listens = listens_on link old new a b.to bare.listens;
                selects = selects_on link old new a N b.to b.called bare.selects;
                apart = all_both (IsKeptApart system from N sent_base sent_stage) posts (posted s m.tpdus) (apart_as system from N b r now (again now r.tries) posts bare.apart) own_apart;
              }) (Asking waits)
            where
              two : false ≡ true → ⊥
              two f = cc f

              not_called : (p : End) → end_at a.changed reference ≡ Some p → is_called_by p.base from b.own ≡ true → ⊥
              not_called p at_p called =
                  let p_is : p ≡ end_of m = place_is p (sym (placed link titles timers w journal old explains going new s entity there reference o stands Ticked place place_is entities ends clock) ∙ at_p) in
                  let never : b.is_called ≡ false = calls link titles timers w journal old explains going new s entity there reference o stands Ticked place place_is entities ends clock x system from N b r h in
                  two (sym never ∙ (both_are b.is_called _ (subst (λ (z : End). is_called_by z.base from b.own ≡ true) (p_is ∙ ap end_of sent) called)).0)

          replied_again : IsReplied link x system from N b r old posts → On
          replied_again k = let n : IsNow link old new a k.answer.system k.entity = now_there link old new a k.answer.system k.entity k.there in
              Replied sent_base sent_stage (record {
                here = here_now;
                front = k.front;
                answer = k.answer;
                back = k.back ++ posted s m.tpdus;
                posts_are = ap (λ (ps : List Post). ps ++ posted s m.tpdus) k.posts_are ∙ append_assoc k.front (k.answer ∷ k.back) (posted s m.tpdus);
                entity = n.entity;
                there = n.there;
                own_is = n.own ∙ k.own_is;
                apart = apart_as system from N b r now (again now r.tries) k.front k.apart;
                reply = k.reply;
              })

      -- ---- it is another end

      abbrev Calls : Type 0
      Calls = IsCalled link titles timers w journal old explains going new s entity there reference o stands Ticked place place_is entities ends clock x system from N b r h

      -- a frozen one does nothing
      still_none : (when : ℕ) → o.stage ≡ stages.Frozen when → m.tpdus ≡ []
      still_none when frozen = ap (λ (z : StateData). (on_tick (now_at now o.base) z).tpdus) frozen

      none_apart : m.tpdus ≡ [] → AreApart system from N b r (posted s m.tpdus)
      none_apart none = subst (λ (l : List Sent). AreApart system from N b r (posted s l)) (sym none) tt

      aside_of : (s ≡ system → reference ≡ b.own → ⊥) → (Calls → ⊥) → AreApart system from N b r (posted s m.tpdus)
      aside_of apart other = by (stop_of o.stage) refl
        where
          by : (stop : Option ℕ) → stop_of o.stage ≡ stop → AreApart system from N b r (posted s m.tpdus)
          by None goes = apart_posts link titles timers w journal old explains going new s entity there reference o stands Ticked place place_is entities ends clock x system from N b r h apart other goes tt tt tt (λ named. named)
          by (Some when) is = none_apart (still_none when (frozen_of o.stage when is))

      -- an end that it called, which is frozen
      frozen_bare : (apart : s ≡ system → reference ≡ b.own → ⊥) (when : ℕ) → o.stage ≡ stages.Frozen when → IsBare link x system from N b r old posts → IsBare link x system from N b r new (posts ++ posted s m.tpdus)
      frozen_bare apart when is bare = bare_on link old new a x system from N b r posts (posted s m.tpdus) bare (λ at_it same. apart (sym at_it) (sym same)) (λ p at_p to called. frozen_still p at_p) (none_apart (still_none when is))
        where
          frozen_still : (p : End) → end_at a.changed reference ≡ Some p → IsUnanswered p.stage
          frozen_still p at_p =
              let p_is : p ≡ end_of m = place_is p (sym (placed link titles timers w journal old explains going new s entity there reference o stands Ticked place place_is entities ends clock) ∙ at_p) in
              subst (λ (z : End). IsUnanswered z.stage) (sym p_is) (subst (λ (z : StateData). IsUnanswered (on_tick (now_at now o.base) z).stage) (sym is) tt)

      not_frozen : (when : ℕ) → o.stage ≡ stages.Frozen when → (d : IsWaiting system x from N b r old) → d.at_system ≡ s → d.own ≡ reference → ⊥
      not_frozen when is d at_it same =
          let owner : d.entity ≡ entity = same_Some d.entity entity (sym d.there ∙ ap (entity_at old.entities) at_it ∙ there) in
          let one : d.end ≡ o = same_Some d.end o (sym d.stands ∙ (λ i. end_at (owner i) (same i)) ∙ stands) in
          none_some_stop (ap stop_of (sym d.stage) ∙ ap (λ (z : End). stop_of z.stage) one ∙ ap stop_of is)
        where
          none_some_stop : None ≡ Some when → ⊥
          none_some_stop e = none-some when e

      -- which of these
      called_ticks : (apart : s ≡ system → reference ≡ b.own → ⊥) → IsBare link x system from N b r old posts → Calls → ((when : ℕ) → o.stage ≡ stages.Frozen when → On) → On
      called_ticks apart bare called frozen = by o.stage refl (bare.unanswered s reference entity o there called.0 stands called.1)
        where
          by : (stage : StateData) → o.stage ≡ stage → IsUnanswered o.stage → On
          by (stages.UserWait since) is un =
              let same : o ≡ record { base = o.base; stage = stages.UserWait since } = ap (λ (z : StateData). record { base = o.base; stage = z }) is in
              let says : Replies from N b.own m = subst (λ (z : End). Replies from N b.own (stepped whole now z Ticked)) (sym same)
              (tick_replies now o.base since from N b.own called.1 (subst (λ (z : End). is_due now (Some z) ≡ true) same is_due_now)) in
              Replied b r (row_replies link titles timers w journal old explains going new s entity there reference o stands Ticked place place_is entities ends clock x system from N b r h apart posts says.sent called says.is says.reply bare.apart)
          by (stages.Frozen when) is un = frozen when is
          by other is un = absurd (subst IsUnanswered is un)

      which : (F → ⊥) → IsBare link x system from N b r old posts → ((s ≡ system → reference ≡ b.own → ⊥) → (Calls → ⊥) → On) → ((s ≡ system → reference ≡ b.own → ⊥) → (when : ℕ) → o.stage ≡ stages.Frozen when → On) → On
      which never bare still frozen = elim (at_place s reference system b.own) [
        | inl here ↦ elim (row here.0 here.1) [
          | inl sent ↦ asks_again here.0 here.1 sent never bare
          | inr spent ↦ over here.0 here.1 spent
        ]
        | inr apart ↦ elim (called_or link titles timers w journal old explains going new s entity there reference o stands Ticked place place_is entities ends clock x system from N b r h) [
          | inl called ↦ called_ticks apart bare called (frozen apart)
          | inr other ↦ still apart other
        ]
      ]

      stays : (apart : s ≡ system → reference ≡ b.own → ⊥) → (Calls → ⊥) → IsBare link x system from N b r old posts → IsBare link x system from N b r new (posts ++ posted s m.tpdus)
      stays apart other bare =
          row_bare link titles timers w journal old explains going new s entity there reference o stands Ticked place place_is entities ends clock x system from N b r h apart other posts (aside_of apart other) bare

    -- ---- its called end was accepted

    module _ (on : F) (b : EndRecord) (r : InCrWait) (k : IsAccepted link x system from N y limit b r old posts) where
      -- the two stand at two places
      two_places : s ≡ system → reference ≡ b.own → k.at_system ≡ s → k.own ≡ reference → ⊥
      two_places at_it same at_its its =
          let mine : o ≡ in_cr_wait b r = is b r k.here at_it same in
          let owner : k.entity ≡ entity = same_Some k.entity entity (sym k.there ∙ ap (entity_at old.entities) at_its ∙ there) in
          let theirs : k.end ≡ o = same_Some k.end o (sym k.stands ∙ (λ i. end_at (owner i) (its i)) ∙ stands) in
          apart_stages (sym k.stage ∙ ap (λ (z : End). z.stage) (theirs ∙ mine))
        where
          apart_stages : stages.AkWait k.w ≡ stages.CrWait r → ⊥
          apart_stages e = cc e

      -- the end that asked sends its CR again
      mine_again : (at_it : s ≡ system) (same : reference ≡ b.own) → m ≡ sends now b r → On
      mine_again at_it same sent = let n : IsNow link old new a k.at_system k.entity = now_there link old new a k.at_system k.entity k.there in
          Accepted on (sent_base b r k.here) (sent_stage b r k.here) (record {
            here = here_now b r k.here at_it same sent;
            listens = listens_on link old new a b.to k.listens;
            selects = selects_on link old new a N b.to b.called k.selects;
            apart = all_both (IsKeptApart system from N (sent_base b r k.here) (sent_stage b r k.here)) posts (posted s m.tpdus) (apart_as system from N b r now (again now r.tries) posts k.apart)
                (own_apart b r k.here at_it same sent);
            at_system = k.at_system;
            own = k.own;
            entity = n.entity;
            there = n.there;
            own_is = n.own ∙ k.own_is;
            end = k.end;
            w = k.w;
            stands = n.same k.own (two_places at_it same) ∙ k.stands;
            stage = k.stage;
            called = k.called;
            number = numbers_same link titles timers w journal old explains going new s entity there reference o stands Ticked place place_is entities ends clock k.at_system k.own ∙ k.number;
            past = k.past;
            quiet = all_both (IsQuiet link x system from N b.to k.at_system k.own) posts (posted s m.tpdus) k.quiet
                (subst (λ (l : List Sent). AllByRecursion (IsQuiet link x system from N b.to k.at_system k.own) (posted s l)) (sym (ap (λ (z : Moved). z.tpdus) sent))
                (record { none = λ here to_it. none-some k.own to_it.target; unnamed = λ at_its names. two_places at_it same (sym at_its) (sym names ∙ sym same) }, tt));
          })

      -- its called end sends its CC again, or its sendings are over
      module _ (apart : s ≡ system → reference ≡ b.own → ⊥) (at_it : s ≡ k.at_system) (same : reference ≡ k.own) where
        owner : entity ≡ k.entity
        owner = same_Some entity k.entity (sym there ∙ ap (entity_at old.entities) at_it ∙ k.there)

        as_it : o ≡ record { base = k.end.base; stage = stages.AkWait k.w }
        as_it = same_Some o k.end (sym stands ∙ (λ i. end_at (owner i) (same i)) ∙ k.stands) ∙ ap (λ (z : StateData). record { base = k.end.base; stage = z }) k.stage

        abbrev its : Moved
        its = stepped whole now (record { base = k.end.base; stage = stages.AkWait k.w }) Ticked

        m_is : its ≡ m
        m_is = ap (λ (z : End). stepped whole now z Ticked) (sym as_it)

        agreed : (options : Options) × (k.end.base.agreed ≡ Some options)
        agreed =
            let its_known = known link titles timers w journal old explains going new s entity there reference o stands Ticked place place_is entities ends clock in
            let state : IsSeenIn (w.base.end its_known.k).birth (w.base.end its_known.k).took (w.base.end its_known.k).latest k.end.base (stages.AkWait k.w) =
            subst (λ (z : End). IsSeenIn (w.base.end its_known.k).birth (w.base.end its_known.k).took (w.base.end its_known.k).latest z.base z.stage) as_it its_known.sees.state in
            (state.halves.terms, state.halves.agreed)

        own_is : k.end.base.own ≡ k.own
        own_is =
            let its_known = known link titles timers w journal old explains going new s entity there reference o stands Ticked place place_is entities ends clock in
            ap (λ (z : End). z.base.own) (sym as_it) ∙ sym its_known.sees.reference ∙ its_known.at.reference_is ∙ same

        ticks_it : Replies from N b.own its ⊎ (its.events ≡ gone (now_at now k.end.base) Exhausted []) → On
        ticks_it (inl says) = Replied b r (row_replies link titles timers w journal old explains going new s entity there reference o stands Ticked place place_is entities ends clock x system from N b r k.here apart posts says.sent
            (ap (λ (z : Entity). z.own) owner ∙ k.own_is, subst (λ (z : End). is_called_by z.base from b.own ≡ true) (sym as_it) k.called) (ap (λ (z : Moved). z.tpdus) (sym m_is) ∙ says.is) says.reply k.apart)
        ticks_it (inr spent) = Over on (Contains-append_right late made event (subst (λ (es : List JournalEvent). Contains es event) (sym lines) (first_is event aside)))
          where
            event : JournalEvent
            event = events.End y (tells.Gone Exhausted [])

            number : latest old.ends s k.end.base.own ≡ y
            number = (λ i. latest old.ends (at_it i) (own_is i)) ∙ k.number

            lines : made ≡ event ∷ aside
            lines = made_is ∙ ap (λ (es : List EndEvent). events_after old.ends s entity.own es ++ aside) (ap (λ (z : Moved). z.events) (sym m_is) ∙ spent)
                ∙ ap (λ (n : ℕ). events.End n (tells.Gone Exhausted []) ∷ aside) number

        its_tick : On
        its_tick = ticks_it (ak_wait_due now k.end.base k.w agreed.0 from N b.own k.called agreed.1 (subst (λ (z : End). is_due now (Some z) ≡ true) as_it is_due_now))

      -- another end ticks
      beside_it : (s ≡ system → reference ≡ b.own → ⊥) → (s ≡ k.at_system → reference ≡ k.own → ⊥) → On
      beside_it apart apart_there = Accepted on b r (accepted_on link old new a x system from N b r y limit posts (posted s m.tpdus) k (λ at_it same. apart (sym at_it) (sym same)) (λ at_it same. apart_there (sym at_it) (sym same))
          both.0 both.1)
        where
          by : (stop : Option ℕ) → stop_of o.stage ≡ stop → AreApart system from N b r (posted s m.tpdus) × AllByRecursion (IsQuiet link x system from N b.to k.at_system k.own) (posted s m.tpdus)
          by None goes = (
            apart_posts link titles timers w journal old explains going new s entity there reference o stands Ticked place place_is entities ends clock x system from N b r k.here apart
                (λ called. let at = only_called link titles timers w journal old explains x system from N y limit b r posts k s entity there reference o stands goes called.0 called.1 in apart_there at.0 at.1) goes tt tt tt
                (λ named. named),
            posted_each (IsQuiet link x system from N b.to k.at_system k.own) s m.tpdus
                (quiet_row link titles timers w journal old explains x system from N y limit b r posts k s entity there reference o stands goes going Ticked tt tt tt (λ to named. named) apart_there),
          )
          by (Some when) is =
              let none : m.tpdus ≡ [] = still_none b r k.here when (frozen_of o.stage when is) in
              (none_apart b r k.here none, subst (λ (l : List Sent). AllByRecursion (IsQuiet link x system from N b.to k.at_system k.own) (posted s l)) (sym none) tt)

          both : AreApart system from N b r (posted s m.tpdus) × AllByRecursion (IsQuiet link x system from N b.to k.at_system k.own) (posted s m.tpdus)
          both = by (stop_of o.stage) refl

    accepted_tick : (on : F) (b : EndRecord) (r : InCrWait) → IsAccepted link x system from N y limit b r old posts → On
    accepted_tick on b r k = elim (at_place s reference system b.own) [
      | inl here ↦ elim (row b r k.here here.0 here.1) [
        | inl sent ↦ mine_again on b r k here.0 here.1 sent
        | inr spent ↦ over b r k.here here.0 here.1 spent
      ]
      | inr apart ↦ elim (at_place s reference k.at_system k.own) [
        | inl it ↦ its_tick on b r k apart it.0 it.1
        | inr other ↦ beside_it on b r k apart other
      ]
    ]

    pub tick_on : IsOn link x system from N F y limit first asked late old posts → On
    tick_on (Early never k) = which first asked k.here never k (λ apart other. Early never (stays first asked k.here apart other k)) (λ apart when is. Early never (frozen_bare first asked k.here apart when is k))
    tick_on (Asked never b r k p) = which b r k.here never k
        (λ apart other. Asked never b r (stays b r k.here apart other k)
        (row_pending link titles timers w journal old explains going new s entity there reference o stands Ticked place place_is entities ends clock x system from N b r k.here apart other posts p))
        (λ apart when is. Asked never b r (frozen_bare b r k.here apart when is k) (still_pending link old new a x system from N b r posts (posted s m.tpdus) p (not_frozen b r k.here when is)))
    tick_on (Replied b r k) = elim (at_place s reference system b.own) [
      | inl here ↦ elim (row b r k.here here.0 here.1) [
        | inl sent ↦ replied_again b r k.here here.0 here.1 sent k
        | inr spent ↦ over b r k.here here.0 here.1 spent
      ]
      | inr apart ↦ Replied b r (row_replied link titles timers w journal old explains going new s entity there reference o stands Ticked place place_is entities ends clock x system from N b r k.here apart posts k)
    ]
    tick_on (Accepted on b r k) = accepted_tick on b r k
    tick_on (Told t) = Told (told_before N late made x t)
    tick_on (Over on t) = Over on (Contains-append_left late made _ t)

-- ---- no end of an entity is due

module _ {C : Type 0} (link : C → Link (List ℕ)) (old new : World C) (s : ℕ) (entity : Entity) (there : entity_at old.entities s ≡ Some entity)
    (entities : new.entities ≡ with_entity old.entities s (at (link old.carrier).clock entity)) (ends : new.ends ≡ old.ends) (clock : (link new.carrier).clock ≡ (link old.carrier).clock) where
  abbrev none : Changes link old new
  none = record {
    system = s;
    entity = entity;
    changed = at (link old.carrier).clock entity;
    reference = 0;
    there = there;
    entities = entities;
    own = refl;
    silent = λ n. refl;
    selectors = refl;
    others = λ other apart. refl;
    numbers = λ place other apart. ap (λ (es : List EndAt). latest es place other) ends;
    clock = clock;
  }

  module _ (x system : ℕ) (from : List ℕ) (N : Type 0) (F : Type 0) (y limit : ℕ) (first : EndRecord) (asked : InCrWait) (late made : List JournalEvent) (posts : List Post) where
    module _ (b : EndRecord) (r : InCrWait) where
      some : IsHere system x from N b r old → system ≡ s → b.own ≡ 0 → ⊥
      some h at_it zero = none-some (in_cr_wait b r) (ap (end_at h.entity) (sym zero) ∙ h.stands)

      bare_none : IsBare link x system from N b r old posts → IsBare link x system from N b r new (posts ++ [])
      bare_none k = bare_on link old new none x system from N b r posts [] k (some k.here) (λ p at_p to called. absurd (none-some p at_p)) tt

      pending_none : IsPending system x from N b r old posts → IsPending system x from N b r new (posts ++ [])
      pending_none p = still_pending link old new none x system from N b r posts [] p (λ d at_it zero. none-some d.end (ap (end_at d.entity) (sym zero) ∙ d.stands))

    none_so : IsOn link x system from N F y limit first asked late old posts → IsOn link x system from N F y limit first asked (late ++ made) new (posts ++ [])
    none_so (Early never k) = Early never (bare_none first asked k)
    none_so (Asked never b r k p) = Asked never b r (bare_none b r k) (pending_none b r p)
    none_so (Replied b r k) = Replied b r (replied_on link old new none x system from N b r posts [] k (some b r k.here))
    none_so (Accepted on b r k) = Accepted on b r (accepted_on link old new none x system from N b r y limit posts [] k (some b r k.here) (λ at_it zero. none-some k.end (ap (end_at k.entity) (sym zero) ∙ k.stands)) tt tt)
    none_so (Told t) = Told (told_before N late made x t)
    none_so (Over on t) = Over on (Contains-append_left late made _ t)

    pub none_on : IsOn link x system from N F y limit first asked late old posts → IsOn link x system from N F y limit first asked (late ++ made) new posts
    none_on on = subst (IsOn link x system from N F y limit first asked (late ++ made) new) (append-nil posts) (none_so on)

-- ---- the clock goes on, or nothing that an entity knows of

module _ {C : Type 0} (link : C → Link (List ℕ)) (old new : World C) (entities : new.entities ≡ old.entities) (ends : new.ends ≡ old.ends)
    (longer : (to : List ℕ) → AreListening (link old.carrier).clock old to → AreListening (link new.carrier).clock new to) where
  module _ (x system : ℕ) (from : List ℕ) (N : Type 0) (F : Type 0) (y limit : ℕ) (first : EndRecord) (asked : InCrWait) (late made : List JournalEvent) (posts : List Post) where
    module _ (b : EndRecord) (r : InCrWait) where
      bare_same : IsBare link x system from N b r old posts → IsBare link x system from N b r new posts
      bare_same k = record {
        here = here_same system x from N b r old new entities ends k.here;
        unanswered = λ place own z f at_it. k.unanswered place own z f (ap (λ (ps : List Placed). entity_at ps place) (sym entities) ∙ at_it);
        listens = longer b.to k.listens;
        selects = λ place z at_it. k.selects place z (ap (λ (ps : List Placed). entity_at ps place) (sym entities) ∙ at_it);
        apart = k.apart;
      }

      pending_same : IsPending system x from N b r old posts → IsPending system x from N b r new posts
      pending_same p = subst (IsPending system x from N b r new) (append-nil posts)
          (pending_on x system from N b r old new posts [] p (λ place e at_it own. (e, ap (λ (ps : List Placed). entity_at ps place) entities ∙ at_it, own)) (waiting_same system x from N b r old new entities))

      replied_same : IsReplied link x system from N b r old posts → IsReplied link x system from N b r new posts
      replied_same k = record {
        here = here_same system x from N b r old new entities ends k.here;
        front = k.front;
        answer = k.answer;
        back = k.back;
        posts_are = k.posts_are;
        entity = k.entity;
        there = ap (λ (ps : List Placed). entity_at ps k.answer.system) entities ∙ k.there;
        own_is = k.own_is;
        apart = k.apart;
        reply = k.reply;
      }

    pub same_on : IsOn link x system from N F y limit first asked late old posts → IsOn link x system from N F y limit first asked (late ++ made) new posts
    same_on (Early never k) = Early never (bare_same first asked k)
    same_on (Asked never b r k p) = Asked never b r (bare_same b r k) (pending_same b r p)
    same_on (Replied b r k) = Replied b r (replied_same b r k)
    same_on (Accepted on b r k) = Accepted on b r (record {
      here = here_same system x from N b r old new entities ends k.here;
      listens = longer b.to k.listens;
      selects = λ place z at_it. k.selects place z (ap (λ (ps : List Placed). entity_at ps place) (sym entities) ∙ at_it);
      apart = k.apart;
      at_system = k.at_system;
      own = k.own;
      entity = k.entity;
      there = ap (λ (ps : List Placed). entity_at ps k.at_system) entities ∙ k.there;
      own_is = k.own_is;
      end = k.end;
      w = k.w;
      stands = k.stands;
      stage = k.stage;
      called = k.called;
      number = ap (λ (es : List EndAt). latest es k.at_system k.own) ends ∙ k.number;
      past = k.past;
      quiet = k.quiet;
    })
    same_on (Told t) = Told (told_before N late made x t)
    same_on (Over on t) = Over on (Contains-append_left late made _ t)
