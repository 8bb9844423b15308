-- A call of a user and a tick of an end are events of that end. A tick that takes an end out is one of a frozen end, whose reference is free: in the history
-- it is given again.
use Rattle.std.proofs.Common.{◌≡◌, ◌⊎◌, ℕ, ◌+◌, ◌<◌, ◌==◌, Bool, true, false, not, ◌||◌, List, [], ◌++◌, Option, Some, None, refl, sym, ◌∙◌, ap, subst, inl, inr, arith}
use Rattle.std.proofs.lemmas.Bool.{cases_eq, cond-true, cond-false, eq-eqb, ne_eqb}
use Rattle.std.proofs.lemmas.List.{append-nil}
use Rattle.script_journal.specs.declared.event.Event.{Event}
use Rattle.tp4_number.specs.Number.{whole}
use Rattle.tp4_conn.specs.Calls.{call_refusal}
use Rattle.tp4_conn.specs.End.{End as ConnEnd, Moved, end_of, frozen_for}
use Rattle.tp4_conn.specs.Table.{Called, Ticked, due, on_tick, stepped}
use Rattle.tp4_conn.specs.declared.end_record.EndRecord.{EndRecord}
use Rattle.tp4_conn.specs.declared.states.StateData.{StateData}
use Rattle.tp4_conn.specs.declared.states.StateData.TheVariants.{Frozen}
use Rattle.tp4_conn.specs.declared.timers.Timers.{Timers}
use Rattle.tp4_entity.specs.Entity.{Acted, Entity, at, end_at, moved, with_end}
use Rattle.tp4_entity.specs.References.{is_free}
use Rattle.tp4_entity.specs.Standing.{Empty, Goes, IsFreeAt, Moves, Over, Stays}
use Rattle.tp4_entity.specs.Step.{calling, calling_end, end_refusal, kept_end, ticked_to, ticking, ticking_at, ticking_end}
use Rattle.tp4_entity.proofs.Standings.{ticking_keeps}
use Rattle.law_tp4_history.specs.Ends.{End, frozen}
use Rattle.law_tp4_history.specs.History.{IsFree, May, Release}
use Rattle.law_tp4_history.specs.Journals.{IsAside, Written}
use Rattle.law_tp4_history.specs.Tracks.{Nothing, Whole, onward}
use Rattle.law_tp4_history.proofs.Agreed.{step_stay}
use Rattle.law_tp4_history.proofs.Steps.{step_later}
use Rattle.law_tp4_history.proofs.Written.{written_more}
use Rattle.law_tp4_history.specs.Moves.{stop_of, times_of}
use Rattle.law_tp4_history.proofs.Beginnings.{fit_times, frozen_is}
use Rattle.tp4_world.specs.Telling.{call_events}
use Rattle.tp4_world.specs.World.{entity_at, latest, with_entity}
use Rattle.tp4_world.specs.declared.place.EndAt.{EndAt}
use Rattle.tp4_world.specs.declared.place.Placed.{Placed}
use Rattle.law_tp4_lawful.proofs.Acting.{Acts, IsLike}
use Rattle.law_tp4_lawful.proofs.Known.{IsKnown, IsThere, Known}
use Rattle.law_tp4_lawful.proofs.Worlds.{AfterCall, AfterTick, Follows}
use Rattle.law_tp4_lawful.proofs.Frames.{owners_with, place_there}
use Rattle.law_tp4_lawful.proofs.FramesKnown.{Frames, calls_back, holds_on, keeps, known_on, known_stays, number_at, pair_low, partner_back, terms_back}
use Rattle.law_tp4_lawful.proofs.WorldAsides.{are_aside}
use Rattle.law_tp4_lawful.proofs.WorldHears.{acted_same}
use Rattle.law_tp4_lawful.proofs.WorldKnown.{known_at}
use Rattle.law_tp4_lawful.proofs.WorldPlaces.{none_some}
use Rattle.std.specs.Prelude.{is_none}
use Rattle.law_tp4_proper.proofs.Ends.{not_refused}

-- the same entity at another tick
like_at : (now : ℕ) (entity : Entity) → IsLike now entity (at now entity)
like_at now entity = record { own = refl; timers = refl; ends = refl; restarted = refl; clock = omega arith }

-- ---- a call

pub latest_is : (found number : ℕ) (gone : Bool) → (not (found == number) || gone) ≡ false → found ≡ number
latest_is found number gone is = by_same (found == number) refl is
  where
    by_same : (same : Bool) → (found == number) ≡ same → (not same || gone) ≡ false → found ≡ number
    by_same true at is = grind arith
    by_same false at is = absurd cc

pub after_call : (titles : List (List ℕ)) (timers : Timers) → Acts titles timers → AfterCall titles timers
after_call titles timers acts w journal entities ends number end entity call known numbered is ended allowed proper =
    by_end (end_at entity end.reference) refl allowed ((known.holds end.system entity is).there end.reference)
  where
    now : ℕ
    now = w.base.clock

    by_end : (found : Option ConnEnd) → end_at entity end.reference ≡ found → end_refusal call found ≡ None → IsThere w entity.own end.reference found
        → Follows titles timers w journal entities ends end.system entity.own (call_events number call) (calling whole w.base.clock entity end.reference call)
    by_end None there may free = absurd (none_some _ (sym may))
    by_end (Some e) there may one =
        let same : number ≡ one.k + 1 =
        sym (latest_is (latest ends end.system end.reference) number (is_none (end_at entity end.reference) || is_free w.base.clock entity end.reference) ended) ∙ number_at titles timers w journal entities ends known end.system entity end.reference one.k is one.at in
        let goes : call_refusal e.base e.stage call ≡ None = not_refused (call_refusal e.base e.stage call) may in
        let did = acts w journal entities ends end.system entity (at w.base.clock entity) end.reference e one 0 (Called call) None known is there (like_at w.base.clock entity) tt tt (goes, proper) refl (λ z terms p are. tt) in
        subst (λ (x : Acted). Follows titles timers w journal entities ends end.system entity.own (call_events number call) x)
        (sym (ap (calling_end whole w.base.clock (at w.base.clock entity) end.reference call) there))
        (subst (λ (n : ℕ). Follows titles timers w journal entities ends end.system entity.own (call_events n call) (moved (at w.base.clock entity) end.reference (stepped whole w.base.clock e (Called call)))) (sym same) did)

-- ---- an end is taken out

some_end : (one other : ConnEnd) → Some one ≡ Some other → one ≡ other
some_end one other is = cc is

module _ (titles : List (List ℕ)) (timers : Timers) (w : Whole) (journal : List Event) (entities : List Placed) (ends : List EndAt) (known : Known titles timers w journal entities ends)
    (system : ℕ) (entity : Entity) (is : entity_at entities system ≡ Some entity) (reference : ℕ) (e : ConnEnd) (there : end_at entity reference ≡ Some e) (one : IsKnown w entity.own reference e)
    (when : ℕ) (stage : e.stage ≡ Frozen when) (past : when + frozen_for e.base.timers < w.base.clock) where
  abbrev released : Whole
  released = onward (times_of timers) w (record { step = Release one.k; doing = Nothing })

  abbrev out_end : End
  out_end = record (w.base.end one.k) { is_out = true }

  theirs : e.base.timers ≡ timers
  theirs = (known.holds system entity is).theirs reference e there

  frozen_so : frozen (times_of timers) ≡ frozen_for e.base.timers
  frozen_so = frozen_is timers ∙ ap frozen_for (sym theirs)

  may : May (times_of timers) w.base (Release one.k)
  may = (one.at.low, (when, one.sees.stop ∙ ap stop_of stage, omega (arith, past, frozen_so)))

  frames : Frames w.base released.base
  frames =
      let kept = keeps titles timers w journal entities ends known in
      record {
        later = step_later (times_of timers) (fit_times timers) w.base (Release one.k) may kept.sound;
        count = refl;
        stay = step_stay (times_of timers) (fit_times timers) w.base kept.sound kept.agreed (Release one.k) may;
        restarts = refl;
      }

  end_out : released.base.end one.k ≡ out_end
  end_out = cond-true (one.k == one.k) out_end (w.base.end one.k) (eq-eqb one.k one.k refl)

  end_stays : (k : ℕ) → (k ≡ one.k → ⊥) → released.base.end k ≡ w.base.end k
  end_stays k apart = cond-false (k == one.k) out_end (w.base.end k) (ne_eqb k one.k apart)

  -- no end stands there now
  now_free : IsFree released.base entity.own reference
  now_free k low address ref = elim (cases_eq k one.k) [
    | inl same ↦ ap (λ (j : ℕ). (released.base.end j).is_out) same ∙ ap (λ (x : End). x.is_out) end_out
    | inr apart ↦
        let stays = end_stays k apart in
        by_out (w.base.end k).is_out refl stays apart low (sym (ap (λ (x : End). x.birth.address) stays) ∙ address) (sym (ap (λ (x : End). x.birth.reference) stays) ∙ ref)
  ]
    where
      by_out : {j : ℕ} (out : Bool) → (w.base.end j).is_out ≡ out → released.base.end j ≡ w.base.end j → (j ≡ one.k → ⊥) → j < w.base.count → (w.base.end j).birth.address ≡ entity.own
          → (w.base.end j).birth.reference ≡ reference → (released.base.end j).is_out ≡ true
      by_out true at stays apart low address ref = ap (λ (x : End). x.is_out) stays ∙ at
      by_out {j} false at stays apart low address ref = absurd (apart (one.at.only j low address ref at))

  others_stay : (own : List ℕ) (r : ℕ) (x : ConnEnd) → IsKnown w own r x → x.base.timers ≡ timers → (own ≡ entity.own → r ≡ reference → ⊥) → IsKnown released own r x
  others_stay own r x k timed apart =
      let stays = end_stays k.k (λ same. apart (sym k.at.address ∙ ap (λ (j : ℕ). (w.base.end j).birth.address) same ∙ one.at.address)
      (sym k.at.reference_is ∙ ap (λ (j : ℕ). (w.base.end j).birth.reference) same ∙ one.at.reference_is)) in
      known_stays w released frames own r x k refl stays (λ z terms p are.
      let old = partner_back w.base released.base frames k.k z p in
      let low = pair_low w.base k.k z old in
      k.stands z terms old (terms_back w.base released.base frames k.k z terms low.0 low.1 are))

  agreed_stays : (b : ℕ) → (released.base.end b).agreed ≡ (w.base.end b).agreed
  agreed_stays b = elim (cases_eq b one.k) [
    | inl same ↦ ap (λ (j : ℕ). (released.base.end j).agreed) same ∙ ap (λ (x : End). x.agreed) end_out ∙ sym (ap (λ (j : ℕ). (w.base.end j).agreed) same)
    | inr apart ↦ ap (λ (x : End). x.agreed) (end_stays b apart)
  ]

  out_known : Known titles timers released (journal ++ []) (with_entity entities system (with_end (at w.base.clock entity) reference None)) ends
  out_known =
      let now : ℕ = w.base.clock in
      let aside : IsAside [] = are_aside [] tt in
      let written : Written (times_of timers) titles released (journal ++ []) =
      written_more (times_of timers) titles w journal (record { step = Release one.k; doing = Nothing }) [] known.written (record { may = may; lines = record {}; makes = aside }) in
      known_on titles timers w journal entities ends known released [] written frames (with_entity entities system (with_end (at now entity) reference None))
      (owners_with entities system entity (with_end (at now entity) reference None) is refl refl)
      (holds_on titles timers w journal entities ends known released frames refl system entity (at now entity) is (like_at now entity) reference e there None others_stay now_free (λ x none. absurd (none_some x none)))
      (λ a b terms calls agreed.
      let h = known.begun a b terms (calls_back w.base released.base frames a b calls) (sym (agreed_stays b) ∙ agreed) in
      record { own = h.own; theirs = h.theirs })

  pub taken_out : Follows titles timers w journal entities ends system entity.own [] (record { entity = with_end (at w.base.clock entity) reference None; events = []; tpdus = [] })
  taken_out = record {
    new = released;
    goes_on = record { clock = refl; offers = λ offer have. have };
    known = subst (λ (xs : List Event). Known titles timers released xs (with_entity entities system (with_end (at w.base.clock entity) reference None)) ends) (sym (append-nil (journal ++ []))) out_known;
    offered = tt;
  }

-- ---- a tick

-- a frozen end does nothing
still : (b : EndRecord) (stage : StateData) (when : ℕ) → stage ≡ Frozen when → ((on_tick b stage).events ≡ []) × ((on_tick b stage).tpdus ≡ [])
still b stage when is = (ap (λ (s : StateData). (on_tick b s).events) is, ap (λ (s : StateData). (on_tick b s).tpdus) is)

pub after_tick : (titles : List (List ℕ)) (timers : Timers) → Acts titles timers → AfterTick titles timers
after_tick titles timers acts w journal entities ends system entity reference known is due_is =
    subst (Follows titles timers w journal entities ends system entity.own []) (sym (ap (ticking_at whole now here) due_is))
    (by_end (end_at entity reference) refl ((known.holds system entity is).there reference))
  where
    now : ℕ
    now = w.base.clock

    here : Entity
    here = at w.base.clock entity

    row : ConnEnd → Moved
    row e = stepped whole w.base.clock e Ticked

    -- its end is taken out, so it was frozen and its reference is free
    out : (e : ConnEnd) → end_at entity reference ≡ Some e → IsKnown w entity.own reference e → (ticking whole w.base.clock entity).entity ≡ with_end (at w.base.clock entity) reference None
        → IsFreeAt w.base.clock (Some e) → Follows titles timers w journal entities ends system entity.own []
        (record { entity = with_end (at w.base.clock entity) reference None; events = (stepped whole w.base.clock e Ticked).events; tpdus = (stepped whole w.base.clock e Ticked).tpdus })
    out e there one ticked (Empty none) = absurd (none_some e (sym none))
    out e there one ticked (Over end when same stage past) =
        let e_is : e ≡ end = some_end e end same in
        let stage_is : e.stage ≡ Frozen when = ap (λ (x : ConnEnd). x.stage) e_is ∙ stage in
        let past_is : when + frozen_for e.base.timers < w.base.clock = subst (λ (x : ConnEnd). when + frozen_for x.base.timers < w.base.clock) (sym e_is) past in
        let quiet = still (record e.base { clock = w.base.clock }) e.stage when stage_is in
        subst (Follows titles timers w journal entities ends system entity.own [])
        (sym (acted_same (record { entity = with_end (at w.base.clock entity) reference None; events = (stepped whole w.base.clock e Ticked).events; tpdus = (stepped whole w.base.clock e Ticked).tpdus })
        (record { entity = with_end (at w.base.clock entity) reference None; events = []; tpdus = [] }) refl quiet.0 quiet.1))
        (taken_out titles timers w journal entities ends known system entity is reference e there one when stage_is past_is)

    is_out : (e : ConnEnd) → end_at entity reference ≡ Some e → (ticking whole w.base.clock entity).entity ≡ with_end (at w.base.clock entity) reference None
        → Goes whole w.base.clock e (end_at (ticking whole w.base.clock entity).entity reference) ⊎ IsFreeAt w.base.clock (Some e) → IsFreeAt w.base.clock (Some e)
    is_out e there ticked (inl goes) = absurd (stood goes)
      where
        none : end_at (ticking whole w.base.clock entity).entity reference ≡ None
        none = ap (λ (x : Entity). end_at x reference) ticked ∙ place_there w.base.clock entity (at w.base.clock entity) (like_at w.base.clock entity) reference e there None

        stood : Goes whole w.base.clock e (end_at (ticking whole w.base.clock entity).entity reference) → ⊥
        stood (Stays stays) = none_some e (sym none ∙ stays)
        stood (Moves event moves) = none_some (end_of (stepped whole w.base.clock e event)) (sym none ∙ moves)
    is_out e there ticked (inr free) = free

    by_due : (e : ConnEnd) (next : Option ℕ) → end_at entity reference ≡ Some e → IsKnown w entity.own reference e → due (row e).base (row e).stage ≡ next
        → Follows titles timers w journal entities ends system entity.own [] (ticked_to here reference (row e))
    by_due e (Some tick) there one next =
        subst (Follows titles timers w journal entities ends system entity.own [])
        (ap (λ (o : Option ℕ). record { entity = with_end here reference (kept_end (row e) o); events = (row e).events; tpdus = (row e).tpdus }) (sym next))
        (acts w journal entities ends system entity here reference e one 0 Ticked None known is there (like_at w.base.clock entity) tt tt tt refl (λ z terms p are. tt))
    by_due e None there one next =
        let m = row e in
        let all : ticked_to here reference m ≡ record { entity = with_end here reference None; events = m.events; tpdus = m.tpdus } =
        ap (λ (o : Option ℕ). record { entity = with_end here reference (kept_end m o); events = m.events; tpdus = m.tpdus }) next in
        let ticks : ticking whole w.base.clock entity ≡ ticked_to here reference m = ap (ticking_at whole w.base.clock here) due_is ∙ ap (ticking_end whole w.base.clock here reference) there in
        let ticked : (ticking whole w.base.clock entity).entity ≡ with_end here reference None = ap (λ (a : Acted). a.entity) (ticks ∙ all) in
        subst (Follows titles timers w journal entities ends system entity.own []) (sym all)
        (out e there one ticked (is_out e there ticked (ticking_keeps whole w.base.clock entity reference e there)))

    by_end : (found : Option ConnEnd) → end_at entity reference ≡ found → IsThere w entity.own reference found
        → Follows titles timers w journal entities ends system entity.own [] (ticking_end whole w.base.clock here reference (end_at entity reference))
    by_end None there free =
        subst (λ (o : Option ConnEnd). Follows titles timers w journal entities ends system entity.own [] (ticking_end whole w.base.clock here reference o)) (sym there)
        (record {
          new = w;
          goes_on = record { clock = refl; offers = λ offer have. have };
          known = subst (λ (xs : List Event). Known titles timers w xs (with_entity entities system here) ends) (sym (append-nil (journal ++ []) ∙ append-nil journal))
              (known_at titles timers w journal entities ends known system entity is);
          offered = tt;
        })
    by_end (Some e) there one =
        subst (λ (o : Option ConnEnd). Follows titles timers w journal entities ends system entity.own [] (ticking_end whole w.base.clock here reference o)) (sym there)
        (by_due e (due (row e).base (row e).stage) there one refl)
