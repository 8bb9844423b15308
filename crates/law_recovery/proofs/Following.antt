-- The history follows each step of an entity, and two partners stay Opened and up to date, as long as neither is left and so many ticks have not passed.
use Rattle.std.proofs.Common.{◌≡◌, ◌⊎◌, inl, inr, ◌<◌, ◌≤◌, ℕ, ◌+◌, ◌*◌, ◌==◌, ◌||◌, not, Bool, true, false, List, [], ◌∷◌, ◌++◌, Some, Contains, refl, sym, ◌∙◌, ap, subst, arith, append_assoc}
use Rattle.std.proofs.lemmas.Bool.{eqb-true}
use Rattle.std.proofs.lemmas.List.Elements.{Contains-append_left, Contains-append_right, Contains-push}
use Rattle.tpdu.specs.Values.{TpduAndSum, destination_of}
use Rattle.tp4_flow.specs.declared.step.Sent.{Sent}
use Rattle.tp4_conn.specs.End.{IsTimed}
use Rattle.tp4_conn.specs.Matching.{is_match}
use Rattle.tp4_conn.specs.Table.{Called, Ticked, Took}
use Rattle.tp4_conn.specs.declared.call.UserCall.{UserCall}
use Rattle.tp4_conn.specs.declared.call.UserCall.TheVariants.{Disconnect}
use Rattle.tp4_conn.specs.declared.timers.Timers.{Timers}
use Rattle.tp4_entity.specs.Entity.{Acted, Entity, at}
use Rattle.tp4_entity.specs.Step.{restarted}
use Rattle.script_journal.specs.Partner.{ArePartners}
use Rattle.script_journal.specs.declared.event.Event.{Event}
use Rattle.script_journal.specs.declared.event.Event.TheVariants as events
use Rattle.law_tp4_history.specs.Tracks.{Whole}
use Rattle.tp4_world.specs.Ended.{has_ended}
use Rattle.tp4_world.specs.Telling.{call_events, ends_after, events_after}
use Rattle.tp4_world.specs.World.{entity_at, latest, with_entity}
use Rattle.tp4_world.specs.declared.place.EndAt.{EndAt}
use Rattle.tp4_world.specs.declared.place.Placed.{Placed}
use Rattle.law_tp4_lawful.proofs.Along.{Followed, Follows, IsKept}
use Rattle.law_tp4_lawful.proofs.Frames.{entity_other}
use Rattle.law_tp4_lawful.proofs.Known as lawful
use Rattle.law_tp4_lawful.proofs.ReferencesLater.{partners_on}
use Rattle.law_recovery_steps.specs.Going.{IsDisconnect}
use Rattle.law_recovery_world.proofs.WorldKnown.{known_at}
use Rattle.law_recovery_world.proofs.Worlds as worlds
use Rattle.law_recovery_steps.specs.Ers.{HasNoEr}
use Rattle.law_recovery_steps.specs.Since.{EndsIt}
use Rattle.law_recovery_steps.proofs.NoErEntities.{none_sends_er}
use Rattle.law_recovery.specs.Staying.{IsLeftAlone}
use Rattle.law_recovery.proofs.Arriving.{IsThere, ends_not}
use Rattle.law_recovery.proofs.Known.{AreAlone, AreHere, IsOffered, IsSoon, Known, Two}
use Rattle.law_recovery.proofs.Placing.{IsAt, calling_after, connecting_after, meeting_after, none_after, stands_here, ticking_after}
use Rattle.law_recovery.proofs.Reporting.{both_offered, offered_grows}
use Rattle.law_recovery.proofs.OutageRows.{keeps_up}

-- ---- neither is left

pub front_alone : (n system : ℕ) (made more : List Event) → IsLeftAlone n system (made ++ more) → IsLeftAlone n system made
front_alone n system made more a = record {
  user = λ octets there. a.user octets (Contains-append_left made more (events.Disconnect n octets) there);
  again = λ there. a.again (Contains-append_left made more (events.Restart system) there);
}

fronts_alone : (two : Two) (made more : List Event) → AreAlone two (made ++ more) → AreAlone two made
fronts_alone two made more a = record { x = front_alone two.x two.x_system made more a.x; y = front_alone two.y two.y_system made more a.y }

-- the line of a disconnect
disconnect_told : (number : ℕ) (call : UserCall) → IsDisconnect call → (octets : List ℕ) × Contains (call_events number call) (events.Disconnect number octets)
disconnect_told number (Disconnect octets) is = (octets, Contains-push [] (events.Disconnect number octets))
disconnect_told number other is = absurd is

-- an end that has not ended has its number
live_number : (same gone : Bool) → (not same || gone) ≡ false → same ≡ true
live_number true gone is = refl
live_number false gone is = absurd (cc is)

pub swapped : (journal : List Event) (x y : ℕ) → ArePartners journal x y → ArePartners journal y x
swapped journal x y (inl are) = inr are
swapped journal x y (inr are) = inl are

module _ (titles : List (List ℕ)) (timers : Timers) (timed : IsTimed timers) (two : Two) (partners : ArePartners two.early two.x two.y) where
  abbrev K : Whole → List Event → List Placed → List EndAt → Type 0
  K = Known titles timers two

  -- ---- the clock of an entity

  clock_at : (n system reference place_system : ℕ) (w : Whole) (journal : List Event) (entities : List Placed) (ends : List EndAt) (entity : Entity) → lawful.Known titles timers w journal entities ends
      → entity_at entities place_system ≡ Some entity → IsAt timers two.since entities ends n system reference → IsAt timers two.since (with_entity entities place_system (at w.base.clock entity)) ends n system reference
  clock_at n system reference place_system w journal entities ends entity known is here =
      none_after titles timers w journal entities ends known place_system entity is two.since n system reference here (at w.base.clock entity) ends refl refl

  pub two_kept : IsKept titles timers K (IsOffered timers)
  two_kept = record {
    known = λ w journal entities ends k. k.steady.plain;
    clock = λ w journal entities ends k system entity is. record {
      steady = known_at titles timers w journal entities ends k.steady system entity is;
      made = k.made;
      journal_is = k.journal_is;
      since = k.since;
      stay = λ alone soon.
          let old = k.stay alone soon in (
            clock_at two.x two.x_system two.x_reference system w journal entities ends entity k.steady.plain is old.0,
            clock_at two.y two.y_system two.y_reference system w journal entities ends entity k.steady.plain is old.1,
          );
    };
    offered = λ h tick own sent o. o.steady.plain;
    grows = offered_grows timers;
  }

  -- ---- a step of an entity

  module _ (w : Whole) (journal : List Event) (entities : List Placed) (ends : List EndAt) (k : K w journal entities ends) where
    abbrev plain : lawful.Known titles timers w journal entities ends
    plain = k.steady.plain

    -- what was made with these behind it
    abbrev made_with : List Event → List Event → List Event
    made_with first rest = (k.made ++ first) ++ rest

    journal_with : (first rest : List Event) → (journal ++ first) ++ rest ≡ two.early ++ made_with first rest
    journal_with first rest =
        ap (λ (xs : List Event). (xs ++ first) ++ rest) k.journal_is ∙ ap (λ (xs : List Event). xs ++ rest) (append_assoc two.early k.made first) ∙ append_assoc two.early (k.made ++ first) rest

    follows : (after : List EndAt) (system : ℕ) (own : List ℕ) (first : List Event) (acted : Acted) → worlds.Follows titles timers w journal entities after system own first acted → HasNoEr acted.tpdus
        → (AreAlone two (made_with first (events_after after system own acted.events)) → IsSoon timers two.since w.base.clock
        → AreHere timers two (with_entity entities system acted.entity) (ends_after after system acted.events))
        → Follows timers K (IsOffered timers) w journal entities after system own first acted
    follows after system own first acted f none stay = record {
      new = f.new;
      goes_on = f.goes_on;
      known = record {
        steady = f.known;
        made = made_with first (events_after after system own acted.events);
        journal_is = journal_with first (events_after after system own acted.events);
        since = subst (λ (now : ℕ). two.since ≤ now) (sym f.goes_on.clock) k.since;
        stay = λ alone soon. stay alone (subst (IsSoon timers two.since) f.goes_on.clock soon);
      };
      offered = both_offered timers f.new.base w.base.clock own acted.tpdus f.offered none;
    }

    -- up to here neither is left
    before : (first rest : List Event) → AreAlone two (made_with first rest) → AreAlone two k.made
    before first rest alone = fronts_alone two k.made first (fronts_alone two (k.made ++ first) rest alone)

    module _ (soon : IsSoon timers two.since w.base.clock) where
      not_late : (now : ℕ) → now ≡ w.base.clock → (two.since + timers.sendings * timers.t1 ≤ now) ⊎ (two.since + timers.inactive < now + timers.window) → ⊥
      not_late now same (inl tries) = omega (arith, tries, soon.tries, same)
      not_late now same (inr idle) = omega (arith, idle, soon.idle, same)

      -- ---- a call

      called_here : (number : ℕ) (end : EndAt) (entity : Entity) (call : UserCall) (rest : List Event) → has_ended w.base.clock ends number end entity ≡ false
          → (n system reference : ℕ) (here : IsAt timers two.since entities ends n system reference) → IsLeftAlone n system (made_with (call_events number call) rest)
          → system ≡ end.system → reference ≡ end.reference → IsDisconnect call → ⊥
      called_here number end entity call rest live n system reference here alone at_it same is =
          let told = disconnect_told number call is in
          let number_is : latest ends end.system end.reference ≡ number = eqb-true (latest ends end.system end.reference) number (live_number (latest ends end.system end.reference == number) _ live) in
          let n_is : n ≡ number = sym here.number ∙ (λ i. latest ends (at_it i) (same i)) ∙ number_is in
          alone.user told.0
          (Contains-append_left (k.made ++ call_events number call) rest (events.Disconnect n told.0)
          (Contains-append_right k.made (call_events number call) (events.Disconnect n told.0)
          (subst (λ (m : ℕ). Contains (call_events number call) (events.Disconnect m told.0)) (sym n_is) told.1)))

      -- ---- a TPDU

      there_at : (n system reference place_system : ℕ) (entity : Entity) → entity_at entities place_system ≡ Some entity → (here : IsAt timers two.since entities ends n system reference) → system ≡ place_system
          → IsThere entities ends n system reference here.e here.up.o
      there_at n system reference place_system entity is here at_it = record {
        entity = entity;
        there = ap (entity_at entities) at_it ∙ is;
        stands = stands_here titles timers w journal entities ends plain place_system entity is two.since n system reference here at_it;
        number = here.number;
        stage = here.up.stage;
      }

      far_at : (n system reference : ℕ) (here : IsAt timers two.since entities ends n system reference) → IsThere entities ends n system reference here.e here.up.o
      far_at n system reference here = record { entity = here.entity; there = here.there; stands = here.stands; number = here.number; stage = here.up.stage }

      partners_here : ArePartners journal two.x two.y
      partners_here = subst (λ (xs : List Event). ArePartners xs two.x two.y) (sym k.journal_is) (partners_on two.early k.made two.x two.y partners)

      not_ended : (system : ℕ) (entity : Entity) (is : entity_at entities system ≡ Some entity) (tick : ℕ) (from : List ℕ) (sent : Sent) (tpdu : TpduAndSum) → IsOffered timers w.base tick from sent → sent.to ≡ entity.own
          → w.base.clock ≤ tick + timers.life → lawful.IsReadAs entity sent tpdu
          → (one other one_system one_reference other_system other_reference : ℕ) (here : IsAt timers two.since entities ends one one_system one_reference)
          (beyond : IsAt timers two.since entities ends other other_system other_reference) → ArePartners journal one other
          → one_system ≡ system → destination_of tpdu.0 ≡ Some one_reference → is_match here.e.base here.e.stage from tpdu.0 ≡ true → EndsIt here.e.base here.up.o tpdu.0 → ⊥
      unfolding there_at
      not_ended system entity is tick from sent tpdu io to live read one other one_system one_reference other_system other_reference here beyond are at_it goes match =
          ends_not titles timers w journal entities ends k.steady one other one_system one_reference other_system other_reference here.e beyond.e here.up.o beyond.up.o are
          (there_at one one_system one_reference system entity is here at_it) (far_at other other_system other_reference beyond) tick from sent io.steady.plain io.none to live tpdu.0 tpdu.1 read goes match

  -- ---- all steps

  module _ (base : worlds.Followed titles timers) where
    pub followed_two : Followed timers K (IsOffered timers)
    followed_two = record {
      connects = λ w journal entities ends system entity request reference k is quiet proper free.
          follows w journal entities ends k (ends ++ record { system = system; reference = reference } ∷ []) system entity.own _ _
          (base.connects w journal entities ends system entity request reference k.steady is quiet proper free) ((none_sends_er w.base.clock entity).connects reference request)
          (λ alone soon.
          let old = k.stay (before w journal entities ends k _ _ alone) soon in (
            connecting_after titles timers w journal entities ends k.steady.plain system entity is two.since two.x two.x_system two.x_reference old.0 reference request free,
            connecting_after titles timers w journal entities ends k.steady.plain system entity is two.since two.y two.y_system two.y_reference old.1 reference request free,
          ));
      calls = λ w journal entities ends number end entity call k numbered is live allowed proper.
          follows w journal entities ends k ends end.system entity.own (call_events number call) _
          (base.calls w journal entities ends number end entity call k.steady numbered is live allowed proper) ((none_sends_er w.base.clock entity).calls end.reference call)
          (λ alone soon.
          let old = k.stay (before w journal entities ends k (call_events number call) _ alone) soon in (
            calling_after titles timers w journal entities ends k.steady.plain end.system entity is two.since two.x two.x_system two.x_reference old.0 end.reference call
                (λ at_it same. keeps_up titles timers timed w journal entities ends k.steady.plain two.since k.since two.x two.x_system two.x_reference old.0 (Called call)
                (λ leaves. called_here w journal entities ends k soon number end entity call _ live two.x two.x_system two.x_reference old.0 alone.x at_it same leaves)),
            calling_after titles timers w journal entities ends k.steady.plain end.system entity is two.since two.y two.y_system two.y_reference old.1 end.reference call
                (λ at_it same. keeps_up titles timers timed w journal entities ends k.steady.plain two.since k.since two.y two.y_system two.y_reference old.1 (Called call)
                (λ leaves. called_here w journal entities ends k soon number end entity call _ live two.y two.y_system two.y_reference old.1 alone.y at_it same leaves)),
          ));
      meets = λ w journal entities ends system entity tick from sent tpdu k timely is quiet io to live read.
          follows w journal entities ends k ends system entity.own [] _
          (base.meets w journal entities ends system entity tick from sent tpdu k.steady timely is quiet io.steady to live read) ((none_sends_er w.base.clock entity).meets from tpdu)
          (λ alone soon.
          let old = k.stay (before w journal entities ends k [] _ alone) soon in (
            meeting_after titles timers w journal entities ends k.steady.plain system entity is two.since two.x two.x_system two.x_reference old.0 from tpdu
                (λ at_it goes match. keeps_up titles timers timed w journal entities ends k.steady.plain two.since k.since two.x two.x_system two.x_reference old.0 (Took tpdu.0 tpdu.1)
                (not_ended w journal entities ends k soon system entity is tick from sent tpdu io to live read two.x two.y two.x_system two.x_reference two.y_system two.y_reference old.0 old.1
                (partners_here w journal entities ends k soon) at_it goes match)),
            meeting_after titles timers w journal entities ends k.steady.plain system entity is two.since two.y two.y_system two.y_reference old.1 from tpdu
                (λ at_it goes match. keeps_up titles timers timed w journal entities ends k.steady.plain two.since k.since two.y two.y_system two.y_reference old.1 (Took tpdu.0 tpdu.1)
                (not_ended w journal entities ends k soon system entity is tick from sent tpdu io to live read two.y two.x two.y_system two.y_reference two.x_system two.x_reference old.1 old.0
                (swapped journal two.x two.y (partners_here w journal entities ends k soon)) at_it goes match)),
          ));
      ticks = λ w journal entities ends system entity reference k is due.
          follows w journal entities ends k ends system entity.own [] _
          (base.ticks w journal entities ends system entity reference k.steady is due) (none_sends_er w.base.clock entity).ticks
          (λ alone soon.
          let old = k.stay (before w journal entities ends k [] _ alone) soon in (
            ticking_after titles timers w journal entities ends k.steady.plain system entity is two.since two.x two.x_system two.x_reference old.0
                (keeps_up titles timers timed w journal entities ends k.steady.plain two.since k.since two.x two.x_system two.x_reference old.0 Ticked (not_late w journal entities ends k soon w.base.clock refl)),
            ticking_after titles timers w journal entities ends k.steady.plain system entity is two.since two.y two.y_system two.y_reference old.1
                (keeps_up titles timers timed w journal entities ends k.steady.plain two.since k.since two.y two.y_system two.y_reference old.1 Ticked (not_late w journal entities ends k soon w.base.clock refl)),
          ));
      aside = λ w journal more entities ends k quiet. record {
        steady = base.aside w journal more entities ends k.steady quiet;
        made = k.made ++ more;
        journal_is = ap (λ (xs : List Event). xs ++ more) k.journal_is ∙ append_assoc two.early k.made more;
        since = k.since;
        stay = λ alone soon. k.stay (fronts_alone two k.made more alone) soon;
      };
      clock = λ w journal more entities ends k idle quiet. record {
        steady = base.clock w journal more entities ends k.steady idle quiet;
        made = k.made ++ more;
        journal_is = ap (λ (xs : List Event). xs ++ more) k.journal_is ∙ append_assoc two.early k.made more;
        since = omega (arith, k.since);
        stay = λ alone soon. k.stay (fronts_alone two k.made more alone) (record { tries = omega (arith, soon.tries); idle = omega (arith, soon.idle) });
      };
      restarts = λ w journal entities ends system entity k is. record {
        steady = base.restarts w journal entities ends system entity k.steady is;
        made = k.made ++ events.Restart system ∷ [];
        journal_is = ap (λ (xs : List Event). xs ++ events.Restart system ∷ []) k.journal_is ∙ append_assoc two.early k.made (events.Restart system ∷ []);
        since = k.since;
        stay = λ alone soon.
            let old = k.stay (fronts_alone two k.made (events.Restart system ∷ []) alone) soon in (
              restart_at two.x two.x_system two.x_reference system w entities ends entity k.made alone.x old.0,
              restart_at two.y two.y_system two.y_reference system w entities ends entity k.made alone.y old.1,
            );
      };
    }
      where
        -- another system begins again
        restart_at : (n system reference other : ℕ) (w : Whole) (entities : List Placed) (ends : List EndAt) (entity : Entity) (made : List Event) → IsLeftAlone n system (made ++ events.Restart other ∷ [])
            → IsAt timers two.since entities ends n system reference → IsAt timers two.since (with_entity entities other (restarted w.base.clock entity)) ends n system reference
        restart_at n system reference other w entities ends entity made alone here = record {
          entity = here.entity;
          there = entity_other entities other system (restarted w.base.clock entity) apart ∙ here.there;
          e = here.e;
          stands = here.stands;
          number = here.number;
          up = here.up;
        }
          where
            apart : system ≡ other → ⊥
            apart same =
                alone.again
                (Contains-append_right made (events.Restart other ∷ []) (events.Restart system)
                (subst (λ (at_it : ℕ). Contains (events.Restart other ∷ []) (events.Restart at_it)) (sym same) (Contains-push [] (events.Restart other))))
