-- What a line of a network tells of its ends is made of the texts that come up, and no event of it is a note of a relay (X.214, service primitives).
use Rattle.std.proofs.Common.{◌≡◌, inl, inr, ℕ, ◌+◌, ◌≤◌, ◌==◌, not, Bool, true, false, if◌then◌else◌, List, [], ◌∷◌, ◌++◌, length, Option, Some, None, refl, sym, ◌∙◌, ap, subst}
use Rattle.std.specs.List.{AllByRecursion, list_any}
use Rattle.nsap.specs.Address.{selector_of}
use Rattle.osi_base.specs.declared.note.Note.{Note}
use Rattle.osi_base.specs.declared.unit.Arrival.{Arrival}
use Rattle.osi_base.specs.declared.unit.Injected.{Injected}
use Rattle.osi_base.specs.declared.unit.Injected.TheVariants as injects
use Rattle.osi_base.specs.declared.unit.Offered.{Offered}
use Rattle.osi_base.specs.declared.unit.Offered.TheVariants.{Taken as WasTaken, Dropped}
use Rattle.osi_base.specs.declared.unit.DropCause.{DropCause}
use Rattle.osi_base.specs.declared.unit.DropCause.TheVariants as drops
use Rattle.osi_base.specs.declared.unit.Picked.{Picked}
use Rattle.osi_base.specs.declared.unit.Picked.TheVariants as picks
use Rattle.osi_base.specs.declared.unit.Up.{Up}
use Rattle.osi_base.specs.declared.unit.Up.TheVariants.{Unit as Came, Note as Noted}
use Rattle.osi_base.specs.declared.unit.Wish.{Wish}
use Rattle.osi_base.specs.Link.{Link}
use Rattle.osi_base.specs.Calls.{Call}
use Rattle.osi_base.proofs.Members.{all_both}
use Rattle.script_journal.specs.RawLawful.{raw_address}
use Rattle.script_journal.specs.declared.cause.Refused.{Refused}
use Rattle.script_journal.specs.declared.cause.Refused.TheVariants as refusals
use Rattle.script_journal.specs.declared.cause.Settled.TheVariants.{Settled, Stopped}
use Rattle.script_journal.specs.declared.event.Event.{Event}
use Rattle.script_journal.specs.declared.event.Event.TheVariants as events
use Rattle.script_lines.specs.declared.line.Line.{Line}
use Rattle.script_lines.specs.declared.line.Line.TheVariants as lines
use Rattle.net_world.specs.Run.{Passes, SendsUnit}
use Rattle.net_world.specs.Told.{picked_event, sent_event, shown_at, told}
use Rattle.tpdu.specs.Grammar.{BeginsWithTpdu}
use Rattle.tpdu.specs.Values.{TpduAndSum}
use Rattle.tpdu.specs.Writing.{kind_for}
use Rattle.tpdu.specs.declared.tpdu.Tpdu.{Tpdu}
use Rattle.tpdu.specs.declared.tpdu.Tpdu.TheVariants as wires
use Rattle.tp4_number.proofs.Past.{if_kept}
use Rattle.tp4_flow.specs.declared.step.EndEvent.{EndEvent}
use Rattle.tp4_flow.specs.declared.step.Sent.{Sent}
use Rattle.tp4_flow.specs.declared.step.What.{What}
use Rattle.tp4_flow.specs.declared.step.What.TheVariants as whats
use Rattle.tp4_conn.specs.declared.call.CallRefusal.{CallRefusal}
use Rattle.tp4_conn.specs.declared.call.CallRefusal.TheVariants as call_refusals
use Rattle.tp4_conn.specs.declared.call.ConnectRequest.{ConnectRequest}
use Rattle.tp4_conn.specs.declared.call.UserCall.{UserCall}
use Rattle.tp4_conn.specs.declared.call.UserCall.TheVariants as asks
use Rattle.tp4_conn.specs.declared.states.StateData.{StateData}
use Rattle.tp4_conn.specs.Agreeing.{proposed_in}
use Rattle.tp4_conn.specs.End.{End, Moved, end_of}
use Rattle.tp4_conn.specs.Making.{called_end, connected, indicated}
use Rattle.tp4_conn.specs.Matching.{is_match}
use Rattle.tp4_conn.specs.Table.{Called, Ticked, Took, due, stepped}
use Rattle.tp4_entity.specs.declared.refusal.ConnectRefusal.{ConnectRefusal}
use Rattle.tp4_entity.specs.declared.refusal.ConnectRefusal.TheVariants as connect_refusals
use Rattle.tp4_entity.specs.declared.refusal.EntityRefusal.{EntityRefusal}
use Rattle.tp4_entity.specs.declared.refusal.EntityRefusal.TheVariants as entity_refusals
use Rattle.tp4_entity.specs.Association.{is_called, is_registered, met, met_by, new_end, requested, unmatched}
use Rattle.tp4_entity.specs.Entity.{Acted, Entity, at, end_at, moved, with_end}
use Rattle.tp4_entity.specs.References.{least_free}
use Rattle.tp4_entity.specs.Silence.{is_silent}
use Rattle.tp4_entity.specs.Step.{call_of, calling_end, connect_refusal, connecting, first_due, kept_end, restarted, ticking, ticking_at, ticking_end, user_refusal}
use Rattle.tp4_entity.specs.Unit.{EndsWith, Faulty, HearsUnit, Separates, TakesBy, TakesUnit, Whole, all_met, ignored}
use Rattle.tp4_entity.proofs.Restarts.{none_stands}
use Rattle.tp4_entity.proofs.Standings.{free_least, within}
use Rattle.tp4_world.specs.Run.{Acts, Arrives, BeginsAt, Calls, CallsAt, CallsBy, CallsEnd, Connects, ConnectsBy, HearsAll, HearsIf, IsRefused, NoneDue, NoneLeft, OneDue, OneMore, RunsLine, SendsTpdus, Settles, Ticks, TicksAll, TicksEntity, TooMany, clock_of, is_for}
use Rattle.tp4_world.specs.Ended.{has_ended}
use Rattle.tp4_world.specs.Telling.{call_events, drop_events, ends_with, event_for, events_after, inject_event, told_call, told_connect, told_refusal}
use Rattle.tp4_world.specs.World.{World, end_numbered, entity_at, latest, with_entity}
use Rattle.tp4_world.specs.declared.place.EndAt.{EndAt}
use Rattle.tp4_world.specs.declared.place.Placed.{Placed}
use Rattle.tp4_world.proofs.Having.{with_any}
use Rattle.law_relay.specs.Notes.{is_note}
use Rattle.law_relay.proofs.StageRows.{AllTold, all_appended}
use Rattle.law_relay.proofs.TextRows.{HasText, IsRowOfTexts, IsStageOf, IsTextOf, row_is}
use Rattle.law_tp4_lawful.proofs.SilenceEntities.{placed_or}
use Rattle.tpdu.specs.declared.service.EndTold.TheVariants as tells

-- ---- refusals of a network

-- no such refusal is the relay's
abbrev is_other : Option Refused → Bool
is_other None = true
is_other (Some why) = not (is_note (events.No why))

call_other : (why : CallRefusal) → is_other (told_call why) ≡ true
call_other (call_refusals.WrongState state) = refl
call_other other = refl

entity_other : (why : EntityRefusal) → is_other (told_refusal why) ≡ true
entity_other entity_refusals.NoSuchEnd = refl
entity_other (entity_refusals.Call why) = call_other why

connect_other : (why : ConnectRefusal) → is_other (told_connect why) ≡ true
connect_other connect_refusals.Silent = refl
connect_other other = refl

not_so : (b : Bool) → not b ≡ true → b ≡ false
not_so true is = absurd (cc is)
not_so false is = refl

module _ (P : List ℕ → Type 0) (none : P []) (both : (xs ys : List ℕ) → P xs → P ys → P (xs ++ ys))
    (read : (extended octets rest : List ℕ) (tpdu : TpduAndSum) → BeginsWithTpdu extended octets tpdu rest → P octets → HasText P none both tpdu.0 × P rest) where
  abbrev StageIs : StateData → Type 0
  StageIs stage = IsStageOf P none both stage

  abbrev WhatIs : What → Type 0
  WhatIs what = IsTextOf P none both what

  abbrev RowIs : Moved → Type 0
  RowIs m = IsRowOfTexts P none both m

  -- ---- entities

  abbrev pub EntityIs : Entity → Type 0
  EntityIs e = (reference : ℕ) (end : End) → end_at e reference ≡ Some end → StageIs end.stage

  record ActedIs (acted : Acted) : Type 0 where
    entity : EntityIs acted.entity
    tells : AllTold WhatIs acted.events

  acted_by : (e : Entity) (reference : ℕ) (place : Option End) (m : Moved) → 1 ≤ reference → EntityIs e → RowIs m → ((end : End) → place ≡ Some end → end.stage ≡ m.stage)
      → ActedIs (record { entity = with_end e reference place; events = m.events; tpdus = m.tpdus })
  acted_by e reference place m least all row here = record {
    entity = λ r end stands. elim (placed_or e reference place r end least stands) [
      | inl now ↦ subst (λ (stage : StateData). StageIs stage) (sym (here end now.1)) row.stage
      | inr before ↦ all r end before
    ];
    tells = row.told;
  }

  stage_same : (m : Moved) (end : End) → Some (end_of m) ≡ Some end → end.stage ≡ m.stage
  stage_same m end same = let is : end_of m ≡ end = cc same in ap (λ (x : End). x.stage) (sym is)

  kept_stage : (m : Moved) (next : Option ℕ) (end : End) → kept_end m next ≡ Some end → end.stage ≡ m.stage
  kept_stage m None end is = absurd (cc is)
  kept_stage m (Some tick) end is = stage_same m end is

  moved_is : (e : Entity) (reference : ℕ) (m : Moved) → 1 ≤ reference → EntityIs e → RowIs m → ActedIs (moved e reference m)
  moved_is e reference m least all row = acted_by e reference (Some (end_of m)) m least all row (λ end same. stage_same m end same)

  nothing_is : (e : Entity) (tpdus : List Sent) → EntityIs e → ActedIs (record { entity = e; events = []; tpdus = tpdus })
  nothing_is e tpdus all = record { entity = all; tells = tt }

  unmatched_is : (e : Entity) (from : List ℕ) (tpdu : Tpdu) → EntityIs e → ActedIs (unmatched e from tpdu)
  unmatched_is e from tpdu all = record { entity = all; tells = (tt, tt) }

  module _ (wrap : ℕ → ℕ → ℕ) (now : ℕ) where
    -- a tick, and a call
    end_ticked : (e : Entity) (reference : ℕ) (place : Option End) → EntityIs e → end_at e reference ≡ place → ActedIs (ticking_end wrap now e reference place)
    end_ticked e reference None all is = nothing_is e [] all
    end_ticked e reference (Some end) all is =
        let m : Moved = stepped wrap now end Ticked in
        acted_by e reference (kept_end m (due m.base m.stage)) m (within e reference end is).least all (row_is P none both wrap now end Ticked (all reference end is) tt)
        (λ x same. kept_stage m (due m.base m.stage) x same)

    ticked_at : (e : Entity) (found : Option ℕ) → EntityIs e → ActedIs (ticking_at wrap now e found)
    ticked_at e None all = nothing_is e [] all
    ticked_at e (Some reference) all = end_ticked e reference (end_at e reference) all refl

    entity_ticks : (e : Entity) → EntityIs e → ActedIs (ticking wrap now e)
    entity_ticks e all = ticked_at (at now e) (first_due now e) all

    entity_called : (e : Entity) (reference : ℕ) (call : UserCall) (place : Option End) → EntityIs e → end_at e reference ≡ place → ActedIs (calling_end wrap now e reference call place)
    entity_called e reference call None all is = nothing_is e [] all
    entity_called e reference call (Some end) all is =
        moved_is e reference (stepped wrap now end (Called call)) (within e reference end is).least all (row_is P none both wrap now end (Called call) (all reference end is) tt)

    -- a unit
    module _ (from : List ℕ) where
      by_end : (e : Entity) (tpdu : TpduAndSum) (reference : ℕ) (place : Option End) → HasText P none both tpdu.0 → EntityIs e → end_at e reference ≡ place → ActedIs (met_by wrap now e from tpdu reference place)
      by_end e tpdu reference None text all is = unmatched_is e from tpdu.0 all
      by_end e tpdu reference (Some end) text all is =
          if_kept ActedIs (is_match end.base end.stage from tpdu.0) _ _
          (λ _. moved_is e reference (stepped wrap now end (Took tpdu.0 tpdu.1)) (within e reference end is).least all (row_is P none both wrap now end (Took tpdu.0 tpdu.1) (all reference end is) text))
          (λ _. unmatched_is e from tpdu.0 all)

      is_made : (e : Entity) (source : ℕ) (cr : Tpdu) (found : Option ℕ) → HasText P none both cr → EntityIs e → least_free now e ≡ found → ActedIs (new_end now e from source cr found)
      is_made e source cr None text all is = nothing_is e _ all
      is_made e source (wires.Cr credit other given calling called size preferred extra version classes ack_time octets) (Some reference) text all is =
          moved_is e reference (indicated (called_end now reference from e.timers credit other calling called (proposed_in given size preferred extra)) octets) (free_least now reference e is).least all
          (record { stage = tt; told = (text, tt) })
      is_made e source other (Some reference) text all is = nothing_is e [] all

      is_requested : (e : Entity) (source : ℕ) (called : List ℕ) (cr : Tpdu) → HasText P none both cr → EntityIs e → ActedIs (requested now e from source called cr)
      is_requested e source called cr text all =
          if_kept ActedIs (list_any (is_called false from source) e.ends) _ _ (λ _. nothing_is e _ all)
          (λ _. if_kept ActedIs (list_any (is_called true from source) e.ends) _ _ (λ _. nothing_is e _ all)
          (λ _. if_kept ActedIs (not (is_registered e.selectors called)) _ _ (λ _. nothing_is e _ all) (λ _. is_made e source cr (least_free now e) text all refl)))

      is_met : (e : Entity) (tpdu : TpduAndSum) → HasText P none both tpdu.0 → EntityIs e → ActedIs (met wrap now e from tpdu)
      is_met e (wires.Cr credit source given calling called size preferred extra version classes ack_time octets, sum) text all =
          is_requested e source called (wires.Cr credit source given calling called size preferred extra version classes ack_time octets) text all
      is_met e (wires.Cc credit destination source given calling called size preferred extra version classes ack_time octets, sum) text all =
          by_end e (wires.Cc credit destination source given calling called size preferred extra version classes ack_time octets, sum) destination (end_at e destination) text all refl
      is_met e (wires.Dr destination source reason info octets, sum) text all = by_end e (wires.Dr destination source reason info octets, sum) destination (end_at e destination) text all refl
      is_met e (wires.Dc destination source, sum) text all = by_end e (wires.Dc destination source, sum) destination (end_at e destination) text all refl
      is_met e (wires.Dt destination last number octets, sum) text all = by_end e (wires.Dt destination last number octets, sum) destination (end_at e destination) text all refl
      is_met e (wires.Ed destination last number octets, sum) text all = by_end e (wires.Ed destination last number octets, sum) destination (end_at e destination) text all refl
      is_met e (wires.Ak destination number credit subsequence confirmation, sum) text all =
          by_end e (wires.Ak destination number credit subsequence confirmation, sum) destination (end_at e destination) text all refl
      is_met e (wires.Ea destination number, sum) text all = by_end e (wires.Ea destination number, sum) destination (end_at e destination) text all refl
      is_met e (wires.Er destination cause rejected, sum) text all = by_end e (wires.Er destination cause rejected, sum) destination (end_at e destination) text all refl

      are_met : (tpdus : List TpduAndSum) (extended octets rest : List ℕ) (e : Entity) → Separates extended octets tpdus rest → P octets → EntityIs e → ActedIs (all_met wrap now e from tpdus)
      are_met [] extended octets rest e s p all = nothing_is e [] all
      are_met (tpdu ∷ tpdus) extended octets rest e s p all =
          let first : Acted = met wrap now e from tpdu in
          let texts = read extended octets s.0 tpdu s.1 p in
          let one = is_met e tpdu texts.0 all in
          let others = are_met tpdus extended s.0 rest first.entity s.2 texts.1 one.entity in
          record { entity = others.entity; tells = all_appended WhatIs first.events (all_met wrap now first.entity from tpdus).events one.tells others.tells }

      ended_is : (extended rest : List ℕ) (ended : List EndEvent) → EndsWith extended rest ended → AllTold WhatIs ended
      ended_is extended rest ended (Whole nothing is) = subst (AllTold WhatIs) (sym is) tt
      ended_is extended rest ended (Faulty fault some is told_is) = subst (AllTold WhatIs) (sym told_is) (tt, tt)

      heard_is : (e : Entity) (octets : List ℕ) (acted : Acted) → HearsUnit wrap now e from octets acted → P octets → EntityIs e → ActedIs acted
      heard_is e octets acted h p all =
          let met_all = are_met h.tpdus _ octets h.rest (at now e) h.separates p all in
          record {
            entity = subst EntityIs (sym h.entity) met_all.entity;
            tells = subst (AllTold WhatIs) (sym h.events) (all_appended WhatIs (all_met wrap now (at now e) from h.tpdus).events h.told met_all.tells (ended_is _ h.rest h.told h.ends));
          }

      entity_takes : (e : Entity) (octets : List ℕ) (acted : Acted) → TakesUnit wrap now e from octets acted → P octets → EntityIs e → ActedIs acted
      entity_takes e octets acted t p all = by (is_silent now e) t
        where
          by : (silent : Bool) → TakesBy silent wrap now e from octets acted → ActedIs acted
          by true ignores = subst ActedIs (sym ignores) (record { entity = all; tells = (tt, tt) })
          by false heard = heard_is e octets acted heard p all

  -- ---- events

  abbrev pub EventIs : Event → Type 0
  EventIs (events.Incoming heard) = P heard.octets
  EventIs (events.End end (tells.Confirm options octets)) = P octets
  EventIs (events.End end (tells.Got octets)) = P octets
  EventIs (events.End end (tells.Urgent octets)) = P octets
  EventIs event = Prim.Unit {0}

  -- it is made of such texts, and no note of a relay
  abbrev pub IsFine : Event → Type 0
  IsFine event = EventIs event × (is_note event ≡ false)

  abbrev pub AreFine : List Event → Type 0
  AreFine made = AllByRecursion IsFine made

  event_fine : (system : ℕ) (own : List ℕ) (number reference : ℕ) (what : What) → WhatIs what → IsFine (event_for system own number reference what)
  event_fine system own number reference (whats.Incoming from partner calling called options octets) is = (is, refl)
  event_fine system own number reference (whats.End (tells.Accept options octets)) is = (tt, refl)
  event_fine system own number reference (whats.End (tells.Confirm options octets)) is = (is, refl)
  event_fine system own number reference (whats.End (tells.Got octets)) is = (is, refl)
  event_fine system own number reference (whats.End (tells.Urgent octets)) is = (is, refl)
  event_fine system own number reference (whats.End (tells.Window credit)) is = (tt, refl)
  event_fine system own number reference (whats.End (tells.Held kind held_number)) is = (tt, refl)
  event_fine system own number reference (whats.End (tells.Gone cause octets)) is = (tt, refl)
  event_fine system own number reference other is = (tt, refl)

  events_fine : (ends : List EndAt) (system : ℕ) (own : List ℕ) (all : List EndEvent) → AllTold WhatIs all → AreFine (events_after ends system own all)
  events_fine ends system own [] is = tt
  events_fine ends system own (one ∷ all) is = (event_fine system own _ one.reference one.what is.0, events_fine (ends_with ends system one one.what) system own all is.1)

  note_fine : (note : Note) → IsFine (events.Net note)
  note_fine note = (tt, refl)

  unit_fine : (shown : Bool) (system : ℕ) (from octets : List ℕ) → AreFine (if shown then events.Unit system from octets ∷ [] else [])
  unit_fine true system from octets = ((tt, refl), tt)
  unit_fine false system from octets = tt

  pub told_fine : (ups : List (Up (List ℕ))) → AreFine (told ups)
  told_fine [] = tt
  told_fine (Noted note ∷ ups) = (note_fine note, told_fine ups)
  told_fine (Came arrival ∷ ups) =
      all_both IsFine (shown_at arrival.system arrival.unit) (told ups) (unit_fine (selector_of arrival.unit.to == 2) arrival.system arrival.unit.from arrival.unit.octets) (told_fine ups)

  drop_fine : (system : ℕ) (answer : Offered) → AreFine (drop_events system answer)
  drop_fine system WasTaken = tt
  drop_fine system (Dropped cause) = ((tt, refl), tt)

  raw_fine : (system : ℕ) (to octets : List ℕ) (answer : Offered) → IsFine (sent_event system to octets answer)
  raw_fine system to octets WasTaken = (tt, refl)
  raw_fine system to octets (Dropped drops.TooLong) = (tt, refl)
  raw_fine system to octets (Dropped drops.NoRoute) = (tt, refl)
  raw_fine system to octets (Dropped drops.Full) = (tt, refl)
  raw_fine system to octets (Dropped drops.IdsSpent) = (tt, refl)

  picked_fine : (number system : ℕ) (answer : Picked) → IsFine (picked_event number system answer)
  picked_fine number system picks.Taken = (tt, refl)
  picked_fine number system other = (tt, refl)

  injected_fine : (system : ℕ) (answer : Injected) → IsFine (inject_event system answer)
  injected_fine system injects.Taken = (tt, refl)
  injected_fine system injects.NotThere = (tt, refl)

  call_fine : (number : ℕ) (call : UserCall) → AreFine (call_events number call)
  call_fine number (asks.Accept options octets) = tt
  call_fine number (asks.Window credit) = tt
  call_fine number other = ((tt, refl), tt)

  -- ---- a network

  abbrev pub UpIs : Up (List ℕ) → Type 0
  UpIs (Came arrival) = P arrival.unit.octets
  UpIs (Noted note) = Prim.Unit {0}

  abbrev pub WorldIs : {C : Type 0} → World C → Type 0
  WorldIs world = (system : ℕ) (e : Entity) → entity_at world.entities system ≡ Some e → EntityIs e

  -- what was told, and what is left
  pub record RanIs {C : Type 0} (made : List Event) (new : World C) : Type 0 where
    pub told_is : AreFine made
    pub world : WorldIs new

  module _ {C : Type 0} (link : C → Link (List ℕ)) (steps : C → Call (List ℕ) → C → Type 0)
      (comes : (old : C) (call : Call (List ℕ)) (ups : List (Up (List ℕ))) (new : C) → Passes link steps old call ups new → AllByRecursion UpIs ups) where
    ran_same : (old new : World C) (made these : List Event) → AreFine these → made ≡ these → new.entities ≡ old.entities → WorldIs old → RanIs made new
    ran_same old new made these fine is same all =
        record { told_is = subst AreFine (sym is) fine; world = λ system e stands. all system e (ap (λ (ps : List Placed). entity_at ps system) (sym same) ∙ stands) }

    ran_then : (mid new : World C) (made here rest : List Event) → RanIs here mid → RanIs rest new → made ≡ here ++ rest → RanIs made new
    ran_then mid new made here rest one two is = record { told_is = subst AreFine (sym is) (all_both IsFine here rest one.told_is two.told_is); world = two.world }

    sent_fine : (tpdus : List Sent) (old new : C) (system : ℕ) (own : List ℕ) (made : List Event) → SendsTpdus link steps old system own tpdus made new → AreFine made
    sent_fine [] old new system own made s = subst AreFine (sym s.0) tt
    sent_fine (sent ∷ tpdus) old new system own made s =
        let one = s.3 in
        subst AreFine (sym s.5)
        (all_both IsFine s.1 s.2 (subst AreFine (sym one.made_is) (all_both IsFine (drop_events system one.answer) (told one.ups) (drop_fine system one.answer) (told_fine one.ups)))
        (sent_fine tpdus s.0 new system own s.2 s.4))

    acts_ran : (old new : World C) (system : ℕ) (own : List ℕ) (acted : Acted) (made : List Event) → WorldIs old → ActedIs acted → Acts link steps old system own acted made new → RanIs made new
    acts_ran old new system own acted made all did a = record {
      told_is = subst AreFine (sym a.made_is)
          (all_both IsFine (events_after old.ends system own acted.events) a.sent (events_fine old.ends system own acted.events did.tells) (sent_fine acted.tpdus old.carrier a.below system own a.sent a.sends));
      world = λ other e stands. elim (with_any old.entities system other acted.entity e (ap (λ (w : World C). entity_at w.entities other) (sym a.becomes) ∙ stands)) [
        | inl now ↦ subst EntityIs (sym now.1) did.entity
        | inr before ↦ all other e before
      ];
    }

    -- ---- what users ask

    refused_ran : (old new : World C) (made : List Event) (why : Option Refused) → is_other why ≡ true → WorldIs old → IsRefused link steps old why made new → RanIs made new
    refused_ran old new made None other all s = absurd s
    refused_ran old new made (Some why) other all s =
        ran_same old new made (events.No why ∷ []) ((tt, not_so (is_note (events.No why)) other), tt) s.0 (ap (λ (w : World C). w.entities) s.1) all

    begun_ran : (old new : World C) (made : List Event) (system : ℕ) (e : Entity) (request : ConnectRequest) (found : Option ℕ) → entity_at old.entities system ≡ Some e → least_free (clock_of link steps old) e ≡ found
        → WorldIs old → BeginsAt link steps old system e request found made new → RanIs made new
    begun_ran old new made system e request None there least all s = absurd s
    begun_ran old new made system e request (Some reference) there least all s =
        let now : ℕ = clock_of link steps old in
        let did : ActedIs (connecting now e reference request) =
        moved_is (at now e) reference (connected now (call_of e reference request)) (free_least now reference e least).least (all system e there) (record { stage = tt; told = tt }) in
        let mid : World C = record old { ends = old.ends ++ record { system = system; reference = reference } ∷ [] } in
        let later = acts_ran mid new system e.own (connecting now e reference request) s.0 all did s.1 in
        record { told_is = subst AreFine (sym s.2) ((tt, refl), later.told_is); world = later.world }

    connect_by : (old new : World C) (made : List Event) (system : ℕ) (e : Entity) (request : ConnectRequest) (why : Option ConnectRefusal) → entity_at old.entities system ≡ Some e → WorldIs old
        → ConnectsBy link steps old system e request why made new → RanIs made new
    connect_by old new made system e request (Some why) there all s = refused_ran old new made (told_connect why) (connect_other why) all s
    connect_by old new made system e request None there all s = begun_ran old new made system e request (least_free (clock_of link steps old) e) there refl all s

    pub connects_ran : (old new : World C) (made : List Event) (system : ℕ) (request : ConnectRequest) → WorldIs old → Connects link steps old system request made new → RanIs made new
    connects_ran old new made system request all s = connect_by old new made system s.0 request (connect_refusal (clock_of link steps old) s.0 request.octets) s.1 all s.2

    unit_ran : (old new : World C) (below : C) (made : List Event) (system : ℕ) (sender receiver octets : List ℕ) (wish : Wish) → WorldIs old
        → SendsUnit link steps old.carrier system sender receiver wish octets made below → new ≡ record old { carrier = below } → RanIs made new
    unit_ran old new below made system sender receiver [] wish all s same =
        ran_same old new made (events.No refusals.EmptyUnit ∷ []) ((tt, refl), tt) s.0 (ap (λ (w : World C). w.entities) same) all
    unit_ran old new below made system sender receiver (octet ∷ octets) wish all s same =
        ran_same old new made (sent_event system (raw_address receiver) (octet ∷ octets) s.0 ∷ told s.1) (raw_fine system (raw_address receiver) (octet ∷ octets) s.0, told_fine s.1) s.3
        (ap (λ (w : World C). w.entities) same) all

    module _ (wrap : ℕ → ℕ → ℕ) where
      call_by : (old new : World C) (made : List Event) (number : ℕ) (end : EndAt) (e : Entity) (call : UserCall) (why : Option EntityRefusal) → entity_at old.entities end.system ≡ Some e → WorldIs old
          → CallsBy link steps wrap old number end e call why made new → RanIs made new
      call_by old new made number end e call (Some why) there all s = refused_ran old new made (told_refusal why) (entity_other why) all s
      call_by old new made number end e call None there all s =
          let now : ℕ = clock_of link steps old in
          let did = entity_called wrap now (at now e) end.reference call (end_at e end.reference) (all end.system e there) refl in
          let later = acts_ran old new end.system e.own _ s.0 all did s.1 in
          record { told_is = subst AreFine (sym s.2) (all_both IsFine (call_events number call) s.0 (call_fine number call) later.told_is); world = later.world }

      call_end : (old new : World C) (made : List Event) (number : ℕ) (end : EndAt) (e : Entity) (call : UserCall) (ended : Bool) → entity_at old.entities end.system ≡ Some e → WorldIs old
          → CallsEnd link steps wrap old number end e call ended made new → RanIs made new
      call_end old new made number end e call true there all s = refused_ran old new made (Some refusals.Ended) refl all s
      call_end old new made number end e call false there all s = call_by old new made number end e call (user_refusal e end.reference call) there all s

      call_at : (old new : World C) (made : List Event) (number : ℕ) (call : UserCall) (end : Option EndAt) → WorldIs old → CallsAt link steps wrap old number call end made new → RanIs made new
      call_at old new made number call None all s = refused_ran old new made (Some refusals.NoSuchEnd) refl all s
      call_at old new made number call (Some end) all s = call_end old new made number end s.0 call (has_ended (clock_of link steps old) old.ends number end s.0) s.1 all s.2

      pub calls_ran : (old new : World C) (made : List Event) (number : ℕ) (call : UserCall) → WorldIs old → Calls link steps wrap old number call made new → RanIs made new
      calls_ran old new made number call all s = call_at old new made number call (end_numbered old.ends number) all s

      -- ---- what comes up

      heard_if : (old new : World C) (made : List Event) (arrival : Arrival (List ℕ)) (e : Option Entity) (fit : Bool) → entity_at old.entities arrival.system ≡ e → P arrival.unit.octets → WorldIs old
          → HearsIf link steps wrap old arrival e fit made new → RanIs made new
      heard_if old new made arrival None fit there p all s = ran_same old new made [] tt s.0 (ap (λ (w : World C). w.entities) s.1) all
      heard_if old new made arrival (Some e) false there p all s = ran_same old new made [] tt s.0 (ap (λ (w : World C). w.entities) s.1) all
      heard_if old new made arrival (Some e) true there p all s =
          acts_ran old new arrival.system e.own s.0 made all (entity_takes wrap (clock_of link steps old) arrival.unit.from e arrival.unit.octets s.0 s.1 p (all arrival.system e there)) s.2

      heard_all : (ups : List (Up (List ℕ))) (old new : World C) (made : List Event) → AllByRecursion UpIs ups → WorldIs old → HearsAll link steps wrap old ups made new → RanIs made new
      heard_all [] old new made ps all s = ran_same old new made [] tt s.0 (ap (λ (w : World C). w.entities) s.1) all
      heard_all (Noted note ∷ ups) old new made ps all s = heard_all ups old new made ps.1 all s
      heard_all (Came arrival ∷ ups) old new made ps all s =
          let here = heard_if old s.0 s.1 arrival (entity_at old.entities arrival.system) (is_for link steps wrap arrival.unit.to (entity_at old.entities arrival.system)) refl ps.0 all s.3 in
          ran_then s.0 new made s.1 s.2 here (heard_all ups s.0 new s.2 ps.1 here.world s.4) s.5

      arrived : (old new : World C) (made : List Event) (call : Call (List ℕ)) (own : Event) → IsFine own → WorldIs old → Arrives link steps wrap old call own made new → RanIs made new
      arrived old new made call own fine all a =
          let later = heard_all a.ups (record old { carrier = a.below }) new a.later (comes old.carrier call a.ups a.below a.passes) all a.hears in
          record { told_is = subst AreFine (sym a.made_is) (fine, all_both IsFine (told a.ups) a.later (told_fine a.ups) later.told_is); world = later.world }

      -- ---- ticks

      entity_ticked : (system : ℕ) (old : World C) (made : List Event) (new : World C) → WorldIs old → TicksEntity link steps wrap system old made new → RanIs made new
      entity_ticked system old made new all (NoneDue o m n e there nothing made_is becomes) = record {
        told_is = subst AreFine (sym made_is) tt;
        world = λ other x stands. elim (with_any old.entities system other (ticking wrap (clock_of link steps old) e).entity x (ap (λ (w : World C). entity_at w.entities other) (sym becomes) ∙ stands)) [
          | inl now ↦ subst EntityIs (sym now.1) (entity_ticks wrap (clock_of link steps old) e (all system e there)).entity
          | inr before ↦ all other x before
        ];
      }
      entity_ticked system old made new all (OneDue o m n e reference mid here rest there is_due acts others made_is) =
          let first = acts_ran old mid system e.own (ticking wrap (clock_of link steps old) e) here all (entity_ticks wrap (clock_of link steps old) e (all system e there)) acts in
          ran_then mid new made here rest first (entity_ticked system mid rest new first.world others) made_is

      all_ticked : (placed : List Placed) (old new : World C) (made : List Event) → WorldIs old → TicksAll link steps wrap old placed made new → RanIs made new
      all_ticked [] old new made all s = ran_same old new made [] tt s.0 (ap (λ (w : World C). w.entities) s.1) all
      all_ticked (one ∷ placed) old new made all s =
          let first = entity_ticked one.system old s.1 s.0 all s.3 in ran_then s.0 new made s.1 s.2 first (all_ticked placed s.0 new s.2 first.world s.4) s.5

      tick_ran : (old new : World C) (made : List Event) → WorldIs old → Ticks link steps wrap old made new → RanIs made new
      tick_ran old new made all s =
          let later = all_ticked old.entities (record old { carrier = s.below }) new s.later all s.all in
          record { told_is = subst AreFine (sym s.made_is) ((tt, refl), all_both IsFine (told s.ups) s.later (told_fine s.ups) later.told_is); world = later.world }

      pub settle_ran : (count : ℕ) (old : World C) (made : List Event) (new : World C) → WorldIs old → Settles link steps wrap count old made new → RanIs made new
      settle_ran count old made new all (NoneLeft n o m l fresh made_is same) = ran_same old new made (events.Settle (Settled count) ∷ []) ((tt, refl), tt) made_is (ap (λ (w : World C). w.entities) same) all
      settle_ran count old made new all (TooMany n o m l pair fresh most made_is same) = ran_same old new made (events.Settle (Stopped count) ∷ []) ((tt, refl), tt) made_is (ap (λ (w : World C). w.entities) same) all
      settle_ran count old made new all (OneMore n o m l pair mid here rest fresh low delivers settles made_is) =
          let first = arrived old mid here _ _ (picked_fine pair.0 pair.1 picks.Taken) all delivers in
          ran_then mid new made here rest first (settle_ran (count + 1) mid rest new first.world settles) made_is

      restart_ran : (old new : World C) (made : List Event) (system : ℕ) (e : Entity) → WorldIs old → made ≡ events.Restart system ∷ []
          → new ≡ record old { entities = with_entity old.entities system (restarted (clock_of link steps old) e) } → RanIs made new
      restart_ran old new made system e all made_is same = record {
        told_is = subst AreFine (sym made_is) ((tt, refl), tt);
        world = λ other x stands. elim (with_any old.entities system other (restarted (clock_of link steps old) e) x (ap (λ (w : World C). entity_at w.entities other) (sym same) ∙ stands)) [
          | inl now ↦ subst EntityIs (sym now.1) (λ reference end there. absurd (let gone : None ≡ Some end = sym (none_stands (clock_of link steps old) reference e) ∙ there in cc gone))
          | inr before ↦ all other x before
        ];
      }

      -- ---- the lines

      pub line_is : (titles : List (List ℕ)) (line : Line) (old new : World C) (made : List Event) → WorldIs old → RunsLine link steps wrap titles old line made new → RanIs made new
      line_is titles lines.Nothing old new made all s = ran_same old new made [] tt s.0 (ap (λ (w : World C). w.entities) s.1) all
      line_is titles (lines.Connect system selector to called options octets) old new made all s = connects_ran old new made system s.1 all s.4.4
      line_is titles (lines.Accept end options octets) old new made all s = calls_ran old new made end _ all s
      line_is titles (lines.Refuse end octets) old new made all s = calls_ran old new made end _ all s
      line_is titles (lines.Disconnect end octets) old new made all s = calls_ran old new made end _ all s
      line_is titles (lines.Data end octets) old new made all s = calls_ran old new made end _ all s
      line_is titles (lines.Expedite end octets) old new made all s = calls_ran old new made end _ all s
      line_is titles (lines.Window end credit) old new made all s = calls_ran old new made end _ all s
      line_is titles (lines.Unit system to wish octets) old new made all s = unit_ran old new s.4.0 made system s.0 s.1 octets wish all s.4.1 s.4.2
      line_is titles lines.Tick old new made all s = tick_ran old new made all s
      line_is titles (lines.Deliver number system) old new made all s = arrived old new made _ _ (picked_fine number system s.0) all s.1
      line_is titles lines.Settle old new made all s = settle_ran 0 old made new all s
      line_is titles (lines.Inject lan system octets) old new made all s = arrived old new made _ _ (injected_fine system s.0) all s.1
      line_is titles (lines.Restart system) old new made all s = restart_ran old new made system s.0 all s.2 s.3
      line_is titles other old new made all s = absurd s
