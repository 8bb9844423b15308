-- A network runs in such small steps, whatever comes to its systems: so its journal keeps silence.
use Rattle.std.proofs.Common.{◌≡◌, inl, inr, ℕ, ◌+◌, ◌==◌, ◌||◌, not, Bool, true, false, if◌then◌else◌, List, [], ◌∷◌, ◌++◌, length, Option, Some, None, refl, sym, ◌∙◌, ap, subst, arith}
use Rattle.std.specs.Prelude.{is_none}
use Rattle.std.specs.List.{AllByRecursion}
use Rattle.std.proofs.lemmas.Bool.{eqb-true}
use Rattle.nsap.specs.Address.{selector_of}
use Rattle.osi_base.specs.declared.note.Note.{Note}
use Rattle.osi_base.specs.declared.unit.Arrival.{Arrival}
use Rattle.osi_base.specs.declared.unit.Injected.{Injected}
use Rattle.osi_base.specs.declared.unit.Injected.TheVariants as injects
use Rattle.osi_base.specs.declared.unit.Offered.{Offered}
use Rattle.osi_base.specs.declared.unit.Offered.TheVariants.{Taken as WasTaken, Dropped}
use Rattle.osi_base.specs.declared.unit.Picked.{Picked}
use Rattle.osi_base.specs.declared.unit.Picked.TheVariants as picks
use Rattle.osi_base.specs.declared.unit.Up.{Up}
use Rattle.osi_base.specs.declared.unit.Up.TheVariants.{Unit as Came, Note as Noted}
use Rattle.osi_base.specs.declared.unit.Wish.{Wish}
use Rattle.osi_base.specs.Link.{Link}
use Rattle.osi_base.specs.Calls.{Call, Keeps, Choose, Inject, Tick}
use Rattle.script_journal.specs.Silence.{KeepsSilence}
use Rattle.script_journal.specs.RawLawful.{raw_address}
use Rattle.script_journal.specs.declared.cause.Refused.{Refused}
use Rattle.script_journal.specs.declared.cause.Refused.TheVariants as refusals
use Rattle.script_journal.specs.declared.cause.Settled.TheVariants.{Settled, Stopped}
use Rattle.script_journal.specs.declared.event.Event.{Event}
use Rattle.script_journal.specs.declared.event.Event.TheVariants as events
use Rattle.net_world.specs.Run.{SendsUnit}
use Rattle.net_world.specs.Told.{picked_event, sent_event, shown_at, told}
use Rattle.tp4_flow.specs.declared.step.EndEvent.{EndEvent}
use Rattle.tp4_flow.specs.declared.step.Sent.{Sent}
use Rattle.tp4_number.specs.Number.{wire}
use Rattle.tp4_conn.specs.declared.call.ConnectRequest.{ConnectRequest}
use Rattle.tp4_conn.specs.declared.call.UserCall.{UserCall}
use Rattle.tp4_conn.specs.declared.call.UserCall.TheVariants as asks
use Rattle.tp4_conn.specs.declared.timers.Timers.{Timers}
use Rattle.tp4_conn.specs.End.{End, frozen_for}
use Rattle.tp4_entity.specs.declared.refusal.ConnectRefusal.{ConnectRefusal}
use Rattle.tp4_entity.specs.declared.refusal.EntityRefusal.{EntityRefusal}
use Rattle.tp4_entity.specs.Entity.{Acted, Entity, at, end_at}
use Rattle.tp4_entity.specs.References.{is_free, least_free}
use Rattle.tp4_entity.specs.Silence.{is_silent}
use Rattle.tp4_entity.specs.Step.{calling, connect_refusal, connecting, end_refusal, restarted, ticking, ticking_at, user_refusal}
use Rattle.tp4_entity.proofs.Beginning.{audible}
use Rattle.tp4_entity.proofs.Restarts.{none_stands}
use Rattle.tp4_entity.proofs.Standings.{free_least}
use Rattle.tp4_world.specs.Called.{Did as DoesCall, DidAll, WorldCall}
use Rattle.tp4_world.specs.Called as requests
use Rattle.tp4_world.specs.First.{IsFirst, IsNew}
use Rattle.tp4_world.specs.Run.{Acts, Arrives, BeginsAt, CallsAt, CallsBy, CallsEnd, ConnectsBy, Delivers, HearsAll, HearsIf, IsRefused, NoneDue, NoneLeft, OneDue, OneMore, Restarts, SendsTpdus, Settles, Starts, Ticks, TicksAll, TicksEntity, TooMany, clock_of, is_for}
use Rattle.tp4_world.specs.Ended.{has_ended}
use Rattle.tp4_world.specs.Telling.{call_events, drop_events, ends_after, events_after, inject_event}
use Rattle.tp4_world.specs.World.{World, end_numbered, entity_at, latest, with_entity}
use Rattle.tp4_world.specs.declared.place.EndAt.{EndAt}
use Rattle.tp4_world.specs.declared.place.Placed.{Placed}
use Rattle.tp4_world.proofs.Having.{with_any}
use Rattle.tp4_world.proofs.Entities.{with_found}
use Rattle.law_tp4_lawful.specs.Laws.{CallsAreSilent}
use Rattle.law_tp4_lawful.specs.First.{IsUntouched}
use Rattle.law_tp4_lawful.proofs.Silence.{Begins, BeginsAgain, Clock, Goes, IsStanding, IsUnused, Kind, Makes, Noting, Of, Other, Restarting, Runs, Seen, Stays, Stops, Telling, Ticking, kind_of, kinds_of, last_restart}
use Rattle.law_tp4_lawful.proofs.Frames.{entity_other}
use Rattle.law_tp4_lawful.proofs.ReferencesSince.{passed, raw_sent, sent_all}
use Rattle.law_tp4_lawful.proofs.SilenceEntities.{AreOf, Connected, Did, did_call, did_connect, did_take, did_tick, past_by, runs_then, stays_same}
use Rattle.law_tp4_lawful.proofs.SilenceSteps.{keeps_silence, keeps_silent, map_append}
use Rattle.law_tp4_lawful.proofs.WorldPlaces.{none_some, some_same}
use Rattle.law_tp4_lawful.proofs.WorldStarts.{found, no_end_at}

-- ---- events of no end

abbrev pub AreOthers : List Event → Type 0
AreOthers made = AllByRecursion (λ (event : Event). kind_of event ≡ Other) made

others_append : (xs ys : List Event) → AreOthers xs → AreOthers ys → AreOthers (xs ++ ys)
others_append [] ys first rest = rest
others_append (x ∷ xs) ys first rest = (first.0, others_append xs ys first.1 rest)

note_other : (note : Note) → kind_of (events.Net note) ≡ Other
note_other note = refl

unit_others : (shown : Bool) (system : ℕ) (from octets : List ℕ) → AreOthers (if shown then events.Unit system from octets ∷ [] else [])
unit_others true system from octets = (refl, tt)
unit_others false system from octets = tt

told_others : (ups : List (Up (List ℕ))) → AreOthers (told ups)
told_others [] = tt
told_others (Noted note ∷ ups) = (note_other note, told_others ups)
told_others (Came arrival ∷ ups) =
    others_append (shown_at arrival.system arrival.unit) (told ups) (unit_others (selector_of arrival.unit.to == 2) arrival.system arrival.unit.from arrival.unit.octets) (told_others ups)

drop_others : (system : ℕ) (answer : Offered) → AreOthers (drop_events system answer)
drop_others system WasTaken = tt
drop_others system (Dropped cause) = (refl, tt)

sent_other : (system : ℕ) (to octets : List ℕ) (answer : Offered) → kind_of (sent_event system to octets answer) ≡ Other
sent_other system to octets WasTaken = refl
sent_other system to octets (Dropped cause) = refl

picked_other : (number system : ℕ) (answer : Picked) → kind_of (picked_event number system answer) ≡ Other
picked_other number system picks.Taken = refl
picked_other number system other = refl

inject_other : (system : ℕ) (answer : Injected) → kind_of (inject_event system answer) ≡ Other
inject_other system injects.Taken = refl
inject_other system injects.NotThere = refl

notes_run : (frozen : ℕ) (s : Seen) (made : List Event) → AreOthers made → Runs frozen s (kinds_of made) s
notes_run frozen s [] are = Stops s
notes_run frozen s (event ∷ made) are =
    subst (λ (kind : Kind). Runs frozen s (kind ∷ kinds_of made) s) (sym are.0) (Goes s s s (Some Other) (kinds_of made) (Noting s (stays_same s) refl) (notes_run frozen s made are.1))

-- a user's call is of its end
call_run : (frozen : ℕ) (s : Seen) (system reference number : ℕ) (call : UserCall) → IsStanding s system reference → latest s.ends system reference ≡ number → Runs frozen s (kinds_of (call_events number call)) s
call_run frozen s system reference number call is at = by call
  where
    names : Runs frozen s (Of number ∷ []) s
    names = subst (λ (n : ℕ). Runs frozen s (Of n ∷ []) s) at (Goes s s s (Some (Of (latest s.ends system reference))) [] (Telling system reference s is (stays_same s) refl) (Stops s))

    by : (one : UserCall) → Runs frozen s (kinds_of (call_events number one)) s
    by (asks.Accept options octets) = Stops s
    by (asks.Window credit) = Stops s
    by other = names

pub number_by : (same : Bool) (one number : ℕ) (rest : Bool) → (one == number) ≡ same → (not same || rest) ≡ false → one ≡ number
number_by true one number rest is ended = eqb-true one number is
number_by false one number rest is ended = absurd (cc ended)

stands_by : (call : UserCall) (place : Option End) → end_refusal call place ≡ None → (end : End) × (place ≡ Some end)
stands_by call None is = absurd (cc is)
stands_by call (Some end) is = (end, refl)

seen_same : (one other : Seen) → one.clock ≡ other.clock → one.entities ≡ other.entities → one.ends ≡ other.ends → one ≡ other
seen_same one other clock entities ends = λ i. record { clock = clock i; entities = entities i; ends = ends i }

module _ (timers : Timers) {C : Type 0} (link : C → Link (List ℕ)) (steps : C → Call (List ℕ) → C → Type 0)
    (law : (old : C) (call : Call (List ℕ)) (new : C) → steps old call new → Keeps (link old) call (link new)) where
  abbrev frozen : ℕ
  frozen = frozen_for timers

  abbrev seen_of : World C → Seen
  seen_of world = record { clock = (link world.carrier).clock; entities = world.entities; ends = world.ends }

  -- the timers are those, and each end is of the reference at which it stands
  abbrev AreSound : List Placed → Type 0
  AreSound placed = (system : ℕ) (e : Entity) → entity_at placed system ≡ Some e → (e.timers ≡ timers) × AreOf e

  record Ran (old : World C) (made : List Event) (new : World C) : Type 0 where
    runs : Runs frozen (seen_of old) (kinds_of made) (seen_of new)
    sound : AreSound new.entities

  -- these events, in small steps that lead to what is seen of the new network
  ran_by : (old new : World C) (made : List Event) (kinds : List Kind) (last : Seen) → Runs frozen (seen_of old) kinds last → kinds_of made ≡ kinds → seen_of new ≡ last → AreSound new.entities → Ran old made new
  ran_by old new made kinds last runs is same sound = record {
    runs = subst (λ (ks : List Kind). Runs frozen (seen_of old) ks (seen_of new)) (sym is) (subst (λ (s : Seen). Runs frozen (seen_of old) kinds s) (sym same) runs);
    sound = sound;
  }

  ran_then : (old mid new : World C) (made here rest : List Event) → Ran old here mid → Ran mid rest new → made ≡ here ++ rest → Ran old made new
  ran_then old mid new made here rest one two is =
      ran_by old new made (kinds_of here ++ kinds_of rest) (seen_of new) (runs_then frozen (seen_of old) (seen_of mid) (seen_of new) (kinds_of here) (kinds_of rest) one.runs two.runs)
      (ap kinds_of is ∙ map_append here rest) refl two.sound

  -- nothing but such events; the carrier may be another then, at the same tick
  ran_notes : (old new : World C) (made : List Event) → AreSound old.entities → AreOthers made → new ≡ record old { carrier = new.carrier } → (link new.carrier).clock ≡ (link old.carrier).clock → Ran old made new
  ran_notes old new made sound others same clock =
      ran_by old new made (kinds_of made) (seen_of old) (notes_run frozen (seen_of old) made others) refl
      (seen_same (seen_of new) (seen_of old) clock (ap (λ (w : World C). w.entities) same) (ap (λ (w : World C). w.ends) same))
      (subst AreSound (sym (ap (λ (w : World C). w.entities) same)) sound)

  ran_told : (old new : World C) (made these : List Event) → AreSound old.entities → AreOthers these → made ≡ these → new ≡ old → Ran old made new
  ran_told old new made these sound others is same =
      ran_notes old new made sound (subst AreOthers (sym is) others) (same ∙ ap (λ (w : World C). record old { carrier = w.carrier }) (sym same)) (ap (λ (w : World C). (link w.carrier).clock) same)

  -- ---- what an entity did

  sent_others : (tpdus : List Sent) (old new : C) (system : ℕ) (own : List ℕ) (made : List Event) → SendsTpdus link steps old system own tpdus made new → AreOthers made
  sent_others [] old new system own made s = subst AreOthers (sym s.0) tt
  sent_others (sent ∷ tpdus) old new system own made s =
      let one = s.3 in
      subst AreOthers (sym s.5)
      (others_append s.1 s.2 (subst AreOthers (sym one.made_is) (others_append (drop_events system one.answer) (told one.ups) (drop_others system one.answer) (told_others one.ups)))
      (sent_others tpdus s.0 new system own s.2 s.4))

  with_sound : (placed : List Placed) (system : ℕ) (e : Entity) → AreSound placed → e.timers ≡ timers → AreOf e → AreSound (with_entity placed system e)
  with_sound placed system e sound timers_are all other x is = elim (with_any placed system other e x is) [
    | inl here ↦ (ap (λ (y : Entity). y.timers) here.1 ∙ timers_are, subst AreOf (sym here.1) all)
    | inr before ↦ sound other x before
  ]

  -- its TPDUs go out at the same tick
  acts_ran : (old base new : World C) (kinds : List Kind) (system : ℕ) (own : List ℕ) (acted : Acted) (made later : List Event) → (link base.carrier).clock ≡ (link old.carrier).clock
      → AreSound (with_entity base.entities system acted.entity) → (a : Acts link steps base system own acted later new)
      → Runs frozen (seen_of old) kinds (record { clock = (link old.carrier).clock; entities = with_entity base.entities system acted.entity; ends = ends_after base.ends system acted.events })
      → kinds_of made ≡ kinds ++ kinds_of a.sent → Ran old made new
  acts_ran old base new kinds system own acted made later same sound a runs is =
      let mid : Seen = record { clock = (link old.carrier).clock; entities = with_entity base.entities system acted.entity; ends = ends_after base.ends system acted.events } in
      let clock = (sent_all link steps law acted.tpdus base.carrier a.below system own a.sent a.sends).clock in
      let below : (link a.below).clock ≡ (link old.carrier).clock = omega (arith, clock, same) in
      ran_by old new made (kinds ++ kinds_of a.sent) mid
      (runs_then frozen (seen_of old) mid mid kinds (kinds_of a.sent) runs (notes_run frozen mid a.sent (sent_others acted.tpdus base.carrier a.below system own a.sent a.sends))) is
      (ap seen_of a.becomes ∙ seen_same (record { clock = (link a.below).clock; entities = with_entity base.entities system acted.entity; ends = ends_after base.ends system acted.events }) mid below refl refl)
      (subst (λ (w : World C). AreSound w.entities) (sym a.becomes) sound)

  did_ran : (old new : World C) (system : ℕ) (e : Entity) (acted : Acted) (made : List Event) → AreSound old.entities → entity_at old.entities system ≡ Some e
      → Did frozen system e.own (link old.carrier).clock e acted.entity acted.events → Acts link steps old system e.own acted made new → Ran old made new
  did_ran old new system e acted made sound there did a =
      acts_ran old old new (kinds_of (events_after old.ends system e.own acted.events)) system e.own acted made made refl
      (with_sound old.entities system acted.entity sound (did.timers ∙ (sound system e there).0) did.of) a
      (did.runs old.entities old.ends there) (ap kinds_of a.made_is ∙ map_append (events_after old.ends system e.own acted.events) a.sent)

  fits : (e : Entity) → e.timers ≡ timers → frozen ≡ frozen_for e.timers
  fits e is = ap frozen_for (sym is)

  -- ---- what users ask

  refused : (old new : World C) (made : List Event) (why : Option Refused) → AreSound old.entities → IsRefused link steps old why made new → Ran old made new
  refused old new made None sound s = absurd s
  refused old new made (Some why) sound s = ran_told old new made (events.No why ∷ []) sound (refl, tt) s.0 s.1

  begun : (old new : World C) (made : List Event) (system : ℕ) (entity : Entity) (request : ConnectRequest) (found_at : Option ℕ) → AreSound old.entities → entity_at old.entities system ≡ Some entity
      → is_silent (clock_of link steps old) entity ≡ false → least_free (clock_of link steps old) entity ≡ found_at → BeginsAt link steps old system entity request found_at made new → Ran old made new
  begun old new made system entity request None sound there still least s = absurd s
  begun old new made system entity request (Some reference) sound there still least s =
      let now : ℕ = (link old.carrier).clock in
      let of = sound system entity there in
      let base : World C = record old { ends = old.ends ++ record { system = system; reference = reference } ∷ [] } in
      let acted : Acted = connecting now entity reference request in
      let did : Connected frozen system entity.own now entity reference request =
      did_connect frozen system entity.own now entity reference request of.1 (free_least now reference entity least).least (past_by now frozen entity (fits entity of.0) still) in
      acts_ran old base new (Makes (length old.ends + 1) system ∷ []) system entity.own acted made s.0 refl
      (with_sound old.entities system acted.entity sound of.0 did.of) s.1
      (did.runs old.entities old.ends there) (ap kinds_of s.2 ∙ ap (λ (later : List Event). Makes (length old.ends + 1) system ∷ kinds_of later) s.1.made_is)

  connect_by : (old new : World C) (made : List Event) (system : ℕ) (entity : Entity) (request : ConnectRequest) (why : Option ConnectRefusal) → AreSound old.entities → entity_at old.entities system ≡ Some entity
      → connect_refusal (clock_of link steps old) entity request.octets ≡ why → ConnectsBy link steps old system entity request why made new → Ran old made new
  connect_by old new made system entity request (Some why) sound there is s = refused old new made _ sound s
  connect_by old new made system entity request None sound there is s =
      begun old new made system entity request (least_free (clock_of link steps old) entity) sound there (audible (clock_of link steps old) entity request.octets is) refl s

  -- a system begins again
  began_again : (old new : World C) (made : List Event) (system : ℕ) → AreSound old.entities → Restarts link steps old system made new → Ran old made new
  began_again old new made system sound s =
      let now : ℕ = (link old.carrier).clock in
      let entity : Entity = s.0 in
      let next : Entity = restarted now entity in
      let placed : List Placed = with_entity old.entities system next in
      let last : Seen = record { clock = now; entities = placed; ends = old.ends } in
      let here : entity_at placed system ≡ Some next = with_found old.entities system entity next s.1 in
      let none : (r : ℕ) → IsStanding last system r → ⊥ = λ r at.
      none_some at.end (sym (none_stands now r entity) ∙ ap (λ (x : Entity). end_at x r) (some_same next at.entity (sym here ∙ at.there)) ∙ at.stands) in
      let again : BeginsAgain system (seen_of old) last = record {
        ends = refl;
        none = none;
        stood = λ other r at. elim (with_any old.entities system other next at.entity at.there) [
          | inl this ↦ absurd (none r (record { entity = at.entity; end = at.end; there = ap (entity_at placed) (sym this.0) ∙ at.there; stands = at.stands }))
          | inr before ↦ record { entity = at.entity; end = at.end; there = before; stands = at.stands }
        ];
        now = ap last_restart here;
        others = λ other apart. ap last_restart (entity_other old.entities system other next apart);
      } in
      ran_by old new made (Begins system ∷ []) last (Goes (seen_of old) last last (Some (Begins system)) [] (Restarting system last again refl) (Stops last)) (ap kinds_of s.2) (ap seen_of s.3)
      (subst (λ (w : World C). AreSound w.entities) (sym s.3)
      (with_sound old.entities system next sound (sound system entity s.1).0 (λ r end at. absurd (none_some end (sym (none_stands now r entity) ∙ at)))))

  raw_ran : (old new : World C) (below : C) (made : List Event) (system : ℕ) (sender receiver octets : List ℕ) (wish : Wish) → AreSound old.entities
      → SendsUnit link steps old.carrier system sender receiver wish octets made below → new ≡ record old { carrier = below } → Ran old made new
  raw_ran old new below made system sender receiver octets wish sound s same =
      let clock = (raw_sent link steps law old.carrier below system sender receiver octets wish made s).clock in
      subst (λ (w : World C). Ran old made w) (sym same) (ran_notes old (record old { carrier = below }) made sound (raw_others octets s) refl (omega (arith, clock)))
    where
      raw_others : (xs : List ℕ) → SendsUnit link steps old.carrier system sender receiver wish xs made below → AreOthers made
      raw_others [] t = subst AreOthers (sym t.0) (refl, tt)
      raw_others (x ∷ xs) t = subst AreOthers (sym t.3) (sent_other system (raw_address receiver) (x ∷ xs) t.0, told_others t.1)

  module _ (wrap : ℕ → ℕ → ℕ) where
    call_by : (old new : World C) (made : List Event) (number : ℕ) (end : EndAt) (entity : Entity) (call : UserCall) (why : Option EntityRefusal) → AreSound old.entities
        → entity_at old.entities end.system ≡ Some entity → latest old.ends end.system end.reference ≡ number → user_refusal entity end.reference call ≡ why
        → CallsBy link steps wrap old number end entity call why made new → Ran old made new
    call_by old new made number end entity call (Some why) sound there at is s = refused old new made _ sound s
    call_by old new made number end entity call None sound there at is s =
        let now : ℕ = (link old.carrier).clock in
        let stands = stands_by call (end_at entity end.reference) is in
        let standing : IsStanding (seen_of old) end.system end.reference = record { entity = entity; end = stands.0; there = there; stands = stands.1 } in
        let asked : Ran old (call_events number call) old = record { runs = call_run frozen (seen_of old) end.system end.reference number call standing at; sound = sound } in
        ran_then old old new made (call_events number call) s.0 asked
        (did_ran old new end.system entity (calling wrap now entity end.reference call) s.0 sound there
        (did_call frozen end.system entity.own now wrap entity end.reference call (sound end.system entity there).1) s.1) s.2

    call_end : (old new : World C) (made : List Event) (number : ℕ) (end : EndAt) (entity : Entity) (call : UserCall) (ended : Bool) → AreSound old.entities
        → entity_at old.entities end.system ≡ Some entity → has_ended (clock_of link steps old) old.ends number end entity ≡ ended
        → CallsEnd link steps wrap old number end entity call ended made new → Ran old made new
    call_end old new made number end entity call true sound there is s = refused old new made (Some refusals.Ended) sound s
    call_end old new made number end entity call false sound there is s =
        call_by old new made number end entity call (user_refusal entity end.reference call) sound there
        (number_by (latest old.ends end.system end.reference == number) (latest old.ends end.system end.reference) number
        (is_none (end_at entity end.reference) || is_free (clock_of link steps old) entity end.reference) refl is) refl s

    call_at : (old new : World C) (made : List Event) (number : ℕ) (call : UserCall) (end : Option EndAt) → AreSound old.entities → CallsAt link steps wrap old number call end made new → Ran old made new
    call_at old new made number call None sound s = refused old new made (Some refusals.NoSuchEnd) sound s
    call_at old new made number call (Some end) sound s = call_end old new made number end s.0 call (has_ended (clock_of link steps old) old.ends number end s.0) sound s.1 refl s.2

    -- ---- what comes up

    heard_if : (old new : World C) (made : List Event) (arrival : Arrival (List ℕ)) (entity : Option Entity) (fit : Bool) → AreSound old.entities → entity_at old.entities arrival.system ≡ entity
        → HearsIf link steps wrap old arrival entity fit made new → Ran old made new
    heard_if old new made arrival None fit sound there s = ran_told old new made [] sound tt s.0 s.1
    heard_if old new made arrival (Some entity) false sound there s = ran_told old new made [] sound tt s.0 s.1
    heard_if old new made arrival (Some entity) true sound there s =
        let of = sound arrival.system entity there in
        did_ran old new arrival.system entity s.0 made sound there
        (did_take frozen arrival.system entity.own (link old.carrier).clock wrap arrival.unit.from entity arrival.unit.octets s.0 of.1 (fits entity of.0) s.1) s.2

    heard_all : (ups : List (Up (List ℕ))) (old new : World C) (made : List Event) → AreSound old.entities → HearsAll link steps wrap old ups made new → Ran old made new
    heard_all [] old new made sound s = ran_told old new made [] sound tt s.0 s.1
    heard_all (Noted note ∷ ups) old new made sound s = heard_all ups old new made sound s
    heard_all (Came arrival ∷ ups) old new made sound s =
        let first : Ran old s.1 s.0 =
        heard_if old s.0 s.1 arrival (entity_at old.entities arrival.system) (is_for link steps wrap arrival.unit.to (entity_at old.entities arrival.system)) sound refl s.3 in
        ran_then old s.0 new made s.1 s.2 first (heard_all ups s.0 new s.2 first.sound s.4) s.5

    -- after a call of the carrier that moves no clock
    arrived : (old new : World C) (made : List Event) (call : Call (List ℕ)) (own : Event) → AreSound old.entities → kind_of own ≡ Other → (a : Arrives link steps wrap old call own made new)
        → (link a.below).clock ≡ (link old.carrier).clock → Ran old made new
    arrived old new made call own sound other a clock =
        let mid : World C = record old { carrier = a.below } in
        ran_then old mid new made (own ∷ told a.ups) a.later (ran_notes old mid (own ∷ told a.ups) sound (other, told_others a.ups) refl clock) (heard_all a.ups mid new a.later sound a.hears) a.made_is

    delivered : (old new : World C) (made : List Event) (number system : ℕ) (answer : Picked) → AreSound old.entities → Delivers link steps wrap old number system answer made new → Ran old made new
    delivered old new made number system answer sound a =
        let clock = (passed link steps law old.carrier a.below (Choose number system answer) a.ups a.passes).clock in
        arrived old new made (Choose number system answer) (picked_event number system answer) sound (picked_other number system answer) a (omega (arith, clock))

    injected : (old new : World C) (made : List Event) (lan system : ℕ) (octets : List ℕ) (answer : Injected) → AreSound old.entities
        → Arrives link steps wrap old (Inject lan system octets answer) (inject_event system answer) made new → Ran old made new
    injected old new made lan system octets answer sound a =
        let clock = (passed link steps law old.carrier a.below (Inject lan system octets answer) a.ups a.passes).clock in
        arrived old new made (Inject lan system octets answer) (inject_event system answer) sound (inject_other system answer) a (omega (arith, clock))

    -- ---- ticks

    entity_ticked : (system : ℕ) (old : World C) (made : List Event) (new : World C) → AreSound old.entities → TicksEntity link steps wrap system old made new → Ran old made new
    entity_ticked system old made new sound (NoneDue o m n entity there none made_is becomes) =
        let now : ℕ = (link old.carrier).clock in
        let of = sound system entity there in
        let acted : Acted = ticking wrap now entity in
        let did = did_tick frozen system entity.own now wrap entity of.1 in
        let quiet : acted.events ≡ [] = ap (λ (due : Option ℕ). (ticking_at wrap now (at now entity) due).events) none in
        let last : Seen = record { clock = now; entities = with_entity old.entities system acted.entity; ends = old.ends } in
        ran_by old new made [] last
        (subst (λ (told : List EndEvent). Runs frozen (seen_of old) (kinds_of (events_after old.ends system entity.own told)) (record { clock = now; entities = with_entity old.entities system acted.entity; ends = ends_after old.ends system told })) quiet
        (did.runs old.entities old.ends there))
        (ap kinds_of made_is) (ap seen_of becomes)
        (subst (λ (w : World C). AreSound w.entities) (sym becomes) (with_sound old.entities system acted.entity sound (did.timers ∙ of.0) did.of))
    entity_ticked system old made new sound (OneDue o m n entity reference mid here rest there due acts others made_is) =
        let first : Ran old here mid =
        did_ran old mid system entity (ticking wrap (link old.carrier).clock entity) here sound there (did_tick frozen system entity.own (link old.carrier).clock wrap entity (sound system entity there).1) acts in
        ran_then old mid new made here rest first (entity_ticked system mid rest new first.sound others) made_is

    all_ticked : (placed : List Placed) (old new : World C) (made : List Event) → AreSound old.entities → TicksAll link steps wrap old placed made new → Ran old made new
    all_ticked [] old new made sound s = ran_told old new made [] sound tt s.0 s.1
    all_ticked (one ∷ placed) old new made sound s =
        let first : Ran old s.1 s.0 = entity_ticked one.system old s.1 s.0 sound s.3 in
        ran_then old s.0 new made s.1 s.2 first (all_ticked placed s.0 new s.2 first.sound s.4) s.5

    ticked : (old new : World C) (made : List Event) → AreSound old.entities → Ticks link steps wrap old made new → Ran old made new
    ticked old new made sound s =
        let tick : ℕ = (link old.carrier).clock + 1 in
        let clock = (passed link steps law old.carrier s.below Tick s.ups s.passes).clock in
        let mid : World C = record old { carrier = s.below } in
        let seen : Seen = record { clock = tick; entities = old.entities; ends = old.ends } in
        let stays : Stays (seen_of old) seen =
        record { ends = refl; stood = λ system r at. record { entity = at.entity; end = at.end; there = at.there; stands = at.stands }; restarted = λ system. refl } in
        let first : Ran old (events.Tick tick ∷ told s.ups) mid =
        ran_by old mid (events.Tick tick ∷ told s.ups) (Clock tick ∷ kinds_of (told s.ups)) seen
        (Goes (seen_of old) seen seen (Some (Clock tick)) (kinds_of (told s.ups)) (Ticking tick seen stays (omega arith) refl) (notes_run frozen seen (told s.ups) (told_others s.ups)))
        refl (seen_same (seen_of mid) seen clock refl refl) sound in
        ran_then old mid new made (events.Tick tick ∷ told s.ups) s.later first (all_ticked old.entities mid new s.later sound s.all) s.made_is

    settled : (count : ℕ) (old : World C) (made : List Event) (new : World C) → AreSound old.entities → Settles link steps wrap count old made new → Ran old made new
    settled count old made new sound (NoneLeft n o m l fresh made_is same) = ran_told old new made (events.Settle (Settled count) ∷ []) sound (refl, tt) made_is same
    settled count old made new sound (TooMany n o m l pair fresh most made_is same) = ran_told old new made (events.Settle (Stopped count) ∷ []) sound (refl, tt) made_is same
    settled count old made new sound (OneMore n o m l pair mid here rest fresh low delivers settles made_is) =
        let first : Ran old here mid = delivered old mid here pair.0 pair.1 picks.Taken sound delivers in
        ran_then old mid new made here rest first (settled (count + 1) mid rest new first.sound settles) made_is

    -- ---- the calls

    call_ran : (call : WorldCall) (old new : World C) (made : List Event) → AreSound old.entities → DoesCall link steps wrap old call made new → Ran old made new
    call_ran (requests.Connect system request) old new made sound s = connect_by old new made system s.0 request (connect_refusal (clock_of link steps old) s.0 request.octets) sound s.1 refl s.2
    call_ran (requests.Ask end call) old new made sound s = call_at old new made end call (end_numbered old.ends end) sound s
    call_ran (requests.Raw system sender receiver wish octets) old new made sound s = raw_ran old new s.0 made system sender receiver octets wish sound s.1 s.2
    call_ran (requests.Deliver number system answer) old new made sound s = delivered old new made number system answer sound s
    call_ran (requests.Inject lan system octets answer) old new made sound s = injected old new made lan system octets answer sound s
    call_ran (requests.Restart system) old new made sound s = began_again old new made system sound s
    call_ran requests.Pass old new made sound s = ticked old new made sound s
    call_ran requests.Settle old new made sound s = settled 0 old made new sound s

    calls_ran : (calls : List WorldCall) (first last : World C) (made : List Event) → AreSound first.entities → DidAll link steps wrap first calls made last → Ran first made last
    calls_ran [] first last made sound s = ran_told first last made [] sound tt s.0 s.1
    calls_ran (call ∷ calls) first last made sound s =
        let one : Ran first s.1 s.0 = call_ran call first s.0 s.1 sound s.3 in
        ran_then first s.0 last made s.1 s.2 one (calls_ran calls s.0 last s.2 one.sound s.5) s.4

  -- ---- the start

  module _ (titles : List (List ℕ)) (placed : List Placed) (entities : AllByRecursion (IsNew titles) placed) (untouched : AllByRecursion (IsUntouched timers) placed) where
    first_sound : AreSound placed
    first_sound system e is =
        let f = found (IsUntouched timers) placed system e untouched is in
        let new = found (IsNew titles) placed system e entities is in (
          ap (λ (x : Entity). x.timers) (sym f.entity_is) ∙ f.holds.timers_are,
          λ r end at. absurd (none_some end (sym (no_end_at new.one.entity new.holds.none r) ∙ ap (λ (x : Entity). end_at x r) new.entity_is ∙ at)),
        )

    never : (system : ℕ) → last_restart (entity_at placed system) ≡ None
    never system = by (entity_at placed system) refl
      where
        by : (one : Option Entity) → entity_at placed system ≡ one → last_restart one ≡ None
        by None is = refl
        by (Some e) is =
            let new = found (IsNew titles) placed system e entities is in
            ap (λ (x : Entity). x.restarted) (sym new.entity_is) ∙ new.holds.never

    abbrev unused : Seen
    unused = record { clock = 0; entities = placed; ends = [] }

    is_unused : IsUnused unused
    is_unused = record { clock = refl; ends = refl; never = never }

    started : (made : C) (begun_by : List Event) (first : World C) → IsFirst timers.life titles (link made) placed → Starts link steps made placed begun_by first
        → Runs frozen unused (kinds_of begun_by) (seen_of first)
    started made begun_by first is start =
        let others : List Event = told start.ups in
        let clock : (link start.below).clock ≡ 0 = start.gathers.stands.clock ∙ is.carrier_is.clock in
        let runs : Runs frozen unused (Clock 0 ∷ kinds_of others) unused =
        Goes unused unused unused (Some (Clock 0)) (kinds_of others) (Ticking 0 unused (stays_same unused) (omega arith) refl) (notes_run frozen unused others (told_others start.ups)) in
        subst (λ (ks : List Kind). Runs frozen unused ks (seen_of first)) (sym (ap kinds_of start.made_is))
        (subst (λ (s : Seen). Runs frozen unused (Clock 0 ∷ kinds_of others) s)
        (sym (ap seen_of start.becomes ∙ seen_same (record { clock = (link start.below).clock; entities = placed; ends = [] }) unused clock refl refl)) runs)

    silent_from : (made : C) (begun_by journal : List Event) (calls : List WorldCall) (first last : World C) → IsFirst timers.life titles (link made) placed
        → Starts link steps made placed begun_by first → DidAll link steps wire first calls journal last → KeepsSilence frozen (begun_by ++ journal)
    silent_from made begun_by journal calls first last is start did =
        let sound : AreSound first.entities = subst (λ (w : World C). AreSound w.entities) (sym start.becomes) first_sound in
        let ran : Ran first journal last = calls_ran wire calls first last journal sound did in
        let runs : Runs frozen unused (kinds_of (begun_by ++ journal)) (seen_of last) =
        subst (λ (ks : List Kind). Runs frozen unused ks (seen_of last)) (sym (map_append begun_by journal))
        (runs_then frozen unused (seen_of first) (seen_of last) (kinds_of begun_by) (kinds_of journal) (started made begun_by first is start) ran.runs) in
        keeps_silent frozen (begun_by ++ journal) (keeps_silence frozen unused (seen_of last) (kinds_of (begun_by ++ journal)) is_unused runs)

-- after a system began again nothing is told of the ends that it had, and it makes none for as long as references are frozen
pub calls_silent : {C : Type 0} (link : C → Link (List ℕ)) (steps : C → Call (List ℕ) → C → Type 0) → ((old : C) (call : Call (List ℕ)) (new : C) → steps old call new → Keeps (link old) call (link new))
    → CallsAreSilent link steps
calls_silent link steps law titles timers journal last a =
    subst (KeepsSilence (frozen_for timers)) (sym a.journal_is)
    (silent_from timers link steps law titles a.placed a.is_first.entities a.untouched a.made a.begun a.later a.calls a.first last a.is_first a.starts a.did)
