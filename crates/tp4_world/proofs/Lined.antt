-- What a line of a network does besides, and a call: none but an injection that is taken changes whether the carrier is honest, and no event but that
-- of its own line is one by which a user asks.
use Rattle.std.proofs.Common.{◌≡◌, ◌⊎◌, ℕ, ◌+◌, Bool, true, false, if◌then◌else◌, List, [], ◌∷◌, ◌++◌, length, Option, Some, None, inl, inr, refl, sym, ◌∙◌, ap}
use Rattle.std.specs.Prelude.{◌≢◌, ◌==◌}
use Rattle.std.specs.List.{AllByRecursion}
use Rattle.nsap.specs.Address.{selector_of}
use Rattle.osi_base.specs.declared.note.Note.{Note}
use Rattle.osi_base.specs.declared.unit.Arrival.{Arrival}
use Rattle.osi_base.specs.declared.unit.Injected.{Injected}
use Rattle.osi_base.specs.declared.unit.Injected.TheVariants as injects
use Rattle.osi_base.specs.declared.unit.Offered.{Offered}
use Rattle.osi_base.specs.declared.unit.Offered.TheVariants.{Taken as WasTaken, Dropped}
use Rattle.osi_base.specs.declared.unit.Picked.{Picked}
use Rattle.osi_base.specs.declared.unit.Picked.TheVariants as picks
use Rattle.osi_base.specs.declared.unit.Unit.{Unit as CarriedUnit}
use Rattle.osi_base.specs.declared.unit.Up.{Up}
use Rattle.osi_base.specs.declared.unit.Up.TheVariants.{Unit as Came, Note as Noted}
use Rattle.osi_base.specs.declared.unit.Wish.{Wish}
use Rattle.osi_base.specs.Link.{Link}
use Rattle.osi_base.specs.Calls.{Call, Choose, Inject, Keeps, Offer, Tick}
use Rattle.script_journal.specs.RawLawful.{raw_address}
use Rattle.script_journal.specs.declared.cause.Refused.{Refused}
use Rattle.script_journal.specs.declared.cause.Refused.TheVariants as refusals
use Rattle.script_journal.specs.declared.event.Event.{Event}
use Rattle.script_journal.specs.declared.event.Event.TheVariants as events
use Rattle.script_lines.specs.declared.line.Line.{Line}
use Rattle.script_lines.specs.declared.line.Line.TheVariants as lines
use Rattle.script_lines.specs.Injecting.{HasNoInject, IsNoInjection}
use Rattle.net_world.specs.Run.{Passes, SendsUnit, raw_unit}
use Rattle.net_world.specs.Told.{picked_event, sent_event, shown_at, told}
use Rattle.tp4_flow.specs.declared.step.EndEvent.{EndEvent}
use Rattle.tp4_flow.specs.declared.step.Sent.{Sent}
use Rattle.tp4_flow.specs.declared.step.What.{What}
use Rattle.tp4_flow.specs.declared.step.What.TheVariants as whats
use Rattle.tp4_conn.specs.declared.call.ConnectRequest.{ConnectRequest}
use Rattle.tp4_conn.specs.declared.call.UserCall.{UserCall}
use Rattle.tp4_conn.specs.declared.call.UserCall.TheVariants as asks
use Rattle.tp4_entity.specs.declared.refusal.ConnectRefusal.{ConnectRefusal}
use Rattle.tp4_entity.specs.declared.refusal.EntityRefusal.{EntityRefusal}
use Rattle.tp4_entity.specs.Entity.{Acted, Entity}
use Rattle.tp4_entity.specs.References.{least_free}
use Rattle.tp4_entity.specs.Step.{connect_refusal, user_refusal}
use Rattle.tp4_world.specs.Asked.{AsksOne, IsAsked, asked_in, is_asked}
use Rattle.tp4_world.specs.Laws.{TellsAsked}
use Rattle.tp4_world.specs.Called.{Did, DidAll, InjectsNothing, WorldCall}
use Rattle.tp4_world.specs.Called as requests
use Rattle.tp4_world.specs.Run.{Acts, Arrives, BeginsAt, Calls, CallsAt, CallsBy, CallsEnd, Connects, ConnectsBy, HearsAll, HearsIf, IsRefused, NoneDue, NoneLeft, OneDue, OneMore, RunsLine, RunsLines, SendsTpdu, SendsTpdus, Settles, Ticks, TicksAll, TicksEntity, TooMany, clock_of, is_for, transport_wish}
use Rattle.tp4_world.specs.Ended.{has_ended}
use Rattle.tp4_world.specs.Telling.{call_events, connect_event, drop_events, ends_with, event_for, events_after, inject_event}
use Rattle.tp4_world.specs.World.{World, end_numbered, entity_at, latest}
use Rattle.tp4_world.specs.declared.place.EndAt.{EndAt}
use Rattle.tp4_world.specs.declared.place.Placed.{Placed}

-- ---- events by which users ask

asked-append : (xs ys : List Event) → asked_in (xs ++ ys) ≡ asked_in xs ++ asked_in ys
asked-append [] ys = refl
asked-append (event ∷ xs) ys = by (is_asked event) (asked-append xs ys)
  where
    by : (asks : Bool) → asked_in (xs ++ ys) ≡ asked_in xs ++ asked_in ys
        → (if asks then event ∷ asked_in (xs ++ ys) else asked_in (xs ++ ys)) ≡ (if asks then event ∷ asked_in xs else asked_in xs) ++ asked_in ys
    by true others = ap (λ (es : List Event). event ∷ es) others
    by false others = others

none_both : (xs ys made : List Event) → made ≡ xs ++ ys → asked_in xs ≡ [] → asked_in ys ≡ [] → asked_in made ≡ []
none_both xs ys made is none others = ap asked_in is ∙ asked-append xs ys ∙ ap (λ (es : List Event). es ++ asked_in ys) none ∙ others

none_asked : (made : List Event) → made ≡ [] → asked_in made ≡ []
none_asked made none = ap asked_in none

note_none : (note : Note) (rest : List Event) → asked_in rest ≡ [] → asked_in (events.Net note ∷ rest) ≡ []
note_none note rest none = none

shown_none : (raw : Bool) (system : ℕ) (from octets : List ℕ) → asked_in (if raw then events.Unit system from octets ∷ [] else []) ≡ []
shown_none true system from octets = refl
shown_none false system from octets = refl

pub told_none : (ups : List (Up (List ℕ))) → asked_in (told ups) ≡ []
told_none [] = refl
told_none (Noted note ∷ ups) = note_none note (told ups) (told_none ups)
told_none (Came arrival ∷ ups) =
    none_both (shown_at arrival.system arrival.unit) (told ups) (shown_at arrival.system arrival.unit ++ told ups) refl
    (shown_none (selector_of arrival.unit.to == 2) arrival.system arrival.unit.from arrival.unit.octets) (told_none ups)

what_none : (system : ℕ) (own : List ℕ) (number reference : ℕ) (what : What) (rest : List Event) → asked_in rest ≡ [] → asked_in (event_for system own number reference what ∷ rest) ≡ []
what_none system own number reference (whats.Incoming from partner calling called options octets) rest none = none
what_none system own number reference what rest none = none

ends_none : (all : List EndEvent) (ends : List EndAt) (system : ℕ) (own : List ℕ) → asked_in (events_after ends system own all) ≡ []
ends_none [] ends system own = refl
ends_none (one ∷ others) ends system own =
    let next = ends_with ends system one one.what in
    what_none system own (latest next system one.reference) one.reference one.what (events_after next system own others) (ends_none others next system own)

drop_none : (system : ℕ) (answer : Offered) → asked_in (drop_events system answer) ≡ []
drop_none system WasTaken = refl
drop_none system (Dropped cause) = refl

picked_none : (number system : ℕ) (answer : Picked) (rest : List Event) → asked_in rest ≡ [] → asked_in (picked_event number system answer ∷ rest) ≡ []
picked_none number system picks.Taken rest none = none
picked_none number system answer rest none = none

inject_none : (system : ℕ) (answer : Injected) (rest : List Event) → asked_in rest ≡ [] → asked_in (inject_event system answer ∷ rest) ≡ []
inject_none system injects.Taken rest none = none
inject_none system injects.NotThere rest none = none

sent_none : (system : ℕ) (to octets : List ℕ) (answer : Offered) (rest : List Event) → asked_in rest ≡ [] → asked_in (sent_event system to octets answer ∷ rest) ≡ []
sent_none system to octets WasTaken rest none = none
sent_none system to octets (Dropped cause) rest none = none

module _ {C : Type 0} (link : C → Link (List ℕ)) (steps : C → Call (List ℕ) → C → Type 0) (law : (old : C) (call : Call (List ℕ)) (new : C) → steps old call new → Keeps (link old) call (link new)) where
  abbrev pub AreAlike : C → C → Type 0
  AreAlike old new = (link new).honest ≡ (link old).honest

  -- the carrier is as honest as before, and no user asks
  pub record Aside (old new : World C) (made : List Event) : Type 0 where
    pub honest : AreAlike old.carrier new.carrier
    pub none : asked_in made ≡ []

  nothing : (old new : World C) (made : List Event) → made ≡ [] → new ≡ old → Aside old new made
  nothing old new made none same = record { honest = ap (λ (w : World C). (link w.carrier).honest) same; none = none_asked made none }

  aside_then : (old mid new : World C) (made here rest : List Event) → Aside old mid here → Aside mid new rest → made ≡ here ++ rest → Aside old new made
  aside_then old mid new made here rest one two is = record { honest = two.honest ∙ one.honest; none = none_both here rest made is one.none two.none }

  offered : (old : C) (unit : CarriedUnit (List ℕ)) (wish : Wish) (answer : Offered) (ups : List (Up (List ℕ))) (new : C) → Passes link steps old (Offer unit wish answer) ups new → AreAlike old new
  offered old unit wish answer ups new p = p.gathers.stands.honest ∙ (law old (Offer unit wish answer) p.called p.steps_to).honest

  chosen : (old : C) (pick system : ℕ) (answer : Picked) (ups : List (Up (List ℕ))) (new : C) → Passes link steps old (Choose pick system answer) ups new → AreAlike old new
  chosen old pick system answer ups new p = p.gathers.stands.honest ∙ (law old (Choose pick system answer) p.called p.steps_to).honest

  record Sends (old new : C) (made : List Event) : Type 0 where
    honest : AreAlike old new
    none : asked_in made ≡ []

  tpdus_sent : (tpdus : List Sent) (old : C) (system : ℕ) (own : List ℕ) (made : List Event) (new : C) → SendsTpdus link steps old system own tpdus made new → Sends old new made
  tpdus_sent [] old system own made new h = record { honest = ap (λ (c : C). (link c).honest) h.1; none = none_asked made h.0 }
  tpdus_sent (sent ∷ tpdus) old system own made new h =
      let s : SendsTpdu link steps old system own sent h.1 h.0 = h.3 in
      let rest = tpdus_sent tpdus h.0 system own h.2 new h.4 in
      record {
        honest = rest.honest ∙ offered old (record { from = own; to = sent.to; octets = s.octets }) transport_wish s.answer s.ups h.0 s.passes;
        none = none_both h.1 h.2 made h.5 (none_both (drop_events system s.answer) (told s.ups) h.1 s.made_is (drop_none system s.answer) (told_none s.ups)) rest.none;
      }

  acted : (old new : World C) (system : ℕ) (own : List ℕ) (did : Acted) (made : List Event) → Acts link steps old system own did made new → Aside old new made
  acted old new system own did made a =
      let s = tpdus_sent did.tpdus old.carrier system own a.sent a.below a.sends in
      record {
        honest = ap (λ (w : World C). (link w.carrier).honest) a.becomes ∙ s.honest;
        none = none_both (events_after old.ends system own did.events) a.sent made a.made_is (ends_none did.events old.ends system own) s.none;
      }

  -- ---- what users ask

  -- it was refused, or it has these events, and nothing by which a user asks
  pub record Answers (old new : World C) (made first : List Event) : Type 0 where
    pub honest : AreAlike old.carrier new.carrier
    pub made_is : ((why : Refused) × (made ≡ events.No why ∷ [])) ⊎ ((later : List Event) × (made ≡ first ++ later) × (asked_in later ≡ []))

  refused : (old new : World C) (made first : List Event) (why : Option Refused) → IsRefused link steps old why made new → Answers old new made first
  refused old new made first None h = absurd h
  refused old new made first (Some why) h = record { honest = ap (λ (w : World C). (link w.carrier).honest) h.1; made_is = inl (why, h.0) }

  call_by : (wrap : ℕ → ℕ → ℕ) (old new : World C) (made : List Event) (number : ℕ) (end : EndAt) (entity : Entity) (call : UserCall) (why : Option EntityRefusal)
      → CallsBy link steps wrap old number end entity call why made new → Answers old new made (call_events number call)
  call_by wrap old new made number end entity call (Some why) h = refused old new made (call_events number call) _ h
  call_by wrap old new made number end entity call None h =
      let a = acted old new end.system entity.own _ h.0 h.1 in
      record { honest = a.honest; made_is = inr (h.0, h.2, a.none) }

  call_end : (wrap : ℕ → ℕ → ℕ) (old new : World C) (made : List Event) (number : ℕ) (end : EndAt) (entity : Entity) (call : UserCall) (ended : Bool)
      → CallsEnd link steps wrap old number end entity call ended made new → Answers old new made (call_events number call)
  call_end wrap old new made number end entity call true h = refused old new made (call_events number call) (Some refusals.Ended) h
  call_end wrap old new made number end entity call false h = call_by wrap old new made number end entity call (user_refusal entity end.reference call) h

  call_at : (wrap : ℕ → ℕ → ℕ) (old new : World C) (made : List Event) (number : ℕ) (call : UserCall) (end : Option EndAt) → CallsAt link steps wrap old number call end made new
      → Answers old new made (call_events number call)
  call_at wrap old new made number call None h = refused old new made (call_events number call) (Some refusals.NoSuchEnd) h
  call_at wrap old new made number call (Some end) h = call_end wrap old new made number end h.0 call (has_ended (clock_of link steps old) old.ends number end h.0) h.2

  called : (wrap : ℕ → ℕ → ℕ) (old new : World C) (made : List Event) (number : ℕ) (call : UserCall) → Calls link steps wrap old number call made new → Answers old new made (call_events number call)
  called wrap old new made number call h = call_at wrap old new made number call (end_numbered old.ends number) h

  -- a call that is no request
  answered : (old new : World C) (made first : List Event) → Answers old new made first → asked_in first ≡ [] → Aside old new made
  answered old new made first a none = record { honest = a.honest; none = by a.made_is }
    where
      by : ((why : Refused) × (made ≡ events.No why ∷ [])) ⊎ ((later : List Event) × (made ≡ first ++ later) × (asked_in later ≡ [])) → asked_in made ≡ []
      by (inl refused) = ap asked_in refused.1
      by (inr more) = none_both first more.0 made more.1 none more.2

  -- a call that is one
  asks_one : (old new : World C) (made : List Event) (event : Event) (Says : Event → Type 0) → Answers old new made (event ∷ []) → is_asked event ≡ true → Says event → AsksOne Says made
  asks_one old new made event Says a is says = by a.made_is
    where
      by : ((why : Refused) × (made ≡ events.No why ∷ [])) ⊎ ((later : List Event) × (made ≡ event ∷ later) × (asked_in later ≡ [])) → AsksOne Says made
      by (inl refused) = inr refused
      by (inr more) = inl (
        event,
        says,
        ap asked_in more.1 ∙ ap (λ (asks : Bool). if asks then event ∷ asked_in more.0 else asked_in more.0) is ∙ ap (λ (es : List Event). event ∷ es) more.2,
      )

  -- a connection
  begun : (old new : World C) (made : List Event) (system : ℕ) (entity : Entity) (request : ConnectRequest) (found : Option ℕ) → BeginsAt link steps old system entity request found made new
      → (reference : ℕ) × Answers old new made (connect_event (length old.ends + 1) system reference entity.own request ∷ [])
  begun old new made system entity request None h = absurd h
  begun old new made system entity request (Some reference) h =
      let with_end : World C = record old { ends = old.ends ++ record { system = system; reference = reference } ∷ [] } in
      let a : Aside with_end new h.0 = acted with_end new system entity.own _ h.0 h.1 in
      (reference, record { honest = a.honest; made_is = inr (h.0, h.2, a.none) })

  connect_by : (old new : World C) (made : List Event) (system : ℕ) (entity : Entity) (request : ConnectRequest) (why : Option ConnectRefusal) → ConnectsBy link steps old system entity request why made new
      → (reference : ℕ) × Answers old new made (connect_event (length old.ends + 1) system reference entity.own request ∷ [])
  connect_by old new made system entity request (Some why) h = (0, refused old new made _ _ h)
  connect_by old new made system entity request None h = begun old new made system entity request (least_free (clock_of link steps old) entity) h

  -- ---- what comes up

  heard_if : (wrap : ℕ → ℕ → ℕ) (old new : World C) (made : List Event) (arrival : Arrival (List ℕ)) (found : Option Entity) (fits : Bool) → HearsIf link steps wrap old arrival found fits made new → Aside old new made
  heard_if wrap old new made arrival None fits h = nothing old new made h.0 h.1
  heard_if wrap old new made arrival (Some entity) false h = nothing old new made h.0 h.1
  heard_if wrap old new made arrival (Some entity) true h = acted old new arrival.system entity.own h.0 made h.2

  heard_all : (wrap : ℕ → ℕ → ℕ) (ups : List (Up (List ℕ))) (old new : World C) (made : List Event) → HearsAll link steps wrap old ups made new → Aside old new made
  heard_all wrap [] old new made h = nothing old new made h.0 h.1
  heard_all wrap (Noted note ∷ ups) old new made h = heard_all wrap ups old new made h
  heard_all wrap (Came arrival ∷ ups) old new made h =
      aside_then old h.0 new made h.1 h.2
      (heard_if wrap old h.0 h.1 arrival (entity_at old.entities arrival.system) (is_for link steps wrap arrival.unit.to (entity_at old.entities arrival.system)) h.3)
      (heard_all wrap ups h.0 new h.2 h.4) h.5

  delivered : (wrap : ℕ → ℕ → ℕ) (old new : World C) (number system : ℕ) (answer : Picked) (made : List Event)
      → Arrives link steps wrap old (Choose number system answer) (picked_event number system answer) made new → Aside old new made
  delivered wrap old new number system answer made h =
      let rest = heard_all wrap h.ups (record old { carrier = h.below }) new h.later h.hears in
      record {
        honest = rest.honest ∙ chosen old.carrier number system answer h.ups h.below h.passes;
        none = ap asked_in h.made_is ∙ picked_none number system answer (told h.ups ++ h.later) (none_both (told h.ups) h.later (told h.ups ++ h.later) refl (told_none h.ups) rest.none);
      }

  -- ---- ticks

  entity_ticked : (wrap : ℕ → ℕ → ℕ) (system : ℕ) (old : World C) (made : List Event) (new : World C) → TicksEntity link steps wrap system old made new → Aside old new made
  entity_ticked wrap system old made new (NoneDue o m n entity there none made_is becomes) =
      record { honest = ap (λ (w : World C). (link w.carrier).honest) becomes; none = none_asked made made_is }
  entity_ticked wrap system old made new (OneDue o m n entity reference mid here rest there due acts more made_is) =
      aside_then old mid new made here rest (acted old mid system entity.own _ here acts) (entity_ticked wrap system mid rest new more) made_is

  all_ticked : (wrap : ℕ → ℕ → ℕ) (placed : List Placed) (old new : World C) (made : List Event) → TicksAll link steps wrap old placed made new → Aside old new made
  all_ticked wrap [] old new made h = nothing old new made h.0 h.1
  all_ticked wrap (one ∷ placed) old new made h =
      aside_then old h.0 new made h.1 h.2 (entity_ticked wrap one.system old h.1 h.0 h.3) (all_ticked wrap placed h.0 new h.2 h.4) h.5

  ticked : (wrap : ℕ → ℕ → ℕ) (old new : World C) (made : List Event) → Ticks link steps wrap old made new → Aside old new made
  ticked wrap old new made h =
      let rest = all_ticked wrap old.entities (record old { carrier = h.below }) new h.later h.all in
      record {
        honest = rest.honest ∙ (h.passes.gathers.stands.honest ∙ (law old.carrier Tick h.passes.called h.passes.steps_to).honest);
        none = ap asked_in h.made_is ∙ none_both (told h.ups) h.later (told h.ups ++ h.later) refl (told_none h.ups) rest.none;
      }

  settled : (wrap : ℕ → ℕ → ℕ) (count : ℕ) (old : World C) (made : List Event) (new : World C) → Settles link steps wrap count old made new → Aside old new made
  settled wrap count old made new (NoneLeft n o m l fresh made_is same) = record { honest = ap (λ (w : World C). (link w.carrier).honest) same; none = ap asked_in made_is }
  settled wrap count old made new (TooMany n o m l pair fresh most made_is same) = record { honest = ap (λ (w : World C). (link w.carrier).honest) same; none = ap asked_in made_is }
  settled wrap count old made new (OneMore n o m l pair mid here rest fresh low delivers settles made_is) =
      aside_then old mid new made here rest (delivered wrap old mid pair.0 pair.1 picks.Taken here delivers) (settled wrap (count + 1) mid rest new settles) made_is

  -- ---- a raw unit, and an injection

  raw : (old new : C) (system : ℕ) (sender receiver : List ℕ) (wish : Wish) (octets : List ℕ) (made : List Event) → SendsUnit link steps old system sender receiver wish octets made new → Sends old new made
  raw old new system sender receiver wish [] made h = record { honest = ap (λ (c : C). (link c).honest) h.1; none = ap asked_in h.0 }
  raw old new system sender receiver wish (octet ∷ octets) made h = record {
    honest = offered old (raw_unit sender receiver (octet ∷ octets)) wish h.0 h.1 new h.2;
    none = ap asked_in h.3 ∙ sent_none system (raw_address receiver) (octet ∷ octets) h.0 (told h.1) (told_none h.1);
  }

  -- what an injection does, by its answer
  pub record IsInjection (old new : World C) (answer : Injected) (made : List Event) : Type 0 where
    pub taken : answer ≡ injects.Taken → (link new.carrier).honest ≡ false
    pub kept : answer ≢ injects.Taken → AreAlike old.carrier new.carrier
    pub none : asked_in made ≡ []

  pub injected : (wrap : ℕ → ℕ → ℕ) (old new : World C) (lan system : ℕ) (octets : List ℕ) (answer : Injected) (made : List Event)
      → Arrives link steps wrap old (Inject lan system octets answer) (inject_event system answer) made new → IsInjection old new answer made
  injected wrap old new lan system octets answer made h =
      let k = law old.carrier (Inject lan system octets answer) h.passes.called h.passes.steps_to in
      let rest = heard_all wrap h.ups (record old { carrier = h.below }) new h.later h.hears in
      record {
        taken = λ is. rest.honest ∙ (h.passes.gathers.stands.honest ∙ k.injected is);
        kept = λ is. rest.honest ∙ (h.passes.gathers.stands.honest ∙ k.honest is);
        none = ap asked_in h.made_is ∙ inject_none system answer (told h.ups ++ h.later) (none_both (told h.ups) h.later (told h.ups ++ h.later) refl (told_none h.ups) rest.none);
      }

  -- ---- calls

  connected : (old new : World C) (made : List Event) (system : ℕ) (request : ConnectRequest) (h : Connects link steps old system request made new)
      → (reference : ℕ) × Answers old new made (connect_event (length old.ends + 1) system reference h.0.own request ∷ [])
  connected old new made system request h = connect_by old new made system h.0 request (connect_refusal (clock_of link steps old) h.0 request.octets) h.2

  -- a call but an injection
  did_alike : (wrap : ℕ → ℕ → ℕ) (call : WorldCall) (old new : World C) (made : List Event) → InjectsNothing call → Did link steps wrap old call made new → AreAlike old.carrier new.carrier
  did_alike wrap (requests.Connect system request) old new made none h = (connected old new made system request h).1.honest
  did_alike wrap (requests.Ask end call) old new made none h = (called wrap old new made end call h).honest
  did_alike wrap (requests.Raw system sender receiver wish octets) old new made none h =
      ap (λ (w : World C). (link w.carrier).honest) h.2 ∙ (raw old.carrier h.0 system sender receiver wish octets made h.1).honest
  did_alike wrap (requests.Deliver number system answer) old new made none h = (delivered wrap old new number system answer made h).honest
  did_alike wrap (requests.Inject lan system octets answer) old new made none h = absurd none
  did_alike wrap (requests.Restart system) old new made none h = ap (λ (w : World C). (link w.carrier).honest) h.3
  did_alike wrap requests.Pass old new made none h = (ticked wrap old new made h).honest
  did_alike wrap requests.Settle old new made none h = (settled wrap 0 old made new h).honest

  -- the carrier was honest before an injection after which it is, which so was not taken
  pub not_taken : (old new : World C) (answer : Injected) (made : List Event) → IsInjection old new answer made → (link new.carrier).honest ≡ true → answer ≢ injects.Taken
  not_taken old new answer made i honest is = never (sym (i.taken is) ∙ honest)
    where
      never : false ≡ true → ⊥
      never e = cc e

  -- it was honest before a call after which it is
  did_back : (wrap : ℕ → ℕ → ℕ) (call : WorldCall) (old new : World C) (made : List Event) → Did link steps wrap old call made new → (link new.carrier).honest ≡ true → (link old.carrier).honest ≡ true
  did_back wrap (requests.Inject lan system octets answer) old new made h honest =
      let i = injected wrap old new lan system octets answer made h in
      sym (i.kept (not_taken old new answer made i honest)) ∙ honest
  did_back wrap call old new made h honest = sym (did_alike wrap call old new made tt h) ∙ honest

  -- and before calls after which it is
  pub all_did_back : (wrap : ℕ → ℕ → ℕ) (calls : List WorldCall) (first last : World C) (journal : List Event) → DidAll link steps wrap first calls journal last → (link last.carrier).honest ≡ true
      → (link first.carrier).honest ≡ true
  all_did_back wrap [] first last journal h honest = sym (ap (λ (w : World C). (link w.carrier).honest) h.1) ∙ honest
  all_did_back wrap (call ∷ calls) first last journal h honest = did_back wrap call first h.0 h.1 h.3 (all_did_back wrap calls h.0 last h.2 h.5 honest)

  -- it stays honest where nothing is injected
  pub all_did_alike : (wrap : ℕ → ℕ → ℕ) (calls : List WorldCall) (first last : World C) (journal : List Event) → AllByRecursion InjectsNothing calls → DidAll link steps wrap first calls journal last
      → AreAlike first.carrier last.carrier
  all_did_alike wrap [] first last journal none h = ap (λ (w : World C). (link w.carrier).honest) h.1
  all_did_alike wrap (call ∷ calls) first last journal none h = all_did_alike wrap calls h.0 last h.2 none.1 h.5 ∙ did_alike wrap call first h.0 h.1 none.0 h.3

  -- ---- lines

  -- a line but an `inject` line
  pub line_alike : (wrap : ℕ → ℕ → ℕ) (titles : List (List ℕ)) (line : Line) (old new : World C) (made : List Event) → IsNoInjection line → RunsLine link steps wrap titles old line made new
      → AreAlike old.carrier new.carrier
  line_alike wrap titles lines.Nothing old new made none h = ap (λ (w : World C). (link w.carrier).honest) h.1
  line_alike wrap titles (lines.Connect system selector to called_selector options octets) old new made none h = (connected old new made system h.1 h.4.4).1.honest
  line_alike wrap titles (lines.Accept end options octets) old new made none h = (called wrap old new made end _ h).honest
  line_alike wrap titles (lines.Refuse end octets) old new made none h = (called wrap old new made end (asks.Refuse octets) h).honest
  line_alike wrap titles (lines.Disconnect end octets) old new made none h = (called wrap old new made end (asks.Disconnect octets) h).honest
  line_alike wrap titles (lines.Data end octets) old new made none h = (called wrap old new made end (asks.Normal octets) h).honest
  line_alike wrap titles (lines.Expedite end octets) old new made none h = (called wrap old new made end (asks.Urgent octets) h).honest
  line_alike wrap titles (lines.Window end credit) old new made none h = (called wrap old new made end (asks.Window credit) h).honest
  line_alike wrap titles (lines.Unit system to wish octets) old new made none h =
      ap (λ (w : World C). (link w.carrier).honest) h.4.2 ∙ (raw old.carrier h.4.0 system h.0 h.1 wish octets made h.4.1).honest
  line_alike wrap titles lines.Tick old new made none h = (ticked wrap old new made h).honest
  line_alike wrap titles (lines.Deliver number system) old new made none h = (delivered wrap old new number system h.0 made h.1).honest
  line_alike wrap titles lines.Settle old new made none h = (settled wrap 0 old made new h).honest
  line_alike wrap titles (lines.Inject lan system octets) old new made none h = absurd none
  line_alike wrap titles (lines.Restart system) old new made none h = ap (λ (w : World C). (link w.carrier).honest) h.3
  line_alike wrap titles line old new made none h = absurd h

  -- it was honest before a line after which it is
  pub line_back : (wrap : ℕ → ℕ → ℕ) (titles : List (List ℕ)) (line : Line) (old new : World C) (made : List Event) → RunsLine link steps wrap titles old line made new → (link new.carrier).honest ≡ true
      → (link old.carrier).honest ≡ true
  line_back wrap titles (lines.Inject lan system octets) old new made h honest =
      let i = injected wrap old new lan system octets h.0 made h.1 in
      sym (i.kept (not_taken old new h.0 made i honest)) ∙ honest
  line_back wrap titles line old new made h honest = sym (line_alike wrap titles line old new made tt h) ∙ honest

  pub lines_back : (wrap : ℕ → ℕ → ℕ) (titles : List (List ℕ)) (script : List Line) (first last : World C) (journal : List Event) → RunsLines link steps wrap titles first script journal last
      → (link last.carrier).honest ≡ true → (link first.carrier).honest ≡ true
  lines_back wrap titles [] first last journal h honest = sym (ap (λ (w : World C). (link w.carrier).honest) h.1) ∙ honest
  lines_back wrap titles (line ∷ script) first last journal h honest = line_back wrap titles line first h.0 h.1 h.3 (lines_back wrap titles script h.0 last h.2 h.5 honest)

  -- it stays honest where no line is an `inject` line
  pub lines_alike : (wrap : ℕ → ℕ → ℕ) (titles : List (List ℕ)) (script : List Line) (first last : World C) (journal : List Event) → HasNoInject script
      → RunsLines link steps wrap titles first script journal last → AreAlike first.carrier last.carrier
  lines_alike wrap titles [] first last journal none h = ap (λ (w : World C). (link w.carrier).honest) h.1
  lines_alike wrap titles (line ∷ script) first last journal none h =
      lines_alike wrap titles script h.0 last h.2 none.1 h.5 ∙ line_alike wrap titles line first h.0 h.1 none.0 h.3

  -- ---- what lines ask

  line_asked : (wrap : ℕ → ℕ → ℕ) (titles : List (List ℕ)) (line : Line) (old new : World C) (made : List Event) → RunsLine link steps wrap titles old line made new → IsAsked titles line made
  line_asked wrap titles lines.Nothing old new made h = none_asked made h.0
  line_asked wrap titles (lines.Connect system selector to called_selector options octets) old new made h =
      let a = h.4 in
      let c = connected old new made system h.1 a.4 in
      asks_one old new made (connect_event (length old.ends + 1) system c.0 a.4.0.own h.1) _ c.1 refl
      (_, refl, record { title = h.0; title_is = h.2; system_is = refl; called_is = a.1; calling_selector = a.0; called_selector = a.2; octets_are = a.3 })
  line_asked wrap titles (lines.Accept end options octets) old new made h = (answered old new made [] (called wrap old new made end _ h) refl).none
  line_asked wrap titles (lines.Refuse end octets) old new made h = (answered old new made (events.Refuse end octets ∷ []) (called wrap old new made end (asks.Refuse octets) h) refl).none
  line_asked wrap titles (lines.Disconnect end octets) old new made h =
      (answered old new made (events.Disconnect end octets ∷ []) (called wrap old new made end (asks.Disconnect octets) h) refl).none
  line_asked wrap titles (lines.Data end octets) old new made h =
      asks_one old new made (events.Data end octets) (λ event. event ≡ events.Data end octets) (called wrap old new made end (asks.Normal octets) h) refl refl
  line_asked wrap titles (lines.Expedite end octets) old new made h =
      asks_one old new made (events.Expedite end octets) (λ event. event ≡ events.Expedite end octets) (called wrap old new made end (asks.Urgent octets) h) refl refl
  line_asked wrap titles (lines.Window end credit) old new made h = (answered old new made [] (called wrap old new made end (asks.Window credit) h) refl).none
  line_asked wrap titles (lines.Unit system to wish octets) old new made h = (raw old.carrier h.4.0 system h.0 h.1 wish octets made h.4.1).none
  line_asked wrap titles lines.Tick old new made h = (ticked wrap old new made h).none
  line_asked wrap titles (lines.Deliver number system) old new made h = (delivered wrap old new number system h.0 made h.1).none
  line_asked wrap titles lines.Settle old new made h = (settled wrap 0 old made new h).none
  line_asked wrap titles (lines.Inject lan system octets) old new made h = (injected wrap old new lan system octets h.0 made h.1).none
  line_asked wrap titles (lines.Restart system) old new made h = ap asked_in h.2
  line_asked wrap titles line old new made h = absurd h

  pub tells_asked : TellsAsked link steps
  tells_asked wrap titles first [] journal last h = h.0
  tells_asked wrap titles first (line ∷ script) journal last h =
      (h.1, h.2, h.4, line_asked wrap titles line first h.0 h.1 h.3, tells_asked wrap titles h.0 script h.2 last h.5)
