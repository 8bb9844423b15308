-- By a call of a network the clock does not fall, no unit comes to float that was offered before, and no tick is told that has not come.
use Rattle.std.proofs.Common.{◌≡◌, ◌⊎◌, inl, inr, ℕ, ◌+◌, ◌<◌, ◌≤◌, Bool, true, false, if◌then◌else◌, List, [], ◌∷◌, ◌++◌, length, Option, Some, None, refl, sym, ◌∙◌, ap, subst, arith, Contains}
use Rattle.std.specs.Prelude.{◌==◌}
use Rattle.std.specs.List.{AllByRecursion}
use Rattle.nsap.specs.Address.{selector_of}
use Rattle.osi_base.specs.declared.unit.Arrival.{Arrival}
use Rattle.osi_base.specs.declared.unit.Injected.{Injected}
use Rattle.osi_base.specs.declared.unit.Offered.{Offered}
use Rattle.osi_base.specs.declared.unit.Offered.TheVariants.{Taken as WasTaken, Dropped}
use Rattle.osi_base.specs.declared.unit.Picked.{Picked}
use Rattle.osi_base.specs.declared.unit.Picked.TheVariants.{Taken as WasPicked}
use Rattle.osi_base.specs.declared.unit.Unit.{Unit as CarriedUnit}
use Rattle.osi_base.specs.declared.unit.Up.{Up}
use Rattle.osi_base.specs.declared.unit.Up.TheVariants.{Unit as Came, Note as Noted}
use Rattle.osi_base.specs.declared.unit.Wish.{Wish}
use Rattle.osi_base.specs.Link.{Link}
use Rattle.osi_base.specs.Calls.{Call, Inject, Keeps, Offer, Tick}
use Rattle.script_journal.specs.RawLawful.{clock_after, raw_address}
use Rattle.script_journal.specs.declared.cause.Refused.{Refused}
use Rattle.script_journal.specs.declared.cause.Refused.TheVariants as refusals
use Rattle.script_journal.specs.declared.event.Event.{Event}
use Rattle.script_journal.specs.declared.event.Event.TheVariants as events
use Rattle.net_world.specs.Run.{Passes, SendsUnit}
use Rattle.net_world.specs.Told.{picked_event, sent_event, shown_at, told}
use Rattle.net_world.proofs.Shown.{IsStill, note_still, picked_still, sent_still}
use Rattle.tp4_flow.specs.declared.step.EndEvent.{EndEvent}
use Rattle.tp4_flow.specs.declared.step.Sent.{Sent}
use Rattle.tp4_flow.specs.declared.step.What.{What}
use Rattle.tp4_flow.specs.declared.step.What.TheVariants as whats
use Rattle.tp4_conn.specs.declared.call.ConnectRequest.{ConnectRequest}
use Rattle.tp4_conn.specs.declared.call.UserCall.{UserCall}
use Rattle.tp4_conn.specs.declared.call.UserCall.TheVariants as asks
use Rattle.tp4_entity.specs.declared.refusal.ConnectRefusal.{ConnectRefusal}
use Rattle.tp4_entity.specs.declared.refusal.EntityRefusal.{EntityRefusal}
use Rattle.tp4_entity.specs.Entity.{Acted, Entity}
use Rattle.tp4_entity.specs.References.{least_free}
use Rattle.tp4_entity.specs.Step.{connect_refusal, user_refusal}
use Rattle.tp4_world.proofs.Standing.{inject_still}
use Rattle.tp4_world.specs.Called.{Did, DidAll, WorldCall}
use Rattle.tp4_world.specs.Called as requests
use Rattle.tp4_world.specs.Run.{Acts, BeginsAt, CallsAt, CallsBy, CallsEnd, ConnectsBy, Delivers, HearsAll, HearsIf, Injects, IsRefused, NoneDue, NoneLeft, OneDue, OneMore, SendsTpdus, Settles, Ticks, TicksAll, TicksEntity, TooMany, clock_of, is_for}
use Rattle.tp4_world.specs.Ended.{has_ended}
use Rattle.tp4_world.specs.Telling.{call_events, connect_event, drop_events, ends_with, event_for, events_after, inject_event}
use Rattle.tp4_world.specs.World.{World, end_numbered, entity_at, latest}
use Rattle.tp4_world.specs.declared.place.EndAt.{EndAt}
use Rattle.tp4_world.specs.declared.place.Placed.{Placed}

-- ---- events

-- by the event the clock does not pass c
abbrev pub IsUpTo : ℕ → Event → Type 0
IsUpTo c event = (now : ℕ) → now ≤ c → clock_after now event ≤ c

abbrev pub AreUpTo : ℕ → List Event → Type 0
AreUpTo c made = AllByRecursion (IsUpTo c) made

still_up : (c : ℕ) (event : Event) → IsStill event → IsUpTo c event
still_up c event still now low = subst (λ (n : ℕ). n ≤ c) (sym (still.clock now)) low

pub up_append : (c : ℕ) (xs ys : List Event) → AreUpTo c xs → AreUpTo c ys → AreUpTo c (xs ++ ys)
up_append c [] ys first rest = rest
up_append c (x ∷ xs) ys first rest = (first.0, up_append c xs ys first.1 rest)

up_one : (c more : ℕ) (event : Event) → c ≤ more → IsUpTo c event → IsUpTo more event
up_one c more (events.Tick tick) low is now at = omega (arith, is 0 (omega arith), low)
up_one c more event low is now at = at

pub up_more : (c more : ℕ) (made : List Event) → c ≤ more → AreUpTo c made → AreUpTo more made
up_more c more [] low are = tt
up_more c more (event ∷ made) low are = (up_one c more event low are.0, up_more c more made low are.1)

shown_up : (c system : ℕ) (from octets : List ℕ) (shown : Bool) → AreUpTo c (if shown then events.Unit system from octets ∷ [] else [])
shown_up c system from octets true = (λ now low. low, tt)
shown_up c system from octets false = tt

pub told_up : (c : ℕ) (ups : List (Up (List ℕ))) → AreUpTo c (told ups)
told_up c [] = tt
told_up c (Noted note ∷ ups) = (still_up c _ (note_still note), told_up c ups)
told_up c (Came arrival ∷ ups) =
    up_append c (shown_at arrival.system arrival.unit) (told ups) (shown_up c arrival.system arrival.unit.from arrival.unit.octets (selector_of arrival.unit.to == 2)) (told_up c ups)

drop_up : (c system : ℕ) (answer : Offered) → AreUpTo c (drop_events system answer)
drop_up c system WasTaken = tt
drop_up c system (Dropped cause) = (λ now low. low, tt)

event_up : (c system : ℕ) (own : List ℕ) (number reference : ℕ) (what : What) → IsUpTo c (event_for system own number reference what)
event_up c system own number reference (whats.Incoming from partner calling called options octets) = λ now low. low
event_up c system own number reference other = λ now low. low

events_up : (c : ℕ) (made : List EndEvent) (ends : List EndAt) (system : ℕ) (own : List ℕ) → AreUpTo c (events_after ends system own made)
events_up c [] ends system own = tt
events_up c (one ∷ others) ends system own =
    let next = ends_with ends system one one.what in
    (event_up c system own (latest next system one.reference) one.reference one.what, events_up c others next system own)

call_up : (c number : ℕ) (call : UserCall) → AreUpTo c (call_events number call)
call_up c number (asks.Accept options octets) = tt
call_up c number (asks.Window credit) = tt
call_up c number other = (λ now low. low, tt)

module _ {C : Type 0} (link : C → Link (List ℕ)) (steps : C → Call (List ℕ) → C → Type 0) (law : (old : C) (call : Call (List ℕ)) (new : C) → steps old call new → Keeps (link old) call (link new)) where
  -- so many ticks passed
  pub record SinceBy (by : ℕ) (old : C) (made : List Event) (new : C) : Type 0 where
    pub clock : (link new).clock ≡ (link old).clock + by
    pub grows : (entry : ℕ × CarriedUnit (List ℕ)) → Contains (link new).floating entry → Contains (link old).floating entry ⊎ ((link old).clock ≤ entry.0)
    pub ticks : AreUpTo (link new).clock made

  abbrev pub Since : C → List Event → C → Type 0
  Since old made new = SinceBy 0 old made new

  -- nothing but events that move no clock
  tells : (old new : C) (made these : List Event) → made ≡ these → new ≡ old → AreUpTo (link old).clock these → Since old made new
  tells old new made these is same up =
      subst (λ (c : C). Since old made c) (sym same)
      (subst (λ (xs : List Event). Since old xs old) (sym is) (record { clock = omega arith; grows = λ entry there. inl there; ticks = up }))

  pub stays : (old new : C) (made : List Event) → made ≡ [] → new ≡ old → Since old made new
  stays old new made is same = tells old new made [] is same tt

  then_by : (by more : ℕ) (old mid new : C) (made here rest : List Event) → SinceBy by old here mid → SinceBy more mid rest new → made ≡ here ++ rest → SinceBy (by + more) old made new
  then_by by more old mid new made here rest one two is = record {
    clock = omega (arith, one.clock, two.clock);
    grows = λ entry there. elim (two.grows entry there) [
      | inl before ↦ one.grows entry before
      | inr later ↦ inr (omega (arith, later, one.clock))
    ];
    ticks = subst (AreUpTo (link new).clock) (sym is) (up_append (link new).clock here rest (up_more (link mid).clock (link new).clock here (omega (arith, two.clock)) one.ticks) two.ticks);
  }

  then_since : (old mid new : C) (made here rest : List Event) → Since old here mid → Since mid rest new → made ≡ here ++ rest → Since old made new
  then_since old mid new made here rest one two is = then_by 0 0 old mid new made here rest one two is

  -- these events come first
  led : (old new : C) (made first rest : List Event) → AreUpTo (link old).clock first → Since old rest new → made ≡ first ++ rest → Since old made new
  led old new made first rest up s is = then_since old old new made first rest (tells old old first first refl refl up) s is

  -- ---- the carrier

  -- a call that is no tick
  abbrev ticks_by : Call (List ℕ) → ℕ
  ticks_by Tick = 1
  ticks_by other = 0

  call_clock : (old new : Link (List ℕ)) (call : Call (List ℕ)) → Keeps old call new → new.clock ≡ old.clock + ticks_by call
  call_clock old new (Offer unit wish answer) k = omega (arith, k.clock)
  call_clock old new other k = omega (arith, k.clock)

  call_grows : (old new : Link (List ℕ)) (call : Call (List ℕ)) → Keeps old call new → (entry : ℕ × CarriedUnit (List ℕ)) → Contains new.floating entry → Contains old.floating entry ⊎ (old.clock ≤ entry.0)
  call_grows old new (Offer unit wish answer) k entry there = elim (k.grows entry there) [
    | inl before ↦ inl before
    | inr now ↦ (let at : entry.0 ≡ old.clock = ap (λ (e : ℕ × CarriedUnit (List ℕ)). e.0) now.1 in inr (omega (arith, at)))
  ]
  call_grows old new other k entry there = inl (k.grows entry there)

  pub passed : (old new : C) (call : Call (List ℕ)) (ups : List (Up (List ℕ))) → Passes link steps old call ups new → SinceBy (ticks_by call) old (told ups) new
  passed old new call ups p =
      let k = law old call p.called p.steps_to in
      record {
        clock = p.gathers.stands.clock ∙ call_clock (link old) (link p.called) call k;
        grows = λ entry there. call_grows (link old) (link p.called) call k entry (p.gathers.grows entry there);
        ticks = told_up (link new).clock ups;
      }

  pub sent_all : (tpdus : List Sent) (old new : C) (system : ℕ) (own : List ℕ) (made : List Event) → SendsTpdus link steps old system own tpdus made new → Since old made new
  sent_all [] old new system own made s = stays old new made s.0 s.1
  sent_all (sent ∷ tpdus) old new system own made s =
      let one = s.3 in
      then_since old s.0 new made s.1 s.2
      (led old s.0 s.1 (drop_events system one.answer) (told one.ups) (drop_up (link old).clock system one.answer) (passed old s.0 _ one.ups one.passes) one.made_is)
      (sent_all tpdus s.0 new system own s.2 s.4) s.5

  pub raw_sent : (old new : C) (system : ℕ) (sender receiver octets : List ℕ) (wish : Wish) (made : List Event) → SendsUnit link steps old system sender receiver wish octets made new → Since old made new
  raw_sent old new system sender receiver [] wish made s = tells old new made _ s.0 s.1 (λ now low. low, tt)
  raw_sent old new system sender receiver (octet ∷ octets) wish made s =
      led old new made (sent_event system (raw_address receiver) (octet ∷ octets) s.0 ∷ []) (told s.1)
      (still_up (link old).clock _ (sent_still system (raw_address receiver) (octet ∷ octets) s.0), tt) (passed old new _ s.1 s.2) s.3

  -- ---- the network

  abbrev Goes : World C → List Event → World C → Type 0
  Goes old made new = Since old.carrier made new.carrier

  -- what a call does. What floats after it and was offered at an earlier tick floated before
  pub record CallGoes (old : World C) (made : List Event) (new : World C) : Type 0 where
    pub by : ℕ
    pub since : SinceBy by old.carrier made new.carrier
    pub late : (entry : ℕ × CarriedUnit (List ℕ)) → Contains (link new.carrier).floating entry → (entry.0 < (link new.carrier).clock) → Contains (link old.carrier).floating entry

  still : (old new : World C) (made : List Event) → Goes old made new → CallGoes old made new
  still old new made g = record {
    by = 0;
    since = g;
    late = λ entry there early. elim (g.grows entry there) [ inl before ↦ before | inr now ↦ absurd (omega (arith, now, early, g.clock)) ];
  }

  goes_nowhere : (old new : World C) (made these : List Event) → made ≡ these → new ≡ old → AreUpTo (link old.carrier).clock these → Goes old made new
  goes_nowhere old new made these is same up = tells old.carrier new.carrier made these is (ap (λ (w : World C). w.carrier) same) up

  acted : (old new : World C) (system : ℕ) (own : List ℕ) (did : Acted) (made : List Event) → Acts link steps old system own did made new → Goes old made new
  acted old new system own did made a =
      led old.carrier new.carrier made (events_after old.ends system own did.events) a.sent (events_up (link old.carrier).clock did.events old.ends system own)
      (subst (λ (w : World C). Since old.carrier a.sent w.carrier) (sym a.becomes) (sent_all did.tpdus old.carrier a.below system own a.sent a.sends)) a.made_is

  refused : (old new : World C) (made : List Event) (why : Option Refused) → IsRefused link steps old why made new → Goes old made new
  refused old new made None s = absurd s
  refused old new made (Some why) s = goes_nowhere old new made _ s.0 s.1 (λ now low. low, tt)

  begun : (old new : World C) (made : List Event) (system : ℕ) (entity : Entity) (request : ConnectRequest) (found : Option ℕ) → BeginsAt link steps old system entity request found made new → Goes old made new
  begun old new made system entity request None s = absurd s
  begun old new made system entity request (Some reference) s =
      led old.carrier new.carrier made (connect_event (length old.ends + 1) system reference entity.own request ∷ []) s.0 (λ now low. low, tt)
      (acted (record old { ends = old.ends ++ record { system = system; reference = reference } ∷ [] }) new system entity.own _ s.0 s.1) s.2

  connect_by : (old new : World C) (made : List Event) (system : ℕ) (entity : Entity) (request : ConnectRequest) (why : Option ConnectRefusal) → ConnectsBy link steps old system entity request why made new → Goes old made new
  connect_by old new made system entity request (Some why) s = refused old new made _ s
  connect_by old new made system entity request None s = begun old new made system entity request (least_free (clock_of link steps old) entity) s

  call_by : (wrap : ℕ → ℕ → ℕ) (old new : World C) (made : List Event) (number : ℕ) (end : EndAt) (entity : Entity) (call : UserCall) (why : Option EntityRefusal)
      → CallsBy link steps wrap old number end entity call why made new → Goes old made new
  call_by wrap old new made number end entity call (Some why) s = refused old new made _ s
  call_by wrap old new made number end entity call None s =
      led old.carrier new.carrier made (call_events number call) s.0 (call_up (link old.carrier).clock number call) (acted old new end.system entity.own _ s.0 s.1) s.2

  call_end : (wrap : ℕ → ℕ → ℕ) (old new : World C) (made : List Event) (number : ℕ) (end : EndAt) (entity : Entity) (call : UserCall) (ended : Bool)
      → CallsEnd link steps wrap old number end entity call ended made new → Goes old made new
  call_end wrap old new made number end entity call true s = refused old new made (Some refusals.Ended) s
  call_end wrap old new made number end entity call false s = call_by wrap old new made number end entity call (user_refusal entity end.reference call) s

  call_at : (wrap : ℕ → ℕ → ℕ) (old new : World C) (made : List Event) (number : ℕ) (call : UserCall) (end : Option EndAt) → CallsAt link steps wrap old number call end made new → Goes old made new
  call_at wrap old new made number call None s = refused old new made (Some refusals.NoSuchEnd) s
  call_at wrap old new made number call (Some end) s = call_end wrap old new made number end s.0 call (has_ended (clock_of link steps old) old.ends number end s.0) s.2

  heard_if : (wrap : ℕ → ℕ → ℕ) (old new : World C) (made : List Event) (arrival : Arrival (List ℕ)) (found : Option Entity) (fits : Bool) → HearsIf link steps wrap old arrival found fits made new → Goes old made new
  heard_if wrap old new made arrival None fits s = goes_nowhere old new made [] s.0 s.1 tt
  heard_if wrap old new made arrival (Some entity) false s = goes_nowhere old new made [] s.0 s.1 tt
  heard_if wrap old new made arrival (Some entity) true s = acted old new arrival.system entity.own s.0 made s.2

  heard_all : (wrap : ℕ → ℕ → ℕ) (ups : List (Up (List ℕ))) (old new : World C) (made : List Event) → HearsAll link steps wrap old ups made new → Goes old made new
  heard_all wrap [] old new made s = goes_nowhere old new made [] s.0 s.1 tt
  heard_all wrap (Noted note ∷ ups) old new made s = heard_all wrap ups old new made s
  heard_all wrap (Came arrival ∷ ups) old new made s =
      then_since old.carrier s.0.carrier new.carrier made s.1 s.2
      (heard_if wrap old s.0 s.1 arrival (entity_at old.entities arrival.system) (is_for link steps wrap arrival.unit.to (entity_at old.entities arrival.system)) s.3)
      (heard_all wrap ups s.0 new s.2 s.4) s.5

  delivered : (wrap : ℕ → ℕ → ℕ) (old new : World C) (number system : ℕ) (answer : Picked) (made : List Event) → Delivers link steps wrap old number system answer made new → Goes old made new
  delivered wrap old new number system answer made s =
      led old.carrier new.carrier made (picked_event number system answer ∷ []) (told s.ups ++ s.later) (still_up (link old.carrier).clock _ (picked_still number system answer), tt)
      (then_since old.carrier s.below new.carrier (told s.ups ++ s.later) (told s.ups) s.later (passed old.carrier s.below _ s.ups s.passes)
      (heard_all wrap s.ups (record old { carrier = s.below }) new s.later s.hears) refl) s.made_is

  given : (wrap : ℕ → ℕ → ℕ) (old new : World C) (lan system : ℕ) (octets : List ℕ) (answer : Injected) (made : List Event) → Injects link steps wrap old lan system octets answer made new → Goes old made new
  given wrap old new lan system octets answer made s =
      led old.carrier new.carrier made (inject_event system answer ∷ []) (told s.ups ++ s.later) (still_up (link old.carrier).clock _ (inject_still system answer), tt)
      (then_since old.carrier s.below new.carrier (told s.ups ++ s.later) (told s.ups) s.later (passed old.carrier s.below _ s.ups s.passes)
      (heard_all wrap s.ups (record old { carrier = s.below }) new s.later s.hears) refl) s.made_is

  entity_ticked : (wrap : ℕ → ℕ → ℕ) (system : ℕ) (old : World C) (made : List Event) (new : World C) → TicksEntity link steps wrap system old made new → Goes old made new
  entity_ticked wrap system old made new (NoneDue o m n entity there none made_is becomes) = tells old.carrier new.carrier made [] made_is (ap (λ (w : World C). w.carrier) becomes) tt
  entity_ticked wrap system old made new (OneDue o m n entity reference mid here rest there due acts more made_is) =
      then_since old.carrier mid.carrier new.carrier made here rest (acted old mid system entity.own _ here acts) (entity_ticked wrap system mid rest new more) made_is

  all_ticked : (wrap : ℕ → ℕ → ℕ) (placed : List Placed) (old new : World C) (made : List Event) → TicksAll link steps wrap old placed made new → Goes old made new
  all_ticked wrap [] old new made s = goes_nowhere old new made [] s.0 s.1 tt
  all_ticked wrap (one ∷ placed) old new made s =
      then_since old.carrier s.0.carrier new.carrier made s.1 s.2 (entity_ticked wrap one.system old s.1 s.0 s.3) (all_ticked wrap placed s.0 new s.2 s.4) s.5

  -- the tick is told that the clock comes to
  ticked : (wrap : ℕ → ℕ → ℕ) (old new : World C) (made : List Event) → Ticks link steps wrap old made new → CallGoes old made new
  ticked wrap old new made s =
      let pass : SinceBy 1 old.carrier (told s.ups) s.below = passed old.carrier s.below Tick s.ups s.passes in
      let first : SinceBy 1 old.carrier (events.Tick ((link old.carrier).clock + 1) ∷ told s.ups) s.below =
      record { clock = pass.clock; grows = pass.grows; ticks = (λ now low. omega (arith, pass.clock), pass.ticks) } in
      let rest : Since s.below s.later new.carrier = all_ticked wrap old.entities (record old { carrier = s.below }) new s.later s.all in
      record {
        by = 1;
        since = then_by 1 0 old.carrier s.below new.carrier made (events.Tick ((link old.carrier).clock + 1) ∷ told s.ups) s.later first rest s.made_is;
        late = λ entry there early. elim (rest.grows entry there) [
          | inl before ↦ (law old.carrier Tick s.passes.called s.passes.steps_to).grows entry (s.passes.gathers.grows entry before)
          | inr now ↦ absurd (omega (arith, now, early, rest.clock))
        ];
      }

  settled : (wrap : ℕ → ℕ → ℕ) (count : ℕ) (old : World C) (made : List Event) (new : World C) → Settles link steps wrap count old made new → Goes old made new
  settled wrap count old made new (NoneLeft n o m l fresh made_is same) = goes_nowhere old new made _ made_is same (λ now low. low, tt)
  settled wrap count old made new (TooMany n o m l pair fresh most made_is same) = goes_nowhere old new made _ made_is same (λ now low. low, tt)
  settled wrap count old made new (OneMore n o m l pair mid here rest fresh low delivers settles made_is) =
      then_since old.carrier mid.carrier new.carrier made here rest (delivered wrap old mid pair.0 pair.1 WasPicked here delivers) (settled wrap (count + 1) mid rest new settles) made_is

  pub did_goes : (wrap : ℕ → ℕ → ℕ) (call : WorldCall) (old new : World C) (made : List Event) → Did link steps wrap old call made new → CallGoes old made new
  did_goes wrap (requests.Connect system request) old new made s = still old new made (connect_by old new made system s.0 request (connect_refusal (clock_of link steps old) s.0 request.octets) s.2)
  did_goes wrap (requests.Ask end call) old new made s = still old new made (call_at wrap old new made end call (end_numbered old.ends end) s)
  did_goes wrap (requests.Raw system sender receiver wish octets) old new made s =
      still old new made (subst (λ (w : World C). Since old.carrier made w.carrier) (sym s.2) (raw_sent old.carrier s.0 system sender receiver octets wish made s.1))
  did_goes wrap (requests.Deliver number system answer) old new made s = still old new made (delivered wrap old new number system answer made s)
  did_goes wrap (requests.Inject lan system octets answer) old new made s = still old new made (given wrap old new lan system octets answer made s)
  did_goes wrap (requests.Restart system) old new made s = still old new made (tells old.carrier new.carrier made _ s.2 (ap (λ (w : World C). w.carrier) s.3) (λ now low. low, tt))
  did_goes wrap requests.Pass old new made s = ticked wrap old new made s
  did_goes wrap requests.Settle old new made s = still old new made (settled wrap 0 old made new s)

  pub calls_go : (wrap : ℕ → ℕ → ℕ) (calls : List WorldCall) (first last : World C) (made : List Event)
      → DidAll link steps wrap first calls made last → (by : ℕ) × SinceBy by first.carrier made last.carrier
  calls_go wrap [] first last made s = (0, goes_nowhere first last made [] s.0 s.1 tt)
  calls_go wrap (call ∷ calls) first last made s =
      let one = did_goes wrap call first s.0 s.1 s.3 in
      let others = calls_go wrap calls s.0 last s.2 s.5 in
      (one.by + others.0, then_by one.by others.0 first.carrier s.0.carrier last.carrier made s.1 s.2 one.since others.1 s.4)
