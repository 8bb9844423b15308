-- A line has one list of events and leads to one state: each call of the carrier is asked alike, so it is answered alike and leads to one
-- state; and what an entity does is a function of what it is asked, of its clock and of what came.
use Rattle.std.proofs.Common.{◌≡◌, ℕ, ◌+◌, ◌<◌, ◌⊎◌, Bool, true, false, List, [], ◌∷◌, ◌++◌, Option, Some, None, refl, sym, ◌∙◌, ap, subst, arith, inl, inr}
use Rattle.osi_base.specs.declared.unit.Arrival.{Arrival}
use Rattle.osi_base.specs.declared.unit.Injected.{Injected}
use Rattle.osi_base.specs.declared.unit.Picked.{Picked}
use Rattle.osi_base.specs.declared.unit.Picked.TheVariants.{Taken as WasPicked}
use Rattle.osi_base.specs.declared.unit.Up.{Up}
use Rattle.osi_base.specs.declared.unit.Up.TheVariants.{Unit as Came, Note as Noted}
use Rattle.osi_base.specs.declared.unit.Wish.{Wish}
use Rattle.osi_base.specs.Link.{Link, IsLeastFresh}
use Rattle.osi_base.specs.Calls.{Call, Offer, Choose, Inject, Tick}
use Rattle.tpdu.specs.declared.tpdu.Format.{Format}
use Rattle.tpdu.specs.declared.tpdu.Tpdu.{Tpdu}
use Rattle.tpdu.specs.Writing.{IsWritten}
use Rattle.tp4_flow.specs.declared.step.Sent.{Sent}
use Rattle.tp4_conn.specs.declared.call.ConnectRequest.{ConnectRequest}
use Rattle.tp4_conn.specs.declared.call.UserCall.{UserCall}
use Rattle.tp4_conn.specs.declared.call.UserCall.TheVariants as asks
use Rattle.tp4_entity.specs.declared.refusal.ConnectRefusal.{ConnectRefusal}
use Rattle.tp4_entity.specs.declared.refusal.EntityRefusal.{EntityRefusal}
use Rattle.tp4_entity.specs.Entity.{Entity, Acted}
use Rattle.tp4_entity.specs.References.{least_free}
use Rattle.tp4_entity.specs.Step.{calling, connect_refusal, first_due, ticking, user_refusal, restarted}
use Rattle.tp4_entity.specs.Unit.{TakesUnit}
use Rattle.script_journal.specs.declared.cause.Refused.{Refused}
use Rattle.script_journal.specs.declared.cause.Refused.TheVariants as refusals
use Rattle.script_journal.specs.declared.cause.Settled.TheVariants.{Settled, Stopped}
use Rattle.script_journal.specs.declared.event.Event.{Event}
use Rattle.script_journal.specs.declared.event.Event.TheVariants as events
use Rattle.script_lines.specs.declared.line.Line.{Line}
use Rattle.script_lines.specs.declared.line.Line.TheVariants as lines
use Rattle.law_carrier_answers.specs.Answers.{OneStep, OneGathering, Offering, asked_of}
use Rattle.net_world.specs.Told.{picked_event, told}
use Rattle.net_world.proofs.OneRun.{Same, least_none, least_one, one_pass, one_unit}
use Rattle.tp4_world.proofs.Places.{some_same}
use Rattle.tp4_world.specs.Laws.{OneRun, OneStart}
use Rattle.tp4_world.specs.Run.{Acts, Arrives, BeginsAt, Calls, CallsAt, CallsBy, CallsEnd, Connects, ConnectsBy, Delivers, HearsAll, HearsIf, Injects, IsRefused, NoneDue, NoneLeft, OneDue, OneMore, RunsLine, SendsRaw, SendsTpdu, SendsTpdus, Settles, Starts, Ticks, TicksAll, TicksEntity, TooMany, clock_of, is_for, transport_address, transport_wish}
use Rattle.tp4_world.specs.Ended.{has_ended}
use Rattle.tp4_world.specs.Telling.{call_events, drop_events, ends_after, events_after, inject_event}
use Rattle.tp4_world.specs.World.{World, end_numbered, entity_at, with_entity}
use Rattle.tp4_world.specs.declared.place.EndAt.{EndAt}
use Rattle.tp4_world.specs.declared.place.Placed.{Placed}

-- what is written for a TPDU is one list of octets
abbrev pub OneWriting : Type 0
OneWriting = (format : Format) (sum : Bool) (tpdu : Tpdu) (octets others : List ℕ) → IsWritten format sum tpdu octets → IsWritten format sum tpdu others → octets ≡ others

-- a unit has one outcome
abbrev pub OneHearing : Type 0
OneHearing = (wrap : ℕ → ℕ → ℕ) (now : ℕ) (old : Entity) (from octets : List ℕ) (one other : Acted)
    → TakesUnit wrap now old from octets one → TakesUnit wrap now old from octets other → one ≡ other

module _ {C : Type 0} (link : C → Link (List ℕ)) (steps : C → Call (List ℕ) → C → Type 0) (once : OneStep steps) (gathers : OneGathering link steps) (written : OneWriting) where
  -- ---- what goes out

  one_tpdu : (old : C) (system : ℕ) (own : List ℕ) (sent : Sent) (made other : List Event) (new next : C) → SendsTpdu link steps old system own sent made new
      → SendsTpdu link steps old system own sent other next → Same made other new next
  one_tpdu old system own sent made other new next a b =
      let octets : a.octets ≡ b.octets = written sent.format sent.sum sent.tpdu a.octets b.octets a.written b.written in
      let same = one_pass link steps once gathers old (Offer (record { from = own; to = sent.to; octets = a.octets }) transport_wish a.answer) (Offer (record { from = own; to = sent.to; octets = b.octets }) transport_wish b.answer)
      a.ups b.ups new next (ap (λ (o : List ℕ). Offering (record { from = own; to = sent.to; octets = o }) transport_wish) octets) a.passes b.passes in
      let calls = same.calls in
      let answer : a.answer ≡ b.answer = cc in
      record { events = a.made_is ∙ (λ i. drop_events system (answer i) ++ told (same.ups_are i)) ∙ sym b.made_is; state = same.state }

  one_tpdus : (tpdus : List Sent) (old : C) (system : ℕ) (own : List ℕ) (made other : List Event) (new next : C) → SendsTpdus link steps old system own tpdus made new
      → SendsTpdus link steps old system own tpdus other next → Same made other new next
  one_tpdus [] old system own made other new next a b = record { events = a.0 ∙ sym b.0; state = a.1 ∙ sym b.1 }
  one_tpdus (sent ∷ tpdus) old system own made other new next a b =
      let first = one_tpdu old system own sent a.1 b.1 a.0 b.0 a.3 b.3 in
      let rest = one_tpdus tpdus b.0 system own a.2 b.2 new next (subst (λ (c : C). SendsTpdus link steps c system own tpdus a.2 new) first.state a.4) b.4 in
      record { events = a.5 ∙ (λ i. first.events i ++ rest.events i) ∙ sym b.5; state = rest.state }

  one_act : (old : World C) (system : ℕ) (own : List ℕ) (acted : Acted) (made other : List Event) (new next : World C) → Acts link steps old system own acted made new
      → Acts link steps old system own acted other next → Same made other new next
  one_act old system own acted made other new next a b =
      let sends = one_tpdus acted.tpdus old.carrier system own a.sent b.sent a.below b.below a.sends b.sends in
      record {
        events = a.made_is ∙ ap (λ (xs : List Event). events_after old.ends system own acted.events ++ xs) sends.events ∙ sym b.made_is;
        state = a.becomes
            ∙ ap (λ (c : C). record { carrier = c; entities = with_entity old.entities system acted.entity; ends = ends_after old.ends system acted.events }) sends.state
            ∙ sym b.becomes;
      }

  -- ---- what users ask

  one_refusal : (old : World C) (why : Option Refused) (made other : List Event) (new next : World C) → IsRefused link steps old why made new → IsRefused link steps old why other next → Same made other new next
  one_refusal old None made other new next a b = absurd a
  one_refusal old (Some why) made other new next a b = record { events = a.0 ∙ sym b.0; state = a.1 ∙ sym b.1 }

  -- the same event, and then the same of what an entity does
  one_act_behind : (old : World C) (system : ℕ) (own : List ℕ) (acted : Acted) (front made other later rest : List Event) (new next : World C) → Acts link steps old system own acted later new
      → Acts link steps old system own acted rest next → made ≡ front ++ later → other ≡ front ++ rest → Same made other new next
  one_act_behind old system own acted front made other later rest new next a b e f =
      let same = one_act old system own acted later rest new next a b in
      record { events = e ∙ ap (λ (xs : List Event). front ++ xs) same.events ∙ sym f; state = same.state }

  one_beginning : (old : World C) (system : ℕ) (entity : Entity) (request : ConnectRequest) (found : Option ℕ) (made other : List Event) (new next : World C)
      → BeginsAt link steps old system entity request found made new → BeginsAt link steps old system entity request found other next → Same made other new next
  one_beginning old system entity request None made other new next a b = absurd a
  one_beginning old system entity request (Some reference) made other new next a b =
      one_act_behind _ system entity.own _ (_ ∷ []) made other a.0 b.0 new next a.1 b.1 a.2 b.2

  one_connect_by : (old : World C) (system : ℕ) (entity : Entity) (request : ConnectRequest) (why : Option ConnectRefusal) (made other : List Event) (new next : World C)
      → ConnectsBy link steps old system entity request why made new → ConnectsBy link steps old system entity request why other next → Same made other new next
  one_connect_by old system entity request None made other new next a b = one_beginning old system entity request (least_free (clock_of link steps old) entity) made other new next a b
  one_connect_by old system entity request (Some why) made other new next a b = one_refusal old _ made other new next a b

  pub one_connect : (old : World C) (system : ℕ) (request : ConnectRequest) (made other : List Event) (new next : World C) → Connects link steps old system request made new
      → Connects link steps old system request other next → Same made other new next
  one_connect old system request made other new next a b =
      let same : a.0 ≡ b.0 = some_same a.0 b.0 (sym a.1 ∙ b.1) in
      one_connect_by old system b.0 request (connect_refusal (clock_of link steps old) b.0 request.octets) made other new next
      (subst (λ (e : Entity). ConnectsBy link steps old system e request (connect_refusal (clock_of link steps old) e request.octets) made new) same a.2) b.2

  -- one request that asks for what another one does is that one
  connects_as : (old : World C) (system : ℕ) (request other : ConnectRequest) (made : List Event) (new : World C) → request.from_selector ≡ other.from_selector → request.to ≡ other.to
      → request.to_selector ≡ other.to_selector → request.options ≡ other.options → request.octets ≡ other.octets → Connects link steps old system request made new → Connects link steps old system other made new
  connects_as old system request other made new from to selector options octets h =
      let same : request ≡ other = λ i. record { from_selector = from i; to = to i; to_selector = selector i; options = options i; octets = octets i } in
      subst (λ (c : ConnectRequest). Connects link steps old system c made new) same h

  module _ (wrap : ℕ → ℕ → ℕ) (hearing : OneHearing) where
    one_call_by : (old : World C) (number : ℕ) (end : EndAt) (entity : Entity) (call : UserCall) (why : Option EntityRefusal) (made other : List Event) (new next : World C)
        → CallsBy link steps wrap old number end entity call why made new → CallsBy link steps wrap old number end entity call why other next → Same made other new next
    one_call_by old number end entity call None made other new next a b =
        one_act_behind old end.system entity.own (calling wrap (clock_of link steps old) entity end.reference call) (call_events number call) made other a.0 b.0 new next a.1 b.1 a.2 b.2
    one_call_by old number end entity call (Some why) made other new next a b = one_refusal old _ made other new next a b

    one_call_end : (old : World C) (number : ℕ) (end : EndAt) (entity : Entity) (call : UserCall) (ended : Bool) (made other : List Event) (new next : World C)
        → CallsEnd link steps wrap old number end entity call ended made new → CallsEnd link steps wrap old number end entity call ended other next → Same made other new next
    one_call_end old number end entity call true made other new next a b = one_refusal old (Some refusals.Ended) made other new next a b
    one_call_end old number end entity call false made other new next a b = one_call_by old number end entity call (user_refusal entity end.reference call) made other new next a b

    one_call_at : (old : World C) (number : ℕ) (call : UserCall) (end : Option EndAt) (made other : List Event) (new next : World C)
        → CallsAt link steps wrap old number call end made new → CallsAt link steps wrap old number call end other next → Same made other new next
    one_call_at old number call None made other new next a b = one_refusal old (Some refusals.NoSuchEnd) made other new next a b
    one_call_at old number call (Some end) made other new next a b =
        let same : a.0 ≡ b.0 = some_same a.0 b.0 (sym a.1 ∙ b.1) in
        one_call_end old number end b.0 call (has_ended (clock_of link steps old) old.ends number end b.0) made other new next
        (subst (λ (e : Entity). CallsEnd link steps wrap old number end e call (has_ended (clock_of link steps old) old.ends number end e) made new) same a.2) b.2

    one_call : (old : World C) (number : ℕ) (call : UserCall) (made other : List Event) (new next : World C) → Calls link steps wrap old number call made new
        → Calls link steps wrap old number call other next → Same made other new next
    one_call old number call made other new next a b = one_call_at old number call (end_numbered old.ends number) made other new next a b

    -- ---- what comes up

    one_hears : (old : World C) (arrival : Arrival (List ℕ)) (entity : Option Entity) (fits : Bool) (made other : List Event) (new next : World C)
        → HearsIf link steps wrap old arrival entity fits made new → HearsIf link steps wrap old arrival entity fits other next → Same made other new next
    one_hears old arrival None fits made other new next a b = record { events = a.0 ∙ sym b.0; state = a.1 ∙ sym b.1 }
    one_hears old arrival (Some entity) false made other new next a b = record { events = a.0 ∙ sym b.0; state = a.1 ∙ sym b.1 }
    one_hears old arrival (Some entity) true made other new next a b =
        let same : a.0 ≡ b.0 = hearing wrap (clock_of link steps old) entity arrival.unit.from arrival.unit.octets a.0 b.0 a.1 b.1 in
        one_act old arrival.system entity.own b.0 made other new next (subst (λ (x : Acted). Acts link steps old arrival.system entity.own x made new) same a.2) b.2

    one_hears_all : (ups : List (Up (List ℕ))) (old : World C) (made other : List Event) (new next : World C) → HearsAll link steps wrap old ups made new
        → HearsAll link steps wrap old ups other next → Same made other new next
    one_hears_all [] old made other new next a b = record { events = a.0 ∙ sym b.0; state = a.1 ∙ sym b.1 }
    one_hears_all (Noted note ∷ ups) old made other new next a b = one_hears_all ups old made other new next a b
    one_hears_all (Came arrival ∷ ups) old made other new next a b =
        let first = one_hears old arrival (entity_at old.entities arrival.system) (is_for link steps wrap arrival.unit.to (entity_at old.entities arrival.system)) a.1 b.1 a.0 b.0 a.3 b.3 in
        let rest = one_hears_all ups b.0 a.2 b.2 new next (subst (λ (w : World C). HearsAll link steps wrap w ups a.2 new) first.state a.4) b.4 in
        record { events = a.5 ∙ (λ i. first.events i ++ rest.events i) ∙ sym b.5; state = rest.state }

    one_arrival : (old : World C) (call other_call : Call (List ℕ)) (own other_own : Event) (made other : List Event) (new next : World C) → asked_of call ≡ asked_of other_call
        → (call ≡ other_call → own ≡ other_own) → Arrives link steps wrap old call own made new → Arrives link steps wrap old other_call other_own other next → Same made other new next
    one_arrival old call other_call own other_own made other new next asked line a b =
        let same = one_pass link steps once gathers old.carrier call other_call a.ups b.ups a.below b.below asked a.passes b.passes in
        let there : HearsAll link steps wrap (record old { carrier = b.below }) b.ups a.later new =
        subst (λ (c : C). HearsAll link steps wrap (record old { carrier = c }) b.ups a.later new) same.state
        (subst (λ (us : List (Up (List ℕ))). HearsAll link steps wrap (record old { carrier = a.below }) us a.later new) same.ups_are a.hears) in
        let rest = one_hears_all b.ups (record old { carrier = b.below }) a.later b.later new next there b.hears in
        record { events = a.made_is ∙ (λ i. line same.calls i ∷ (told (same.ups_are i) ++ rest.events i)) ∙ sym b.made_is; state = rest.state }

    one_delivery : (old : World C) (number system : ℕ) (answer other_answer : Picked) (made other : List Event) (new next : World C) → Delivers link steps wrap old number system answer made new
        → Delivers link steps wrap old number system other_answer other next → Same made other new next
    one_delivery old number system answer other_answer made other new next a b =
        one_arrival old (Choose number system answer) (Choose number system other_answer) _ _ made other new next refl
        (λ calls. let same : answer ≡ other_answer = cc in ap (picked_event number system) same) a b

    one_injection : (old : World C) (lan system : ℕ) (octets : List ℕ) (answer other_answer : Injected) (made other : List Event) (new next : World C) → Injects link steps wrap old lan system octets answer made new
        → Injects link steps wrap old lan system octets other_answer other next → Same made other new next
    one_injection old lan system octets answer other_answer made other new next a b =
        one_arrival old (Inject lan system octets answer) (Inject lan system octets other_answer) _ _ made other new next refl
        (λ calls. let same : answer ≡ other_answer = cc in ap (inject_event system) same) a b

    -- ---- ticks

    -- no end is due
    record IsQuiet (system : ℕ) (old : World C) (made : List Event) (new : World C) : Type 0 where
      entity : Entity
      there : entity_at old.entities system ≡ Some entity
      none : first_due (clock_of link steps old) entity ≡ None
      made_is : made ≡ []
      becomes : new ≡ record old { entities = with_entity old.entities system (ticking wrap (clock_of link steps old) entity).entity }

    -- an end is due, and others after it
    record IsDue (system : ℕ) (old : World C) (made : List Event) (new : World C) : Type 0 where
      entity : Entity
      reference : ℕ
      mid : World C
      here : List Event
      rest : List Event
      there : entity_at old.entities system ≡ Some entity
      due : first_due (clock_of link steps old) entity ≡ Some reference
      acts : Acts link steps old system entity.own (ticking wrap (clock_of link steps old) entity) here mid
      others : TicksEntity link steps wrap system mid rest new
      made_is : made ≡ here ++ rest

    by_due : (system : ℕ) (old : World C) (made : List Event) (new : World C) → TicksEntity link steps wrap system old made new → IsQuiet system old made new ⊎ IsDue system old made new
    by_due system old made new (NoneDue o m n entity there none made_is becomes) = inl (record { entity = entity; there = there; none = none; made_is = made_is; becomes = becomes })
    by_due system old made new (OneDue o m n entity reference mid here rest there due acts others made_is) =
        inr (record { entity = entity; reference = reference; mid = mid; here = here; rest = rest; there = there; due = due; acts = acts; others = others; made_is = made_is })

    same_none : (now : ℕ) (entity other : Entity) (reference : ℕ) → entity ≡ other → first_due now entity ≡ None → first_due now other ≡ Some reference → ⊥
    same_none now entity other reference same none due =
        let apart : None ≡ Some reference = sym none ∙ ap (first_due now) same ∙ due in
        absurd cc

    one_quiet : (system : ℕ) (old : World C) (made other : List Event) (new next : World C) → IsQuiet system old made new → IsQuiet system old other next → Same made other new next
    one_quiet system old made other new next a b =
        let same : a.entity ≡ b.entity = some_same a.entity b.entity (sym a.there ∙ b.there) in
        record {
          events = a.made_is ∙ sym b.made_is;
          state = a.becomes ∙ ap (λ (e : Entity). record old { entities = with_entity old.entities system (ticking wrap (clock_of link steps old) e).entity }) same ∙ sym b.becomes;
        }

    one_entity : (system : ℕ) (old : World C) (made : List Event) (new : World C) → TicksEntity link steps wrap system old made new → (other : List Event) (next : World C)
        → TicksEntity link steps wrap system old other next → Same made other new next
    one_entity system old made new (NoneDue o m n entity there none made_is becomes) other next b =
        elim (by_due system old other next b) [
          | inl quiet ↦ one_quiet system old made other new next (record { entity = entity; there = there; none = none; made_is = made_is; becomes = becomes }) quiet
          | inr due ↦ absurd (same_none (clock_of link steps old) entity due.entity due.reference (some_same entity due.entity (sym there ∙ due.there)) none due.due)
        ]
    one_entity system old made new (OneDue o m n entity reference mid here rest there due acts others made_is) other next b =
        elim (by_due system old other next b) [
          | inl quiet ↦ absurd (same_none (clock_of link steps old) quiet.entity entity reference (some_same quiet.entity entity (sym quiet.there ∙ there)) quiet.none due)
          | inr more ↦
              let same : entity ≡ more.entity = some_same entity more.entity (sym there ∙ more.there) in
              let first = one_act old system more.entity.own (ticking wrap (clock_of link steps old) more.entity) here more.here mid more.mid
              (subst (λ (e : Entity). Acts link steps old system e.own (ticking wrap (clock_of link steps old) e) here mid) same acts) more.acts in
              let then = one_entity system mid rest new others more.rest next (subst (λ (w : World C). TicksEntity link steps wrap system w more.rest next) (sym first.state) more.others) in
              record { events = made_is ∙ (λ i. first.events i ++ then.events i) ∙ sym more.made_is; state = then.state }
        ]

    one_tick_all : (placed : List Placed) (old : World C) (made other : List Event) (new next : World C) → TicksAll link steps wrap old placed made new
        → TicksAll link steps wrap old placed other next → Same made other new next
    one_tick_all [] old made other new next a b = record { events = a.0 ∙ sym b.0; state = a.1 ∙ sym b.1 }
    one_tick_all (one ∷ placed) old made other new next a b =
        let first = one_entity one.system old a.1 a.0 a.3 b.1 b.0 b.3 in
        let rest = one_tick_all placed b.0 a.2 b.2 new next (subst (λ (w : World C). TicksAll link steps wrap w placed a.2 new) first.state a.4) b.4 in
        record { events = a.5 ∙ (λ i. first.events i ++ rest.events i) ∙ sym b.5; state = rest.state }

    one_tick : (old : World C) (made other : List Event) (new next : World C) → Ticks link steps wrap old made new → Ticks link steps wrap old other next → Same made other new next
    one_tick old made other new next a b =
        let same = one_pass link steps once gathers old.carrier Tick Tick a.ups b.ups a.below b.below refl a.passes b.passes in
        let rest = one_tick_all old.entities (record old { carrier = b.below }) a.later b.later new next
        (subst (λ (c : C). TicksAll link steps wrap (record old { carrier = c }) old.entities a.later new) same.state a.all) b.all in
        record {
          events = a.made_is ∙ (λ i. events.Tick ((link old.carrier).clock + 1) ∷ (told (same.ups_are i) ++ rest.events i)) ∙ sym b.made_is;
          state = rest.state;
        }

    -- ---- settling

    -- nothing is left
    record IsSettled (count : ℕ) (old : World C) (made : List Event) (new : World C) : Type 0 where
      fresh : IsLeastFresh (link old.carrier) None
      made_is : made ≡ events.Settle (Settled count) ∷ []
      same : new ≡ old

    -- there were as many as there may be
    record IsStopped (count : ℕ) (old : World C) (made : List Event) (new : World C) : Type 0 where
      pair : ℕ × ℕ
      fresh : IsLeastFresh (link old.carrier) (Some pair)
      most : count ≡ 65536
      made_is : made ≡ events.Settle (Stopped count) ∷ []
      same : new ≡ old

    -- one is delivered, and others after it
    record GoesOn (count : ℕ) (old : World C) (made : List Event) (new : World C) : Type 0 where
      pair : ℕ × ℕ
      mid : World C
      here : List Event
      rest : List Event
      fresh : IsLeastFresh (link old.carrier) (Some pair)
      low : count < 65536
      delivers : Delivers link steps wrap old pair.0 pair.1 WasPicked here mid
      settles : Settles link steps wrap (count + 1) mid rest new
      made_is : made ≡ here ++ rest

    by_fresh : (count : ℕ) (old : World C) (made : List Event) (new : World C) → Settles link steps wrap count old made new
        → (IsSettled count old made new ⊎ IsStopped count old made new) ⊎ GoesOn count old made new
    by_fresh count old made new (NoneLeft n o m l fresh made_is same) = inl (inl (record { fresh = fresh; made_is = made_is; same = same }))
    by_fresh count old made new (TooMany n o m l pair fresh most made_is same) = inl (inr (record { pair = pair; fresh = fresh; most = most; made_is = made_is; same = same }))
    by_fresh count old made new (OneMore n o m l pair mid here rest fresh low delivers settles made_is) =
        inr (record { pair = pair; mid = mid; here = here; rest = rest; fresh = fresh; low = low; delivers = delivers; settles = settles; made_is = made_is })

    one_settling : (count : ℕ) (old : World C) (made : List Event) (new : World C) → Settles link steps wrap count old made new → (other : List Event) (next : World C)
        → Settles link steps wrap count old other next → Same made other new next
    one_settling count old made new (NoneLeft n o m l fresh made_is same) other next b =
        elim (by_fresh count old other next b) [
          | inl over ↦ elim over [
            | inl none ↦ record { events = made_is ∙ sym none.made_is; state = same ∙ sym none.same }
            | inr many ↦ absurd (least_none (link old.carrier) many.pair fresh many.fresh)
          ]
          | inr more ↦ absurd (least_none (link old.carrier) more.pair fresh more.fresh)
        ]
    one_settling count old made new (TooMany n o m l pair fresh most made_is same) other next b =
        elim (by_fresh count old other next b) [
          | inl over ↦ elim over [
            | inl none ↦ absurd (least_none (link old.carrier) pair none.fresh fresh)
            | inr many ↦ record { events = made_is ∙ sym many.made_is; state = same ∙ sym many.same }
          ]
          | inr more ↦ let low = more.low in absurd (omega (arith, low, most))
        ]
    one_settling count old made new (OneMore n o m l pair mid here rest fresh low delivers settles made_is) other next b =
        elim (by_fresh count old other next b) [
          | inl over ↦ elim over [
            | inl none ↦ absurd (least_none (link old.carrier) pair none.fresh fresh)
            | inr many ↦ let most = many.most in absurd (omega (arith, low, most))
          ]
          | inr more ↦
              let pairs : pair ≡ more.pair = least_one (link old.carrier) pair more.pair fresh more.fresh in
              let first = one_delivery old more.pair.0 more.pair.1 WasPicked WasPicked here more.here mid more.mid
              (subst (λ (p : ℕ × ℕ). Delivers link steps wrap old p.0 p.1 WasPicked here mid) pairs delivers) more.delivers in
              let then = one_settling (count + 1) mid rest new settles more.rest next (subst (λ (w : World C). Settles link steps wrap (count + 1) w more.rest next) (sym first.state) more.settles) in
              record { events = made_is ∙ (λ i. first.events i ++ then.events i) ∙ sym more.made_is; state = then.state }
        ]

    -- ---- the lines

    one_unit_line : (titles : List (List ℕ)) (old : World C) (system to : ℕ) (wish : Wish) (octets : List ℕ) (made other : List Event) (new next : World C)
        → RunsLine link steps wrap titles old (lines.Unit system to wish octets) made new → RunsLine link steps wrap titles old (lines.Unit system to wish octets) other next → Same made other new next
    one_unit_line titles old system to wish octets made other new next a b =
        let sender : a.0 ≡ b.0 = some_same a.0 b.0 (sym a.2 ∙ b.2) in
        let receiver : a.1 ≡ b.1 = some_same a.1 b.1 (sym a.3 ∙ b.3) in
        let here : SendsRaw link steps old system b.0 b.1 wish octets made new =
        subst (λ (s : List ℕ). SendsRaw link steps old system s b.1 wish octets made new) sender
        (subst (λ (r : List ℕ). SendsRaw link steps old system a.0 r wish octets made new) receiver a.4) in
        let raw = b.4 in
        let same = one_unit link steps once gathers old.carrier system b.0 b.1 wish octets made other here.0 raw.0 here.1 raw.1 in
        record { events = same.events; state = here.2 ∙ ap (λ (c : C). record old { carrier = c }) same.state ∙ sym raw.2 }

    one_connect_line : (titles : List (List ℕ)) (old : World C) (system : ℕ) (selector : List ℕ) (to : ℕ) (called : List ℕ) (options : _) (octets : List ℕ) (made other : List Event) (new next : World C)
        → RunsLine link steps wrap titles old (lines.Connect system selector to called options octets) made new
        → RunsLine link steps wrap titles old (lines.Connect system selector to called options octets) other next → Same made other new next
    one_connect_line titles old system selector to called options octets made other new next a b =
        let receiver : a.0 ≡ b.0 = some_same a.0 b.0 (sym a.2 ∙ b.2) in
        let one = a.4 in
        let two = b.4 in
        one_connect old system b.1 made other new next
        (connects_as old system a.1 b.1 made new (one.0 ∙ sym two.0) (one.1 ∙ ap transport_address receiver ∙ sym two.1) (one.2 ∙ sym two.2) (a.3 ∙ sym b.3) (one.3 ∙ sym two.3) one.4) two.4

    pub one_line : (titles : List (List ℕ)) (old : World C) (line : Line) (made other : List Event) (new next : World C)
        → RunsLine link steps wrap titles old line made new → RunsLine link steps wrap titles old line other next → Same made other new next
    one_line titles old lines.Nothing made other new next a b = record { events = a.0 ∙ sym b.0; state = a.1 ∙ sym b.1 }
    one_line titles old (lines.Connect system selector to called options octets) made other new next a b =
        one_connect_line titles old system selector to called options octets made other new next a b
    one_line titles old (lines.Accept end options octets) made other new next a b = one_call old end _ made other new next a b
    one_line titles old (lines.Refuse end octets) made other new next a b = one_call old end (asks.Refuse octets) made other new next a b
    one_line titles old (lines.Disconnect end octets) made other new next a b = one_call old end (asks.Disconnect octets) made other new next a b
    one_line titles old (lines.Data end octets) made other new next a b = one_call old end (asks.Normal octets) made other new next a b
    one_line titles old (lines.Expedite end octets) made other new next a b = one_call old end (asks.Urgent octets) made other new next a b
    one_line titles old (lines.Window end credit) made other new next a b = one_call old end (asks.Window credit) made other new next a b
    one_line titles old (lines.Unit system to wish octets) made other new next a b = one_unit_line titles old system to wish octets made other new next a b
    one_line titles old lines.Tick made other new next a b = one_tick old made other new next a b
    one_line titles old (lines.Deliver number system) made other new next a b = one_delivery old number system a.0 b.0 made other new next a.1 b.1
    one_line titles old lines.Settle made other new next a b = one_settling 0 old made new a other next b
    one_line titles old (lines.Inject lan system octets) made other new next a b = one_injection old lan system octets a.0 b.0 made other new next a.1 b.1
    one_line titles old (lines.Restart system) made other new next a b =
        let same : a.0 ≡ b.0 = some_same a.0 b.0 (sym a.1 ∙ b.1) in
        record {
          events = a.2 ∙ sym b.2;
          state = a.3 ∙ ap (λ (e : Entity). record old { entities = with_entity old.entities system (restarted (clock_of link steps old) e) }) same ∙ sym b.3;
        }
    one_line titles old line made other new next a b = absurd a

  pub one_begin : (first : C) (placed : List Placed) (made other : List Event) (new next : World C) → Starts link steps first placed made new → Starts link steps first placed other next
      → Same made other new next
  one_begin first placed made other new next a b =
      let up = gathers first a.ups b.ups a.below b.below a.gathers b.gathers in
      record {
        events = a.made_is ∙ ap (λ (us : List (Up (List ℕ))). events.Tick 0 ∷ told us) up.0 ∙ sym b.made_is;
        state = a.becomes ∙ ap (λ (c : C). record { carrier = c; entities = placed; ends = [] }) up.1 ∙ sym b.becomes;
      }

pub one_run : {C : Type 0} (link : C → Link (List ℕ)) (steps : C → Call (List ℕ) → C → Type 0) → (OneStep steps → OneGathering link steps) → OneWriting → OneHearing → OneRun link steps
one_run link steps gathers written hearing once wrap titles old line made other new next a b =
    let same = one_line link steps once (gathers once) written wrap hearing titles old line made other new next a b in
    (same.events, same.state)

pub one_start : {C : Type 0} (link : C → Link (List ℕ)) (steps : C → Call (List ℕ) → C → Type 0) → (OneStep steps → OneGathering link steps) → OneWriting → OneStart link steps
one_start link steps gathers written once first placed made other new next a b =
    let same = one_begin link steps once (gathers once) written first placed made other new next a b in
    (same.events, same.state)
