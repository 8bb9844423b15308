-- Beside a call of a network a history goes on, and all that was offered in it stays: also past a tick.
use Rattle.std.proofs.Common.{◌≡◌, ℕ, ◌+◌, ◌≤◌, Bool, true, false, List, [], ◌∷◌, ◌++◌, length, Option, Some, None, refl, sym, ◌∙◌, ap, subst, append_assoc, append-nil, Contains}
use Rattle.osi_base.specs.declared.unit.Picked.TheVariants.{Taken as WasPicked}
use Rattle.osi_base.specs.Link.{Link}
use Rattle.osi_base.specs.Calls.{Call, Keeps}
use Rattle.script_journal.specs.declared.cause.Refused.{Refused}
use Rattle.script_journal.specs.declared.cause.Refused.TheVariants as refusals
use Rattle.script_journal.specs.declared.cause.Settled.TheVariants.{Settled, Stopped}
use Rattle.script_journal.specs.declared.event.Event.{Event}
use Rattle.script_journal.specs.declared.event.Event.TheVariants as events
use Rattle.net_world.specs.Told.{told}
use Rattle.tp4_number.specs.Number.{whole}
use Rattle.tp4_conn.specs.Calls.{IsCall}
use Rattle.tp4_conn.specs.End.{IsTimed}
use Rattle.tp4_conn.specs.Proper.{IsProperCall}
use Rattle.tp4_conn.specs.declared.call.ConnectRequest.{ConnectRequest}
use Rattle.tp4_conn.specs.declared.call.UserCall.{UserCall}
use Rattle.tp4_conn.specs.declared.timers.Timers.{Timers}
use Rattle.tp4_entity.specs.declared.refusal.ConnectRefusal.{ConnectRefusal}
use Rattle.tp4_entity.specs.declared.refusal.EntityRefusal.{EntityRefusal}
use Rattle.tp4_entity.specs.Entity.{Entity, at}
use Rattle.tp4_entity.specs.References.{least_free}
use Rattle.tp4_entity.specs.Silence.{is_silent}
use Rattle.tp4_entity.specs.Step.{call_of, calling, connect_refusal, connecting, first_due, ticking, ticking_at, user_refusal}
use Rattle.tp4_entity.proofs.Beginning.{audible, short}
use Rattle.law_tp4_history.specs.Ends.{Offer}
use Rattle.law_tp4_history.specs.History.{Tick as HistoryTick}
use Rattle.law_tp4_history.specs.Tracks.{Nothing, Whole, onward}
use Rattle.law_tp4_history.specs.Moves.{times_of}
use Rattle.tp4_world.proofs.Lined.{injected, not_taken}
use Rattle.tp4_world.specs.Called.{Did, KeepsLimits, WorldCall}
use Rattle.tp4_world.specs.Called as requests
use Rattle.tp4_world.specs.Run.{Acts, BeginsAt, Calls, CallsAt, CallsBy, CallsEnd, ConnectsBy, IsRefused, NoneDue, NoneLeft, OneDue, OneMore, Settles, Ticks, TicksAll, TicksEntity, TooMany, clock_of}
use Rattle.tp4_world.specs.Ended.{has_ended}
use Rattle.tp4_world.specs.Telling.{call_events, connect_event}
use Rattle.tp4_world.specs.World.{World, end_numbered, entity_at, with_entity}
use Rattle.tp4_world.specs.declared.place.EndAt.{EndAt}
use Rattle.tp4_world.specs.declared.place.Placed.{Placed}
use Rattle.law_tp4_lawful.proofs.Known.{IsOffered, Known}
use Rattle.law_tp4_lawful.proofs.Along.{AreAtRest}
use Rattle.law_tp4_lawful.proofs.Worlds.{Explains, Followed, OneInUnit, Outcomes}
use Rattle.law_tp4_lawful.proofs.WorldActs.{Went, went_aside, went_nowhere, went_on, went_then}
use Rattle.law_tp4_lawful.proofs.WorldAsides.{AreQuiet, are_aside, told_quiet}
use Rattle.law_tp4_lawful.proofs.WorldCalls.{IsAsked}
use Rattle.law_tp4_lawful.proofs.WorldFloats.{raw_goes, tick_goes}
use Rattle.law_tp4_lawful.proofs.WorldHears.{Ran, delivered, given_away}
use Rattle.law_tp4_lawful.proofs.WorldKnown.{known_at, plain_grows, plain_kept}
use Rattle.law_tp4_lawful.proofs.WorldRestarts.{restart_goes}

module _ (titles : List (List ℕ)) (timers : Timers) (timed : IsTimed timers) {C : Type 0} (link : C → Link (List ℕ)) (steps : C → Call (List ℕ) → C → Type 0)
    (law : (old : C) (call : Call (List ℕ)) (new : C) → steps old call new → Keeps (link old) call (link new))
    (followed : Followed titles timers) (one : OneInUnit) (Sound : Entity → Type 0) (InTime : ℕ → Entity → Type 0) (outcomes : Outcomes Sound InTime) where
  abbrev Goes : Whole → List Event → World C → Type 0
  Goes w journal new = Went titles timers (Known titles timers) IsOffered (plain_kept titles timers) link steps law followed.aside w journal new

  abbrev Runs : Whole → List Event → World C → Type 0
  Runs w journal new = Ran titles timers (Known titles timers) IsOffered (plain_kept titles timers) timed link steps law followed.aside followed.meets one Sound InTime outcomes w journal new

  -- a history explains what stands then, in which all stays that was offered
  pub record Stays (w : Whole) (journal : List Event) (new : World C) : Type 0 where
    pub next : Whole
    pub keeps : (offer : Offer) → Contains w.base.offers offer → Contains next.base.offers offer
    pub explains : Explains link titles timers next journal new

  went_stays : (w : Whole) (journal : List Event) (new : World C) → Goes w journal new → Stays w journal new
  went_stays w journal new g = record { next = g.next; keeps = g.goes_on.offers; explains = g.explains }

  ran_stays : (w : Whole) (journal : List Event) (new : World C) → Runs w journal new → Stays w journal new
  ran_stays w journal new r = went_stays w journal new r.went

  behind : (w : Whole) (new : World C) (journal made here rest : List Event) → Stays w ((journal ++ here) ++ rest) new → made ≡ here ++ rest → Stays w (journal ++ made) new
  behind w new journal made here rest s is = subst (λ (xs : List Event). Stays w xs new) (append_assoc journal here rest ∙ ap (λ (xs : List Event). journal ++ xs) (sym is)) s

  module _ (w : Whole) (old new : World C) (journal made : List Event) (e : Explains link titles timers w journal old) (rested : AreAtRest Sound w.base.clock old.entities) where
    nowhere : made ≡ [] → new ≡ old → Stays w (journal ++ made) new
    nowhere none same = went_stays w (journal ++ made) new (went_nowhere titles timers (Known titles timers) IsOffered (plain_kept titles timers) link steps law followed.aside w journal made old new e none same)

    told_stays : (these : List Event) → AreQuiet these → made ≡ these → new ≡ old → Stays w (journal ++ made) new
    told_stays these quiet is same =
        subst (λ (x : World C). Stays w (journal ++ made) x) (sym same)
        (subst (λ (xs : List Event). Stays w (journal ++ xs) old) (sym is)
        (went_stays w (journal ++ these) old (went_aside titles timers (Known titles timers) IsOffered (plain_kept titles timers) link steps law followed.aside w journal these old old e.known e.carries quiet refl)))

    refused : (why : Option Refused) → IsRefused link steps old why made new → Stays w (journal ++ made) new
    refused None step = absurd step
    refused (Some why) step = told_stays (events.No why ∷ []) (record { submits = λ end. refl; shows = λ end. refl; makes = refl }, tt) step.0 step.1

    begun : (system : ℕ) (entity : Entity) (request : ConnectRequest) (found : Option ℕ) → entity_at old.entities system ≡ Some entity
        → is_silent (clock_of link steps old) entity ≡ false → IsAsked request → length request.octets ≤ 32 → least_free (clock_of link steps old) entity ≡ found → BeginsAt link steps old system entity request found made new → Stays w (journal ++ made) new
    begun system entity request None there still asked octets least step = absurd step
    begun system entity request (Some reference) there still asked octets least step =
        let now = e.carries.clock in
        let quiet : is_silent w.base.clock entity ≡ false = subst (λ (n : ℕ). is_silent n entity ≡ false) now still in
        let free : least_free w.base.clock entity ≡ Some reference = subst (λ (n : ℕ). least_free n entity ≡ Some reference) now least in
        let event : Event = connect_event (length old.ends + 1) system reference entity.own request in
        let with_end : World C = record old { ends = old.ends ++ record { system = system; reference = reference } ∷ [] } in
        let proper : IsProperCall (call_of entity reference request) = record {
          timers = subst IsTimed (sym (e.known.holds system entity there).timers_are) timed;
          size = asked.size;
          calling = asked.calling;
          called = asked.called;
          octets = octets;
        } in
        let acts : Acts link steps with_end system entity.own (connecting w.base.clock entity reference request) step.0 new =
        subst (λ (n : ℕ). Acts link steps with_end system entity.own (connecting n entity reference request) step.0 new) now step.1 in
        behind w new journal made (event ∷ []) step.0
        (went_stays w ((journal ++ event ∷ []) ++ step.0) new
        (went_on titles timers (Known titles timers) IsOffered (plain_kept titles timers) link steps law followed.aside w journal (event ∷ []) step.0 with_end new system entity.own (connecting w.base.clock entity reference request) e.carries
        (followed.connects w journal old.entities old.ends system entity request reference e.known there quiet proper free) acts)) step.2

    connect_by : (system : ℕ) (entity : Entity) (request : ConnectRequest) (why : Option ConnectRefusal) → entity_at old.entities system ≡ Some entity → IsAsked request
        → connect_refusal (clock_of link steps old) entity request.octets ≡ why → ConnectsBy link steps old system entity request why made new → Stays w (journal ++ made) new
    connect_by system entity request (Some why) there asked is step = refused _ step
    connect_by system entity request None there asked is step = begun system entity request (least_free (clock_of link steps old) entity) there (audible (clock_of link steps old) entity request.octets is) asked (short (clock_of link steps old) entity request.octets is) refl step

    call_by : (number : ℕ) (end : EndAt) (entity : Entity) (call : UserCall) (why : Option EntityRefusal) → end_numbered old.ends number ≡ Some end → entity_at old.entities end.system ≡ Some entity
        → IsCall call → has_ended (clock_of link steps old) old.ends number end entity ≡ false → user_refusal entity end.reference call ≡ why
        → CallsBy link steps whole old number end entity call why made new → Stays w (journal ++ made) new
    call_by number end entity call (Some why) numbered there proper ended is step = refused _ step
    call_by number end entity call None numbered there proper ended is step =
        let now = e.carries.clock in
        let goes : has_ended w.base.clock old.ends number end entity ≡ false = subst (λ (n : ℕ). has_ended n old.ends number end entity ≡ false) now ended in
        let acts : Acts link steps old end.system entity.own (calling whole w.base.clock entity end.reference call) step.0 new =
        subst (λ (n : ℕ). Acts link steps old end.system entity.own (calling whole n entity end.reference call) step.0 new) now step.1 in
        behind w new journal made (call_events number call) step.0
        (went_stays w ((journal ++ call_events number call) ++ step.0) new
        (went_on titles timers (Known titles timers) IsOffered (plain_kept titles timers) link steps law followed.aside w journal (call_events number call) step.0 old new end.system entity.own (calling whole w.base.clock entity end.reference call) e.carries
        (followed.calls w journal old.entities old.ends number end entity call e.known numbered there goes is proper) acts)) step.2

    call_end : (number : ℕ) (end : EndAt) (entity : Entity) (call : UserCall) (ended : Bool) → end_numbered old.ends number ≡ Some end → entity_at old.entities end.system ≡ Some entity
        → IsCall call → has_ended (clock_of link steps old) old.ends number end entity ≡ ended → CallsEnd link steps whole old number end entity call ended made new → Stays w (journal ++ made) new
    call_end number end entity call true numbered there proper is step = refused (Some refusals.Ended) step
    call_end number end entity call false numbered there proper is step = call_by number end entity call (user_refusal entity end.reference call) numbered there proper is refl step

    call_at : (number : ℕ) (call : UserCall) (end : Option EndAt) → end_numbered old.ends number ≡ end → IsCall call → CallsAt link steps whole old number call end made new → Stays w (journal ++ made) new
    call_at number call None numbered proper step = refused (Some refusals.NoSuchEnd) step
    call_at number call (Some end) numbered proper step = call_end number end step.0 call (has_ended (clock_of link steps old) old.ends number end step.0) numbered step.1 proper refl step.2

    called : (number : ℕ) (call : UserCall) → IsCall call → Calls link steps whole old number call made new → Stays w (journal ++ made) new
    called number call proper step = call_at number call (end_numbered old.ends number) refl proper step

  -- ---- settling

  settled : (count : ℕ) (old : World C) (made : List Event) (new : World C) → Settles link steps whole count old made new → (w : Whole) (journal : List Event) → Explains link titles timers w journal old
      → AreAtRest Sound w.base.clock old.entities → Stays w (journal ++ made) new
  settled count old made new (NoneLeft n o m l fresh made_is same) w journal e rested =
      told_stays w old new journal made e rested (events.Settle (Settled count) ∷ []) (record { submits = λ end. refl; shows = λ end. refl; makes = refl }, tt) made_is same
  settled count old made new (TooMany n o m l pair fresh most made_is same) w journal e rested =
      told_stays w old new journal made e rested (events.Settle (Stopped count) ∷ []) (record { submits = λ end. refl; shows = λ end. refl; makes = refl }, tt) made_is same
  settled count old made new (OneMore n o m l pair mid here rest fresh low delivers settles made_is) w journal e rested =
      let first : Runs w (journal ++ here) mid = delivered titles timers (Known titles timers) IsOffered (plain_kept titles timers) timed link steps law followed.aside followed.meets one Sound InTime outcomes w old mid journal here pair.0 pair.1 WasPicked e rested delivers in
      let next : Whole = first.went.next in
      let more : Stays next ((journal ++ here) ++ rest) new =
      settled (count + 1) mid rest new settles next (journal ++ here) first.went.explains (subst (λ (n : ℕ). AreAtRest Sound n mid.entities) (sym first.went.goes_on.clock) first.rest) in
      behind w new journal made here rest (record { next = more.next; keeps = λ offer there. more.keeps offer (first.went.goes_on.offers offer there); explains = more.explains }) made_is

  -- ---- a tick

  entity_ticked : (system : ℕ) (old : World C) (made : List Event) (new : World C) → TicksEntity link steps whole system old made new → (w : Whole) (journal : List Event)
      → Explains link titles timers w journal old → Goes w (journal ++ made) new
  entity_ticked system old made new (NoneDue o m n entity there none made_is becomes) w journal e =
      let after : World C = record old { entities = with_entity old.entities system (at w.base.clock entity) } in
      let explains : Explains link titles timers w journal after = record { known = known_at titles timers w journal old.entities old.ends e.known system entity there; carries = e.carries } in
      let is : (ticking whole (clock_of link steps old) entity).entity ≡ at w.base.clock entity =
      ap (λ (o : Option ℕ). (ticking_at whole (clock_of link steps old) (at (clock_of link steps old) entity) o).entity) none ∙ ap (λ (c : ℕ). at c entity) e.carries.clock in
      went_nowhere titles timers (Known titles timers) IsOffered (plain_kept titles timers) link steps law followed.aside w journal made after new explains made_is (becomes ∙ ap (λ (x : Entity). record old { entities = with_entity old.entities system x }) is)
  entity_ticked system old made new (OneDue o m n entity reference mid here rest there due acts more made_is) w journal e =
      let now : clock_of link steps old ≡ w.base.clock = e.carries.clock in
      let due_now : first_due w.base.clock entity ≡ Some reference = subst (λ (c : ℕ). first_due c entity ≡ Some reference) now due in
      let acts_now : Acts link steps old system entity.own (ticking whole w.base.clock entity) here mid = subst (λ (c : ℕ). Acts link steps old system entity.own (ticking whole c entity) here mid) now acts in
      let first : Goes w (journal ++ here) mid =
      subst (λ (xs : List Event). Goes w (xs ++ here) mid) (append-nil journal)
      (went_on titles timers (Known titles timers) IsOffered (plain_kept titles timers) link steps law followed.aside w journal [] here old mid system entity.own (ticking whole w.base.clock entity) e.carries
      (followed.ticks w journal old.entities old.ends system entity reference e.known there due_now) acts_now) in
      subst (λ (xs : List Event). Goes w xs new) (append_assoc journal here rest ∙ ap (λ (xs : List Event). journal ++ xs) (sym made_is))
      (went_then titles timers (Known titles timers) IsOffered (plain_kept titles timers) link steps law followed.aside w ((journal ++ here) ++ rest) mid new (journal ++ here) first (entity_ticked system mid rest new more first.next (journal ++ here) first.explains))

  all_ticked : (placed : List Placed) (w : Whole) (old new : World C) (journal made : List Event) → Explains link titles timers w journal old → TicksAll link steps whole old placed made new
      → Goes w (journal ++ made) new
  all_ticked [] w old new journal made e step = went_nowhere titles timers (Known titles timers) IsOffered (plain_kept titles timers) link steps law followed.aside w journal made old new e step.0 step.1
  all_ticked (placed ∷ others) w old new journal made e step =
      let first : Goes w (journal ++ step.1) step.0 = entity_ticked placed.system old step.1 step.0 step.3 w journal e in
      subst (λ (xs : List Event). Goes w xs new) (append_assoc journal step.1 step.2 ∙ ap (λ (xs : List Event). journal ++ xs) (sym step.5))
      (went_then titles timers (Known titles timers) IsOffered (plain_kept titles timers) link steps law followed.aside w ((journal ++ step.1) ++ step.2) step.0 new (journal ++ step.1) first (all_ticked others first.next step.0 new (journal ++ step.1) step.2 first.explains step.4))

  ticked : (w : Whole) (old new : World C) (journal made : List Event) → Explains link titles timers w journal old → AreAtRest Sound w.base.clock old.entities → Ticks link steps whole old made new
      → Stays w (journal ++ made) new
  ticked w old new journal made e rested step =
      let front : List Event = events.Tick ((link old.carrier).clock + 1) ∷ told step.ups in
      let next : Whole = onward (times_of timers) w (record { step = HistoryTick; doing = Nothing }) in
      let mid : World C = record old { carrier = step.below } in
      let known : Known titles timers next (journal ++ front) old.entities old.ends =
      followed.clock w journal front old.entities old.ends e.known (λ system x is. (rested system x is).1) (are_aside front (record { submits = λ end. refl; shows = λ end. refl; makes = refl }, told_quiet step.ups)) in
      let explains : Explains link titles timers next (journal ++ front) mid =
      record { known = known; carries = tick_goes IsOffered plain_grows timers.life link steps law w.base next.base old.carrier step.below step.ups e.carries refl (λ offer there. there) step.passes } in
      let all : Goes next ((journal ++ front) ++ step.later) new = all_ticked old.entities next mid new (journal ++ front) step.later explains step.all in
      behind w new journal made front step.later (record { next = all.next; keeps = λ offer there. all.goes_on.offers offer there; explains = all.explains }) step.made_is

  -- ---- the calls

  pub did_stays : (call : WorldCall) (w : Whole) (old new : World C) (journal made : List Event) → KeepsLimits call → (link new.carrier).honest ≡ true → Explains link titles timers w journal old
      → AreAtRest Sound w.base.clock old.entities → Did link steps whole old call made new → Stays w (journal ++ made) new
  did_stays (requests.Connect system request) w old new journal made limits honest e rested step =
      connect_by w old new journal made e rested system step.0 request (connect_refusal (clock_of link steps old) step.0 request.octets) step.1
      (record { size = limits.0; calling = limits.1; called = limits.2 }) refl step.2
  did_stays (requests.Ask end call) w old new journal made limits honest e rested step = called w old new journal made e rested end call limits step
  did_stays (requests.Raw system sender receiver wish octets) w old new journal made limits honest e rested step =
      let goes = raw_goes IsOffered plain_grows timers.life link steps law w.base old.carrier step.0 system sender receiver wish octets made e.carries step.1 in
      subst (λ (x : World C). Stays w (journal ++ made) x) (sym step.2)
      (went_stays w (journal ++ made) (record old { carrier = step.0 })
      (went_aside titles timers (Known titles timers) IsOffered (plain_kept titles timers) link steps law followed.aside w journal made old (record old { carrier = step.0 }) e.known goes.0 goes.1 refl))
  did_stays (requests.Deliver number system answer) w old new journal made limits honest e rested step =
      ran_stays w (journal ++ made) new (delivered titles timers (Known titles timers) IsOffered (plain_kept titles timers) timed link steps law followed.aside followed.meets one Sound InTime outcomes w old new journal made number system answer e rested step)
  did_stays (requests.Inject lan system octets answer) w old new journal made limits honest e rested step =
      ran_stays w (journal ++ made) new
      (given_away titles timers (Known titles timers) IsOffered (plain_kept titles timers) timed link steps law followed.aside followed.meets one Sound InTime outcomes w old new journal made lan system octets answer
      (not_taken link steps law old new answer made (injected link steps law whole old new lan system octets answer made step) honest) e rested step)
  did_stays (requests.Restart system) w old new journal made limits honest e rested step =
      went_stays w (journal ++ made) new (restart_goes titles timers (Known titles timers) IsOffered (plain_kept titles timers) link steps law followed.aside followed.restarts w old new journal made system e step)
  did_stays requests.Pass w old new journal made limits honest e rested step = ticked w old new journal made e rested step
  did_stays requests.Settle w old new journal made limits honest e rested step = settled 0 old made new step w journal e rested
