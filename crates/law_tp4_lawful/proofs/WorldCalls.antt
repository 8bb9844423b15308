-- What users ask, and what a call of a network does: the history goes on beside it, and at its end no end is due.
use Rattle.std.proofs.Common.{◌≡◌, ℕ, ◌+◌, ◌≤◌, Bool, true, false, List, [], ◌∷◌, ◌++◌, length, Option, Some, None, refl, sym, ◌∙◌, ap, subst, append_assoc}
use Rattle.std.specs.List.{AllByRecursion}
use Rattle.osi_base.specs.declared.unit.Picked.TheVariants.{Taken as WasPicked}
use Rattle.osi_base.specs.Link.{Link}
use Rattle.osi_base.specs.Calls.{Call, Keeps}
use Rattle.script_journal.specs.declared.cause.Refused.{Refused}
use Rattle.script_journal.specs.declared.cause.Refused.TheVariants as refusals
use Rattle.script_journal.specs.declared.cause.Settled.TheVariants.{Settled, Stopped}
use Rattle.script_journal.specs.declared.event.Event.{Event}
use Rattle.script_journal.specs.declared.event.Event.TheVariants as events
use Rattle.tp4_number.specs.Number.{whole}
use Rattle.tp4_conn.specs.Calls.{IsCall}
use Rattle.tp4_conn.specs.End.{IsSized, IsTimed}
use Rattle.tp4_conn.specs.Proper.{IsProperCall}
use Rattle.tp4_conn.specs.declared.call.ConnectRequest.{ConnectRequest}
use Rattle.tp4_conn.specs.declared.call.UserCall.{UserCall}
use Rattle.tp4_conn.specs.declared.timers.Timers.{Timers}
use Rattle.tp4_entity.specs.declared.refusal.ConnectRefusal.{ConnectRefusal}
use Rattle.tp4_entity.specs.declared.refusal.EntityRefusal.{EntityRefusal}
use Rattle.tp4_entity.specs.Entity.{Entity}
use Rattle.tp4_entity.specs.References.{least_free}
use Rattle.tp4_entity.specs.Silence.{is_silent}
use Rattle.tp4_entity.specs.Step.{call_of, calling, connect_refusal, connecting, user_refusal}
use Rattle.tp4_entity.proofs.Beginning.{audible, short}
use Rattle.law_tp4_history.specs.Tracks.{Whole}
use Rattle.tp4_world.proofs.Lined.{all_did_back, injected, not_taken}
use Rattle.tp4_world.specs.Called.{Did, DidAll, KeepsLimits, WorldCall}
use Rattle.tp4_world.specs.Called as requests
use Rattle.tp4_world.specs.Run.{Acts, BeginsAt, Calls, CallsAt, CallsBy, CallsEnd, Connects, ConnectsBy, IsRefused, NoneLeft, OneMore, Settles, TooMany, clock_of}
use Rattle.tp4_world.specs.Ended.{has_ended}
use Rattle.tp4_world.specs.Telling.{call_events, connect_event}
use Rattle.tp4_world.specs.World.{World, end_numbered, entity_at}
use Rattle.tp4_world.specs.declared.place.EndAt.{EndAt}
use Rattle.law_tp4_lawful.proofs.Along.{AreAtRest, Followed, IsKept, Knowing, Offering, Rests}
use Rattle.law_tp4_lawful.proofs.Worlds.{OneInUnit, Outcomes}
use Rattle.law_tp4_lawful.proofs.WorldActs.{Went, went_aside}
use Rattle.law_tp4_lawful.proofs.WorldAsides.{AreQuiet}
use Rattle.law_tp4_lawful.proofs.WorldFloats.{raw_goes}
use Rattle.law_tp4_lawful.proofs.WorldHears.{Ran, delivered, given_away, ran_nowhere, ran_on, rest_then}
use Rattle.law_tp4_lawful.proofs.WorldTicks.{ticked}
use Rattle.law_tp4_lawful.proofs.WorldRestarts.{restart_goes, restart_rests}

-- a connect call that keeps its limits
pub record IsAsked (request : ConnectRequest) : Type 0 where
  pub size : IsSized request.options
  pub calling : length request.from_selector ≤ 32
  pub called : length request.to_selector ≤ 32

module _ (titles : List (List ℕ)) (timers : Timers) (Knows : Knowing) (Offered : Offering) (kept : IsKept titles timers Knows Offered) (timed : IsTimed timers) {C : Type 0} (link : C → Link (List ℕ)) (steps : C → Call (List ℕ) → C → Type 0)
    (law : (old : C) (call : Call (List ℕ)) (new : C) → steps old call new → Keeps (link old) call (link new))
    (followed : Followed timers Knows Offered) (one : OneInUnit) (Sound : Entity → Type 0) (InTime : ℕ → Entity → Type 0) (outcomes : Outcomes Sound InTime) where
  abbrev Holds : World C → List Event → Type 0
  Holds world journal = Rests timers Knows Offered link Sound journal world

  abbrev Runs : Whole → List Event → World C → Type 0
  Runs w journal new = Ran titles timers Knows Offered kept timed link steps law followed.aside followed.meets one Sound InTime outcomes w journal new

  holds : (w : Whole) (journal : List Event) (new : World C) → Runs w journal new → Holds new journal
  holds w journal new r = record {
    w = r.went.next;
    explains = r.went.explains;
    rest = rest_then titles timers Knows Offered kept timed link steps law followed.aside followed.meets one Sound InTime outcomes w r.went.next new.entities r.went.goes_on r.rest;
  }

  -- nothing happens
  same_holds : (old new : World C) (journal made : List Event) → Holds old journal → made ≡ [] → new ≡ old → Holds new (journal ++ made)
  same_holds old new journal made h none same =
      holds h.w (journal ++ made) new (ran_nowhere titles timers Knows Offered kept timed link steps law followed.aside followed.meets one Sound InTime outcomes h.w journal made old new h.explains h.rest none same)

  -- events that are aside
  told_holds : (old new : World C) (journal made told : List Event) → Holds old journal → AreQuiet told → made ≡ told → new ≡ old → Holds new (journal ++ made)
  told_holds old new journal made told h quiet is same =
      let went : Went titles timers Knows Offered kept link steps law followed.aside h.w (journal ++ told) old =
      went_aside titles timers Knows Offered kept link steps law followed.aside h.w journal told old old h.explains.known h.explains.carries quiet refl in
      let there : Holds old (journal ++ told) = holds h.w (journal ++ told) old (record { went = went; rest = h.rest }) in
      subst (λ (x : World C). Holds x (journal ++ made)) (sym same) (subst (λ (xs : List Event). Holds old (journal ++ xs)) (sym is) there)

  behind : (new : World C) (journal made here rest : List Event) → Holds new ((journal ++ here) ++ rest) → made ≡ here ++ rest → Holds new (journal ++ made)
  behind new journal made here rest h is = subst (λ (xs : List Event). Holds new xs) (append_assoc journal here rest ∙ ap (λ (xs : List Event). journal ++ xs) (sym is)) h

  -- ---- what users ask

  refused : (old new : World C) (journal made : List Event) (why : Option Refused) → Holds old journal → IsRefused link steps old why made new → Holds new (journal ++ made)
  refused old new journal made None h step = absurd step
  refused old new journal made (Some why) h step =
      told_holds old new journal made (events.No why ∷ []) h (record { submits = λ end. refl; shows = λ end. refl; makes = refl }, tt) step.0 step.1

  begun : (old new : World C) (journal made : List Event) (system : ℕ) (entity : Entity) (request : ConnectRequest) (found : Option ℕ) → Holds old journal → entity_at old.entities system ≡ Some entity
      → is_silent (clock_of link steps old) entity ≡ false → IsAsked request → length request.octets ≤ 32 → least_free (clock_of link steps old) entity ≡ found → BeginsAt link steps old system entity request found made new → Holds new (journal ++ made)
  begun old new journal made system entity request None h there still asked octets least step = absurd step
  begun old new journal made system entity request (Some reference) h there still asked octets least step =
      let w : Whole = h.w in
      let now = h.explains.carries.clock in
      let quiet : is_silent w.base.clock entity ≡ false = subst (λ (n : ℕ). is_silent n entity ≡ false) now still in
      let free : least_free w.base.clock entity ≡ Some reference = subst (λ (n : ℕ). least_free n entity ≡ Some reference) now least in
      let event : Event = connect_event (length old.ends + 1) system reference entity.own request in
      let with_end : World C = record old { ends = old.ends ++ record { system = system; reference = reference } ∷ [] } in
      let proper : IsProperCall (call_of entity reference request) = record {
        timers = subst IsTimed (sym ((kept.known w journal old.entities old.ends h.explains.known).holds system entity there).timers_are) timed;
        size = asked.size;
        calling = asked.calling;
        called = asked.called;
        octets = octets;
      } in
      let rest = h.rest system entity there in
      let acts : Acts link steps with_end system entity.own (connecting w.base.clock entity reference request) step.0 new =
      subst (λ (n : ℕ). Acts link steps with_end system entity.own (connecting n entity reference request) step.0 new) now step.1 in
      let ran : Runs w ((journal ++ event ∷ []) ++ step.0) new =
      ran_on titles timers Knows Offered kept timed link steps law followed.aside followed.meets one Sound InTime outcomes w journal (event ∷ []) step.0 with_end new system entity.own (connecting w.base.clock entity reference request)
      h.explains.carries h.rest (followed.connects w journal old.entities old.ends system entity request reference h.explains.known there quiet proper free)
      (outcomes.connecting w.base.clock reference entity request rest.0 rest.1 free proper) acts in
      behind new journal made (event ∷ []) step.0 (holds w ((journal ++ event ∷ []) ++ step.0) new ran) step.2

  connect_by : (old new : World C) (journal made : List Event) (system : ℕ) (entity : Entity) (request : ConnectRequest) (why : Option ConnectRefusal) → Holds old journal
      → entity_at old.entities system ≡ Some entity → IsAsked request → connect_refusal (clock_of link steps old) entity request.octets ≡ why → ConnectsBy link steps old system entity request why made new
      → Holds new (journal ++ made)
  connect_by old new journal made system entity request (Some why) h there asked is step = refused old new journal made _ h step
  connect_by old new journal made system entity request None h there asked is step =
      begun old new journal made system entity request (least_free (clock_of link steps old) entity) h there (audible (clock_of link steps old) entity request.octets is) asked (short (clock_of link steps old) entity request.octets is) refl step

  connected : (old new : World C) (journal made : List Event) (system : ℕ) (request : ConnectRequest) → Holds old journal → IsAsked request → Connects link steps old system request made new → Holds new (journal ++ made)
  connected old new journal made system request h asked step =
      connect_by old new journal made system step.0 request (connect_refusal (clock_of link steps old) step.0 request.octets) h step.1 asked refl step.2

  call_by : (old new : World C) (journal made : List Event) (number : ℕ) (end : EndAt) (entity : Entity) (call : UserCall) (why : Option EntityRefusal) → Holds old journal
      → end_numbered old.ends number ≡ Some end → entity_at old.entities end.system ≡ Some entity → IsCall call → has_ended (clock_of link steps old) old.ends number end entity ≡ false
      → user_refusal entity end.reference call ≡ why → CallsBy link steps whole old number end entity call why made new → Holds new (journal ++ made)
  call_by old new journal made number end entity call (Some why) h numbered there proper ended is step = refused old new journal made _ h step
  call_by old new journal made number end entity call None h numbered there proper ended is step =
      let w : Whole = h.w in
      let now = h.explains.carries.clock in
      let goes : has_ended w.base.clock old.ends number end entity ≡ false = subst (λ (n : ℕ). has_ended n old.ends number end entity ≡ false) now ended in
      let rest = h.rest end.system entity there in
      let acts : Acts link steps old end.system entity.own (calling whole w.base.clock entity end.reference call) step.0 new =
      subst (λ (n : ℕ). Acts link steps old end.system entity.own (calling whole n entity end.reference call) step.0 new) now step.1 in
      let ran : Runs w ((journal ++ call_events number call) ++ step.0) new =
      ran_on titles timers Knows Offered kept timed link steps law followed.aside followed.meets one Sound InTime outcomes w journal (call_events number call) step.0 old new end.system entity.own
      (calling whole w.base.clock entity end.reference call) h.explains.carries h.rest
      (followed.calls w journal old.entities old.ends number end entity call h.explains.known numbered there goes is proper)
      (outcomes.calling w.base.clock end.reference entity call rest.0 rest.1 is proper) acts in
      behind new journal made (call_events number call) step.0 (holds w ((journal ++ call_events number call) ++ step.0) new ran) step.2

  call_end : (old new : World C) (journal made : List Event) (number : ℕ) (end : EndAt) (entity : Entity) (call : UserCall) (ended : Bool) → Holds old journal
      → end_numbered old.ends number ≡ Some end → entity_at old.entities end.system ≡ Some entity → IsCall call → has_ended (clock_of link steps old) old.ends number end entity ≡ ended
      → CallsEnd link steps whole old number end entity call ended made new → Holds new (journal ++ made)
  call_end old new journal made number end entity call true h numbered there proper is step = refused old new journal made (Some refusals.Ended) h step
  call_end old new journal made number end entity call false h numbered there proper is step =
      call_by old new journal made number end entity call (user_refusal entity end.reference call) h numbered there proper is refl step

  call_at : (old new : World C) (journal made : List Event) (number : ℕ) (call : UserCall) (end : Option EndAt) → Holds old journal → end_numbered old.ends number ≡ end → IsCall call
      → CallsAt link steps whole old number call end made new → Holds new (journal ++ made)
  call_at old new journal made number call None h numbered proper step = refused old new journal made (Some refusals.NoSuchEnd) h step
  call_at old new journal made number call (Some end) h numbered proper step =
      call_end old new journal made number end step.0 call (has_ended (clock_of link steps old) old.ends number end step.0) h numbered step.1 proper refl step.2

  called : (old new : World C) (journal made : List Event) (number : ℕ) (call : UserCall) → Holds old journal → IsCall call → Calls link steps whole old number call made new → Holds new (journal ++ made)
  called old new journal made number call h proper step = call_at old new journal made number call (end_numbered old.ends number) h refl proper step

  -- a raw unit
  raw : (old new : World C) (journal made : List Event) (below : C) → Holds old journal → (w : Whole) → Went titles timers Knows Offered kept link steps law followed.aside w (journal ++ made) (record old { carrier = below })
      → AreAtRest Sound w.base.clock old.entities → new ≡ record old { carrier = below } → Holds new (journal ++ made)
  raw old new journal made below h w went rest same =
      subst (λ (x : World C). Holds x (journal ++ made)) (sym same) (holds w (journal ++ made) (record old { carrier = below }) (record { went = went; rest = rest }))

  -- ---- the calls

  settled : (count : ℕ) (old : World C) (made : List Event) (new : World C) → Settles link steps whole count old made new → (journal : List Event) → Holds old journal → Holds new (journal ++ made)
  settled count old made new (NoneLeft n o m l fresh made_is same) journal h =
      told_holds old new journal made (events.Settle (Settled count) ∷ []) h (record { submits = λ end. refl; shows = λ end. refl; makes = refl }, tt) made_is same
  settled count old made new (TooMany n o m l pair fresh most made_is same) journal h =
      told_holds old new journal made (events.Settle (Stopped count) ∷ []) h (record { submits = λ end. refl; shows = λ end. refl; makes = refl }, tt) made_is same
  settled count old made new (OneMore n o m l pair mid here rest fresh low delivers settles made_is) journal h =
      let first : Holds mid (journal ++ here) =
      holds h.w (journal ++ here) mid (delivered titles timers Knows Offered kept timed link steps law followed.aside followed.meets one Sound InTime outcomes h.w old mid journal here pair.0 pair.1 WasPicked h.explains h.rest delivers) in
      behind new journal made here rest (settled (count + 1) mid rest new settles (journal ++ here) first) made_is

  pub did_holds : (call : WorldCall) (old new : World C) (journal made : List Event) → KeepsLimits call → (link new.carrier).honest ≡ true → Holds old journal → Did link steps whole old call made new
      → Holds new (journal ++ made)
  did_holds (requests.Connect system request) old new journal made limits honest h step =
      connected old new journal made system request h (record { size = limits.0; calling = limits.1; called = limits.2 }) step
  did_holds (requests.Ask end call) old new journal made limits honest h step = called old new journal made end call h limits step
  did_holds (requests.Raw system sender receiver wish octets) old new journal made limits honest h step =
      let goes = raw_goes Offered kept.grows timers.life link steps law h.w.base old.carrier step.0 system sender receiver wish octets made h.explains.carries step.1 in
      raw old new journal made step.0 h h.w
      (went_aside titles timers Knows Offered kept link steps law followed.aside h.w journal made old (record old { carrier = step.0 }) h.explains.known goes.0 goes.1 refl) h.rest step.2
  did_holds (requests.Deliver number system answer) old new journal made limits honest h step =
      holds h.w (journal ++ made) new (delivered titles timers Knows Offered kept timed link steps law followed.aside followed.meets one Sound InTime outcomes h.w old new journal made number system answer h.explains h.rest step)
  did_holds (requests.Inject lan system octets answer) old new journal made limits honest h step =
      holds h.w (journal ++ made) new
      (given_away titles timers Knows Offered kept timed link steps law followed.aside followed.meets one Sound InTime outcomes h.w old new journal made lan system octets answer
      (not_taken link steps law old new answer made (injected link steps law whole old new lan system octets answer made step) honest) h.explains h.rest step)
  did_holds (requests.Restart system) old new journal made limits honest h step =
      holds h.w (journal ++ made) new (record {
        went = restart_goes titles timers Knows Offered kept link steps law followed.aside followed.restarts h.w old new journal made system h.explains step;
        rest = restart_rests link steps Sound h.w.base.clock old new made system h.explains.carries.clock h.rest (λ e sound. outcomes.restarting h.w.base.clock e sound) step;
      })
  did_holds requests.Pass old new journal made limits honest h step =
      ticked titles timers Knows Offered kept link steps law followed.aside followed.ticks followed.clock Sound InTime outcomes h.w old new journal made h.explains h.rest step
  did_holds requests.Settle old new journal made limits honest h step = settled 0 old made new step journal h

  pub calls_hold : (calls : List WorldCall) (first last : World C) (journal rest : List Event) → (link last.carrier).honest ≡ true → AllByRecursion KeepsLimits calls → Rests timers Knows Offered link Sound journal first
      → DidAll link steps whole first calls rest last → Rests timers Knows Offered link Sound (journal ++ rest) last
  calls_hold [] first last journal rest honest limits h run = same_holds first last journal rest h run.0 run.1
  calls_hold (call ∷ calls) first last journal rest honest limits h run =
      let here : Holds run.0 (journal ++ run.1) = did_holds call first run.0 journal run.1 limits.0 (all_did_back link steps law whole calls run.0 last run.2 run.5 honest) h run.3 in
      behind last journal rest run.1 run.2 (calls_hold calls run.0 last (journal ++ run.1) run.2 honest limits.1 here run.5) run.4
