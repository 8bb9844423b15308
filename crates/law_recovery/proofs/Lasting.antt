-- Lines that are settled and lose nothing, one after another: what is kept by all that happens at once is kept by them.
use Rattle.std.proofs.Common.{◌≡◌, ◌⊎◌, inl, inr, ℕ, ◌+◌, ◌≤◌, Bool, true, false, List, [], ◌∷◌, ◌++◌, length, Option, Some, None, refl, sym, ◌∙◌, ap, subst, append-nil, append_assoc, get_or}
use Rattle.std.specs.Prelude.{slice_get, option_map}
use Rattle.std.specs.List.{AllByRecursion, position}
use Rattle.nsap.proofs.AddressLemmas.{selector_of-append}
use Rattle.nsap.specs.Address.{selector_of, system_part}
use Rattle.osi_base.specs.Calls.{Call, Keeps, Offer, Tick}
use Rattle.osi_base.specs.Link.{IsLeastFresh, Link}
use Rattle.osi_base.specs.declared.unit.Offered.{Offered}
use Rattle.osi_base.specs.declared.unit.Offered.TheVariants.{Taken as WasTaken, Dropped}
use Rattle.osi_base.specs.declared.unit.Picked.TheVariants.{Taken as WasPicked}
use Rattle.osi_base.specs.declared.unit.Unit.{Unit as CarriedUnit}
use Rattle.osi_base.specs.declared.unit.Wish.{Wish}
use Rattle.script_journal.specs.RawLawful.{raw_address}
use Rattle.script_journal.specs.declared.cause.Refused.{Refused}
use Rattle.script_journal.specs.declared.cause.Refused.TheVariants as refusals
use Rattle.script_journal.specs.declared.event.Event.{Event}
use Rattle.script_journal.specs.declared.event.Event.TheVariants as events
use Rattle.script_lines.specs.declared.line.Line.{Line}
use Rattle.script_lines.specs.declared.line.Line.TheVariants as lines
use Rattle.net_world.specs.Fifo.{IsBetween, IsFifo, queued}
use Rattle.net_world.specs.Run.{SendsUnit, raw_unit}
use Rattle.net_world.specs.Told.{sent_event, told}
use Rattle.tpdu.specs.declared.service.Options.{Options}
use Rattle.tp4_number.specs.Number.{whole}
use Rattle.tp4_conn.specs.Calls.{IsCall}
use Rattle.tp4_conn.specs.End.{End, IsSized, IsTimed}
use Rattle.tp4_conn.specs.Proper.{IsProperCall}
use Rattle.tp4_conn.specs.Table.{Called, Ticked, stepped}
use Rattle.tp4_conn.specs.declared.call.ConnectRequest.{ConnectRequest}
use Rattle.tp4_conn.specs.declared.call.UserCall.{UserCall}
use Rattle.tp4_conn.specs.declared.call.UserCall.TheVariants as asks
use Rattle.tp4_conn.specs.declared.timers.Timers.{Timers}
use Rattle.tp4_entity.specs.declared.refusal.ConnectRefusal.{ConnectRefusal}
use Rattle.tp4_entity.specs.declared.refusal.EntityRefusal.{EntityRefusal}
use Rattle.tp4_entity.specs.Entity.{Acted, Entity, at, end_at, moved, there}
use Rattle.tp4_entity.specs.References.{least_free}
use Rattle.tp4_entity.specs.Step.{call_of, calling, calling_end, connect_refusal, connecting, first_due, is_due, ticked_to, ticking, ticking_at, ticking_end, user_refusal}
use Rattle.tp4_entity.proofs.Beginning.{short}
use Rattle.law_tp4_history.specs.History.{Tick as HistoryTick}
use Rattle.law_tp4_history.specs.Journals.{IsAside}
use Rattle.law_tp4_history.specs.Tracks.{Nothing, Whole, onward}
use Rattle.law_tp4_history.specs.Moves.{times_of}
use Rattle.law_tp4_proper.specs.Rest.{AreInTime, AreProper, IsAtRest, IsProperStep, IsProperTick}
use Rattle.law_tp4_proper.proofs.Ends.{calling_rests, connecting_rests, ticking_proper, waits}
use Rattle.law_tp4_pair.specs.CalmScript.{IsSettledScript, Settles as IsSettledNext}
use Rattle.law_tp4_pair.specs.Claim.{IsUndropped}
use Rattle.tp4_world.specs.Called as requests
use Rattle.tp4_world.specs.Run.{Acts, BeginsAt, CallsAt, CallsBy, CallsEnd, ConnectsBy, Delivers, IsRefused, NoneDue, NoneLeft, OneDue, OneMore, RunsLine, RunsLines, Settles, Ticks, TicksAll, TicksEntity, TooMany, clock_of}
use Rattle.tp4_world.specs.Ended.{has_ended}
use Rattle.tp4_world.specs.Telling.{call_events, connect_event, ends_after, told_refusal, events_after}
use Rattle.tp4_world.specs.World.{World, end_numbered, entity_at, with_entity, latest}
use Rattle.tp4_world.specs.declared.place.EndAt.{EndAt}
use Rattle.tp4_world.specs.declared.place.Placed.{Placed}
use Rattle.tp4_world.proofs.Destinations.{ActsFine, calling_fine, connecting_fine, ticking_fine}
use Rattle.tp4_world.proofs.Having.{with_any}
use Rattle.tp4_world.proofs.Lined.{line_alike}
use Rattle.law_tp4_lawful.specs.Limits.{IsProperLine}
use Rattle.law_tp4_lawful.proofs.Known.{IsOffered, Known}
use Rattle.law_tp4_lawful.proofs.Worlds.{Explains, Followed, Rests}
use Rattle.law_tp4_lawful.proofs.WorldActs.{Went, went_nowhere, went_on}
use Rattle.law_tp4_lawful.proofs.WorldAsides.{are_aside, told_quiet, sent_quiet}
use Rattle.law_tp4_lawful.proofs.WorldFloats.{tick_goes}
use Rattle.law_tp4_lawful.proofs.WorldKnown.{plain_kept}
use Rattle.law_tp4_associations.proofs.Lines.{line_went}
use Rattle.law_tp4_associations.proofs.EndedWorlds as ended
use Rattle.law_tp4_associations.proofs.EndedWorlds.{IsFitWorld}
use Rattle.law_calm_run.specs.Run.{HaveEntities, IsUnrouted}
use Rattle.law_calm_run.proofs.Asking.{IsAsked}
use Rattle.law_calm_run.proofs.Going as calm
use Rattle.law_calm_run.proofs.Going.{Acting, acts_go, have_after, kept_after, waiting_after}
use Rattle.law_calm_run.proofs.Hall.{AreWaiting, Hall, IsAddress, Post, after, posted, with_new}
use Rattle.law_calm_run.proofs.Posting.{AreKept, AreUnitsOf, IsHall, IsKept as IsEntityKept}
use Rattle.law_calm_run.proofs.Queueing.{all_parts, none_dropped, raw_behind}
use Rattle.law_calm_run.proofs.Ticking as calm_ticking
use Rattle.law_recovery_run.proofs.Aiming.{Going}
use Rattle.law_recovery_run.proofs.Coming.{StandsSo, delivered, TellsNoUnits}
use Rattle.law_recovery.proofs.Asking.{IsTaker, taker}
use Rattle.tp4_world.specs.Called.{Did, KeepsLimits, WorldCall}
use Rattle.law_tp4_lawful.proofs.WorldCalls.{did_holds}
use Rattle.law_tp4_lawful.proofs.WorldOutcomes.{one_unit, outcomes}
use Rattle.law_tp4_lawful.proofs.WorldSteps.{latest_is}
use Rattle.std.proofs.lemmas.List.Quantifiers.{position-Some}
use Rattle.std.proofs.lemmas.Option.{none-some, same_Some, slice_get-get_or}
use Rattle.tp4_entity.proofs.PlaceLaws.{end_at_of}
use Rattle.law_recovery.proofs.Deeds.{HasReached, IsKept, KeepsHeard, KeepsStill}

-- ---- an end that is due

-- the first end that is due is due
due_is : (now : ℕ) (e : Entity) (reference : ℕ) → first_due now e ≡ Some reference → is_due now (end_at e reference) ≡ true
due_is now e reference = by (position (is_due now) e.ends) refl
  where
    by : (place : Option ℕ) → position (is_due now) e.ends ≡ place → option_map (λ (n : ℕ). n + 1) place ≡ Some reference → is_due now (end_at e reference) ≡ true
    by None at is = absurd (none-some reference is)
    by (Some place) at is =
        let found = position-Some (is_due now) e.ends place None at in
        let here : end_at e (place + 1) ≡ get_or e.ends place None = end_at_of e (place + 1) place refl ∙ ap there (slice_get-get_or e.ends place None found.0) in
        ap (λ (n : ℕ). is_due now (end_at e n)) (sym (same_Some (place + 1) reference is)) ∙ ap (is_due now) here ∙ found.1

due_end : (now : ℕ) (place : Option End) → is_due now place ≡ true → (e : End) × (place ≡ Some e)
due_end now None is = absurd (cc is)
due_end now (Some e) is = (e, refl)

abbrev AreAllInTime : ℕ → List Placed → Type 0
AreAllInTime now placed = (system : ℕ) (e : Entity) → entity_at placed system ≡ Some e → AreInTime now e

in_time_with : (now : ℕ) (placed : List Placed) (system : ℕ) (new : Entity) → AreAllInTime now placed → AreInTime now new → AreAllInTime now (with_entity placed system new)
in_time_with now placed system new all one other e is = elim (with_any placed system other new e is) [
  | inl here ↦ subst (AreInTime now) (sym here.1) one
  | inr before ↦ all other e before
]

behind_lines : (own made later : List Event) → made ≡ own ++ later → AllByRecursion IsUndropped made → AllByRecursion IsUndropped later
behind_lines own made later is all = (all_parts IsUndropped own later (subst (λ (es : List Event). AllByRecursion IsUndropped es) is all)).1

module _ {C : Type 0} (link : C → Link (List ℕ)) (steps : C → Call (List ℕ) → C → Type 0)
    (law : (old : C) (call : Call (List ℕ)) (new : C) → steps old call new → Keeps (link old) call (link new))
    (titles : List (List ℕ)) (Waits : C → List (CarriedUnit (List ℕ)) → Type 0) (fifo : IsFifo link steps titles Waits) (names : List (List ℕ)) (timers : Timers) (going : Going)
    (follow : (titles : List (List ℕ)) (timers : Timers) → Followed titles timers) (timed : IsTimed timers) where
  abbrev So : World C → Hall → List (CarriedUnit (List ℕ)) → Type 0
  So world hall queue = StandsSo link steps law titles Waits fifo world hall queue

  abbrev Resting : List Event → World C → Type 0
  Resting journal world = Rests link AreProper names timers journal world

  none_waits : (hall : Hall) (queue : List (CarriedUnit (List ℕ))) → queue ≡ [] → AreUnitsOf titles queue hall.posts → hall.posts ≡ []
  none_waits hall queue none units = subst (λ (q : List (CarriedUnit (List ℕ))). AreUnitsOf titles q hall.posts) none units

  waiting_of : (world : World C) (hall : Hall) (queue : List (CarriedUnit (List ℕ))) → So world hall queue → AreWaiting (link world.carrier).clock world.entities
  waiting_of world hall queue s system e is =
      subst (λ (n : ℕ). first_due n e ≡ None) (sym s.shows.clock) (s.rest system e (sym (ap (λ (ps : List Placed). entity_at ps system) s.shows.entities) ∙ is))

  -- ---- the history goes on

  pub did_rests : (call : WorldCall) (old new : World C) (journal made : List Event) → KeepsLimits call → (link new.carrier).honest ≡ true → Resting journal old → Did link steps whole old call made new → Resting (journal ++ made) new
  did_rests call old new journal made limits honest r did =
      did_holds names timers (Known names timers) IsOffered (plain_kept names timers) timed link steps law (follow names timers) one_unit AreProper AreInTime outcomes call old new journal made limits honest r did

  pub line_rests : (line : Line) (script : List Line) (old new : World C) (journal made : List Event) → IsSettledScript (line ∷ script) → IsProperLine line → (link new.carrier).honest ≡ true → Resting journal old
      → RunsLine link steps whole titles old line made new → Resting (journal ++ made) new
  line_rests lines.Nothing script old new journal made calm proper honest r step =
      subst (λ (v : World C). Resting (journal ++ made) v) (sym step.1) (subst (λ (es : List Event). Resting es old) (sym (append-nil journal) ∙ ap (λ (es : List Event). journal ++ es) (sym step.0)) r)
  line_rests (lines.Connect system selector to called_selector options octets) script old new journal made calm proper honest r step =
      let asks = step.4 in
      did_rests (requests.Connect system step.1) old new journal made (
        subst (λ (o : Options). IsSized o) (sym step.3) proper.0,
        subst (λ (o : List ℕ). length o ≤ 32) (sym asks.0) proper.1,
        subst (λ (o : List ℕ). length o ≤ 32) (sym asks.2) proper.2,
      ) honest r asks.4
  line_rests (lines.Accept end options octets) script old new journal made calm proper honest r step = did_rests (requests.Ask end (asks.Accept options octets)) old new journal made proper honest r step
  line_rests (lines.Refuse end octets) script old new journal made calm proper honest r step = did_rests (requests.Ask end (asks.Refuse octets)) old new journal made tt honest r step
  line_rests (lines.Disconnect end octets) script old new journal made calm proper honest r step = did_rests (requests.Ask end (asks.Disconnect octets)) old new journal made tt honest r step
  line_rests (lines.Data end octets) script old new journal made calm proper honest r step = did_rests (requests.Ask end (asks.Normal octets)) old new journal made tt honest r step
  line_rests (lines.Expedite end octets) script old new journal made calm proper honest r step = did_rests (requests.Ask end (asks.Urgent octets)) old new journal made tt honest r step
  line_rests (lines.Window end credit) script old new journal made calm proper honest r step = did_rests (requests.Ask end (asks.Window credit)) old new journal made proper honest r step
  line_rests (lines.Unit system to wish octets) script old new journal made calm proper honest r step = did_rests (requests.Raw system step.0 step.1 wish octets) old new journal made tt honest r step.4
  line_rests lines.Tick script old new journal made calm proper honest r step = did_rests requests.Pass old new journal made tt honest r step
  line_rests (lines.Deliver number system) script old new journal made calm proper honest r step = absurd calm
  line_rests lines.Settle script old new journal made calm proper honest r step = did_rests requests.Settle old new journal made tt honest r step
  line_rests (lines.Inject lan system octets) script old new journal made calm proper honest r step = absurd calm
  line_rests (lines.Restart system) script old new journal made calm proper honest r step = absurd calm
  line_rests other script old new journal made calm proper honest r step = absurd step

  -- the carrier is honest still, as no line injects anything
  pub line_honest : (line : Line) (script : List Line) (old new : World C) (made : List Event) → IsSettledScript (line ∷ script) → (link old.carrier).honest ≡ true → RunsLine link steps whole titles old line made new
      → (link new.carrier).honest ≡ true
  line_honest (lines.Inject lan system octets) script old new made calm honest step = absurd calm
  line_honest line script old new made calm honest step = line_alike link steps law whole titles line old new made tt step ∙ honest

  -- ---- a settle, delivery after delivery

  -- the network stands so, and it is kept
  record Reaches (P : List Event → World C → List Post → Type 0) (late : List Event) (mid : World C) : Type 0 where
    hall : Hall
    queue : List (CarriedUnit (List ℕ))
    stands : So mid hall queue
    holds : P late mid hall.posts

  module _ (early : List Event) (P : List Event → World C → List Post → Type 0) (still : KeepsStill link P) (heard : KeepsHeard link names timers early P) where
    hands_over : (old mid : World C) (late made : List Event) (hall : Hall) (queue : List (CarriedUnit (List ℕ))) (pair : ℕ × ℕ) → So old hall queue → IsLeastFresh (link old.carrier) (Some pair)
        → Resting (early ++ late) old → IsFitWorld link old → AllByRecursion IsUndropped made → P late old hall.posts → Delivers link steps whole old pair.0 pair.1 WasPicked made mid → Reaches P (late ++ made) mid
    hands_over old mid late made hall queue pair s fresh r fit all holds d = elim (delivered link steps law titles Waits fifo old mid hall queue made pair s fresh all d) [
      | inl on ↦ record {
        hall = hall;
        queue = on.queue;
        stands = on.stands;
        holds = still late made old mid hall.posts (record { entities = on.entities; ends = on.ends }) on.clock on.none holds;
      }
      | inr come ↦ record {
        hall = after (record hall { posts = come.rest }) come.a.system come.a.acted;
        queue = come.queue;
        stands = come.stands;
        holds = heard r.w late made old mid hall.posts (come.rest ++ posted come.a.system come.a.acted.tpdus) r.explains
            (record { fit = fit; post = come.post; rest = come.rest; posts_are = come.posts_are; acts = come.a; later_is = refl }) holds;
      }
    ]

    pub settle_keeps : (count : ℕ) (old : World C) (made : List Event) (new : World C) → Settles link steps whole count old made new → (late : List Event) (hall : Hall) (queue : List (CarriedUnit (List ℕ)))
        → So old hall queue → Resting (early ++ late) old → IsFitWorld link old → AllByRecursion IsUndropped made → P late old hall.posts → P (late ++ made) new []
    settle_keeps count old made new (NoneLeft n o m l fresh made_is same) late hall queue s r fit all holds =
        subst (P (late ++ made) new) (none_waits hall queue (fifo.none old.carrier queue s.shows.waits fresh) s.shows.units)
        (still late made old new hall.posts (record { entities = ap (λ (v : World C). v.entities) same; ends = ap (λ (v : World C). v.ends) same }) (ap (λ (v : World C). (link v.carrier).clock) same)
        (subst TellsNoUnits (sym made_is) (record { gave = λ k. refl; showed = λ k. refl })) holds)
    settle_keeps count old made new (TooMany n o m l pair fresh most made_is same) late hall queue s r fit all holds = absurd (subst (λ (es : List Event). AllByRecursion IsUndropped es) made_is all).0
    settle_keeps count old made new (OneMore n o m l pair mid here rest fresh low delivers settles made_is) late hall queue s r fit all holds =
        let parts = all_parts IsUndropped here rest (subst (λ (es : List Event). AllByRecursion IsUndropped es) made_is all) in
        let one : Reaches P (late ++ here) mid = hands_over old mid late here hall queue pair s fresh r fit parts.0 holds delivers in
        let honest = line_alike link steps law whole titles (lines.Deliver pair.0 pair.1) old mid here tt (WasPicked, delivers) ∙ r.explains.carries.honest in
        let rests : Resting (early ++ (late ++ here)) mid = subst (λ (es : List Event). Resting es mid) (append_assoc early late here)
        (did_rests (requests.Deliver pair.0 pair.1 WasPicked) old mid (early ++ late) here tt honest r delivers) in
        let fits : IsFitWorld link mid = (ended.delivered link steps law whole old mid here pair.0 pair.1 WasPicked fit delivers).fit in
        subst (λ (es : List Event). P es new []) (append_assoc late here rest ∙ ap (λ (es : List Event). late ++ es) (sym made_is))
        (settle_keeps (count + 1) mid rest new settles (late ++ here) one.hall one.queue one.stands rests fits parts.1 one.holds)

  -- ---- what is kept, line by line

  module _ (early : List Event) (P : List Event → World C → List Post → Type 0) (T : List Event → World C → List Event → World C → List Post → Type 0)
      (kept : IsKept link steps law titles Waits fifo names timers early P T) where
    -- ---- where no entity acts

    still_reaches : (late made : List Event) (old new : World C) (hall : Hall) (queue left : List (CarriedUnit (List ℕ))) → So old hall queue → IsHall link titles Waits new hall left → new.entities ≡ old.entities
        → new.ends ≡ old.ends → (link new.carrier).clock ≡ (link old.carrier).clock → TellsNoUnits made → P late old hall.posts → Reaches P (late ++ made) new
    still_reaches late made old new hall queue left s shows entities ends clock tells holds = record {
      hall = hall;
      queue = left;
      stands = record { shows = shows; kept = s.kept; have = s.have; rest = s.rest };
      holds = kept.still late made old new hall.posts (record { entities = entities; ends = ends }) clock tells holds;
    }

    same_reaches : (late made : List Event) (old new : World C) (hall : Hall) (queue : List (CarriedUnit (List ℕ))) → So old hall queue → new ≡ old → TellsNoUnits made → P late old hall.posts
        → Reaches P (late ++ made) new
    same_reaches late made old new hall queue s same tells holds =
        still_reaches late made old new hall queue queue s (subst (λ (v : World C). IsHall link titles Waits v hall queue) (sym same) s.shows) (ap (λ (v : World C). v.entities) same) (ap (λ (v : World C). v.ends) same)
        (ap (λ (v : World C). (link v.carrier).clock) same) tells holds

    refused_reaches : (late made : List Event) (old new : World C) (hall : Hall) (queue : List (CarriedUnit (List ℕ))) (why : Option Refused) → So old hall queue → IsRefused link steps old why made new
        → P late old hall.posts → Reaches P (late ++ made) new
    refused_reaches late made old new hall queue None s step holds = absurd step
    refused_reaches late made old new hall queue (Some why) s step holds = same_reaches late made old new hall queue s step.1 (subst TellsNoUnits (sym step.0) (record { gave = λ n. refl; showed = λ n. refl })) holds

    -- ---- what users ask, where nothing waits

    module _ (old new : World C) (late made : List Event) (hall : Hall) (queue : List (CarriedUnit (List ℕ))) (s : So old hall queue) (none : queue ≡ []) (r : Resting (early ++ late) old)
        (all : AllByRecursion IsUndropped made) (holds : P late old hall.posts) where
      abbrev now : ℕ
      now = (link old.carrier).clock

      posts : hall.posts ≡ []
      posts = none_waits hall queue none s.shows.units

      held : P late old []
      held = subst (P late old) posts holds

      there_in : (system : ℕ) (entity : Entity) → entity_at old.entities system ≡ Some entity → entity_at hall.entities system ≡ Some entity
      there_in system entity there = sym (ap (λ (ps : List Placed). entity_at ps system) s.shows.entities) ∙ there

      at_rest : (system : ℕ) (entity : Entity) (there : entity_at old.entities system ≡ Some entity) → IsAtRest now entity
      at_rest system entity there = record { proper = (s.kept system entity (there_in system entity there)).proper; idle = waiting_of old hall queue s system entity there }

      taken_reaches : (number : ℕ) (end : EndAt) (entity : Entity) (call : UserCall) → entity_at old.entities end.system ≡ Some entity → has_ended now old.ends number end entity ≡ false
          → user_refusal entity end.reference call ≡ None → IsCall call → (later : List Event) → Acts link steps old end.system entity.own (calling whole now entity end.reference call) later new
          → made ≡ call_events number call ++ later → Reaches P (late ++ made) new
      taken_reaches number end entity call there ended allowed proper later acts made_is = record {
        hall = after hall end.system A;
        queue = a.queue;
        stands = record {
          shows = a.shows;
          kept = kept_after titles hall.entities end.system entity A s.kept (there_in end.system entity there) goes.rest.proper fine;
          have = have_after titles hall.entities end.system A.entity s.have;
          rest = waiting_after link steps law titles Waits fifo hall end.system A s.rest (subst (λ (n : ℕ). first_due n A.entity ≡ None) s.shows.clock goes.rest.idle);
        };
        holds = kept.asks r.w late made old new (hall.posts ++ posted end.system A.tpdus) r.explains (record {
          number = number;
          call = call;
          does = record {
            system = end.system;
            entity = entity;
            there = there;
            reference = end.reference;
            end = k.end;
            stands = k.stands;
            aside = a.does.aside;
            is_aside = a.does.is_aside;
            entities = ap (λ (v : World C). v.entities) acts.becomes ∙ ap (λ (z : Acted). with_entity old.entities end.system z.entity) is;
            ends = ap (λ (v : World C). v.ends) acts.becomes ∙ ap (λ (z : Acted). ends_after old.ends end.system z.events) is;
            clock = a.shows.clock ∙ sym s.shows.clock;
            made_is = made_is ∙ ap (λ (es : List Event). call_events number call ++ es) (a.does.made_is ∙ (λ i. events_after (sym s.shows.ends i) end.system entity.own (is i).events ++ a.does.aside));
            later_is = λ i. posts i ++ posted end.system (is i).tpdus;
          };
          number_is = latest_is (latest old.ends end.system end.reference) number _ ended;
          allowed = k.allowed;
          proper = proper;
        }) held;
      }
        where
          A : Acted
          A = calling whole now entity end.reference call

          k : IsTaker entity end.reference call
          k = taker entity end.reference call allowed

          is : A ≡ moved (at now entity) end.reference (stepped whole now k.end (Called call))
          is = ap (calling_end whole now (at now entity) end.reference call) k.stands

          was : IsEntityKept titles end.system entity
          was = s.kept end.system entity (there_in end.system entity there)

          goes : IsProperStep now A
          goes = calling_rests whole now end.reference entity call (at_rest end.system entity there) allowed proper

          fine : ActsFine (IsAddress titles) entity.own A
          fine = calling_fine (IsAddress titles) whole now entity end.reference call was.ends

          a : Acting link steps law titles Waits fifo hall end.system entity.own A later new
          a = acts_go link steps law titles Waits fifo old new hall queue end.system was.title entity.own A later s.shows was.title_is was.own fine goes.tpdus (behind_lines (call_events number call) made later made_is all) acts

      call_by : (number : ℕ) (end : EndAt) (entity : Entity) (call : UserCall) (why : Option EntityRefusal) → entity_at old.entities end.system ≡ Some entity → IsCall call
          → has_ended now old.ends number end entity ≡ false → user_refusal entity end.reference call ≡ why → CallsBy link steps whole old number end entity call why made new → Reaches P (late ++ made) new
      call_by number end entity call (Some why) there proper ended is step = refused_reaches late made old new hall queue (told_refusal why) s step holds
      call_by number end entity call None there proper ended is step = taken_reaches number end entity call there ended is proper step.0 step.1 step.2

      call_end : (number : ℕ) (end : EndAt) (entity : Entity) (call : UserCall) (ended : Bool) → entity_at old.entities end.system ≡ Some entity → IsCall call → has_ended now old.ends number end entity ≡ ended
          → CallsEnd link steps whole old number end entity call ended made new → Reaches P (late ++ made) new
      call_end number end entity call true there proper is step = refused_reaches late made old new hall queue (Some refusals.Ended) s step holds
      call_end number end entity call false there proper is step = call_by number end entity call (user_refusal entity end.reference call) there proper is refl step

      call_at : (number : ℕ) (call : UserCall) (end : Option EndAt) → IsCall call → CallsAt link steps whole old number call end made new → Reaches P (late ++ made) new
      call_at number call None proper step = refused_reaches late made old new hall queue (Some refusals.NoSuchEnd) s step holds
      call_at number call (Some end) proper step = call_end number end step.0 call (has_ended now old.ends number end step.0) step.1 proper refl step.2

      -- a connect
      begun_reaches : (system : ℕ) (entity : Entity) (request : ConnectRequest) (reference : ℕ) → entity_at old.entities system ≡ Some entity → IsAsked titles request → length request.octets ≤ 32
          → least_free now entity ≡ Some reference → BeginsAt link steps old system entity request (Some reference) made new → Reaches P (late ++ made) new
      begun_reaches system entity request reference there asked octets free step = record {
        hall = after begun_hall system A;
        queue = a.queue;
        stands = record {
          shows = a.shows;
          kept = kept_after titles hall.entities system entity A s.kept (there_in system entity there) goes.rest.proper fine;
          have = have_after titles hall.entities system A.entity s.have;
          rest = waiting_after link steps law titles Waits fifo hall system A s.rest (subst (λ (n : ℕ). first_due n A.entity ≡ None) s.shows.clock goes.rest.idle);
        };
        holds = kept.begins r.w late made old new (hall.posts ++ posted system A.tpdus) r.explains (record {
          system = system;
          entity = entity;
          there = there;
          request = request;
          reference = reference;
          free = free;
          aside = a.does.aside;
          is_aside = a.does.is_aside;
          entities = ap (λ (v : World C). v.entities) step.1.becomes;
          ends = ap (λ (v : World C). v.ends) step.1.becomes;
          clock = a.shows.clock ∙ sym s.shows.clock;
          made_is = step.2 ∙ ap (λ (es : List Event). event ∷ es) a.does.made_is;
          later_is = λ i. posts i ++ posted system A.tpdus;
        }) held;
      }
        where
          place : List EndAt
          place = record { system = system; reference = reference } ∷ []

          event : Event
          event = connect_event (length old.ends + 1) system reference entity.own request

          begun_hall : Hall
          begun_hall = with_new hall system reference

          begins : World C
          begins = record old { ends = old.ends ++ place }

          A : Acted
          A = connecting now entity reference request

          was : IsEntityKept titles system entity
          was = s.kept system entity (there_in system entity there)

          proper : IsProperCall (call_of entity reference request)
          proper = record { timers = was.proper.timers; size = asked.size; calling = asked.calling; called = asked.called; octets = octets }

          goes : IsProperStep now A
          goes = connecting_rests now reference entity request (at_rest system entity there) free proper

          fine : ActsFine (IsAddress titles) entity.own A
          fine = connecting_fine (IsAddress titles) now entity reference request was.ends asked.address

          shows : IsHall link titles Waits begins begun_hall queue
          shows = record { clock = s.shows.clock; entities = s.shows.entities; ends = ap (λ (es : List EndAt). es ++ place) s.shows.ends; waits = s.shows.waits; units = s.shows.units }

          a : Acting link steps law titles Waits fifo begun_hall system entity.own A step.0 new
          a = acts_go link steps law titles Waits fifo begins new begun_hall queue system was.title entity.own A step.0 shows was.title_is was.own fine goes.tpdus (behind_lines (event ∷ []) made step.0 step.2 all) step.1

      begun : (system : ℕ) (entity : Entity) (request : ConnectRequest) (found : Option ℕ) → entity_at old.entities system ≡ Some entity → IsAsked titles request → length request.octets ≤ 32
          → least_free now entity ≡ found → BeginsAt link steps old system entity request found made new → Reaches P (late ++ made) new
      begun system entity request None there asked octets least step = absurd step
      begun system entity request (Some reference) there asked octets least step = begun_reaches system entity request reference there asked octets least step

      connect_by : (system : ℕ) (entity : Entity) (request : ConnectRequest) (why : Option ConnectRefusal) → entity_at old.entities system ≡ Some entity → IsAsked titles request
          → connect_refusal now entity request.octets ≡ why → ConnectsBy link steps old system entity request why made new → Reaches P (late ++ made) new
      connect_by system entity request (Some why) there asked is step = refused_reaches late made old new hall queue _ s step holds
      connect_by system entity request None there asked is step = begun system entity request (least_free now entity) there asked (short now entity request.octets is) refl step

      -- a raw unit
      raw_queued : (unit : CarriedUnit (List ℕ)) (answer : Offered) → selector_of unit.to ≡ 2 → AreUnitsOf titles (queued queue unit answer) hall.posts
      raw_queued unit WasTaken raw = raw_behind titles queue hall.posts unit s.shows.units raw
      raw_queued unit (Dropped cause) raw = s.shows.units

      raw_reaches : (system to : ℕ) (sender receiver : List ℕ) (wish : Wish) (octets : List ℕ) (below : C) → slice_get titles system ≡ Some sender → slice_get titles to ≡ Some receiver → wish.path ≡ 0
          → SendsUnit link steps old.carrier system sender receiver wish octets made below → new ≡ record old { carrier = below } → Reaches P (late ++ made) new
      raw_reaches system to sender receiver wish [] below title_is to_is path step becomes =
          same_reaches late made old new hall queue s (becomes ∙ ap (λ (c : C). record old { carrier = c }) step.1) (subst TellsNoUnits (sym step.0) (record { gave = λ n. refl; showed = λ n. refl })) holds
      raw_reaches system to sender receiver wish (octet ∷ octets) below title_is to_is path step becomes =
          let unit : CarriedUnit (List ℕ) = raw_unit sender receiver (octet ∷ octets) in
          let event : Event = sent_event system (raw_address receiver) (octet ∷ octets) step.0 in
          let between : IsBetween titles unit = record {
            sender = system;
            receiver = to;
            from = record { title = sender; title_is = title_is; selector = 2; known = inr refl; address_is = refl };
            to = record { title = receiver; title_is = to_is; selector = 2; known = inr refl; address_is = refl };
          } in
          let goes = fifo.offered old.carrier below queue unit wish step.0 step.1 s.shows.waits between path step.2 (none_dropped step.1 (behind_lines (event ∷ []) made (told step.1) step.3 all)) in
          let clock : (link below).clock ≡ (link old.carrier).clock = step.2.gathers.stands.clock ∙ (law old.carrier (Offer unit wish step.0) step.2.called step.2.steps_to).clock in
          let shows : IsHall link titles Waits (record old { carrier = below }) hall (queued queue unit step.0) = record {
            clock = clock ∙ s.shows.clock;
            entities = s.shows.entities;
            ends = s.shows.ends;
            waits = goes.1;
            units = raw_queued unit step.0 (selector_of-append (system_part receiver) 2);
          } in
          let aside = are_aside (event ∷ told step.1) (sent_quiet system (raw_address receiver) (octet ∷ octets) step.0, told_quiet step.1) in
          still_reaches late made old new hall queue (queued queue unit step.0) s (subst (λ (v : World C). IsHall link titles Waits v hall (queued queue unit step.0)) (sym becomes) shows)
          (ap (λ (v : World C). v.entities) becomes) (ap (λ (v : World C). v.ends) becomes) (ap (λ (v : World C). (link v.carrier).clock) becomes ∙ clock)
          (subst TellsNoUnits (sym step.3) (record { gave = λ n. (aside.units n).0; showed = λ n. (aside.units n).1 })) holds

    -- ---- a tick

    -- within a tick, that began behind these lines in this network
    record InTick (before : List Event) (start : World C) (late : List Event) (world : World C) : Type 0 where
      w : Whole
      explains : Explains link names timers w (early ++ late) world
      hall : Hall
      queue : List (CarriedUnit (List ℕ))
      shows : IsHall link titles Waits world hall queue
      fine : AreKept titles hall.entities
      in_time : AreAllInTime hall.clock hall.entities
      holds : T before start late world hall.posts

    -- the history that explains it, behind these lines
    abbrev explained : (w : Whole) (late made : List Event) (world : World C) → Explains link names timers w ((early ++ late) ++ made) world → Explains link names timers w (early ++ (late ++ made)) world
    explained w late made world explains = subst (λ (es : List Event). Explains link names timers w es world) (append_assoc early late made) explains

    module _ (before : List Event) (start : World C) where
      silent : (now : ℕ) (e : Entity) → first_due now e ≡ None → (ticking whole now e).entity ≡ at now e
      silent now e none = ap (λ (o : Option ℕ). (ticking_at whole now (at now e) o).entity) none

      -- no end of an entity is due
      entity_over : (system : ℕ) (old : World C) (made : List Event) (new : World C) (entity : Entity) → entity_at old.entities system ≡ Some entity → first_due (clock_of link steps old) entity ≡ None → made ≡ []
          → new ≡ record old { entities = with_entity old.entities system (ticking whole (clock_of link steps old) entity).entity } → (late : List Event) → InTick before start late old
          → InTick before start (late ++ made) new
      entity_over system old made new entity there_it none made_is becomes late t =
          let now : ℕ = (link old.carrier).clock in
          let becomes_so : new ≡ record old { entities = with_entity old.entities system (at now entity) } = becomes ∙ ap (λ (e : Entity). record old { entities = with_entity old.entities system e }) (silent now entity none) in
          let becomes_as : new ≡ record old { entities = with_entity old.entities system (at t.w.base.clock entity) } =
          becomes_so ∙ ap (λ (n : ℕ). record old { entities = with_entity old.entities system (at n entity) }) t.explains.carries.clock in
          let next_hall : Hall = record t.hall { entities = with_entity t.hall.entities system (at t.hall.clock entity) } in
          let there_now : entity_at t.hall.entities system ≡ Some entity = sym (ap (λ (ps : List Placed). entity_at ps system) t.shows.entities) ∙ there_it in
          let was = t.fine system entity there_now in
          let fine : ActsFine (IsAddress titles) entity.own (record { entity = at t.hall.clock entity; events = []; tpdus = [] }) = record { own_is = refl; ends = was.ends; tpdus = tt } in
          let proper : AreProper (at t.hall.clock entity) = record { timers = was.proper.timers; inactive = was.proper.inactive; ends = was.proper.ends } in
          let went = went_nowhere names timers (Known names timers) IsOffered (plain_kept names timers) link steps law (follow names timers).aside t.w (early ++ late) made
          (record old { entities = with_entity old.entities system (at t.w.base.clock entity) }) new
          (record { known = (plain_kept names timers).clock t.w (early ++ late) old.entities old.ends t.explains.known system entity there_it; carries = t.explains.carries }) made_is becomes_as in
          record {
            w = went.next;
            explains = explained went.next late made new went.explains;
            hall = next_hall;
            queue = t.queue;
            shows = record {
              clock = ap (λ (v : World C). (link v.carrier).clock) becomes_so ∙ t.shows.clock;
              entities = ap (λ (v : World C). v.entities) becomes_so ∙ (λ i. with_entity (t.shows.entities i) system (at (t.shows.clock i) entity));
              ends = ap (λ (v : World C). v.ends) becomes_so ∙ t.shows.ends;
              waits = subst (λ (v : World C). Waits v.carrier t.queue) (sym becomes_so) t.shows.waits;
              units = t.shows.units;
            };
            fine = kept_after titles t.hall.entities system entity (record { entity = at t.hall.clock entity; events = []; tpdus = [] }) t.fine there_now proper fine;
            in_time = in_time_with t.hall.clock t.hall.entities system (at t.hall.clock entity) t.in_time (t.in_time system entity there_now);
            holds = kept.over before start t.w late made old new t.hall.posts t.hall.posts t.explains (record {
              system = system;
              entity = entity;
              there = there_it;
              entities = ap (λ (v : World C). v.entities) becomes_so;
              ends = ap (λ (v : World C). v.ends) becomes_so;
              clock = ap (λ (v : World C). (link v.carrier).clock) becomes_so;
              made_is = made_is;
              later_is = refl;
            }) t.holds;
          }

      -- one is due
      entity_ticks_one : (system : ℕ) (old mid : World C) (here : List Event) (entity : Entity) (reference : ℕ) → entity_at old.entities system ≡ Some entity
          → first_due (clock_of link steps old) entity ≡ Some reference → Acts link steps old system entity.own (ticking whole (clock_of link steps old) entity) here mid → AllByRecursion IsUndropped here
          → (o : End) → end_at entity reference ≡ Some o → (late : List Event) → InTick before start late old → InTick before start (late ++ here) mid
      entity_ticks_one system old mid here entity reference there_it due_at acts all o stands late t = record {
        w = went.next;
        explains = explained went.next late here mid went.explains;
        hall = after t.hall system A;
        queue = a.queue;
        shows = a.shows;
        fine = kept_after titles t.hall.entities system entity A t.fine there_now proper.proper fine;
        in_time = in_time_with t.hall.clock t.hall.entities system A.entity t.in_time (subst (λ (n : ℕ). AreInTime n A.entity) t.shows.clock proper.in_time);
        holds = kept.ticks before start t.w late here old mid t.hall.posts (t.hall.posts ++ posted system A.tpdus) t.explains (record {
          does = record {
            system = system;
            entity = entity;
            there = there_it;
            reference = reference;
            end = o;
            stands = stands;
            aside = a.does.aside;
            is_aside = a.does.is_aside;
            entities = ap (λ (v : World C). v.entities) acts.becomes ∙ ap (λ (z : Acted). with_entity old.entities system z.entity) is;
            ends = ap (λ (v : World C). v.ends) acts.becomes ∙ ap (λ (z : Acted). ends_after old.ends system z.events) is;
            clock = a.shows.clock ∙ sym t.shows.clock;
            made_is = a.does.made_is ∙ (λ i. events_after (sym t.shows.ends i) system entity.own (is i).events ++ a.does.aside);
            later_is = ap (λ (z : Acted). t.hall.posts ++ posted system z.tpdus) is;
          };
          is_due_now = ap (is_due now) (sym stands) ∙ due_is now entity reference due_at;
          proper = (was.proper.ends reference o stands).proper;
        }) t.holds;
      }
        where
          now : ℕ
          now = (link old.carrier).clock

          A : Acted
          A = ticking whole (link old.carrier).clock entity

          there_now : entity_at t.hall.entities system ≡ Some entity
          there_now = sym (ap (λ (ps : List Placed). entity_at ps system) t.shows.entities) ∙ there_it

          was : IsEntityKept titles system entity
          was = t.fine system entity there_now

          fine : ActsFine (IsAddress titles) entity.own A
          fine = ticking_fine (IsAddress titles) whole now entity was.ends

          in_time_now : AreInTime now entity
          in_time_now = subst (λ (n : ℕ). AreInTime n entity) (sym t.shows.clock) (t.in_time system entity there_now)

          proper : IsProperTick now A
          proper = ticking_proper whole now entity was.proper in_time_now

          is : A ≡ ticked_to (at now entity) reference (stepped whole now o Ticked)
          is = ap (ticking_at whole now (at now entity)) due_at ∙ ap (ticking_end whole now (at now entity) reference) stands

          a : Acting link steps law titles Waits fifo t.hall system entity.own A here mid
          a = acts_go link steps law titles Waits fifo old mid t.hall t.queue system was.title entity.own A here t.shows was.title_is was.own fine proper.tpdus all acts

          went : Went names timers (Known names timers) IsOffered (plain_kept names timers) link steps law (follow names timers).aside t.w ((early ++ late) ++ here) mid
          went = subst (λ (xs : List Event). Went names timers (Known names timers) IsOffered (plain_kept names timers) link steps law (follow names timers).aside t.w (xs ++ here) mid) (append-nil (early ++ late))
              (went_on names timers (Known names timers) IsOffered (plain_kept names timers) link steps law (follow names timers).aside t.w (early ++ late) [] here old mid system entity.own (ticking whole t.w.base.clock entity) t.explains.carries
              ((follow names timers).ticks t.w (early ++ late) old.entities old.ends system entity reference t.explains.known there_it (subst (λ (n : ℕ). first_due n entity ≡ Some reference) t.explains.carries.clock due_at))
              (subst (λ (n : ℕ). Acts link steps old system entity.own (ticking whole n entity) here mid) t.explains.carries.clock acts))

      behind : (new : World C) (late made here rest : List Event) → InTick before start ((late ++ here) ++ rest) new → made ≡ here ++ rest → InTick before start (late ++ made) new
      behind new late made here rest t is = subst (λ (es : List Event). InTick before start es new) (append_assoc late here rest ∙ ap (λ (es : List Event). late ++ es) (sym is)) t

      entity_ticks : (system : ℕ) (old : World C) (made : List Event) (new : World C) → TicksEntity link steps whole system old made new → AllByRecursion IsUndropped made → (late : List Event)
          → InTick before start late old → InTick before start (late ++ made) new
      entity_ticks system old made new (NoneDue o m n entity there_it none made_is becomes) all late t = entity_over system old made new entity there_it none made_is becomes late t
      entity_ticks system old made new (OneDue o m n entity reference mid here rest there_it due_at acts more made_is) all late t =
          let parts = all_parts IsUndropped here rest (subst (λ (es : List Event). AllByRecursion IsUndropped es) made_is all) in
          let e = due_end (clock_of link steps old) (end_at entity reference) (due_is (clock_of link steps old) entity reference due_at) in
          behind new late made here rest
          (entity_ticks system mid rest new more parts.1 (late ++ here) (entity_ticks_one system old mid here entity reference there_it due_at acts parts.0 e.0 e.1 late t)) made_is

      all_tick : (placed : List Placed) (old : World C) (made : List Event) (new : World C) → TicksAll link steps whole old placed made new → AllByRecursion IsUndropped made → (late : List Event)
          → InTick before start late old → InTick before start (late ++ made) new
      all_tick [] old made new step all late t =
          subst (λ (es : List Event). InTick before start es new) (sym (append-nil late) ∙ ap (λ (es : List Event). late ++ es) (sym step.0)) (subst (λ (v : World C). InTick before start late v) (sym step.1) t)
      all_tick (one ∷ placed) old made new step all late t =
          let parts = all_parts IsUndropped step.1 step.2 (subst (λ (es : List Event). AllByRecursion IsUndropped es) step.5 all) in
          behind new late made step.1 step.2 (all_tick placed step.0 step.2 new step.4 parts.1 (late ++ step.1) (entity_ticks one.system old step.1 step.0 step.3 parts.0 late t)) step.5

    tick_reaches : (old new : World C) (made : List Event) (hall : Hall) (queue : List (CarriedUnit (List ℕ))) (late : List Event) → So old hall queue → queue ≡ [] → Resting (early ++ late) old
        → AllByRecursion IsUndropped made → Ticks link steps whole old made new → P late old hall.posts → Reaches P (late ++ made) new
    tick_reaches old new made hall queue late s none r all step holds = record {
      hall = t.hall;
      queue = t.queue;
      stands = record {
        shows = t.shows;
        kept = t.fine;
        have = subst (HaveEntities titles) (sym went.shows.entities ∙ t.shows.entities) went.have;
        rest = subst (λ (ps : List Placed). AreWaiting t.hall.clock ps) (sym went.shows.entities ∙ t.shows.entities)
            (subst (λ (n : ℕ). AreWaiting n went.next.entities) (sym went.shows.clock ∙ t.shows.clock) went.rest);
      };
      holds = kept.ticked late made old new t.hall.posts step t.holds;
    }
      where
        went : calm.Went link steps law titles Waits fifo hall made new
        went = calm_ticking.ticked link steps law titles Waits fifo old new made hall queue s none all step

        front : List Event
        front = events.Tick ((link old.carrier).clock + 1) ∷ told step.ups

        mid : World C
        mid = record old { carrier = step.below }

        parts : AllByRecursion IsUndropped (told step.ups) × AllByRecursion IsUndropped step.later
        parts = all_parts IsUndropped (told step.ups) step.later (subst (λ (es : List Event). AllByRecursion IsUndropped es) step.made_is all).1

        posts : hall.posts ≡ []
        posts = none_waits hall queue none s.shows.units

        aside : IsAside front
        aside = are_aside front (record { submits = λ end. refl; shows = λ end. refl; makes = refl }, told_quiet step.ups)

        clock : (link step.below).clock ≡ (link old.carrier).clock + 1
        clock = step.passes.gathers.stands.clock ∙ (law old.carrier Tick step.passes.called step.passes.steps_to).clock

        later : Whole
        later = onward (times_of timers) r.w (record { step = HistoryTick; doing = Nothing })

        start : InTick late old (late ++ front) mid
        start = record {
          w = later;
          explains = explained later late front mid (record {
            known = (follow names timers).clock r.w (early ++ late) front old.entities old.ends r.explains.known (λ system e is. (r.rest system e is).1) aside;
            carries = tick_goes IsOffered (plain_kept names timers).grows timers.life link steps law r.w.base later.base old.carrier step.below step.ups r.explains.carries refl (λ offer there. there) step.passes;
          });
          hall = record hall { clock = hall.clock + 1 };
          queue = [];
          shows = record {
            clock = clock ∙ ap (λ (n : ℕ). n + 1) s.shows.clock;
            entities = s.shows.entities;
            ends = s.shows.ends;
            waits = (fifo.ticked old.carrier step.below step.ups (subst (Waits old.carrier) none s.shows.waits) step.passes (none_dropped step.ups parts.0)).1;
            units = posts;
          };
          fine = s.kept;
          in_time = λ system e is. (waits hall.clock e (s.rest system e is)).1;
          holds = subst (T late old (late ++ front) mid) (sym posts)
              (kept.clocks r.w late front (told step.ups) old mid r.explains (record { entities = refl; ends = refl }) clock (waiting_of old hall queue s) refl aside (subst (P late old) posts holds));
        }

        t : InTick late old (late ++ made) new
        t = behind late old new late made front step.later (all_tick late old old.entities mid step.later new step.all parts.1 (late ++ front) start) step.made_is

    -- ---- the lines

    -- a line but `settle`, where nothing waits
    asked : (old new : World C) (late made : List Event) (hall : Hall) (queue : List (CarriedUnit (List ℕ))) → So old hall queue → queue ≡ [] → Resting (early ++ late) old → AllByRecursion IsUndropped made
        → P late old hall.posts → (line : Line) (script : List Line) → IsSettledScript (line ∷ script) → IsProperLine line → IsUnrouted line → RunsLine link steps whole titles old line made new
        → (line ≡ lines.Settle → ⊥) → Reaches P (late ++ made) new
    asked old new late made hall queue s none r all holds lines.Nothing script settled proper path step other =
        same_reaches late made old new hall queue s step.1 (subst TellsNoUnits (sym step.0) (record { gave = λ n. refl; showed = λ n. refl })) holds
    asked old new late made hall queue s none r all holds (lines.Connect system selector to called_selector options octets) script settled proper path step other =
        let asks = step.4 in
        connect_by old new late made hall queue s none r all holds system asks.4.0 step.1 (connect_refusal (link old.carrier).clock asks.4.0 step.1.octets) asks.4.1
        (record {
          size = subst (λ (o : Options). IsSized o) (sym step.3) proper.0;
          calling = subst (λ (o : List ℕ). length o ≤ 32) (sym asks.0) proper.1;
          called = subst (λ (o : List ℕ). length o ≤ 32) (sym asks.2) proper.2;
          address = record { system = to; title = step.0; title_is = step.2; address_is = asks.1 };
        }) refl asks.4.2
    asked old new late made hall queue s none r all holds (lines.Accept end options octets) script settled proper path step other =
        call_at old new late made hall queue s none r all holds end (asks.Accept options octets) (end_numbered old.ends end) proper step
    asked old new late made hall queue s none r all holds (lines.Refuse end octets) script settled proper path step other =
        call_at old new late made hall queue s none r all holds end (asks.Refuse octets) (end_numbered old.ends end) tt step
    asked old new late made hall queue s none r all holds (lines.Disconnect end octets) script settled proper path step other =
        call_at old new late made hall queue s none r all holds end (asks.Disconnect octets) (end_numbered old.ends end) tt step
    asked old new late made hall queue s none r all holds (lines.Data end octets) script settled proper path step other =
        call_at old new late made hall queue s none r all holds end (asks.Normal octets) (end_numbered old.ends end) tt step
    asked old new late made hall queue s none r all holds (lines.Expedite end octets) script settled proper path step other =
        call_at old new late made hall queue s none r all holds end (asks.Urgent octets) (end_numbered old.ends end) tt step
    asked old new late made hall queue s none r all holds (lines.Window end credit) script settled proper path step other =
        call_at old new late made hall queue s none r all holds end (asks.Window credit) (end_numbered old.ends end) proper step
    asked old new late made hall queue s none r all holds (lines.Unit system to wish octets) script settled proper path step other =
        raw_reaches old new late made hall queue s none r all holds system to step.0 step.1 wish octets step.4.0 step.2 step.3 path step.4.1 step.4.2
    asked old new late made hall queue s none r all holds lines.Tick script settled proper path step other = tick_reaches old new made hall queue late s none r all step holds
    asked old new late made hall queue s none r all holds (lines.Deliver number system) script settled proper path step other = absurd settled
    asked old new late made hall queue s none r all holds lines.Settle script settled proper path step other = absurd (other refl)
    asked old new late made hall queue s none r all holds (lines.Inject lan system octets) script settled proper path step other = absurd settled
    asked old new late made hall queue s none r all holds (lines.Restart system) script settled proper path step other = absurd settled
    asked old new late made hall queue s none r all holds another script settled proper path step other = absurd step

    -- nothing waits, or the next line that does anything settles
    abbrev MayGo : List (CarriedUnit (List ℕ)) → List Line → Type 0
    MayGo queue script = (queue ≡ []) ⊎ IsSettledNext script

    -- a line, and whether the next one may go
    record Passed (late : List Event) (new : World C) (script : List Line) : Type 0 where
      reached : Reaches P late new
      may : MayGo reached.queue script
      settled_on : IsSettledScript script

    line_passes : (line : Line) (script : List Line) (old new : World C) (late made : List Event) (hall : Hall) (queue : List (CarriedUnit (List ℕ))) → So old hall queue → Resting (early ++ late) old → IsFitWorld link old
        → MayGo queue (line ∷ script) → IsSettledScript (line ∷ script) → IsProperLine line → IsUnrouted line → AllByRecursion IsUndropped made → P late old hall.posts
        → RunsLine link steps whole titles old line made new → Passed (late ++ made) new script
    unfolding same_reaches still_reaches
    line_passes lines.Nothing script old new late made hall queue s r fit may settled proper path all holds step =
        record { reached = same_reaches late made old new hall queue s step.1 (subst TellsNoUnits (sym step.0) (record { gave = λ n. refl; showed = λ n. refl })) holds; may = may; settled_on = settled }
    line_passes lines.Settle script old new late made hall queue s r fit may settled proper path all holds step =
        let done = calm.settled link steps law titles Waits fifo 0 old made new step hall queue s all in
        record {
          reached = record {
            hall = done.went.next;
            queue = done.went.queue;
            stands = calm.stands_then link steps law titles Waits fifo hall made new done.went;
            holds = subst (P (late ++ made) new) (sym (none_waits done.went.next done.went.queue done.none done.went.shows.units)) (kept.settles late made old new hall queue s r fit all step holds);
          };
          may = inl done.none;
          settled_on = settled;
        }
    line_passes (lines.Deliver number system) script old new late made hall queue s r fit may settled proper path all holds step = absurd settled
    line_passes (lines.Inject lan system octets) script old new late made hall queue s r fit may settled proper path all holds step = absurd settled
    line_passes (lines.Restart system) script old new late made hall queue s r fit may settled proper path all holds step = absurd settled
    line_passes line script old new late made hall queue s r fit (inl none) settled proper path all holds step =
        record { reached = asked old new late made hall queue s none r all holds line script settled proper path step (λ is. absurd cc); may = inr settled.0; settled_on = settled.1 }
    line_passes line script old new late made hall queue s r fit (inr next) settled proper path all holds step = absurd next

    pub lines_reach : (script : List Line) (old last : World C) (late more : List Event) (hall : Hall) (queue : List (CarriedUnit (List ℕ))) → So old hall queue → Resting (early ++ late) old → IsFitWorld link old
        → MayGo queue script → IsSettledScript script → AllByRecursion IsProperLine script → AllByRecursion IsUnrouted script → AllByRecursion IsUndropped more → P late old hall.posts
        → RunsLines link steps whole titles old script more last → HasReached link names timers early P (late ++ more) last
    lines_reach [] old last late more hall queue s r fit (inr next) settled proper path all holds run = absurd next
    lines_reach [] old last late more hall queue s r fit (inl none) settled proper path all holds run =
        subst (λ (es : List Event). HasReached link names timers early P es last) (sym (append-nil late) ∙ ap (λ (es : List Event). late ++ es) (sym run.0))
        (subst (λ (v : World C). HasReached link names timers early P late v) (sym run.1)
        (record { w = r.w; explains = r.explains; fit = fit; holds = subst (P late old) (none_waits hall queue none s.shows.units) holds; waiting = waiting_of old hall queue s }))
    lines_reach (line ∷ script) old last late more hall queue s r fit may settled proper path all holds run =
        let parts = all_parts IsUndropped run.1 run.2 (subst (λ (es : List Event). AllByRecursion IsUndropped es) run.4 all) in
        let first : Passed (late ++ run.1) run.0 script = line_passes line script old run.0 late run.1 hall queue s r fit may settled proper.0 path.0 parts.0 holds run.3 in
        let honest = line_honest line script old run.0 run.1 settled r.explains.carries.honest run.3 in
        let rests : Resting (early ++ (late ++ run.1)) run.0 = subst (λ (es : List Event). Resting es run.0) (append_assoc early late run.1) (line_rests line script old run.0 (early ++ late) run.1 settled proper.0 honest r run.3) in
        let fits : IsFitWorld link run.0 = (line_went link steps law whole titles line old run.0 run.1 fit run.3).fit in
        subst (λ (es : List Event). HasReached link names timers early P es last) (append_assoc late run.1 run.2 ∙ ap (λ (es : List Event). late ++ es) (sym run.4))
        (lines_reach script run.0 last (late ++ run.1) run.2 first.reached.hall first.reached.queue first.reached.stands rests fits first.may first.settled_on proper.1 path.1 parts.1 first.reached.holds run.5)
