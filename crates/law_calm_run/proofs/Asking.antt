-- What users ask where nothing waits, and raw units: a refusal alone, or what the entity does.
use Rattle.std.proofs.Common.{◌≡◌, ℕ, ◌+◌, ◌≤◌, Bool, true, false, List, [], ◌∷◌, ◌++◌, length, Option, Some, None, refl, sym, ◌∙◌, ap, subst}
use Rattle.std.specs.Prelude.{slice_get}
use Rattle.std.specs.List.{AllByRecursion}
use Rattle.nsap.specs.Address.{selector_of, system_part}
use Rattle.nsap.proofs.AddressLemmas.{selector_of-append}
use Rattle.osi_base.specs.Calls.{Call, Keeps, Offer}
use Rattle.osi_base.specs.Link.{Link}
use Rattle.osi_base.specs.declared.unit.Offered.{Offered}
use Rattle.osi_base.specs.declared.unit.Offered.TheVariants.{Taken as WasTaken, Dropped}
use Rattle.osi_base.specs.declared.unit.Unit.{Unit as CarriedUnit}
use Rattle.osi_base.specs.declared.unit.Wish.{Wish}
use Rattle.script_journal.specs.RawLawful.{raw_address}
use Rattle.script_journal.specs.declared.cause.Refused.{Refused}
use Rattle.script_journal.specs.declared.cause.Refused.TheVariants as refusals
use Rattle.script_journal.specs.declared.event.Event.{Event}
use Rattle.script_journal.specs.declared.event.Event.TheVariants as events
use Rattle.net_world.specs.Fifo.{IsBetween, IsFifo, queued}
use Rattle.net_world.specs.Run.{SendsUnit, raw_unit}
use Rattle.net_world.specs.Told.{sent_event, told}
use Rattle.tp4_number.specs.Number.{whole}
use Rattle.tp4_conn.specs.Calls.{IsCall}
use Rattle.tp4_conn.specs.End.{IsSized}
use Rattle.tp4_conn.specs.Proper.{IsProperCall}
use Rattle.tp4_conn.specs.declared.call.ConnectRequest.{ConnectRequest}
use Rattle.tp4_conn.specs.declared.call.UserCall.{UserCall}
use Rattle.tp4_entity.specs.declared.refusal.ConnectRefusal.{ConnectRefusal}
use Rattle.tp4_entity.specs.declared.refusal.EntityRefusal.{EntityRefusal}
use Rattle.tp4_entity.specs.Entity.{Acted, Entity}
use Rattle.tp4_entity.specs.References.{least_free}
use Rattle.tp4_entity.specs.Step.{call_of, calling, connect_refusal, connecting, user_refusal}
use Rattle.tp4_entity.proofs.Beginning.{short}
use Rattle.law_tp4_proper.specs.Rest.{IsProperStep}
use Rattle.law_tp4_proper.proofs.Ends.{calling_rests, connecting_rests}
use Rattle.law_tp4_pair.specs.Claim.{IsUndropped}
use Rattle.tp4_world.specs.Run.{Acts, BeginsAt, Calls, CallsAt, CallsBy, CallsEnd, Connects, ConnectsBy, IsRefused, SendsRaw, clock_of}
use Rattle.tp4_world.specs.Ended.{has_ended}
use Rattle.tp4_world.specs.Telling.{call_events, connect_event, told_refusal}
use Rattle.tp4_world.specs.World.{World, end_numbered, entity_at}
use Rattle.tp4_world.specs.declared.place.EndAt.{EndAt}
use Rattle.tp4_world.specs.declared.place.Placed.{Placed}
use Rattle.tp4_world.proofs.Destinations.{ActsFine, calling_fine, connecting_fine}
use Rattle.law_tp4_lawful.proofs.WorldAsides.{AreQuiet, sent_quiet, told_quiet}
use Rattle.law_calm_run.proofs.Hall.{Calling, Calls as HallCalls, Connecting, Does, Hall, IsAddress, after, with_new}
use Rattle.law_calm_run.proofs.Posting.{AreUnitsOf, IsHall}
use Rattle.law_calm_run.proofs.Going.{Stands, Went, acts_go, have_after, kept_after, one_step, still, waiting_after}
use Rattle.law_calm_run.proofs.Queueing.{all_parts, none_dropped, raw_behind, raw_between}

-- what a connect line may ask: one of the sizes, selectors of 32 octets at most, and the address of a system
pub record IsAsked (titles : List (List ℕ)) (request : ConnectRequest) : Type 0 where
  pub size : IsSized request.options
  pub calling : length request.from_selector ≤ 32
  pub called : length request.to_selector ≤ 32
  pub address : IsAddress titles request.to

no_quiet : (why : Refused) → AreQuiet (events.No why ∷ [])
no_quiet why = (record { submits = λ end. refl; shows = λ end. refl; makes = refl }, tt)

-- the lines of a call drop nothing
undropped_behind : (own made later : List Event) → made ≡ own ++ later → AllByRecursion IsUndropped made → AllByRecursion IsUndropped later
undropped_behind own made later is all = (all_parts IsUndropped own later (subst (λ (es : List Event). AllByRecursion IsUndropped es) is all)).1

module _ {C : Type 0} (link : C → Link (List ℕ)) (steps : C → Call (List ℕ) → C → Type 0)
    (law : (old : C) (call : Call (List ℕ)) (new : C) → steps old call new → Keeps (link old) call (link new))
    (titles : List (List ℕ)) (Waits : C → List (CarriedUnit (List ℕ)) → Type 0) (fifo : IsFifo link steps titles Waits) where
  abbrev Known : World C → Hall → List (CarriedUnit (List ℕ)) → Type 0
  Known world hall queue = Stands link steps law titles Waits fifo world hall queue

  abbrev Goes_on : Hall → List Event → World C → Type 0
  Goes_on old made new = Went link steps law titles Waits fifo old made new

  -- nothing came of it but quiet events
  same : (old new : World C) (hall : Hall) (queue : List (CarriedUnit (List ℕ))) (made told : List Event) → Known old hall queue → AreQuiet told → made ≡ told → new ≡ old → Goes_on hall made new
  same old new hall queue made told s quiet is becomes =
      still link steps law titles Waits fifo old new hall queue queue made s (subst (λ (x : World C). IsHall link titles Waits x hall queue) (sym becomes) s.shows) (subst AreQuiet (sym is) quiet)

  refused : (old new : World C) (hall : Hall) (queue : List (CarriedUnit (List ℕ))) (made : List Event) (why : Option Refused) → Known old hall queue → IsRefused link steps old why made new → Goes_on hall made new
  refused old new hall queue made None s step = absurd step
  refused old new hall queue made (Some why) s step = same old new hall queue made (events.No why ∷ []) s (no_quiet why) step.0 step.1

  -- ---- connect

  -- an entity made an end and sent its CR: it stands beside what waited
  pub record Requested (hall : Hall) (system reference : ℕ) (entity : Entity) (request : ConnectRequest) (later : List Event) (new : World C) : Type 0 where
    pub there : entity_at hall.entities system ≡ Some entity
    pub free : least_free hall.clock entity ≡ Some reference
    pub proper : IsProperCall (call_of entity reference request)
    pub does : Does (with_new hall system reference) system entity.own (connecting hall.clock entity reference request) later (after (with_new hall system reference) system (connecting hall.clock entity reference request))
    pub queue : List (CarriedUnit (List ℕ))
    pub stands : Known new (after (with_new hall system reference) system (connecting hall.clock entity reference request)) queue

  pub requested : (old new : World C) (hall : Hall) (queue : List (CarriedUnit (List ℕ))) (system reference : ℕ) (entity : Entity) (request : ConnectRequest) (later : List Event) → Known old hall queue
      → AllByRecursion IsUndropped later → entity_at old.entities system ≡ Some entity → IsAsked titles request → length request.octets ≤ 32 → least_free (clock_of link steps old) entity ≡ Some reference
      → Acts link steps (record old { ends = old.ends ++ record { system = system; reference = reference } ∷ [] }) system entity.own (connecting (clock_of link steps old) entity reference request) later new
      → Requested hall system reference entity request later new
  requested old new hall queue system reference entity request later s all there asked octets least acted_so =
      let place : List EndAt = record { system = system; reference = reference } ∷ [] in
      let there_now : entity_at hall.entities system ≡ Some entity = sym (ap (λ (ps : List Placed). entity_at ps system) s.shows.entities) ∙ there in
      let free : least_free hall.clock entity ≡ Some reference = subst (λ (n : ℕ). least_free n entity ≡ Some reference) s.shows.clock least in
      let was = s.kept system entity there_now in
      let proper : IsProperCall (call_of entity reference request) = record { timers = was.proper.timers; size = asked.size; calling = asked.calling; called = asked.called; octets = octets } in
      let acted : Acted = connecting hall.clock entity reference request in
      let begins : World C = record old { ends = old.ends ++ place } in
      let acts : Acts link steps begins system entity.own acted later new = subst (λ (n : ℕ). Acts link steps begins system entity.own (connecting n entity reference request) later new) s.shows.clock acted_so in
      let goes : IsProperStep hall.clock acted = connecting_rests hall.clock reference entity request (record { proper = was.proper; idle = s.rest system entity there_now }) free proper in
      let fine : ActsFine (IsAddress titles) entity.own acted = connecting_fine (IsAddress titles) hall.clock entity reference request was.ends asked.address in
      let shows : IsHall link titles Waits begins (with_new hall system reference) queue =
      record { clock = s.shows.clock; entities = s.shows.entities; ends = ap (λ (es : List EndAt). es ++ place) s.shows.ends; waits = s.shows.waits; units = s.shows.units } in
      let a = acts_go link steps law titles Waits fifo begins new (with_new hall system reference) queue system was.title entity.own acted later shows was.title_is was.own fine goes.tpdus all acts in
      record {
        there = there_now;
        free = free;
        proper = proper;
        does = a.does;
        queue = a.queue;
        stands = record {
          shows = a.shows;
          kept = kept_after titles hall.entities system entity acted s.kept there_now goes.rest.proper fine;
          have = have_after titles hall.entities system acted.entity s.have;
          rest = waiting_after link steps law titles Waits fifo hall system acted s.rest goes.rest.idle;
        };
      }

  begun : (old new : World C) (hall : Hall) (queue : List (CarriedUnit (List ℕ))) (made : List Event) (system : ℕ) (entity : Entity) (request : ConnectRequest) (found : Option ℕ) → Known old hall queue → queue ≡ []
      → AllByRecursion IsUndropped made → entity_at old.entities system ≡ Some entity → IsAsked titles request → length request.octets ≤ 32 → least_free (clock_of link steps old) entity ≡ found
      → BeginsAt link steps old system entity request found made new → Goes_on hall made new
  begun old new hall queue made system entity request None s none all there asked octets least step = absurd step
  begun old new hall queue made system entity request (Some reference) s none all there asked octets least step =
      let event : Event = connect_event (length old.ends + 1) system reference entity.own request in
      let q = requested old new hall queue system reference entity request step.0 s (undropped_behind (event ∷ []) made step.0 step.2 all) there asked octets least step.1 in
      let next : Hall = after (with_new hall system reference) system (connecting hall.clock entity reference request) in
      record {
        next = next;
        queue = q.queue;
        goes = one_step titles hall next made s.kept (Connecting (record {
          idle = subst (λ (units : List (CarriedUnit (List ℕ))). AreUnitsOf titles units hall.posts) none s.shows.units;
          system = system;
          entity = entity;
          there = q.there;
          request = request;
          reference = reference;
          free = q.free;
          proper = q.proper;
          address = asked.address;
          later = step.0;
          does = q.does;
          made_is = step.2 ∙ ap (λ (es : List EndAt). connect_event (length es + 1) system reference entity.own request ∷ step.0) s.shows.ends;
        }));
        shows = q.stands.shows;
        kept = q.stands.kept;
        have = q.stands.have;
        rest = q.stands.rest;
      }

  connect_by : (old new : World C) (hall : Hall) (queue : List (CarriedUnit (List ℕ))) (made : List Event) (system : ℕ) (entity : Entity) (request : ConnectRequest) (why : Option ConnectRefusal) → Known old hall queue
      → queue ≡ [] → AllByRecursion IsUndropped made → entity_at old.entities system ≡ Some entity → IsAsked titles request → connect_refusal (clock_of link steps old) entity request.octets ≡ why
      → ConnectsBy link steps old system entity request why made new → Goes_on hall made new
  connect_by old new hall queue made system entity request (Some why) s none all there asked is step = refused old new hall queue made _ s step
  connect_by old new hall queue made system entity request None s none all there asked is step =
      begun old new hall queue made system entity request (least_free (clock_of link steps old) entity) s none all there asked (short (clock_of link steps old) entity request.octets is) refl step

  pub connected : (old new : World C) (hall : Hall) (queue : List (CarriedUnit (List ℕ))) (made : List Event) (system : ℕ) (request : ConnectRequest) → Known old hall queue → queue ≡ [] → AllByRecursion IsUndropped made
      → IsAsked titles request → Connects link steps old system request made new → Goes_on hall made new
  connected old new hall queue made system request s none all asked step =
      connect_by old new hall queue made system step.0 request (connect_refusal (clock_of link steps old) step.0 request.octets) s none all step.1 asked refl step.2

  -- ---- a call on an end

  -- the end of that number took the call
  pub record TookCall (hall : Hall) (made : List Event) (new : World C) (number : ℕ) (call : UserCall) : Type 0 where
    pub next : Hall
    pub queue : List (CarriedUnit (List ℕ))
    pub calls : HallCalls hall made next
    pub number_is : calls.number ≡ number
    pub call_is : calls.call ≡ call
    pub stands : Known new next queue

  -- a call is refused, or taken
  data Answers (old : World C) (hall : Hall) (made : List Event) (new : World C) (number : ℕ) (call : UserCall) : Type 0 where
    Refuses : (why : Option Refused) → IsRefused link steps old why made new → Answers old hall made new number call
    Takes : TookCall hall made new number call → Answers old hall made new number call

  call_by : (old new : World C) (hall : Hall) (queue : List (CarriedUnit (List ℕ))) (made : List Event) (number : ℕ) (end : EndAt) (entity : Entity) (call : UserCall) (why : Option EntityRefusal) → Known old hall queue
      → queue ≡ [] → AllByRecursion IsUndropped made → end_numbered old.ends number ≡ Some end → entity_at old.entities end.system ≡ Some entity → IsCall call
      → has_ended (clock_of link steps old) old.ends number end entity ≡ false → user_refusal entity end.reference call ≡ why → CallsBy link steps whole old number end entity call why made new
      → Answers old hall made new number call
  call_by old new hall queue made number end entity call (Some why) s none all numbered there proper ended is step = Refuses (told_refusal why) step
  call_by old new hall queue made number end entity call None s none all numbered there proper ended is step =
      let there_now : entity_at hall.entities end.system ≡ Some entity = sym (ap (λ (ps : List Placed). entity_at ps end.system) s.shows.entities) ∙ there in
      let was = s.kept end.system entity there_now in
      let acted : Acted = calling whole hall.clock entity end.reference call in
      let acts : Acts link steps old end.system entity.own acted step.0 new = subst (λ (n : ℕ). Acts link steps old end.system entity.own (calling whole n entity end.reference call) step.0 new) s.shows.clock step.1 in
      let goes : IsProperStep hall.clock acted = calling_rests whole hall.clock end.reference entity call (record { proper = was.proper; idle = s.rest end.system entity there_now }) is proper in
      let fine : ActsFine (IsAddress titles) entity.own acted = calling_fine (IsAddress titles) whole hall.clock entity end.reference call was.ends in
      let a = acts_go link steps law titles Waits fifo old new hall queue end.system was.title entity.own acted step.0 s.shows was.title_is was.own fine goes.tpdus
      (undropped_behind (call_events number call) made step.0 step.2 all) acts in
      Takes (record {
        next = after hall end.system acted;
        queue = a.queue;
        calls = record {
          idle = subst (λ (q : List (CarriedUnit (List ℕ))). AreUnitsOf titles q hall.posts) none s.shows.units;
          number = number;
          end = end;
          numbered = sym (ap (λ (es : List EndAt). end_numbered es number) s.shows.ends) ∙ numbered;
          entity = entity;
          there = there_now;
          call = call;
          stands = subst (λ (n : ℕ). has_ended n hall.ends number end entity ≡ false) s.shows.clock
              (subst (λ (es : List EndAt). has_ended (clock_of link steps old) es number end entity ≡ false) s.shows.ends ended);
          allowed = is;
          proper = proper;
          later = step.0;
          does = a.does;
          made_is = step.2;
        };
        number_is = refl;
        call_is = refl;
        stands = record {
          shows = a.shows;
          kept = kept_after titles hall.entities end.system entity acted s.kept there_now goes.rest.proper fine;
          have = have_after titles hall.entities end.system acted.entity s.have;
          rest = waiting_after link steps law titles Waits fifo hall end.system acted s.rest goes.rest.idle;
        };
      })

  call_end : (old new : World C) (hall : Hall) (queue : List (CarriedUnit (List ℕ))) (made : List Event) (number : ℕ) (end : EndAt) (entity : Entity) (call : UserCall) (ended : Bool) → Known old hall queue → queue ≡ []
      → AllByRecursion IsUndropped made → end_numbered old.ends number ≡ Some end → entity_at old.entities end.system ≡ Some entity → IsCall call
      → has_ended (clock_of link steps old) old.ends number end entity ≡ ended → CallsEnd link steps whole old number end entity call ended made new → Answers old hall made new number call
  call_end old new hall queue made number end entity call true s none all numbered there proper is step = Refuses (Some refusals.Ended) step
  call_end old new hall queue made number end entity call false s none all numbered there proper is step =
      call_by old new hall queue made number end entity call (user_refusal entity end.reference call) s none all numbered there proper is refl step

  call_at : (old new : World C) (hall : Hall) (queue : List (CarriedUnit (List ℕ))) (made : List Event) (number : ℕ) (call : UserCall) (end : Option EndAt) → Known old hall queue → queue ≡ []
      → AllByRecursion IsUndropped made → end_numbered old.ends number ≡ end → IsCall call → CallsAt link steps whole old number call end made new → Answers old hall made new number call
  call_at old new hall queue made number call None s none all numbered proper step = Refuses (Some refusals.NoSuchEnd) step
  call_at old new hall queue made number call (Some end) s none all numbered proper step =
      call_end old new hall queue made number end step.0 call (has_ended (clock_of link steps old) old.ends number end step.0) s none all numbered step.1 proper refl step.2

  pub called : (old new : World C) (hall : Hall) (queue : List (CarriedUnit (List ℕ))) (made : List Event) (number : ℕ) (call : UserCall) → Known old hall queue → queue ≡ [] → AllByRecursion IsUndropped made
      → IsCall call → Calls link steps whole old number call made new → Goes_on hall made new
  called old new hall queue made number call s none all proper step = elim (call_at old new hall queue made number call (end_numbered old.ends number) s none all refl proper step) [
    | Refuses why is ↦ refused old new hall queue made why s is
    | Takes t ↦ record {
      next = t.next;
      queue = t.queue;
      goes = one_step titles hall t.next made s.kept (Calling t.calls);
      shows = t.stands.shows;
      kept = t.stands.kept;
      have = t.stands.have;
      rest = t.stands.rest;
    }
  ]

  -- a call that is not refused is taken
  pub taken : (old new : World C) (hall : Hall) (queue : List (CarriedUnit (List ℕ))) (made : List Event) (number : ℕ) (call : UserCall) → Known old hall queue → queue ≡ [] → AllByRecursion IsUndropped made
      → IsCall call → ((why : Refused) → made ≡ events.No why ∷ [] → ⊥) → Calls link steps whole old number call made new → TookCall hall made new number call
  taken old new hall queue made number call s none all proper allowed step = elim (call_at old new hall queue made number call (end_numbered old.ends number) s none all refl proper step) [
    | Refuses why is ↦ absurd (never why is)
    | Takes t ↦ t
  ]
    where
      never : (why : Option Refused) → IsRefused link steps old why made new → ⊥
      never None is = is
      never (Some why) is = allowed why is.0

  -- ---- a raw unit

  raw_queued : (queue : List (CarriedUnit (List ℕ))) (hall : Hall) (unit : CarriedUnit (List ℕ)) (answer : Offered) → AreUnitsOf titles queue hall.posts → selector_of unit.to ≡ 2
      → AreUnitsOf titles (queued queue unit answer) hall.posts
  raw_queued queue hall unit WasTaken units raw = raw_behind titles queue hall.posts unit units raw
  raw_queued queue hall unit (Dropped cause) units raw = units

  raw_sent : (old new : World C) (hall : Hall) (queue : List (CarriedUnit (List ℕ))) (made : List Event) (system to : ℕ) (sender receiver : List ℕ) (wish : Wish) (octets : List ℕ) (below : C) → Known old hall queue
      → AllByRecursion IsUndropped made → slice_get titles system ≡ Some sender → slice_get titles to ≡ Some receiver → wish.path ≡ 0
      → SendsUnit link steps old.carrier system sender receiver wish octets made below → new ≡ record old { carrier = below } → Goes_on hall made new
  raw_sent old new hall queue made system to sender receiver wish [] below s all title_is to_is path step becomes =
      same old new hall queue made (events.No refusals.EmptyUnit ∷ []) s (no_quiet refusals.EmptyUnit) step.0 (becomes ∙ ap (λ (c : C). record old { carrier = c }) step.1)
  raw_sent old new hall queue made system to sender receiver wish (octet ∷ octets) below s all title_is to_is path step becomes =
      let unit : CarriedUnit (List ℕ) = raw_unit sender receiver (octet ∷ octets) in
      let event : Event = sent_event system (raw_address receiver) (octet ∷ octets) step.0 in
      let between : IsBetween titles unit = raw_between titles system to sender receiver (octet ∷ octets) title_is to_is in
      let goes = fifo.offered old.carrier below queue unit wish step.0 step.1 s.shows.waits between path step.2 (none_dropped step.1 (undropped_behind (event ∷ []) made (told step.1) step.3 all)) in
      let shows : IsHall link titles Waits (record old { carrier = below }) hall (queued queue unit step.0) = record {
        clock = step.2.gathers.stands.clock ∙ (law old.carrier (Offer unit wish step.0) step.2.called step.2.steps_to).clock ∙ s.shows.clock;
        entities = s.shows.entities;
        ends = s.shows.ends;
        waits = goes.1;
        units = raw_queued queue hall unit step.0 s.shows.units (selector_of-append (system_part receiver) 2);
      } in
      still link steps law titles Waits fifo old new hall queue (queued queue unit step.0) made s
      (subst (λ (x : World C). IsHall link titles Waits x hall (queued queue unit step.0)) (sym becomes) shows)
      (subst AreQuiet (sym step.3) (sent_quiet system (raw_address receiver) (octet ∷ octets) step.0, told_quiet step.1))

  pub raw : (old new : World C) (hall : Hall) (queue : List (CarriedUnit (List ℕ))) (made : List Event) (system to : ℕ) (sender receiver : List ℕ) (wish : Wish) (octets : List ℕ) → Known old hall queue
      → AllByRecursion IsUndropped made → slice_get titles system ≡ Some sender → slice_get titles to ≡ Some receiver → wish.path ≡ 0 → SendsRaw link steps old system sender receiver wish octets made new
      → Goes_on hall made new
  raw old new hall queue made system to sender receiver wish octets s all title_is to_is path step =
      raw_sent old new hall queue made system to sender receiver wish octets step.0 s all title_is to_is path step.1 step.2
