-- What stands between the lines of a network stands after each line after which its carrier is honest, and at its start.
use Rattle.std.proofs.Common.{◌≡◌, ℕ, ◌+◌, Bool, true, false, List, [], ◌∷◌, ◌++◌, length, Option, Some, None, refl, sym, ◌∙◌, ap, subst, arith, append_assoc, replicate, suc, zero}
use Rattle.std.specs.Prelude.{◌≢◌, ◌==◌, ◌&&◌, nat_eq}
use Rattle.std.specs.Cmp.Lexicographic.{pointwise}
use Rattle.std.specs.List.{AllByRecursion, Contains}
use Rattle.std.proofs.lemmas.List.{append-nil}
use Rattle.nsap.specs.Address.{selector_of, system_part}
use Rattle.nsap.proofs.AddressLemmas.{selector_of-append}
use Rattle.osi_base.specs.declared.unit.Arrival.{Arrival}
use Rattle.osi_base.specs.declared.unit.Injected.{Injected}
use Rattle.osi_base.specs.declared.unit.Injected.TheVariants.{Taken as WasInjected}
use Rattle.osi_base.specs.declared.unit.Picked.{Picked}
use Rattle.osi_base.specs.declared.unit.Picked.TheVariants.{Taken as WasPicked}
use Rattle.osi_base.specs.declared.unit.Unit.{Unit as CarriedUnit}
use Rattle.osi_base.specs.declared.unit.Up.{Up}
use Rattle.osi_base.specs.declared.unit.Up.TheVariants.{Unit as Came, Note as Noted}
use Rattle.osi_base.specs.Link.{Link}
use Rattle.osi_base.specs.Calls.{Call, Keeps}
use Rattle.script_journal.specs.declared.cause.Refused.{Refused}
use Rattle.script_journal.specs.declared.cause.Refused.TheVariants as refusals
use Rattle.script_journal.specs.declared.cause.Settled.TheVariants.{Settled, Stopped}
use Rattle.script_journal.specs.declared.event.Event.{Event}
use Rattle.script_journal.specs.declared.event.Event.TheVariants as events
use Rattle.script_lines.specs.declared.line.Line.{Line}
use Rattle.script_lines.specs.declared.line.Line.TheVariants as lines
use Rattle.net_world.specs.Told.{picked_event, told}
use Rattle.net_world.proofs.Runs.{first_rests}
use Rattle.tp4_conn.specs.End.{End}
use Rattle.tp4_conn.specs.declared.call.ConnectRequest.{ConnectRequest}
use Rattle.tp4_conn.specs.declared.call.UserCall.{UserCall}
use Rattle.tp4_conn.specs.declared.call.UserCall.TheVariants as asks
use Rattle.tp4_entity.specs.declared.refusal.ConnectRefusal.{ConnectRefusal}
use Rattle.tp4_entity.specs.declared.refusal.EntityRefusal.{EntityRefusal}
use Rattle.tp4_entity.specs.Entity.{Entity}
use Rattle.tp4_entity.specs.References.{least_free}
use Rattle.tp4_entity.specs.Step.{calling, connect_refusal, connecting, ticking, user_refusal, restarted}
use Rattle.tp4_world.proofs.Destinations.{EndFine, EndsFine, calling_fine, connecting_fine, taking_fine, ticking_fine}
use Rattle.tp4_world.proofs.Lined.{injected, lines_alike, lines_back, not_taken}
use Rattle.tp4_world.proofs.Standing.{AreApart, AreFine, AreStill, IsApart, IsFine, IsFromApart, Stands, act_stands, apart_on, changed_stands, delivery_carries, entity_fine, injection_carries, raw_carries, tick_carries, told_stands, with_fine}
use Rattle.tp4_world.specs.First.{IsFirst, IsNew}
use Rattle.tp4_world.specs.Laws.{ShowsSent, ShowsSentWhereHonest}
use Rattle.tp4_world.specs.Run.{BeginsAt, Calls, CallsAt, CallsBy, CallsEnd, Connects, ConnectsBy, Delivers, HearsAll, HearsIf, Injects, IsRefused, NoneDue, NoneLeft, OneDue, OneMore, RunsLine, RunsLines, Settles, Starts, Ticks, TicksAll, TicksEntity, TooMany, clock_of, is_for, transport_address}
use Rattle.tp4_world.specs.Ended.{has_ended}
use Rattle.tp4_world.specs.Telling.{call_events, connect_event, inject_event}
use Rattle.tp4_world.specs.World.{World, end_numbered, entity_at}
use Rattle.tp4_world.specs.declared.place.EndAt.{EndAt}
use Rattle.tp4_world.specs.declared.place.Placed.{Placed}

-- ---- addresses

transport_apart : (title : List ℕ) → IsApart (transport_address title)
transport_apart title = ap (λ (n : ℕ). n == 2) (selector_of-append (system_part title) 1)

one_apart : (n : ℕ) → (n == 1) ≡ true → (n == 2) ≡ false
one_apart n is = grind arith

first_part : (one other : Bool) → (one && other) ≡ true → one ≡ true
first_part true other is = refl
first_part false other is = is

new_ends : (ends : List (Option End)) → AllByRecursion (λ place. place ≡ None) ends → EndsFine IsApart ends
new_ends [] none = tt
new_ends (place ∷ ends) none = (subst (EndFine IsApart) (sym none.0) tt, new_ends ends none.1)

pub nothing_stands : (count : ℕ) → AllByRecursion (λ (place : Option End). place ≡ None) (replicate count None)
nothing_stands zero = tt
nothing_stands (suc count) = (refl, nothing_stands count)

-- the line of a user's call is no event of a raw unit
call_still : (number : ℕ) (call : UserCall) → AreStill (call_events number call)
call_still number (asks.Accept options octets) = tt
call_still number (asks.Window credit) = tt
call_still number call = (record { other = tt; clock = λ now. refl }, tt)

module _ (life : ℕ) (titles : List (List ℕ)) {C : Type 0} (link : C → Link (List ℕ)) (steps : C → Call (List ℕ) → C → Type 0)
    (law : (old : C) (call : Call (List ℕ)) (new : C) → steps old call new → Keeps (link old) call (link new)) where
  abbrev Holds : World C → List Event → Type 0
  Holds world journal = Stands life titles link steps law world journal

  -- nothing happens
  same_holds : (old new : World C) (journal made : List Event) → Holds old journal → made ≡ [] → new ≡ old → Holds new (journal ++ made)
  same_holds old new journal made h none same =
      subst (λ (w : World C). Holds w (journal ++ made)) (sym same)
      (subst (λ (xs : List Event). Holds old xs) (sym (append-nil journal) ∙ ap (λ (xs : List Event). journal ++ xs) (sym none)) h)

  -- one event that shows no unit
  told_holds : (old new : World C) (journal made told : List Event) → Holds old journal → AreStill told → made ≡ told → new ≡ old → Holds new (journal ++ made)
  told_holds old new journal made told h stills is same =
      subst (λ (w : World C). Holds w (journal ++ made)) (sym same)
      (subst (λ (xs : List Event). Holds old (journal ++ xs)) (sym is) (told_stands life titles link steps law old journal told h stills))

  -- these events, and then those
  behind : (new : World C) (journal made here rest : List Event) → Holds new ((journal ++ here) ++ rest) → made ≡ here ++ rest → Holds new (journal ++ made)
  behind new journal made here rest h is = subst (λ (xs : List Event). Holds new xs) (append_assoc journal here rest ∙ ap (λ (xs : List Event). journal ++ xs) (sym is)) h

  -- ---- what users ask

  refused : (old new : World C) (journal made : List Event) (why : Option Refused) → Holds old journal → IsRefused link steps old why made new → Holds new (journal ++ made)
  refused old new journal made None h step = absurd step
  refused old new journal made (Some why) h step = told_holds old new journal made (events.No why ∷ []) h (record { other = tt; clock = λ now. refl }, tt) step.0 step.1

  begun : (old new : World C) (journal made : List Event) (system : ℕ) (entity : Entity) (request : ConnectRequest) (found : Option ℕ) → Holds old journal → IsFine life titles link steps law entity → IsApart request.to
      → BeginsAt link steps old system entity request found made new → Holds new (journal ++ made)
  begun old new journal made system entity request None h fine to step = absurd step
  begun old new journal made system entity request (Some reference) h fine to step =
      let event : Event = connect_event (length old.ends + 1) system reference entity.own request in
      let with_end : World C = record old { ends = old.ends ++ record { system = system; reference = reference } ∷ [] } in
      let told : Holds old (journal ++ event ∷ []) = told_stands life titles link steps law old journal (event ∷ []) h (record { other = tt; clock = λ now. refl }, tt) in
      let begins : Holds with_end (journal ++ event ∷ []) = record { carries = told.carries; fine = told.fine } in
      behind new journal made (event ∷ []) step.0
      (act_stands life titles link steps law with_end new (journal ++ event ∷ []) step.0 system entity.own (connecting (clock_of link steps old) entity reference request) begins fine.0
      (connecting_fine IsApart (clock_of link steps old) entity reference request fine.1 to) step.1) step.2

  connect_by : (old new : World C) (journal made : List Event) (system : ℕ) (entity : Entity) (request : ConnectRequest) (why : Option ConnectRefusal) → Holds old journal → IsFine life titles link steps law entity
      → IsApart request.to → ConnectsBy link steps old system entity request why made new → Holds new (journal ++ made)
  connect_by old new journal made system entity request (Some why) h fine to step = refused old new journal made _ h step
  connect_by old new journal made system entity request None h fine to step = begun old new journal made system entity request (least_free (clock_of link steps old) entity) h fine to step

  connected : (old new : World C) (journal made : List Event) (system : ℕ) (request : ConnectRequest) → Holds old journal → IsApart request.to → Connects link steps old system request made new → Holds new (journal ++ made)
  connected old new journal made system request h to step =
      connect_by old new journal made system step.0 request (connect_refusal (clock_of link steps old) step.0 request.octets) h (entity_fine life titles link steps law old.entities system step.0 h.fine step.1) to step.2

  module _ (wrap : ℕ → ℕ → ℕ) where
    call_by : (old new : World C) (journal made : List Event) (number : ℕ) (end : EndAt) (entity : Entity) (call : UserCall) (why : Option EntityRefusal) → Holds old journal
        → IsFine life titles link steps law entity → CallsBy link steps wrap old number end entity call why made new → Holds new (journal ++ made)
    call_by old new journal made number end entity call (Some why) h fine step = refused old new journal made _ h step
    call_by old new journal made number end entity call None h fine step =
        let told : Holds old (journal ++ call_events number call) = told_stands life titles link steps law old journal (call_events number call) h (call_still number call) in
        behind new journal made (call_events number call) step.0
        (act_stands life titles link steps law old new (journal ++ call_events number call) step.0 end.system entity.own (calling wrap (clock_of link steps old) entity end.reference call) told fine.0
        (calling_fine IsApart wrap (clock_of link steps old) entity end.reference call fine.1) step.1) step.2

    call_end : (old new : World C) (journal made : List Event) (number : ℕ) (end : EndAt) (entity : Entity) (call : UserCall) (ended : Bool) → Holds old journal → IsFine life titles link steps law entity
        → CallsEnd link steps wrap old number end entity call ended made new → Holds new (journal ++ made)
    call_end old new journal made number end entity call true h fine step = refused old new journal made (Some refusals.Ended) h step
    call_end old new journal made number end entity call false h fine step = call_by old new journal made number end entity call (user_refusal entity end.reference call) h fine step

    call_at : (old new : World C) (journal made : List Event) (number : ℕ) (call : UserCall) (end : Option EndAt) → Holds old journal → CallsAt link steps wrap old number call end made new
        → Holds new (journal ++ made)
    call_at old new journal made number call None h step = refused old new journal made (Some refusals.NoSuchEnd) h step
    call_at old new journal made number call (Some end) h step =
        call_end old new journal made number end step.0 call (has_ended (clock_of link steps old) old.ends number end step.0) h (entity_fine life titles link steps law old.entities end.system step.0 h.fine step.1) step.2

    called : (old new : World C) (journal made : List Event) (number : ℕ) (call : UserCall) → Holds old journal → Calls link steps wrap old number call made new → Holds new (journal ++ made)
    called old new journal made number call h step = call_at old new journal made number call (end_numbered old.ends number) h step

    -- ---- what comes up

    heard_if : (old new : World C) (journal made : List Event) (arrival : Arrival (List ℕ)) (found : Option Entity) (fits : Bool) → Holds old journal → IsFromApart life titles link steps law (Came arrival)
        → entity_at old.entities arrival.system ≡ found → is_for link steps wrap arrival.unit.to found ≡ fits → HearsIf link steps wrap old arrival found fits made new → Holds new (journal ++ made)
    heard_if old new journal made arrival None fits h apart at is step = same_holds old new journal made h step.0 step.1
    heard_if old new journal made arrival (Some entity) false h apart at is step = same_holds old new journal made h step.0 step.1
    heard_if old new journal made arrival (Some entity) true h apart at is step =
        let fine = entity_fine life titles link steps law old.entities arrival.system entity h.fine at in
        let transport : (selector_of arrival.unit.to == 1) ≡ true = first_part (selector_of arrival.unit.to == 1) (pointwise nat_eq entity.own arrival.unit.to) is in
        let from : IsApart arrival.unit.from = apart (one_apart (selector_of arrival.unit.to) transport) in
        act_stands life titles link steps law old new journal made arrival.system entity.own step.0 h fine.0
        (taking_fine IsApart arrival.unit.from from wrap (clock_of link steps old) entity arrival.unit.octets step.0 fine.1 step.1) step.2

    heard_all : (ups : List (Up (List ℕ))) (old new : World C) (journal made : List Event) → Holds old journal → AllByRecursion (IsFromApart life titles link steps law) ups
        → HearsAll link steps wrap old ups made new → Holds new (journal ++ made)
    heard_all [] old new journal made h apart step = same_holds old new journal made h step.0 step.1
    heard_all (Noted note ∷ ups) old new journal made h apart step = heard_all ups old new journal made h apart.1 step
    heard_all (Came arrival ∷ ups) old new journal made h apart step =
        let first : Holds step.0 (journal ++ step.1) =
        heard_if old step.0 journal step.1 arrival (entity_at old.entities arrival.system) (is_for link steps wrap arrival.unit.to (entity_at old.entities arrival.system)) h apart.0 refl refl step.3 in
        behind new journal made step.1 step.2 (heard_all ups step.0 new (journal ++ step.1) step.2 first apart.1 step.4) step.5

    delivered : (old new : World C) (journal made : List Event) (number system : ℕ) (answer : Picked) → Holds old journal → Delivers link steps wrap old number system answer made new → Holds new (journal ++ made)
    delivered old new journal made number system answer h step =
        let front : List Event = picked_event number system answer ∷ told step.ups in
        let d = delivery_carries life titles link steps law old.carrier step.below journal number system answer step.ups h.carries step.passes in
        behind new journal made front step.later
        (heard_all step.ups (record old { carrier = step.below }) new (journal ++ front) step.later (record { carries = d.carries; fine = h.fine }) d.ups_apart step.hears) step.made_is

    -- octets that were given to no system
    injected_holds : (old new : World C) (journal made : List Event) (lan system : ℕ) (octets : List ℕ) (answer : Injected) → answer ≢ WasInjected → Holds old journal
        → Injects link steps wrap old lan system octets answer made new → Holds new (journal ++ made)
    injected_holds old new journal made lan system octets answer refused h step =
        let front : List Event = inject_event system answer ∷ told step.ups in
        let d = injection_carries life titles link steps law old.carrier step.below journal lan system octets answer step.ups refused h.carries step.passes in
        behind new journal made front step.later
        (heard_all step.ups (record old { carrier = step.below }) new (journal ++ front) step.later (record { carries = d.carries; fine = h.fine }) d.ups_apart step.hears) step.made_is

    -- ---- ticks

    entity_ticked : (system : ℕ) (old : World C) (made : List Event) (new : World C) → TicksEntity link steps wrap system old made new → (journal : List Event) → Holds old journal → Holds new (journal ++ made)
    entity_ticked system old made new (NoneDue o m n entity there none made_is becomes) journal h =
        let fine = entity_fine life titles link steps law old.entities system entity h.fine there in
        let changed = changed_stands life titles link steps law old journal system entity.own (ticking wrap (clock_of link steps old) entity) h fine.0
        (ticking_fine IsApart wrap (clock_of link steps old) entity fine.1) in
        same_holds _ new journal made changed made_is becomes
    entity_ticked system old made new (OneDue o m n entity reference mid here rest there due acts others made_is) journal h =
        let fine = entity_fine life titles link steps law old.entities system entity h.fine there in
        let first : Holds mid (journal ++ here) =
        act_stands life titles link steps law old mid journal here system entity.own (ticking wrap (clock_of link steps old) entity) h fine.0 (ticking_fine IsApart wrap (clock_of link steps old) entity fine.1) acts in
        behind new journal made here rest (entity_ticked system mid rest new others (journal ++ here) first) made_is

    all_ticked : (placed : List Placed) (old new : World C) (journal made : List Event) → Holds old journal → TicksAll link steps wrap old placed made new → Holds new (journal ++ made)
    all_ticked [] old new journal made h step = same_holds old new journal made h step.0 step.1
    all_ticked (one ∷ placed) old new journal made h step =
        let first : Holds step.0 (journal ++ step.1) = entity_ticked one.system old step.1 step.0 step.3 journal h in
        behind new journal made step.1 step.2 (all_ticked placed step.0 new (journal ++ step.1) step.2 first step.4) step.5

    ticked : (old new : World C) (journal made : List Event) → Holds old journal → Ticks link steps wrap old made new → Holds new (journal ++ made)
    ticked old new journal made h step =
        let front : List Event = events.Tick ((link old.carrier).clock + 1) ∷ told step.ups in
        let carries = tick_carries life titles link steps law old.carrier step.below journal step.ups h.carries step.passes in
        behind new journal made front step.later
        (all_ticked old.entities (record old { carrier = step.below }) new (journal ++ front) step.later (record { carries = carries; fine = h.fine }) step.all) step.made_is

    settled : (count : ℕ) (old : World C) (made : List Event) (new : World C) → Settles link steps wrap count old made new → (journal : List Event) → Holds old journal → Holds new (journal ++ made)
    settled count old made new (NoneLeft n o m l fresh made_is same) journal h =
        told_holds old new journal made (events.Settle (Settled count) ∷ []) h (record { other = tt; clock = λ now. refl }, tt) made_is same
    settled count old made new (TooMany n o m l pair fresh most made_is same) journal h =
        told_holds old new journal made (events.Settle (Stopped count) ∷ []) h (record { other = tt; clock = λ now. refl }, tt) made_is same
    settled count old made new (OneMore n o m l pair mid here rest fresh low delivers settles made_is) journal h =
        let first : Holds mid (journal ++ here) = delivered old mid journal here pair.0 pair.1 WasPicked h delivers in
        behind new journal made here rest (settled (count + 1) mid rest new settles (journal ++ here) first) made_is

    -- ---- the lines

    line_holds : (line : Line) (old new : World C) (journal made : List Event) → (link new.carrier).honest ≡ true → Holds old journal → RunsLine link steps wrap titles old line made new → Holds new (journal ++ made)
    line_holds lines.Nothing old new journal made honest h step = same_holds old new journal made h step.0 step.1
    line_holds (lines.Connect system selector to called_selector options octets) old new journal made honest h step =
        let asks = step.4 in
        connected old new journal made system step.1 h (subst IsApart (sym asks.1) (transport_apart step.0)) asks.4
    line_holds (lines.Accept end options octets) old new journal made honest h step = called old new journal made end _ h step
    line_holds (lines.Refuse end octets) old new journal made honest h step = called old new journal made end (asks.Refuse octets) h step
    line_holds (lines.Disconnect end octets) old new journal made honest h step = called old new journal made end (asks.Disconnect octets) h step
    line_holds (lines.Data end octets) old new journal made honest h step = called old new journal made end (asks.Normal octets) h step
    line_holds (lines.Expedite end octets) old new journal made honest h step = called old new journal made end (asks.Urgent octets) h step
    line_holds (lines.Window end credit) old new journal made honest h step = called old new journal made end (asks.Window credit) h step
    line_holds (lines.Unit system to wish octets) old new journal made honest h step =
        let raw = step.4 in
        let carries = raw_carries life titles link steps law old.carrier raw.0 journal made system step.0 step.1 wish octets h.carries step.2 raw.1 in
        subst (λ (w : World C). Holds w (journal ++ made)) (sym raw.2) (record { carries = carries; fine = h.fine })
    line_holds lines.Tick old new journal made honest h step = ticked old new journal made h step
    line_holds (lines.Deliver number system) old new journal made honest h step = delivered old new journal made number system step.0 h step.1
    line_holds lines.Settle old new journal made honest h step = settled 0 old made new step journal h
    line_holds (lines.Inject lan system octets) old new journal made honest h step =
        injected_holds old new journal made lan system octets step.0 (not_taken link steps law old new step.0 made (injected link steps law wrap old new lan system octets step.0 made step.1) honest) h step.1
    line_holds (lines.Restart system) old new journal made honest h step =
        let told : Holds old (journal ++ made) = told_holds old old journal made (events.Restart system ∷ []) h (record { other = tt; clock = λ now. refl }, tt) step.2 refl in
        let fine = entity_fine life titles link steps law old.entities system step.0 h.fine step.1 in
        subst (λ (w : World C). Holds w (journal ++ made)) (sym step.3) (record {
          carries = told.carries;
          fine = with_fine life titles link steps law old.entities system (restarted (clock_of link steps old) step.0) h.fine (fine.0, new_ends _ (nothing_stands (length step.0.ends)));
        })
    line_holds line old new journal made honest h step = absurd step

    lines_hold : (script : List Line) (first last : World C) (journal rest : List Event) → (link last.carrier).honest ≡ true → Holds first journal
        → RunsLines link steps wrap titles first script rest last → Holds last (journal ++ rest)
    lines_hold [] first last journal rest honest h run = same_holds first last journal rest h run.0 run.1
    lines_hold (line ∷ script) first last journal rest honest h run =
        let here : Holds run.0 (journal ++ run.1) = line_holds line first run.0 journal run.1 (lines_back link steps law wrap titles script run.0 last run.2 run.5 honest) h run.3 in
        behind last journal rest run.1 run.2 (lines_hold script run.0 last (journal ++ run.1) run.2 honest here run.5) run.4

  -- ---- the start

  new_fine : (placed : List Placed) → AllByRecursion (IsNew titles) placed → AreFine life titles link steps law placed
  new_fine [] all = tt
  new_fine (one ∷ placed) all =
      let new = all.0 in
      ((subst IsApart (sym new.own) (transport_apart new.title), new_ends one.entity.ends new.none), new_fine placed all.1)

  nothing_apart : (state : Link (List ℕ)) → state.floating ≡ [] → AreApart life titles link steps law state.floating
  nothing_apart state none entry there =
      let nowhere : Contains [] entry = subst (λ (f : List (ℕ × CarriedUnit (List ℕ))). Contains f entry) none there in
      absurd (omega (arith, nowhere.1))

  first_holds : (made : C) (placed : List Placed) (begun : List Event) (first : World C) → IsFirst life titles (link made) placed → Starts link steps made placed begun first → Holds first begun
  first_holds made placed begun first is start =
      subst (λ (w : World C). Holds w begun) (sym start.becomes)
      (record {
        carries = record {
          rests = first_rests link steps law life titles made start.below begun is.carrier_is (start.ups, start.gathers, start.made_is);
          apart = apart_on life titles link steps law (link made) (link start.below) start.gathers.grows (nothing_apart (link made) is.carrier_is.none);
        };
        fine = new_fine placed is.entities;
      })

-- each raw unit that is shown was sent
pub sent_where_honest : {C : Type 0} (link : C → Link (List ℕ)) (steps : C → Call (List ℕ) → C → Type 0) → ((old : C) (call : Call (List ℕ)) (new : C) → steps old call new → Keeps (link old) call (link new))
    → ShowsSentWhereHonest link steps
sent_where_honest link steps law wrap life titles made placed begun journal script first last is start run honest =
    (lines_hold life titles link steps law wrap script first last begun journal honest (first_holds life titles link steps law made placed begun first is start) run).carries.rests.stands.lawful

-- as it starts the carrier is honest
pub first_honest : {C : Type 0} (link : C → Link (List ℕ)) (steps : C → Call (List ℕ) → C → Type 0) (life : ℕ) (titles : List (List ℕ)) (made : C) (placed : List Placed) (begun : List Event) (first : World C)
    → IsFirst life titles (link made) placed → Starts link steps made placed begun first → (link first.carrier).honest ≡ true
first_honest {C} link steps life titles made placed begun first is start =
    ap (λ (w : World C). (link w.carrier).honest) start.becomes ∙ start.gathers.stands.honest ∙ is.carrier_is.honest

pub shows_sent : {C : Type 0} (link : C → Link (List ℕ)) (steps : C → Call (List ℕ) → C → Type 0) → ((old : C) (call : Call (List ℕ)) (new : C) → steps old call new → Keeps (link old) call (link new))
    → ShowsSent link steps
shows_sent link steps law wrap life titles made placed begun journal script first last is start none run =
    sent_where_honest link steps law wrap life titles made placed begun journal script first last is start run
    (lines_alike link steps law wrap titles script first last journal none run ∙ first_honest link steps life titles made placed begun first is start)
