-- Whatever happens in a network, what the rows of ends keep of their states at each tick is so of each of its ends.
use Rattle.std.proofs.Common.{◌≡◌, inl, inr, ℕ, ◌+◌, ◌≤◌, Bool, true, false, List, [], ◌∷◌, ◌++◌, length, Option, Some, None, refl, sym, ◌∙◌, ap, subst, arith}
use Rattle.std.specs.List.{AllByRecursion}
use Rattle.std.proofs.lemmas.Bool.{cases_eq}
use Rattle.std.proofs.lemmas.Option.{none-some, same_Some}
use Rattle.osi_base.specs.Calls.{Call, Choose, Inject, Keeps, Tick}
use Rattle.osi_base.specs.Link.{Link}
use Rattle.osi_base.specs.declared.unit.Arrival.{Arrival}
use Rattle.osi_base.specs.declared.unit.Picked.TheVariants as picks
use Rattle.osi_base.specs.declared.unit.Up.{Up}
use Rattle.osi_base.specs.declared.unit.Up.TheVariants.{Unit as Came, Note as Noted}
use Rattle.script_journal.specs.declared.cause.Refused.{Refused}
use Rattle.script_journal.specs.declared.cause.Refused.TheVariants as refusals
use Rattle.script_journal.specs.declared.event.Event.{Event}
use Rattle.tpdu.specs.Values.{TpduAndSum}
use Rattle.tpdu.specs.declared.tpdu.Tpdu.{Tpdu}
use Rattle.tp4_number.specs.Number.{whole}
use Rattle.tp4_conn.specs.End.{End, Moved, end_of}
use Rattle.tp4_conn.specs.Making.{connected}
use Rattle.tp4_conn.specs.Table.{Called, Event as Happens, Ticked, Took, due, stepped}
use Rattle.tp4_conn.specs.declared.call.ConnectCall.{ConnectCall}
use Rattle.tp4_conn.specs.declared.call.ConnectRequest.{ConnectRequest}
use Rattle.tp4_conn.specs.declared.call.UserCall.{UserCall}
use Rattle.tp4_conn.specs.declared.states.StateData.{StateData}
use Rattle.tp4_conn.specs.declared.states.StateData.TheVariants.{UserWait}
use Rattle.tp4_conn.specs.declared.timers.Timers.{Timers}
use Rattle.tp4_entity.specs.declared.refusal.ConnectRefusal.{ConnectRefusal}
use Rattle.tp4_entity.specs.declared.refusal.EntityRefusal.{EntityRefusal}
use Rattle.tp4_entity.specs.Association.{met}
use Rattle.tp4_entity.specs.Entity.{Acted, Entity, at, end_at, with_end}
use Rattle.tp4_entity.specs.References.{least_free}
use Rattle.tp4_entity.specs.Silence.{is_silent}
use Rattle.tp4_entity.specs.Step.{call_of, calling, calling_end, connect_refusal, connecting, first_due, kept_end, restarted, ticking, ticking_at, ticking_end, user_refusal}
use Rattle.tp4_entity.specs.Unit.{TakesBy, TakesUnit, all_met}
use Rattle.tp4_entity.proofs.Restarts.{none_stands}
use Rattle.tp4_entity.proofs.Standings.{free_least, within}
use Rattle.tp4_world.specs.Called as requests
use Rattle.tp4_world.specs.Called.{Did, DidAll, WorldCall}
use Rattle.tp4_world.specs.First.{HasNoEnd}
use Rattle.tp4_world.specs.Run.{Acts, Arrives, BeginsAt, CallsAt, CallsBy, CallsEnd, ConnectsBy, HearsAll, HearsIf, IsRefused, NoneDue, NoneLeft, OneDue, OneMore, Settles, TicksAll, TicksEntity, TooMany, clock_of, is_for}
use Rattle.tp4_world.specs.Ended.{has_ended}
use Rattle.tp4_world.specs.World.{World, end_numbered, entity_at, with_entity}
use Rattle.tp4_world.specs.declared.place.EndAt.{EndAt}
use Rattle.tp4_world.specs.declared.place.Placed.{Placed}
use Rattle.tp4_world.proofs.Having.{with_any}
use Rattle.law_tp4_lawful.specs.Called.{AreHonestCalls}
use Rattle.law_tp4_lawful.proofs.MakesPlaces.{at_other, at_same}
use Rattle.law_tp4_lawful.proofs.ReferencesSince.{passed, raw_sent, sent_all}
use Rattle.law_tp4_lawful.proofs.WorldStarts.{found, no_end_at, no_ends}
use Rattle.law_recovery_run.proofs.Places.{ComesFrom, New, Was, Went, comes_from, met_is}

-- the end that a tick left
kept_is : (m : Moved) (tick : Option ℕ) (z : End) → kept_end m tick ≡ Some z → z ≡ end_of m
kept_is m None z is = absurd (none-some z is)
kept_is m (Some tick) z is = sym (same_Some (end_of m) z is)

module _ (P : ℕ → StateData → Type 0) (row : (now : ℕ) (o : End) (event : Happens) → P now o.stage → P now (stepped whole now o event).stage)
    (later : (now next : ℕ) (stage : StateData) → now ≤ next → P now stage → P next stage) (begins : (now : ℕ) (call : ConnectCall) → P now (connected now call).stage) (asked : (now since : ℕ) → P now (UserWait since)) where
  -- ---- an entity

  -- each end of it has it
  abbrev EndsHave : ℕ → Entity → Type 0
  EndsHave now e = (reference : ℕ) (end : End) → end_at e reference ≡ Some end → P now end.stage

  module _ (now : ℕ) where
    placed_so : (e : Entity) (reference : ℕ) (place : Option End) → 1 ≤ reference → reference ≤ length e.ends → EndsHave now e → ((p : End) → place ≡ Some p → P now p.stage)
        → EndsHave now (with_end e reference place)
    placed_so e reference place least most was one other end is = elim (cases_eq other reference) [
      | inl same ↦ one end (sym (at_same e reference place least most) ∙ ap (end_at (with_end e reference place)) (sym same) ∙ is)
      | inr apart ↦ was other end (sym (at_other e reference other place least apart) ∙ is)
    ]

    abbrev Any : Tpdu → Bool → Type 0
    Any t sum = Prim.Unit {0}

    met_so : (e : Entity) (from : List ℕ) (t : TpduAndSum) → EndsHave now e → EndsHave now (met whole now e from t).entity
    met_so e from t was reference end is = by (comes_from Any now e from (met whole now e from t) (met_is Any now e from t.0 t.1 tt) reference end is)
      where
        by : ComesFrom Any now e from (met whole now e from t) reference end → P now end.stage
        by (Was stands) = was reference end stands
        by (Went p tpdu sum stands fit same) = subst (λ (z : End). P now z.stage) (sym same) (row now p (Took tpdu sum) (was reference p stands))
        by (New base octets same) = subst (λ (z : End). P now z.stage) (sym same) (asked now base.clock)

    all_so : (e : Entity) (from : List ℕ) (tpdus : List TpduAndSum) → EndsHave now e → EndsHave now (all_met whole now e from tpdus).entity
    all_so e from [] was = was
    all_so e from (t ∷ tpdus) was = all_so (met whole now e from t).entity from tpdus (met_so e from t was)

    take_so : (e : Entity) (from octets : List ℕ) (acted : Acted) → EndsHave now e → TakesUnit whole now e from octets acted → EndsHave now acted.entity
    take_so e from octets acted was = by (is_silent now e)
      where
        by : (silent : Bool) → TakesBy silent whole now e from octets acted → EndsHave now acted.entity
        by true is = subst (λ (a : Acted). EndsHave now a.entity) (sym is) was
        by false h = subst (EndsHave now) (sym h.entity) (all_so (at now e) from h.tpdus was)

    call_so : (e : Entity) (reference : ℕ) (call : UserCall) → EndsHave now e → EndsHave now (calling whole now e reference call).entity
    call_so e reference call was = by (end_at e reference) refl
      where
        by : (place : Option End) → end_at e reference ≡ place → EndsHave now (calling_end whole now (at now e) reference call place).entity
        by None is = was
        by (Some o) is =
            let inside = within e reference o is in
            placed_so (at now e) reference (Some (end_of (stepped whole now o (Called call)))) inside.least inside.most was
            (λ p same. subst (λ (z : End). P now z.stage) (same_Some (end_of (stepped whole now o (Called call))) p same) (row now o (Called call) (was reference o is)))

    connect_so : (e : Entity) (reference : ℕ) (request : ConnectRequest) → least_free now e ≡ Some reference → EndsHave now e → EndsHave now (connecting now e reference request).entity
    connect_so e reference request least was =
        let free = free_least now reference e least in
        placed_so (at now e) reference (Some (end_of (connected now (call_of e reference request)))) free.least free.most was
        (λ p same. subst (λ (z : End). P now z.stage) (same_Some (end_of (connected now (call_of e reference request))) p same) (begins now (call_of e reference request)))

    ticks_so : (e : Entity) → EndsHave now e → EndsHave now (ticking whole now e).entity
    ticks_so e was = by (first_due now e)
      where
        at_place : (reference : ℕ) (place : Option End) → end_at e reference ≡ place → EndsHave now (ticking_end whole now (at now e) reference place).entity
        at_place reference None is = was
        at_place reference (Some o) is =
            let inside = within e reference o is in
            let m : Moved = stepped whole now o Ticked in
            placed_so (at now e) reference (kept_end m (due m.base m.stage)) inside.least inside.most was
            (λ p same. subst (λ (z : End). P now z.stage) (sym (kept_is m (due m.base m.stage) p same)) (row now o Ticked (was reference o is)))

        by : (found : Option ℕ) → EndsHave now (ticking_at whole now (at now e) found).entity
        by None = was
        by (Some reference) = at_place reference (end_at e reference) refl

  -- ---- the network

  abbrev AllHave : ℕ → List Placed → Type 0
  AllHave now placed = (system : ℕ) (e : Entity) → entity_at placed system ≡ Some e → EndsHave now e

  with_so : (now : ℕ) (placed : List Placed) (system : ℕ) (e : Entity) → AllHave now placed → EndsHave now e → AllHave now (with_entity placed system e)
  with_so now placed system e was one other z is = elim (with_any placed system other e z is) [
    | inl here ↦ subst (EndsHave now) (sym here.1) one
    | inr before ↦ was other z before
  ]

  module _ {C : Type 0} (link : C → Link (List ℕ)) (steps : C → Call (List ℕ) → C → Type 0)
      (law : (old : C) (call : Call (List ℕ)) (new : C) → steps old call new → Keeps (link old) call (link new)) where
    abbrev IsSo : World C → Type 0
    IsSo world = AllHave (link world.carrier).clock world.entities

    -- nothing but the carrier, no earlier
    still : (old new : World C) → new.entities ≡ old.entities → (link old.carrier).clock ≤ (link new.carrier).clock → IsSo old → IsSo new
    still old new entities low was system e is reference end stands =
        later (link old.carrier).clock (link new.carrier).clock end.stage low (was system e (ap (λ (ps : List Placed). entity_at ps system) (sym entities) ∙ is) reference end stands)

    same : (old new : World C) → new ≡ old → IsSo old → IsSo new
    same old new is was = subst IsSo (sym is) was

    acts : (old new : World C) (system : ℕ) (own : List ℕ) (acted : Acted) (made : List Event) → IsSo old → EndsHave (link old.carrier).clock acted.entity → Acts link steps old system own acted made new → IsSo new
    acts old new system own acted made was one a =
        let since = (sent_all link steps law acted.tpdus old.carrier a.below system own a.sent a.sends).clock in
        let clock : (link a.below).clock ≡ (link old.carrier).clock = omega (arith, since) in
        subst IsSo (sym a.becomes)
        (subst (λ (now : ℕ). AllHave now (with_entity old.entities system acted.entity)) (sym clock) (with_so (link old.carrier).clock old.entities system acted.entity was one))

    refused : (old new : World C) (made : List Event) (why : Option Refused) → IsSo old → IsRefused link steps old why made new → IsSo new
    refused old new made None was s = absurd s
    refused old new made (Some why) was s = same old new s.1 was

    -- ---- what users ask

    begun : (old new : World C) (made : List Event) (system : ℕ) (entity : Entity) (request : ConnectRequest) (found : Option ℕ) → IsSo old → entity_at old.entities system ≡ Some entity
        → least_free (clock_of link steps old) entity ≡ found → BeginsAt link steps old system entity request found made new → IsSo new
    begun old new made system entity request None was there least s = absurd s
    begun old new made system entity request (Some reference) was there least s =
        acts (record old { ends = old.ends ++ record { system = system; reference = reference } ∷ [] }) new system entity.own (connecting (link old.carrier).clock entity reference request) s.0 was
        (connect_so (link old.carrier).clock entity reference request least (was system entity there)) s.1

    connect_by : (old new : World C) (made : List Event) (system : ℕ) (entity : Entity) (request : ConnectRequest) (why : Option ConnectRefusal) → IsSo old → entity_at old.entities system ≡ Some entity
        → ConnectsBy link steps old system entity request why made new → IsSo new
    connect_by old new made system entity request (Some why) was there s = refused old new made _ was s
    connect_by old new made system entity request None was there s = begun old new made system entity request (least_free (clock_of link steps old) entity) was there refl s

    call_by : (old new : World C) (made : List Event) (number : ℕ) (end : EndAt) (entity : Entity) (call : UserCall) (why : Option EntityRefusal) → IsSo old → entity_at old.entities end.system ≡ Some entity
        → CallsBy link steps whole old number end entity call why made new → IsSo new
    call_by old new made number end entity call (Some why) was there s = refused old new made _ was s
    call_by old new made number end entity call None was there s =
        acts old new end.system entity.own (calling whole (link old.carrier).clock entity end.reference call) s.0 was (call_so (link old.carrier).clock entity end.reference call (was end.system entity there)) s.1

    call_end : (old new : World C) (made : List Event) (number : ℕ) (end : EndAt) (entity : Entity) (call : UserCall) (ended : Bool) → IsSo old → entity_at old.entities end.system ≡ Some entity
        → CallsEnd link steps whole old number end entity call ended made new → IsSo new
    call_end old new made number end entity call true was there s = refused old new made (Some refusals.Ended) was s
    call_end old new made number end entity call false was there s = call_by old new made number end entity call (user_refusal entity end.reference call) was there s

    call_at : (old new : World C) (made : List Event) (number : ℕ) (call : UserCall) (end : Option EndAt) → IsSo old → CallsAt link steps whole old number call end made new → IsSo new
    call_at old new made number call None was s = refused old new made (Some refusals.NoSuchEnd) was s
    call_at old new made number call (Some end) was s = call_end old new made number end s.0 call (has_ended (clock_of link steps old) old.ends number end s.0) was s.1 s.2

    -- ---- what comes up

    heard_if : (old new : World C) (made : List Event) (arrival : Arrival (List ℕ)) (entity : Option Entity) (fits : Bool) → IsSo old → entity_at old.entities arrival.system ≡ entity
        → HearsIf link steps whole old arrival entity fits made new → IsSo new
    heard_if old new made arrival None fits was there s = same old new s.1 was
    heard_if old new made arrival (Some entity) false was there s = same old new s.1 was
    heard_if old new made arrival (Some entity) true was there s =
        acts old new arrival.system entity.own s.0 made was (take_so (link old.carrier).clock entity arrival.unit.from arrival.unit.octets s.0 (was arrival.system entity there) s.1) s.2

    heard_all : (ups : List (Up (List ℕ))) (old new : World C) (made : List Event) → IsSo old → HearsAll link steps whole old ups made new → IsSo new
    heard_all [] old new made was s = same old new s.1 was
    heard_all (Noted note ∷ ups) old new made was s = heard_all ups old new made was s
    heard_all (Came arrival ∷ ups) old new made was s =
        heard_all ups s.0 new s.2
        (heard_if old s.0 s.1 arrival (entity_at old.entities arrival.system) (is_for link steps whole arrival.unit.to (entity_at old.entities arrival.system)) was refl s.3) s.4

    arrived : (old new : World C) (made : List Event) (call : Call (List ℕ)) (own : Event) → IsSo old → (a : Arrives link steps whole old call own made new) → (link old.carrier).clock ≤ (link a.below).clock
        → IsSo new
    arrived old new made call own was a low = heard_all a.ups (record old { carrier = a.below }) new a.later (still old (record old { carrier = a.below }) refl low was) a.hears

    settled : (count : ℕ) (old : World C) (made : List Event) (new : World C) → IsSo old → Settles link steps whole count old made new → IsSo new
    settled count old made new was (NoneLeft n o m l fresh made_is is) = same old new is was
    settled count old made new was (TooMany n o m l pair fresh most made_is is) = same old new is was
    settled count old made new was (OneMore n o m l pair mid here rest fresh low delivers settles made_is) =
        let clock = (passed link steps law old.carrier delivers.below (Choose pair.0 pair.1 picks.Taken) delivers.ups delivers.passes).clock in
        settled (count + 1) mid rest new (arrived old mid here (Choose pair.0 pair.1 picks.Taken) _ was delivers (omega (arith, clock))) settles

    -- ---- ticks

    entity_ticked : (system : ℕ) (old : World C) (made : List Event) (new : World C) → IsSo old → TicksEntity link steps whole system old made new → IsSo new
    entity_ticked system old made new was (NoneDue o m n entity there none made_is becomes) =
        let now : ℕ = (link old.carrier).clock in
        subst IsSo (sym becomes) (with_so now old.entities system (ticking whole now entity).entity was (ticks_so now entity (was system entity there)))
    entity_ticked system old made new was (OneDue o m n entity reference mid here rest there due_at did others made_is) =
        let now : ℕ = (link old.carrier).clock in
        entity_ticked system mid rest new (acts old mid system entity.own (ticking whole now entity) here was (ticks_so now entity (was system entity there)) did) others

    all_ticked : (placed : List Placed) (old new : World C) (made : List Event) → IsSo old → TicksAll link steps whole old placed made new → IsSo new
    all_ticked [] old new made was s = same old new s.1 was
    all_ticked (one ∷ placed) old new made was s = all_ticked placed s.0 new s.2 (entity_ticked one.system old s.1 s.0 was s.3) s.4

    -- ---- the calls

    did : (call : WorldCall) (old new : World C) (made : List Event) → IsSo old → Did link steps whole old call made new → IsSo new
    did (requests.Connect system request) old new made was s = connect_by old new made system s.0 request (connect_refusal (clock_of link steps old) s.0 request.octets) was s.1 s.2
    did (requests.Ask end call) old new made was s = call_at old new made end call (end_numbered old.ends end) was s
    did (requests.Raw system sender receiver wish octets) old new made was s =
        let clock = (raw_sent link steps law old.carrier s.0 system sender receiver octets wish made s.1).clock in
        subst IsSo (sym s.2) (still old (record old { carrier = s.0 }) refl (omega (arith, clock)) was)
    did (requests.Deliver number system answer) old new made was s =
        let clock = (passed link steps law old.carrier s.below (Choose number system answer) s.ups s.passes).clock in
        arrived old new made (Choose number system answer) _ was s (omega (arith, clock))
    did (requests.Inject lan system octets answer) old new made was s =
        let clock = (passed link steps law old.carrier s.below (Inject lan system octets answer) s.ups s.passes).clock in
        arrived old new made (Inject lan system octets answer) _ was s (omega (arith, clock))
    did (requests.Restart system) old new made was s =
        let now : ℕ = (link old.carrier).clock in
        subst IsSo (sym s.3) (with_so now old.entities system (restarted now s.0) was (λ reference end is. absurd (none-some end (sym (none_stands now reference s.0) ∙ is))))
    did requests.Pass old new made was s =
        let clock = (passed link steps law old.carrier s.below Tick s.ups s.passes).clock in
        all_ticked old.entities (record old { carrier = s.below }) new s.later (still old (record old { carrier = s.below }) refl (omega (arith, clock)) was) s.all
    did requests.Settle old new made was s = settled 0 old made new was s

    did_all : (calls : List WorldCall) (first last : World C) (journal : List Event) → IsSo first → DidAll link steps whole first calls journal last → IsSo last
    did_all [] first last journal was s = same first last s.1 was
    did_all (call ∷ calls) first last journal was s = did_all calls s.0 last s.2 (did call first s.0 s.1 was s.3) s.5

    -- so after any calls
    pub each_has : (titles : List (List ℕ)) (timers : Timers) (journal : List Event) (last : World C) → AreHonestCalls link steps whole titles timers journal last → (system own : ℕ) (entity : Entity) (e : End)
        → entity_at last.entities system ≡ Some entity → end_at entity own ≡ Some e → P (link last.carrier).clock e.stage
    each_has titles timers journal last a system own entity e there stands =
        let r = a.run in
        let none : AllByRecursion (λ (one : Placed). HasNoEnd one.entity) r.first.entities =
        subst (λ (world : World C). AllByRecursion (λ (one : Placed). HasNoEnd one.entity) world.entities) (sym r.starts.becomes) (no_ends titles r.placed r.is_first.entities) in
        let began : IsSo r.first = λ s z is reference end at_it.
        let f = found (λ (one : Placed). HasNoEnd one.entity) r.first.entities s z none is in
        absurd (none-some end (sym (no_end_at f.one.entity f.holds reference) ∙ ap (λ (x : Entity). end_at x reference) f.entity_is ∙ at_it)) in
        did_all r.calls r.first last r.later began r.did system entity there own e stands
