-- A network along lines without an injection, whatever is lost: each call of its carrier is a usual one. For each entity sends from the address of its system to those of others, as it takes
-- units from such addresses alone; and each raw unit goes between users of raw units.
use Rattle.std.proofs.Common.{◌≡◌, ℕ, zero, suc, ◌+◌, Bool, true, false, List, [], ◌∷◌, ◌++◌, length, slice_get, Option, Some, None, refl, sym, ◌∙◌, ap, subst, inl, inr, arith}
use Rattle.std.specs.Prelude.{◌==◌, ◌&&◌, nat_eq, replicate}
use Rattle.std.specs.Cmp.Lexicographic.{pointwise}
use Rattle.std.specs.List.{All, AllByRecursion, Contains}
use Rattle.std.proofs.lemmas.List.Elements.{All-head, All-tail}
use Rattle.nsap.specs.Address.{selector_of, system_part}
use Rattle.nsap.proofs.AddressLemmas.{selector_of-append}
use Rattle.osi_base.specs.Calls.{Call, Choose, Keeps, Offer, Tick}
use Rattle.osi_base.specs.Link.{IsLawful, Link}
use Rattle.osi_base.specs.declared.unit.Arrival.{Arrival}
use Rattle.osi_base.specs.declared.unit.Offered.{Offered}
use Rattle.osi_base.specs.declared.unit.Picked.{Picked}
use Rattle.osi_base.specs.declared.unit.Picked.TheVariants.{Taken as WasPicked}
use Rattle.osi_base.specs.declared.unit.Unit.{Unit as CarriedUnit}
use Rattle.osi_base.specs.declared.unit.Up.{Up}
use Rattle.osi_base.specs.declared.unit.Up.TheVariants.{Unit as Came, Note as Noted}
use Rattle.osi_base.specs.declared.unit.Wish.{Wish}
use Rattle.script_journal.specs.RawLawful.{raw_address}
use Rattle.script_journal.specs.declared.cause.Refused.{Refused}
use Rattle.script_journal.specs.declared.event.Event.{Event}
use Rattle.script_lines.specs.Injecting.{HasNoInject, IsNoInjection}
use Rattle.script_lines.specs.declared.line.Line.{Line}
use Rattle.script_lines.specs.declared.line.Line.TheVariants as lines
use Rattle.net_world.specs.Fifo.{IsBetween}
use Rattle.net_world.specs.Prompt.{IsUsual}
use Rattle.net_world.specs.Run.{Passes, SendsUnit, raw_unit}
use Rattle.net_world.proofs.Standing.{these_waited}
use Rattle.tp4_flow.specs.declared.step.Sent.{Sent}
use Rattle.tp4_conn.specs.End.{End}
use Rattle.tp4_conn.specs.declared.call.ConnectRequest.{ConnectRequest}
use Rattle.tp4_conn.specs.declared.call.UserCall.{UserCall}
use Rattle.tp4_conn.specs.declared.call.UserCall.TheVariants as asks
use Rattle.tp4_entity.specs.Entity.{Acted, Entity}
use Rattle.tp4_entity.specs.References.{least_free}
use Rattle.tp4_entity.specs.Step.{calling, connect_refusal, connecting, restarted, ticking, user_refusal}
use Rattle.tp4_entity.specs.declared.refusal.ConnectRefusal.{ConnectRefusal}
use Rattle.tp4_entity.specs.declared.refusal.EntityRefusal.{EntityRefusal}
use Rattle.tp4_world.specs.First.{IsFirst, IsNew}
use Rattle.tp4_world.specs.Run.{Acts, BeginsAt, Calls, CallsAt, CallsBy, CallsEnd, Connects, ConnectsBy, Delivers, Hears, HearsAll, HearsIf, IsRefused, NoneDue, NoneLeft, OneDue, OneMore, Restarts, RunsLine, RunsLines, SendsRaw, SendsTpdu, SendsTpdus, Settles, Starts, Ticks, TicksAll, TicksEntity, TooMany, clock_of, is_for, transport_address, transport_wish}
use Rattle.tp4_world.specs.Ended.{has_ended}
use Rattle.tp4_world.specs.Telling.{told_connect, told_refusal}
use Rattle.tp4_world.specs.World.{World, end_numbered, entity_at, with_entity}
use Rattle.tp4_world.specs.declared.place.EndAt.{EndAt}
use Rattle.tp4_world.specs.declared.place.Placed.{Placed}
use Rattle.tp4_world.proofs.Destinations.{ActsFine, EndsFine, SentFine, calling_fine, connecting_fine, taking_fine, ticking_fine}
use Rattle.tp4_world.proofs.Having.{with_any}
use Rattle.law_calm_run.specs.Run.{HaveEntities, IsUnrouted}
use Rattle.law_calm_run.proofs.Going.{have_after}
use Rattle.law_calm_run.proofs.Hall.{IsAddress}
use Rattle.law_calm_run.proofs.Queueing.{raw_between}
use Rattle.law_calm_run.proofs.Starting.{none_fine}
use Rattle.law_tp4_lawful.proofs.WorldStarts.{found}
use Rattle.law_recovery_run.specs.Ordered.{LeadsOn, ReachedFrom}

-- ---- ends that are none

empty_fine : (Fine : List ℕ → Type 0) (count : ℕ) → EndsFine Fine (replicate count (let none : Option End = None in none))
empty_fine Fine zero = tt
empty_fine Fine (suc count) = (tt, empty_fine Fine count)

first_true : (one other : Bool) → (one && other) ≡ true → one ≡ true
first_true true other is = refl
first_true false other is = absurd cc

raw_is : (n : ℕ) → n ≡ 2 → (n == 1) ≡ true → ⊥
raw_is n two one = grind arith

none_floats : (entry : ℕ × CarriedUnit (List ℕ)) → Contains [] entry → ⊥
none_floats entry there = omega (arith, there.1)

-- ---- calls of the carrier

-- calls, and one more
leads_more : {C : Type 0} (link : C → Link (List ℕ)) (steps : C → Call (List ℕ) → C → Type 0) (titles : List (List ℕ)) (calls : List (Call (List ℕ))) (old mid new : C) (call : Call (List ℕ)) (ups : List (Up (List ℕ)))
    → LeadsOn link steps titles old calls mid → IsUsual titles call → Passes link steps mid call ups new → LeadsOn link steps titles old (calls ++ call ∷ []) new
leads_more {C} link steps titles [] old mid new call ups leads usual pass = (usual, (new, ups, subst (λ (c : C). Passes link steps c call ups new) leads pass, refl))
leads_more link steps titles (one ∷ calls) old mid new call ups leads usual pass =
    (leads.0, (leads.1.0, leads.1.1, leads.1.2, leads_more link steps titles calls leads.1.0 mid new call ups leads.1.3 usual pass))

module _ {C : Type 0} (link : C → Link (List ℕ)) (steps : C → Call (List ℕ) → C → Type 0)
    (law : (old : C) (call : Call (List ℕ)) (new : C) → steps old call new → Keeps (link old) call (link new)) (wrap : ℕ → ℕ → ℕ) (titles : List (List ℕ)) (first : C) where
  -- a unit for transport users is from transport users of a system
  abbrev pub IsFromSystem : CarriedUnit (List ℕ) → Type 0
  IsFromSystem unit = (selector_of unit.to == 1) ≡ true → IsAddress titles unit.from

  -- usual calls led to the carrier, nothing was injected, and each unit for transport users that floats is from a system
  pub record Bears (state : C) : Type 0 where
    pub reached : ReachedFrom link steps titles first state
    pub quiet : (link state).waiting ≡ []
    pub honest : (link state).honest ≡ true
    pub from : (entry : ℕ × CarriedUnit (List ℕ)) → Contains (link state).floating entry → IsFromSystem entry.1

  reached_on : (old new : C) (call : Call (List ℕ)) (ups : List (Up (List ℕ))) → ReachedFrom link steps titles first old → IsUsual titles call → Passes link steps old call ups new
      → ReachedFrom link steps titles first new
  reached_on old new call ups reached usual pass = (reached.0 ++ call ∷ [], leads_more link steps titles reached.0 first old new call ups reached.1 usual pass)

  offered : (old new : C) (unit : CarriedUnit (List ℕ)) (wish : Wish) (answer : Offered) (ups : List (Up (List ℕ))) → Bears old → IsBetween titles unit → wish.path ≡ 0 → IsFromSystem unit
      → Passes link steps old (Offer unit wish answer) ups new → Bears new
  offered old new unit wish answer ups b between path from pass =
      let offers = law old (Offer unit wish answer) pass.called pass.steps_to in
      let up = pass.gathers in
      record {
        reached = reached_on old new (Offer unit wish answer) ups b.reached (between, path) pass;
        quiet = up.quiet;
        honest = up.stands.honest ∙ offers.honest ∙ b.honest;
        from = λ entry there transport.
            elim (offers.grows entry (up.grows entry there)) [
              | inl before ↦ b.from entry before transport
              | inr here ↦
                  let for_unit : (selector_of unit.to == 1) ≡ true = subst (λ (e : ℕ × CarriedUnit (List ℕ)). (selector_of e.1.to == 1) ≡ true) here.1 transport in
                  subst (λ (e : ℕ × CarriedUnit (List ℕ)). IsAddress titles e.1.from) (sym here.1) (from for_unit)
            ];
      }

  -- what comes up is from a system
  abbrev pub IsFromHere : Up (List ℕ) → Type 0
  IsFromHere (Noted note) = Unit {0}
  IsFromHere (Came arrival) = IsFromSystem arrival.unit

  lawful_from : (state : C) (ups : List (Up (List ℕ))) → Bears state → All (IsLawful (link state)) ups → AllByRecursion IsFromHere ups
  lawful_from state [] b all = tt
  lawful_from state (Noted note ∷ ups) b all = (tt, lawful_from state ups b (All-tail (IsLawful (link state)) (Noted note) ups all))
  lawful_from state (Came arrival ∷ ups) b all =
      let here = All-head (IsLawful (link state)) (Came arrival) ups all in
      (b.from (here.0.tick, arrival.unit) here.0.taken, lawful_from state ups b (All-tail (IsLawful (link state)) (Came arrival) ups all))

  chosen : (old new : C) (pick system : ℕ) (answer : Picked) (ups : List (Up (List ℕ))) → Bears old → Passes link steps old (Choose pick system answer) ups new → Bears new × AllByRecursion IsFromHere ups
  chosen old new pick system answer ups b pass =
      let chooses = law old (Choose pick system answer) pass.called pass.steps_to in
      let up = pass.gathers in
      let waited = these_waited (link old) chooses.ups ups (link pass.called).waiting b.quiet chooses.adds.waiting up.waited in
      let lawful : All (IsLawful (link old)) ups = subst (λ (u : List (Up (List ℕ))). All (IsLawful (link old)) u) waited (chooses.lawful b.honest) in (
        record {
          reached = reached_on old new (Choose pick system answer) ups b.reached tt pass;
          quiet = up.quiet;
          honest = up.stands.honest ∙ chooses.honest ∙ b.honest;
          from = λ entry there. b.from entry (chooses.grows entry (up.grows entry there));
        },
        lawful_from old ups b lawful,
      )

  passed : (old new : C) (ups : List (Up (List ℕ))) → Bears old → Passes link steps old Tick ups new → Bears new
  passed old new ups b pass =
      let ticks = law old Tick pass.called pass.steps_to in
      let up = pass.gathers in
      record {
        reached = reached_on old new Tick ups b.reached tt pass;
        quiet = up.quiet;
        honest = up.stands.honest ∙ ticks.honest ∙ b.honest;
        from = λ entry there. b.from entry (ticks.grows entry (up.grows entry there));
      }

  -- ---- what entities send

  tpdu_sent : (old new : C) (system : ℕ) (title own : List ℕ) (sent : Sent) (made : List Event) → Bears old → slice_get titles system ≡ Some title → own ≡ transport_address title → IsAddress titles sent.to
      → SendsTpdu link steps old system own sent made new → Bears new
  tpdu_sent old new system title own sent made b title_is own_is to s =
      let unit : CarriedUnit (List ℕ) = record { from = own; to = sent.to; octets = s.octets } in
      let between : IsBetween titles unit = record {
        sender = system;
        receiver = to.system;
        from = record { title = title; title_is = title_is; selector = 1; known = inl refl; address_is = own_is };
        to = record { title = to.title; title_is = to.title_is; selector = 1; known = inl refl; address_is = to.address_is };
      } in
      offered old new unit transport_wish s.answer s.ups b between refl (λ transport. record { system = system; title = title; title_is = title_is; address_is = own_is }) s.passes

  tpdus_sent : (tpdus : List Sent) (old new : C) (system : ℕ) (title own : List ℕ) (made : List Event) → Bears old → slice_get titles system ≡ Some title → own ≡ transport_address title
      → SentFine (IsAddress titles) tpdus → SendsTpdus link steps old system own tpdus made new → Bears new
  tpdus_sent [] old new system title own made b title_is own_is to s = subst Bears (sym s.1) b
  tpdus_sent (sent ∷ tpdus) old new system title own made b title_is own_is to s =
      tpdus_sent tpdus s.0 new system title own s.2 (tpdu_sent old s.0 system title own sent s.1 b title_is own_is to.0 s.3) title_is own_is to.1 s.4

  -- ---- the network

  -- an entity at the address of its system, whose ends have partners at such addresses
  pub record IsPlaced (system : ℕ) (entity : Entity) : Type 0 where
    pub title : List ℕ
    pub title_is : slice_get titles system ≡ Some title
    pub own : entity.own ≡ transport_address title
    pub ends : EndsFine (IsAddress titles) entity.ends

  abbrev pub ArePlaced : List Placed → Type 0
  ArePlaced placed = (system : ℕ) (entity : Entity) → entity_at placed system ≡ Some entity → IsPlaced system entity

  pub record Fits (world : World C) : Type 0 where
    pub bears : Bears world.carrier
    pub placed : ArePlaced world.entities
    pub have : HaveEntities titles world.entities

  same_fits : (old new : World C) → Fits old → new ≡ old → Fits new
  same_fits old new f same = subst Fits (sym same) f

  placed_after : (placed : List Placed) (system : ℕ) (new : Entity) → ArePlaced placed → IsPlaced system new → ArePlaced (with_entity placed system new)
  placed_after placed system new all is other x there = elim (with_any placed system other new x there) [
    | inl here ↦ subst (λ (n : ℕ). IsPlaced n x) (sym here.0) (subst (IsPlaced system) (sym here.1) is)
    | inr before ↦ all other x before
  ]

  -- an entity is another now
  became : (world : World C) (system : ℕ) (new : Entity) → Fits world → IsPlaced system new → Fits (record world { entities = with_entity world.entities system new })
  became world system new f is = record {
    bears = f.bears;
    placed = placed_after world.entities system new f.placed is;
    have = have_after titles world.entities system new f.have;
  }

  acted_placed : (system : ℕ) (entity : Entity) (acted : Acted) → IsPlaced system entity → ActsFine (IsAddress titles) entity.own acted → IsPlaced system acted.entity
  acted_placed system entity acted was fine = record { title = was.title; title_is = was.title_is; own = fine.own_is ∙ was.own; ends = fine.ends }

  -- what an entity does
  acts : (old new : World C) (system : ℕ) (entity : Entity) (acted : Acted) (made : List Event) → Fits old → IsPlaced system entity → ActsFine (IsAddress titles) entity.own acted
      → Acts link steps old system entity.own acted made new → Fits new
  acts old new system entity acted made f was fine a =
      subst Fits (sym a.becomes)
      (record {
        bears = tpdus_sent acted.tpdus old.carrier a.below system was.title entity.own a.sent f.bears was.title_is was.own fine.tpdus a.sends;
        placed = placed_after old.entities system acted.entity f.placed (acted_placed system entity acted was fine);
        have = have_after titles old.entities system acted.entity f.have;
      })

  -- ---- what users ask

  refused : (old new : World C) (made : List Event) (why : Option Refused) → Fits old → IsRefused link steps old why made new → Fits new
  refused old new made None f step = absurd step
  refused old new made (Some why) f step = same_fits old new f step.1

  begun : (old new : World C) (made : List Event) (system : ℕ) (entity : Entity) (request : ConnectRequest) (free : Option ℕ) → Fits old → entity_at old.entities system ≡ Some entity
      → IsAddress titles request.to → BeginsAt link steps old system entity request free made new → Fits new
  begun old new made system entity request None f there to step = absurd step
  begun old new made system entity request (Some reference) f there to step =
      let now : ℕ = clock_of link steps old in
      let was = f.placed system entity there in
      let begins : World C = record old { ends = old.ends ++ record { system = system; reference = reference } ∷ [] } in
      let fits : Fits begins = record { bears = f.bears; placed = f.placed; have = f.have } in
      acts begins new system entity (connecting now entity reference request) step.0 fits was (connecting_fine (IsAddress titles) now entity reference request was.ends to) step.1

  connects_by : (old new : World C) (made : List Event) (system : ℕ) (entity : Entity) (request : ConnectRequest) (why : Option ConnectRefusal) → Fits old → entity_at old.entities system ≡ Some entity
      → IsAddress titles request.to → ConnectsBy link steps old system entity request why made new → Fits new
  connects_by old new made system entity request (Some why) f there to step = refused old new made (told_connect why) f step
  connects_by old new made system entity request None f there to step = begun old new made system entity request (least_free (clock_of link steps old) entity) f there to step

  connected : (old new : World C) (made : List Event) (system : ℕ) (request : ConnectRequest) → Fits old → IsAddress titles request.to → Connects link steps old system request made new → Fits new
  connected old new made system request f to step =
      connects_by old new made system step.0 request (connect_refusal (clock_of link steps old) step.0 request.octets) f step.1 to step.2

  call_by : (old new : World C) (made : List Event) (number : ℕ) (end : EndAt) (entity : Entity) (call : UserCall) (why : Option EntityRefusal) → Fits old → entity_at old.entities end.system ≡ Some entity
      → CallsBy link steps wrap old number end entity call why made new → Fits new
  call_by old new made number end entity call (Some why) f there step = refused old new made (told_refusal why) f step
  call_by old new made number end entity call None f there step =
      let now : ℕ = clock_of link steps old in
      let was = f.placed end.system entity there in
      acts old new end.system entity (calling wrap now entity end.reference call) step.0 f was (calling_fine (IsAddress titles) wrap now entity end.reference call was.ends) step.1

  call_end : (old new : World C) (made : List Event) (number : ℕ) (end : EndAt) (entity : Entity) (call : UserCall) (ended : Bool) → Fits old → entity_at old.entities end.system ≡ Some entity
      → CallsEnd link steps wrap old number end entity call ended made new → Fits new
  call_end old new made number end entity call true f there step = same_fits old new f step.1
  call_end old new made number end entity call false f there step = call_by old new made number end entity call (user_refusal entity end.reference call) f there step

  call_at : (old new : World C) (made : List Event) (number : ℕ) (call : UserCall) (end : Option EndAt) → Fits old → CallsAt link steps wrap old number call end made new → Fits new
  call_at old new made number call None f step = same_fits old new f step.1
  call_at old new made number call (Some end) f step = call_end old new made number end step.0 call (has_ended (clock_of link steps old) old.ends number end step.0) f step.1 step.2

  called : (old new : World C) (made : List Event) (number : ℕ) (call : UserCall) → Fits old → Calls link steps wrap old number call made new → Fits new
  called old new made number call f step = call_at old new made number call (end_numbered old.ends number) f step

  -- ---- what comes up

  heard : (old new : World C) (arrival : Arrival (List ℕ)) (made : List Event) → Fits old → IsFromSystem arrival.unit → Hears link steps wrap old arrival made new → Fits new
  heard old new arrival made f from h = by_place (entity_at old.entities arrival.system) refl h
    where
      by_fits : (e : Entity) (fits : Bool) → (selector_of arrival.unit.to == 1 && pointwise nat_eq e.own arrival.unit.to) ≡ fits → entity_at old.entities arrival.system ≡ Some e
          → HearsIf link steps wrap old arrival (Some e) fits made new → Fits new
      by_fits e false is there h = same_fits old new f h.1
      by_fits e true is there h =
          let was = f.placed arrival.system e there in
          let address : IsAddress titles arrival.unit.from = from (first_true (selector_of arrival.unit.to == 1) (pointwise nat_eq e.own arrival.unit.to) is) in
          let now : ℕ = clock_of link steps old in
          acts old new arrival.system e h.0 made f was (taking_fine (IsAddress titles) arrival.unit.from address wrap now e arrival.unit.octets h.0 was.ends h.1) h.2

      by_place : (place : Option Entity) → entity_at old.entities arrival.system ≡ place → HearsIf link steps wrap old arrival place (is_for link steps wrap arrival.unit.to place) made new → Fits new
      by_place None there h = same_fits old new f h.1
      by_place (Some e) there h = by_fits e (selector_of arrival.unit.to == 1 && pointwise nat_eq e.own arrival.unit.to) refl there h

  heard_all : (ups : List (Up (List ℕ))) (old new : World C) (made : List Event) → Fits old → AllByRecursion IsFromHere ups → HearsAll link steps wrap old ups made new → Fits new
  heard_all [] old new made f from h = same_fits old new f h.1
  heard_all (Noted note ∷ ups) old new made f from h = heard_all ups old new made f from.1 h
  heard_all (Came arrival ∷ ups) old new made f from h = heard_all ups h.0 new h.2 (heard old h.0 arrival h.1 f from.0 h.3) from.1 h.4

  delivered : (old new : World C) (number system : ℕ) (answer : Picked) (made : List Event) → Fits old → Delivers link steps wrap old number system answer made new → Fits new
  delivered old new number system answer made f d =
      let c = chosen old.carrier d.below number system answer d.ups f.bears d.passes in
      let fits : Fits (record old { carrier = d.below }) = record { bears = c.0; placed = f.placed; have = f.have } in
      heard_all d.ups (record old { carrier = d.below }) new d.later fits c.1 d.hears

  settled : (count : ℕ) (old : World C) (made : List Event) (new : World C) → Settles link steps wrap count old made new → Fits old → Fits new
  settled count old made new (NoneLeft n o m l fresh made_is same) f = same_fits old new f same
  settled count old made new (TooMany n o m l pair fresh most made_is same) f = same_fits old new f same
  settled count old made new (OneMore n o m l pair mid here rest fresh low delivers settles made_is) f =
      settled (count + 1) mid rest new settles (delivered old mid pair.0 pair.1 WasPicked here f delivers)

  -- ---- a tick

  end_ticked : (old : World C) (system : ℕ) (entity : Entity) (f : Fits old) → entity_at old.entities system ≡ Some entity
      → ActsFine (IsAddress titles) entity.own (ticking wrap (clock_of link steps old) entity)
  end_ticked old system entity f there = ticking_fine (IsAddress titles) wrap (clock_of link steps old) entity (f.placed system entity there).ends

  entity_ticked : (system : ℕ) (old : World C) (made : List Event) (new : World C) → TicksEntity link steps wrap system old made new → Fits old → Fits new
  entity_ticked system old made new (NoneDue o m n entity there none made_is becomes) f =
      let acted : Acted = ticking wrap (clock_of link steps old) entity in
      subst Fits (sym becomes)
      (became old system acted.entity f
      (acted_placed system entity acted (f.placed system entity there) (end_ticked old system entity f there)))
  entity_ticked system old made new (OneDue o m n entity reference mid here rest there due does more made_is) f =
      entity_ticked system mid rest new more
      (acts old mid system entity (ticking wrap (clock_of link steps old) entity) here f (f.placed system entity there) (end_ticked old system entity f there) does)

  all_ticked : (placed : List Placed) (old new : World C) (made : List Event) → Fits old → TicksAll link steps wrap old placed made new → Fits new
  all_ticked [] old new made f t = same_fits old new f t.1
  all_ticked (one ∷ placed) old new made f t = all_ticked placed t.0 new t.2 (entity_ticked one.system old t.1 t.0 t.3 f) t.4

  ticked : (old new : World C) (made : List Event) → Fits old → Ticks link steps wrap old made new → Fits new
  ticked old new made f t =
      let fits : Fits (record old { carrier = t.below }) = record { bears = passed old.carrier t.below t.ups f.bears t.passes; placed = f.placed; have = f.have } in
      all_ticked old.entities (record old { carrier = t.below }) new t.later fits t.all

  -- ---- a raw unit, and a restart

  unit_sent : (old new : C) (system to : ℕ) (sender receiver : List ℕ) (wish : Wish) (octets : List ℕ) (made : List Event) → Bears old → slice_get titles system ≡ Some sender
      → slice_get titles to ≡ Some receiver → wish.path ≡ 0 → SendsUnit link steps old system sender receiver wish octets made new → Bears new
  unit_sent old new system to sender receiver wish [] made b title_is to_is path s = subst Bears (sym s.1) b
  unit_sent old new system to sender receiver wish (octet ∷ octets) made b title_is to_is path s =
      let unit : CarriedUnit (List ℕ) = raw_unit sender receiver (octet ∷ octets) in
      offered old new unit wish s.0 s.1 b (raw_between titles system to sender receiver (octet ∷ octets) title_is to_is) path (λ transport. absurd (raw_is (selector_of (raw_address receiver)) (selector_of-append (system_part receiver) 2) transport)) s.2

  raw : (old new : World C) (system to : ℕ) (sender receiver : List ℕ) (wish : Wish) (octets : List ℕ) (made : List Event) → Fits old → slice_get titles system ≡ Some sender
      → slice_get titles to ≡ Some receiver → wish.path ≡ 0 → SendsRaw link steps old system sender receiver wish octets made new → Fits new
  raw old new system to sender receiver wish octets made f title_is to_is path s =
      let fits : Fits (record old { carrier = s.0 }) =
      record { bears = unit_sent old.carrier s.0 system to sender receiver wish octets made f.bears title_is to_is path s.1; placed = f.placed; have = f.have } in
      subst Fits (sym s.2) fits

  again : (old new : World C) (system : ℕ) (made : List Event) → Fits old → Restarts link steps old system made new → Fits new
  again old new system made f r =
      let was = f.placed system r.0 r.1 in
      let is : IsPlaced system (restarted (clock_of link steps old) r.0) = record {
        title = was.title;
        title_is = was.title_is;
        own = was.own;
        ends = empty_fine (IsAddress titles) (length r.0.ends);
      } in
      subst Fits (sym r.3) (became old system (restarted (clock_of link steps old) r.0) f is)

  -- ---- the lines

  line_fits : (line : Line) (old new : World C) (made : List Event) → Fits old → IsNoInjection line → IsUnrouted line → RunsLine link steps wrap titles old line made new → Fits new
  line_fits lines.Nothing old new made f none path step = same_fits old new f step.1
  line_fits (lines.Connect system selector to called_selector options octets) old new made f none path step =
      let asked = step.4 in
      connected old new made system step.1 f (record { system = to; title = step.0; title_is = step.2; address_is = asked.1 }) asked.4
  line_fits (lines.Accept end options octets) old new made f none path step = called old new made end (asks.Accept options octets) f step
  line_fits (lines.Refuse end octets) old new made f none path step = called old new made end (asks.Refuse octets) f step
  line_fits (lines.Disconnect end octets) old new made f none path step = called old new made end (asks.Disconnect octets) f step
  line_fits (lines.Data end octets) old new made f none path step = called old new made end (asks.Normal octets) f step
  line_fits (lines.Expedite end octets) old new made f none path step = called old new made end (asks.Urgent octets) f step
  line_fits (lines.Window end credit) old new made f none path step = called old new made end (asks.Window credit) f step
  line_fits (lines.Unit system to wish octets) old new made f none path step = raw old new system to step.0 step.1 wish octets made f step.2 step.3 path step.4
  line_fits lines.Tick old new made f none path step = ticked old new made f step
  line_fits (lines.Deliver number system) old new made f none path step = delivered old new number system step.0 made f step.1
  line_fits lines.Settle old new made f none path step = settled 0 old made new step f
  line_fits (lines.Inject lan system octets) old new made f none path step = absurd none
  line_fits (lines.Restart system) old new made f none path step = again old new system made f step
  line_fits line old new made f none path step = absurd step

  pub lines_fit : (script : List Line) (old last : World C) (journal : List Event) → Fits old → HasNoInject script → AllByRecursion IsUnrouted script
      → RunsLines link steps wrap titles old script journal last → Fits last
  lines_fit [] old last journal f none path run = same_fits old last f run.1
  lines_fit (line ∷ script) old last journal f none path run =
      lines_fit script run.0 last run.2 (line_fits line old run.0 run.1 f none.0 path.0 run.3) none.1 path.1 run.5

  pub settle_fits : (old new : World C) (made : List Event) → Fits old → RunsLine link steps wrap titles old lines.Settle made new → Fits new
  settle_fits old new made f step = settled 0 old made new step f

-- ---- the start

pub start_fits : {C : Type 0} (link : C → Link (List ℕ)) (steps : C → Call (List ℕ) → C → Type 0)
    (law : (old : C) (call : Call (List ℕ)) (new : C) → steps old call new → Keeps (link old) call (link new)) (wrap : ℕ → ℕ → ℕ) (titles : List (List ℕ))
    (life : ℕ) (made : C) (placed : List Placed) (begun : List Event) (first : World C) → IsFirst life titles (link made) placed → HaveEntities titles placed
    → Starts link steps made placed begun first → Fits link steps law wrap titles first.carrier first
start_fits {C} link steps law wrap titles life made placed begun first is have s =
    subst (λ (w : World C). Fits link steps law wrap titles w.carrier w) (sym s.becomes)
    (record {
      bears = record {
        reached = ([], refl);
        quiet = s.gathers.quiet;
        honest = s.gathers.stands.honest ∙ is.carrier_is.honest;
        from = λ entry there. absurd (none_floats entry (subst (λ (all : List (ℕ × CarriedUnit (List ℕ))). Contains all entry) is.carrier_is.none (s.gathers.grows entry there)));
      };
      placed = λ system e there.
          let new = found (IsNew titles) placed system e is.entities there in
          record {
            title = new.holds.title;
            title_is = ap (slice_get titles) (sym new.system_is) ∙ new.holds.title_is;
            own = ap (λ (x : Entity). x.own) (sym new.entity_is) ∙ new.holds.own;
            ends = subst (λ (x : Entity). EndsFine (IsAddress titles) x.ends) new.entity_is (none_fine (IsAddress titles) new.one.entity.ends new.holds.none);
          };
      have = have;
    })
