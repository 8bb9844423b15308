-- A unit that came up was offered as one TPDU: its entity meets that TPDU, or tells a fault; the history follows, and no end is due then.
use Rattle.std.proofs.Common.{◌≡◌, ℕ, Bool, true, false, List, [], ◌∷◌, ◌++◌, Option, Some, None, refl, sym, ◌∙◌, ap, subst, inl, inr, append_assoc}
use Rattle.std.specs.Prelude.{◌≢◌, ◌==◌, ◌&&◌, nat_eq}
use Rattle.std.specs.Cmp.Lexicographic.{pointwise, same_text}
use Rattle.std.proofs.lemmas.List.{append-nil}
use Rattle.nsap.specs.Address.{selector_of}
use Rattle.osi_base.specs.declared.unit.Arrival.{Arrival}
use Rattle.osi_base.specs.declared.unit.Injected.{Injected}
use Rattle.osi_base.specs.declared.unit.Injected.TheVariants.{Taken as WasInjected}
use Rattle.osi_base.specs.declared.unit.Picked.{Picked}
use Rattle.osi_base.specs.declared.unit.Unit.{Unit as CarriedUnit}
use Rattle.osi_base.specs.declared.unit.Up.{Up}
use Rattle.osi_base.specs.declared.unit.Up.TheVariants.{Unit as Came, Note as Noted}
use Rattle.osi_base.specs.Link.{Link}
use Rattle.osi_base.specs.Calls.{Call, Keeps}
use Rattle.script_journal.specs.declared.event.Event.{Event}
use Rattle.script_journal.specs.declared.event.Event.TheVariants as events
use Rattle.net_world.specs.Told.{picked_event, told}
use Rattle.tpdu.specs.Values.{TpduAndSum}
use Rattle.tpdu.specs.declared.fault.TpduCause.{TpduCause}
use Rattle.tp4_number.specs.Number.{whole}
use Rattle.tp4_flow.specs.declared.step.EndEvent.{EndEvent}
use Rattle.tp4_flow.specs.declared.step.Sent.{Sent}
use Rattle.tp4_flow.specs.declared.step.What.TheVariants.{BadTpdu, Silent}
use Rattle.tp4_conn.specs.End.{IsTimed}
use Rattle.tp4_conn.specs.declared.timers.Timers.{Timers}
use Rattle.tp4_entity.specs.Association.{met}
use Rattle.tp4_entity.specs.Entity.{Acted, Entity, at}
use Rattle.tp4_entity.specs.Step.{first_due}
use Rattle.tp4_entity.specs.Unit.{HearsUnit, all_met, extended_of, ignored, TakesBy, TakesUnit}
use Rattle.law_tp4_history.specs.History.{Note}
use Rattle.law_tp4_history.specs.Journals.{IsAside}
use Rattle.law_tp4_history.specs.Tracks.{Nothing, Whole, onward}
use Rattle.law_tp4_history.specs.Moves.{times_of}
use Rattle.tp4_world.specs.Run.{Acts, Delivers, HearsAll, HearsIf, Injects, is_for}
use Rattle.tp4_world.specs.Telling.{ends_after, events_after, inject_event}
use Rattle.tp4_world.specs.World.{World, entity_at, with_entity}
use Rattle.tp4_world.specs.declared.place.EndAt.{EndAt}
use Rattle.tp4_world.specs.declared.place.Placed.{Placed}
use Rattle.law_tp4_lawful.proofs.Along.{AfterAside, AfterMeet, AreAtRest, AreExplained, Carries, Explains, Follows, HasCome, IsKept, Knowing, Offering}
use Rattle.law_tp4_lawful.proofs.Known.{GoesOn, IsReadAs}
use Rattle.law_tp4_lawful.proofs.Worlds.{OneInUnit, Outcomes}
use Rattle.law_tp4_lawful.proofs.WorldActs.{Went, went_aside, went_nowhere, went_on, went_then}
use Rattle.law_tp4_lawful.proofs.WorldAsides.{are_aside, inject_quiet, picked_quiet, told_quiet}
use Rattle.law_tp4_lawful.proofs.WorldFloats.{all_explained_on, choice_goes, injection_goes}
use Rattle.law_tp4_lawful.proofs.WorldKnown.{rest_with}
use Rattle.law_tp4_lawful.proofs.WorldPlaces.{with_again}
use Rattle.tp4_world.proofs.Having.{with_first}
use Rattle.tp4_entity.specs.Silence.{is_silent}

pub acted_same : (a b : Acted) → a.entity ≡ b.entity → a.events ≡ b.events → a.tpdus ≡ b.tpdus → a ≡ b
acted_same a b entity told tpdus =
    ap (λ (e : Entity). record { entity = e; events = a.events; tpdus = a.tpdus }) entity
    ∙ ap (λ (es : List EndEvent). record { entity = b.entity; events = es; tpdus = a.tpdus }) told
    ∙ ap (λ (ts : List Sent). record { entity = b.entity; events = b.events; tpdus = ts }) tpdus

-- what a unit does whose TPDUs are these
abbrev outcome : ℕ → Entity → List ℕ → List TpduAndSum → List EndEvent → Acted
outcome now e from tpdus faults = record {
  entity = (all_met whole now (at now e) from tpdus).entity;
  events = (all_met whole now (at now e) from tpdus).events ++ faults;
  tpdus = (all_met whole now (at now e) from tpdus).tpdus;
}

one_met : (now : ℕ) (e : Entity) (from : List ℕ) (tpdu : TpduAndSum) → outcome now e from (tpdu ∷ []) [] ≡ met whole now (at now e) from tpdu
one_met now e from tpdu =
    let m = met whole now (at now e) from tpdu in
    acted_same (outcome now e from (tpdu ∷ []) []) m refl (append-nil (m.events ++ []) ∙ append-nil m.events) (append-nil m.tpdus)

parts : (one other : Bool) → (one && other) ≡ true → (one ≡ true) × (other ≡ true)
parts true other is = (refl, is)
parts false other is = absurd cc

module _ (titles : List (List ℕ)) (timers : Timers) (Knows : Knowing) (Offered : Offering) (kept : IsKept titles timers Knows Offered) (timed : IsTimed timers) {C : Type 0} (link : C → Link (List ℕ)) (steps : C → Call (List ℕ) → C → Type 0)
    (law : (old : C) (call : Call (List ℕ)) (new : C) → steps old call new → Keeps (link old) call (link new))
    (aside : AfterAside timers Knows Offered) (meet : AfterMeet timers Knows Offered) (one : OneInUnit)
    (Sound : Entity → Type 0) (InTime : ℕ → Entity → Type 0) (outcomes : Outcomes Sound InTime) where
  -- the history follows, and the entity is at rest
  record Hear (w : Whole) (journal : List Event) (entities : List Placed) (ends : List EndAt) (system : ℕ) (own : List ℕ) (acted : Acted) : Type 0 where
    follows : Follows timers Knows Offered w journal entities ends system own [] acted
    rest : Sound acted.entity × (first_due w.base.clock acted.entity ≡ None)

  -- what the history follows once the clock of the entity moved on
  follows_at : (w : Whole) (journal : List Event) (entities : List Placed) (ends : List EndAt) (system : ℕ) (own : List ℕ) (first : Entity) (acted : Acted)
      → Follows timers Knows Offered w journal (with_entity entities system first) ends system own [] acted → Follows timers Knows Offered w journal entities ends system own [] acted
  follows_at w journal entities ends system own first acted f = record {
    new = f.new;
    goes_on = f.goes_on;
    known = subst (λ (es : List Placed). Knows f.new (journal ++ [] ++ events_after ends system own acted.events) es (ends_after ends system acted.events))
        (with_again entities system first acted.entity) f.known;
    offered = f.offered;
  }

  -- one event that is told of no end
  event_heard : (w : Whole) (journal : List Event) (entities : List Placed) (ends : List EndAt) (system : ℕ) (entity : Entity) (event : Event) (happened : List EndEvent) → IsAside (event ∷ [])
      → event ∷ [] ≡ events_after ends system entity.own happened → ends ≡ ends_after ends system happened
      → Knows w journal entities ends → AreAtRest Sound w.base.clock entities → entity_at entities system ≡ Some entity
      → Hear w journal entities ends system entity.own (record { entity = at w.base.clock entity; events = happened; tpdus = [] })
  event_heard w journal entities ends system entity event happened quiet made same known rest is =
      let next : Whole = onward (times_of timers) w (record { step = Note; doing = Nothing }) in
      let held : List Placed = with_entity entities system (at w.base.clock entity) in
      let here : Knows w (journal ++ []) held ends = subst (λ (xs : List Event). Knows w xs held ends) (sym (append-nil journal)) (kept.clock w journal entities ends known system entity is) in
      record {
        follows = record {
          new = next;
          goes_on = record { clock = refl; offers = λ offer there. there };
          known = subst (λ (xs : List Event). Knows next (journal ++ [] ++ xs) held (ends_after ends system happened)) made
              (subst (λ (es : List EndAt). Knows next (journal ++ [] ++ event ∷ []) held es) same (aside w (journal ++ []) (event ∷ []) held ends here quiet));
          offered = tt;
        };
        rest = (outcomes.clock w.base.clock entity (rest system entity is).0, (rest system entity is).1);
      }

  -- a fault alone
  fault_heard : (w : Whole) (journal : List Event) (entities : List Placed) (ends : List EndAt) (system : ℕ) (entity : Entity) (from : List ℕ) (cause : TpduCause) (place : ℕ)
      → Knows w journal entities ends → AreAtRest Sound w.base.clock entities → entity_at entities system ≡ Some entity
      → Hear w journal entities ends system entity.own (outcome w.base.clock entity from [] (record { reference = 0; what = BadTpdu cause place } ∷ []))
  fault_heard w journal entities ends system entity from cause place = event_heard w journal entities ends system entity (events.BadTpdu system cause place) (record { reference = 0; what = BadTpdu cause place } ∷ [])
      (are_aside (events.BadTpdu system cause place ∷ []) (record { submits = λ end. refl; shows = λ end. refl; makes = refl }, tt)) refl refl

  -- one TPDU
  tpdu_heard : (w : Whole) (journal : List Event) (entities : List Placed) (ends : List EndAt) (system : ℕ) (entity : Entity) (unit : CarriedUnit (List ℕ)) (tpdu : TpduAndSum)
      (come : HasCome Offered timers.life w.base unit) → unit.to ≡ entity.own → IsReadAs entity come.backed.sent tpdu
      → Knows w journal entities ends → AreAtRest Sound w.base.clock entities → entity_at entities system ≡ Some entity → is_silent w.base.clock entity ≡ false
      → Hear w journal entities ends system entity.own (met whole w.base.clock (at w.base.clock entity) unit.from tpdu)
  tpdu_heard w journal entities ends system entity unit tpdu come to read known rest is quiet =
      let now : ℕ = w.base.clock in
      let here : Entity = at now entity in
      let read_here : IsReadAs here come.backed.sent tpdu = record { kind = read.kind; target = read.target; control = read.control; flow = read.flow; allowed = read.allowed } in
      let met_here : Follows timers Knows Offered w journal (with_entity entities system here) ends system entity.own [] (met whole now here unit.from tpdu) =
      meet w journal (with_entity entities system here) ends system here come.tick unit.from come.backed.sent tpdu (kept.clock w journal entities ends known system entity is) timed
      (with_first entities system here entity is) quiet come.backed.offered (come.backed.to_is ∙ to) come.live read_here in
      record {
        follows = follows_at w journal entities ends system entity.own here (met whole now here unit.from tpdu) met_here;
        rest = outcomes.met now here unit.from tpdu (outcomes.clock now entity (rest system entity is).0) (rest system entity is).1 read.allowed;
      }

  unit_heard : (w : Whole) (journal : List Event) (entities : List Placed) (ends : List EndAt) (system : ℕ) (entity : Entity) (unit : CarriedUnit (List ℕ)) (acted : Acted)
      → HasCome Offered timers.life w.base unit → unit.to ≡ entity.own → Knows w journal entities ends → AreAtRest Sound w.base.clock entities → entity_at entities system ≡ Some entity
      → is_silent w.base.clock entity ≡ false → HearsUnit whole w.base.clock entity unit.from unit.octets acted → Hear w journal entities ends system entity.own acted
  unit_heard w journal entities ends system entity unit acted come to known rest is quiet h =
      let now : ℕ = w.base.clock in
      let all : acted ≡ outcome now entity unit.from h.tpdus h.told = acted_same acted (outcome now entity unit.from h.tpdus h.told) h.entity h.events h.tpdus_are in
      subst (Hear w journal entities ends system entity.own) (sym all)
      (elim (one (extended_of entity) unit.octets h.rest come.backed.sent h.tpdus h.told (kept.offered w.base come.tick unit.from come.backed.sent come.backed.offered).sendable come.backed.written h.separates h.ends) [
        | inl read ↦
            let same : outcome now entity unit.from h.tpdus h.told ≡ met whole now (at now entity) unit.from read.0 =
            ap (λ (ts : List TpduAndSum). outcome now entity unit.from ts h.told) read.1
            ∙ ap (λ (es : List EndEvent). outcome now entity unit.from (read.0 ∷ []) es) read.2
            ∙ one_met now entity unit.from read.0 in
            subst (Hear w journal entities ends system entity.own) (sym same)
            (tpdu_heard w journal entities ends system entity unit read.0 come to (record { kind = read.3; target = read.4; control = read.5; flow = read.6; allowed = read.7 }) known rest is quiet)
        | inr fault ↦
            let same : outcome now entity unit.from h.tpdus h.told ≡ outcome now entity unit.from [] (record { reference = 0; what = BadTpdu fault.0 fault.1 } ∷ []) =
            ap (λ (ts : List TpduAndSum). outcome now entity unit.from ts h.told) fault.2
            ∙ ap (λ (es : List EndEvent). outcome now entity unit.from [] es) fault.3 in
            subst (Hear w journal entities ends system entity.own) (sym same) (fault_heard w journal entities ends system entity unit.from fault.0 fault.1 known rest is)
      ])

  -- a silent entity tells the unit alone
  ignored_heard : (w : Whole) (journal : List Event) (entities : List Placed) (ends : List EndAt) (system : ℕ) (entity : Entity)
      → Knows w journal entities ends → AreAtRest Sound w.base.clock entities → entity_at entities system ≡ Some entity
      → Hear w journal entities ends system entity.own (ignored w.base.clock entity)
  ignored_heard w journal entities ends system entity = event_heard w journal entities ends system entity (events.Silent system) (record { reference = 0; what = Silent } ∷ [])
      (are_aside (events.Silent system ∷ []) (record { submits = λ end. refl; shows = λ end. refl; makes = refl }, tt)) refl refl

  unit_taken : (w : Whole) (journal : List Event) (entities : List Placed) (ends : List EndAt) (system : ℕ) (entity : Entity) (unit : CarriedUnit (List ℕ)) (acted : Acted)
      → HasCome Offered timers.life w.base unit → unit.to ≡ entity.own → Knows w journal entities ends → AreAtRest Sound w.base.clock entities → entity_at entities system ≡ Some entity
      → TakesUnit whole w.base.clock entity unit.from unit.octets acted → Hear w journal entities ends system entity.own acted
  unit_taken w journal entities ends system entity unit acted come to known rest is takes = by (is_silent w.base.clock entity) refl takes
    where
      by : (silent : Bool) → is_silent w.base.clock entity ≡ silent → TakesBy silent whole w.base.clock entity unit.from unit.octets acted → Hear w journal entities ends system entity.own acted
      by true at_it h = subst (Hear w journal entities ends system entity.own) (sym h) (ignored_heard w journal entities ends system entity known rest is)
      by false at_it h = unit_heard w journal entities ends system entity unit acted come to known rest is at_it h

  -- the history went on, and all are at rest
  pub record Ran (w : Whole) (journal : List Event) (new : World C) : Type 0 where
    pub went : Went titles timers Knows Offered kept link steps law aside w journal new
    pub rest : AreAtRest Sound w.base.clock new.entities

  pub rest_then : (w next : Whole) (entities : List Placed) → GoesOn w.base next.base → AreAtRest Sound w.base.clock entities → AreAtRest Sound next.base.clock entities
  rest_then w next entities on rested = subst (λ (n : ℕ). AreAtRest Sound n entities) (sym on.clock) rested

  pub ran_then : (w : Whole) (journal first : List Event) (mid new : World C) (one : Went titles timers Knows Offered kept link steps law aside w first mid) → Ran one.next journal new → Ran w journal new
  ran_then w journal first mid new one two = record {
    went = went_then titles timers Knows Offered kept link steps law aside w journal mid new first one two.went;
    rest = subst (λ (n : ℕ). AreAtRest Sound n new.entities) one.goes_on.clock two.rest;
  }

  pub ran_nowhere : (w : Whole) (journal made : List Event) (old new : World C) → Explains timers Knows Offered link w journal old → AreAtRest Sound w.base.clock old.entities → made ≡ [] → new ≡ old
      → Ran w (journal ++ made) new
  ran_nowhere w journal made old new e rested none same = record {
    went = went_nowhere titles timers Knows Offered kept link steps law aside w journal made old new e none same;
    rest = subst (λ (x : World C). AreAtRest Sound w.base.clock x.entities) (sym same) rested;
  }

  -- the journal by its parts
  pub ran_as : (w : Whole) (new : World C) (journal first rest made : List Event) → made ≡ first ++ rest → Ran w ((journal ++ first) ++ rest) new → Ran w (journal ++ made) new
  ran_as w new journal first rest made is r = subst (λ (xs : List Event). Ran w xs new) (append_assoc journal first rest ∙ ap (λ (xs : List Event). journal ++ xs) (sym is)) r

  -- an entity did what the history follows, and it is at rest
  pub ran_on : (w : Whole) (journal first made : List Event) (old new : World C) (system : ℕ) (own : List ℕ) (acted : Acted) → Carries Offered timers.life w.base (link old.carrier)
      → AreAtRest Sound w.base.clock old.entities → Follows timers Knows Offered w journal old.entities old.ends system own first acted → Sound acted.entity × (first_due w.base.clock acted.entity ≡ None)
      → Acts link steps old system own acted made new → Ran w ((journal ++ first) ++ made) new
  ran_on w journal first made old new system own acted carries rested follows none acts = record {
    went = went_on titles timers Knows Offered kept link steps law aside w journal first made old new system own acted carries follows acts;
    rest = subst (λ (x : World C). AreAtRest Sound w.base.clock x.entities) (sym acts.becomes) (rest_with Sound w.base.clock old.entities system acted.entity rested none);
  }

  heard_if : (w : Whole) (old new : World C) (journal made : List Event) (arrival : Arrival (List ℕ)) (found : Option Entity) (fits : Bool) → Explains timers Knows Offered link w journal old
      → AreAtRest Sound w.base.clock old.entities → ((selector_of arrival.unit.to == 1) ≡ true → HasCome Offered timers.life w.base arrival.unit) → entity_at old.entities arrival.system ≡ found
      → is_for link steps whole arrival.unit.to found ≡ fits → HearsIf link steps whole old arrival found fits made new → Ran w (journal ++ made) new
  heard_if w old new journal made arrival None fits e rested come at is step = ran_nowhere w journal made old new e rested step.0 step.1
  heard_if w old new journal made arrival (Some entity) false e rested come at is step = ran_nowhere w journal made old new e rested step.0 step.1
  heard_if w old new journal made arrival (Some entity) true e rested come at is step =
      let both = parts (selector_of arrival.unit.to == 1) (pointwise nat_eq entity.own arrival.unit.to) is in
      let to : arrival.unit.to ≡ entity.own = sym (same_text entity.own arrival.unit.to (sym both.1)) in
      let heard = unit_taken w journal old.entities old.ends arrival.system entity arrival.unit step.0 (come both.0) to e.known rested at
      (subst (λ (n : ℕ). TakesUnit whole n entity arrival.unit.from arrival.unit.octets step.0) e.carries.clock step.1) in
      let ran : Ran w ((journal ++ []) ++ made) new = ran_on w journal [] made old new arrival.system entity.own step.0 e.carries rested heard.follows heard.rest step.2 in
      subst (λ (xs : List Event). Ran w (xs ++ made) new) (append-nil journal) ran

  heard_all : (ups : List (Up (List ℕ))) (w : Whole) (old new : World C) (journal made : List Event) → Explains timers Knows Offered link w journal old → AreAtRest Sound w.base.clock old.entities
      → AreExplained Offered timers.life w.base ups → HearsAll link steps whole old ups made new → Ran w (journal ++ made) new
  heard_all [] w old new journal made e rested come step = ran_nowhere w journal made old new e rested step.0 step.1
  heard_all (Noted note ∷ ups) w old new journal made e rested come step = heard_all ups w old new journal made e rested come.1 step
  heard_all (Came arrival ∷ ups) w old new journal made e rested come step =
      let first : Ran w (journal ++ step.1) step.0 =
      heard_if w old step.0 journal step.1 arrival (entity_at old.entities arrival.system) (is_for link steps whole arrival.unit.to (entity_at old.entities arrival.system)) e rested come.0 refl refl step.3 in
      let next : Whole = first.went.next in
      let rest : Ran next ((journal ++ step.1) ++ step.2) new =
      heard_all ups next step.0 new (journal ++ step.1) step.2 first.went.explains (rest_then w next step.0.entities first.went.goes_on first.rest)
      (all_explained_on Offered kept.grows timers.life w.base next.base ups first.went.goes_on come.1) step.4 in
      ran_as w new journal step.1 step.2 made step.5 (ran_then w ((journal ++ step.1) ++ step.2) (journal ++ step.1) step.0 new first.went rest)

  -- a delivery
  pub delivered : (w : Whole) (old new : World C) (journal made : List Event) (number system : ℕ) (answer : Picked) → Explains timers Knows Offered link w journal old → AreAtRest Sound w.base.clock old.entities
      → Delivers link steps whole old number system answer made new → Ran w (journal ++ made) new
  delivered w old new journal made number system answer e rested step =
      let front : List Event = picked_event number system answer ∷ told step.ups in
      let mid : World C = record old { carrier = step.below } in
      let chosen = choice_goes Offered kept.grows timers.life link steps law w.base old.carrier step.below number system answer step.ups e.carries step.passes in
      let first : Went titles timers Knows Offered kept link steps law aside w (journal ++ front) mid =
      went_aside titles timers Knows Offered kept link steps law aside w journal front old mid e.known chosen.0 (picked_quiet number system answer, told_quiet step.ups) refl in
      let rest : Ran first.next ((journal ++ front) ++ step.later) new =
      heard_all step.ups first.next mid new (journal ++ front) step.later first.explains (rest_then w first.next old.entities first.goes_on rested)
      (all_explained_on Offered kept.grows timers.life w.base first.next.base step.ups first.goes_on chosen.1) step.hears in
      ran_as w new journal front step.later made step.made_is (ran_then w ((journal ++ front) ++ step.later) (journal ++ front) mid new first rest)

  -- octets that were given to no system
  pub given_away : (w : Whole) (old new : World C) (journal made : List Event) (lan system : ℕ) (octets : List ℕ) (answer : Injected) → answer ≢ WasInjected → Explains timers Knows Offered link w journal old
      → AreAtRest Sound w.base.clock old.entities → Injects link steps whole old lan system octets answer made new → Ran w (journal ++ made) new
  given_away w old new journal made lan system octets answer refused e rested step =
      let front : List Event = inject_event system answer ∷ told step.ups in
      let mid : World C = record old { carrier = step.below } in
      let given = injection_goes Offered kept.grows timers.life link steps law w.base old.carrier step.below lan system octets answer step.ups refused e.carries step.passes in
      let first : Went titles timers Knows Offered kept link steps law aside w (journal ++ front) mid =
      went_aside titles timers Knows Offered kept link steps law aside w journal front old mid e.known given.0 (inject_quiet system answer, told_quiet step.ups) refl in
      let rest : Ran first.next ((journal ++ front) ++ step.later) new =
      heard_all step.ups first.next mid new (journal ++ front) step.later first.explains (rest_then w first.next old.entities first.goes_on rested)
      (all_explained_on Offered kept.grows timers.life w.base first.next.base step.ups first.goes_on given.1) step.hears in
      ran_as w new journal front step.later made step.made_is (ran_then w ((journal ++ front) ++ step.later) (journal ++ front) mid new first rest)
