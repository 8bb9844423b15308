-- Over calls in which nothing is lost a carrier that serves again is fifo; and the lines of a network make such calls.
use Rattle.std.proofs.Common.{◌≡◌, ◌⊎◌, ℕ, ◌+◌, Bool, true, false, List, [], ◌∷◌, ◌++◌, Option, Some, None, refl, sym, subst, inl, inr}
use Rattle.std.specs.Prelude.{◌==◌, ◌&&◌, nat_eq}
use Rattle.std.specs.Cmp.Lexicographic.{pointwise}
use Rattle.std.specs.List.{AllByRecursion}
use Rattle.nsap.specs.Address.{selector_of}
use Rattle.osi_base.specs.Calls.{Call, Chain, Choose, Keeps, NextUp, Offer, Tick}
use Rattle.osi_base.specs.Gathering.{takings}
use Rattle.osi_base.specs.Link.{IsLeastFresh, Link}
use Rattle.osi_base.specs.declared.note.Note.TheVariants as notes
use Rattle.osi_base.specs.declared.unit.Arrival.{Arrival}
use Rattle.osi_base.specs.declared.unit.Picked.TheVariants.{Taken as WasPicked}
use Rattle.osi_base.specs.declared.unit.Unit.{Unit as CarriedUnit}
use Rattle.osi_base.specs.declared.unit.Up.{Up}
use Rattle.osi_base.specs.declared.unit.Up.TheVariants.{Unit as Came, Note as Noted}
use Rattle.script_journal.specs.declared.cause.Refused.{Refused}
use Rattle.script_journal.specs.declared.event.Event.{Event}
use Rattle.script_journal.specs.declared.event.Event.TheVariants as events
use Rattle.script_lines.specs.declared.line.Line.{Line}
use Rattle.script_lines.specs.declared.line.Line.TheVariants as lines
use Rattle.net_world.specs.Fifo.{IsFifo, NoneDropped}
use Rattle.net_world.specs.Prompt.{IsPrompt, IsRefusal, NoneRefused}
use Rattle.net_world.specs.Run.{Passes}
use Rattle.net_world.specs.Told.{shown_at, told}
use Rattle.tp4_number.specs.Number.{whole}
use Rattle.tp4_flow.specs.declared.step.Sent.{Sent}
use Rattle.tp4_conn.specs.declared.call.ConnectRequest.{ConnectRequest}
use Rattle.tp4_conn.specs.declared.call.UserCall.{UserCall}
use Rattle.tp4_entity.specs.Entity.{Acted, Entity}
use Rattle.tp4_entity.specs.References.{least_free}
use Rattle.tp4_entity.specs.Step.{connect_refusal, user_refusal}
use Rattle.tp4_entity.specs.declared.refusal.ConnectRefusal.{ConnectRefusal}
use Rattle.tp4_entity.specs.declared.refusal.EntityRefusal.{EntityRefusal}
use Rattle.law_tp4_pair.specs.CalmScript.{IsSettledScript, Settles as IsSettledNext}
use Rattle.law_tp4_pair.specs.Claim.{IsUndropped}
use Rattle.tp4_world.specs.Run.{Acts, Arrives, BeginsAt, Calls, CallsAt, CallsBy, CallsEnd, Connects, ConnectsBy, HearsAll, HearsIf, IsRefused, NoneDue, NoneLeft, OneDue, OneMore, RunsLine, RunsLines, SendsRaw, SendsTpdu, SendsTpdus, Settles, Ticks, TicksAll, TicksEntity, TooMany, is_for}
use Rattle.tp4_world.specs.Ended.{has_ended}
use Rattle.tp4_world.specs.Telling.{call_events, drop_events, events_after, told_connect, told_refusal}
use Rattle.tp4_world.specs.World.{World, end_numbered, entity_at}
use Rattle.tp4_world.specs.declared.place.EndAt.{EndAt}
use Rattle.tp4_world.specs.declared.place.Placed.{Placed}
use Rattle.law_calm_run.proofs.Queueing.{all_parts}
use Rattle.law_recovery_run.specs.Ordered.{InOrder, MayCome}
use Rattle.law_recovery_run.specs.Losses.{IsKept}

-- ---- what comes up

-- no segment was refused for want of room
abbrev pub NoRefusal : List (Up (List ℕ)) → Type 0
NoRefusal [] = Prim.Unit {0}
NoRefusal (Noted (notes.Discard system reason place) ∷ ups) = (IsRefusal reason place → ⊥) × NoRefusal ups
NoRefusal (up ∷ ups) = NoRefusal ups

none_refused : (ups : List (Up (List ℕ))) → NoneDropped ups → NoRefusal ups → NoneRefused ups
none_refused [] whole few = tt
none_refused (Noted (notes.DropFrame system) ∷ ups) whole few = whole
none_refused (Noted (notes.Discard system reason place) ∷ ups) whole few = (few.0, none_refused ups whole few.1)
none_refused (Noted note ∷ ups) whole few = none_refused ups whole few
none_refused (Came arrival ∷ ups) whole few = none_refused ups whole few

-- where no such discard is told, there was none
none_told : (ups : List (Up (List ℕ))) → AllByRecursion IsKept (told ups) → NoRefusal ups
none_told [] all = tt
none_told (Noted (notes.Discard system reason place) ∷ ups) all = (all.0, none_told ups all.1)
none_told (Noted note ∷ ups) all = none_told ups all.1
none_told (Came arrival ∷ ups) all = none_told ups (all_parts IsKept (shown_at arrival.system arrival.unit) (told ups) all).1

pub undropped : (made : List Event) → AllByRecursion IsKept made → AllByRecursion IsUndropped made
undropped [] all = tt
undropped (events.Net (notes.Discard system reason place) ∷ made) all = (tt, undropped made all.1)
undropped (event ∷ made) all = (all.0, undropped made all.1)

kept_parts : (made here rest : List Event) → AllByRecursion IsKept made → made ≡ here ++ rest → AllByRecursion IsKept here × AllByRecursion IsKept rest
kept_parts made here rest all is = all_parts IsKept here rest (subst (λ (es : List Event). AllByRecursion IsKept es) is all)

module _ {C : Type 0} (link : C → Link (List ℕ)) (steps : C → Call (List ℕ) → C → Type 0) where
  abbrev pub ordered : C → Call (List ℕ) → C → Type 0
  ordered = InOrder link steps

  pub keeps_order : ((old : C) (call : Call (List ℕ)) (new : C) → steps old call new → Keeps (link old) call (link new))
      → (old : C) (call : Call (List ℕ)) (new : C) → ordered old call new → Keeps (link old) call (link new)
  keeps_order law old call new step = law old call new step.0

  -- ---- calls

  chain_ordered : (ups : List (Up (List ℕ))) (old new : C) → NoRefusal ups → Chain steps old (takings ups ++ NextUp None ∷ []) new → Chain ordered old (takings ups ++ NextUp None ∷ []) new
  chain_ordered [] old new few c = (c.0, (c.1, tt), c.2)
  chain_ordered (Noted (notes.Discard system reason place) ∷ ups) old new few c = (c.0, (c.1, few.0), chain_ordered ups c.0 new few.1 c.2)
  chain_ordered (Noted note ∷ ups) old new few c = (c.0, (c.1, tt), chain_ordered ups c.0 new few c.2)
  chain_ordered (Came arrival ∷ ups) old new few c = (c.0, (c.1, tt), chain_ordered ups c.0 new few c.2)

  chain_plain : (ups : List (Up (List ℕ))) (old new : C) → Chain ordered old (takings ups ++ NextUp None ∷ []) new → Chain steps old (takings ups ++ NextUp None ∷ []) new × NoRefusal ups
  chain_plain [] old new c = ((c.0, c.1.0, c.2), tt)
  chain_plain (Noted (notes.Discard system reason place) ∷ ups) old new c = let rest = chain_plain ups c.0 new c.2 in ((c.0, c.1.0, rest.0), (c.1.1, rest.1))
  chain_plain (Noted note ∷ ups) old new c = let rest = chain_plain ups c.0 new c.2 in ((c.0, c.1.0, rest.0), rest.1)
  chain_plain (Came arrival ∷ ups) old new c = let rest = chain_plain ups c.0 new c.2 in ((c.0, c.1.0, rest.0), rest.1)

  passes_ordered : (old new : C) (call : Call (List ℕ)) (ups : List (Up (List ℕ))) → MayCome (link old) call → AllByRecursion IsKept (told ups) → Passes link steps old call ups new
      → Passes link ordered old call ups new
  passes_ordered old new call ups may all p = record {
    called = p.called;
    steps_to = (p.steps_to, may);
    gathers = record {
      waited = p.gathers.waited;
      quiet = p.gathers.quiet;
      stands = p.gathers.stands;
      grows = p.gathers.grows;
      chain = chain_ordered ups p.called new (none_told ups all) p.gathers.chain;
    };
  }

  record Plain (old new : C) (call : Call (List ℕ)) (ups : List (Up (List ℕ))) : Type 0 where
    passes : Passes link steps old call ups new
    few : NoRefusal ups
    may : MayCome (link old) call

  plain : (old new : C) (call : Call (List ℕ)) (ups : List (Up (List ℕ))) → Passes link ordered old call ups new → Plain old new call ups
  plain old new call ups p =
      let c = chain_plain ups p.called new p.gathers.chain in
      record {
        passes = record {
          called = p.called;
          steps_to = p.steps_to.0;
          gathers = record { waited = p.gathers.waited; quiet = p.gathers.quiet; stands = p.gathers.stands; grows = p.gathers.grows; chain = c.0 };
        };
        few = c.1;
        may = p.steps_to.1;
      }

  -- ---- the carrier

  pub is_fifo : (titles : List (List ℕ)) (Reached : C → Type 0) (Waits : C → List (CarriedUnit (List ℕ)) → Type 0) → IsPrompt link steps titles Reached Waits → IsFifo link ordered titles Waits
  is_fifo titles Reached Waits prompt = record {
    offered = λ old new queue unit wish answer ups waits between path passes whole.
        let p = plain old new (Offer unit wish answer) ups passes in
        prompt.offered old new queue unit wish answer ups waits between path p.passes (none_refused ups whole p.few);
    chosen = λ old new queue pair ups waits least passes whole.
        let p = plain old new (Choose pair.0 pair.1 WasPicked) ups passes in
        prompt.chosen old new queue pair ups waits least p.passes (none_refused ups whole p.few);
    none = prompt.none;
    ticked = λ old new ups waits passes whole.
        let p = plain old new Tick ups passes in
        prompt.ticked old new ups waits p.may p.passes (none_refused ups whole p.few);
  }

  -- ---- what entities do

  tpdu_ordered : (old new : C) (system : ℕ) (own : List ℕ) (sent : Sent) (made : List Event) → AllByRecursion IsKept made → SendsTpdu link steps old system own sent made new
      → SendsTpdu link ordered old system own sent made new
  tpdu_ordered old new system own sent made all s =
      let parts = kept_parts made (drop_events system s.answer) (told s.ups) all s.made_is in
      record { octets = s.octets; answer = s.answer; ups = s.ups; written = s.written; passes = passes_ordered old new _ s.ups tt parts.1 s.passes; made_is = s.made_is }

  tpdus_ordered : (tpdus : List Sent) (old new : C) (system : ℕ) (own : List ℕ) (made : List Event) → AllByRecursion IsKept made → SendsTpdus link steps old system own tpdus made new
      → SendsTpdus link ordered old system own tpdus made new
  tpdus_ordered [] old new system own made all s = s
  tpdus_ordered (sent ∷ tpdus) old new system own made all s =
      let parts = kept_parts made s.1 s.2 all s.5 in
      (s.0, s.1, s.2, tpdu_ordered old s.0 system own sent s.1 parts.0 s.3, tpdus_ordered tpdus s.0 new system own s.2 parts.1 s.4, s.5)

  acts_ordered : (old new : World C) (system : ℕ) (own : List ℕ) (acted : Acted) (made : List Event) → AllByRecursion IsKept made → Acts link steps old system own acted made new
      → Acts link ordered old system own acted made new
  acts_ordered old new system own acted made all a =
      let parts = kept_parts made (events_after old.ends system own acted.events) a.sent all a.made_is in
      record { below = a.below; sent = a.sent; sends = tpdus_ordered acted.tpdus old.carrier a.below system own a.sent parts.1 a.sends; made_is = a.made_is; becomes = a.becomes }

  refused_ordered : (old new : World C) (why : Option Refused) (made : List Event) → IsRefused link steps old why made new → IsRefused link ordered old why made new
  refused_ordered old new None made r = r
  refused_ordered old new (Some why) made r = r

  -- ---- calls of users

  begins_ordered : (old new : World C) (system : ℕ) (entity : Entity) (request : ConnectRequest) (place : Option ℕ) (made : List Event) → AllByRecursion IsKept made
      → BeginsAt link steps old system entity request place made new → BeginsAt link ordered old system entity request place made new
  begins_ordered old new system entity request None made all b = b
  begins_ordered old new system entity request (Some reference) made all b =
      (b.0, acts_ordered _ new system entity.own _ b.0 (subst (λ (es : List Event). AllByRecursion IsKept es) b.2 all).1 b.1, b.2)

  connects_by : (old new : World C) (system : ℕ) (entity : Entity) (request : ConnectRequest) (why : Option ConnectRefusal) (made : List Event) → AllByRecursion IsKept made
      → ConnectsBy link steps old system entity request why made new → ConnectsBy link ordered old system entity request why made new
  connects_by old new system entity request (Some why) made all c = refused_ordered old new (told_connect why) made c
  connects_by old new system entity request None made all c = begins_ordered old new system entity request (least_free (link old.carrier).clock entity) made all c

  connects_ordered : (old new : World C) (system : ℕ) (request : ConnectRequest) (made : List Event) → AllByRecursion IsKept made → Connects link steps old system request made new
      → Connects link ordered old system request made new
  connects_ordered old new system request made all c =
      (c.0, c.1, connects_by old new system c.0 request (connect_refusal (link old.carrier).clock c.0 request.octets) made all c.2)

  calls_by : (old new : World C) (number : ℕ) (end : EndAt) (entity : Entity) (call : UserCall) (why : Option EntityRefusal) (made : List Event) → AllByRecursion IsKept made
      → CallsBy link steps whole old number end entity call why made new → CallsBy link ordered whole old number end entity call why made new
  calls_by old new number end entity call (Some why) made all c = refused_ordered old new (told_refusal why) made c
  calls_by old new number end entity call None made all c =
      let parts = kept_parts made (call_events number call) c.0 all c.2 in
      (c.0, acts_ordered old new end.system entity.own _ c.0 parts.1 c.1, c.2)

  calls_end : (old new : World C) (number : ℕ) (end : EndAt) (entity : Entity) (call : UserCall) (ended : Bool) (made : List Event) → AllByRecursion IsKept made
      → CallsEnd link steps whole old number end entity call ended made new → CallsEnd link ordered whole old number end entity call ended made new
  calls_end old new number end entity call true made all c = c
  calls_end old new number end entity call false made all c = calls_by old new number end entity call (user_refusal entity end.reference call) made all c

  calls_at : (old new : World C) (number : ℕ) (call : UserCall) (place : Option EndAt) (made : List Event) → AllByRecursion IsKept made → CallsAt link steps whole old number call place made new
      → CallsAt link ordered whole old number call place made new
  calls_at old new number call None made all c = c
  calls_at old new number call (Some end) made all c = (c.0, c.1, calls_end old new number end c.0 call (has_ended (link old.carrier).clock old.ends number end c.0) made all c.2)

  calls_ordered : (old new : World C) (number : ℕ) (call : UserCall) (made : List Event) → AllByRecursion IsKept made → Calls link steps whole old number call made new
      → Calls link ordered whole old number call made new
  calls_ordered old new number call made all c = calls_at old new number call (end_numbered old.ends number) made all c

  raw_ordered : (old new : World C) (system : ℕ) (sender receiver octets : List ℕ) (wish : _) (made : List Event) → AllByRecursion IsKept made → SendsRaw link steps old system sender receiver wish octets made new
      → SendsRaw link ordered old system sender receiver wish octets made new
  raw_ordered old new system sender receiver [] wish made all s = s
  raw_ordered old new system sender receiver (octet ∷ octets) wish made all s =
      let u = s.1 in
      let more = (subst (λ (es : List Event). AllByRecursion IsKept es) u.3 all).1 in
      (s.0, (u.0, u.1, passes_ordered old.carrier s.0 _ u.1 tt more u.2, u.3), s.2)

  -- ---- what comes

  hears_if : (old new : World C) (arrival : Arrival (List ℕ)) (place : Option Entity) (made : List Event) → AllByRecursion IsKept made
      → HearsIf link steps whole old arrival place (is_for link steps whole arrival.unit.to place) made new
      → HearsIf link ordered whole old arrival place (is_for link ordered whole arrival.unit.to place) made new
  hears_if old new arrival None made all h = h
  hears_if old new arrival (Some entity) made all h = by (selector_of arrival.unit.to == 1 && pointwise nat_eq entity.own arrival.unit.to) h
    where
      by : (fits : Bool) → HearsIf link steps whole old arrival (Some entity) fits made new → HearsIf link ordered whole old arrival (Some entity) fits made new
      by false h = h
      by true h = (h.0, h.1, acts_ordered old new arrival.system entity.own h.0 made all h.2)

  hears_ordered : (ups : List (Up (List ℕ))) (old new : World C) (made : List Event) → AllByRecursion IsKept made → HearsAll link steps whole old ups made new → HearsAll link ordered whole old ups made new
  hears_ordered [] old new made all h = h
  hears_ordered (Noted note ∷ ups) old new made all h = hears_ordered ups old new made all h
  hears_ordered (Came arrival ∷ ups) old new made all h =
      let parts = kept_parts made h.1 h.2 all h.5 in
      (h.0, h.1, h.2, hears_if old h.0 arrival (entity_at old.entities arrival.system) h.1 parts.0 h.3, hears_ordered ups h.0 new h.2 parts.1 h.4, h.5)

  arrives_ordered : (old new : World C) (call : Call (List ℕ)) (own : Event) (made : List Event) → MayCome (link old.carrier) call → AllByRecursion IsKept made → Arrives link steps whole old call own made new
      → Arrives link ordered whole old call own made new
  arrives_ordered old new call own made may all a =
      let more = (subst (λ (es : List Event). AllByRecursion IsKept es) a.made_is all).1 in
      let parts = all_parts IsKept (told a.ups) a.later more in
      record { ups = a.ups; below = a.below; later = a.later; passes = passes_ordered old.carrier a.below call a.ups may parts.0 a.passes; hears = hears_ordered a.ups _ new a.later parts.1 a.hears; made_is = a.made_is }

  -- ---- ticks

  entity_ordered : (system : ℕ) (old new : World C) (made : List Event) → AllByRecursion IsKept made → TicksEntity link steps whole system old made new → TicksEntity link ordered whole system old made new
  entity_ordered system old new made all (NoneDue o m n entity there none none_made same) = NoneDue old made new entity there none none_made same
  entity_ordered system old new made all (OneDue o m n entity reference mid here rest there due acts more made_is) =
      let parts = kept_parts made here rest all made_is in
      OneDue old made new entity reference mid here rest there due (acts_ordered old mid system entity.own _ here parts.0 acts) (entity_ordered system mid new rest parts.1 more) made_is

  all_ordered : (placed : List Placed) (old new : World C) (made : List Event) → AllByRecursion IsKept made → TicksAll link steps whole old placed made new → TicksAll link ordered whole old placed made new
  all_ordered [] old new made all t = t
  all_ordered (one ∷ placed) old new made all t =
      let parts = kept_parts made t.1 t.2 all t.5 in
      (t.0, t.1, t.2, entity_ordered one.system old t.0 t.1 parts.0 t.3, all_ordered placed t.0 new t.2 parts.1 t.4, t.5)

  ticks_ordered : (old new : World C) (made : List Event) → IsLeastFresh (link old.carrier) None → AllByRecursion IsKept made → Ticks link steps whole old made new → Ticks link ordered whole old made new
  ticks_ordered old new made fresh all t =
      let more = (subst (λ (es : List Event). AllByRecursion IsKept es) t.made_is all).1 in
      let parts = all_parts IsKept (told t.ups) t.later more in
      record { ups = t.ups; below = t.below; later = t.later; passes = passes_ordered old.carrier t.below Tick t.ups fresh parts.0 t.passes; all = all_ordered old.entities _ new t.later parts.1 t.all; made_is = t.made_is }

  -- ---- settling

  settles_ordered : (count : ℕ) (old new : World C) (made : List Event) → AllByRecursion IsKept made → Settles link steps whole count old made new → Settles link ordered whole count old made new
  settles_ordered count old new made all (NoneLeft n o m l fresh made_is same) = NoneLeft count old made new fresh made_is same
  settles_ordered count old new made all (TooMany n o m l pair fresh most made_is same) = TooMany count old made new pair fresh most made_is same
  settles_ordered count old new made all (OneMore n o m l pair mid here rest fresh low delivers settles made_is) =
      let parts = kept_parts made here rest all made_is in
      OneMore count old made new pair mid here rest fresh low (arrives_ordered old mid _ _ here tt parts.0 delivers) (settles_ordered (count + 1) mid new rest parts.1 settles) made_is

  -- a settle that is not stopped leaves nothing
  settles_all : (count : ℕ) (old new : World C) (made : List Event) → AllByRecursion IsKept made → Settles link steps whole count old made new → IsLeastFresh (link new.carrier) None
  settles_all count old new made all (NoneLeft n o m l fresh made_is same) = subst (λ (x : World C). IsLeastFresh (link x.carrier) None) (sym same) fresh
  settles_all count old new made all (TooMany n o m l pair fresh most made_is same) = absurd (subst (λ (es : List Event). AllByRecursion IsKept es) made_is all).0
  settles_all count old new made all (OneMore n o m l pair mid here rest fresh low delivers settles made_is) = settles_all (count + 1) mid new rest (kept_parts made here rest all made_is).1 settles

  -- ---- lines

  -- where nothing is left to deliver
  line_ordered : (titles : List (List ℕ)) (line : Line) (old new : World C) (made : List Event) → IsLeastFresh (link old.carrier) None ⊎ (line ≡ lines.Tick → ⊥) → AllByRecursion IsKept made
      → RunsLine link steps whole titles old line made new → RunsLine link ordered whole titles old line made new
  line_ordered titles lines.Nothing old new made fresh all step = step
  line_ordered titles (lines.Connect system selector to called options octets) old new made fresh all step =
      let asks = step.4 in
      (step.0, step.1, step.2, step.3, (asks.0, asks.1, asks.2, asks.3, connects_ordered old new system step.1 made all asks.4))
  line_ordered titles (lines.Accept end options octets) old new made fresh all step = calls_ordered old new end _ made all step
  line_ordered titles (lines.Refuse end octets) old new made fresh all step = calls_ordered old new end _ made all step
  line_ordered titles (lines.Disconnect end octets) old new made fresh all step = calls_ordered old new end _ made all step
  line_ordered titles (lines.Data end octets) old new made fresh all step = calls_ordered old new end _ made all step
  line_ordered titles (lines.Expedite end octets) old new made fresh all step = calls_ordered old new end _ made all step
  line_ordered titles (lines.Window end credit) old new made fresh all step = calls_ordered old new end _ made all step
  line_ordered titles (lines.Unit system to wish octets) old new made fresh all step =
      (step.0, step.1, step.2, step.3, raw_ordered old new system step.0 step.1 octets wish made all step.4)
  line_ordered titles lines.Tick old new made (inl fresh) all step = ticks_ordered old new made fresh all step
  line_ordered titles lines.Tick old new made (inr other) all step = absurd (other refl)
  line_ordered titles (lines.Deliver number system) old new made fresh all step = (step.0, arrives_ordered old new _ _ made tt all step.1)
  line_ordered titles lines.Settle old new made fresh all step = settles_ordered 0 old new made all step
  line_ordered titles (lines.Inject lan system octets) old new made fresh all step = (step.0, arrives_ordered old new _ _ made tt all step.1)
  line_ordered titles (lines.Restart system) old new made fresh all step = step
  line_ordered titles line old new made fresh all step = absurd step

  -- the next line finds nothing to deliver, or settles
  abbrev MayGo : World C → List Line → Type 0
  MayGo world script = IsLeastFresh (link world.carrier) None ⊎ IsSettledNext script

  record Passed (titles : List (List ℕ)) (line : Line) (script : List Line) (old new : World C) (made : List Event) : Type 0 where
    runs : RunsLine link ordered whole titles old line made new
    may : MayGo new script
    calm : IsSettledScript script

  passed : (titles : List (List ℕ)) (line : Line) (script : List Line) (old new : World C) (made : List Event) → MayGo old (line ∷ script) → IsSettledScript (line ∷ script) → AllByRecursion IsKept made
      → RunsLine link steps whole titles old line made new → Passed titles line script old new made
  passed titles lines.Nothing script old new made may calm all step = record { runs = step; may = subst (λ (x : World C). MayGo x script) (sym step.1) may; calm = calm }
  passed titles lines.Settle script old new made may calm all step = record { runs = settles_ordered 0 old new made all step; may = inl (settles_all 0 old new made all step); calm = calm }
  passed titles (lines.Deliver number system) script old new made may calm all step = absurd calm
  passed titles (lines.Inject lan system octets) script old new made may calm all step = absurd calm
  passed titles (lines.Restart system) script old new made may calm all step = absurd calm
  passed titles line script old new made (inl fresh) calm all step = record { runs = line_ordered titles line old new made (inl fresh) all step; may = inr calm.0; calm = calm.1 }
  passed titles line script old new made (inr next) calm all step = absurd next

  pub record HaveRun (titles : List (List ℕ)) (script : List Line) (old last : World C) (late : List Event) : Type 0 where
    pub runs : RunsLines link ordered whole titles old script late last
    pub none_left : IsLeastFresh (link last.carrier) None

  pub runs_ordered : (titles : List (List ℕ)) (script : List Line) (old last : World C) (late : List Event) → MayGo old script → IsSettledScript script → AllByRecursion IsKept late
      → RunsLines link steps whole titles old script late last → HaveRun titles script old last late
  runs_ordered titles [] old last late (inl fresh) calm all run = record { runs = run; none_left = subst (λ (x : World C). IsLeastFresh (link x.carrier) None) (sym run.1) fresh }
  runs_ordered titles [] old last late (inr next) calm all run = absurd next
  runs_ordered titles (line ∷ script) old last late may calm all run =
      let parts = kept_parts late run.1 run.2 all run.4 in
      let first = passed titles line script old run.0 run.1 may calm parts.0 run.3 in
      let rest = runs_ordered titles script run.0 last run.2 first.may first.calm parts.1 run.5 in
      record { runs = (run.0, run.1, run.2, first.runs, run.4, rest.runs); none_left = rest.none_left }
