-- After a line nothing waits in the carrier: all that comes up is taken up (X.233, connectionless-mode network service).
use Rattle.std.proofs.Common.{◌≡◌, ℕ, ◌+◌, Bool, true, false, List, [], ◌∷◌, Option, Some, None, ◌∙◌, ap}
use Rattle.osi_base.specs.declared.unit.Arrival.{Arrival}
use Rattle.osi_base.specs.declared.unit.Up.{Up}
use Rattle.osi_base.specs.declared.unit.Up.TheVariants.{Unit as Came, Note as Noted}
use Rattle.osi_base.specs.declared.unit.Wish.{Wish}
use Rattle.osi_base.specs.Link.{Link}
use Rattle.osi_base.specs.Calls.{Call}
use Rattle.script_journal.specs.declared.cause.Refused.{Refused}
use Rattle.script_journal.specs.declared.cause.Refused.TheVariants as refusals
use Rattle.script_journal.specs.declared.event.Event.{Event}
use Rattle.script_lines.specs.declared.line.Line.{Line}
use Rattle.script_lines.specs.declared.line.Line.TheVariants as lines
use Rattle.net_world.specs.Run.{SendsUnit}
use Rattle.tp4_flow.specs.declared.step.Sent.{Sent}
use Rattle.tp4_conn.specs.declared.call.ConnectRequest.{ConnectRequest}
use Rattle.tp4_conn.specs.declared.call.UserCall.{UserCall}
use Rattle.tp4_entity.specs.declared.refusal.ConnectRefusal.{ConnectRefusal}
use Rattle.tp4_entity.specs.declared.refusal.EntityRefusal.{EntityRefusal}
use Rattle.tp4_entity.specs.Entity.{Acted, Entity}
use Rattle.tp4_entity.specs.References.{least_free}
use Rattle.tp4_entity.specs.Step.{connect_refusal, user_refusal}
use Rattle.tp4_world.specs.Run.{Acts, Arrives, BeginsAt, Calls, CallsAt, CallsBy, CallsEnd, Connects, ConnectsBy, HearsAll, HearsIf, IsRefused, NoneDue, NoneLeft, OneDue, OneMore, RunsLine, SendsTpdus, Settles, TicksAll, TicksEntity, TooMany, clock_of, is_for}
use Rattle.tp4_world.specs.Ended.{has_ended}
use Rattle.tp4_world.specs.World.{World, end_numbered, entity_at}
use Rattle.tp4_world.specs.declared.place.EndAt.{EndAt}
use Rattle.tp4_world.specs.declared.place.Placed.{Placed}

module _ {C : Type 0} (link : C → Link (List ℕ)) (steps : C → Call (List ℕ) → C → Type 0) where
  abbrev pub IsQuiet : World C → Type 0
  IsQuiet world = (link world.carrier).waiting ≡ []

  same_quiet : (old new : World C) → new ≡ old → IsQuiet old → IsQuiet new
  same_quiet old new same quiet = ap (λ (w : World C). (link w.carrier).waiting) same ∙ quiet

  sends_quiet : (tpdus : List Sent) (old new : C) (system : ℕ) (own : List ℕ) (made : List Event) → SendsTpdus link steps old system own tpdus made new → (link old).waiting ≡ [] → (link new).waiting ≡ []
  sends_quiet [] old new system own made s quiet = ap (λ (c : C). (link c).waiting) s.1 ∙ quiet
  sends_quiet (sent ∷ tpdus) old new system own made s quiet = sends_quiet tpdus s.0 new system own s.2 s.4 s.3.passes.gathers.quiet

  acts_quiet : (old new : World C) (system : ℕ) (own : List ℕ) (acted : Acted) (made : List Event) → Acts link steps old system own acted made new → IsQuiet old → IsQuiet new
  acts_quiet old new system own acted made a quiet = ap (λ (w : World C). (link w.carrier).waiting) a.becomes ∙ sends_quiet acted.tpdus old.carrier a.below system own a.sent a.sends quiet

  refused_quiet : (old new : World C) (made : List Event) (why : Option Refused) → IsRefused link steps old why made new → IsQuiet old → IsQuiet new
  refused_quiet old new made None s quiet = absurd s
  refused_quiet old new made (Some why) s quiet = same_quiet old new s.1 quiet

  begun_quiet : (old new : World C) (made : List Event) (system : ℕ) (e : Entity) (request : ConnectRequest) (found : Option ℕ) → BeginsAt link steps old system e request found made new → IsQuiet old → IsQuiet new
  begun_quiet old new made system e request None s quiet = absurd s
  begun_quiet old new made system e request (Some reference) s quiet = acts_quiet _ new system e.own _ s.0 s.1 quiet

  connect_by : (old new : World C) (made : List Event) (system : ℕ) (e : Entity) (request : ConnectRequest) (why : Option ConnectRefusal) → ConnectsBy link steps old system e request why made new → IsQuiet old → IsQuiet new
  connect_by old new made system e request (Some why) s quiet = refused_quiet old new made _ s quiet
  connect_by old new made system e request None s quiet = begun_quiet old new made system e request (least_free (clock_of link steps old) e) s quiet

  pub connect_quiet : (old new : World C) (made : List Event) (system : ℕ) (request : ConnectRequest) → Connects link steps old system request made new → IsQuiet old → IsQuiet new
  connect_quiet old new made system request s quiet = connect_by old new made system s.0 request (connect_refusal (clock_of link steps old) s.0 request.octets) s.2 quiet

  raw_quiet : (old new : World C) (below : C) (made : List Event) (system : ℕ) (sender receiver octets : List ℕ) (wish : Wish) → SendsUnit link steps old.carrier system sender receiver wish octets made below
      → new ≡ record old { carrier = below } → IsQuiet old → IsQuiet new
  raw_quiet old new below made system sender receiver octets wish s same quiet = ap (λ (w : World C). (link w.carrier).waiting) same ∙ by octets s
    where
      by : (xs : List ℕ) → SendsUnit link steps old.carrier system sender receiver wish xs made below → (link below).waiting ≡ []
      by [] t = ap (λ (c : C). (link c).waiting) t.1 ∙ quiet
      by (x ∷ xs) t = t.2.gathers.quiet

  module _ (wrap : ℕ → ℕ → ℕ) where
    call_by : (old new : World C) (made : List Event) (number : ℕ) (end : EndAt) (e : Entity) (call : UserCall) (why : Option EntityRefusal) → CallsBy link steps wrap old number end e call why made new → IsQuiet old → IsQuiet new
    call_by old new made number end e call (Some why) s quiet = refused_quiet old new made _ s quiet
    call_by old new made number end e call None s quiet = acts_quiet old new end.system e.own _ s.0 s.1 quiet

    call_end : (old new : World C) (made : List Event) (number : ℕ) (end : EndAt) (e : Entity) (call : UserCall) (ended : Bool) → CallsEnd link steps wrap old number end e call ended made new → IsQuiet old → IsQuiet new
    call_end old new made number end e call true s quiet = refused_quiet old new made (Some refusals.Ended) s quiet
    call_end old new made number end e call false s quiet = call_by old new made number end e call (user_refusal e end.reference call) s quiet

    call_at : (old new : World C) (made : List Event) (number : ℕ) (call : UserCall) (end : Option EndAt) → CallsAt link steps wrap old number call end made new → IsQuiet old → IsQuiet new
    call_at old new made number call None s quiet = refused_quiet old new made (Some refusals.NoSuchEnd) s quiet
    call_at old new made number call (Some end) s quiet = call_end old new made number end s.0 call (has_ended (clock_of link steps old) old.ends number end s.0) s.2 quiet

    pub call_quiet : (old new : World C) (made : List Event) (number : ℕ) (call : UserCall) → Calls link steps wrap old number call made new → IsQuiet old → IsQuiet new
    call_quiet old new made number call s quiet = call_at old new made number call (end_numbered old.ends number) s quiet

    heard_if : (old new : World C) (made : List Event) (arrival : Arrival (List ℕ)) (e : Option Entity) (fit : Bool) → HearsIf link steps wrap old arrival e fit made new → IsQuiet old → IsQuiet new
    heard_if old new made arrival None fit s quiet = same_quiet old new s.1 quiet
    heard_if old new made arrival (Some e) false s quiet = same_quiet old new s.1 quiet
    heard_if old new made arrival (Some e) true s quiet = acts_quiet old new arrival.system e.own s.0 made s.2 quiet

    heard_all : (ups : List (Up (List ℕ))) (old new : World C) (made : List Event) → HearsAll link steps wrap old ups made new → IsQuiet old → IsQuiet new
    heard_all [] old new made s quiet = same_quiet old new s.1 quiet
    heard_all (Noted note ∷ ups) old new made s quiet = heard_all ups old new made s quiet
    heard_all (Came arrival ∷ ups) old new made s quiet =
        heard_all ups s.0 new s.2 s.4
        (heard_if old s.0 s.1 arrival (entity_at old.entities arrival.system) (is_for link steps wrap arrival.unit.to (entity_at old.entities arrival.system)) s.3 quiet)

    arrived : (old new : World C) (made : List Event) (call : Call (List ℕ)) (own : Event) → Arrives link steps wrap old call own made new → IsQuiet new
    arrived old new made call own a = heard_all a.ups (record old { carrier = a.below }) new a.later a.hears a.passes.gathers.quiet

    entity_ticked : (system : ℕ) (old : World C) (made : List Event) (new : World C) → TicksEntity link steps wrap system old made new → IsQuiet old → IsQuiet new
    entity_ticked system old made new (NoneDue o m n e there none made_is becomes) quiet = ap (λ (w : World C). (link w.carrier).waiting) becomes ∙ quiet
    entity_ticked system old made new (OneDue o m n e reference mid here rest there due acts others made_is) quiet = entity_ticked system mid rest new others (acts_quiet old mid system e.own _ here acts quiet)

    all_ticked : (placed : List Placed) (old new : World C) (made : List Event) → TicksAll link steps wrap old placed made new → IsQuiet old → IsQuiet new
    all_ticked [] old new made s quiet = same_quiet old new s.1 quiet
    all_ticked (one ∷ placed) old new made s quiet = all_ticked placed s.0 new s.2 s.4 (entity_ticked one.system old s.1 s.0 s.3 quiet)

    pub settled_quiet : (count : ℕ) (old : World C) (made : List Event) (new : World C) → Settles link steps wrap count old made new → IsQuiet old → IsQuiet new
    settled_quiet count old made new (NoneLeft n o m l fresh made_is same) quiet = same_quiet old new same quiet
    settled_quiet count old made new (TooMany n o m l pair fresh most made_is same) quiet = same_quiet old new same quiet
    settled_quiet count old made new (OneMore n o m l pair mid here rest fresh low delivers settles made_is) quiet = settled_quiet (count + 1) mid rest new settles (arrived old mid here _ _ delivers)

    pub line_quiet : (titles : List (List ℕ)) (line : Line) (old new : World C) (made : List Event) → RunsLine link steps wrap titles old line made new → IsQuiet old → IsQuiet new
    line_quiet titles lines.Nothing old new made s quiet = same_quiet old new s.1 quiet
    line_quiet titles (lines.Connect system selector to called options octets) old new made s quiet = connect_quiet old new made system s.1 s.4.4 quiet
    line_quiet titles (lines.Accept end options octets) old new made s quiet = call_quiet old new made end _ s quiet
    line_quiet titles (lines.Refuse end octets) old new made s quiet = call_quiet old new made end _ s quiet
    line_quiet titles (lines.Disconnect end octets) old new made s quiet = call_quiet old new made end _ s quiet
    line_quiet titles (lines.Data end octets) old new made s quiet = call_quiet old new made end _ s quiet
    line_quiet titles (lines.Expedite end octets) old new made s quiet = call_quiet old new made end _ s quiet
    line_quiet titles (lines.Window end credit) old new made s quiet = call_quiet old new made end _ s quiet
    line_quiet titles (lines.Unit system to wish octets) old new made s quiet = raw_quiet old new s.4.0 made system s.0 s.1 octets wish s.4.1 s.4.2 quiet
    line_quiet titles lines.Tick old new made s quiet = all_ticked old.entities (record old { carrier = s.below }) new s.later s.all s.passes.gathers.quiet
    line_quiet titles (lines.Deliver number system) old new made s quiet = arrived old new made _ _ s.1
    line_quiet titles lines.Settle old new made s quiet = settled_quiet 0 old made new s quiet
    line_quiet titles (lines.Inject lan system octets) old new made s quiet = arrived old new made _ _ s.1
    line_quiet titles (lines.Restart system) old new made s quiet = ap (λ (w : World C). (link w.carrier).waiting) s.3 ∙ quiet
    line_quiet titles other old new made s quiet = absurd s
