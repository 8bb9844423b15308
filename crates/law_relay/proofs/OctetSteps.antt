-- Where a network serves, what comes up of it stands in octets: each line that may be asked goes by calls that hand up octets alone, and what ends tell of it stands in
-- octets too (X.233, connectionless-mode network service).
use Rattle.std.proofs.Common.{◌≡◌, ℕ, ◌+◌, Bool, true, false, List, [], ◌∷◌, ◌++◌, Option, Some, None, refl, subst}
use Rattle.std.specs.List.{AllByRecursion}
use Rattle.osi_base.specs.declared.unit.Arrival.{Arrival}
use Rattle.osi_base.specs.declared.unit.Up.{Up}
use Rattle.osi_base.specs.declared.unit.Up.TheVariants.{Unit as Came, Note as Noted}
use Rattle.osi_base.specs.declared.unit.Wish.{Wish}
use Rattle.osi_base.specs.Link.{Link}
use Rattle.osi_base.specs.Calls.{Call, Chain, Inject, Keeps, NextUp, Tick}
use Rattle.osi_base.specs.Gathering.{takings}
use Rattle.law_carrier_answers.specs.Answers.{AreOctets}
use Rattle.script_journal.specs.declared.cause.Refused.{Refused}
use Rattle.script_journal.specs.declared.event.Event.{Event}
use Rattle.script_lines.specs.declared.line.Line.{Line}
use Rattle.script_lines.specs.declared.line.Line.TheVariants as lines
use Rattle.net_world.specs.Run.{Passes, SendsUnit}
use Rattle.tpdu.specs.Grammar.{BeginsWithTpdu}
use Rattle.tpdu.specs.Values.{TpduAndSum}
use Rattle.tpdu.specs.declared.tpdu.Tpdu.{Tpdu}
use Rattle.tpdu.specs.declared.tpdu.Tpdu.TheVariants as wires
use Rattle.tp4_flow.specs.declared.step.Sent.{Sent}
use Rattle.tp4_number.specs.Number.{wire}
use Rattle.tp4_conn.specs.declared.call.ConnectRequest.{ConnectRequest}
use Rattle.tp4_conn.specs.declared.call.UserCall.{UserCall}
use Rattle.tp4_entity.specs.declared.refusal.ConnectRefusal.{ConnectRefusal}
use Rattle.tp4_entity.specs.declared.refusal.EntityRefusal.{EntityRefusal}
use Rattle.tp4_entity.specs.Entity.{Acted, Entity}
use Rattle.tp4_entity.specs.References.{least_free}
use Rattle.tp4_entity.specs.Step.{connect_refusal, user_refusal}
use Rattle.law_tp4_proper.specs.Octets.{HasOctets}
use Rattle.law_tp4_proper.proofs.Octets.{octets_both}
use Rattle.law_tp4_proper.proofs.Readings.{first_octets}
use Rattle.tp4_world.specs.Run.{Acts, Arrives, BeginsAt, Calls, CallsAt, CallsBy, CallsEnd, ConnectsBy, Hears, HearsAll, HearsIf, IsRefused, NoneDue, NoneLeft, OneDue, OneMore, RunsLine, SendsTpdu, SendsTpdus, Settles, Ticks, TicksAll, TicksEntity, TooMany, clock_of, is_for}
use Rattle.tp4_world.specs.Ended.{has_ended}
use Rattle.tp4_world.specs.Total.{CanRun, ComesInOctets, HasRun, IsReady, Serves}
use Rattle.tp4_world.specs.World.{World, end_numbered, entity_at}
use Rattle.tp4_world.specs.declared.place.EndAt.{EndAt}
use Rattle.tp4_world.specs.declared.place.Placed.{Placed}
use Rattle.tp4_world.proofs.SomeLines.{some_line}
use Rattle.law_relay.specs.Notes.{is_note}
use Rattle.law_relay.proofs.TextRows.{HasText}
use Rattle.law_relay.proofs.TextWalks.{EventIs, UpIs, WorldIs, line_is}

-- ---- a line by other steps of its carrier

module _ {C : Type 0} (link : C → Link (List ℕ)) (steps others : C → Call (List ℕ) → C → Type 0) (go : (old : C) (call : Call (List ℕ)) (new : C) → steps old call new → others old call new) where
  chain_goes : (calls : List (Call (List ℕ))) (old new : C) → Chain steps old calls new → Chain others old calls new
  chain_goes [] old new h = h
  chain_goes (call ∷ calls) old new h = (h.0, go old call h.0 h.1, chain_goes calls h.0 new h.2)

  passes_go : (old : C) (call : Call (List ℕ)) (ups : List (Up (List ℕ))) (new : C) → Passes link steps old call ups new → Passes link others old call ups new
  passes_go old call ups new p = record {
    called = p.called;
    steps_to = go old call p.called p.steps_to;
    gathers = record {
      waited = p.gathers.waited;
      quiet = p.gathers.quiet;
      stands = p.gathers.stands;
      grows = p.gathers.grows;
      chain = chain_goes (takings ups ++ NextUp None ∷ []) p.called new p.gathers.chain;
    };
  }

  tpdus_go : (tpdus : List Sent) (old new : C) (system : ℕ) (own : List ℕ) (made : List Event) → SendsTpdus link steps old system own tpdus made new → SendsTpdus link others old system own tpdus made new
  tpdus_go [] old new system own made s = s
  tpdus_go (sent ∷ tpdus) old new system own made s =
      let one = s.3 in
      let first : SendsTpdu link others old system own sent s.1 s.0 = record {
        octets = one.octets;
        answer = one.answer;
        ups = one.ups;
        written = one.written;
        passes = passes_go old _ one.ups s.0 one.passes;
        made_is = one.made_is;
      } in
      (s.0, s.1, s.2, first, tpdus_go tpdus s.0 new system own s.2 s.4, s.5)

  acts_go : (old : World C) (system : ℕ) (own : List ℕ) (acted : Acted) (made : List Event) (new : World C) → Acts link steps old system own acted made new → Acts link others old system own acted made new
  acts_go old system own acted made new a =
      record { below = a.below; sent = a.sent; sends = tpdus_go acted.tpdus old.carrier a.below system own a.sent a.sends; made_is = a.made_is; becomes = a.becomes }

  refused_go : (old : World C) (why : Option Refused) (made : List Event) (new : World C) → IsRefused link steps old why made new → IsRefused link others old why made new
  refused_go old None made new s = absurd s
  refused_go old (Some why) made new s = s

  begins_go : (old : World C) (system : ℕ) (e : Entity) (request : ConnectRequest) (found : Option ℕ) (made : List Event) (new : World C) → BeginsAt link steps old system e request found made new
      → BeginsAt link others old system e request found made new
  begins_go old system e request None made new s = absurd s
  begins_go old system e request (Some reference) made new s = (s.0, acts_go _ system e.own _ s.0 new s.1, s.2)

  connect_goes : (old : World C) (system : ℕ) (e : Entity) (request : ConnectRequest) (why : Option ConnectRefusal) (made : List Event) (new : World C) → ConnectsBy link steps old system e request why made new
      → ConnectsBy link others old system e request why made new
  connect_goes old system e request None made new s = begins_go old system e request (least_free (clock_of link steps old) e) made new s
  connect_goes old system e request (Some why) made new s = refused_go old _ made new s

  raw_goes : (old : C) (system : ℕ) (sender receiver : List ℕ) (wish : Wish) (octets : List ℕ) (made : List Event) (new : C) → SendsUnit link steps old system sender receiver wish octets made new
      → SendsUnit link others old system sender receiver wish octets made new
  raw_goes old system sender receiver wish [] made new s = s
  raw_goes old system sender receiver wish (octet ∷ octets) made new s = (s.0, s.1, passes_go old _ s.1 new s.2, s.3)

  module _ (wrap : ℕ → ℕ → ℕ) where
    called_by : (old : World C) (number : ℕ) (end : EndAt) (e : Entity) (call : UserCall) (why : Option EntityRefusal) (made : List Event) (new : World C) → CallsBy link steps wrap old number end e call why made new
        → CallsBy link others wrap old number end e call why made new
    called_by old number end e call None made new s = (s.0, acts_go old end.system e.own _ s.0 new s.1, s.2)
    called_by old number end e call (Some why) made new s = refused_go old _ made new s

    called_end : (old : World C) (number : ℕ) (end : EndAt) (e : Entity) (call : UserCall) (ended : Bool) (made : List Event) (new : World C) → CallsEnd link steps wrap old number end e call ended made new
        → CallsEnd link others wrap old number end e call ended made new
    called_end old number end e call true made new s = s
    called_end old number end e call false made new s = called_by old number end e call (user_refusal e end.reference call) made new s

    called_at : (old : World C) (number : ℕ) (call : UserCall) (end : Option EndAt) (made : List Event) (new : World C) → CallsAt link steps wrap old number call end made new
        → CallsAt link others wrap old number call end made new
    called_at old number call None made new s = s
    called_at old number call (Some end) made new s = (s.0, s.1, called_end old number end s.0 call (has_ended (clock_of link steps old) old.ends number end s.0) made new s.2)

    calls_go : (old : World C) (number : ℕ) (call : UserCall) (made : List Event) (new : World C) → Calls link steps wrap old number call made new → Calls link others wrap old number call made new
    calls_go old number call made new s = called_at old number call (end_numbered old.ends number) made new s

    heard_if : (old : World C) (arrival : Arrival (List ℕ)) (e : Option Entity) (fits : Bool) (made : List Event) (new : World C) → HearsIf link steps wrap old arrival e fits made new
        → HearsIf link others wrap old arrival e fits made new
    heard_if old arrival None fits made new s = s
    heard_if old arrival (Some e) false made new s = s
    heard_if old arrival (Some e) true made new s = (s.0, s.1, acts_go old arrival.system e.own s.0 made new s.2)

    same_for : (to : List ℕ) (e : Option Entity) → is_for link steps wrap to e ≡ is_for link others wrap to e
    same_for to None = refl
    same_for to (Some e) = refl

    hears_go : (old : World C) (arrival : Arrival (List ℕ)) (made : List Event) (new : World C) → Hears link steps wrap old arrival made new → Hears link others wrap old arrival made new
    hears_go old arrival made new s =
        let e : Option Entity = entity_at old.entities arrival.system in
        subst (λ (fits : Bool). HearsIf link others wrap old arrival e fits made new) (same_for arrival.unit.to e) (heard_if old arrival e (is_for link steps wrap arrival.unit.to e) made new s)

    all_heard : (ups : List (Up (List ℕ))) (old : World C) (made : List Event) (new : World C) → HearsAll link steps wrap old ups made new → HearsAll link others wrap old ups made new
    all_heard [] old made new s = s
    all_heard (Noted note ∷ ups) old made new s = all_heard ups old made new s
    all_heard (Came arrival ∷ ups) old made new s = (s.0, s.1, s.2, hears_go old arrival s.1 s.0 s.3, all_heard ups s.0 s.2 new s.4, s.5)

    arrives_go : (old : World C) (call : Call (List ℕ)) (own : Event) (made : List Event) (new : World C) → Arrives link steps wrap old call own made new → Arrives link others wrap old call own made new
    arrives_go old call own made new a = record {
      ups = a.ups;
      below = a.below;
      later = a.later;
      passes = passes_go old.carrier call a.ups a.below a.passes;
      hears = all_heard a.ups (record old { carrier = a.below }) a.later new a.hears;
      made_is = a.made_is;
    }

    entity_ticks : (system : ℕ) (old : World C) (made : List Event) (new : World C) → TicksEntity link steps wrap system old made new → TicksEntity link others wrap system old made new
    entity_ticks system old made new (NoneDue o m n e there nothing made_is becomes) = NoneDue old made new e there nothing made_is becomes
    entity_ticks system old made new (OneDue o m n e reference mid here rest there due acts more made_is) =
        OneDue old made new e reference mid here rest there due (acts_go old system e.own _ here mid acts) (entity_ticks system mid rest new more) made_is

    all_tick : (placed : List Placed) (old : World C) (made : List Event) (new : World C) → TicksAll link steps wrap old placed made new → TicksAll link others wrap old placed made new
    all_tick [] old made new s = s
    all_tick (one ∷ placed) old made new s = (s.0, s.1, s.2, entity_ticks one.system old s.1 s.0 s.3, all_tick placed s.0 s.2 new s.4, s.5)

    ticks_go : (old : World C) (made : List Event) (new : World C) → Ticks link steps wrap old made new → Ticks link others wrap old made new
    ticks_go old made new s = record {
      ups = s.ups;
      below = s.below;
      later = s.later;
      passes = passes_go old.carrier Tick s.ups s.below s.passes;
      all = all_tick old.entities (record old { carrier = s.below }) s.later new s.all;
      made_is = s.made_is;
    }

    settles_go : (count : ℕ) (old : World C) (made : List Event) (new : World C) → Settles link steps wrap count old made new → Settles link others wrap count old made new
    settles_go count old made new (NoneLeft n o m l fresh made_is same) = NoneLeft count old made new fresh made_is same
    settles_go count old made new (TooMany n o m l pair fresh most made_is same) = TooMany count old made new pair fresh most made_is same
    settles_go count old made new (OneMore n o m l pair mid here rest fresh low delivers settles made_is) =
        OneMore count old made new pair mid here rest fresh low (arrives_go old _ _ here mid delivers) (settles_go (count + 1) mid rest new settles) made_is

    pub line_goes : (titles : List (List ℕ)) (old : World C) (line : Line) (made : List Event) (new : World C) → RunsLine link steps wrap titles old line made new → RunsLine link others wrap titles old line made new
    line_goes titles old lines.Nothing made new s = s
    line_goes titles old (lines.Connect system selector to called options octets) made new s =
        let c = s.4.4 in
        (s.0, s.1, s.2, s.3, (s.4.0, s.4.1, s.4.2, s.4.3, (c.0, c.1, connect_goes old system c.0 s.1 (connect_refusal (clock_of link steps old) c.0 (s.1).octets) made new c.2)))
    line_goes titles old (lines.Accept end options octets) made new s = calls_go old end _ made new s
    line_goes titles old (lines.Refuse end octets) made new s = calls_go old end _ made new s
    line_goes titles old (lines.Disconnect end octets) made new s = calls_go old end _ made new s
    line_goes titles old (lines.Data end octets) made new s = calls_go old end _ made new s
    line_goes titles old (lines.Expedite end octets) made new s = calls_go old end _ made new s
    line_goes titles old (lines.Window end credit) made new s = calls_go old end _ made new s
    line_goes titles old (lines.Unit system to wish octets) made new s = (s.0, s.1, s.2, s.3, (s.4.0, raw_goes old.carrier system s.0 s.1 wish octets made s.4.0 s.4.1, s.4.2))
    line_goes titles old lines.Tick made new s = ticks_go old made new s
    line_goes titles old (lines.Deliver number system) made new s = (s.0, arrives_go old _ _ made new s.1)
    line_goes titles old lines.Settle made new s = settles_go 0 old made new s
    line_goes titles old (lines.Inject lan system octets) made new s = (s.0, arrives_go old _ _ made new s.1)
    line_goes titles old (lines.Restart system) made new s = s
    line_goes titles old other made new s = absurd s

-- ---- octets

-- what is read of octets stands in octets
text_read : (tpdu : Tpdu) → HasOctets tpdu → HasText AreOctets tt octets_both tpdu
text_read (wires.Cr credit source width calling called size preferred extra version classes ack_time text) h = h.4
text_read (wires.Cc credit destination source width calling called size preferred extra version classes ack_time text) h = h.5
text_read (wires.Dt destination last number text) h = h.1
text_read (wires.Ed destination last number text) h = h.1
text_read other h = tt

pub octets_read : (extended octets rest : List ℕ) (tpdu : TpduAndSum) → BeginsWithTpdu extended octets tpdu rest → AreOctets octets → HasText AreOctets tt octets_both tpdu.0 × AreOctets rest
octets_read extended octets rest tpdu begins p = let r = first_octets extended octets rest tpdu begins p in (text_read tpdu.0 r.0, r.1)

-- the ends of a network hold octets, and an event tells octets
abbrev pub HoldsOctets : {C : Type 0} → World C → Type 0
HoldsOctets world = WorldIs AreOctets tt octets_both octets_read world

abbrev pub TellsOctets : Event → Type 0
TellsOctets event = EventIs AreOctets tt octets_both octets_read event

abbrev IsOctetUp : Up (List ℕ) → Type 0
IsOctetUp up = UpIs AreOctets tt octets_both octets_read up

-- the call hands up octets
abbrev HandsOctets : Call (List ℕ) → Type 0
HandsOctets (NextUp (Some up)) = IsOctetUp up
HandsOctets call = Prim.Unit {0}

events_octets : (made : List Event) → AllByRecursion (λ event. EventIs AreOctets tt octets_both octets_read event × (is_note event ≡ false)) made → AllByRecursion TellsOctets made
events_octets [] all = tt
events_octets (event ∷ made) all = (all.0.0, events_octets made all.1)

module _ {C : Type 0} (link : C → Link (List ℕ)) (steps : C → Call (List ℕ) → C → Type 0) (keeps : (old : C) (call : Call (List ℕ)) (new : C) → steps old call new → Keeps (link old) call (link new))
    (is_address : List ℕ → Bool) (Stands : C → Type 0) (serves : Serves is_address link steps Stands) where
  abbrev OctetSteps : C → Call (List ℕ) → C → Type 0
  OctetSteps old call new = steps old call new × HandsOctets call

  up_octets : (up : Up (List ℕ)) → ComesInOctets is_address up → IsOctetUp up
  up_octets (Came arrival) may = may.octets
  up_octets (Noted note) may = tt

  first_up : (up : Up (List ℕ)) (waiting rest : List (Up (List ℕ))) → waiting ≡ up ∷ rest → AllByRecursion (ComesInOctets is_address) waiting → IsOctetUp up
  first_up up waiting rest is all = up_octets up (subst (λ (ups : List (Up (List ℕ))). AllByRecursion (ComesInOctets is_address) ups) is all).0

  hands : (old : C) (call : Call (List ℕ)) (new : C) → Stands old → steps old call new → HandsOctets call
  hands old (NextUp None) new stands s = tt
  hands old (NextUp (Some up)) new stands s = first_up up (link old).waiting (link new).waiting (keeps old (NextUp (Some up)) new s).waiting (serves.in_octets old stands)
  hands old other new stands s = tt

  octets_serve : Serves is_address link OctetSteps Stands
  octets_serve = record {
    answers = record {
      answered = λ old asked stands may.
          (let a = serves.answers.answered old asked stands may in
          record { call = a.call; new = a.new; is_asked = a.is_asked; steps_to = (a.steps_to, hands old a.call a.new stands a.steps_to) });
      stays = λ old call new stands may s. serves.answers.stays old call new stands may s.0;
    };
    in_octets = serves.in_octets;
    least = serves.least;
  }

  octets_keep : (old : C) (call : Call (List ℕ)) (new : C) → OctetSteps old call new → Keeps (link old) call (link new)
  octets_keep old call new s = keeps old call new s.0

  -- what is taken up
  chain_octets : (ups : List (Up (List ℕ))) (old new : C) → Chain OctetSteps old (takings ups ++ NextUp None ∷ []) new → AllByRecursion IsOctetUp ups
  chain_octets [] old new h = tt
  chain_octets (up ∷ ups) old new h = (h.1.1, chain_octets ups h.0 new h.2)

  -- a line, what it leads to, and what it tells
  pub record Went (titles : List (List ℕ)) (old : World C) (line : Line) : Type 0 where
    pub made : List Event
    pub new : World C
    pub runs : RunsLine link steps wire titles old line made new
    pub ready : IsReady is_address link Stands new
    pub tells : AllByRecursion TellsOctets made
    pub holds : HoldsOctets new

  pub goes : (titles : List (List ℕ)) (old : World C) (line : Line) → IsReady is_address link Stands old → HoldsOctets old → CanRun is_address titles link old line → Went titles old line
  goes titles old line ready holds may =
      let h : HasRun is_address link OctetSteps Stands wire titles old line = some_line link OctetSteps octets_keep is_address Stands octets_serve wire titles old line ready may in
      let ran = line_is AreOctets tt octets_both octets_read link OctetSteps (λ was call ups then p. chain_octets ups p.called then p.gathers.chain) wire titles line old h.new h.made holds h.runs in
      record {
        made = h.made;
        new = h.new;
        runs = line_goes link OctetSteps steps (λ was call then s. s.0) wire titles old line h.made h.new h.runs;
        ready = h.ready;
        tells = events_octets h.made ran.told_is;
        holds = ran.world;
      }
