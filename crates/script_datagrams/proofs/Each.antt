-- Each unit that comes up in a script of datagrams gives one event: as long as nothing is injected, what arrives was afloat, and what floats is for the
-- selector of transport, since each datagram is sent to an address of it; and what belongs to a system comes to an end system, whose users it is for.
use Rattle.std.proofs.Common.{◌≡◌, inl, inr, ℕ, ◌+◌, Bool, true, false, List, [], ◌∷◌, ◌++◌, length, refl, sym, ◌∙◌, ap, subst, arith, append_assoc}
use Rattle.std.specs.Prelude.{nat_lt, IsTrue}
use Rattle.std.specs.List.{All, Contains}
use Rattle.std.proofs.lemmas.List.{append-nil}
use Rattle.std.proofs.lemmas.List.Elements.{All-head, All-tail}
use Rattle.nsap.specs.Address.{selector_of, system_part}
use Rattle.nsap.proofs.AddressLemmas.{selector_of-append}
use Rattle.osi_base.specs.declared.unit.Picked.{Picked}
use Rattle.osi_base.specs.declared.unit.Picked.TheVariants.{Taken as WasPicked}
use Rattle.osi_base.specs.declared.unit.Unit.{Unit as CarriedUnit}
use Rattle.osi_base.specs.declared.unit.Up.{Up}
use Rattle.osi_base.specs.declared.unit.Up.TheVariants.{Unit as Came, Note as Noted}
use Rattle.osi_base.specs.Link.{Link, IsLawful, IsNote}
use Rattle.osi_base.specs.Calls.{Call, Choose, IsSameLink, Keeps, Offer, Tick}
use Rattle.net_world.proofs.Standing.{these_waited}
use Rattle.script_journal.specs.declared.cause.Settled.{Settled}
use Rattle.script_journal.specs.declared.event.Event.{Event}
use Rattle.cltp.specs.declared.sending.Request.{Request}
use Rattle.cltp.specs.declared.sending.ClAnswer.{ClAnswer}
use Rattle.cltp.specs.declared.system.ClSystem.{ClSystem}
use Rattle.cltp.specs.Each.{ArrivesEach, CallGivesEach, GivesEach, SendsEach, SettlesEach}
use Rattle.cltp.specs.Hearing.{HearsAll}
use Rattle.cltp.specs.Run.{Arrives, ClCall, Sending, Delivering, Ticking, Settling, NoneLeft, OneMore, RunsCall, SendsIf, Settles, Starts, TooMany}
use Rattle.cltp.specs.Sending.{ud_wish}
use Rattle.cltp.specs.Systems.{World}
use Rattle.script_lines.specs.declared.line.Line.{Line}
use Rattle.script_lines.specs.declared.line.Line.TheVariants as lines
use Rattle.script_lines.specs.Known.{Declared, nothing_declared}
use Rattle.script_lines.specs.declared.words.Dialect.TheVariants as dialects
use Rattle.script_lines.specs.Script.{Says}
use Rattle.script_setup.specs.Fitting.{Fits, IsWell}
use Rattle.script_setup.specs.SetUp.{SetUp, nothing_said, set_up}
use Rattle.script_setup.proofs.Wellness.{nothing_well, well_after}
use Rattle.law_setup.specs.Agreeing.{AreOne}
use Rattle.law_setup.specs.Lines.{Kept}
use Rattle.law_setup.proofs.Kept.{line_kept}
use Rattle.script_bench.specs.Acts.{RunsScript}
use Rattle.script_bench.specs.Claims.{IsLaw}
use Rattle.script_bench.specs.Script.{started_after}
use Rattle.script_bench.specs.steps.Moves.{line_moves, start_only, starts_not}
use Rattle.law_setup.specs.Networks.{NetworkLaws}
use Rattle.script_world.specs.Plays.{SetsUp, StartsUp, is_start, world_acts}
use Rattle.script_world.specs.declared.play.World.{World as ScriptWorld}
use Rattle.script_world.specs.declared.play.World.TheVariants.{SettingUp, Running}
use Rattle.script_datagrams.specs.Claims.{GivesOne}
use Rattle.law_datagram_run.specs.Datagrams.{DatagramRun, RunsLine, cl_play, request_for}
use Rattle.script_datagrams.specs.Each.{ComesToEnds, GivesEachUnit, LineGivesEach, RunGivesEach, StartGivesEach}
use Rattle.law_datagram_run.specs.Users.{users_of}
use Rattle.script_datagrams.proofs.Heard.{hears_each}

-- ---- what came up

-- a unit gives one event
abbrev IsOne : List ClSystem → Up (List ℕ) → Type 0
IsOne systems (Came arrival) = GivesOne systems arrival
IsOne systems (Noted note) = Unit {0}

one_note : (systems : List ClSystem) (up : Up (List ℕ)) → IsNote up → IsOne systems up
one_note systems (Came arrival) is = absurd is
one_note systems (Noted note) is = tt

each_given : (systems : List ClSystem) (P : Up (List ℕ) → Type 0) → ((up : Up (List ℕ)) → P up → IsOne systems up) → (ups : List (Up (List ℕ))) (heard : List Event) → All P ups → HearsAll systems ups heard
    → GivesEach systems ups heard
each_given systems P one [] heard all hears = hears
each_given systems P one (Noted note ∷ ups) heard all hears = each_given systems P one ups heard (All-tail P (Noted note) ups all) hears
each_given systems P one (Came arrival ∷ ups) heard all hears =
    let gives = one (Came arrival) (All-head P (Came arrival) ups all) in (
      gives.own,
      gives.event,
      hears.1,
      gives.own_is,
      gives.tells,
      hears.4 ∙ ap (λ (es : List Event). es ++ hears.1) (gives.only hears.0 hears.2),
      each_given systems P one ups hears.1 (All-tail P (Came arrival) ups all) hears.3,
    )

module _ {N : Type 0} (link : N → Link (List ℕ)) (steps : N → Call (List ℕ) → N → Type 0) (keeps : (old : N) (call : Call (List ℕ)) (new : N) → steps old call new → Keeps (link old) call (link new))
    (makes : SetUp → N → Type 0) (laws : NetworkLaws link steps makes) (ends : ComesToEnds link makes) where
  -- ---- a running network

  module _ (setup : SetUp) (well : IsWell setup) (within : Fits setup lines.Start) (net : N) (made_net : makes setup net) where
    abbrev users : List ClSystem
    users = users_of setup

    -- what is afloat is for the selector of transport
    abbrev AreSelected : Link (List ℕ) → Type 0
    AreSelected state = (entry : ℕ × CarriedUnit (List ℕ)) → Contains state.floating entry → selector_of entry.1.to ≡ 1

    -- nothing was injected, and systems are where they were
    pub record IsHonest (state : Link (List ℕ)) : Type 0 where
      pub honest : state.honest ≡ true
      pub belongs : (to : List ℕ) (system : ℕ) → state.belongs to system ≡ (link net).belongs to system
      pub selected : AreSelected state

    -- and nothing waits
    pub record Rests (world : World N) : Type 0 where
      pub state : IsHonest (link world.carrier)
      pub quiet : (link world.carrier).waiting ≡ []
      pub systems_are : world.systems ≡ users

    -- what arrives gives one event
    lawful_one : (state : Link (List ℕ)) → IsHonest state → (up : Up (List ℕ)) → IsLawful state up → IsOne users up
    lawful_one state h (Noted note) lawful = tt
    lawful_one state h (Came arrival) lawful =
        let here : IsTrue ((link net).belongs arrival.unit.to arrival.system) = subst (λ (b : Bool). IsTrue b) (h.belongs arrival.unit.to arrival.system) lawful.1 in
        hears_each link steps makes laws setup net arrival well within made_net here (ends setup net arrival.unit.to arrival.system made_net here)
        (h.selected (lawful.0.tick, arrival.unit) lawful.0.taken)

    honest_more : (old new : Link (List ℕ)) → IsSameLink old new → new.honest ≡ old.honest → AreSelected new → IsHonest old → IsHonest new
    honest_more old new same honest selected h = record { honest = honest ∙ h.honest; belongs = λ to system. same.belongs to system ∙ h.belongs to system; selected = selected }

    -- what a call of the carrier brings
    record Given (old : World N) (call : Call (List ℕ)) (own : Event) (made : List Event) (new : World N) (a : Arrives link steps old call own made new) : Type 0 where
      each : ArrivesEach link steps old call own made new a
      rests : Rests new

    arrives_given : (old : World N) (call : Call (List ℕ)) (own : Event) (made : List Event) (new : World N) (a : Arrives link steps old call own made new) (P : Up (List ℕ) → Type 0) → ((up : Up (List ℕ)) → P up → IsOne users up)
        → Rests old → IsHonest (link a.called) → (ups : List (Up (List ℕ))) → (link a.called).waiting ≡ (link old.carrier).waiting ++ ups → All P ups → Given old call own made new a
    arrives_given old call own made new a P one r h ups added all =
        let takes = a.takes_up in
        let are = these_waited (link old.carrier) ups takes.ups (link a.called).waiting r.quiet added takes.gathers.waited in
        let given : GivesEach users takes.ups takes.heard =
        each_given users P one takes.ups takes.heard (subst (λ (us : List (Up (List ℕ))). All P us) are all) (subst (λ (ss : List ClSystem). HearsAll ss takes.ups takes.heard) r.systems_are takes.hears) in
        record {
          each = subst (λ (ss : List ClSystem). GivesEach ss takes.ups takes.heard) (sym r.systems_are) given;
          rests = record {
            state = honest_more (link a.called) (link new.carrier) takes.gathers.stands.same takes.gathers.stands.honest (λ entry there. h.selected entry (takes.gathers.grows entry there)) h;
            quiet = takes.gathers.quiet;
            systems_are = a.same ∙ r.systems_are;
          };
        }

    record SendGiven (long : Bool) (old : World N) (system : ℕ) (request : Request) (answer : ClAnswer) (made : List Event) (new : World N) (s : SendsIf link steps long old system request answer made new) : Type 0 where
      each : SendsEach link steps long old system request answer made new s
      rests : Rests new

    send_given : (long : Bool) (old : World N) (system : ℕ) (request : Request) (answer : ClAnswer) (made : List Event) (new : World N) (s : SendsIf link steps long old system request answer made new) → selector_of request.to ≡ 1 → Rests old
        → SendGiven long old system request answer made new s
    send_given true old system request answer made new s one r = record { each = tt; rests = subst Rests (sym s.2) r }
    send_given false old system request answer made new s one r =
        let a = s.arrives in
        let unit : CarriedUnit (List ℕ) = record { from = (s.own).own; to = request.to; octets = s.octets } in
        let k = keeps old.carrier (Offer unit ud_wish s.offered) a.called a.steps_to in
        let selected : AreSelected (link a.called) = λ entry there.
        elim (k.grows entry there) [
          | inl before ↦ r.state.selected entry before
          | inr fresh ↦ ap (λ (e : ℕ × CarriedUnit (List ℕ)). selector_of e.1.to) fresh.1 ∙ one
        ] in
        let given = arrives_given old _ _ made new a IsNote (one_note users) r (honest_more (link old.carrier) (link a.called) k.same k.honest selected r.state) k.notes.notes k.notes.waiting k.notes.all_notes in
        record { each = given.each; rests = given.rests }

    deliver_given : (old : World N) (number system : ℕ) (answer : Picked) (own : Event) (made : List Event) (new : World N) (a : Arrives link steps old (Choose number system answer) own made new) → Rests old
        → Given old (Choose number system answer) own made new a
    deliver_given old number system answer own made new a r =
        let k = keeps old.carrier (Choose number system answer) a.called a.steps_to in
        arrives_given old (Choose number system answer) own made new a (IsLawful (link old.carrier)) (lawful_one (link old.carrier) r.state) r
        (honest_more (link old.carrier) (link a.called) k.same k.honest (λ entry there. r.state.selected entry (k.grows entry there)) r.state) k.ups k.adds.waiting (k.lawful r.state.honest)

    record SettleGiven (count : ℕ) (old : World N) (answer : Settled) (made : List Event) (new : World N) (s : Settles link steps count old answer made new) : Type 0 where
      each : SettlesEach link steps count old answer made new s
      rests : Rests new

    settle_given : (count : ℕ) (old : World N) (answer : Settled) (made : List Event) (new : World N) (s : Settles link steps count old answer made new) → Rests old → SettleGiven count old answer made new s
    settle_given count old answer made new (NoneLeft n o a m l fresh says is same) r = record { each = tt; rests = subst Rests (sym same) r }
    settle_given count old answer made new (TooMany n o a m l pair fresh all says is same) r = record { each = tt; rests = subst Rests (sym same) r }
    settle_given count old answer made new (OneMore n o a m l pair mid here rest fresh low delivers others is) r =
        let first = deliver_given old pair.0 pair.1 WasPicked _ here mid delivers r in
        let more = settle_given (count + 1) mid answer rest new others first.rests in
        record { each = (first.each, more.each); rests = more.rests }

    record CallGiven (old : World N) (call : ClCall) (made : List Event) (new : World N) (runs : RunsCall link steps old call made new) : Type 0 where
      each : CallGivesEach link steps old call made new runs
      rests : Rests new

    -- a datagram is sent to the selector of transport
    abbrev IsFor : ClCall → Type 0
    IsFor (Sending system request) = selector_of request.to ≡ 1
    IsFor call = Unit {0}

    call_given : (old : World N) (call : ClCall) (made : List Event) (new : World N) (runs : RunsCall link steps old call made new) → IsFor call → Rests old → CallGiven old call made new runs
    call_given old (Sending system request) made new runs one r =
        let g = send_given (nat_lt 16000 (length request.octets)) old system request runs.2.0 made new runs.2.1 one r in record { each = g.each; rests = g.rests }
    call_given old (Delivering number system) made new runs one r = let g = deliver_given old number system runs.0 _ made new runs.1 r in record { each = g.each; rests = g.rests }
    call_given old Ticking made new runs one r =
        let k = keeps old.carrier Tick runs.called runs.steps_to in
        let g = arrives_given old Tick _ made new runs IsNote (one_note users) r
        (honest_more (link old.carrier) (link runs.called) k.same k.honest (λ entry there. r.state.selected entry (k.grows entry there)) r.state) k.notes.notes k.notes.waiting k.notes.all_notes in
        record { each = g.each; rests = g.rests }
    call_given old Settling made new runs one r = let g = settle_given 0 old runs.0 made new runs.1 r in record { each = g.each; rests = g.rests }

    record LineGiven (titles : List (List ℕ)) (old : World N) (line : Line) (made : List Event) (new : World N) (runs : RunsLine link steps titles old line made new) : Type 0 where
      each : LineGivesEach link steps makes titles old line made new runs
      rests : Rests new

    line_given : (titles : List (List ℕ)) (old : World N) (line : Line) (made : List Event) (new : World N) (runs : RunsLine link steps titles old line made new) → Rests old → LineGiven titles old line made new runs
    line_given titles old lines.Nothing made new runs r = record { each = tt; rests = subst Rests (sym runs.1) r }
    line_given titles old (lines.Send system selector to called octets) made new runs r =
        let g = call_given old (Sending system (request_for selector runs.0 called octets)) made new runs.2 (selector_of-append (system_part runs.0) 1) r in record { each = g.each; rests = g.rests }
    line_given titles old lines.Tick made new runs r = let g = call_given old Ticking made new runs tt r in record { each = g.each; rests = g.rests }
    line_given titles old lines.Settle made new runs r = let g = call_given old Settling made new runs tt r in record { each = g.each; rests = g.rests }
    line_given titles old (lines.Deliver number system) made new runs r = let g = call_given old (Delivering number system) made new runs tt r in record { each = g.each; rests = g.rests }
    line_given titles old line made new runs r = absurd runs

    lines_given : (script : List Line) (run : DatagramRun N) (journal : List Event) (last : ScriptWorld (DatagramRun N)) → Rests run.world
        → (runs : RunsScript (world_acts (cl_play link steps makes)) (Running run) script journal last) → RunGivesEach link steps makes (Running run) script journal last runs
    lines_given [] run journal last r runs = tt
    lines_given (line ∷ script) run journal last r runs =
        let step = runs.3 in
        let ran_line = step.1 in
        let g = line_given run.titles run.world line runs.1 ran_line.0 ran_line.1 r in
        let next : Rests (step.0).world = subst (λ (d : DatagramRun N). Rests d.world) (sym ran_line.2) g.rests in (
          g.each,
          subst (λ (w : ScriptWorld (DatagramRun N)). (more : RunsScript (world_acts (cl_play link steps makes)) w script runs.2 last) → RunGivesEach link steps makes w script runs.2 last more) (sym step.2)
              (λ more. lines_given script step.0 runs.2 last next more) runs.5,
        )

    -- ---- the start

    record StartGiven (made : List Event) (new : World N) (s : Starts link steps net users made new) : Type 0 where
      each : GivesEach users s.takes_up.ups s.takes_up.heard
      rests : Rests new

    none_there : (entry : ℕ × CarriedUnit (List ℕ)) → Contains [] entry → ⊥
    none_there entry there = omega (arith, there.1)

    start_given : (made : List Event) (new : World N) (s : Starts link steps net users made new) → StartGiven made new s
    start_given made new s =
        let first = laws.first setup net well within made_net in
        let takes = s.takes_up in
        let honest : IsHonest (link net) = record {
          honest = first.honest;
          belongs = λ to system. refl;
          selected = λ entry there. absurd (none_there entry (subst (λ (f : List (ℕ × CarriedUnit (List ℕ))). Contains f entry) first.none there));
        } in
        record {
          each = each_given users IsNote (one_note users) takes.ups takes.heard (subst (λ (us : List (Up (List ℕ))). All IsNote us) takes.gathers.waited first.notes) takes.hears;
          rests = record {
            state = honest_more (link net) (link new.carrier) takes.gathers.stands.same takes.gathers.stands.honest (λ entry there. honest.selected entry (takes.gathers.grows entry there)) honest;
            quiet = takes.gathers.quiet;
            systems_are = s.same;
          };
        }

  -- ---- a script

  -- what starts and then runs, whichever state it is that it leads to
  abbrev Goes : (w : ScriptWorld (DatagramRun N)) (script : List Line) (journal : List Event) (last : ScriptWorld (DatagramRun N)) → Type 0
  Goes w script journal last = (runs : RunsScript (world_acts (cl_play link steps makes)) w script journal last) → RunGivesEach link steps makes w script journal last runs

  started_given : (setup : SetUp) (line : Line) (script : List Line) (made rest : List Event) (mid last : ScriptWorld (DatagramRun N)) → IsWell setup → Fits setup lines.Start
      → (starts : StartsUp (cl_play link steps makes) setup made mid) → (runs : RunsScript (world_acts (cl_play link steps makes)) mid script rest last)
      → StartGivesEach link steps makes true setup line made mid starts × RunGivesEach link steps makes mid script rest last runs
  started_given setup line script made rest mid last well within starts runs =
      let h = starts.1 in
      let g = start_given setup well within h.0 h.2 made h.1 h.3 in
      let next : Rests setup well within h.0 h.2 (starts.0).world = subst (λ (d : DatagramRun N). Rests setup well within h.0 h.2 d.world) (sym h.4) g.rests in
      (g.each, subst (λ (w : ScriptWorld (DatagramRun N)). Goes w script rest last) (sym starts.2) (λ more. lines_given setup well within h.0 h.2 script starts.0 rest last next more) runs)

  -- while it is set up
  abbrev FromHere : List (List ℕ) → List Line → Type 0
  FromHere texts script = (names last_names : Declared) (setup : SetUp) (journal : List Event) (last : ScriptWorld (DatagramRun N)) → AreOne names setup → IsWell setup → names.started ≡ false
      → Says names texts script last_names → Goes (SettingUp setup) script journal last

  by_line : (start : Bool) (setup : SetUp) (line : Line) (names new last_names : Declared) (texts : List (List ℕ)) (script : List Line) (made rest : List Event) (mid last : ScriptWorld (DatagramRun N))
      → is_start line ≡ start → new.started ≡ started_after names.started line → names.started ≡ false → IsWell setup → Kept setup line new → Says new texts script last_names
      → (h : SetsUp (cl_play link steps makes) start setup line made mid) → (runs : RunsScript (world_acts (cl_play link steps makes)) mid script rest last) → FromHere texts script
      → StartGivesEach link steps makes start setup line made mid h × RunGivesEach link steps makes mid script rest last runs
  by_line true setup line names new last_names texts script made rest mid last start moves begun well kept says h runs others =
      started_given setup line script made rest mid last well (subst (λ (l : Line). Fits setup l) (start_only line start) kept.fits) h runs
  by_line false setup line names new last_names texts script made rest mid last start moves begun well kept says h runs others = (
    tt,
    subst (λ (w : ScriptWorld (DatagramRun N)). Goes w script rest last) (sym h.1)
        (others new last_names (set_up setup line) rest last kept.one (well_after setup line well kept.fits) (moves ∙ starts_not names.started line start ∙ begun) says) runs,
  )

  set_up_given : (texts : List (List ℕ)) (script : List Line) → FromHere texts script
  set_up_given [] [] names last_names setup journal last one well begun says h = tt
  set_up_given [] (line ∷ script) names last_names setup journal last one well begun says h = absurd says
  set_up_given (text ∷ texts) [] names last_names setup journal last one well begun says h = absurd says
  set_up_given (text ∷ texts) (line ∷ script) names last_names setup journal last one well begun says h =
      by_line (is_start line) setup line names says.0 last_names texts script h.1 h.2 h.0 last refl (line_moves names text line says.0 says.1).started begun well
      (line_kept names setup text line says.0 one well begun says.1) says.2 h.3.1 h.5 (set_up_given texts script)

  -- ---- the law

  pub gives_each : IsLaw (world_acts (cl_play link steps makes)) (GivesEachUnit link steps makes)
  gives_each = record {
    runs = λ texts script names journal last says run. record {
      whole = journal;
      rest = [];
      whole_is = sym (append-nil journal);
      runs = run;
      each = set_up_given texts script (nothing_declared dialects.Datagrams) names nothing_said journal last
          (record { lans = refl; bounds = refl; life = refl; systems = refl; ports = λ n. refl; selectors = λ n s. refl }) nothing_well refl says run;
    };
    front = λ script before after last h. record { whole = h.whole; rest = after ++ h.rest; whole_is = h.whole_is ∙ append_assoc before after h.rest; runs = h.runs; each = h.each };
  }
