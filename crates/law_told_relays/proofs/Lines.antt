-- One line of a network with relays, and one call of a pump, are told: each is a line that the network may be asked.
use Rattle.std.proofs.Common.{◌≡◌, ◌≤◌, ◌∙◌, ℕ, ◌+◌, Bool, true, false, List, [], ◌++◌, length, Option, Some, None, refl, sym, ap, subst, arith, length-append}
use Rattle.std.specs.Prelude.{slice_get}
use Rattle.std.specs.List.{AllByRecursion}
use Rattle.osi_base.specs.Link.{Link}
use Rattle.osi_base.specs.Calls.{Call, Keeps}
use Rattle.law_carrier_answers.specs.Answers.{AreOctets, OneStep}
use Rattle.law_clnp_net.specs.Standing.{is_nsap}
use Rattle.script_lines.specs.Tags.{Tags}
use Rattle.script_lines.specs.declared.line.Line.{Line}
use Rattle.script_lines.specs.declared.line.Line.TheVariants as lines
use Rattle.script_journal.specs.declared.event.Event.{Event}
use Rattle.script_journal.specs.declared.event.Indication.{Indication}
use Rattle.law_setup.proofs.OneLine.{one_line}
use Rattle.tp4_conn.specs.declared.call.ConnectRequest.{ConnectRequest}
use Rattle.tp4_conn.specs.declared.call.UserCall.{UserCall}
use Rattle.tp4_conn.specs.declared.call.UserCall.TheVariants as asks
use Rattle.tp4_conn.specs.declared.timers.Timers.{Timers}
use Rattle.tp4_number.specs.Number.{wire}
use Rattle.tp4_relay.specs.declared.row.RelayRow.{RelayRow}
use Rattle.tp4_relay.specs.Kept.{Kept, kept_after}
use Rattle.tp4_relay.specs.Reaction.{request_for}
use Rattle.tp4_relay.proofs.Telling.{rows_stay, rules_stay}
use Rattle.tp4_world.specs.Run.{Connects, RunsLine}
use Rattle.tp4_world.specs.Total.{CanConnect, CanRun}
use Rattle.tp4_world.specs.World.{World}
use Rattle.law_relay.specs.Services.{AsksEnd, AsksFor}
use Rattle.law_relay.proofs.Answering.{ArePairs, MayCall, RowInOctets, RowLeads, after_pairs}
use Rattle.law_relay.proofs.OctetSteps.{HoldsOctets, TellsOctets, goes}
use Rattle.law_relay.proofs.OneRun.{call_line, call_runs}
use Rattle.law_relay.proofs.Walks.{after_append}
use Rattle.law_told.proofs.Carriers.{Tells}
use Rattle.law_told.proofs.Events.{EachFrom, each_both}
use Rattle.law_told.proofs.Lines.{RunSo, line_told, ready}
use Rattle.law_told.proofs.Worlds.{NamesSystems}
use Rattle.law_told_relays.proofs.Asking.{IsRequest}

module _ {C : Type 0} (tags : Tags) (link : C → Link (List ℕ)) (steps : C → Call (List ℕ) → C → Type 0) (keeps : (old : C) (call : Call (List ℕ)) (new : C) → steps old call new → Keeps (link old) call (link new))
    (StandsSo : C → Type 0) (tells : Tells tags is_nsap link steps StandsSo) (once : OneStep steps) (titles : List (List ℕ)) where
  abbrev pub IsRunning : ℕ → World C → Type 0
  IsRunning n world = RunSo tags is_nsap link steps keeps StandsSo tells once n world

  -- the network after so many events, and what is kept of them
  pub record So (n : ℕ) (world : World C) (kept : Kept) : Type 0 where
    pub run : IsRunning n world
    pub holds : HoldsOctets world
    pub credit : kept.rules.credit ≤ 255
    pub leads : AllByRecursion (RowLeads titles) kept.rows
    pub rows : AllByRecursion RowInOctets kept.rows
    pub pairs : ArePairs kept.pairs

  -- the events of a step, and what is so after it
  pub record Done (n : ℕ) (kept : Kept) (made : List Event) (new : World C) : Type 0 where
    pub events : EachFrom tags n made
    pub so : So (n + length made) new (kept_after kept made)

  pub record LineDone (n : ℕ) (made : List Event) (new : World C) : Type 0 where
    pub events : EachFrom tags n made
    pub run : IsRunning (n + length made) new
    pub holds : HoldsOctets new
    pub octets : AllByRecursion TellsOctets made

  pub line_done : (n : ℕ) (old new : World C) (line : Line) (made : List Event) → IsRunning n old → HoldsOctets old → CanRun is_nsap titles link old line → NamesSystems tags is_nsap link steps keeps StandsSo tells wire line
      → RunsLine link steps wire titles old line made new → LineDone n made new
  line_done n old new line made run holds may names runs =
      let told = line_told tags is_nsap link steps keeps StandsSo tells once n titles old new line made run may names runs in
      let w = goes link steps keeps is_nsap StandsSo tells.serves titles old line (ready tags is_nsap link steps keeps StandsSo tells once n old run) holds may in
      let same = one_line link steps once wire titles old line w.made made w.new new w.runs runs in
      record {
        events = told.events;
        run = told.run;
        holds = subst HoldsOctets same.1 w.holds;
        octets = subst (AllByRecursion TellsOctets) same.0 w.tells;
      }

  -- what was told is kept
  pub told_so : (n : ℕ) (kept : Kept) (made : List Event) (new : World C) → kept.rules.credit ≤ 255 → AllByRecursion (RowLeads titles) kept.rows → AllByRecursion RowInOctets kept.rows → ArePairs kept.pairs → LineDone n made new
      → So (n + length made) new (kept_after kept made)
  told_so n kept made new credit leads rows pairs d = record {
    run = d.run;
    holds = d.holds;
    credit = subst (λ (rules : Timers). rules.credit ≤ 255) (sym (rules_stay kept made)) credit;
    leads = subst (λ (all : List RelayRow). AllByRecursion (RowLeads titles) all) (sym (rows_stay kept made)) leads;
    rows = subst (λ (all : List RelayRow). AllByRecursion RowInOctets all) (sym (rows_stay kept made)) rows;
    pairs = after_pairs kept made d.octets pairs;
  }

  pub done_by : (n : ℕ) (kept : Kept) (old new : World C) (made : List Event) → So n old kept → LineDone n made new → Done n kept made new
  done_by n kept old new made h d = record { events = d.events; so = told_so n kept made new h.credit h.leads h.rows h.pairs d }

  pub nothing_done : (n : ℕ) (kept : Kept) (old new : World C) (made : List Event) → So n old kept → made ≡ [] → new ≡ old → Done n kept made new
  nothing_done n kept old new made h none same = subst (λ (m : List Event). Done n kept m new) (sym none) (record {
    events = tt;
    so = subst (λ (w : World C). So (n + 0) w kept) (sym same) (subst (λ (k : ℕ). So k old kept) (let zero_more : n ≡ n + 0 = omega arith in zero_more) h);
  })

  pub both_done : (n : ℕ) (kept : Kept) (mid new : World C) (here rest made : List Event) → Done n kept here mid → (So (n + length here) mid (kept_after kept here) → Done (n + length here) (kept_after kept here) rest new)
      → made ≡ here ++ rest → Done n kept made new
  both_done n kept mid new here rest made one next is =
      let two = next one.so in
      let long = length-append here rest in
      let count : n + length here + length rest ≡ n + length (here ++ rest) = omega (arith, long) in
      subst (λ (m : List Event). Done n kept m new) (sym is) (record {
        events = each_both tags n here rest one.events two.events;
        so = subst (λ (k : Kept). So (n + length (here ++ rest)) new k) (sym (after_append kept here rest))
            (subst (λ (k : ℕ). So k new (kept_after (kept_after kept here) rest)) count two.so);
      })

  -- ---- one call

  line_may : (old : World C) (end : ℕ) (call : UserCall) → MayCall call → CanRun is_nsap titles link old (call_line end call)
  line_may old end (asks.Accept options octets) may = may
  line_may old end other may = may

  line_names : (end : ℕ) (call : UserCall) → NamesSystems tags is_nsap link steps keeps StandsSo tells wire (call_line end call)
  line_names end (asks.Accept options octets) = tt
  line_names end other = tt

  pub call_done : (n : ℕ) (kept : Kept) (old new : World C) (end : ℕ) (call : UserCall) (done : Bool) (made : List Event) → So n old kept → MayCall call → AsksEnd link steps old end call done made new → Done n kept made new
  call_done n kept old new end call done made h may c =
      done_by n kept old new made h (line_done n old new (call_line end call) made h.run h.holds (line_may old end call may) (line_names end call) (call_runs link steps titles old end call made new c.calls))

  pub request_done : (n inbound : ℕ) (kept : Kept) (old new : World C) (system : ℕ) (request : ConnectRequest) (done : Bool) (made : List Event) → So n old kept → IsRequest titles n inbound system request
      → AsksFor link steps old system request done made new → Done n kept made new
  request_done n inbound kept old new system request done made h is c =
      let row : RelayRow = is.row in
      let heard : Indication = is.heard in
      let at_row : Connects link steps old row.system request made new = subst (λ (s : ℕ). Connects link steps old s request made new) is.system_is c.connects in
      let asked : Connects link steps old row.system (request_for row heard) made new = subst (λ (r : ConnectRequest). Connects link steps old row.system r made new) is.request_is at_row in
      let may : CanConnect is_nsap titles old row.system is.leads.to heard.options row.selector row.to_selector heard.octets = record {
        receiver = is.leads.receiver;
        receiver_is = is.leads.receiver_is;
        address = ap is_nsap (sym is.leads.to_is) ∙ is.row_octets.address;
        entity = asked.0;
        entity_is = asked.1;
        size_known = is.sized;
        selector_short = is.leads.selector_short;
        selector_octets = is.row_octets.selector;
        called_short = is.leads.called_short;
        called_octets = is.row_octets.called;
        octets_are = is.octets;
      } in
      let runs : RunsLine link steps wire titles old (lines.Connect row.system row.selector is.leads.to row.to_selector heard.options heard.octets) made new =
      (is.leads.receiver, request_for row heard, is.leads.receiver_is, refl, (refl, is.leads.to_is, refl, refl, asked)) in
      done_by n kept old new made h (line_done n old new (lines.Connect row.system row.selector is.leads.to row.to_selector heard.options heard.octets) made h.run h.holds may tt runs)
