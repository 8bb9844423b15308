-- What a script with relays does is what a script without them does, in which each call of a pump is a line: its journal is the same but for the notes of the relays.
use Rattle.std.proofs.Common.{◌≡◌, ◌⊎◌, inl, inr, ℕ, ◌+◌, ◌<◌, ◌≤◌, ◌||◌, Bool, true, false, if◌then◌else◌, nat_lt, List, [], ◌∷◌, ◌++◌, length, Option, Some, None, refl, sym, ◌∙◌, ap, subst, arith, append_assoc}
use Rattle.std.specs.Prelude.{slice_get}
use Rattle.std.specs.List.{AllByRecursion}
use Rattle.std.proofs.lemmas.List.{append-nil}
use Rattle.osi_base.specs.declared.unit.Up.{Up}
use Rattle.osi_base.specs.declared.unit.Up.TheVariants.{Unit as Came, Note as Noted}
use Rattle.osi_base.specs.Link.{Link}
use Rattle.osi_base.specs.Calls.{Call, Keeps}
use Rattle.osi_base.proofs.Members.{all_both}
use Rattle.script_journal.specs.declared.cause.Refused.TheVariants as refused
use Rattle.script_journal.specs.declared.event.Event.{Event}
use Rattle.script_journal.specs.declared.event.Event.TheVariants as events
use Rattle.script_journal.specs.declared.event.Indication.{Indication}
use Rattle.script_lines.specs.Commands.{HasLine}
use Rattle.script_lines.specs.declared.words.Dialect.TheVariants as dialects
use Rattle.script_lines.specs.declared.line.Line.{Line}
use Rattle.script_lines.specs.declared.line.Line.TheVariants as lines
use Rattle.tpdu.specs.declared.service.Options.{Options}
use Rattle.script_lines.specs.Injecting.{HasNoInject, IsNoInjection}
use Rattle.script_setup.proofs.Elements.{at}
use Rattle.net_world.specs.Told.{told}
use Rattle.tpdu.specs.Grammar.{BeginsWithTpdu}
use Rattle.tpdu.specs.Values.{TpduAndSum}
use Rattle.tpdu.specs.declared.tpdu.Tpdu.{Tpdu}
use Rattle.tpdu.specs.declared.tpdu.Tpdu.TheVariants as wires
use Rattle.tp4_number.specs.Number.{wire}
use Rattle.tp4_number.specs.declared.piece.Piece.{Piece}
use Rattle.tp4_conn.specs.declared.call.ConnectRequest.{ConnectRequest}
use Rattle.tp4_conn.specs.declared.call.UserCall.{UserCall}
use Rattle.tp4_conn.specs.declared.call.UserCall.TheVariants as asks
use Rattle.tp4_conn.specs.declared.states.StateData.{StateData}
use Rattle.tp4_conn.specs.declared.states.StateData.TheVariants as stages
use Rattle.tp4_conn.specs.declared.timers.Timers.{Timers}
use Rattle.tp4_conn.specs.End.{IsSized}
use Rattle.law_tp4_lawful.specs.Limits.{IsProperLine}
use Rattle.tp4_relay.specs.declared.pair.Heading.{Heading}
use Rattle.tp4_relay.specs.declared.pair.Heading.TheVariants.{On, Back}
use Rattle.tp4_relay.specs.declared.pair.Pair.{Pair}
use Rattle.tp4_relay.specs.declared.reaction.Reaction.{Reaction}
use Rattle.tp4_relay.specs.declared.reaction.Reaction.TheVariants.{Nothing, Begin, Ask}
use Rattle.tp4_relay.specs.declared.row.RelayRow.{RelayRow}
use Rattle.tp4_relay.specs.declared.unit.MarkedUnit.{MarkedUnit}
use Rattle.tp4_relay.specs.declared.unit.MarkedUnit.TheVariants.{Normal, Expedited}
use Rattle.tp4_relay.specs.Allowed.{AreLine, IsLine}
use Rattle.tp4_relay.specs.Kept.{Kept, is_at, kept_after, noted, row_for}
use Rattle.tp4_relay.specs.Pairs.{is_closed, is_open, open_places}
use Rattle.tp4_relay.specs.Pump.{BalancesBy, BeginsBy, Does, Parts, PumpStep, Reacts, ServesAt, ServesEach, ServesIf, ServesOpen, ServesPair, SetsCredit, Submits, credit_now, far_end, near_end, unit_call, way_of}
use Rattle.tp4_relay.specs.Reaction.{begins, confirms, goes, inbound_goes, inbound_pair, outbound_goes, outbound_pair, reaction, request_for}
use Rattle.tp4_relay.specs.steps.Making.{HasSize}
use Rattle.tp4_relay.proofs.Carried.{line_sized}
use Rattle.tp4_relay.proofs.Telling.{rows_stay, rules_stay}
use Rattle.tp4_world.specs.Run.{Calls, Connects, RunsLine, RunsLines, Settles, transport_address}
use Rattle.tp4_world.specs.World.{World}
use Rattle.law_relay.specs.Notes.{is_note, plain}
use Rattle.law_relay.proofs.Noting.{plain_more}
use Rattle.law_relay.specs.Asked.{is_relayed}
use Rattle.law_relay.specs.Relays.{Answers, Asking, Idle, LastTurn, OneTurn, Part, PumpsAfter, RelayRun, RunsPart, Settling, Turns}
use Rattle.law_relay.specs.Services.{AsksEnd, AsksFor}
use Rattle.law_relay.proofs.Answering.{RowLeads}
use Rattle.law_relay.proofs.OneRun.{call_line, call_runs}
use Rattle.law_relay.proofs.Playing.{Plays}
use Rattle.law_relay.proofs.Running.{answer_leaves, pumped, settles}
use Rattle.law_relay.proofs.TextRows.{HasText, IsPlaceOf, IsStageOf}
use Rattle.law_relay.proofs.TextWalks.{IsFine, UpIs, WorldIs, line_is, told_fine}
use Rattle.law_relay.proofs.Walks.{after_append}
use Rattle.tpdu.specs.declared.service.EndTold.TheVariants as tells

-- ---- no event of a network is a note

abbrev Any : List ℕ → Type 0
Any octets = Prim.Unit {0}

any_both : (xs ys : List ℕ) → Any xs → Any ys → Any (xs ++ ys)
any_both xs ys first rest = tt

any_text : (tpdu : Tpdu) → HasText Any tt any_both tpdu
any_text (wires.Cr credit source width calling called size preferred extra version classes ack_time text) = tt
any_text (wires.Cc credit destination source width calling called size preferred extra version classes ack_time text) = tt
any_text (wires.Dt destination last number text) = tt
any_text (wires.Ed destination last number text) = tt
any_text (wires.Dr destination source reason info text) = tt
any_text (wires.Dc destination source) = tt
any_text (wires.Ak destination number credit subsequence confirmation) = tt
any_text (wires.Ea destination number) = tt
any_text (wires.Er destination cause rejected) = tt

any_read : (extended octets rest : List ℕ) (tpdu : TpduAndSum) → BeginsWithTpdu extended octets tpdu rest → Any octets → HasText Any tt any_both tpdu.0 × Any rest
any_read extended octets rest tpdu begins p = (any_text tpdu.0, tt)

any_places : (places : List (Option Piece)) → AllByRecursion (λ place. IsPlaceOf Any tt any_both place) places
any_places [] = tt
any_places (None ∷ places) = (tt, any_places places)
any_places (Some piece ∷ places) = (tt, any_places places)

any_stage : (stage : StateData) → IsStageOf Any tt any_both stage
any_stage (stages.CrWait w) = tt
any_stage (stages.WaitBeforeClose w) = tt
any_stage (stages.UserWait since) = tt
any_stage (stages.AkWait w) = record { places = any_places w.halves.receiving.receiver.inbox.held.places; begun = tt }
any_stage (stages.Opened o) = record { places = any_places o.halves.receiving.receiver.inbox.held.places; begun = tt }
any_stage (stages.Closing c) = tt
any_stage (stages.Frozen when) = tt

any_world : {C : Type 0} (world : World C) → WorldIs Any tt any_both any_read world
any_world world system e is reference end stands = any_stage end.stage

any_ups : (ups : List (Up (List ℕ))) → AllByRecursion (UpIs Any tt any_both any_read) ups
any_ups [] = tt
any_ups (Came arrival ∷ ups) = (tt, any_ups ups)
any_ups (Noted note ∷ ups) = (tt, any_ups ups)

plain_same : (made : List Event) → AllByRecursion (IsFine Any tt any_both any_read) made → plain made ≡ made
plain_same [] all = refl
plain_same (event ∷ made) all = ap (λ (b : Bool). if b then plain made else event ∷ plain made) (all.0).1 ∙ ap (λ (es : List Event). event ∷ es) (plain_same made all.1)

-- what is told as a network starts
pub told_plain : (ups : List (Up (List ℕ))) → plain (events.Tick 0 ∷ told ups) ≡ events.Tick 0 ∷ told ups
told_plain ups = plain_same (events.Tick 0 ∷ told ups) ((tt, refl), told_fine Any tt any_both any_read ups)

-- ---- what a pump asks

abbrev MaySay : UserCall → Type 0
MaySay (asks.Accept options octets) = IsSized options
MaySay (asks.Window credit) = credit ≤ 255
MaySay call = Prim.Unit {0}

call_proper : (end : ℕ) (call : UserCall) → MaySay call → IsProperLine (call_line end call)
call_proper end (asks.Accept options octets) may = may
call_proper end (asks.Refuse octets) may = tt
call_proper end (asks.Normal octets) may = tt
call_proper end (asks.Urgent octets) may = tt
call_proper end (asks.Window credit) may = may
call_proper end (asks.Disconnect octets) may = tt

call_honest : (end : ℕ) (call : UserCall) → IsNoInjection (call_line end call)
call_honest end (asks.Accept options octets) = tt
call_honest end (asks.Refuse octets) = tt
call_honest end (asks.Normal octets) = tt
call_honest end (asks.Urgent octets) = tt
call_honest end (asks.Window credit) = tt
call_honest end (asks.Disconnect octets) = tt

unit_says : (unit : MarkedUnit) → MaySay (unit_call unit)
unit_says (Normal octets) = tt
unit_says (Expedited octets) = tt

credit_says : (rules : Timers) (lowered : Bool) (left : List MarkedUnit) (credit : ℕ) → rules.credit ≤ 255 → credit_now rules.credit lowered left ≡ Some credit → credit ≤ 255
credit_says rules true [] credit low is = subst (λ (k : ℕ). k ≤ 255) (let same : rules.credit ≡ credit = cc is in same) low
credit_says rules false [] credit low is = absurd (cc is)
credit_says rules true (unit ∷ units) credit low is = absurd (cc is)
credit_says rules false (unit ∷ units) credit low is = let same : 0 ≡ credit = cc is in omega (arith, same)

module _ (titles : List (List ℕ)) where
  -- the request of a row
  record IsRequest (system : ℕ) (request : ConnectRequest) : Type 0 where
    row : RelayRow
    heard : Indication
    system_is : system ≡ row.system
    request_is : request ≡ request_for row heard
    sized : IsSized heard.options
    leads : RowLeads titles row

  abbrev MayReact : Reaction → Type 0
  MayReact Nothing = Prim.Unit {0}
  MayReact (Begin inbound system request) = IsRequest system request
  MayReact (Ask end call) = MaySay call

  row_of_found : (rows : List RelayRow) (heard : Indication) → AllByRecursion (RowLeads titles) rows → (found : Option RelayRow) → row_for rows heard ≡ found → (row : RelayRow) → found ≡ Some row → RowLeads titles row
  row_of_found [] heard all found is row some = absurd (let no_way : None ≡ Some row = is ∙ some in cc no_way)
  row_of_found (first ∷ rows) heard all found is row some = by (is_at heard first) is (λ here. row_of_found rows heard all.1 found here row some)
    where
      by : (b : Bool) → (if b then Some first else row_for rows heard) ≡ found → (row_for rows heard ≡ found → RowLeads titles row) → RowLeads titles row
      by true here rest = let whole : Some first ≡ Some row = here ∙ some in let same : first ≡ row = cc whole in subst (RowLeads titles) same all.0
      by false here rest = rest here

  begins_says : (kept : Kept) (heard : Indication) (found : Option RelayRow) → row_for kept.rows heard ≡ found → IsSized heard.options → AllByRecursion (RowLeads titles) kept.rows → MayReact (begins heard found)
  begins_says kept heard None is sized leads = tt
  begins_says kept heard (Some row) is sized leads = record {
    row = row;
    heard = heard;
    system_is = refl;
    request_is = refl;
    sized = sized;
    leads = row_of_found kept.rows heard leads (Some row) is row refl;
  }

  confirms_says : (options : Options) (octets : List ℕ) (pair : Option Pair) → IsSized options → MayReact (confirms options octets pair)
  confirms_says options octets None sized = tt
  confirms_says options octets (Some pair) sized = by (is_closed pair.phase)
    where
      by : (b : Bool) → MayReact (if b then Nothing else Ask pair.inbound (asks.Accept options octets))
      by true = tt
      by false = sized

  inbound_says : (pair : Pair) → MayReact (inbound_goes pair)
  inbound_says pair = by (is_closed pair.phase)
    where
      by : (b : Bool) → MayReact (if b then Nothing else Ask pair.outbound (asks.Disconnect []))
      by true = tt
      by false = tt

  outbound_says : (pair : Option Pair) → MayReact (outbound_goes pair)
  outbound_says None = tt
  outbound_says (Some pair) = by (is_closed pair.phase) pair.accepted
    where
      by : (b c : Bool) → MayReact (if b then Nothing else (if c then Ask pair.inbound (asks.Disconnect []) else Ask pair.inbound (asks.Refuse [])))
      by true c = tt
      by false true = tt
      by false false = tt

  goes_says : (pairs : List Pair) (end : ℕ) (pair : Option Pair) → MayReact (goes pairs end pair)
  goes_says pairs end None = outbound_says (outbound_pair pairs end)
  goes_says pairs end (Some pair) = inbound_says pair

  reaction_says : (kept : Kept) (event : Event) → HasSize event → AllByRecursion (RowLeads titles) kept.rows → MayReact (reaction kept event)
  reaction_says kept (events.Incoming heard) is leads = begins_says kept heard (row_for kept.rows heard) refl is leads
  reaction_says kept (events.End end (tells.Confirm options octets)) is leads = confirms_says options octets (outbound_pair kept.pairs end) is
  reaction_says kept (events.End end (tells.Gone cause octets)) is leads = goes_says kept.pairs end (inbound_pair kept.pairs end)
  reaction_says kept event is leads = tt

line_sizes : (count : ℕ) (kept : Kept) (line : List Event) → AreLine count kept line → AllByRecursion HasSize line
line_sizes count kept [] all = tt
line_sizes count kept (event ∷ line) all = (line_sized kept event all.0, line_sizes count (noted kept event) line all.2)

-- ---- a script

module _ {N : Type 0} (link : N → Link (List ℕ)) (steps : N → Call (List ℕ) → N → Type 0) (titles : List (List ℕ)) where
  abbrev connects : World N → ℕ → ConnectRequest → Bool → List Event → World N → Type 0
  connects = AsksFor link steps

  abbrev calls : World N → ℕ → UserCall → Bool → List Event → World N → Type 0
  calls = AsksEnd link steps

  -- these lines have the same journal but for the notes
  pub record Rebuilt (old : World N) (journal : List Event) (new : World N) : Type 0 where
    pub script : List Line
    pub runs : RunsLines link steps wire titles old script (plain journal) new
    pub proper : AllByRecursion IsProperLine script
    pub honest : HasNoInject script

  runs_both : (first second : List Line) (old mid new : World N) (here rest : List Event) → RunsLines link steps wire titles old first here mid → RunsLines link steps wire titles mid second rest new
      → RunsLines link steps wire titles old (first ++ second) (here ++ rest) new
  runs_both [] second old mid new here rest a b =
      subst (λ (w : World N). RunsLines link steps wire titles w second (here ++ rest) new) a.1
      (subst (λ (es : List Event). RunsLines link steps wire titles mid second (es ++ rest) new) (sym a.0) b)
  runs_both (line ∷ first) second old mid new here rest a b = (
    a.0,
    a.1,
    a.2 ++ rest,
    a.3,
    ap (λ (es : List Event). es ++ rest) a.4 ∙ append_assoc a.1 a.2 rest,
    runs_both first second a.0 mid new a.2 rest a.5 b,
  )

  pub rebuilt_then : (old mid new : World N) (journal here rest : List Event) → Rebuilt old here mid → Rebuilt mid rest new → journal ≡ here ++ rest → Rebuilt old journal new
  rebuilt_then old mid new journal here rest a b is = record {
    script = a.script ++ b.script;
    runs = subst (λ (es : List Event). RunsLines link steps wire titles old (a.script ++ b.script) es new) (sym (ap plain is ∙ plain_more here rest))
        (runs_both a.script b.script old mid new (plain here) (plain rest) a.runs b.runs);
    proper = all_both IsProperLine a.script b.script a.proper b.proper;
    honest = all_both IsNoInjection a.script b.script a.honest b.honest;
  }

  pub rebuilt_none : (old new : World N) (journal : List Event) → plain journal ≡ [] → new ≡ old → Rebuilt old journal new
  rebuilt_none old new journal none same = record { script = []; runs = (none, same); proper = tt; honest = tt }

  -- a line of a network
  rebuilt_line : (line : Line) (old new : World N) (made : List Event) → plain made ≡ made → IsProperLine line → IsNoInjection line → RunsLine link steps wire titles old line made new → Rebuilt old made new
  rebuilt_line line old new made same proper honest runs = record {
    script = line ∷ [];
    runs = (new, made, [], runs, same ∙ sym (append-nil made), (refl, refl));
    proper = (proper, tt);
    honest = (honest, tt);
  }

  pub rebuilt_by : (line : Line) (old new : World N) (made : List Event) → IsProperLine line → IsNoInjection line → RunsLine link steps wire titles old line made new → Rebuilt old made new
  rebuilt_by line old new made proper honest runs =
      let ran = line_is Any tt any_both any_read link steps (λ was call ups next p. any_ups ups) wire titles line old new made (any_world old) runs in
      rebuilt_line line old new made (plain_same made ran.told_is) proper honest runs

  call_rebuilt : (old new : World N) (end : ℕ) (call : UserCall) (done : Bool) (made : List Event) → MaySay call → calls old end call done made new → Rebuilt old made new
  call_rebuilt old new end call done made may c =
      rebuilt_by (call_line end call) old new made (call_proper end call may) (call_honest end call) (call_runs link steps titles old end call made new c.calls)

  request_rebuilt : (old new : World N) (row : RelayRow) (heard : Indication) (done : Bool) (made : List Event) → IsSized heard.options → RowLeads titles row
      → connects old row.system (request_for row heard) done made new → Rebuilt old made new
  request_rebuilt old new row heard done made sized leads c =
      rebuilt_by (lines.Connect row.system row.selector leads.to row.to_selector heard.options heard.octets) old new made (sized, leads.selector_short, leads.called_short) tt
      (leads.receiver, request_for row heard, leads.receiver_is, refl, (refl, leads.to_is, refl, refl, c.connects))

  -- ---- about an event

  begin_rebuilt : (old new : World N) (inbound system : ℕ) (request : ConnectRequest) (taken done : Bool) (made : List Event) → IsRequest titles system request → BeginsBy connects calls old inbound system request taken done made new → Rebuilt old made new
  begin_rebuilt old new inbound system request true done made may b =
      rebuilt_then old new new made b.0 (events.Joined inbound b.1.end ∷ []) (asked_rebuilt old new system request true b.0 may b.3) (rebuilt_none new new (events.Joined inbound b.1.end ∷ []) refl refl) b.5
    where
      asked_rebuilt : (was next : World N) (at_system : ℕ) (asked : ConnectRequest) (was_done : Bool) (told : List Event) → IsRequest titles at_system asked → connects was at_system asked was_done told next → Rebuilt was told next
      asked_rebuilt was next at_system asked was_done told r c =
          request_rebuilt was next r.row r.heard was_done told r.sized r.leads
          (subst (λ (x : ConnectRequest). connects was (r.row).system x was_done told next) r.request_is (subst (λ (n : ℕ). connects was n asked was_done told next) r.system_is c))
  begin_rebuilt old new inbound system request false done made may b =
      rebuilt_then old b.0 new made b.1 b.2
      (request_rebuilt old b.0 may.row may.heard false b.1 may.sized may.leads
      (subst (λ (x : ConnectRequest). connects old (may.row).system x false b.1 b.0) may.request_is (subst (λ (n : ℕ). connects old n request false b.1 b.0) may.system_is b.3)))
      (call_rebuilt b.0 new inbound (asks.Refuse []) done b.2 tt b.4) b.5

  does_rebuilt : (old new : World N) (to_do : Reaction) (done : Bool) (made : List Event) → MayReact titles to_do → Does connects calls old to_do done made new → Rebuilt old made new
  does_rebuilt old new Nothing done made may d = rebuilt_none old new made (ap plain d.1) d.2
  does_rebuilt old new (Begin inbound system request) done made may d = begin_rebuilt old new inbound system request d.0 done made may d.1
  does_rebuilt old new (Ask end call) done made may d = call_rebuilt old new end call done made may d

  -- the rows lead, and the first credit is one, also after more events
  pub record Leads (kept : Kept) : Type 0 where
    pub rows : AllByRecursion (RowLeads titles) kept.rows
    pub credit : kept.rules.credit ≤ 255

  leads_more : (kept : Kept) (made : List Event) → Leads kept → Leads (kept_after kept made)
  leads_more kept made l = record {
    rows = subst (λ (rows : List RelayRow). AllByRecursion (RowLeads titles) rows) (sym (rows_stay kept made)) l.rows;
    credit = subst (λ (rules : Timers). rules.credit ≤ 255) (sym (rules_stay kept made)) l.credit;
  }

  pub record BuiltTo (old : World N) (made : List Event) (new : World N) (last : Kept) : Type 0 where
    pub built : Rebuilt old made new
    pub leads : Leads last

  reacts_rebuilt : (line : List Event) (old new : World N) (kept last : Kept) (done : Bool) (made : List Event) → AllByRecursion HasSize line → Leads kept → Reacts connects calls old kept line done made new last → BuiltTo old made new last
  reacts_rebuilt [] old new kept last done made sizes l r = record { built = rebuilt_none old new made (ap plain r.1) r.2; leads = subst Leads (sym r.3) l }
  reacts_rebuilt (event ∷ line) old new kept last done made sizes l r =
      let first = does_rebuilt old r.0 (reaction kept event) r.1 r.3 (reaction_says titles kept event sizes.0 l.rows) r.5 in
      let next : Leads (kept_after (noted kept event) r.3) = leads_more (noted kept event) r.3 (leads_more kept (event ∷ []) l) in
      let rest = reacts_rebuilt line r.0 new (kept_after (noted kept event) r.3) last r.2 r.4 sizes.1 next r.6 in
      record { built = rebuilt_then old r.0 new made r.3 r.4 first rest.built r.8; leads = rest.leads }

  -- ---- for an open pair

  submits_rebuilt : (units : List MarkedUnit) (old new : World N) (end : ℕ) (done : Bool) (made : List Event) (left : List MarkedUnit) → Submits connects calls old end units done made new left → Rebuilt old made new
  submits_rebuilt [] old new end done made left s = rebuilt_none old new made (ap plain s.1) s.2
  submits_rebuilt (unit ∷ units) old new end done made left (inl s) = call_rebuilt old new end (unit_call unit) false made (unit_says unit) s.0
  submits_rebuilt (unit ∷ units) old new end done made left (inr s) =
      rebuilt_then old s.0 new made s.2 s.3 (call_rebuilt old s.0 end (unit_call unit) true s.2 (unit_says unit) s.4) (submits_rebuilt units s.0 new end s.1 s.3 left s.5) s.7

  parts_rebuilt : (old new : World N) (pair : Pair) (done : Bool) (made : List Event) → Parts connects calls old pair done made new → Rebuilt old made new
  parts_rebuilt old new pair done made s =
      rebuilt_then old s.0 new made s.3 s.4 (call_rebuilt old s.0 pair.inbound (asks.Disconnect []) s.1 s.3 tt s.5) (call_rebuilt s.0 new pair.outbound (asks.Disconnect []) s.2 s.4 tt s.6) s.8

  credit_rebuilt : (old new : World N) (end : ℕ) (credit : Option ℕ) (done : Bool) (made : List Event) → ((k : ℕ) → credit ≡ Some k → k ≤ 255) → SetsCredit connects calls old end credit done made new → Rebuilt old made new
  credit_rebuilt old new end None done made low s = rebuilt_none old new made (ap plain s.1) s.2
  credit_rebuilt old new end (Some credit) done made low s = call_rebuilt old new end (asks.Window credit) done made (low credit refl) s

  balance_rebuilt : (many : Bool) (old new : World N) (rules : Timers) (heading : Heading) (pair : Pair) (left : List MarkedUnit) (done : Bool) (made : List Event) → rules.credit ≤ 255
      → BalancesBy connects calls many old rules heading pair left done made new → Rebuilt old made new
  balance_rebuilt true old new rules heading pair left done made low s = parts_rebuilt old new pair done made s
  balance_rebuilt false old new rules heading pair left done made low s =
      credit_rebuilt old new (near_end heading pair) (credit_now rules.credit (way_of heading pair).lowered left) done made (λ k is. credit_says rules (way_of heading pair).lowered left k low is) s

  open_rebuilt : (opens : Bool) (old new : World N) (rules : Timers) (heading : Heading) (pair : Pair) (done : Bool) (made : List Event) → rules.credit ≤ 255 → ServesOpen connects calls opens old rules heading pair done made new
      → Rebuilt old made new
  open_rebuilt false old new rules heading pair done made low s = rebuilt_none old new made (ap plain s.1) s.2
  open_rebuilt true old new rules heading pair done made low s =
      rebuilt_then old s.mid new made s.here s.rest (submits_rebuilt (way_of heading pair).waiting old s.mid (far_end heading pair) s.one s.here s.left s.submits)
      (balance_rebuilt (nat_lt 300 (length s.left)) s.mid new rules heading pair s.left s.other s.rest low s.balances) s.made_is

  if_rebuilt : (found : Option Pair) (old new : World N) (rules : Timers) (heading : Heading) (done : Bool) (made : List Event) → rules.credit ≤ 255 → ServesIf connects calls old rules heading found done made new → Rebuilt old made new
  if_rebuilt None old new rules heading done made low s = rebuilt_none old new made (ap plain s.1) s.2
  if_rebuilt (Some pair) old new rules heading done made low s = open_rebuilt (is_open pair.phase) old new rules heading pair done made low s

  pair_rebuilt : (old new : World N) (kept : Kept) (place : ℕ) (done : Bool) (made : List Event) → Leads kept → ServesPair connects calls old kept place done made new → Rebuilt old made new
  pair_rebuilt old new kept place done made l s =
      rebuilt_then old s.mid new made s.here s.rest (if_rebuilt (slice_get kept.pairs place) old s.mid kept.rules On s.one s.here l.credit s.on)
      (if_rebuilt (slice_get (kept_after kept s.here).pairs place) s.mid new (kept_after kept s.here).rules Back s.other s.rest (leads_more kept s.here l).credit s.back) s.made_is

  each_rebuilt : (places : List ℕ) (old new : World N) (kept last : Kept) (done : Bool) (made : List Event) → Leads kept → ServesEach connects calls old kept places done made new last → BuiltTo old made new last
  each_rebuilt [] old new kept last done made l s = record { built = rebuilt_none old new made (ap plain s.1) s.2; leads = subst Leads (sym s.3) l }
  each_rebuilt (place ∷ places) old new kept last done made l s =
      let rest = each_rebuilt places s.0 new (kept_after kept s.3) last s.2 s.4 (leads_more kept s.3 l) s.6 in
      record { built = rebuilt_then old s.0 new made s.3 s.4 (pair_rebuilt old s.0 kept place s.1 s.3 l s.5) rest.built s.8; leads = rest.leads }

  -- ---- a pump, and a line

  pump_rebuilt : (old new : World N) (kept last : Kept) (line : List Event) (done : Bool) (made : List Event) → AllByRecursion HasSize line → Leads kept → PumpStep connects calls old kept line done made new last → BuiltTo old made new last
  pump_rebuilt old new kept last line done made sizes l s =
      let one = reacts_rebuilt line old s.mid kept s.middle s.one s.here sizes l s.reacts in
      let two = each_rebuilt (open_places s.middle.pairs) s.mid new s.middle last s.other s.rest one.leads s.serves in
      record { built = rebuilt_then old s.mid new made s.here s.rest one.built two.built s.made_is; leads = two.leads }

  module _ (keeps : (old : N) (call : Call (List ℕ)) (new : N) → steps old call new → Keeps (link old) call (link new)) where
    -- no line that a relay's script has hands octets to a system
    honest_line : (line : Line) → HasLine dialects.Relay line → IsNoInjection line
    honest_line (lines.Inject lan system octets) has = absurd has
    honest_line line has = tt

    after_rebuilt : (Happens : World N → List Event → World N → Type 0) (old new : World N) (kept last : Kept) (done : Bool) (here made : List Event) → ((mid : World N) → Happens old here mid → Rebuilt old here mid)
        → ((mid : World N) → Happens old here mid → AllByRecursion HasSize here) → Leads kept → PumpsAfter link steps Happens old kept done here made new last → BuiltTo old made new last
    after_rebuilt Happens old new kept last done here made built sizes l s =
        let p = pump_rebuilt s.mid new kept last here done s.rest (sizes s.mid s.happens) l s.pumps in
        record { built = rebuilt_then old s.mid new made here s.rest (built s.mid s.happens) p.built s.made_is; leads = p.leads }

    answer_rebuilt : (relayed : Bool) (line : Line) (old new : World N) (made : List Event) → IsProperLine line → IsNoInjection line → Answers link steps relayed titles line old made new → Rebuilt old made new
    answer_rebuilt true line old new made proper honest s = rebuilt_none old new made (ap plain s.0) s.1
    answer_rebuilt false line old new made proper honest s = rebuilt_by line old new made proper honest s

    turns_rebuilt : (count : ℕ) (old : World N) (kept : Kept) (made : List Event) (new : World N) (last : Kept) → Plays link old kept → Leads kept → Turns link steps count old kept made new last → BuiltTo old made new last
    turns_rebuilt count old kept made new last p l (LastTurn n o k m x z done settled one stop) =
        after_rebuilt (Settles link steps wire 0) old new kept last done settled made (λ mid s. rebuilt_by lines.Settle old mid settled tt tt s)
        (λ mid s. let after = settles link steps keeps old mid settled kept p s in line_sizes (length mid.ends) kept settled after.line) l one
    turns_rebuilt count old kept made new last p l (OneTurn n o k m x z done settled mid middle here rest one more turns made_is) =
        let first = after_rebuilt (Settles link steps wire 0) old mid kept middle done settled here (λ w s. rebuilt_by lines.Settle old w settled tt tt s)
        (λ w s. let after = settles link steps keeps old w settled kept p s in line_sizes (length w.ends) kept settled after.line) l one in
        let next = pumped link steps keeps (Settles link steps wire 0) old kept done settled here mid middle (λ w s. settles link steps keeps old w settled kept p s) p one in
        let others = turns_rebuilt (count + 1) mid middle rest new last next.plays first.leads turns in
        record { built = rebuilt_then old mid new made here rest first.built others.built made_is; leads = others.leads }

    pub part_rebuilt : (part : Part) (old : RelayRun N) (line : Line) (made : List Event) (new : World N) (last : Kept) → old.titles ≡ titles → HasLine dialects.Relay line → IsProperLine line → Plays link old.ends old.relay
        → Leads old.relay → RunsPart link steps part old line made new last → BuiltTo old.ends made new last
    part_rebuilt Idle old line made new last same has proper p l s = record { built = rebuilt_none old.ends new made (ap plain s.0) s.1; leads = subst Leads (sym s.2) l }
    part_rebuilt Settling old line made new last same has proper p l s = turns_rebuilt 0 old.ends old.relay made new last p l s
    part_rebuilt Asking old line made new last same has proper p l s =
        let relayed : Bool = is_relayed old.relay line in
        after_rebuilt (Answers link steps relayed old.titles line) old.ends new old.relay last s.0 s.1 made
        (λ mid h. answer_rebuilt relayed line old.ends mid s.1 proper (honest_line line has) (subst (λ (ts : List (List ℕ)). Answers link steps relayed ts line old.ends s.1 mid) same h))
        (λ mid h. let after = answer_leaves link steps keeps relayed old.titles line old.ends mid s.1 old.relay has refl h p in line_sizes (length mid.ends) old.relay s.1 after.line) l s.2
