-- Each call of a pump has an answer where the network is ready: what is kept of a relay stands in octets, and its rows lead to systems that are there (X.214, service
-- primitives).
use Rattle.std.proofs.Common.{◌≡◌, inl, inr, ℕ, ◌+◌, ◌≤◌, ◌||◌, ◌==◌, Bool, true, false, if◌then◌else◌, nat_lt, drop, List, [], ◌∷◌, ◌++◌, map, length, Option, Some, None, refl, sym, ◌∙◌, ap, subst, arith}
use Rattle.std.specs.Prelude.{IsSome, slice_get}
use Rattle.std.specs.List.{AllByRecursion}
use Rattle.osi_base.specs.Link.{Link}
use Rattle.osi_base.specs.Calls.{Call, Keeps}
use Rattle.osi_base.proofs.Members.{all_weaker}
use Rattle.law_carrier_answers.specs.Answers.{AreOctets}
use Rattle.law_clnp_net.specs.Standing.{is_nsap}
use Rattle.script_journal.specs.declared.cause.Refused.TheVariants as refusals
use Rattle.script_journal.specs.declared.event.Event.{Event}
use Rattle.script_journal.specs.declared.event.Event.TheVariants as events
use Rattle.script_journal.specs.declared.event.Indication.{Indication}
use Rattle.script_lines.specs.declared.words.Dialect.TheVariants as dialects
use Rattle.script_lines.specs.declared.line.Line.{Line}
use Rattle.script_lines.specs.declared.line.Line.TheVariants as lines
use Rattle.tpdu.specs.declared.service.Options.{Options}
use Rattle.script_setup.proofs.Elements.{at, push}
use Rattle.law_setup.proofs.Moving.{call_stays, connect_stays}
use Rattle.tp4_number.specs.Number.{wire}
use Rattle.tp4_conn.specs.declared.call.ConnectRequest.{ConnectRequest}
use Rattle.tp4_conn.specs.declared.call.UserCall.{UserCall}
use Rattle.tp4_conn.specs.declared.call.UserCall.TheVariants as asks
use Rattle.tp4_conn.specs.declared.timers.Timers.{Timers}
use Rattle.tp4_conn.specs.End.{IsSized}
use Rattle.tp4_entity.specs.Entity.{Entity}
use Rattle.tp4_entity.specs.Step.{connect_refusal}
use Rattle.tp4_relay.specs.declared.pair.Heading.{Heading}
use Rattle.tp4_relay.specs.declared.pair.Heading.TheVariants.{On, Back}
use Rattle.tp4_relay.specs.declared.pair.Pair.{Pair}
use Rattle.tp4_relay.specs.declared.pair.Phase.{Phase}
use Rattle.tp4_relay.specs.declared.pair.Phase.TheVariants.{Open}
use Rattle.tp4_relay.specs.declared.reaction.Reaction.{Reaction}
use Rattle.tp4_relay.specs.declared.reaction.Reaction.TheVariants.{Nothing, Begin, Ask}
use Rattle.tp4_relay.specs.declared.row.RelayRow.{RelayRow}
use Rattle.tp4_relay.specs.declared.unit.MarkedUnit.{MarkedUnit}
use Rattle.tp4_relay.specs.declared.unit.MarkedUnit.TheVariants.{Normal, Expedited}
use Rattle.tp4_relay.specs.Allowed.{AreLine, IsLine}
use Rattle.tp4_relay.specs.Kept.{Kept, is_at, kept_after, noted, row_for}
use Rattle.tp4_relay.specs.Pairs.{Accepts, Change, Closes, Gives, Opens, Turns, Waits, changed, inbound_changed, is_closed, is_open, kept as waits_kept, open_places, outbound_changed}
use Rattle.tp4_relay.specs.Pump.{BalancesBy, Does, Parts, PumpStep, Reacts, ServesEach, ServesIf, ServesOpen, ServesPair, SetsCredit, Submits, credit_now, far_end, near_end, unit_call, way_of}
use Rattle.tp4_relay.specs.Reaction.{begins, confirms, goes as goes_for, inbound_goes, inbound_pair, outbound_goes, outbound_pair, reaction, request_for}
use Rattle.tp4_relay.specs.Service.{ConnectedBy}
use Rattle.tp4_relay.proofs.Telling.{rows_stay, rules_stay}
use Rattle.tp4_world.proofs.Places.{some_same}
use Rattle.tp4_world.proofs.Serving.{serves_on}
use Rattle.tp4_world.specs.Run.{Calls, Connects, RunsLine, clock_of, transport_address}
use Rattle.tp4_world.specs.Total.{CanConnect, CanRun, IsReady}
use Rattle.tp4_world.specs.World.{World, entity_at}
use Rattle.script_world.specs.steps.Transported.{Serving}
use Rattle.law_relay.specs.Services.{AsksEnd, AsksFor, IsInOrder, ends_of, has_system, is_done}
use Rattle.law_relay.proofs.Playing.{HasRow}
use Rattle.law_relay.proofs.OctetSteps.{HoldsOctets, TellsOctets, goes}
use Rattle.law_relay.proofs.OneRun.{call_line}
use Rattle.law_relay.proofs.Ordering.{call_order, connect_order}
use Rattle.law_relay.proofs.Serving.{world_serves}
use Rattle.law_relay.proofs.Waits.{each_mapped}
use Rattle.law_relay.proofs.Walks.{after_append}
use Rattle.tpdu.specs.declared.service.EndTold.TheVariants as tells

-- ---- what is kept

abbrev pub UnitInOctets : MarkedUnit → Type 0
UnitInOctets (Normal octets) = AreOctets octets
UnitInOctets (Expedited octets) = AreOctets octets

pub record PairInOctets (pair : Pair) : Type 0 where
  pub on : AllByRecursion UnitInOctets pair.on.waiting
  pub back : AllByRecursion UnitInOctets pair.back.waiting

abbrev pub ArePairs : List Pair → Type 0
ArePairs pairs = AllByRecursion PairInOctets pairs

-- the row leads to a system of these titles
pub record RowLeads (titles : List (List ℕ)) (row : RelayRow) : Type 0 where
  pub to : ℕ
  pub receiver : List ℕ
  pub receiver_is : slice_get titles to ≡ Some receiver
  pub to_is : row.to ≡ transport_address receiver
  pub selector_short : length row.selector ≤ 32
  pub called_short : length row.to_selector ≤ 32

pub record RowInOctets (row : RelayRow) : Type 0 where
  pub address : is_nsap row.to ≡ true
  pub selector : AreOctets row.selector
  pub called : AreOctets row.to_selector

abbrev ChangeInOctets : Change → Type 0
ChangeInOctets (Waits heading unit) = UnitInOctets unit
ChangeInOctets change = Prim.Unit {0}

waits_in : (phase : Phase) (units : List MarkedUnit) (unit : MarkedUnit) → AllByRecursion UnitInOctets units → UnitInOctets unit → AllByRecursion UnitInOctets (waits_kept phase units unit)
waits_in Open units unit all is = push UnitInOctets units unit all is
waits_in other units unit all is = all

drop_in : (units : List MarkedUnit) → AllByRecursion UnitInOctets units → AllByRecursion UnitInOctets (drop 1 units)
drop_in [] all = tt
drop_in (unit ∷ units) all = all.1

changed_in : (change : Change) (pair : Pair) → ChangeInOctets change → PairInOctets pair → PairInOctets (changed pair change)
changed_in Closes pair is p = record { on = tt; back = tt }
changed_in (Waits On unit) pair is p = record { on = waits_in pair.phase pair.on.waiting unit p.on is; back = p.back }
changed_in (Waits Back unit) pair is p = record { on = p.on; back = waits_in pair.phase pair.back.waiting unit p.back is }
changed_in (Gives On) pair is p = record { on = drop_in pair.on.waiting p.on; back = p.back }
changed_in (Gives Back) pair is p = record { on = p.on; back = drop_in pair.back.waiting p.back }
changed_in (Turns On) pair is p = record { on = p.on; back = p.back }
changed_in (Turns Back) pair is p = record { on = p.on; back = p.back }
changed_in other pair is p = record { on = p.on; back = p.back }

inbound_in : (end : ℕ) (change : Change) → ChangeInOctets change → (pair : Pair) → PairInOctets pair → PairInOctets (inbound_changed end change pair)
inbound_in end change is pair p = by (pair.inbound == end)
  where
    by : (b : Bool) → PairInOctets (if b then changed pair change else pair)
    by true = changed_in change pair is p
    by false = p

outbound_in : (end : ℕ) (change : Change) → ChangeInOctets change → (pair : Pair) → PairInOctets pair → PairInOctets (outbound_changed end change pair)
outbound_in end change is pair p = by (pair.outbound == end)
  where
    by : (b : Bool) → PairInOctets (if b then changed pair change else pair)
    by true = changed_in change pair is p
    by false = p

inbounds_in : (end : ℕ) (change : Change) (pairs : List Pair) → ChangeInOctets change → ArePairs pairs → ArePairs (map (inbound_changed end change) pairs)
inbounds_in end change pairs is all = each_mapped PairInOctets PairInOctets (inbound_changed end change) pairs (inbound_in end change is) all

outbounds_in : (end : ℕ) (change : Change) (pairs : List Pair) → ChangeInOctets change → ArePairs pairs → ArePairs (map (outbound_changed end change) pairs)
outbounds_in end change pairs is all = each_mapped PairInOctets PairInOctets (outbound_changed end change) pairs (outbound_in end change is) all

both_in : (end : ℕ) (first second : Change) (pairs : List Pair) → ChangeInOctets first → ChangeInOctets second → ArePairs pairs → ArePairs (map (outbound_changed end second) (map (inbound_changed end first) pairs))
both_in end first second pairs a b all = outbounds_in end second (map (inbound_changed end first) pairs) b (inbounds_in end first pairs a all)

-- an event that tells octets keeps it
noted_pairs : (kept : Kept) (event : Event) → TellsOctets event → ArePairs kept.pairs → ArePairs (noted kept event).pairs
noted_pairs kept (events.End end (tells.Accept options octets)) is all = inbounds_in end Accepts kept.pairs tt all
noted_pairs kept (events.End end (tells.Confirm options octets)) is all = outbounds_in end Opens kept.pairs tt all
noted_pairs kept (events.End end (tells.Got octets)) is all = both_in end (Waits On (Normal octets)) (Waits Back (Normal octets)) kept.pairs is is all
noted_pairs kept (events.End end (tells.Urgent octets)) is all = both_in end (Waits On (Expedited octets)) (Waits Back (Expedited octets)) kept.pairs is is all
noted_pairs kept (events.Data end octets) is all = both_in end (Gives Back) (Gives On) kept.pairs tt tt all
noted_pairs kept (events.Expedite end octets) is all = both_in end (Gives Back) (Gives On) kept.pairs tt tt all
noted_pairs kept (events.End end (tells.Window credit)) is all = both_in end (Turns On) (Turns Back) kept.pairs tt tt all
noted_pairs kept (events.Disconnect end octets) is all = both_in end Closes Closes kept.pairs tt tt all
noted_pairs kept (events.End end (tells.Gone cause octets)) is all = both_in end Closes Closes kept.pairs tt tt all
noted_pairs kept (events.Joined inbound outbound) is all = push PairInOctets kept.pairs _ all (record { on = tt; back = tt })
noted_pairs kept event is all = all

pub after_pairs : (kept : Kept) (made : List Event) → AllByRecursion TellsOctets made → ArePairs kept.pairs → ArePairs (kept_after kept made).pairs
after_pairs kept [] is all = all
after_pairs kept (event ∷ made) is all = after_pairs (noted kept event) made is.1 (noted_pairs kept event is.0 all)

-- ---- what may be done

-- the sizes of an event are sizes
abbrev SizedEvent : Event → Type 0
SizedEvent (events.Incoming heard) = IsSized heard.options
SizedEvent (events.End end (tells.Confirm options octets)) = IsSized options
SizedEvent event = Prim.Unit {0}

abbrev pub IsReadable : Event → Type 0
IsReadable event = TellsOctets event × SizedEvent event

line_sized : (kept : Kept) (event : Event) → IsLine kept event → SizedEvent event
line_sized kept (events.Incoming heard) is = is.1
line_sized kept (events.End end (tells.Confirm options octets)) is = is
line_sized kept event is = tt

pub line_readable : (count : ℕ) (kept : Kept) (line : List Event) → AreLine count kept line → AllByRecursion TellsOctets line → AllByRecursion IsReadable line
line_readable count kept [] all is = tt
line_readable count kept (event ∷ line) all is = ((is.0, line_sized kept event all.0), line_readable count (noted kept event) line all.2 is.1)

-- a call in octets
abbrev pub MayCall : UserCall → Type 0
MayCall (asks.Accept options octets) = IsSized options × AreOctets octets
MayCall (asks.Refuse octets) = AreOctets octets
MayCall (asks.Normal octets) = AreOctets octets
MayCall (asks.Urgent octets) = AreOctets octets
MayCall (asks.Window credit) = credit ≤ 255
MayCall (asks.Disconnect octets) = AreOctets octets

-- the request of a row
record IsRequest (titles : List (List ℕ)) (system : ℕ) (request : ConnectRequest) : Type 0 where
  row : RelayRow
  heard : Indication
  system_is : system ≡ row.system
  request_is : request ≡ request_for row heard
  sized : IsSized heard.options
  octets : AreOctets heard.octets
  leads : RowLeads titles row
  row_octets : RowInOctets row

module _ (titles : List (List ℕ)) where
  abbrev MayReact : Reaction → Type 0
  MayReact Nothing = Prim.Unit {0}
  MayReact (Begin inbound system request) = IsRequest titles system request
  MayReact (Ask end call) = MayCall call

  pub row_found : (P : RelayRow → Type 0) (rows : List RelayRow) (heard : Indication) → AllByRecursion P rows → (found : Option RelayRow) → row_for rows heard ≡ found → (row : RelayRow) → found ≡ Some row → P row
  row_found P [] heard all found is row some = absurd (let no_way : None ≡ Some row = is ∙ some in cc no_way)
  row_found P (first ∷ rows) heard all found is row some = by (is_at heard first) is (λ here. row_found P rows heard all.1 found here row some)
    where
      by : (b : Bool) → (if b then Some first else row_for rows heard) ≡ found → (row_for rows heard ≡ found → P row) → P row
      by true here rest = let whole : Some first ≡ Some row = here ∙ some in let same : first ≡ row = cc whole in subst P same all.0
      by false here rest = rest here

  begins_may : (kept : Kept) (heard : Indication) (found : Option RelayRow) → row_for kept.rows heard ≡ found → IsSized heard.options → AreOctets heard.octets → AllByRecursion (RowLeads titles) kept.rows
      → AllByRecursion RowInOctets kept.rows → MayReact (begins heard found)
  begins_may kept heard None is sized octets leads rows = tt
  begins_may kept heard (Some row) is sized octets leads rows = record {
    row = row;
    heard = heard;
    system_is = refl;
    request_is = refl;
    sized = sized;
    octets = octets;
    leads = row_found (RowLeads titles) kept.rows heard leads (Some row) is row refl;
    row_octets = row_found RowInOctets kept.rows heard rows (Some row) is row refl;
  }

  confirms_may : (options : Options) (octets : List ℕ) (pair : Option Pair) → IsSized options → AreOctets octets → MayReact (confirms options octets pair)
  confirms_may options octets None sized are = tt
  confirms_may options octets (Some pair) sized are = by (is_closed pair.phase)
    where
      by : (b : Bool) → MayReact (if b then Nothing else Ask pair.inbound (asks.Accept options octets))
      by true = tt
      by false = (sized, are)

  inbound_may : (pair : Pair) → MayReact (inbound_goes pair)
  inbound_may pair = by (is_closed pair.phase)
    where
      by : (b : Bool) → MayReact (if b then Nothing else Ask pair.outbound (asks.Disconnect []))
      by true = tt
      by false = tt

  outbound_may : (pair : Option Pair) → MayReact (outbound_goes pair)
  outbound_may None = tt
  outbound_may (Some pair) = by (is_closed pair.phase) pair.accepted
    where
      by : (b c : Bool) → MayReact (if b then Nothing else (if c then Ask pair.inbound (asks.Disconnect []) else Ask pair.inbound (asks.Refuse [])))
      by true c = tt
      by false true = tt
      by false false = tt

  goes_may : (pairs : List Pair) (end : ℕ) (pair : Option Pair) → MayReact (goes_for pairs end pair)
  goes_may pairs end None = outbound_may (outbound_pair pairs end)
  goes_may pairs end (Some pair) = inbound_may pair

  reaction_may : (kept : Kept) (event : Event) → IsReadable event → AllByRecursion (RowLeads titles) kept.rows → AllByRecursion RowInOctets kept.rows → MayReact (reaction kept event)
  reaction_may kept (events.Incoming heard) is leads rows = begins_may kept heard (row_for kept.rows heard) refl is.1 is.0 leads rows
  reaction_may kept (events.End end (tells.Confirm options octets)) is leads rows = confirms_may options octets (outbound_pair kept.pairs end) is.1 is.0
  reaction_may kept (events.End end (tells.Gone cause octets)) is leads rows = goes_may kept.pairs end (inbound_pair kept.pairs end)
  reaction_may kept event is leads rows = tt

pub unit_may : (unit : MarkedUnit) → UnitInOctets unit → MayCall (unit_call unit)
unit_may (Normal octets) is = is
unit_may (Expedited octets) is = is

pub credit_low : (rules : Timers) (lowered : Bool) (left : List MarkedUnit) (credit : ℕ) → rules.credit ≤ 255 → credit_now rules.credit lowered left ≡ Some credit → credit ≤ 255
credit_low rules true [] credit low is = subst (λ (k : ℕ). k ≤ 255) (let same : rules.credit ≡ credit = cc is in same) low
credit_low rules false [] credit low is = absurd (cc is)
credit_low rules true (unit ∷ units) credit low is = absurd (cc is)
credit_low rules false (unit ∷ units) credit low is = let same : 0 ≡ credit = cc is in omega (arith, same)

pub way_octets : (heading : Heading) (pair : Pair) → PairInOctets pair → AllByRecursion UnitInOctets (way_of heading pair).waiting
way_octets On pair p = p.on
way_octets Back pair p = p.back

module _ {C : Type 0} (link : C → Link (List ℕ)) (steps : C → Call (List ℕ) → C → Type 0) (keeps : (old : C) (call : Call (List ℕ)) (new : C) → steps old call new → Keeps (link old) call (link new))
    (titles : List (List ℕ)) (tick : ℕ) (Needs : ℕ → Type 0) where
  abbrev connects : World C → ℕ → ConnectRequest → Bool → List Event → World C → Type 0
  connects = AsksFor link steps

  abbrev calls : World C → ℕ → UserCall → Bool → List Event → World C → Type 0
  calls = AsksEnd link steps

  -- the network is ready, and what is kept may be done; it is tick `tick` at most, and the systems that are needed are there
  pub record Able (world : World C) (kept : Kept) : Type 0 where
    pub ready : IsReady is_nsap link (Serving link steps) world
    pub order : IsInOrder link world
    pub holds : HoldsOctets world
    pub clock : (link world.carrier).clock ≤ tick
    pub needed : (system : ℕ) → Needs system → has_system world system
    pub has : AllByRecursion (HasRow world) kept.rows
    pub credit : kept.rules.credit ≤ 255
    pub leads : AllByRecursion (RowLeads titles) kept.rows
    pub rows : AllByRecursion RowInOctets kept.rows
    pub pairs : ArePairs kept.pairs

  -- the same in a network in which the systems stay
  pub able_on : (old new : World C) (kept : Kept) → Able old kept → IsReady is_nsap link (Serving link steps) new → IsInOrder link new → HoldsOctets new → (link new.carrier).clock ≤ tick
      → ((system : ℕ) → has_system old system → has_system new system) → Able new kept
  able_on old new kept a ready order holds clock still = record {
    ready = ready;
    order = order;
    holds = holds;
    clock = clock;
    needed = λ system is. still system (a.needed system is);
    has = all_weaker (HasRow old) (HasRow new) kept.rows (λ row there. still row.system there) a.has;
    credit = a.credit;
    leads = a.leads;
    rows = a.rows;
    pairs = a.pairs;
  }

  -- more was told
  told_able : (world : World C) (kept : Kept) (made : List Event) → AllByRecursion TellsOctets made → Able world kept → Able world (kept_after kept made)
  told_able world kept made is a = record {
    ready = a.ready;
    order = a.order;
    holds = a.holds;
    clock = a.clock;
    needed = a.needed;
    has = subst (λ (rows : List RelayRow). AllByRecursion (HasRow world) rows) (sym (rows_stay kept made)) a.has;
    credit = subst (λ (rules : Timers). rules.credit ≤ 255) (sym (rules_stay kept made)) a.credit;
    leads = subst (λ (rows : List RelayRow). AllByRecursion (RowLeads titles) rows) (sym (rows_stay kept made)) a.leads;
    rows = subst (λ (rows : List RelayRow). AllByRecursion RowInOctets rows) (sym (rows_stay kept made)) a.rows;
    pairs = after_pairs kept made is a.pairs;
  }

  then_able : (world : World C) (kept : Kept) (here rest : List Event) → Able world (kept_after (kept_after kept here) rest) → Able world (kept_after kept (here ++ rest))
  then_able world kept here rest a = subst (Able world) (sym (after_append kept here rest)) a

  -- ---- one call

  record CallDone (old : World C) (kept : Kept) (end : ℕ) (call : UserCall) : Type 0 where
    done : Bool
    made : List Event
    new : World C
    asks : calls old end call done made new
    able : Able new (kept_after kept made)

  line_may : (old : World C) (end : ℕ) (call : UserCall) → MayCall call → CanRun is_nsap titles link old (call_line end call)
  line_may old end (asks.Accept options octets) may = may
  line_may old end other may = may

  line_calls : (old : World C) (end : ℕ) (call : UserCall) (made : List Event) (new : World C) → RunsLine link steps wire titles old (call_line end call) made new → Calls link steps wire old end call made new
  line_calls old end (asks.Accept options octets) made new h = h
  line_calls old end other made new h = h

  some_call : (old : World C) (kept : Kept) (end : ℕ) (call : UserCall) → MayCall call → Able old kept → CallDone old kept end call
  some_call old kept end call may a =
      let w = goes link steps keeps is_nsap (Serving link steps) (serves_on is_nsap link steps) titles old (call_line end call) a.ready a.holds (line_may old end call may) in
      let c = line_calls old end call w.made w.new w.runs in
      let asked : calls old end call (is_done w.made) w.made w.new = record { order = a.order; calls = c; done_is = refl } in
      let law = world_serves link steps keeps in
      let still = law.call_has old end call (is_done w.made) w.made w.new asked in
      let clock_is = (call_stays link steps keeps old end call w.made w.new c).clock in
      let was = a.clock in
      record {
        done = is_done w.made;
        made = w.made;
        new = w.new;
        asks = asked;
        able = told_able w.new kept w.made w.tells (able_on old w.new kept a w.ready (call_order link steps old w.new end call w.made c a.order) w.holds (omega (arith, clock_is, was)) still);
      }

  record ConnectDone (old : World C) (kept : Kept) (system : ℕ) (request : ConnectRequest) : Type 0 where
    done : Bool
    made : List Event
    new : World C
    asks : connects old system request done made new
    able : Able new (kept_after kept made)

  some_of : (found : Option Entity) → IsSome found → (e : Entity) × (found ≡ Some e)
  some_of None is = absurd (cc is)
  some_of (Some e) is = (e, refl)

  -- the request of a row, as a line
  abbrev request_line : RelayRow → ℕ → Indication → Line
  request_line row to heard = lines.Connect row.system row.selector to row.to_selector heard.options heard.octets

  some_request : (old : World C) (kept : Kept) (row : RelayRow) (heard : Indication) → IsSized heard.options → AreOctets heard.octets → RowLeads titles row → RowInOctets row → has_system old row.system
      → Able old kept → ConnectDone old kept row.system (request_for row heard)
  some_request old kept row heard sized octets leads is there a =
      let e = some_of (entity_at old.entities row.system) there in
      let may : CanConnect is_nsap titles old row.system leads.to heard.options row.selector row.to_selector heard.octets = record {
        receiver = leads.receiver;
        receiver_is = leads.receiver_is;
        address = ap is_nsap (sym leads.to_is) ∙ is.address;
        entity = e.0;
        entity_is = e.1;
        size_known = sized;
        selector_short = leads.selector_short;
        selector_octets = is.selector;
        called_short = leads.called_short;
        called_octets = is.called;
        octets_are = octets;
      } in
      let w = goes link steps keeps is_nsap (Serving link steps) (serves_on is_nsap link steps) titles old (request_line row leads.to heard) a.ready a.holds may in
      let receiver : List ℕ = w.runs.0 in
      let asked : ConnectRequest = w.runs.1 in
      let address : asked.to ≡ row.to =
      w.runs.4.1 ∙ ap transport_address (some_same receiver leads.receiver (sym w.runs.2 ∙ leads.receiver_is)) ∙ sym leads.to_is in
      let from : asked.from_selector ≡ row.selector = w.runs.4.0 in
      let to_selector : asked.to_selector ≡ row.to_selector = w.runs.4.2 in
      let given : asked.octets ≡ heard.octets = w.runs.4.3 in
      let options : asked.options ≡ heard.options = w.runs.3 in
      let same : asked ≡ request_for row heard = λ i. record { from_selector = from i; to = address i; to_selector = to_selector i; options = options i; octets = given i } in
      let c : Connects link steps old row.system (request_for row heard) w.made w.new = subst (λ (request : ConnectRequest). Connects link steps old row.system request w.made w.new) same w.runs.4.4 in
      let begun : connects old row.system (request_for row heard) (is_done w.made) w.made w.new = record { order = a.order; connects = c; done_is = refl } in
      let law = world_serves link steps keeps in
      let still = law.connect_has old row.system (request_for row heard) (is_done w.made) w.made w.new begun in
      let clock_is = (connect_stays link steps keeps old row.system c.0 (request_for row heard) (connect_refusal (clock_of link steps old) c.0 heard.octets) w.made w.new c.2).clock in
      let was = a.clock in
      record {
        done = is_done w.made;
        made = w.made;
        new = w.new;
        asks = begun;
        able = told_able w.new kept w.made w.tells (able_on old w.new kept a w.ready (connect_order link steps old w.new row.system (request_for row heard) w.made c a.order) w.holds (omega (arith, clock_is, was)) still);
      }

  -- ---- about an event

  record DoesDone (old : World C) (kept : Kept) (to_do : Reaction) : Type 0 where
    done : Bool
    made : List Event
    new : World C
    does : Does connects calls old to_do done made new
    able : Able new (kept_after kept made)

  request_by : (old new : World C) (kept : Kept) (inbound system : ℕ) (request : ConnectRequest) (taken : Bool) (told : List Event) → connects old system request taken told new → Able new (kept_after kept told)
      → DoesDone old kept (Begin inbound system request)
  request_by old new kept inbound system request true told c a =
      let t : ConnectedBy (ends_of old + 1) true told = (world_serves link steps keeps).connected old system request true told new c in
      let note : List Event = events.Joined inbound t.0.end ∷ [] in
      record {
        done = true;
        made = told ++ note;
        new = new;
        does = (true, (told, t.0, t.1, c, t.2, refl, refl));
        able = then_able new kept told note (told_able new (kept_after kept told) note (tt, tt) a);
      }
  request_by old new kept inbound system request false told c a =
      let r = some_call new (kept_after kept told) inbound (asks.Refuse []) tt a in
      record {
        done = r.done;
        made = told ++ r.made;
        new = r.new;
        does = (false, (new, told, r.made, c, r.asks, refl));
        able = then_able r.new kept told r.made r.able;
      }

  some_does : (old : World C) (kept : Kept) (to_do : Reaction) → MayReact titles to_do → ((system : ℕ) (request : ConnectRequest) (inbound : ℕ) → to_do ≡ Begin inbound system request → has_system old system) → Able old kept → DoesDone old kept to_do
  some_does old kept Nothing may there a = record { done = false; made = []; new = old; does = (refl, refl, refl); able = a }
  some_does old kept (Begin inbound system request) may there a =
      let at_row : has_system old may.row.system = subst (has_system old) may.system_is (there system request inbound refl) in
      let r = some_request old kept may.row may.heard may.sized may.octets may.leads may.row_octets at_row a in
      let asked : connects old system request r.done r.made r.new =
      subst (λ (n : ℕ). connects old n request r.done r.made r.new) (sym may.system_is)
      (subst (λ (x : ConnectRequest). connects old may.row.system x r.done r.made r.new) (sym may.request_is) r.asks) in
      request_by old r.new kept inbound system request r.done r.made asked r.able
  some_does old kept (Ask end request) may there a =
      let r = some_call old kept end request may a in
      record { done = r.done; made = r.made; new = r.new; does = r.asks; able = r.able }

  -- a request is one at the system of a row
  begun_row : (old : World C) (kept : Kept) (heard : Indication) (found : Option RelayRow) → row_for kept.rows heard ≡ found → AllByRecursion (HasRow old) kept.rows → (system : ℕ) (request : ConnectRequest) (inbound : ℕ)
      → begins heard found ≡ Begin inbound system request → has_system old system
  begun_row old kept heard None is all system request inbound same = absurd (cc same)
  begun_row old kept heard (Some row) is all system request inbound same =
      let at_system : row.system ≡ system = cc same in
      subst (has_system old) at_system (row_found titles (HasRow old) kept.rows heard all (Some row) is row refl)

  -- no other reaction is a request
  outbound_none : (pair : Option Pair) (system : ℕ) (request : ConnectRequest) (inbound : ℕ) → outbound_goes pair ≡ Begin inbound system request → ⊥
  outbound_none None system request inbound h = cc h
  outbound_none (Some pair) system request inbound h = by (is_closed pair.phase) pair.accepted h
    where
      by : (b c : Bool) → (if b then Nothing else (if c then Ask pair.inbound (asks.Disconnect []) else Ask pair.inbound (asks.Refuse []))) ≡ Begin inbound system request → ⊥
      by true c e = cc e
      by false true e = cc e
      by false false e = cc e

  inbound_none : (pair : Pair) (system : ℕ) (request : ConnectRequest) (inbound : ℕ) → inbound_goes pair ≡ Begin inbound system request → ⊥
  inbound_none pair system request inbound h = by (is_closed pair.phase) h
    where
      by : (b : Bool) → (if b then Nothing else Ask pair.outbound (asks.Disconnect [])) ≡ Begin inbound system request → ⊥
      by true e = cc e
      by false e = cc e

  goes_none : (pairs : List Pair) (end : ℕ) (pair : Option Pair) (system : ℕ) (request : ConnectRequest) (inbound : ℕ) → goes_for pairs end pair ≡ Begin inbound system request → ⊥
  goes_none pairs end None system request inbound h = outbound_none (outbound_pair pairs end) system request inbound h
  goes_none pairs end (Some pair) system request inbound h = inbound_none pair system request inbound h

  confirms_none : (options : Options) (octets : List ℕ) (pair : Option Pair) (system : ℕ) (request : ConnectRequest) (inbound : ℕ) → confirms options octets pair ≡ Begin inbound system request → ⊥
  confirms_none options octets None system request inbound h = cc h
  confirms_none options octets (Some pair) system request inbound h = by (is_closed pair.phase) h
    where
      by : (b : Bool) → (if b then Nothing else Ask pair.inbound (asks.Accept options octets)) ≡ Begin inbound system request → ⊥
      by true e = cc e
      by false e = cc e

  reaction_row : (old : World C) (kept : Kept) (event : Event) → AllByRecursion (HasRow old) kept.rows → (system : ℕ) (request : ConnectRequest) (inbound : ℕ) → reaction kept event ≡ Begin inbound system request → has_system old system
  reaction_row old kept (events.Incoming heard) all system request inbound same = begun_row old kept heard (row_for kept.rows heard) refl all system request inbound same
  reaction_row old kept (events.End end (tells.Confirm options octets)) all system request inbound same = absurd (confirms_none options octets (outbound_pair kept.pairs end) system request inbound same)
  reaction_row old kept (events.End end (tells.Gone cause octets)) all system request inbound same = absurd (goes_none kept.pairs end (inbound_pair kept.pairs end) system request inbound same)
  reaction_row old kept event all system request inbound same = absurd (cc same)

  record ReactsDone (old : World C) (kept : Kept) (line : List Event) : Type 0 where
    done : Bool
    made : List Event
    new : World C
    last : Kept
    reacts : Reacts connects calls old kept line done made new last
    able : Able new last

  some_reacts : (line : List Event) (old : World C) (kept : Kept) → AllByRecursion IsReadable line → Able old kept → ReactsDone old kept line
  some_reacts [] old kept is a = record { done = false; made = []; new = old; last = kept; reacts = (refl, refl, refl, refl); able = a }
  some_reacts (event ∷ line) old kept is a =
      let next : Kept = noted kept event in
      let noted_able : Able old next = told_able old kept (event ∷ []) (is.0.0, tt) a in
      let d = some_does old next (reaction kept event) (reaction_may titles kept event is.0 a.leads a.rows) (reaction_row old kept event a.has) noted_able in
      let r = some_reacts line d.new (kept_after next d.made) is.1 d.able in
      record {
        done = d.done || r.done;
        made = d.made ++ r.made;
        new = r.new;
        last = r.last;
        reacts = (d.new, d.done, r.done, d.made, r.made, d.does, r.reacts, refl, refl);
        able = r.able;
      }

  -- ---- for an open pair

  record SubmitsDone (old : World C) (kept : Kept) (end : ℕ) (units : List MarkedUnit) : Type 0 where
    done : Bool
    made : List Event
    new : World C
    left : List MarkedUnit
    submits : Submits connects calls old end units done made new left
    able : Able new (kept_after kept made)

  some_submits : (units : List MarkedUnit) (old : World C) (kept : Kept) (end : ℕ) → AllByRecursion UnitInOctets units → Able old kept → SubmitsDone old kept end units
  some_submits [] old kept end is a = record { done = false; made = []; new = old; left = []; submits = (refl, refl, refl, refl); able = a }
  some_submits (unit ∷ units) old kept end is a =
      let r = some_call old kept end (unit_call unit) (unit_may unit is.0) a in
      by r.done r.made r.new r.asks r.able (λ made new able. some_submits units new (kept_after kept made) end is.1 able)
    where
      by : (done : Bool) (made : List Event) (new : World C) → calls old end (unit_call unit) done made new → Able new (kept_after kept made)
          → ((here : List Event) (mid : World C) → Able mid (kept_after kept here) → SubmitsDone mid (kept_after kept here) end units) → SubmitsDone old kept end (unit ∷ units)
      by false made new c able others = record { done = false; made = made; new = new; left = unit ∷ units; submits = inl (c, refl, refl); able = able }
      by true made new c able others =
          let rest = others made new able in
          record {
            done = true;
            made = made ++ rest.made;
            new = rest.new;
            left = rest.left;
            submits = inr (new, rest.done, made, rest.made, c, rest.submits, refl, refl);
            able = then_able rest.new kept made rest.made rest.able;
          }

  -- what is served
  record Done (old : World C) (kept : Kept) (R : Bool → List Event → World C → Type 0) : Type 0 where
    done : Bool
    made : List Event
    new : World C
    so : R done made new
    able : Able new (kept_after kept made)

  some_parts : (old : World C) (kept : Kept) (pair : Pair) → Able old kept → Done old kept (Parts connects calls old pair)
  some_parts old kept pair a =
      let first = some_call old kept pair.inbound (asks.Disconnect []) tt a in
      let second = some_call first.new (kept_after kept first.made) pair.outbound (asks.Disconnect []) tt first.able in
      record {
        done = first.done || second.done;
        made = first.made ++ second.made;
        new = second.new;
        so = (first.new, first.done, second.done, first.made, second.made, first.asks, second.asks, refl, refl);
        able = then_able second.new kept first.made second.made second.able;
      }

  some_credit : (old : World C) (kept : Kept) (end : ℕ) (credit : Option ℕ) → ((k : ℕ) → credit ≡ Some k → k ≤ 255) → Able old kept → Done old kept (SetsCredit connects calls old end credit)
  some_credit old kept end None low a = record { done = false; made = []; new = old; so = (refl, refl, refl); able = a }
  some_credit old kept end (Some credit) low a =
      let r = some_call old kept end (asks.Window credit) (low credit refl) a in record { done = r.done; made = r.made; new = r.new; so = r.asks; able = r.able }

  some_balance : (many : Bool) (old : World C) (kept : Kept) (rules : Timers) (heading : Heading) (pair : Pair) (left : List MarkedUnit) → rules.credit ≤ 255 → Able old kept
      → Done old kept (BalancesBy connects calls many old rules heading pair left)
  some_balance true old kept rules heading pair left low a = let r = some_parts old kept pair a in record { done = r.done; made = r.made; new = r.new; so = r.so; able = r.able }
  some_balance false old kept rules heading pair left low a =
      let r = some_credit old kept (near_end heading pair) (credit_now rules.credit (way_of heading pair).lowered left) (λ k is. credit_low rules (way_of heading pair).lowered left k low is) a in
      record { done = r.done; made = r.made; new = r.new; so = r.so; able = r.able }

  some_open : (opens : Bool) (old : World C) (kept : Kept) (rules : Timers) (heading : Heading) (pair : Pair) → rules.credit ≤ 255 → PairInOctets pair → Able old kept
      → Done old kept (ServesOpen connects calls opens old rules heading pair)
  some_open false old kept rules heading pair low is a = record { done = false; made = []; new = old; so = (refl, refl, refl); able = a }
  some_open true old kept rules heading pair low is a =
      let s = some_submits (way_of heading pair).waiting old kept (far_end heading pair) (way_octets heading pair is) a in
      let b = some_balance (nat_lt 300 (length s.left)) s.new (kept_after kept s.made) rules heading pair s.left low s.able in
      record {
        done = s.done || b.done;
        made = s.made ++ b.made;
        new = b.new;
        so = record {
          mid = s.new;
          one = s.done;
          other = b.done;
          here = s.made;
          rest = b.made;
          left = s.left;
          submits = s.submits;
          balances = b.so;
          done_is = refl;
          made_is = refl;
        };
        able = then_able b.new kept s.made b.made b.able;
      }

  some_way : (found : Option Pair) (old : World C) (kept : Kept) (place : ℕ) (heading : Heading) → slice_get kept.pairs place ≡ found → Able old kept → Done old kept (ServesIf connects calls old kept.rules heading found)
  some_way None old kept place heading is a = record { done = false; made = []; new = old; so = (refl, refl, refl); able = a }
  some_way (Some pair) old kept place heading is a =
      let r = some_open (is_open pair.phase) old kept kept.rules heading pair a.credit (at PairInOctets kept.pairs place pair a.pairs is) a in
      record { done = r.done; made = r.made; new = r.new; so = r.so; able = r.able }

  some_pair : (old : World C) (kept : Kept) (place : ℕ) → Able old kept → Done old kept (ServesPair connects calls old kept place)
  some_pair old kept place a =
      let first = some_way (slice_get kept.pairs place) old kept place On refl a in
      let mid : Kept = kept_after kept first.made in
      let second = some_way (slice_get mid.pairs place) first.new mid place Back refl first.able in
      record {
        done = first.done || second.done;
        made = first.made ++ second.made;
        new = second.new;
        so = record {
          mid = first.new;
          one = first.done;
          other = second.done;
          here = first.made;
          rest = second.made;
          on = first.so;
          back = second.so;
          done_is = refl;
          made_is = refl;
        };
        able = then_able second.new kept first.made second.made second.able;
      }

  record EachDone (old : World C) (kept : Kept) (places : List ℕ) : Type 0 where
    done : Bool
    made : List Event
    new : World C
    last : Kept
    serves : ServesEach connects calls old kept places done made new last
    able : Able new last

  some_each : (places : List ℕ) (old : World C) (kept : Kept) → Able old kept → EachDone old kept places
  some_each [] old kept a = record { done = false; made = []; new = old; last = kept; serves = (refl, refl, refl, refl); able = a }
  some_each (place ∷ places) old kept a =
      let first = some_pair old kept place a in
      let rest = some_each places first.new (kept_after kept first.made) first.able in
      record {
        done = first.done || rest.done;
        made = first.made ++ rest.made;
        new = rest.new;
        last = rest.last;
        serves = (first.new, first.done, rest.done, first.made, rest.made, first.so, rest.serves, refl, refl);
        able = rest.able;
      }

  -- ---- a pump

  pub record PumpDone (old : World C) (kept : Kept) (line : List Event) : Type 0 where
    pub done : Bool
    pub made : List Event
    pub new : World C
    pub last : Kept
    pub pumps : PumpStep connects calls old kept line done made new last
    pub able : Able new last

  pub some_pump : (old : World C) (kept : Kept) (line : List Event) → AllByRecursion IsReadable line → Able old kept → PumpDone old kept line
  some_pump old kept line is a =
      let r = some_reacts line old kept is a in
      let s = some_each (open_places r.last.pairs) r.new r.last r.able in
      record {
        done = r.done || s.done;
        made = r.made ++ s.made;
        new = s.new;
        last = s.last;
        pumps = record {
          mid = r.new;
          middle = r.last;
          one = r.done;
          other = s.done;
          here = r.made;
          rest = s.made;
          reacts = r.reacts;
          serves = s.serves;
          done_is = refl;
          made_is = refl;
        };
        able = s.able;
      }
