-- Each frame of a run fits the record of a capture: it was sent by now, and its PDU has the room of a LAN. So each line has a course also where lines are told
-- by their frames.
use Rattle.std.proofs.Common.{◌≡◌, ℕ, zero, suc, ◌+◌, ◌-◌, ◌<◌, ◌≤◌, Bool, true, false, if◌then◌else◌, List, [], ◌∷◌, ◌++◌, length, map, take, drop, slice_get, slice_set, Option, None, Some, Result, Ok, Err, inl, inr, refl, sym, subst, arith}
use Rattle.std.specs.Prelude.{nat_le, nat_lt, not, ◌||◌, ◌==◌, is_some}
use Rattle.std.specs.List.{AllByRecursion, count_by}
use Rattle.std.proofs.lemmas.Bool.{cases_lt, ltb-false}
use Rattle.std.proofs.lemmas.Option.{none-some, same_Some}
use Rattle.nsap.specs.declared.port.Port.{Port}
use Rattle.osi_base.specs.declared.unit.Arrival.{Arrival}
use Rattle.osi_base.specs.declared.unit.Injected.{Injected}
use Rattle.osi_base.specs.declared.unit.Injected.TheVariants.{Taken as WasInjected, NotThere as InjectedNowhere}
use Rattle.osi_base.specs.declared.unit.DropCause.TheVariants.{Full, NoRoute, TooLong}
use Rattle.osi_base.specs.declared.unit.Offered.{Offered}
use Rattle.osi_base.specs.declared.unit.Offered.TheVariants.{Taken as WasTaken, Dropped}
use Rattle.osi_base.specs.declared.unit.Picked.{Picked}
use Rattle.osi_base.specs.declared.unit.Picked.TheVariants.{Taken as WasPicked, NoSuch, Late, NotThere, NotOurs}
use Rattle.osi_base.specs.declared.unit.Unit.{Unit as CarriedUnit}
use Rattle.osi_base.specs.declared.unit.Up.{Up}
use Rattle.osi_base.specs.declared.unit.Up.TheVariants.{Unit as Came, Note as Noted}
use Rattle.osi_base.specs.declared.unit.Wish.{Wish}
use Rattle.osi_base.specs.Calls.{Call, Chain, Choose, Inject, NextUp, Offer, Tick}
use Rattle.osi_base.proofs.Members.{all_both, all_drop, all_take}
use Rattle.capture_write.specs.Written.{IsWritable, SentFrame, header_octets}
use Rattle.lan_frame.specs.Frame.{whole_frame}
use Rattle.lan_step.specs.declared.row.Lan.{Lan}
use Rattle.lan_step.specs.declared.row.PortRow.{PortRow}
use Rattle.lan_step.specs.Bag.{Bag, BagStep, after_choose, after_inject, after_offer, after_pick, link_of, new_bag}
use Rattle.lan_step.specs.Frames.{Frame, frame_of, is_live, kept, kept_at, marked, marked_at, marked_frame}
use Rattle.lan_step.specs.Offers.{live_count, offered}
use Rattle.lan_step.specs.Rows.{IsLan, room_on, sender_of}
use Rattle.lan_step.proofs.Offering.{some_kept}
use Rattle.esis_tables.specs.Rows.{Rows}
use Rattle.clnp_system.specs.Node.{Node}
use Rattle.clnp_system.specs.Tables.{rows_tables}
use Rattle.law_clnp_step.specs.Handling.{Handles, OffersFrame, OffersFrames, TicksAll, plain_wish}
use Rattle.law_clnp_step.specs.Step.{Arrives, Begins, IsDropped, IsFull, IsNobodys, IsTaken, NetOffers, NetTicks}
use Rattle.law_clnp_net.specs.Serving.{StandsInOctets}
use Rattle.law_clnp_net.specs.Standing.{FitsKept, is_nsap}
use Rattle.law_clnp_net.proofs.Always.{begins_serving, serves}
use Rattle.line_loop.specs.Lines.{most_lines}
use Rattle.line_loop.specs.Laws.{AsksSomething}
use Rattle.line_loop.specs.Course.{HasCourse}
use Rattle.line_loop.proofs.Totality.{asks_something}
use Rattle.script_journal.specs.declared.event.Event.{Event}
use Rattle.script_storm.specs.Counted.{is_frame}
use Rattle.script_lines.specs.declared.line.Line.{Line}
use Rattle.script_lines.specs.declared.cause.LineFault.{LineFault}
use Rattle.script_lines.specs.Grammar.{Reading, line_read}
use Rattle.script_lines.specs.Known.{Declared}
use Rattle.script_setup.specs.Fitting.{IsWell}
use Rattle.script_setup.specs.SetUp.{SetUp, nodes_of, set_up, titles_of as titles_said}
use Rattle.law_setup.specs.Entities.{entities_of}
use Rattle.law_setup.specs.Lines.{IsInOctets}
use Rattle.law_setup.proofs.Octets.{may_begin, nodes_are}
use Rattle.tp4_number.specs.Number.{wire}
use Rattle.tp4_world.specs.Total.{CanRun, HasRun, HasStart, IsReady, Serves}
use Rattle.tp4_world.proofs.SomeLines.{some_begin, some_line}
use Rattle.script_bench.specs.Acts.{HasStep}
use Rattle.law_setup.specs.ClnpNets.{MakesNet}
use Rattle.script_world.specs.declared.play.World.TheVariants.{SettingUp, Running}
use Rattle.law_setup.proofs.Made.{comes, net_law, net_laws}
use Rattle.law_setup.proofs.OneLine.{one_begin, one_line}
use Rattle.law_setup.proofs.Placing.{entities_ready, titles_own}
use Rattle.law_run.specs.Bench.{Bench, RunsText, first_bench, most_events}
use Rattle.law_run.specs.World.{TransportNet, Net, NetDoes, SetsUp, StartsUp, World, WorldStep, is_start, link_of_net, world_acts}
use Rattle.law_run.proofs.WorldLaws.{ran_line, started, world_keeping, world_laws}
use Rattle.script_frames.specs.Frames.{AsksSomeCapture, MakesFrames, frames_meaning, new_slots, sent_in, sent_of, slots_of}
use Rattle.script_frames.specs.steps.FrameLaws.{frames_laws}

-- ---- lists

-- ---- the LANs

-- a frame that is kept was sent by now, and has the room of a LAN
abbrev IsKept : ℕ → Option Frame → Type 0
IsKept now None = Unit {0}
IsKept now (Some frame) = (frame.tick ≤ now) × (length frame.unit.octets ≤ 1497)

abbrev AreKept : ℕ → List (Option Frame) → Type 0
AreKept now slots = AllByRecursion (IsKept now) slots

record IsShort (bag : Bag) : Type 0 where
  rooms : (lan : ℕ) → room_on bag.lans lan ≤ 1497
  frames : AreKept bag.clock bag.frames

set_kept : (now : ℕ) (slots : List (Option Frame)) (place system : ℕ) (frame : Frame) → AreKept now slots → slice_get slots place ≡ Some (Some frame) → AreKept now (slice_set slots place (Some (marked frame system)))
set_kept now [] zero system frame all at = absurd (none-some _ at)
set_kept now [] (suc place) system frame all at = absurd (none-some _ at)
set_kept now (slot ∷ slots) zero system frame all at = (subst (IsKept now) (same_Some slot (Some frame) at) all.0, all.1)
set_kept now (slot ∷ slots) (suc place) system frame all at = (all.0, set_kept now slots place system frame all.1 at)

marked_kept : (now : ℕ) (slots : List (Option Frame)) (place system : ℕ) (found : Option Frame) → AreKept now slots → kept (slice_get slots place) ≡ found → AreKept now (marked_frame slots place system found)
marked_kept now slots place system None all is = all
marked_kept now slots place system (Some frame) all is = set_kept now slots place system frame all (some_kept (slice_get slots place) frame is)

number_kept : (now : ℕ) (slots : List (Option Frame)) (number system : ℕ) → AreKept now slots → AreKept now (marked_at slots number system)
number_kept now slots zero system all = all
number_kept now slots (suc place) system all = marked_kept now slots place system (kept (slice_get slots place)) all refl

-- a frame that is taken has room
has_room : (apart : Bool) (room size : ℕ) (full : Bool) → WasTaken ≡ (if apart then Dropped NoRoute else if nat_lt room size then Dropped TooLong else if full then Dropped Full else WasTaken) → size ≤ room
has_room true room size full is = absurd (cc is)
has_room false room size full is = by (nat_lt room size) refl is
  where
    by : (long : Bool) → nat_lt room size ≡ long → WasTaken ≡ (if long then Dropped TooLong else if full then Dropped Full else WasTaken) → size ≤ room
    by true e is = absurd (cc is)
    by false e is = ltb-false room size e

offer_short : (old : Bag) (unit : CarriedUnit Port) (answer : Offered) → answer ≡ offered old.lans old.rows old.frames unit → IsShort old → IsShort (after_offer old unit answer)
offer_short old unit WasTaken is s =
    let size = has_room (not (is_some (sender_of old.rows unit.from)) || not (unit.from.lan == unit.to.lan)) (room_on old.lans unit.to.lan) (length unit.octets)
    (nat_le 16384 (live_count old.frames) || nat_le 4294967295 (length old.frames)) is in
    record {
      rooms = s.rooms;
      frames = all_both (IsKept old.clock) old.frames (Some (record { tick = old.clock; unit = unit; taken = [] }) ∷ []) s.frames ((omega arith, omega (arith, size, s.rooms unit.to.lan)), tt);
    }
offer_short old unit (Dropped cause) is s = s

pick_short : (old : Bag) (pick system : ℕ) (found : Option Frame) → IsShort old → IsShort (after_pick old pick system found)
pick_short old pick system (Some frame) s = record { rooms = s.rooms; frames = number_kept old.clock old.frames pick system s.frames }
pick_short old pick system None s = s

choose_short : (old : Bag) (pick system : ℕ) (answer : Picked) → IsShort old → IsShort (after_choose old pick system answer)
choose_short old pick system WasPicked s = pick_short old pick system (frame_of old.frames pick) s
choose_short old pick system NoSuch s = s
choose_short old pick system Late s = s
choose_short old pick system NotThere s = s
choose_short old pick system NotOurs s = s

inject_short : (old : Bag) (lan system : ℕ) (octets : List ℕ) (answer : Injected) → IsShort old → IsShort (after_inject old lan system octets answer)
inject_short old lan system octets InjectedNowhere s = s
inject_short old lan system octets WasInjected s = record { rooms = s.rooms; frames = s.frames }

slot_later : (now : ℕ) (lans : List Lan) (slot : Option Frame) → IsKept now slot → IsKept (now + 1) (kept_at (now + 1) lans slot)
slot_later now lans None k = tt
slot_later now lans (Some frame) k = by (is_live (now + 1) lans frame)
  where
    by : (live : Bool) → IsKept (now + 1) (if live then Some frame else None)
    by true = (omega (arith, k.0), k.1)
    by false = tt

slots_later : (now : ℕ) (lans : List Lan) (slots : List (Option Frame)) → AreKept now slots → AreKept (now + 1) (map (kept_at (now + 1) lans) slots)
slots_later now lans [] all = tt
slots_later now lans (slot ∷ slots) all = (slot_later now lans slot all.0, slots_later now lans slots all.1)

bag_short : (old : Bag) (call : Call Port) (new : Bag) → BagStep old call new → IsShort old → IsShort new
bag_short old (Offer unit wish answer) new step s = subst IsShort (sym step.1) (offer_short old unit answer step.0 s)
bag_short old (Choose pick system answer) new step s = subst IsShort (sym step.1) (choose_short old pick system answer s)
bag_short old (Inject lan system octets answer) new step s = subst IsShort (sym step.1) (inject_short old lan system octets answer s)
bag_short old (NextUp answer) new step s = subst IsShort (sym step.2) (record { rooms = s.rooms; frames = s.frames })
bag_short old Tick new step s = subst IsShort (sym step) (record { rooms = s.rooms; frames = slots_later old.clock old.lans old.frames s.frames })

chain_short : (calls : List (Call Port)) (old new : Bag) → Chain BagStep old calls new → IsShort old → IsShort new
chain_short [] old new h s = subst IsShort (sym h) s
chain_short (call ∷ calls) old new h s = chain_short calls h.0 new h.2 (bag_short old call h.0 h.1 s)

-- ---- the network

offer_frame : (old : Bag) (system : ℕ) (frame : CarriedUnit Port) (new : Bag) (told : List (Up (List ℕ))) → OffersFrame link_of BagStep old system frame new told → IsShort old → IsShort new
offer_frame old system frame new told h s = chain_short _ h.offered new h.gathers.chain (bag_short old (Offer frame plain_wish h.answer) h.offered h.offers s)

offer_frames : (frames : List (CarriedUnit Port)) (old : Bag) (system : ℕ) (new : Bag) (told : List (Up (List ℕ))) → OffersFrames link_of BagStep old system frames new told → IsShort old → IsShort new
offer_frames [] old system new told h s = subst IsShort (sym h.0) s
offer_frames (frame ∷ frames) old system new told h s = offer_frames frames h.0 system new h.2 h.4 (offer_frame old system frame h.0 h.1 h.3 s)

handle : (ups : List (Up Port)) (now : ℕ) (old : Bag) (nodes : List (Node Rows)) (new : Bag) (after : List (Node Rows)) (told : List (Up (List ℕ)))
    → Handles link_of BagStep rows_tables now old nodes ups new after told → IsShort old → IsShort new
handle [] now old nodes new after told h s = subst IsShort (sym h.0) s
handle (Noted note ∷ ups) now old nodes new after told h s = handle ups now old nodes new after h.0 h.1 s
handle (Came arrival ∷ ups) now old nodes new after told h s = handle ups now h.1 h.2 new after h.4 h.7 (offer_frames h.0.frames old arrival.system h.1 h.3 h.6 s)

tick_all : (nodes : List (Node Rows)) (now : ℕ) (old new : Bag) (after : List (Node Rows)) (told : List (Up (List ℕ))) → TicksAll link_of BagStep rows_tables now old nodes new after told → IsShort old → IsShort new
tick_all [] now old new after told h s = subst IsShort (sym h.0) s
tick_all (node ∷ nodes) now old new after told h s = tick_all nodes now h.1 new h.3 h.5 h.8 (offer_frames h.0.frames old node.setup.system h.1 h.4 h.7 s)

offers_short : (old : Net) (unit : CarriedUnit (List ℕ)) (wish : Wish) (answer : Offered) (new : Net) → NetOffers link_of BagStep rows_tables old unit wish answer new → IsShort old.link → IsShort new.link
offers_short old unit wish answer new (IsFull full is same) s = subst (λ (n : Net). IsShort n.link) (sym same) s
offers_short old unit wish answer new (IsNobodys room none is same) s = subst (λ (n : Net). IsShort n.link) (sym same) s
offers_short old unit wish answer new (IsDropped node after nodes cause room changes sends is becomes) s = subst (λ (n : Net). IsShort n.link) (sym becomes) s
offers_short old unit wish answer new (IsTaken node after nodes frames below told room changes sends offers is becomes) s =
    subst (λ (n : Net). IsShort n.link) (sym becomes) (offer_frames frames old.link node.setup.system below told offers s)

arrives_short : (old : Net) (call : Call Port) (new : Net) → Arrives link_of BagStep rows_tables old call new → IsShort old.link → IsShort new.link
arrives_short old call new h s =
    subst (λ (n : Net). IsShort n.link) (sym h.becomes)
    (handle h.ups old.link.clock h.risen old.nodes h.below h.nodes h.told h.handles (chain_short _ h.called h.risen h.gathers.chain (bag_short old.link call h.called h.calls s)))

net_short : (old : Net) (call : Call (List ℕ)) (new : Net) → NetDoes old call new → IsShort old.link → IsShort new.link
net_short old (Offer unit wish answer) new h s = offers_short old unit wish answer new h.1 s
net_short old (Choose pick system answer) new h s = arrives_short old (Choose pick system answer) new h.1 s
net_short old (Inject lan system octets answer) new h s = arrives_short old (Inject lan system octets answer) new h.1 s
net_short old (NextUp answer) new h s = subst (λ (n : Net). IsShort n.link) (sym h.1.becomes) s
net_short old Tick new h s =
    let t = h.1 in
    subst (λ (n : Net). IsShort n.link) (sym t.becomes)
    (tick_all old.nodes (old.link.clock + 1) t.risen t.below t.nodes t.told t.all (chain_short _ t.ticked t.risen t.gathers.chain (bag_short old.link Tick t.ticked t.ticks s)))

rooms_low : (lans : List Lan) → AllByRecursion IsLan lans → (n : ℕ) → room_on lans n ≤ 1497
rooms_low [] all n = omega arith
rooms_low (lan ∷ lans) all zero = all.0.3
rooms_low (lan ∷ lans) all (suc n) = rooms_low lans all.1 n

-- ---- what holds of a network in each state of a run

record Writes (net : Net) : Type 0 where
  octets : StandsInOctets net
  short : IsShort net.link

writes_on : Serves is_nsap link_of_net NetDoes Writes
writes_on = record {
  answers = record {
    answered = λ old asked w may. serves.answers.answered old asked w.octets may;
    stays = λ old call new w may step. record { octets = serves.answers.stays old call new w.octets may step; short = net_short old call new step w.short };
  };
  in_octets = λ old w. comes (link_of_net old).waiting (serves.in_octets old w.octets);
  least = λ old w. serves.least old w.octets;
}

made_writes : (setup : SetUp) (net : Net) → IsWell setup → IsInOctets setup → MakesNet setup net → Writes net
made_writes setup net well octets made = record {
  octets = begins_serving setup.lans setup.ports _ setup.life net (may_begin setup well octets)
      (subst (λ (nodes : List (Node Rows)). Begins link_of BagStep rows_tables (new_bag setup.lans setup.ports) nodes setup.life net) (sym (nodes_are setup 0 setup.systems)) made);
  short = subst (λ (n : Net). IsShort n.link) (sym made.becomes)
      (tick_all (nodes_of setup) 0 (new_bag setup.lans setup.ports) made.below made.after made.told made.all (record { rooms = rooms_low setup.lans well.lans; frames = tt }));
}

abbrev WorldWrites : World → Type 0
WorldWrites (SettingUp setup) = Unit {0}
WorldWrites (Running run) = IsReady is_nsap link_of_net Writes run.ends

starts_writing : (setup : SetUp) (made : List Event) (new : World) → IsWell setup → IsInOctets setup → StartsUp setup made new → WorldWrites new
starts_writing setup made new well octets starts =
    let h = started setup made new starts in
    let some : HasStart is_nsap link_of_net NetDoes Writes h.0 (entities_of setup) =
    some_begin link_of_net NetDoes net_law is_nsap Writes writes_on wire h.0 (entities_of setup) (made_writes setup h.0 well octets h.2)
    (entities_ready setup (link_of_net h.0).clock well (titles_own (titles_said setup) well.titles octets.titles)) in
    let same : h.1 ≡ some.new = (one_begin link_of_net NetDoes net_laws.one_answer h.0 (entities_of setup) made some.made h.1 some.new h.3 some.starts).1 in
    subst WorldWrites (sym h.4) (subst (IsReady is_nsap link_of_net Writes) (sym same) some.ready)

set_up_writes : (start : Bool) (setup : SetUp) (line : Line) (made : List Event) (new : World) → IsWell setup → IsInOctets setup → SetsUp start setup line made new → WorldWrites new
set_up_writes true setup line made new well octets h = starts_writing setup made new well octets h
set_up_writes false setup line made new well octets h = subst WorldWrites (sym h.1) tt

line_writes : (names declared : Declared) (old : World) (count : ℕ) (octets : List ℕ) (line : Line) (made : List Event) (new : World) → world_keeping.agrees names old count → count < most_lines
    → line_read names octets ≡ Ok (record { line = line; names = declared }) → WorldStep old line made new → WorldWrites old → WorldWrites new
line_writes names declared (SettingUp setup) count octets line made new agrees few is step w = set_up_writes (is_start line) setup line made new agrees.2 agrees.3 step.1
line_writes names declared (Running run) count octets line made new agrees few is step w =
    let may : CanRun is_nsap run.titles link_of_net run.ends line = (world_laws.read_runs names declared (Running run) count octets line agrees few is).1 in
    let on = ran_line run.titles run.timers run.ends line made new step in
    let has : HasRun is_nsap link_of_net NetDoes Writes wire run.titles run.ends line = some_line link_of_net NetDoes net_law is_nsap Writes writes_on wire run.titles run.ends line w may in
    let same : on.0 ≡ has.new = (one_line link_of_net NetDoes net_laws.one_answer wire run.titles run.ends line made has.made on.0 has.new on.1 has.runs).1 in
    subst WorldWrites (sym on.2) (subst (IsReady is_nsap link_of_net Writes) (sym same) has.ready)

-- ---- what is written

frame_long : (to from pdu : List ℕ) → length to ≡ 6 → length from ≡ 6 → length pdu ≤ 1497 → length (whole_frame to from pdu) ≤ 65535
frame_long (a ∷ b ∷ c ∷ d ∷ e ∷ f ∷ []) (g ∷ h ∷ i ∷ j ∷ k ∷ l ∷ []) pdu six other low = omega (arith, low)
frame_long to from pdu six other low = absurd (omega arith)

slot_fits : (now : ℕ) (slot : Option Frame) → now ≤ 4000000000 → IsKept now slot → FitsKept slot → AllByRecursion IsWritable (sent_of slot)
slot_fits now None low k f = tt
slot_fits now (Some frame) low k f = ((omega (arith, k.0, low), frame_long frame.unit.to.snpa frame.unit.from.snpa frame.unit.octets f.to.six f.from.six k.1), tt)

sent_fits : (now : ℕ) (slots : List (Option Frame)) → now ≤ 4000000000 → AreKept now slots → AllByRecursion FitsKept slots → AllByRecursion IsWritable (sent_in slots)
sent_fits now [] low k f = tt
sent_fits now (slot ∷ slots) low k f = all_both IsWritable (sent_of slot) (sent_in slots) (slot_fits now slot low k.0 f.0) (sent_fits now slots low k.1 f.1)

new_fits : (old new : World) → WorldWrites new → AllByRecursion IsWritable (sent_in (new_slots old new))
new_fits old (SettingUp setup) w = none (length (slots_of old))
  where
    none : (n : ℕ) → AllByRecursion IsWritable (sent_in (drop n []))
    none zero = tt
    none (suc n) = tt
new_fits old (Running run) w =
    let net : Net = run.ends.carrier in
    let n : ℕ = length (slots_of old) in
    sent_fits net.link.clock (drop n net.link.frames) w.carrier.octets.stands.sound.steady.low (all_drop (IsKept net.link.clock) n net.link.frames w.carrier.short.frames)
    (all_drop FitsKept n net.link.frames w.carrier.octets.stands.link.frames)

first_fits : (most : ℕ) (old new : World) → WorldWrites new → AllByRecursion IsWritable (sent_in (take most (new_slots old new)))
first_fits most old (SettingUp setup) w = none (length (slots_of old)) most
  where
    none : (n m : ℕ) → AllByRecursion IsWritable (sent_in (take m (drop n [])))
    none zero zero = tt
    none zero (suc m) = tt
    none (suc n) zero = tt
    none (suc n) (suc m) = tt
first_fits most old (Running run) w =
    let net : Net = run.ends.carrier in
    let n : ℕ = length (slots_of old) in
    sent_fits net.link.clock (take most (drop n net.link.frames)) w.carrier.octets.stands.sound.steady.low
    (all_take (IsKept net.link.clock) most (drop n net.link.frames) (all_drop (IsKept net.link.clock) n net.link.frames w.carrier.short.frames))
    (all_take FitsKept most (drop n net.link.frames) (all_drop FitsKept n net.link.frames w.carrier.octets.stands.link.frames))

-- ---- each line has a course

record Stands (bench : Bench) : Type 0 where
  agrees : world_keeping.agrees bench.names bench.world bench.lines
  writes : WorldWrites bench.world

runs_writing : (old new : Bench) (octets : List ℕ) (made : List Event) → Stands old → old.lines < most_lines → RunsText old octets made new → WorldWrites new.world
runs_writing old new octets made s few h = line_writes old.names new.names old.world old.lines octets h.line made new.world s.agrees few h.meaning h.steps s.writes

-- a line that was read has its step, and the journal has room for its events, or the line fills it
read_course : (bench : Bench) (octets : List ℕ) (line : Line) (names : Declared) → Stands bench → bench.lines < most_lines → line_read bench.names octets ≡ Ok (record { line = line; names = names })
    → HasCourse frames_meaning bench octets
read_course bench octets line names s few is =
    let h : HasStep world_acts bench.world line = world_laws.some_step bench.names names bench.world bench.lines octets line s.agrees few is in
    let writes : WorldWrites h.new = line_writes bench.names names bench.world bench.lines octets line h.made h.new s.agrees few is h.steps s.writes in
    elim (cases_lt most_events (bench.events + length h.made)) [
      | inl over ↦
          let made : List Event = take (most_events - bench.events) h.made in
          inr (inr (
            sent_in (take (count_by is_frame made) (new_slots bench.world h.new)),
            record { names = names; world = h.new; lines = bench.lines + 1; events = most_events },
            record {
              made = made;
              fills = record { line = line; whole = h.made; meaning = is; steps = h.steps; lines = refl; over = over; made_is = refl; events = refl };
              frames_are = record { are = refl; fit = first_fits (count_by is_frame made) bench.world h.new writes };
            },
          ))
      | inr room ↦ inl (
        sent_in (new_slots bench.world h.new),
        record { names = names; world = h.new; lines = bench.lines + 1; events = bench.events + length h.made },
        record {
          made = h.made;
          runs = record { line = line; meaning = is; steps = h.steps; lines = refl; events = refl; room = room };
          frames_are = record { are = refl; fit = new_fits bench.world h.new writes };
        },
      )
    ]

course_by : (bench : Bench) (octets : List ℕ) (read : Result Reading LineFault) → Stands bench → bench.lines < most_lines → line_read bench.names octets ≡ read → HasCourse frames_meaning bench octets
course_by bench octets (Err found) s few is = inr (inl (found, is))
course_by bench octets (Ok reading) s few is = read_course bench octets reading.line reading.names s few is

course : (bench : Bench) (octets : List ℕ) → Stands bench → bench.lines < most_lines → HasCourse frames_meaning bench octets
course bench octets s few = course_by bench octets (line_read bench.names octets) s few refl

stays : (old : Bench) (octets : List ℕ) (frames : List SentFrame) (new : Bench) → Stands old → old.lines < most_lines → MakesFrames old octets frames new → Stands new
stays old octets frames new s few h = record {
  agrees = subst (λ (n : ℕ). world_keeping.agrees new.names new.world n) (sym h.runs.lines)
      (world_laws.read_agrees old.names new.names old.world old.lines octets h.runs.line h.made new.world s.agrees few h.runs.meaning h.runs.steps);
  writes = runs_writing old new octets h.made s few h.runs;
}

pub some_capture : (all : List ℕ) → AsksSomeCapture all
some_capture all =
    let asks : AsksSomething frames_meaning first_bench all =
    asks_something frames_meaning frames_laws Stands course stays first_bench refl all (record { agrees = world_laws.begins; writes = tt }) in
    record {
      text = header_octets ++ asks.text;
      status = asks.status;
      asked = (asks.asked.0, record { records = asks.text; asks = asks.asked.1; capture_is = refl });
    }
