-- What a pump tells is told: each of its calls is in octets, and a note of two ends that it joined names ends that were made. So each line is told, with the
-- pumps that follow.
use Rattle.std.proofs.Common.{◌≡◌, ◌⊎◌, inl, inr, ◌<◌, ◌≤◌, ◌^◌, ◌∙◌, ℕ, ◌+◌, ◌&&◌, Bool, true, false, nat_lt, List, [], ◌∷◌, ◌++◌, length, Option, Some, None, refl, sym, ap, subst, arith, length-append}
use Rattle.std.specs.Prelude.{slice_get}
use Rattle.std.specs.List.{AllByRecursion}
use Rattle.osi_base.specs.Link.{Link}
use Rattle.osi_base.specs.Calls.{Call, Keeps}
use Rattle.law_carrier_answers.specs.Answers.{OneStep}
use Rattle.law_clnp_net.specs.Standing.{is_nsap}
use Rattle.script_lines.specs.Commands.{HasLine}
use Rattle.script_lines.specs.Tags.{Tags}
use Rattle.script_lines.specs.declared.words.Dialect.TheVariants as dialects
use Rattle.script_lines.specs.declared.line.Line.{Line}
use Rattle.script_lines.specs.declared.line.Line.TheVariants as lines
use Rattle.script_journal.specs.declared.cause.Refused.TheVariants as refused
use Rattle.script_journal.specs.declared.event.Event.{Event}
use Rattle.script_journal.specs.declared.event.Event.TheVariants as events
use Rattle.script_journal.specs.declared.event.Request.{Request}
use Rattle.script_setup.proofs.Elements.{at}
use Rattle.tp4_conn.specs.declared.call.ConnectRequest.{ConnectRequest}
use Rattle.tp4_conn.specs.declared.call.UserCall.{UserCall}
use Rattle.tp4_conn.specs.declared.call.UserCall.TheVariants as asks
use Rattle.tp4_conn.specs.declared.timers.Timers.{Timers}
use Rattle.tp4_number.specs.Number.{wire}
use Rattle.tp4_relay.specs.declared.pair.Heading.{Heading}
use Rattle.tp4_relay.specs.declared.pair.Heading.TheVariants.{On, Back}
use Rattle.tp4_relay.specs.declared.pair.Pair.{Pair}
use Rattle.tp4_relay.specs.declared.reaction.Reaction.{Reaction}
use Rattle.tp4_relay.specs.declared.reaction.Reaction.TheVariants.{Nothing, Begin, Ask}
use Rattle.tp4_relay.specs.declared.unit.MarkedUnit.{MarkedUnit}
use Rattle.tp4_relay.specs.Kept.{Kept, kept_after, noted}
use Rattle.tp4_relay.specs.Pairs.{is_open, open_places}
use Rattle.tp4_relay.specs.Pump.{BalancesBy, BeginsBy, Does, Parts, PumpStep, Reacts, ServesEach, ServesIf, ServesOpen, ServesPair, SetsCredit, Submits, credit_now, far_end, near_end, unit_call, way_of}
use Rattle.tp4_relay.specs.Reaction.{reaction}
use Rattle.tp4_world.specs.Run.{Settles}
use Rattle.tp4_world.specs.Total.{CanRun}
use Rattle.tp4_world.specs.World.{World}
use Rattle.law_relay.specs.Asked.{is_relayed}
use Rattle.law_relay.specs.Relays.{Answers, Asking, Idle, LastTurn, OneTurn, Part, PumpsAfter, RelayRun, RunsPart, Settling, Turns}
use Rattle.law_relay.specs.Services.{AsksEnd, AsksFor}
use Rattle.law_relay.proofs.Answering.{MayCall, PairInOctets, UnitInOctets, after_pairs, credit_low, unit_may, way_octets}
use Rattle.law_relay.proofs.OctetSteps.{TellsOctets}
use Rattle.law_relay.proofs.Playing.{Plays}
use Rattle.law_relay.proofs.Running.{Leaves, answer_leaves, pumped, settles}
use Rattle.law_told.proofs.Carriers.{Tells}
use Rattle.law_told.proofs.Events.{EachFrom, IsToldEvent, each_both, refusal_told}
use Rattle.law_told.proofs.Worlds.{NamesSystems, later}
use Rattle.law_told_relays.proofs.Asking.{IsHeard, IsRequest, MayReact, heard_later, line_heard, reaction_may}
use Rattle.law_told_relays.proofs.Lines.{Done, IsRunning, LineDone, So, both_done, call_done, line_done, nothing_done, request_done, told_so}

module _ {C : Type 0} (tags : Tags) (link : C → Link (List ℕ)) (steps : C → Call (List ℕ) → C → Type 0) (keeps : (old : C) (call : Call (List ℕ)) (new : C) → steps old call new → Keeps (link old) call (link new))
    (StandsSo : C → Type 0) (tells : Tells tags is_nsap link steps StandsSo) (once : OneStep steps) (titles : List (List ℕ)) where
  abbrev connects : World C → ℕ → ConnectRequest → Bool → List Event → World C → Type 0
  connects = AsksFor link steps

  abbrev calls : World C → ℕ → UserCall → Bool → List Event → World C → Type 0
  calls = AsksEnd link steps

  abbrev IsSo : ℕ → World C → Kept → Type 0
  IsSo n world kept = So tags link steps keeps StandsSo tells once titles n world kept

  abbrev IsDone : ℕ → Kept → List Event → World C → Type 0
  IsDone n kept made new = Done tags link steps keeps StandsSo tells once titles n kept made new

  abbrev IsLineDone : ℕ → List Event → World C → Type 0
  IsLineDone n made new = LineDone tags link steps keeps StandsSo tells once titles n made new

  abbrev both : (n : ℕ) (kept : Kept) (mid new : World C) (here rest made : List Event) → IsDone n kept here mid → (IsSo (n + length here) mid (kept_after kept here) → IsDone (n + length here) (kept_after kept here) rest new)
      → made ≡ here ++ rest → IsDone n kept made new
  both = both_done tags link steps keeps StandsSo tells once titles

  abbrev nothing : (n : ℕ) (kept : Kept) (old new : World C) (made : List Event) → IsSo n old kept → made ≡ [] → new ≡ old → IsDone n kept made new
  nothing = nothing_done tags link steps keeps StandsSo tells once titles

  abbrev called : (n : ℕ) (kept : Kept) (old new : World C) (end : ℕ) (call : UserCall) (done : Bool) (made : List Event) → IsSo n old kept → MayCall call → calls old end call done made new → IsDone n kept made new
  called = call_done tags link steps keeps StandsSo tells once titles

  -- another event, at the same state of the network
  noted_done : (n : ℕ) (kept : Kept) (world : World C) (event : Event) → IsSo n world kept → (n < 4294967296 → IsToldEvent tags event) → AllByRecursion TellsOctets (event ∷ []) → IsDone n kept (event ∷ []) world
  noted_done n kept world event h told octets = record {
    events = (told, tt);
    so = told_so tags link steps keeps StandsSo tells once titles n kept (event ∷ []) world h.credit h.leads h.rows h.pairs (record {
      events = (told, tt);
      run = record { so = later tags is_nsap link steps keeps StandsSo tells wire n 1 world h.run.so; ends = h.run.ends };
      holds = h.holds;
      octets = octets;
    });
  }

  -- ---- about an event

  made_low : (n : ℕ) (made rest : List Event) (asked : Request) → made ≡ events.Connect asked ∷ rest → EachFrom tags n made → n < 4294967296 → asked.end < 2 ^ 64
  made_low n made rest asked is all few = let here : EachFrom tags n (events.Connect asked ∷ rest) = subst (EachFrom tags n) is all in (here.0 few).1.0

  begins_done : (n : ℕ) (old new : World C) (kept : Kept) (inbound system : ℕ) (request : ConnectRequest) (taken done : Bool) (made : List Event) → IsSo n old kept → IsRequest titles n inbound system request
      → BeginsBy connects calls old inbound system request taken done made new → IsDone n kept made new
  begins_done n old new kept inbound system request true done made h is b =
      let told : List Event = b.0 in
      let asked : Request = b.1 in
      let first = request_done tags link steps keeps StandsSo tells once titles n inbound kept old new system request true told h is b.3 in
      let low = is.low in
      both n kept new new told (events.Joined inbound asked.end ∷ []) made first
      (λ so. noted_done (n + length told) (kept_after kept told) new (events.Joined inbound asked.end) so
      (λ few. (let end_low = made_low n told b.2 asked b.4 first.events (omega (arith, few)) in (refl, (omega (arith, low, few), (end_low, tt))))) (tt, tt)) b.5
  begins_done n old new kept inbound system request false done made h is b =
      let first = request_done tags link steps keeps StandsSo tells once titles n inbound kept old b.0 system request false b.1 h is b.3 in
      both n kept b.0 new b.1 b.2 made first (λ so. called (n + length b.1) (kept_after kept b.1) b.0 new inbound (asks.Refuse []) done b.2 so tt b.4) b.5

  does_done : (n : ℕ) (old new : World C) (kept : Kept) (to_do : Reaction) (done : Bool) (made : List Event) → IsSo n old kept → MayReact titles n to_do → Does connects calls old to_do done made new → IsDone n kept made new
  does_done n old new kept Nothing done made h may d = nothing n kept old new made h d.1 d.2
  does_done n old new kept (Begin inbound system request) done made h may d = begins_done n old new kept inbound system request d.0 done made h may d.1
  does_done n old new kept (Ask end call) done made h may d = called n kept old new end call done made h may d

  -- what was told, and what is kept then
  record Went (n : ℕ) (made : List Event) (new : World C) (last : Kept) : Type 0 where
    events : EachFrom tags n made
    so : IsSo (n + length made) new last

  went_by : (n : ℕ) (made : List Event) (new : World C) (kept last : Kept) → last ≡ kept_after kept made → IsDone n kept made new → Went n made new last
  went_by n made new kept last is d = record { events = d.events; so = subst (IsSo (n + length made) new) (sym is) d.so }

  went_both : (n : ℕ) (here rest made : List Event) (new : World C) (last : Kept) → EachFrom tags n here → Went (n + length here) rest new last → made ≡ here ++ rest → Went n made new last
  went_both n here rest made new last one two is =
      let long = length-append here rest in
      let count : n + length here + length rest ≡ n + length (here ++ rest) = omega (arith, long) in
      subst (λ (m : List Event). Went n m new last) (sym is) (record { events = each_both tags n here rest one two.events; so = subst (λ (k : ℕ). IsSo k new last) count two.so })

  went_nothing : (n : ℕ) (made : List Event) (old new : World C) (kept last : Kept) → IsSo n old kept → made ≡ [] → new ≡ old → last ≡ kept → Went n made new last
  went_nothing n made old new kept last h none same is =
      let d = nothing n kept old new made h none same in
      went_by n made new kept last (is ∙ sym (ap (kept_after kept) none)) d

  reacts_done : (line : List Event) (n : ℕ) (old new : World C) (kept last : Kept) (done : Bool) (made : List Event) → IsSo n old kept → AllByRecursion (IsHeard n) line → Reacts connects calls old kept line done made new last
      → Went n made new last
  reacts_done [] n old new kept last done made h heard r = went_nothing n made old new kept last h r.1 r.2 r.3
  reacts_done (event ∷ line) n old new kept last done made h heard r =
      let next : Kept = noted kept event in
      let on : IsSo n old next = record { run = h.run; holds = h.holds; credit = h.credit; leads = h.leads; rows = h.rows; pairs = after_pairs kept (event ∷ []) (heard.0.readable.0, tt) h.pairs } in
      let one = does_done n old r.0 next (reaction kept event) r.1 r.3 on (reaction_may titles n kept event heard.0 h.leads h.rows) r.5 in
      let rest = reacts_done line (n + length r.3) r.0 new (kept_after next r.3) last r.2 r.4 one.so (heard_later n (n + length r.3) line (omega arith) heard.1) r.6 in
      went_both n r.3 r.4 made new last one.events rest r.8

  -- ---- for an open pair

  submits_done : (units : List MarkedUnit) (n : ℕ) (old new : World C) (kept : Kept) (end : ℕ) (done : Bool) (made : List Event) (left : List MarkedUnit) → IsSo n old kept → AllByRecursion UnitInOctets units
      → Submits connects calls old end units done made new left → IsDone n kept made new
  submits_done [] n old new kept end done made left h octets s = nothing n kept old new made h s.1 s.2
  submits_done (unit ∷ units) n old new kept end done made left h octets (inl s) = called n kept old new end (unit_call unit) false made h (unit_may unit octets.0) s.0
  submits_done (unit ∷ units) n old new kept end done made left h octets (inr s) =
      both n kept s.0 new s.2 s.3 made (called n kept old s.0 end (unit_call unit) true s.2 h (unit_may unit octets.0) s.4)
      (λ so. submits_done units (n + length s.2) s.0 new (kept_after kept s.2) end s.1 s.3 left so octets.1 s.5) s.7

  parts_done : (n : ℕ) (old new : World C) (kept : Kept) (pair : Pair) (done : Bool) (made : List Event) → IsSo n old kept → Parts connects calls old pair done made new → IsDone n kept made new
  parts_done n old new kept pair done made h p =
      both n kept p.0 new p.3 p.4 made (called n kept old p.0 pair.inbound (asks.Disconnect []) p.1 p.3 h tt p.5)
      (λ so. called (n + length p.3) (kept_after kept p.3) p.0 new pair.outbound (asks.Disconnect []) p.2 p.4 so tt p.6) p.8

  credit_done : (n : ℕ) (old new : World C) (kept : Kept) (end : ℕ) (credit : Option ℕ) (done : Bool) (made : List Event) → IsSo n old kept → ((k : ℕ) → credit ≡ Some k → k ≤ 255)
      → SetsCredit connects calls old end credit done made new → IsDone n kept made new
  credit_done n old new kept end None done made h low s = nothing n kept old new made h s.1 s.2
  credit_done n old new kept end (Some credit) done made h low s = called n kept old new end (asks.Window credit) done made h (low credit refl) s

  balance_done : (many : Bool) (n : ℕ) (old new : World C) (kept : Kept) (rules : Timers) (heading : Heading) (pair : Pair) (left : List MarkedUnit) (done : Bool) (made : List Event) → IsSo n old kept → rules.credit ≤ 255
      → BalancesBy connects calls many old rules heading pair left done made new → IsDone n kept made new
  balance_done true n old new kept rules heading pair left done made h low b = parts_done n old new kept pair done made h b
  balance_done false n old new kept rules heading pair left done made h low b =
      credit_done n old new kept (near_end heading pair) (credit_now rules.credit (way_of heading pair).lowered left) done made h (λ k is. credit_low rules (way_of heading pair).lowered left k low is) b

  open_done : (opens : Bool) (n : ℕ) (old new : World C) (kept : Kept) (rules : Timers) (heading : Heading) (pair : Pair) (done : Bool) (made : List Event) → IsSo n old kept → rules.credit ≤ 255 → PairInOctets pair
      → ServesOpen connects calls opens old rules heading pair done made new → IsDone n kept made new
  open_done false n old new kept rules heading pair done made h low is s = nothing n kept old new made h s.1 s.2
  open_done true n old new kept rules heading pair done made h low is s =
      both n kept s.mid new s.here s.rest made (submits_done (way_of heading pair).waiting n old s.mid kept (far_end heading pair) s.one s.here s.left h (way_octets heading pair is) s.submits)
      (λ so. balance_done (nat_lt 300 (length s.left)) (n + length s.here) s.mid new (kept_after kept s.here) rules heading pair s.left s.other s.rest so low s.balances) s.made_is

  way_done : (found : Option Pair) (n : ℕ) (old new : World C) (kept : Kept) (place : ℕ) (heading : Heading) (done : Bool) (made : List Event) → slice_get kept.pairs place ≡ found → IsSo n old kept
      → ServesIf connects calls old kept.rules heading found done made new → IsDone n kept made new
  way_done None n old new kept place heading done made is h s = nothing n kept old new made h s.1 s.2
  way_done (Some pair) n old new kept place heading done made is h s =
      open_done (is_open pair.phase) n old new kept kept.rules heading pair done made h h.credit (at PairInOctets kept.pairs place pair h.pairs is) s

  pair_done : (n : ℕ) (old new : World C) (kept : Kept) (place : ℕ) (done : Bool) (made : List Event) → IsSo n old kept → ServesPair connects calls old kept place done made new → IsDone n kept made new
  pair_done n old new kept place done made h s =
      both n kept s.mid new s.here s.rest made (way_done (slice_get kept.pairs place) n old s.mid kept place On s.one s.here refl h s.on)
      (λ so. way_done (slice_get (kept_after kept s.here).pairs place) (n + length s.here) s.mid new (kept_after kept s.here) place Back s.other s.rest refl so s.back) s.made_is

  each_done : (places : List ℕ) (n : ℕ) (old new : World C) (kept last : Kept) (done : Bool) (made : List Event) → IsSo n old kept → ServesEach connects calls old kept places done made new last → Went n made new last
  each_done [] n old new kept last done made h s = went_nothing n made old new kept last h s.1 s.2 s.3
  each_done (place ∷ places) n old new kept last done made h s =
      let one = pair_done n old s.0 kept place s.1 s.3 h s.5 in
      let rest = each_done places (n + length s.3) s.0 new (kept_after kept s.3) last s.2 s.4 one.so s.6 in
      went_both n s.3 s.4 made new last one.events rest s.8

  -- ---- a pump

  pump_done : (n : ℕ) (old new : World C) (kept last : Kept) (line : List Event) (done : Bool) (made : List Event) → IsSo n old kept → AllByRecursion (IsHeard n) line → PumpStep connects calls old kept line done made new last
      → Went n made new last
  pump_done n old new kept last line done made h heard p =
      let one = reacts_done line n old p.mid kept p.middle p.one p.here h heard p.reacts in
      let rest = each_done (open_places p.middle.pairs) (n + length p.here) p.mid new p.middle last p.other p.rest one.so p.serves in
      went_both n p.here p.rest made new last one.events rest p.made_is

  -- ---- a line, and the pump that follows

  after_done : (Happens : World C → List Event → World C → Type 0) (n : ℕ) (old new : World C) (kept last : Kept) (done : Bool) (here made : List Event) → IsSo n old kept
      → ((mid : World C) → Happens old here mid → IsLineDone n here mid × Leaves link steps keeps old kept here mid) → PumpsAfter link steps Happens old kept done here made new last → Went n made new last
  after_done Happens n old new kept last done here made h happened p =
      let l = happened p.mid p.happens in
      let d = l.0 in
      let on : IsSo (n + length here) p.mid kept = record { run = d.run; holds = d.holds; credit = h.credit; leads = h.leads; rows = h.rows; pairs = h.pairs } in
      let heard = line_heard (n + length here) (length p.mid.ends) kept here d.run.so.ends_few l.1.line d.octets in
      let rest = pump_done (n + length here) p.mid new kept last here done p.rest on heard p.pumps in
      went_both n here p.rest made new last d.events rest p.made_is

  settled_done : (n : ℕ) (old mid : World C) (kept : Kept) (here : List Event) → IsSo n old kept → Plays link old kept → Settles link steps wire 0 old here mid → IsLineDone n here mid × Leaves link steps keeps old kept here mid
  settled_done n old mid kept here h p s = (line_done tags link steps keeps StandsSo tells once titles n old mid lines.Settle here h.run h.holds tt tt s, settles link steps keeps old mid here kept p s)

  turns_done : (count n : ℕ) (old new : World C) (kept last : Kept) (made : List Event) → IsSo n old kept → Plays link old kept → Turns link steps count old kept made new last → Went n made new last
  turns_done count n old new kept last made h p (LastTurn c o k m l z done settled one stop) =
      after_done (Settles link steps wire 0) n old new kept last done settled made h (λ mid s. settled_done n old mid kept settled h p s) one
  turns_done count n old new kept last made h p (OneTurn c o k m l z done settled mid middle here rest one more turns is) =
      let first = after_done (Settles link steps wire 0) n old mid kept middle done settled here h (λ w s. settled_done n old w kept settled h p s) one in
      let plays = pumped link steps keeps (Settles link steps wire 0) old kept done settled here mid middle (λ w s. settles link steps keeps old w settled kept p s) p one in
      went_both n here rest made new last first.events (turns_done (count + 1) (n + length here) mid new middle last rest first.so plays.plays turns) is

  -- ---- a line

  answered_done : (relayed : Bool) (n : ℕ) (old mid : World C) (kept : Kept) (line : Line) (here : List Event) → is_relayed kept line ≡ relayed → HasLine dialects.Relay line → IsSo n old kept → Plays link old kept
      → CanRun is_nsap titles link old line → NamesSystems tags is_nsap link steps keeps StandsSo tells wire line → Answers link steps relayed titles line old here mid → IsLineDone n here mid × Leaves link steps keeps old kept here mid
  answered_done true n old mid kept line here is has h p may names s =
      let told : n < 4294967296 → IsToldEvent tags (events.No refused.Relayed) = λ few. refusal_told tags refused.Relayed in
      let one : IsLineDone n (events.No refused.Relayed ∷ []) old = record {
        events = (told, tt);
        run = record { so = later tags is_nsap link steps keeps StandsSo tells wire n 1 old h.run.so; ends = h.run.ends };
        holds = h.holds;
        octets = (tt, tt);
      } in (
        subst (λ (m : List Event). IsLineDone n m mid) (sym s.0) (subst (λ (w : World C). IsLineDone n (events.No refused.Relayed ∷ []) w) (sym s.1) one),
        answer_leaves link steps keeps true titles line old mid here kept has is s p,
      )
  answered_done false n old mid kept line here is has h p may names s =
      (line_done tags link steps keeps StandsSo tells once titles n old mid line here h.run h.holds may names s, answer_leaves link steps keeps false titles line old mid here kept has is s p)

  part_done : (part : Part) (n : ℕ) (old : RelayRun C) (line : Line) (made : List Event) (new : World C) (last : Kept) → old.titles ≡ titles → HasLine dialects.Relay line → IsSo n old.ends old.relay → Plays link old.ends old.relay
      → CanRun is_nsap titles link old.ends line → NamesSystems tags is_nsap link steps keeps StandsSo tells wire line → RunsPart link steps part old line made new last → Went n made new last
  part_done Idle n old line made new last same has h p may names s = went_nothing n made old.ends new old.relay last h s.0 s.1 s.2
  part_done Settling n old line made new last same has h p may names s = turns_done 0 n old.ends new old.relay last made h p s
  part_done Asking n old line made new last same has h p may names s =
      after_done (Answers link steps (is_relayed old.relay line) old.titles line) n old.ends new old.relay last s.0 s.1 made h
      (λ mid a. answered_done (is_relayed old.relay line) n old.ends mid old.relay line s.1 refl has h p may names
      (subst (λ (ts : List (List ℕ)). Answers link steps (is_relayed old.relay line) ts line old.ends s.1 mid) same a)) s.2

  pub record PartTold (n : ℕ) (made : List Event) (new : World C) : Type 0 where
    pub events : EachFrom tags n made
    pub run : IsRunning tags link steps keeps StandsSo tells once titles (n + length made) new

  -- so it is of every line
  pub part_told : (part : Part) (n : ℕ) (old : RelayRun C) (line : Line) (made : List Event) (new : World C) (last : Kept) → old.titles ≡ titles → HasLine dialects.Relay line
      → So tags link steps keeps StandsSo tells once titles n old.ends old.relay → Plays link old.ends old.relay
      → CanRun is_nsap titles link old.ends line → NamesSystems tags is_nsap link steps keeps StandsSo tells wire line → RunsPart link steps part old line made new last → PartTold n made new
  part_told part n old line made new last same has h p may names s = let w = part_done part n old line made new last same has h p may names s in record { events = w.events; run = w.so.run }
