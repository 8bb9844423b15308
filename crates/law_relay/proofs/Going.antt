-- Each line that a network with relays may be asked has its run: the network answers it, and so it does each call of the pumps that follow.
use Rattle.std.proofs.Common.{◌≡◌, ℕ, zero, suc, ◌+◌, ◌<◌, ◌≤◌, ◌&&◌, Bool, true, false, nat_lt, List, [], ◌∷◌, ◌++◌, length, refl, sym, ◌∙◌, ap, subst, arith}
use Rattle.std.specs.List.{AllByRecursion}
use Rattle.std.proofs.lemmas.Bool.{and_parts}
use Rattle.std.proofs.lemmas.Bool.Decides.{nat_tests}
use Rattle.osi_base.specs.Link.{Link}
use Rattle.osi_base.specs.Calls.{Call, Keeps}
use Rattle.law_clnp_net.specs.Standing.{is_nsap}
use Rattle.script_journal.specs.declared.cause.Refused.TheVariants as refused
use Rattle.script_journal.specs.declared.event.Event.{Event}
use Rattle.script_journal.specs.declared.event.Event.TheVariants as events
use Rattle.script_lines.specs.Commands.{HasLine}
use Rattle.script_lines.specs.declared.words.Dialect.TheVariants as dialects
use Rattle.script_lines.specs.declared.line.Line.{Line}
use Rattle.script_lines.specs.declared.line.Line.TheVariants as lines
use Rattle.law_setup.proofs.Moving.{line_near, settled_stays}
use Rattle.law_setup.proofs.Placing.{among}
use Rattle.script_world.specs.steps.Transported.{Serving}
use Rattle.tp4_number.specs.Number.{wire}
use Rattle.tp4_relay.specs.declared.row.RelayRow.{RelayRow}
use Rattle.tp4_relay.specs.Kept.{Kept}
use Rattle.tp4_world.proofs.Serving.{serves_on}
use Rattle.tp4_world.specs.Run.{Settles}
use Rattle.tp4_world.specs.Total.{CanRun}
use Rattle.tp4_world.specs.World.{World}
use Rattle.law_relay.specs.Asked.{is_relayed}
use Rattle.law_relay.specs.Relays.{Answers, Asking, Idle, LastTurn, OneTurn, Part, PumpsAfter, RelayRun, RunsPart, Settling, Turns, is_more}
use Rattle.law_relay.specs.Services.{has_system}
use Rattle.law_relay.proofs.Answering.{Able, IsReadable, PumpDone, able_on, line_readable, some_pump}
use Rattle.law_relay.proofs.OctetSteps.{goes}
use Rattle.law_relay.proofs.Playing.{Plays}
use Rattle.law_relay.proofs.Running.{answer_leaves, pumped, settles}

module _ {C : Type 0} (link : C → Link (List ℕ)) (steps : C → Call (List ℕ) → C → Type 0) (keeps : (old : C) (call : Call (List ℕ)) (new : C) → steps old call new → Keeps (link old) call (link new))
    (titles : List (List ℕ)) (Needs : ℕ → Type 0) where
  abbrev AbleAt : ℕ → World C → Kept → Type 0
  AbleAt tick world kept = Able link steps keeps titles tick Needs world kept

  later_able : (tick : ℕ) (world : World C) (kept : Kept) → AbleAt tick world kept → AbleAt (tick + 1) world kept
  later_able tick world kept a = record {
    ready = a.ready;
    order = a.order;
    holds = a.holds;
    clock = (let was = a.clock in omega (arith, was));
    needed = a.needed;
    has = a.has;
    credit = a.credit;
    leads = a.leads;
    rows = a.rows;
    pairs = a.pairs;
  }

  -- ---- a line before the pump

  record AnswerDone (tick : ℕ) (relayed : Bool) (line : Line) (old : World C) (kept : Kept) : Type 0 where
    made : List Event
    new : World C
    answers : Answers link steps relayed titles line old made new
    able : AbleAt (tick + 1) new kept
    readable : AllByRecursion IsReadable made

  some_answer : (tick : ℕ) (relayed : Bool) (line : Line) (old : World C) (kept : Kept) → is_relayed kept line ≡ relayed → HasLine dialects.Relay line → CanRun is_nsap titles link old line → Plays link old kept → AbleAt tick old kept
      → AnswerDone tick relayed line old kept
  some_answer tick true line old kept is has may p a =
      record { made = events.No refused.Relayed ∷ []; new = old; answers = (refl, refl); able = later_able tick old kept a; readable = ((tt, tt), tt) }
  some_answer tick false line old kept is has may p a =
      let w = goes link steps keeps is_nsap (Serving link steps) (serves_on is_nsap link steps) titles old line a.ready a.holds may in
      let l = answer_leaves link steps keeps false titles line old w.new w.made kept has is w.runs p in
      let near = line_near link steps keeps titles old line w.made w.new w.runs in
      let still : (system : ℕ) → has_system old system → has_system w.new system = λ system there. among old.entities w.new.entities system near.systems there in
      let was = a.clock in
      let now = near.clock in
      record {
        made = w.made;
        new = w.new;
        answers = w.runs;
        able = able_on link steps keeps titles (tick + 1) Needs old w.new kept (later_able tick old kept a) w.ready l.plays.order w.holds (omega (arith, was, now)) still;
        readable = line_readable (length w.new.ends) kept w.made l.line w.tells;
      }

  -- ---- turns

  record TurnDone (tick : ℕ) (old : World C) (kept : Kept) : Type 0 where
    done : Bool
    settled : List Event
    here : List Event
    mid : World C
    middle : Kept
    after : PumpsAfter link steps (Settles link steps wire 0) old kept done settled here mid middle
    able : AbleAt tick mid middle
    plays : Plays link mid middle

  some_turn : (tick : ℕ) (old : World C) (kept : Kept) → Plays link old kept → AbleAt tick old kept → TurnDone tick old kept
  some_turn tick old kept p a =
      let w = goes link steps keeps is_nsap (Serving link steps) (serves_on is_nsap link steps) titles old lines.Settle a.ready a.holds tt in
      let l = settles link steps keeps old w.new w.made kept p w.runs in
      let stays = settled_stays link steps keeps 0 old w.made w.new w.runs in
      let still : (system : ℕ) → has_system old system → has_system w.new system = λ system there. among old.entities w.new.entities system stays.systems there in
      let was = a.clock in
      let now = stays.clock in
      let able : AbleAt tick w.new kept = able_on link steps keeps titles tick Needs old w.new kept a w.ready l.plays.order w.holds (omega (arith, was, now)) still in
      let r = some_pump link steps keeps titles tick Needs w.new kept w.made (line_readable (length w.new.ends) kept w.made l.line w.tells) able in
      let after : PumpsAfter link steps (Settles link steps wire 0) old kept r.done w.made (w.made ++ r.made) r.new r.last =
      record { mid = w.new; rest = r.made; happens = w.runs; pumps = r.pumps; made_is = refl } in
      let all = pumped link steps keeps (Settles link steps wire 0) old kept r.done w.made (w.made ++ r.made) r.new r.last (λ mid s. settles link steps keeps old mid w.made kept p s) p after in
      record { done = r.done; settled = w.made; here = w.made ++ r.made; mid = r.new; middle = r.last; after = after; able = r.able; plays = all.plays }

  record TurnsDone (tick count : ℕ) (old : World C) (kept : Kept) : Type 0 where
    made : List Event
    new : World C
    last : Kept
    turns : Turns link steps count old kept made new last
    able : AbleAt tick new last

  -- another turn comes below 64 alone
  more_low : (count : ℕ) (first : Bool) → (first && nat_lt (count + 1) 64) ≡ true → count + 1 < 64
  more_low count first is = let low : nat_lt (count + 1) 64 ≡ true = (and_parts first (nat_lt (count + 1) 64) is).1 in grind (arith, nat_tests)

  next_turn : (tick count : ℕ) (old : World C) (kept : Kept) (t : TurnDone tick old kept) (more : Bool) → (is_more t.done t.settled && nat_lt (count + 1) 64) ≡ more → (count + 1 < 64 → TurnsDone tick (count + 1) t.mid t.middle)
      → TurnsDone tick count old kept
  next_turn tick count old kept t false stop rest =
      record { made = t.here; new = t.mid; last = t.middle; turns = LastTurn count old kept t.here t.mid t.middle t.done t.settled t.after stop; able = t.able }
  next_turn tick count old kept t true goes_on rest =
      let r = rest (more_low count (is_more t.done t.settled) goes_on) in
      record {
        made = t.here ++ r.made;
        new = r.new;
        last = r.last;
        turns = OneTurn count old kept (t.here ++ r.made) r.new r.last t.done t.settled t.mid t.middle t.here r.made t.after goes_on r.turns refl;
        able = r.able;
      }

  some_turns : (fuel tick count : ℕ) (old : World C) (kept : Kept) → count + fuel ≡ 63 → Plays link old kept → AbleAt tick old kept → TurnsDone tick count old kept
  some_turns zero tick count old kept sum p a =
      let t = some_turn tick old kept p a in
      next_turn tick count old kept t (is_more t.done t.settled && nat_lt (count + 1) 64) refl (λ low. absurd (omega (arith, low, sum)))
  some_turns (suc fuel) tick count old kept sum p a =
      let t = some_turn tick old kept p a in
      next_turn tick count old kept t (is_more t.done t.settled && nat_lt (count + 1) 64) refl (λ low. some_turns fuel tick (count + 1) t.mid t.middle (omega (arith, sum)) t.plays t.able)

  -- ---- a line

  pub record PartDone (tick : ℕ) (part : Part) (old : RelayRun C) (line : Line) : Type 0 where
    pub made : List Event
    pub new : World C
    pub last : Kept
    pub runs : RunsPart link steps part old line made new last
    pub able : AbleAt (tick + 1) new last

  pub some_part : (tick : ℕ) (part : Part) (old : RelayRun C) (line : Line) → old.titles ≡ titles → HasLine dialects.Relay line → CanRun is_nsap titles link old.ends line → Plays link old.ends old.relay
      → AbleAt tick old.ends old.relay → PartDone tick part old line
  some_part tick Idle old line same has may p a = record { made = []; new = old.ends; last = old.relay; runs = (refl, refl, refl); able = later_able tick old.ends old.relay a }
  some_part tick Settling old line same has may p a =
      let t = some_turns 63 tick 0 old.ends old.relay (omega arith) p a in
      record { made = t.made; new = t.new; last = t.last; runs = t.turns; able = later_able tick t.new t.last t.able }
  some_part tick Asking old line same has may p a =
      let w = some_answer tick (is_relayed old.relay line) line old.ends old.relay refl has may p a in
      let r = some_pump link steps keeps titles (tick + 1) Needs w.new old.relay w.made w.readable w.able in
      let answers : Answers link steps (is_relayed old.relay line) old.titles line old.ends w.made w.new =
      subst (λ (ts : List (List ℕ)). Answers link steps (is_relayed old.relay line) ts line old.ends w.made w.new) (sym same) w.answers in
      record {
        made = w.made ++ r.made;
        new = r.new;
        last = r.last;
        runs = (r.done, w.made, record { mid = w.new; rest = r.made; happens = answers; pumps = r.pumps; made_is = refl });
        able = r.able;
      }
