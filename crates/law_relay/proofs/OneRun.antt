-- A line of a network with relays has one run, where its network answers in one way: each call of a pump has one outcome, and so has a turn.
use Rattle.std.proofs.Common.{◌≡◌, ℕ, ◌+◌, ◌&&◌, Bool, true, false, List, [], ◌++◌, sym, ◌∙◌, ap, subst}
use Rattle.std.specs.Prelude.{nat_lt}
use Rattle.std.proofs.lemmas.Bool.{false≢true}
use Rattle.osi_base.specs.Link.{Link}
use Rattle.osi_base.specs.Calls.{Call}
use Rattle.law_carrier_answers.specs.Answers.{OneStep}
use Rattle.law_carrier_answers.proofs.Gatherings.{one_gathering}
use Rattle.script_journal.specs.declared.event.Event.{Event}
use Rattle.script_lines.specs.declared.line.Line.{Line}
use Rattle.script_lines.specs.declared.line.Line.TheVariants as lines
use Rattle.tpdu.specs.Writing.{is_summed}
use Rattle.tpdu.proofs.Spellings.{one_spelling}
use Rattle.tp4_number.specs.Number.{wire}
use Rattle.tp4_conn.specs.declared.call.UserCall.{UserCall}
use Rattle.tp4_conn.specs.declared.call.UserCall.TheVariants as asks
use Rattle.tp4_relay.specs.Kept.{Kept}
use Rattle.tp4_relay.specs.Pump.{PumpStep}
use Rattle.tp4_world.proofs.OneRun.{OneWriting, one_connect}
use Rattle.tp4_world.specs.Run.{Calls, RunsLine, Settles}
use Rattle.tp4_world.specs.World.{World}
use Rattle.law_setup.proofs.OneLine.{one_line}
use Rattle.law_relay.specs.Asked.{is_relayed}
use Rattle.law_relay.specs.Relays.{Answers, Asking, Idle, LastTurn, OneTurn, Part, PumpsAfter, RelayRun, RunsPart, RunsRelays, Settling, Turns, is_more, part_of}
use Rattle.law_relay.specs.Services.{AsksEnd, AsksFor, is_done}
use Rattle.law_relay.proofs.OnePump.{OneAnswer, one_pump}

-- ---- a call on an end, as a line

abbrev pub call_line : ℕ → UserCall → Line
call_line end (asks.Accept options octets) = lines.Accept end options octets
call_line end (asks.Refuse octets) = lines.Refuse end octets
call_line end (asks.Normal octets) = lines.Data end octets
call_line end (asks.Urgent octets) = lines.Expedite end octets
call_line end (asks.Window credit) = lines.Window end credit
call_line end (asks.Disconnect octets) = lines.Disconnect end octets

-- what is written for a TPDU is one list of octets
written : OneWriting
written = λ format sum tpdu. one_spelling format (is_summed sum tpdu) tpdu

module _ {C : Type 0} (link : C → Link (List ℕ)) (steps : C → Call (List ℕ) → C → Type 0) where
  pub call_runs : (titles : List (List ℕ)) (old : World C) (end : ℕ) (call : UserCall) (made : List Event) (new : World C) → Calls link steps wire old end call made new
      → RunsLine link steps wire titles old (call_line end call) made new
  call_runs titles old end (asks.Accept options octets) made new h = h
  call_runs titles old end other made new h = h

module _ {C : Type 0} (link : C → Link (List ℕ)) (steps : C → Call (List ℕ) → C → Type 0) (once : OneStep steps) where
  -- ---- a pump

  pub one_answers : OneAnswer (AsksFor link steps) (AsksEnd link steps)
  one_answers = record {
    connect = λ old system request done again made other new next a b.
        (let s = one_connect link steps once (one_gathering link steps once) written old system request made other new next a.connects b.connects in
        record { done_is = a.done_is ∙ ap is_done s.events ∙ sym b.done_is; made_is = s.events; new_is = s.state });
    call = λ old end call done again made other new next a b.
        (let s = one_line link steps once wire [] old (call_line end call) made other new next (call_runs link steps [] old end call made new a.calls) (call_runs link steps [] old end call other next b.calls) in
        record { done_is = a.done_is ∙ ap is_done s.0 ∙ sym b.done_is; made_is = s.0; new_is = s.1 });
  }

  record SameRun (pumped : Bool) (here made : List Event) (new : World C) (last : Kept) (again : Bool) (first other : List Event) (next : World C) (after : Kept) : Type 0 where
    pumped_is : pumped ≡ again
    here_is : here ≡ first
    made_is : made ≡ other
    new_is : new ≡ next
    last_is : last ≡ after

  one_after : (Happens : World C → List Event → World C → Type 0) → ((old : World C) (made other : List Event) (new next : World C) → Happens old made new → Happens old other next → (made ≡ other) × (new ≡ next))
      → (old : World C) (kept : Kept) (pumped again : Bool) (here first made other : List Event) (new next : World C) (last after : Kept) → PumpsAfter link steps Happens old kept pumped here made new last
      → PumpsAfter link steps Happens old kept again first other next after → SameRun pumped here made new last again first other next after
  one_after Happens one old kept pumped again here first made other new next last after a b =
      let h = one old here first a.mid b.mid a.happens b.happens in
      let there = subst (λ (m : World C). PumpStep (AsksFor link steps) (AsksEnd link steps) m kept here again b.rest next after) (sym h.1)
      (subst (λ (es : List Event). PumpStep (AsksFor link steps) (AsksEnd link steps) b.mid kept es again b.rest next after) (sym h.0) b.pumps) in
      let p = one_pump (AsksFor link steps) (AsksEnd link steps) one_answers a.mid kept here pumped again a.rest b.rest new next last after a.pumps there in
      record {
        pumped_is = p.0.done_is;
        here_is = h.0;
        made_is = a.made_is ∙ ap (λ (es : List Event). es ++ a.rest) h.0 ∙ ap (λ (es : List Event). first ++ es) p.0.made_is ∙ sym b.made_is;
        new_is = p.0.new_is;
        last_is = p.1;
      }

  one_settle : (old : World C) (made other : List Event) (new next : World C) → Settles link steps wire 0 old made new → Settles link steps wire 0 old other next → (made ≡ other) × (new ≡ next)
  one_settle old made other new next a b = one_line link steps once wire [] old lines.Settle made other new next a b

  record SameTurns (made : List Event) (new : World C) (last : Kept) (other : List Event) (next : World C) (after : Kept) : Type 0 where
    made_is : made ≡ other
    new_is : new ≡ next
    last_is : last ≡ after

  same_more : (count : ℕ) (pumped again : Bool) (settled first : List Event) → pumped ≡ again → settled ≡ first → (is_more pumped settled && nat_lt (count + 1) 64) ≡ (is_more again first && nat_lt (count + 1) 64)
  same_more count pumped again settled first p s = λ i. (is_more (p i) (s i) && nat_lt (count + 1) 64)

  one_turns : (count : ℕ) (old : World C) (kept : Kept) (made other : List Event) (new next : World C) (last after : Kept) → Turns link steps count old kept made new last → Turns link steps count old kept other next after
      → SameTurns made new last other next after
  one_turns count old kept made other new next last after (LastTurn c o k m n l pumped settled a ends) (LastTurn d p q r s t again first b stops) =
      let h = one_after (Settles link steps wire 0) one_settle old kept pumped again settled first made other new next last after a b in
      record { made_is = h.made_is; new_is = h.new_is; last_is = h.last_is }
  one_turns count old kept made other new next last after (LastTurn c o k m n l pumped settled a ends) (OneTurn d p q r s t again first mid middle here rest b goes others is) =
      absurd (let h = one_after (Settles link steps wire 0) one_settle old kept pumped again settled first made here new mid last middle a b in
      false≢true (sym ends ∙ same_more count pumped again settled first h.pumped_is h.here_is ∙ goes))
  one_turns count old kept made other new next last after (OneTurn c o k m n l pumped settled mid middle here rest a goes others is) (LastTurn d p q r s t again first b stops) =
      absurd (let h = one_after (Settles link steps wire 0) one_settle old kept pumped again settled first here other mid next middle after a b in
      false≢true (sym stops ∙ sym (same_more count pumped again settled first h.pumped_is h.here_is) ∙ goes))
  one_turns count old kept made other new next last after (OneTurn c o k m n l pumped settled mid middle here rest a goes others is) (OneTurn d p q r s t again first center between there back b on more also) =
      let h = one_after (Settles link steps wire 0) one_settle old kept pumped again settled first here there mid center middle between a b in
      let moved = subst (λ (w : World C). Turns link steps (count + 1) w middle back next after) (sym h.new_is) (subst (λ (x : Kept). Turns link steps (count + 1) center x back next after) (sym h.last_is) more) in
      let t = one_turns (count + 1) mid middle rest back new next last after others moved in
      record { made_is = is ∙ ap (λ (es : List Event). es ++ rest) h.made_is ∙ ap (λ (es : List Event). there ++ es) t.made_is ∙ sym also; new_is = t.new_is; last_is = t.last_is }

  -- ---- a line

  one_answered : (relayed : Bool) (titles : List (List ℕ)) (line : Line) (old : World C) (made other : List Event) (new next : World C) → Answers link steps relayed titles line old made new → Answers link steps relayed titles line old other next
      → (made ≡ other) × (new ≡ next)
  one_answered true titles line old made other new next a b = (a.0 ∙ sym b.0, a.1 ∙ sym b.1)
  one_answered false titles line old made other new next a b = one_line link steps once wire titles old line made other new next a b

  one_part : (part : Part) (old : RelayRun C) (line : Line) (made other : List Event) (new next : World C) (last after : Kept) → RunsPart link steps part old line made new last → RunsPart link steps part old line other next after
      → SameTurns made new last other next after
  one_part Idle old line made other new next last after a b = record { made_is = a.0 ∙ sym b.0; new_is = a.1 ∙ sym b.1; last_is = a.2 ∙ sym b.2 }
  one_part Settling old line made other new next last after a b = one_turns 0 old.ends old.relay made other new next last after a b
  one_part Asking old line made other new next last after a b =
      let h = one_after (Answers link steps (is_relayed old.relay line) old.titles line) (one_answered (is_relayed old.relay line) old.titles line) old.ends old.relay a.0 b.0 a.1 b.1 made other new next last after a.2 b.2 in
      record { made_is = h.made_is; new_is = h.new_is; last_is = h.last_is }

  pub one_relays : (line : Line) (old : RelayRun C) (made other : List Event) (new last : RelayRun C) → RunsRelays link steps old line made new → RunsRelays link steps old line other last → (made ≡ other) × (new ≡ last)
  one_relays line old made other new last a b =
      let s = one_part (part_of line) old line made other a.0 b.0 a.1 b.1 a.2 b.2 in
      (s.made_is, a.3 ∙ (λ i. record { titles = old.titles; ends = s.new_is i; relay = s.last_is i }) ∙ sym b.3)
