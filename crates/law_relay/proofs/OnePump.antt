-- A pump has one outcome, where each of its calls has one.
use Rattle.std.proofs.Common.{◌≡◌, ◌⊎◌, inl, inr, ℕ, ◌||◌, Bool, true, false, List, [], ◌∷◌, ◌++◌, length, Option, Some, None, refl, sym, ◌∙◌, ap, subst}
use Rattle.std.specs.Prelude.{nat_lt, slice_get}
use Rattle.script_journal.specs.declared.event.Event.{Event}
use Rattle.script_journal.specs.declared.event.Event.TheVariants as events
use Rattle.script_journal.specs.declared.event.Request.{Request}
use Rattle.tp4_conn.specs.declared.call.ConnectRequest.{ConnectRequest}
use Rattle.tp4_conn.specs.declared.call.UserCall.{UserCall}
use Rattle.tp4_conn.specs.declared.call.UserCall.TheVariants as asks
use Rattle.tp4_conn.specs.declared.timers.Timers.{Timers}
use Rattle.tp4_relay.specs.declared.pair.Heading.{Heading}
use Rattle.tp4_relay.specs.declared.pair.Heading.TheVariants.{On, Back}
use Rattle.tp4_relay.specs.declared.pair.Pair.{Pair}
use Rattle.tp4_relay.specs.declared.reaction.Reaction.{Reaction}
use Rattle.tp4_relay.specs.declared.reaction.Reaction.TheVariants.{Nothing, Begin, Ask}
use Rattle.tp4_relay.specs.declared.unit.MarkedUnit.{MarkedUnit}
use Rattle.tp4_relay.specs.Kept.{Kept, kept_after, noted}
use Rattle.tp4_relay.specs.Pairs.{is_open, open_places}
use Rattle.tp4_relay.specs.Pump.{Balances, BalancesBy, BeginsBy, Does, Parts, PumpStep, Reacts, ServesAt, ServesEach, ServesIf, ServesOpen, ServesPair, ServesWay, SetsCredit, Submits, credit_now, far_end, near_end, unit_call, way_of}
use Rattle.tp4_relay.specs.Reaction.{reaction}

module _ {S : Type 0} (connects : S → ℕ → ConnectRequest → Bool → List Event → S → Type 0) (calls : S → ℕ → UserCall → Bool → List Event → S → Type 0) where
  -- the answer, the events and the state after are the same
  pub record Same (done : Bool) (made : List Event) (new : S) (again : Bool) (other : List Event) (next : S) : Type 0 where
    pub done_is : done ≡ again
    pub made_is : made ≡ other
    pub new_is : new ≡ next

  -- each call has one outcome
  pub record OneAnswer : Type 0 where
    pub connect : (old : S) (system : ℕ) (request : ConnectRequest) (done again : Bool) (made other : List Event) (new next : S) → connects old system request done made new → connects old system request again other next → Same done made new again other next
    pub call : (old : S) (end : ℕ) (call : UserCall) (done again : Bool) (made other : List Event) (new next : S) → calls old end call done made new → calls old end call again other next → Same done made new again other next

  module _ (one : OneAnswer) where
    nothing_same : (old : S) (done again : Bool) (made other : List Event) (new next : S) → (done ≡ false) × (made ≡ []) × (new ≡ old) → (again ≡ false) × (other ≡ []) × (next ≡ old) → Same done made new again other next
    nothing_same old done again made other new next a b = record { done_is = a.0 ∙ sym b.0; made_is = a.1 ∙ sym b.1; new_is = a.2 ∙ sym b.2 }

    same_end : (told more : List Event) (asked heard : Request) (rest back : List Event) → told ≡ events.Connect asked ∷ rest → more ≡ events.Connect heard ∷ back → told ≡ more → asked.end ≡ heard.end
    same_end told more asked heard rest back a b same = let whole : events.Connect asked ∷ rest ≡ events.Connect heard ∷ back = sym a ∙ same ∙ b in let is : asked ≡ heard = cc in ap (λ (r : Request). r.end) is

    one_begin : (old : S) (inbound system : ℕ) (request : ConnectRequest) (taken also done again : Bool) (made other : List Event) (new next : S) → BeginsBy connects calls old inbound system request taken done made new
        → BeginsBy connects calls old inbound system request also again other next → Same done made new again other next
    one_begin old inbound system request true true done again made other new next a b =
        let s = one.connect old system request true true a.0 b.0 new next a.3 b.3 in
        let ends : a.1.end ≡ b.1.end = same_end a.0 b.0 a.1 b.1 a.2 b.2 a.4 b.4 s.made_is in
        record {
          done_is = a.6 ∙ sym b.6;
          made_is = a.5 ∙ ap (λ (told : List Event). told ++ events.Joined inbound a.1.end ∷ []) s.made_is ∙ ap (λ (n : ℕ). b.0 ++ events.Joined inbound n ∷ []) ends ∙ sym b.5;
          new_is = s.new_is;
        }
    one_begin old inbound system request true false done again made other new next a b =
        absurd (let s = one.connect old system request true false a.0 b.1 new b.0 a.3 b.3 in let no_way = s.done_is in cc)
    one_begin old inbound system request false true done again made other new next a b =
        absurd (let s = one.connect old system request false true a.1 b.0 a.0 next a.3 b.3 in let no_way = s.done_is in cc)
    one_begin old inbound system request false false done again made other new next a b =
        let s = one.connect old system request false false a.1 b.1 a.0 b.0 a.3 b.3 in
        let there = subst (λ (m : S). calls m inbound (asks.Refuse []) again b.2 next) (sym s.new_is) b.4 in
        let t = one.call a.0 inbound (asks.Refuse []) done again a.2 b.2 new next a.4 there in
        record { done_is = t.done_is; made_is = a.5 ∙ ap (λ (told : List Event). told ++ a.2) s.made_is ∙ ap (λ (later : List Event). b.1 ++ later) t.made_is ∙ sym b.5; new_is = t.new_is }

    one_does : (old : S) (to_do : Reaction) (done again : Bool) (made other : List Event) (new next : S) → Does connects calls old to_do done made new → Does connects calls old to_do again other next → Same done made new again other next
    one_does old Nothing done again made other new next a b = nothing_same old done again made other new next a b
    one_does old (Begin inbound system request) done again made other new next a b = one_begin old inbound system request a.0 b.0 done again made other new next a.1 b.1
    one_does old (Ask end call) done again made other new next a b = one.call old end call done again made other new next a b

    both : (one_done other_done first second : Bool) (done again : Bool) → done ≡ (one_done || other_done) → again ≡ (first || second) → one_done ≡ first → other_done ≡ second → done ≡ again
    both one_done other_done first second done again a b x y = a ∙ ap (λ (p : Bool). p || other_done) x ∙ ap (λ (p : Bool). first || p) y ∙ sym b

    joint : (here rest first second made other : List Event) → made ≡ here ++ rest → other ≡ first ++ second → here ≡ first → rest ≡ second → made ≡ other
    joint here rest first second made other a b x y = a ∙ ap (λ (es : List Event). es ++ rest) x ∙ ap (λ (es : List Event). first ++ es) y ∙ sym b

    -- and what is kept then
    record SameKept (done : Bool) (made : List Event) (new : S) (last : Kept) (again : Bool) (other : List Event) (next : S) (after : Kept) : Type 0 where
      same : Same done made new again other next
      last_is : last ≡ after

    one_reacts : (line : List Event) (old : S) (kept : Kept) (done again : Bool) (made other : List Event) (new next : S) (last after : Kept) → Reacts connects calls old kept line done made new last
        → Reacts connects calls old kept line again other next after → SameKept done made new last again other next after
    one_reacts [] old kept done again made other new next last after a b = record { same = nothing_same old done again made other new next (a.0, a.1, a.2) (b.0, b.1, b.2); last_is = a.3 ∙ sym b.3 }
    one_reacts (event ∷ line) old kept done again made other new next last after a b =
        let s = one_does old (reaction kept event) a.1 b.1 a.3 b.3 a.0 b.0 a.5 b.5 in
        let there = subst (λ (m : S). Reacts connects calls m (kept_after (noted kept event) a.3) line b.2 b.4 next after) (sym s.new_is)
        (subst (λ (es : List Event). Reacts connects calls b.0 (kept_after (noted kept event) es) line b.2 b.4 next after) (sym s.made_is) b.6) in
        let t = one_reacts line a.0 (kept_after (noted kept event) a.3) a.2 b.2 a.4 b.4 new next last after a.6 there in
        record {
          same = record {
            done_is = both a.1 a.2 b.1 b.2 done again a.7 b.7 s.done_is t.same.done_is;
            made_is = joint a.3 a.4 b.3 b.4 made other a.8 b.8 s.made_is t.same.made_is;
            new_is = t.same.new_is;
          };
          last_is = t.last_is;
        }

    record SameLeft (done : Bool) (made : List Event) (new : S) (left : List MarkedUnit) (again : Bool) (other : List Event) (next : S) (more : List MarkedUnit) : Type 0 where
      same : Same done made new again other next
      left_is : left ≡ more

    one_submits : (waiting : List MarkedUnit) (old : S) (end : ℕ) (done again : Bool) (made other : List Event) (new next : S) (left more : List MarkedUnit) → Submits connects calls old end waiting done made new left
        → Submits connects calls old end waiting again other next more → SameLeft done made new left again other next more
    one_submits [] old end done again made other new next left more a b = record { same = nothing_same old done again made other new next (a.0, a.1, a.2) (b.0, b.1, b.2); left_is = a.3 ∙ sym b.3 }
    one_submits (unit ∷ units) old end done again made other new next left more (inl a) (inl b) =
        let s = one.call old end (unit_call unit) false false made other new next a.0 b.0 in
        record { same = record { done_is = a.1 ∙ sym b.1; made_is = s.made_is; new_is = s.new_is }; left_is = a.2 ∙ sym b.2 }
    one_submits (unit ∷ units) old end done again made other new next left more (inl a) (inr b) =
        absurd (let s = one.call old end (unit_call unit) false true made b.2 new b.0 a.0 b.4 in let no_way = s.done_is in cc)
    one_submits (unit ∷ units) old end done again made other new next left more (inr a) (inl b) =
        absurd (let s = one.call old end (unit_call unit) true false a.2 other a.0 next a.4 b.0 in let no_way = s.done_is in cc)
    one_submits (unit ∷ units) old end done again made other new next left more (inr a) (inr b) =
        let s = one.call old end (unit_call unit) true true a.2 b.2 a.0 b.0 a.4 b.4 in
        let there = subst (λ (m : S). Submits connects calls m end units b.1 b.3 next more) (sym s.new_is) b.5 in
        let t = one_submits units a.0 end a.1 b.1 a.3 b.3 new next left more a.5 there in
        record { same = record { done_is = a.6 ∙ sym b.6; made_is = joint a.2 a.3 b.2 b.3 made other a.7 b.7 s.made_is t.same.made_is; new_is = t.same.new_is }; left_is = t.left_is }

    one_parts : (old : S) (pair : Pair) (done again : Bool) (made other : List Event) (new next : S) → Parts connects calls old pair done made new → Parts connects calls old pair again other next → Same done made new again other next
    one_parts old pair done again made other new next a b =
        let s = one.call old pair.inbound (asks.Disconnect []) a.1 b.1 a.3 b.3 a.0 b.0 a.5 b.5 in
        let there = subst (λ (m : S). calls m pair.outbound (asks.Disconnect []) b.2 b.4 next) (sym s.new_is) b.6 in
        let t = one.call a.0 pair.outbound (asks.Disconnect []) a.2 b.2 a.4 b.4 new next a.6 there in
        record { done_is = both a.1 a.2 b.1 b.2 done again a.7 b.7 s.done_is t.done_is; made_is = joint a.3 a.4 b.3 b.4 made other a.8 b.8 s.made_is t.made_is; new_is = t.new_is }

    one_credit : (old : S) (end : ℕ) (credit : Option ℕ) (done again : Bool) (made other : List Event) (new next : S) → SetsCredit connects calls old end credit done made new → SetsCredit connects calls old end credit again other next
        → Same done made new again other next
    one_credit old end None done again made other new next a b = nothing_same old done again made other new next a b
    one_credit old end (Some credit) done again made other new next a b = one.call old end (asks.Window credit) done again made other new next a b

    one_balance : (many : Bool) (old : S) (rules : Timers) (heading : Heading) (pair : Pair) (left : List MarkedUnit) (done again : Bool) (made other : List Event) (new next : S)
        → BalancesBy connects calls many old rules heading pair left done made new → BalancesBy connects calls many old rules heading pair left again other next → Same done made new again other next
    one_balance true old rules heading pair left done again made other new next a b = one_parts old pair done again made other new next a b
    one_balance false old rules heading pair left done again made other new next a b =
        one_credit old (near_end heading pair) (credit_now rules.credit (way_of heading pair).lowered left) done again made other new next a b

    one_way : (old : S) (rules : Timers) (heading : Heading) (pair : Pair) (done again : Bool) (made other : List Event) (new next : S) → ServesWay connects calls old rules heading pair done made new
        → ServesWay connects calls old rules heading pair again other next → Same done made new again other next
    one_way old rules heading pair done again made other new next a b =
        let s = one_submits (way_of heading pair).waiting old (far_end heading pair) a.one b.one a.here b.here a.mid b.mid a.left b.left a.submits b.submits in
        let there = subst (λ (m : S). Balances connects calls m rules heading pair a.left b.other b.rest next) (sym s.same.new_is)
        (subst (λ (units : List MarkedUnit). Balances connects calls b.mid rules heading pair units b.other b.rest next) (sym s.left_is) b.balances) in
        let t = one_balance (nat_lt 300 (length a.left)) a.mid rules heading pair a.left a.other b.other a.rest b.rest new next a.balances there in
        record { done_is = both a.one a.other b.one b.other done again a.done_is b.done_is s.same.done_is t.done_is; made_is = joint a.here a.rest b.here b.rest made other a.made_is b.made_is s.same.made_is t.made_is; new_is = t.new_is }

    one_open : (is : Bool) (old : S) (rules : Timers) (heading : Heading) (pair : Pair) (done again : Bool) (made other : List Event) (new next : S) → ServesOpen connects calls is old rules heading pair done made new
        → ServesOpen connects calls is old rules heading pair again other next → Same done made new again other next
    one_open true old rules heading pair done again made other new next a b = one_way old rules heading pair done again made other new next a b
    one_open false old rules heading pair done again made other new next a b = nothing_same old done again made other new next a b

    one_if : (old : S) (rules : Timers) (heading : Heading) (pair : Option Pair) (done again : Bool) (made other : List Event) (new next : S) → ServesIf connects calls old rules heading pair done made new
        → ServesIf connects calls old rules heading pair again other next → Same done made new again other next
    one_if old rules heading None done again made other new next a b = nothing_same old done again made other new next a b
    one_if old rules heading (Some pair) done again made other new next a b = one_open (is_open pair.phase) old rules heading pair done again made other new next a b

    one_pair : (old : S) (kept : Kept) (place : ℕ) (done again : Bool) (made other : List Event) (new next : S) → ServesPair connects calls old kept place done made new → ServesPair connects calls old kept place again other next
        → Same done made new again other next
    one_pair old kept place done again made other new next a b =
        let s = one_if old kept.rules On (slice_get kept.pairs place) a.one b.one a.here b.here a.mid b.mid a.on b.on in
        let there = subst (λ (m : S). ServesAt connects calls m (kept_after kept a.here) place Back b.other b.rest next) (sym s.new_is)
        (subst (λ (es : List Event). ServesAt connects calls b.mid (kept_after kept es) place Back b.other b.rest next) (sym s.made_is) b.back) in
        let t = one_if a.mid (kept_after kept a.here).rules Back (slice_get (kept_after kept a.here).pairs place) a.other b.other a.rest b.rest new next a.back there in
        record { done_is = both a.one a.other b.one b.other done again a.done_is b.done_is s.done_is t.done_is; made_is = joint a.here a.rest b.here b.rest made other a.made_is b.made_is s.made_is t.made_is; new_is = t.new_is }

    one_each : (places : List ℕ) (old : S) (kept : Kept) (done again : Bool) (made other : List Event) (new next : S) (last after : Kept) → ServesEach connects calls old kept places done made new last
        → ServesEach connects calls old kept places again other next after → SameKept done made new last again other next after
    one_each [] old kept done again made other new next last after a b = record { same = nothing_same old done again made other new next (a.0, a.1, a.2) (b.0, b.1, b.2); last_is = a.3 ∙ sym b.3 }
    one_each (place ∷ places) old kept done again made other new next last after a b =
        let s = one_pair old kept place a.1 b.1 a.3 b.3 a.0 b.0 a.5 b.5 in
        let there = subst (λ (m : S). ServesEach connects calls m (kept_after kept a.3) places b.2 b.4 next after) (sym s.new_is)
        (subst (λ (es : List Event). ServesEach connects calls b.0 (kept_after kept es) places b.2 b.4 next after) (sym s.made_is) b.6) in
        let t = one_each places a.0 (kept_after kept a.3) a.2 b.2 a.4 b.4 new next last after a.6 there in
        record {
          same = record { done_is = both a.1 a.2 b.1 b.2 done again a.7 b.7 s.done_is t.same.done_is; made_is = joint a.3 a.4 b.3 b.4 made other a.8 b.8 s.made_is t.same.made_is; new_is = t.same.new_is };
          last_is = t.last_is;
        }

    pub one_pump : (old : S) (kept : Kept) (line : List Event) (done again : Bool) (made other : List Event) (new next : S) (last after : Kept) → PumpStep connects calls old kept line done made new last
        → PumpStep connects calls old kept line again other next after → Same done made new again other next × (last ≡ after)
    one_pump old kept line done again made other new next last after a b =
        let s = one_reacts line old kept a.one b.one a.here b.here a.mid b.mid a.middle b.middle a.reacts b.reacts in
        let there = subst (λ (m : S). ServesEach connects calls m a.middle (open_places a.middle.pairs) b.other b.rest next after) (sym s.same.new_is)
        (subst (λ (k : Kept). ServesEach connects calls b.mid k (open_places k.pairs) b.other b.rest next after) (sym s.last_is) b.serves) in
        let t = one_each (open_places a.middle.pairs) a.mid a.middle a.other b.other a.rest b.rest new next last after a.serves there in (
          record { done_is = both a.one a.other b.one b.other done again a.done_is b.done_is s.same.done_is t.same.done_is; made_is = joint a.here a.rest b.here b.rest made other a.made_is b.made_is s.same.made_is t.same.made_is; new_is = t.same.new_is },
          t.last_is,
        )
