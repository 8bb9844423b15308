-- The calls of a sending half: the EDs that they put behind what waits are those of their road.
use Rattle.std.specs.Prelude.{not, is_some}
use Rattle.std.proofs.Common.{◌≡◌, inl, inr, ℕ, zero, suc, ◌+◌, ◌-◌, ◌<◌, ◌≤◌, ◌==◌, ◌||◌, ◌&&◌, nat_lt, Bool, false, if◌then◌else◌, List, [], ◌∷◌, ◌++◌, drop, length, length-append, Option, Some, None, refl, sym, ◌∙◌, ap, subst, arith, append-nil, append_assoc, Contains, true≢false, true}
use Rattle.std.proofs.lemmas.Bool.{and_parts, or_parts, lt-ltb}
use Rattle.std.proofs.lemmas.List.Elements.{Contains-append_cases, Contains-push}
use Rattle.std.proofs.lemmas.Bool.Decides.{nat_tests}
use Rattle.tp4_number.specs.declared.piece.Piece.{Piece}
use Rattle.tp4_number.specs.Expedited.{Urgent}
use Rattle.tp4_number.specs.Formats.{block_of}
use Rattle.tp4_number.specs.Number.{near, wire}
use Rattle.tp4_number.specs.Sender.{marked}
use Rattle.tp4_number.specs.Traffic.{Rules}
use Rattle.tp4_number.proofs.Past.{if_kept}
use Rattle.law_recovery_pair.specs.Urgent.{Asks, Asks_again, Ea_arrives, GoOn, UrgentMove, UrgentRoad, gone_on}
use Rattle.tp4_flow.specs.declared.rules.FlowRules.{FlowRules}
use Rattle.tp4_flow.specs.declared.rules.Life.{Life}
use Rattle.tp4_flow.specs.declared.rules.Life.TheVariants.{Goes, Exhausted}
use Rattle.tp4_sending.specs.SendingHalf.{FlowSender, Sendings, UrgentSender, acknowledged, acknowledged_to, all_dts, block_in, dts, dts_of, due_numbers, eds, has_next, is_noted, is_outstanding, is_taken, is_urgent, life_of, new_sends, normals, normals_where, nothing, one_urgent, resends, resends_urgent, resends_urgent_as, retried_urgent, rule_allows, sent_normal, submitted, then_sends, ticked, ticked_as, urged, urgent_done}
use Rattle.tp4_sending.specs.Kept.{urgent_base}
use Rattle.tp4_sending.specs.Pieces.{cut_at, end_of, is_due}
use Rattle.tp4_sending.specs.declared.tries.Tries.{Tries}
use Rattle.law_recovery_pair.specs.Riding.{rules_by}
use Rattle.law_tp4_pair.specs.Flowing.{HasUnit}
use Rattle.law_tp4_pair.specs.Waiting.{eds_in}
use Rattle.law_tp4_pair.proofs.Wires.{eds_then}
use Rattle.law_recovery_steps.specs.Asking.{AsksOut, GoesUrgently, IsAskedBy, UrgentAside, asked_aside, urgent_road}
use Rattle.law_recovery_steps.specs.Sending.{dts_on}
use Rattle.law_recovery_steps.proofs.Sending.{dts_on_then, none_in, one_alone}

-- ---- the ED that is outstanding

same_test : (s : FlowSender) (base n : ℕ) (out : Option Tries) → urgent_base s.urgent out base
    → (is_some out && wire (block_in s) (s.urgent.next - 1) == wire (block_in s) n) ≡ (nat_lt base s.urgent.next && wire (block_in s) n == wire (block_in s) base)
same_test s base n None b = sym (by (nat_lt base s.urgent.next) (wire (block_in s) n == wire (block_in s) base) not_less)
  where
    not_less : nat_lt base s.urgent.next ≡ false
    not_less = grind (arith, nat_tests)

    by : (a c : Bool) → a ≡ false → (a && c) ≡ false
    by true c e = absurd (true≢false e)
    by false c e = refl
same_test s base n (Some tries) b = ap (λ (k : ℕ). wire (block_in s) k == wire (block_in s) n) at ∙ flipped ∙ sym (by (nat_lt base s.urgent.next) (lt-ltb _ _ (omega (arith, b))))
  where
    at : s.urgent.next - 1 ≡ base
    at = omega (arith, b)

    flipped : (wire (block_in s) base == wire (block_in s) n) ≡ (wire (block_in s) n == wire (block_in s) base)
    flipped = grind (arith, nat_tests)

    by : (a : Bool) → a ≡ true → (a && wire (block_in s) n == wire (block_in s) base) ≡ (wire (block_in s) n == wire (block_in s) base)
    by true e = refl
    by false e = absurd (true≢false (sym e))

out_base : (v : UrgentSender) (o : Option Tries) (base : ℕ) → is_some o ≡ true → urgent_base v o base → base + 1 ≡ v.next
out_base v None base e b = absurd (true≢false (sym e))
out_base v (Some tries) base e b = b

pub go_then : (rules : Rules) (u : ℕ) (old mid new : UrgentRoad) (a b : List UrgentMove) → GoOn rules u old a mid → GoOn rules u mid b new → GoOn rules u old (a ++ b) new
go_then rules u old mid new [] b p q = subst (λ (r : UrgentRoad). GoOn rules u r b new) p q
go_then rules u old mid new (move ∷ a) b p q = (p.0, go_then rules u (gone_on rules old move) mid new a b p.1 q)

regrouped : (x : UrgentAside) (a b : List (ℕ × ℕ)) → asked_aside (asked_aside x a) b ≡ asked_aside x (a ++ b)
regrouped x a b = λ i. record x { sends = append_assoc x.sends a b i; eds = append_assoc x.eds a b i }

-- DTs are no EDs
no_ed : (s : FlowSender) (n : ℕ) (piece : Option Piece) → eds_in (dts s n piece) ≡ []
no_ed s n None = refl
no_ed s n (Some piece) = refl

no_eds : (s : FlowSender) (ns : List ℕ) → eds_in (all_dts s ns) ≡ []
no_eds s [] = refl
no_eds s (n ∷ ns) = eds_then (dts_of s n) (all_dts s ns) ∙ (λ i. no_ed s n (cut_at s.rules.piece s.queue.units (n - s.queue.first)) i ++ no_eds s ns i)

-- a call leaves EDs as they are
record IsStill (s : FlowSender) (z : Sendings) : Type 0 where
  rules : z.sender.rules ≡ s.rules
  clock : z.sender.clock ≡ s.clock
  next : z.sender.urgent.next ≡ s.urgent.next
  blocks : z.sender.urgent.blocks ≡ s.urgent.blocks
  out : z.sender.urgent.out ≡ s.urgent.out
  unit : HasUnit s.urgent.units s.urgent.out → HasUnit z.sender.urgent.units z.sender.urgent.out
  eds : eds_in z.tpdus ≡ []

same : (s : FlowSender) → IsStill s (nothing s)
same s = record { rules = refl; clock = refl; next = refl; blocks = refl; out = refl; unit = λ h. h; eds = refl }

normals_still : (fuel : ℕ) (s : FlowSender) → IsStill s (normals fuel s)
normals_still zero s = same s
normals_still (suc fuel) s =
    if_kept (IsStill s) (not (has_next s)) _ _ (λ _. same s)
    (λ _. if_kept (IsStill s) (rule_allows s s.numbers.blocks s.numbers.next) _ _
    (λ _. let r = normals_still fuel (sent_normal s) in record {
      rules = r.rules;
      clock = r.clock;
      next = r.next;
      blocks = r.blocks;
      out = r.out;
      unit = r.unit;
      eds = eds_then (dts_of s s.numbers.next) (normals fuel (sent_normal s)).tpdus
          ∙ (λ i. no_ed s s.numbers.next (cut_at s.rules.piece s.queue.units (s.numbers.next - s.queue.first)) i ++ r.eds i);
    })
    (λ _. if_kept (IsStill s) (is_noted s.noted s.numbers.next) _ _ (λ _. same s) (λ _. record { rules = refl; clock = refl; next = refl; blocks = refl; out = refl; unit = λ h. h; eds = refl })))

where_still : (s : FlowSender) → IsStill s (normals_where s)
where_still s = if_kept (IsStill s) (is_urgent s) _ _ (λ _. same s) (λ _. normals_still (end_of s.rules.piece s.queue - s.numbers.next) s)

is_none : (out : Option Tries) → is_some out ≡ false → out ≡ None
is_none None e = refl
is_none (Some tries) e = absurd (true≢false e)

-- there is an ED to send
has_ed : (s : FlowSender) (n : ℕ) (units : List (List ℕ)) → 0 < length units → eds_in (eds s n units) ≡ wire (block_in s) n ∷ []
has_ed s n [] low = absurd (omega (arith, low))
has_ed s n (unit ∷ units) low = refl

some_units : (units : List (List ℕ)) → (length units == 0) ≡ false → 0 < length units
some_units [] e = absurd (cc e)
some_units (unit ∷ units) e = omega arith

module _ (life u : ℕ) where
  abbrev Out : FlowSender → ℕ → ℕ → UrgentAside → Sendings → Type 0
  Out s base expected x z = AsksOut life u s base expected x x z

  still : (s : FlowSender) (base expected : ℕ) (x : UrgentAside) (z : Sendings) → urgent_base s.urgent s.urgent.out base → HasUnit s.urgent.units s.urgent.out → IsStill s z → Out s base expected x z
  still s base expected x z b unit e = record {
    after = base;
    more = [];
    goes = record {
      moves = [];
      are = λ i. record {
        urgent = record { clock = s.clock; base = base; next = e.next i; blocks = e.blocks i; sends = append-nil x.sends i; expected = expected; answers = x.answers };
        eds = append-nil x.eds i;
        eas = x.eas;
      };
    };
    base_is = subst (λ (o : Option Tries). urgent_base z.sender.urgent o base) (sym e.out) (based s.urgent.out b);
    unit = e.unit unit;
    rules = e.rules;
    clock = e.clock;
    eds = e.eds;
    more_now = λ d c. absurd (none_in d c);
    tried = λ sends d. subst (IsAskedBy u base z.sender.urgent.out) (sym (append-nil sends)) (subst (λ (o : Option Tries). IsAskedBy u base o sends) (sym e.out) d);
  }
    where
      based : (o : Option Tries) → urgent_base s.urgent o base → urgent_base z.sender.urgent o base
      based None f = f ∙ sym e.next
      based (Some tries) f = f ∙ sym e.next

  -- one after the other
  seq : (s : FlowSender) (base expected : ℕ) (x y : UrgentAside) (z : Sendings) (next : FlowSender → Sendings) → AsksOut life u s base expected x y z
      → ((after : ℕ) (k : UrgentAside) → urgent_base z.sender.urgent z.sender.urgent.out after → Out z.sender after expected k (next z.sender)) → AsksOut life u s base expected x y (then_sends z next)
  seq s base expected x y z next a b =
      let k : UrgentAside = asked_aside y a.more in
      let v : Sendings = next z.sender in
      let c : Out z.sender a.after expected k v = b a.after k a.base_is in
      let goes : GoesUrgently (rules_by life s.rules) u (urgent_road s.clock a.after z.sender.urgent expected k) (urgent_road s.clock c.after v.sender.urgent expected (asked_aside k c.more)) =
      subst (λ (f : FlowRules). GoesUrgently (rules_by life f) u (urgent_road s.clock a.after z.sender.urgent expected k) (urgent_road s.clock c.after v.sender.urgent expected (asked_aside k c.more))) a.rules
      (subst (λ (now : ℕ). GoesUrgently (rules_by life z.sender.rules) u (urgent_road now a.after z.sender.urgent expected k) (urgent_road now c.after v.sender.urgent expected (asked_aside k c.more))) a.clock c.goes) in
      record {
        after = c.after;
        more = a.more ++ c.more;
        goes = record {
          moves = a.goes.moves ++ goes.moves;
          are = subst (λ (w : UrgentAside). GoOn (rules_by life s.rules) u (urgent_road s.clock base s.urgent expected x) (a.goes.moves ++ goes.moves) (urgent_road s.clock c.after v.sender.urgent expected w))
              (regrouped y a.more c.more)
              (go_then (rules_by life s.rules) u _ _ _ a.goes.moves goes.moves a.goes.are goes.are);
        };
        base_is = c.base_is;
        unit = c.unit;
        rules = c.rules ∙ a.rules;
        clock = c.clock ∙ a.clock;
        eds = eds_then z.tpdus v.tpdus ∙ (λ i. a.eds i ++ c.eds i) ∙ (λ i. dts_on (block_in s) a.more ++ dts_on (block_of ((a.rules i).format)) c.more) ∙ sym (dts_on_then (block_in s) a.more c.more);
        more_now = λ e there. elim (Contains-append_cases a.more c.more e there) [ inl first ↦ a.more_now e first | inr second ↦ c.more_now e second ∙ a.clock ];
        tried = λ sends d. subst (IsAskedBy u c.after v.sender.urgent.out) (append_assoc sends a.more c.more) (c.tried (sends ++ a.more) (a.tried sends d));
      }

  one_ed : (s : FlowSender) (base expected : ℕ) (x : UrgentAside) → urgent_base s.urgent s.urgent.out base → HasUnit s.urgent.units s.urgent.out → Out s base expected x (one_urgent s)
  one_ed s base expected x b unit =
      let P = Out s base expected x in
      if_kept P (is_some s.urgent.out || length s.urgent.units == 0) _ _ (λ _. still s base expected x (nothing s) b unit (same s))
      (λ free.
      let parts = or_parts (is_some s.urgent.out) (length s.urgent.units == 0) free in
      let at : base ≡ s.urgent.next = subst (λ (o : Option Tries). urgent_base s.urgent o base) (is_none s.urgent.out parts.0) b in
      let low : 0 < length s.urgent.units = some_units s.urgent.units parts.1 in
      if_kept P (rule_allows s s.urgent.blocks s.urgent.next) _ _
      (λ rule. record {
        after = base;
        more = (s.urgent.next, s.clock) ∷ [];
        goes = record { moves = Asks ∷ []; are = ((sym at, rule), refl) };
        base_is = ap (λ (n : ℕ). n + 1) at;
        unit = low;
        rules = refl;
        clock = refl;
        eds = has_ed s s.urgent.next s.urgent.units low;
        more_now = λ e c. let is : (s.urgent.next, s.clock) ≡ e = one_alone (s.urgent.next, s.clock) e c in ap (λ (p : ℕ × ℕ). p.1) (sym is);
        tried = λ sends d. inr (subst (λ (n : ℕ). Contains (sends ++ (s.urgent.next, s.clock) ∷ []) (n, s.clock)) (sym at) (Contains-push sends (s.urgent.next, s.clock)));
      })
      (λ _. if_kept P (is_noted s.urgent.noted s.urgent.next) _ _ (λ _. still s base expected x (nothing s) b unit (same s))
      (λ _. still s base expected x _ b unit (record { rules = refl; clock = refl; next = refl; blocks = refl; out = refl; unit = λ h. h; eds = refl }))))

  new_asks : (s : FlowSender) (base expected : ℕ) (x : UrgentAside) → urgent_base s.urgent s.urgent.out base → HasUnit s.urgent.units s.urgent.out → Out s base expected x (new_sends s)
  new_asks s base expected x b unit = if_kept (Out s base expected x) s.is_open _ _
      (λ _.
      let first : Out s base expected x (one_urgent s) = one_ed s base expected x b unit in
      seq s base expected x x (one_urgent s) normals_where first (λ after k e. still (one_urgent s).sender after expected k (normals_where (one_urgent s).sender) e first.unit (where_still (one_urgent s).sender)))
      (λ _. still s base expected x (nothing s) b unit (same s))

  -- with another unit, or a window that moved
  alike_asks : (s t : FlowSender) (base expected : ℕ) (x : UrgentAside) → urgent_base s.urgent s.urgent.out base → HasUnit s.urgent.units s.urgent.out → IsStill s (nothing t) → Out s base expected x (new_sends t)
  alike_asks s t base expected x b unit e =
      let first : Out s base expected x (nothing t) = still s base expected x (nothing t) b unit e in
      seq s base expected x x (nothing t) new_sends first (λ after k f. new_asks t after expected k f first.unit)

  again_asks : (s : FlowSender) (out : Option Tries) (base expected : ℕ) (x : UrgentAside) → s.urgent.out ≡ out → urgent_base s.urgent out base → HasUnit s.urgent.units out → Out s base expected x (resends_urgent_as out s)
  again_asks s None base expected x is b unit =
      still s base expected x (nothing s) (subst (λ (o : Option Tries). urgent_base s.urgent o base) (sym is) b) (subst (HasUnit s.urgent.units) (sym is) unit) (same s)
  again_asks s (Some tries) base expected x is b unit =
      if_kept (Out s base expected x) (is_due s.rules.t1 s.clock tries) _ _
      (λ _. record {
        after = base;
        more = (base, s.clock) ∷ [];
        goes = record {
          moves = Asks_again ∷ [];
          are = (
            omega (arith, b),
            λ i. urgent_road s.clock base (record (retried_urgent s tries).urgent { blocks = marked (block_in s) s.urgent.blocks (at i) s.clock }) expected (asked_aside x ((base, s.clock) ∷ [])),
          );
        };
        base_is = b;
        unit = unit;
        rules = refl;
        clock = refl;
        eds = has_ed s (s.urgent.next - 1) s.urgent.units unit ∙ ap (λ (n : ℕ). wire (block_in s) n ∷ []) at;
        more_now = λ e c. let same_one : (base, s.clock) ≡ e = one_alone (base, s.clock) e c in ap (λ (p : ℕ × ℕ). p.1) (sym same_one);
        tried = λ sends d. inr (Contains-push sends (base, s.clock));
      })
      (λ _. still s base expected x (nothing s) (subst (λ (o : Option Tries). urgent_base s.urgent o base) (sym is) b) (subst (HasUnit s.urgent.units) (sym is) unit) (same s))
    where
      at : s.urgent.next - 1 ≡ base
      at = omega (arith, b)

  ticks_ask : (s : FlowSender) (goes : Life) (base expected : ℕ) (x : UrgentAside) → urgent_base s.urgent s.urgent.out base → HasUnit s.urgent.units s.urgent.out → Out s base expected x (ticked_as goes s)
  ticks_ask s Exhausted base expected x b unit = still s base expected x (nothing s) b unit (same s)
  ticks_ask s Goes base expected x b unit =
      let t : FlowSender = (resends s).sender in
      let v : Sendings = resends_urgent_as t.urgent.out t in
      let first : Out s base expected x (resends s) = still s base expected x (resends s) b unit (record { rules = refl; clock = refl; next = refl; blocks = refl; out = refl; unit = λ h. h; eds = no_eds s (due_numbers s) }) in
      let second : Out s base expected x (then_sends (resends s) resends_urgent) = seq s base expected x x (resends s) resends_urgent first (λ after k e. again_asks t t.urgent.out after expected k refl e first.unit) in
      seq s base expected x x (then_sends (resends s) resends_urgent) new_sends second (λ after k e. new_asks v.sender after expected k e second.unit)

  more_units : (units : List (List ℕ)) (unit : List ℕ) (out : Option Tries) → HasUnit units out → HasUnit (units ++ unit ∷ []) out
  more_units units unit None h = tt
  more_units units unit (Some tries) h = omega (arith, h, length-append units (unit ∷ []))

  pub calls_ask : (s : FlowSender) (base expected : ℕ) (x : UrgentAside) (unit : List ℕ) (w credit subsequence : ℕ) → urgent_base s.urgent s.urgent.out base → HasUnit s.urgent.units s.urgent.out
      → Out s base expected x (submitted s unit) × Out s base expected x (urged s unit) × Out s base expected x (ticked s) × Out s base expected x (acknowledged s w credit subsequence)
  calls_ask s base expected x unit w credit subsequence b has =
      let n = near (block_in s) s.numbers.base w in (
        alike_asks s (record s { queue = record s.queue { units = s.queue.units ++ unit ∷ [] } }) base expected x b has (record { rules = refl; clock = refl; next = refl; blocks = refl; out = refl; unit = λ h. h; eds = refl }),
        alike_asks s (record s { urgent = record s.urgent { units = s.urgent.units ++ unit ∷ [] } }) base expected x b has
            (record { rules = refl; clock = refl; next = refl; blocks = refl; out = refl; unit = λ h. more_units s.urgent.units unit s.urgent.out h; eds = refl }),
        ticks_ask s (life_of s) base expected x b has,
        if_kept (Out s base expected x) (is_taken s n credit subsequence) _ _
            (λ _. alike_asks s (acknowledged_to s n credit subsequence) base expected x b has (record { rules = refl; clock = refl; next = refl; blocks = refl; out = refl; unit = λ h. h; eds = refl }))
            (λ _. still s base expected x (nothing s) b has (same s)),
      )

  -- ---- an EA

  pub ea_asks : (s : FlowSender) (base expected : ℕ) (x : UrgentAside) (n tick : ℕ) (rest : List (ℕ × ℕ)) → urgent_base s.urgent s.urgent.out base → HasUnit s.urgent.units s.urgent.out → x.eas ≡ (n, tick) ∷ rest
      → Contains x.answers (n, tick) → s.clock ≤ tick + life → AsksOut life u s base expected x (record x { eas = rest }) (urgent_done s (wire (block_in s) n))
  ea_asks s base expected x n tick rest b unit waits said live =
      if_kept (AsksOut life u s base expected x y) (is_outstanding s (wire (block_in s) n)) _ _
      (λ out.
      let t : FlowSender = record s { urgent = record s.urgent { units = drop 1 s.urgent.units; out = None } } in
      let first : AsksOut life u s base expected x y (nothing t) = record {
        after = base + 1;
        more = [];
        goes = ended (base + 1) t.urgent (record { moves = Ea_arrives n tick rest ∷ []; are = ((waits, (said, live)), sym (ap to (sym test ∙ out))) });
        base_is = out_base s.urgent s.urgent.out base (and_parts (is_some s.urgent.out) (wire (block_in s) (s.urgent.next - 1) == wire (block_in s) n) out).0 b;
        unit = tt;
        rules = refl;
        clock = refl;
        eds = refl;
        more_now = λ d c. absurd (none_in d c);
        tried = λ sends d. tt;
      } in
      seq s base expected x y (nothing t) new_sends first (λ after k e. new_asks t after expected k e tt))
      (λ no. record {
        after = base;
        more = [];
        goes = ended base s.urgent (record { moves = Ea_arrives n tick rest ∷ []; are = ((waits, (said, live)), sym (ap to (sym test ∙ no))) });
        base_is = b;
        unit = unit;
        rules = refl;
        clock = refl;
        eds = refl;
        more_now = λ d c. absurd (none_in d c);
        tried = λ sends d. subst (IsAskedBy u base s.urgent.out) (sym (append-nil sends)) d;
      })
    where
      y : UrgentAside
      y = record x { eas = rest }

      test : is_outstanding s (wire (block_in s) n) ≡ (nat_lt base s.urgent.next && wire (block_in s) n == wire (block_in s) base)
      test = same_test s base n s.urgent.out b

      was : Urgent
      was = (urgent_road s.clock base s.urgent expected x).urgent

      to : Bool → UrgentRoad
      to c = record { urgent = if c then record was { base = base + 1 } else was; eds = x.eds; eas = rest }

      ended : (after : ℕ) (v : UrgentSender) → GoesUrgently (rules_by life s.rules) u (urgent_road s.clock base s.urgent expected x) (urgent_road s.clock after v expected (record x { eas = rest }))
          → GoesUrgently (rules_by life s.rules) u (urgent_road s.clock base s.urgent expected x) (urgent_road s.clock after v expected (asked_aside (record x { eas = rest }) []))
      ended after v g = subst (λ (k : UrgentAside). GoesUrgently (rules_by life s.rules) u (urgent_road s.clock base s.urgent expected x) (urgent_road s.clock after v expected k))
          (λ i. record x { sends = sym (append-nil x.sends) i; eds = sym (append-nil x.eds) i; eas = rest }) g
