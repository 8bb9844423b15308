-- The calls of a sending half: what they put behind what waits is what the road gets.
use Rattle.std.specs.Prelude.{not, is_some}
use Rattle.std.proofs.Common.{◌≡◌, inr, inl, ℕ, zero, suc, ◌+◌, ◌-◌, ◌<◌, ◌≤◌, ◌==◌, ◌||◌, nat_lt, max, min, true, if◌then◌else◌, List, [], ◌∷◌, ◌++◌, drop, length, length-append, length-drop, Option, Some, None, refl, sym, ◌∙◌, ap, subst, arith, append-nil, append_assoc, Contains}
use Rattle.std.proofs.lemmas.Bool.{and_parts, lt-ltb, ltb-true, not-false}
use Rattle.std.proofs.lemmas.List.{length-map, length-take}
use Rattle.std.proofs.lemmas.List.Elements.{Contains-append_left, Contains-push, Contains-push_cases}
use Rattle.std.proofs.lemmas.List.Sums.{sum_by-append}
use Rattle.tp4_number.specs.declared.blocks.Blocks.{Blocks}
use Rattle.tp4_number.specs.declared.piece.Piece.{Piece}
use Rattle.tp4_number.specs.Formats.{block_of}
use Rattle.tp4_number.specs.Number.{near, wire}
use Rattle.tp4_number.specs.Sender.{Sender, marked, told}
use Rattle.tp4_number.specs.Traffic.{Answer}
use Rattle.tp4_number.proofs.Accounts.{marked_high}
use Rattle.tp4_number.proofs.Past.{if_kept}
use Rattle.law_recovery_pair.specs.Recovering.{Ak_arrives, Move, Moves, Sends}
use Rattle.tp4_flow.specs.ReceivingHalf.{Half}
use Rattle.tp4_flow.specs.declared.rules.FlowRules.{FlowRules}
use Rattle.tp4_flow.specs.declared.rules.Life.{Life}
use Rattle.tp4_flow.specs.declared.rules.Life.TheVariants.{Goes, Exhausted}
use Rattle.tp4_flow.specs.declared.step.Sent.{Sent}
use Rattle.tp4_sending.specs.SendingHalf.{FlowSender, Sendings, acknowledged, acknowledged_to, all_dts, block_in, dts, dts_of, due_numbers, eds, has_next, is_noted, is_outstanding, is_taken, is_urgent, life_of, marked_all, new_sends, normals, normals_where, nothing, one_normal, one_urgent, resends, resends_urgent, resends_urgent_as, rule_allows, sent_normal, submitted, then_sends, ticked, ticked_as, urged, urgent_done}
use Rattle.tp4_sending.specs.Pieces.{Queue, again, count_in, cut_at, end_of, is_due, once}
use Rattle.tp4_sending.specs.declared.tries.Tries.{Tries}
use Rattle.tp4_sending.proofs.Advances.{taken_from}
use Rattle.tp4_sending.proofs.Frees.{freed_left}
use Rattle.tp4_sending.proofs.Goings.{piece_there}
use Rattle.tp4_sending.proofs.Totals.{freed_end}
use Rattle.law_recovery_pair.specs.Riding.{Aside, GoesOn, road_of, rules_by, sent_aside, sent_at}
use Rattle.law_recovery_pair.proofs.RidingSends.{AreWithin, IsAlike, due_within, moves_then, regroup, sent_at_then, told_same}
use Rattle.law_recovery_pair.proofs.Viewing.{told_is}
use Rattle.law_recovery_ends.specs.Due.{AreTried}
use Rattle.law_tp4_history.proofs.FlowOut.{shown-append}
use Rattle.law_tp4_history.specs.Lines.{shown_in}
use Rattle.law_tp4_pair.specs.Carrying.{pieces_in}
use Rattle.law_tp4_pair.specs.Waiting.{AreData, View, aks_in, dts_in, eas_in}
use Rattle.law_tp4_pair.proofs.Carried.{pieces_then}
use Rattle.law_tp4_pair.proofs.Wires.{aks_then, data_then, dts_then, eas_then}
use Rattle.law_recovery_steps.specs.Sending.{AreCut, GoesOut, IsCutFrom, IsFed, aks_on, dts_on}
use Rattle.law_recovery_steps.proofs.Trying.{again_goes, tried_again, tried_drop, tried_push, tried_take}

-- ---- what waits, in parts

pub dts_on_then : (block : ℕ) (a b : List (ℕ × ℕ)) → dts_on block (a ++ b) ≡ dts_on block a ++ dts_on block b
dts_on_then block [] b = refl
dts_on_then block (e ∷ a) b = ap (λ (l : List ℕ). wire block e.0 ∷ l) (dts_on_then block a b)

pub aks_on_then : (block : ℕ) (a b : List Answer) → aks_on block (a ++ b) ≡ aks_on block a ++ aks_on block b
aks_on_then block [] b = refl
aks_on_then block (e ∷ a) b = ap (λ (l : List View). record { number = wire block e.number; credit = e.credit; subsequence = e.subsequence } ∷ l) (aks_on_then block a b)

-- nothing waits where nothing is seen to wait
pub no_dts : (block : ℕ) (l : List (ℕ × ℕ)) → [] ≡ dts_on block l → l ≡ []
no_dts block [] e = refl
no_dts block (d ∷ l) e = absurd (cc e)

pub no_aks : (block : ℕ) (l : List Answer) → [] ≡ aks_on block l → l ≡ []
no_aks block [] e = refl
no_aks block (a ∷ l) e = absurd (cc e)

-- what stands in a list of none, of one, and first
pub none_in : {X : Type 0} (x : X) → Contains [] x → ⊥
none_in x c = omega (arith, c.1)

pub one_alone : {X : Type 0} (x y : X) → Contains (x ∷ []) y → x ≡ y
one_alone x y h = elim (Contains-push_cases [] x y h) [ inl never ↦ absurd (none_in y never) | inr is ↦ is ]

pub first_of : {X : Type 0} (x : X) (rest : List X) → Contains (x ∷ rest) x
first_of x rest = Contains-append_left (x ∷ []) rest x (Contains-push [] x)

-- ---- pieces

cut_then : (size : ℕ) (all : List (List ℕ)) (a b : List (ℕ × ℕ)) (p q : List Piece) → AreCut size all a p → AreCut size all b q → AreCut size all (a ++ b) (p ++ q)
cut_then size all [] b p q f g = subst (λ (l : List Piece). AreCut size all b (l ++ q)) (sym f) g
cut_then size all (e ∷ a) b [] q f g = absurd f
cut_then size all (e ∷ a) b (piece ∷ p) q f g = (f.0, cut_then size all a b p q f.1 g)

-- the same queue, on the same terms
cut_from : (all : List (List ℕ)) (s t : FlowSender) → t.queue ≡ s.queue → t.rules ≡ s.rules → IsCutFrom all t → IsCutFrom all s
cut_from all s t queue rules cut n low =
    subst (λ (q : Queue). cut_at s.rules.piece all n ≡ cut_at s.rules.piece q.units (n - q.first)) queue
    (subst (λ (r : FlowRules). cut_at r.piece all n ≡ cut_at r.piece t.queue.units (n - t.queue.first)) rules
    (cut n (subst (λ (q : Queue). q.first ≤ n) (sym queue) low)))

-- ---- a piece for each number

marked_all_high : (block now low high : ℕ) (b : Blocks) (ns : List ℕ) → AreWithin low high ns → high ≤ b.high → (marked_all block now b ns).high ≡ b.high
marked_all_high block now low high b [] within up = refl
marked_all_high block now low high b (n ∷ ns) within up =
    let one : (marked block b n now).high ≡ b.high = omega (arith, marked_high block b n now, within.1, up) in
    marked_all_high block now low high (marked block b n now) ns within.2 (omega (arith, one, up)) ∙ one

sent_fed : (s : FlowSender) → IsFed s → s.numbers.next < end_of s.rules.piece s.queue → IsFed (sent_normal s)
sent_fed s f below =
    let high = marked_high (block_in s) s.numbers.blocks s.numbers.next s.clock in
    record {
      is_open = f.is_open;
      first = f.first;
      window = omega (arith, f.window, length-append s.window (once s.clock ∷ []));
      high = omega (arith, high);
      reach = omega (arith, high, f.reach, below);
    }

again_fed : (s : FlowSender) → IsFed s → AreWithin s.numbers.base s.numbers.next (due_numbers s) → IsFed (resends s).sender
again_fed s f within =
    let high = marked_all_high (block_in s) s.clock s.numbers.base s.numbers.next s.numbers.blocks (due_numbers s) within f.high in
    record {
      is_open = f.is_open;
      first = f.first;
      window = omega (arith, length-map s.window (λ tries. if is_due s.rules.t1 s.clock tries then again s.clock tries else tries), f.window);
      high = omega (arith, high, f.high);
      reach = omega (arith, high, f.reach);
    }

heard_fed : (s : FlowSender) (n credit subsequence : ℕ) → IsFed s → is_taken s n credit subsequence ≡ true → IsFed (acknowledged_to s n credit subsequence)
heard_fed s n credit subsequence f taken =
    let is = told_is s n credit subsequence taken in
    let from = taken_from s n credit subsequence taken in
    let t : FlowSender = acknowledged_to s n credit subsequence in
    let left = freed_left s.rules.piece n s.queue.first s.queue.units (omega (arith, f.first, from.0)) in
    let base : t.numbers.base ≡ n = ap (λ (m : Sender). m.base) is in
    let next : t.numbers.next ≡ max n (min s.numbers.next (n + credit)) = ap (λ (m : Sender). m.next) is in
    let high : t.numbers.blocks.high ≡ s.numbers.blocks.high = ap (λ (m : Sender). m.blocks.high) is in
    record {
      is_open = f.is_open;
      first = omega (arith, left.first, base);
      window = omega (arith, f.window, from.0, length-take (t.numbers.next - n) (drop (n - s.numbers.base) s.window), length-drop (n - s.numbers.base) s.window, base, next);
      high = omega (arith, next, high, f.high, from.1);
      reach = omega (arith, high, f.reach, freed_end s.rules.piece n s.queue.first s.queue.units);
    }

-- ---- TPDUs by kind

-- these are DTs with those numbers
record AreDts (s : FlowSender) (ns : List ℕ) (tpdus : List Sent) : Type 0 where
  dts : dts_in tpdus ≡ dts_on (block_in s) (sent_at s.clock ns)
  aks : aks_in tpdus ≡ []
  eas : eas_in tpdus ≡ []
  right : (all : List (List ℕ)) → IsCutFrom all s → AreCut s.rules.piece all (sent_at s.clock ns) (pieces_in tpdus)
  data_are : AreData s.rules tpdus

one_dt : (s : FlowSender) (n : ℕ) (piece : Option Piece) → is_some piece ≡ true → ((all : List (List ℕ)) → IsCutFrom all s → cut_at s.rules.piece all n ≡ piece) → AreDts s (n ∷ []) (dts s n piece)
one_dt s n None e cut = absurd (cc e)
one_dt s n (Some piece) e cut = record { dts = refl; aks = refl; eas = refl; right = λ all c. (cut all c, refl); data_are = (record { to = refl; format = refl; sum = refl; kind = refl }, tt) }

numbered_dt : (s : FlowSender) (n : ℕ) → s.queue.first ≤ n → n < end_of s.rules.piece s.queue → AreDts s (n ∷ []) (dts_of s n)
numbered_dt s n low below = one_dt s n (cut_at s.rules.piece s.queue.units (n - s.queue.first)) (piece_there s.rules.piece s.queue n low ∙ lt-ltb _ _ below) (λ all c. c n low)

more_dts : (s : FlowSender) (n : ℕ) (ns : List ℕ) (a b : List Sent) → AreDts s (n ∷ []) a → AreDts s ns b → AreDts s (n ∷ ns) (a ++ b)
more_dts s n ns a b one rest = record {
  dts = dts_then a b ∙ (λ i. one.dts i ++ rest.dts i);
  aks = aks_then a b ∙ (λ i. one.aks i ++ rest.aks i);
  eas = eas_then a b ∙ (λ i. one.eas i ++ rest.eas i);
  right = λ all c. subst (AreCut s.rules.piece all ((n, s.clock) ∷ sent_at s.clock ns)) (sym (pieces_then a b))
      (cut_then s.rules.piece all ((n, s.clock) ∷ []) (sent_at s.clock ns) (pieces_in a) (pieces_in b) (one.right all c) (rest.right all c));
  data_are = data_then s.rules a b one.data_are rest.data_are;
}

none_sent : (s : FlowSender) → AreDts s [] []
none_sent s = record { dts = refl; aks = refl; eas = refl; right = λ all c. refl; data_are = tt }

many_dts : (s : FlowSender) (ns : List ℕ) → IsFed s → AreWithin s.numbers.base s.numbers.next ns → AreDts s ns (all_dts s ns)
many_dts s [] f within = none_sent s
many_dts s (n ∷ ns) f within = more_dts s n ns (dts_of s n) (all_dts s ns)
    (numbered_dt s n (omega (arith, f.first, within.0)) (omega (arith, within.1, f.high, f.reach))) (many_dts s ns f within.2)

-- nothing but an ED went
pub record IsSilent (s : FlowSender) (z : Sendings) : Type 0 where
  alike : IsAlike s z.sender
  pub is_open : z.sender.is_open ≡ s.is_open
  window : z.sender.window ≡ s.window
  queue : z.sender.queue ≡ s.queue
  sent : AreDts s [] z.tpdus
  quiet : shown_in z.events ≡ []

an_ed : (s : FlowSender) (n : ℕ) (units : List (List ℕ)) → AreDts s [] (eds s n units)
an_ed s n [] = none_sent s
an_ed s n (unit ∷ units) = record { dts = refl; aks = refl; eas = refl; right = λ all c. refl; data_are = (record { to = refl; format = refl; sum = refl; kind = refl }, tt) }

same : (s : FlowSender) → IsSilent s (nothing s)
same s = record { alike = record { rules = refl; clock = refl; numbers = refl }; is_open = refl; window = refl; queue = refl; sent = none_sent s; quiet = refl }

urgent_silent : (s : FlowSender) → IsSilent s (one_urgent s)
urgent_silent s =
    if_kept (IsSilent s) (is_some s.urgent.out || length s.urgent.units == 0) _ _ (λ _. same s)
    (λ _. if_kept (IsSilent s) (rule_allows s s.urgent.blocks s.urgent.next) _ _
    (λ _. record { alike = record { rules = refl; clock = refl; numbers = refl }; is_open = refl; window = refl; queue = refl; sent = an_ed s s.urgent.next s.urgent.units; quiet = refl })
    (λ _. if_kept (IsSilent s) (is_noted s.urgent.noted s.urgent.next) _ _ (λ _. same s)
    (λ _. record { alike = record { rules = refl; clock = refl; numbers = refl }; is_open = refl; window = refl; queue = refl; sent = none_sent s; quiet = refl })))

pub again_silent : (s : FlowSender) (out : Option Tries) → IsSilent s (resends_urgent_as out s)
again_silent s None = same s
again_silent s (Some tries) = if_kept (IsSilent s) (is_due s.rules.t1 s.clock tries) _ _
    (λ _. record { alike = record { rules = refl; clock = refl; numbers = refl }; is_open = refl; window = refl; queue = refl; sent = an_ed s (s.urgent.next - 1) s.urgent.units; quiet = refl })
    (λ _. same s)

silent_fed : (s : FlowSender) (z : Sendings) → IsSilent s z → IsFed s → IsFed z.sender
silent_fed s z e f =
    let base : z.sender.numbers.base ≡ s.numbers.base = ap (λ (n : Sender). n.base) e.alike.numbers in
    let next : z.sender.numbers.next ≡ s.numbers.next = ap (λ (n : Sender). n.next) e.alike.numbers in
    let high : z.sender.numbers.blocks.high ≡ s.numbers.blocks.high = ap (λ (n : Sender). n.blocks.high) e.alike.numbers in
    let first : z.sender.queue.first ≡ s.queue.first = ap (λ (q : Queue). q.first) e.queue in
    let reach : end_of z.sender.rules.piece z.sender.queue ≡ end_of s.rules.piece s.queue = λ i. end_of ((e.alike.rules i).piece) (e.queue i) in
    let size : length z.sender.window ≡ length s.window = ap (λ (l : List Tries). length l) e.window in
    record { is_open = e.is_open ∙ f.is_open; first = omega (arith, f.first, base, first); window = omega (arith, f.window, base, next, size); high = omega (arith, f.high, next, high); reach = omega (arith, f.reach, high, reach) }

-- new sends leave the queue
normals_queue : (fuel : ℕ) (s : FlowSender) → (normals fuel s).sender.queue ≡ s.queue
normals_queue zero s = refl
normals_queue (suc fuel) s =
    let P = λ (x : Sendings). x.sender.queue ≡ s.queue in
    if_kept P (not (has_next s)) _ _ (λ _. refl)
    (λ _. if_kept P (rule_allows s s.numbers.blocks s.numbers.next) _ _ (λ _. normals_queue fuel (sent_normal s)) (λ _. if_kept P (is_noted s.noted s.numbers.next) _ _ (λ _. refl) (λ _. refl)))

where_queue : (s : FlowSender) → (normals_where s).sender.queue ≡ s.queue
where_queue s = if_kept (λ (x : Sendings). x.sender.queue ≡ s.queue) (is_urgent s) _ _ (λ _. refl) (λ _. normals_queue (end_of s.rules.piece s.queue - s.numbers.next) s)

new_queue : (s : FlowSender) → (new_sends s).sender.queue ≡ s.queue
new_queue s = if_kept (λ (x : Sendings). x.sender.queue ≡ s.queue) s.is_open _ _ (λ _. where_queue (one_urgent s).sender ∙ (urgent_silent s).queue) (λ _. refl)

module _ (life size u : ℕ) where
  abbrev Out : FlowSender → Half → Aside → Aside → Sendings → Type 0
  Out s h x y z = GoesOut life size u s h x y z

  -- nothing but an ED goes
  silent : (s : FlowSender) (h : Half) (x : Aside) (z : Sendings) → IsFed s → IsSilent s z → Out s h x x z
  silent s h x z f e = record {
    ns = [];
    goes = record { moves = []; are = λ i. road_of s.clock (e.alike.numbers i) h (record x { sends = append-nil x.sends i; dts = append-nil x.dts i }) };
    rules = e.alike.rules;
    clock = e.alike.clock;
    fed = silent_fed s z e f;
    tried = λ sends d. subst (AreTried u z.sender.numbers.base z.sender.window) (sym (append-nil sends))
        (subst (λ (n : Sender). AreTried u n.base z.sender.window sends) (sym e.alike.numbers) (subst (λ (l : List Tries). AreTried u s.numbers.base l sends) (sym e.window) d));
    dts = e.sent.dts;
    aks = e.sent.aks;
    eas = e.sent.eas;
    right = λ all c. e.sent.right all (cut_from all s z.sender e.queue e.alike.rules c);
    data_are = e.sent.data_are;
    quiet = e.quiet;
  }

  -- one after the other
  seq : (s : FlowSender) (h : Half) (x y : Aside) (z : Sendings) (next : FlowSender → Sendings) → Out s h x y z → (next z.sender).sender.queue ≡ z.sender.queue → ((k : Aside) → Out z.sender h k k (next z.sender)) → Out s h x y (then_sends z next)
  seq s h x y z next a queue b =
      let k : Aside = sent_aside y (sent_at s.clock a.ns) in
      let v : Sendings = next z.sender in
      let c : Out z.sender h k k v = b k in
      let goes : GoesOn (rules_by life s.rules) size u (road_of s.clock z.sender.numbers h k) (road_of s.clock v.sender.numbers h (sent_aside k (sent_at s.clock c.ns))) =
      subst (λ (f : FlowRules). GoesOn (rules_by life f) size u (road_of s.clock z.sender.numbers h k) (road_of s.clock v.sender.numbers h (sent_aside k (sent_at s.clock c.ns)))) a.rules
      (subst (λ (now : ℕ). GoesOn (rules_by life z.sender.rules) size u (road_of now z.sender.numbers h k) (road_of now v.sender.numbers h (sent_aside k (sent_at now c.ns)))) a.clock c.goes) in
      record {
        ns = a.ns ++ c.ns;
        goes = record {
          moves = a.goes.moves ++ goes.moves;
          are = subst (λ (w : Aside). Moves (rules_by life s.rules) size u (road_of s.clock s.numbers h x) (a.goes.moves ++ goes.moves) (road_of s.clock v.sender.numbers h w))
              (regroup y (sent_at s.clock a.ns) (sent_at s.clock c.ns) ∙ ap (sent_aside y) (sym (sent_at_then s.clock a.ns c.ns)))
              (moves_then (rules_by life s.rules) size u _ _ _ a.goes.moves goes.moves a.goes.are goes.are);
        };
        rules = c.rules ∙ a.rules;
        clock = c.clock ∙ a.clock;
        fed = c.fed;
        tried = λ sends d. subst (AreTried u v.sender.numbers.base v.sender.window)
            (append_assoc sends (sent_at s.clock a.ns) (sent_at s.clock c.ns) ∙ ap (λ (l : List (ℕ × ℕ)). sends ++ l) (sym (sent_at_then s.clock a.ns c.ns)))
            (subst (λ (now : ℕ). AreTried u v.sender.numbers.base v.sender.window ((sends ++ sent_at s.clock a.ns) ++ sent_at now c.ns)) a.clock (c.tried (sends ++ sent_at s.clock a.ns) (a.tried sends d)));
        dts = dts_then z.tpdus v.tpdus ∙ (λ i. a.dts i ++ c.dts i)
            ∙ (λ i. dts_on (block_in s) (sent_at s.clock a.ns) ++ dts_on (block_of ((a.rules i).format)) (sent_at (a.clock i) c.ns))
            ∙ sym (dts_on_then (block_in s) (sent_at s.clock a.ns) (sent_at s.clock c.ns))
            ∙ ap (dts_on (block_in s)) (sym (sent_at_then s.clock a.ns c.ns));
        aks = aks_then z.tpdus v.tpdus ∙ (λ i. a.aks i ++ c.aks i);
        eas = eas_then z.tpdus v.tpdus ∙ (λ i. a.eas i ++ c.eas i);
        right = λ all cut. right all a.ns c.ns (a.right all (cut_from all z.sender v.sender queue c.rules cut))
            (subst (λ (now : ℕ). AreCut s.rules.piece all (sent_at now c.ns) (pieces_in v.tpdus)) a.clock (subst (λ (r : FlowRules). AreCut r.piece all (sent_at z.sender.clock c.ns) (pieces_in v.tpdus)) a.rules (c.right all cut)));
        data_are = data_then s.rules z.tpdus v.tpdus a.data_are (subst (λ (r : FlowRules). AreData r v.tpdus) a.rules c.data_are);
        quiet = shown-append z.events v.events ∙ (λ i. a.quiet i ++ c.quiet i);
      }
    where
      right : (all : List (List ℕ)) (ns ms : List ℕ) → AreCut s.rules.piece all (sent_at s.clock ns) (pieces_in z.tpdus) → AreCut s.rules.piece all (sent_at s.clock ms) (pieces_in (next z.sender).tpdus)
          → AreCut s.rules.piece all (sent_at s.clock (ns ++ ms)) (pieces_in (z.tpdus ++ (next z.sender).tpdus))
      right all ns ms f g = subst (λ (l : List (ℕ × ℕ)). AreCut s.rules.piece all l (pieces_in (z.tpdus ++ (next z.sender).tpdus))) (sym (sent_at_then s.clock ns ms))
          (subst (AreCut s.rules.piece all (sent_at s.clock ns ++ sent_at s.clock ms)) (sym (pieces_then z.tpdus (next z.sender).tpdus))
          (cut_then s.rules.piece all (sent_at s.clock ns) (sent_at s.clock ms) (pieces_in z.tpdus) (pieces_in (next z.sender).tpdus) f g))

  -- DTs with these numbers go, and the half goes on to t
  sent_out : (s t : FlowSender) (h : Half) (x y : Aside) (ns : List ℕ) (tpdus : List Sent) → AreDts s ns tpdus → GoesOn (rules_by life s.rules) size u (road_of s.clock s.numbers h x) (road_of s.clock t.numbers h (sent_aside y (sent_at s.clock ns)))
      → IsFed (record t { rules = s.rules; clock = s.clock }) → ((sends : List (ℕ × ℕ)) → AreTried u s.numbers.base s.window sends → AreTried u t.numbers.base t.window (sends ++ sent_at s.clock ns))
      → ((all : List (List ℕ)) → IsCutFrom all (record t { rules = s.rules }) → AreCut s.rules.piece all (sent_at s.clock ns) (pieces_in tpdus))
      → Out s h x y (record { sender = record t { rules = s.rules; clock = s.clock }; events = []; tpdus = tpdus })
  sent_out s t h x y ns tpdus sent goes fed tried right = record {
    ns = ns;
    goes = goes;
    rules = refl;
    clock = refl;
    fed = fed;
    tried = tried;
    dts = sent.dts;
    aks = sent.aks;
    eas = sent.eas;
    right = right;
    data_are = sent.data_are;
    quiet = refl;
  }

  one : (s : FlowSender) (h : Half) (x : Aside) → IsFed s → s.numbers.next < s.numbers.base + s.numbers.credit → s.numbers.next < end_of s.rules.piece s.queue → rule_allows s s.numbers.blocks s.numbers.next ≡ true
      → Out s h x x (one_normal s)
  one s h x f below there rule =
      let sent = numbered_dt s s.numbers.next (omega (arith, f.first, f.window)) there in
      sent_out s (sent_normal s) h x x (s.numbers.next ∷ []) (dts_of s s.numbers.next) sent (record { moves = Sends ∷ []; are = ((below, rule), refl) }) (sent_fed s f there)
      (λ sends d. tried_push u s.numbers.base s.clock s.numbers.next s.window sends f.window d) sent.right

  normals_out : (fuel : ℕ) (s : FlowSender) (h : Half) (x : Aside) → IsFed s → Out s h x x (normals fuel s)
  normals_out zero s h x f = silent s h x (nothing s) f (same s)
  normals_out (suc fuel) s h x f =
      if_kept (Out s h x x) (not (has_next s)) _ _ (λ _. silent s h x (nothing s) f (same s))
      (λ more.
      let parts = and_parts (nat_lt s.numbers.next (s.numbers.base + s.numbers.credit)) (nat_lt s.numbers.next (end_of s.rules.piece s.queue)) (not-false (has_next s) more) in
      if_kept (Out s h x x) (rule_allows s s.numbers.blocks s.numbers.next) _ _
      (λ rule. seq s h x x (one_normal s) (normals fuel) (one s h x f (ltb-true _ _ parts.0) (ltb-true _ _ parts.1) rule) (normals_queue fuel (sent_normal s))
      (λ k. normals_out fuel (sent_normal s) h k (sent_fed s f (ltb-true _ _ parts.1))))
      (λ _. if_kept (Out s h x x) (is_noted s.noted s.numbers.next) _ _ (λ _. silent s h x (nothing s) f (same s))
      (λ _. silent s h x _ f (record { alike = record { rules = refl; clock = refl; numbers = refl }; is_open = refl; window = refl; queue = refl; sent = none_sent s; quiet = refl }))))

  where_out : (s : FlowSender) (h : Half) (x : Aside) → IsFed s → Out s h x x (normals_where s)
  where_out s h x f = if_kept (Out s h x x) (is_urgent s) _ _ (λ _. silent s h x (nothing s) f (same s)) (λ _. normals_out (end_of s.rules.piece s.queue - s.numbers.next) s h x f)

  new_out : (s : FlowSender) (h : Half) (x : Aside) → IsFed s → Out s h x x (new_sends s)
  new_out s h x f = if_kept (Out s h x x) s.is_open _ _
      (λ _. seq s h x x (one_urgent s) normals_where (silent s h x (one_urgent s) f (urgent_silent s)) (where_queue (one_urgent s).sender)
      (λ k. where_out (one_urgent s).sender h k (silent_fed s (one_urgent s) (urgent_silent s) f)))
      (λ _. silent s h x (nothing s) f (same s))

  -- from a half with the same numbers, on the same terms
  from : (s t : FlowSender) (h : Half) (x : Aside) (z : Sendings) → t.rules ≡ s.rules → t.clock ≡ s.clock → t.numbers ≡ s.numbers → t.window ≡ s.window → Out t h x x z → Out s h x x z
  from s t h x z rules clock numbers window r = record {
    ns = r.ns;
    goes = subst (λ (f : FlowRules). GoesOn (rules_by life f) size u (road_of s.clock s.numbers h x) (road_of s.clock z.sender.numbers h (sent_aside x (sent_at s.clock r.ns)))) rules
        (subst (λ (now : ℕ). GoesOn (rules_by life t.rules) size u (road_of now s.numbers h x) (road_of now z.sender.numbers h (sent_aside x (sent_at now r.ns)))) clock
        (subst (λ (n : Sender). GoesOn (rules_by life t.rules) size u (road_of t.clock n h x) (road_of t.clock z.sender.numbers h (sent_aside x (sent_at t.clock r.ns)))) numbers r.goes));
    rules = r.rules ∙ rules;
    clock = r.clock ∙ clock;
    fed = r.fed;
    tried = λ sends d. subst (λ (now : ℕ). AreTried u z.sender.numbers.base z.sender.window (sends ++ sent_at now r.ns)) clock
        (r.tried sends (subst (λ (n : Sender). AreTried u n.base t.window sends) (sym numbers) (subst (λ (l : List Tries). AreTried u s.numbers.base l sends) (sym window) d)));
    dts = r.dts ∙ (λ i. dts_on (block_of ((rules i).format)) (sent_at (clock i) r.ns));
    aks = r.aks;
    eas = r.eas;
    right = λ all c. subst (λ (now : ℕ). AreCut s.rules.piece all (sent_at now r.ns) (pieces_in z.tpdus)) clock
        (subst (λ (f : FlowRules). AreCut f.piece all (sent_at t.clock r.ns) (pieces_in z.tpdus)) rules (r.right all c));
    data_are = subst (λ (f : FlowRules). AreData f z.tpdus) rules r.data_are;
    quiet = r.quiet;
  }

  submit_out : (s : FlowSender) (h : Half) (x : Aside) (unit : List ℕ) → IsFed s → Out s h x x (submitted s unit)
  submit_out s h x unit f =
      let t : FlowSender = record s { queue = record s.queue { units = s.queue.units ++ unit ∷ [] } } in
      from s t h x (new_sends t) refl refl refl refl (new_out t h x (record {
        is_open = f.is_open;
        first = f.first;
        window = f.window;
        high = f.high;
        reach = omega (arith, f.reach, sum_by-append (count_in s.rules.piece) s.queue.units (unit ∷ []));
      }))

  urge_out : (s : FlowSender) (h : Half) (x : Aside) (unit : List ℕ) → IsFed s → Out s h x x (urged s unit)
  urge_out s h x unit f =
      let t : FlowSender = record s { urgent = record s.urgent { units = s.urgent.units ++ unit ∷ [] } } in
      from s t h x (new_sends t) refl refl refl refl (new_out t h x (record { is_open = f.is_open; first = f.first; window = f.window; high = f.high; reach = f.reach }))

  done_out : (s : FlowSender) (h : Half) (x : Aside) (w : ℕ) → IsFed s → Out s h x x (urgent_done s w)
  done_out s h x w f = if_kept (Out s h x x) (is_outstanding s w) _ _
      (λ _.
      let t : FlowSender = record s { urgent = record s.urgent { units = drop 1 s.urgent.units; out = None } } in
      from s t h x (new_sends t) refl refl refl refl (new_out t h x (record { is_open = f.is_open; first = f.first; window = f.window; high = f.high; reach = f.reach })))
      (λ _. silent s h x (nothing s) f (same s))

  -- ---- an AK

  ak_by : (s : FlowSender) (h : Half) (x y : Aside) (a : Answer) (move : Move) → IsFed s
      → Moves (rules_by life s.rules) size u (road_of s.clock s.numbers h x) (move ∷ [])
      (road_of s.clock (told s.numbers (near (block_in s) s.numbers.base (wire (block_in s) a.number)) a.credit a.subsequence) h y)
      → Out s h x y (acknowledged s (wire (block_in s) a.number) a.credit a.subsequence)
  ak_by s h x y a move f first =
      if_kept (Out s h x y) (is_taken s n a.credit a.subsequence) _ _
      (λ taken.
      let is = told_is s n a.credit a.subsequence taken in
      let t : FlowSender = acknowledged_to s n a.credit a.subsequence in
      let fed = heard_fed s n a.credit a.subsequence f taken in
      let heard : Out s h x y (nothing t) = sent_out s t h x y [] [] (none_sent s) (record { moves = move ∷ []; are = ended t.numbers first }) fed
      (λ sends d. subst (AreTried u t.numbers.base t.window) (sym (append-nil sends))
      (subst (λ (k : ℕ). AreTried u k t.window sends) (at_base (ap (λ (m : Sender). m.base) is))
      (tried_take u (t.numbers.next - n) (s.numbers.base + (n - s.numbers.base)) (drop (n - s.numbers.base) s.window) sends (tried_drop u (n - s.numbers.base) s.numbers.base s.window sends d)))) (λ all c. refl) in
      seq s h x y (nothing t) new_sends heard (new_queue t) (λ k. new_out t h k fed))
      (λ no. sent_out s s h x y [] [] (none_sent s)
      (record { moves = move ∷ []; are = ended s.numbers (subst (λ (m : Sender). Moves (rules_by life s.rules) size u (road_of s.clock s.numbers h x) (move ∷ []) (road_of s.clock m h y)) (told_same s n a.credit a.subsequence no) first) }) f
      (λ sends d. subst (AreTried u s.numbers.base s.window) (sym (append-nil sends)) d) (λ all c. refl))
    where
      n : ℕ
      n = near (block_in s) s.numbers.base (wire (block_in s) a.number)

      at_base : {base : ℕ} → base ≡ n → s.numbers.base + (n - s.numbers.base) ≡ base
      at_base e = omega (arith, e)

      ended : (m : Sender) → Moves (rules_by life s.rules) size u (road_of s.clock s.numbers h x) (move ∷ []) (road_of s.clock m h y)
          → Moves (rules_by life s.rules) size u (road_of s.clock s.numbers h x) (move ∷ []) (road_of s.clock m h (sent_aside y (sent_at s.clock [])))
      ended m g = subst (λ (k : Aside). Moves (rules_by life s.rules) size u (road_of s.clock s.numbers h x) (move ∷ []) (road_of s.clock m h k))
          (λ i. record y { sends = sym (append-nil y.sends) i; dts = sym (append-nil y.dts) i }) g

  pub first_ak_out : (s : FlowSender) (h : Half) (x : Aside) (a : Answer) (rest : List Answer) → IsFed s → x.aks ≡ a ∷ rest → Contains x.answers a → s.clock ≤ a.tick + life
      → Out s h x (record x { aks = rest }) (acknowledged s (wire (block_in s) a.number) a.credit a.subsequence)
  first_ak_out s h x a rest f first said live = ak_by s h x (record x { aks = rest }) a (Ak_arrives a rest) f ((first, (said, live)), refl)

  -- ---- a tick

  again_out : (s : FlowSender) (h : Half) (x : Aside) → IsFed s → Out s h x x (resends s)
  again_out s h x f =
      let within = due_within s.rules.t1 s.clock s.numbers.base s.numbers.next s.numbers.base s.window (omega arith) (omega (arith, f.window)) in
      let sent = many_dts s (due_numbers s) f within in
      sent_out s (resends s).sender h x x (due_numbers s) (all_dts s (due_numbers s)) sent (again_goes life size u s.rules s.clock (due_numbers s) s.numbers h x within) (again_fed s f within)
      (λ sends d. tried_again u s.rules.t1 s.clock s.numbers.base s.window sends d) sent.right

  ticks_out : (s : FlowSender) (h : Half) (x : Aside) (goes : Life) → IsFed s → Out s h x x (ticked_as goes s)
  ticks_out s h x Exhausted f = silent s h x (nothing s) f (same s)
  ticks_out s h x Goes f =
      let first : Out s h x x (resends s) = again_out s h x f in
      let t : FlowSender = (resends s).sender in
      let v : Sendings = resends_urgent_as t.urgent.out t in
      let second : Out s h x x (then_sends (resends s) resends_urgent) = seq s h x x (resends s) resends_urgent first (again_silent t t.urgent.out).queue (λ k. silent t h k v first.fed (again_silent t t.urgent.out)) in
      seq s h x x (then_sends (resends s) resends_urgent) new_sends second (new_queue v.sender) (λ k. new_out v.sender h k second.fed)

  pub calls_out : (s : FlowSender) (h : Half) (x : Aside) (unit : List ℕ) (w : ℕ) → IsFed s
      → Out s h x x (submitted s unit) × Out s h x x (urged s unit) × Out s h x x (urgent_done s w) × Out s h x x (ticked s)
  calls_out s h x unit w f = (submit_out s h x unit f, urge_out s h x unit f, done_out s h x w f, ticks_out s h x (life_of s) f)
