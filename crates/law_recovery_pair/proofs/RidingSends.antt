-- The calls of a sending half are moves of the road.
use Rattle.std.proofs.Common.{◌≡◌, ℕ, zero, suc, ◌+◌, ◌-◌, ◌<◌, ◌≤◌, ◌==◌, ◌||◌, ◌&&◌, nat_le, nat_lt, Bool, true, false, List, [], ◌∷◌, ◌++◌, length, Option, Some, None, refl, sym, ◌∙◌, ap, subst, arith, append-nil, append_assoc, Contains, true≢false}
use Rattle.std.specs.Prelude.{not, is_some}
use Rattle.std.proofs.lemmas.Bool.{and_parts, ltb-true, not-false}
use Rattle.std.proofs.lemmas.Bool.Decides.{nat_tests}
use Rattle.tp4_flow.specs.ReceivingHalf.{Half}
use Rattle.tp4_flow.specs.declared.rules.FlowRules.{FlowRules}
use Rattle.tp4_flow.specs.declared.rules.Life.{Life}
use Rattle.tp4_flow.specs.declared.rules.Life.TheVariants.{Goes, Exhausted}
use Rattle.tp4_number.specs.Formats.{block_of}
use Rattle.tp4_number.specs.Number.{near, wire}
use Rattle.tp4_number.specs.Sender.{Sender, is_newer, marked, told}
use Rattle.tp4_number.specs.Traffic.{Answer, Rules}
use Rattle.tp4_number.proofs.Past.{if_kept}
use Rattle.tp4_sending.specs.SendingHalf.{FlowSender, Sendings, block_in, rule_allows, is_noted, one_urgent, sent_normal, has_next, normals, is_urgent, normals_where, new_sends, submitted, urged, acknowledged, is_taken, acknowledged_to, marked_all, resends, resends_urgent_as, due_numbers, life_of, ticked_as, ticked}
use Rattle.tp4_sending.specs.Pieces.{due_from, end_of, is_due}
use Rattle.tp4_sending.specs.declared.tries.Tries.{Tries}
use Rattle.law_recovery_pair.specs.Recovering.{Ak_arrives, Late_ak, Move, Moves, Resends, Road, Sends, moved}
use Rattle.law_recovery_pair.specs.Riding.{Aside, HearsOn, SendsOn, road_of, rules_by, sent_aside, sent_at}

-- ---- moves one after another

pub moves_then : (rules : Rules) (size u : ℕ) (old mid new : Road) (a b : List Move) → Moves rules size u old a mid → Moves rules size u mid b new → Moves rules size u old (a ++ b) new
moves_then rules size u old mid new [] b p q = subst (λ (r : Road). Moves rules size u r b new) p q
moves_then rules size u old mid new (move ∷ a) b p q = (p.0, moves_then rules size u (moved rules old move) mid new a b p.1 q)

pub sent_at_then : (tick : ℕ) (a b : List ℕ) → sent_at tick (a ++ b) ≡ sent_at tick a ++ sent_at tick b
sent_at_then tick [] b = refl
sent_at_then tick (n ∷ a) b = ap (λ (l : List (ℕ × ℕ)). (n, tick) ∷ l) (sent_at_then tick a b)

pub regroup : (x : Aside) (l m : List (ℕ × ℕ)) → sent_aside (sent_aside x l) m ≡ sent_aside x (l ++ m)
regroup x l m = λ i. record x { sends = append_assoc x.sends l m i; dts = append_assoc x.dts l m i }

-- numbers that are not acknowledged
abbrev pub AreWithin : ℕ → ℕ → List ℕ → Type 0
AreWithin low high [] = Unit {0}
AreWithin low high (n ∷ ns) = (low ≤ n) × (n < high) × AreWithin low high ns

pub due_within : (t1 now low high n : ℕ) (window : List Tries) → low ≤ n → length window + n ≤ high → AreWithin low high (due_from t1 now n window)
due_within t1 now low high n [] up end = tt
due_within t1 now low high n (tries ∷ window) up end =
    let rest = due_within t1 now low high (n + 1) window (omega (arith, up)) (omega (arith, end)) in
    if_kept (AreWithin low high) (is_due t1 now tries) _ _ (λ _. (up, omega (arith, end), rest)) (λ _. rest)

-- the same numbers, at the same tick, on the same terms
pub record IsAlike (s t : FlowSender) : Type 0 where
  pub rules : t.rules ≡ s.rules
  pub clock : t.clock ≡ s.clock
  pub numbers : t.numbers ≡ s.numbers

alike : (s : FlowSender) → IsAlike s s
alike s = record { rules = refl; clock = refl; numbers = refl }

pub urgent_alike : (s : FlowSender) → IsAlike s (one_urgent s).sender
urgent_alike s =
    let P = λ (y : Sendings). IsAlike s y.sender in
    if_kept P (is_some s.urgent.out || length s.urgent.units == 0) _ _ (λ _. alike s)
    (λ _. if_kept P (rule_allows s s.urgent.blocks s.urgent.next) _ _ (λ _. record { rules = refl; clock = refl; numbers = refl })
    (λ _. if_kept P (is_noted s.urgent.noted s.urgent.next) _ _ (λ _. alike s) (λ _. record { rules = refl; clock = refl; numbers = refl })))

pub again_alike : (s : FlowSender) (out : Option Tries) → IsAlike s (resends_urgent_as out s).sender
again_alike s None = alike s
again_alike s (Some tries) = if_kept (λ (y : Sendings). IsAlike s y.sender) (is_due s.rules.t1 s.clock tries) _ _ (λ _. record { rules = refl; clock = refl; numbers = refl }) (λ _. alike s)

-- an AK that is not taken changes nothing
pub told_same : (s : FlowSender) (n credit subsequence : ℕ) → is_taken s n credit subsequence ≡ false → told s.numbers n credit subsequence ≡ s.numbers
told_same s n credit subsequence e =
    let P = λ (t : Sender). t ≡ s.numbers in
    if_kept P (nat_lt s.numbers.blocks.high n) _ _ (λ _. refl)
    (λ low. if_kept P (is_newer s.numbers n credit subsequence) _ _ (λ newer. absurd (by (nat_le n s.numbers.blocks.high) (is_newer s.numbers n credit subsequence) (within low) newer e)) (λ _. refl))
  where
    within : nat_lt s.numbers.blocks.high n ≡ false → nat_le n s.numbers.blocks.high ≡ true
    within low = grind (arith, nat_tests)

    by : (a b : Bool) → a ≡ true → b ≡ true → (a && b) ≡ false → ⊥
    by true true p q e = absurd (true≢false e)
    by true false p q e = absurd (true≢false (sym q))
    by false b p q e = absurd (true≢false (sym p))

module _ (life size u : ℕ) where
  sends_none : (f : FlowRules) (now : ℕ) (old : Sender) (h : Half) (x : Aside) → SendsOn life size u f now old h x old
  sends_none f now old h x = record { ns = []; goes = record { moves = []; are = λ i. road_of now old h (record x { sends = append-nil x.sends i; dts = append-nil x.dts i }) } }

  sends_then : (f : FlowRules) (now : ℕ) (old mid new : Sender) (h : Half) (x : Aside) → SendsOn life size u f now old h x mid → ((y : Aside) → SendsOn life size u f now mid h y new)
      → SendsOn life size u f now old h x new
  sends_then f now old mid new h x a b =
      let c : SendsOn life size u f now mid h (sent_aside x (sent_at now a.ns)) new = b (sent_aside x (sent_at now a.ns)) in
      record {
        ns = a.ns ++ c.ns;
        goes = record {
          moves = a.goes.moves ++ c.goes.moves;
          are = subst (λ (y : Aside). Moves (rules_by life f) size u (road_of now old h x) (a.goes.moves ++ c.goes.moves) (road_of now new h y))
              (regroup x (sent_at now a.ns) (sent_at now c.ns) ∙ ap (sent_aside x) (sym (sent_at_then now a.ns c.ns)))
              (moves_then (rules_by life f) size u (road_of now old h x) (road_of now mid h (sent_aside x (sent_at now a.ns))) (road_of now new h (sent_aside (sent_aside x (sent_at now a.ns)) (sent_at now c.ns)))
              a.goes.moves c.goes.moves a.goes.are c.goes.are);
        };
      }

  sends_alike : (s t : FlowSender) (h : Half) (x : Aside) (new : Sender) → IsAlike s t → SendsOn life size u t.rules t.clock t.numbers h x new → SendsOn life size u s.rules s.clock s.numbers h x new
  sends_alike s t h x new e on =
      subst (λ (f : FlowRules). SendsOn life size u f s.clock s.numbers h x new) e.rules
      (subst (λ (now : ℕ). SendsOn life size u t.rules now s.numbers h x new) e.clock
      (subst (λ (n : Sender). SendsOn life size u t.rules t.clock n h x new) e.numbers on))

  -- ---- new DTs

  one_send : (s : FlowSender) (h : Half) (x : Aside) → s.numbers.next < s.numbers.base + s.numbers.credit → rule_allows s s.numbers.blocks s.numbers.next ≡ true
      → SendsOn life size u s.rules s.clock s.numbers h x (sent_normal s).numbers
  one_send s h x below rule = record { ns = s.numbers.next ∷ []; goes = record { moves = Sends ∷ []; are = ((below, rule), refl) } }

  normals_move : (fuel : ℕ) (s : FlowSender) (h : Half) (x : Aside) → SendsOn life size u s.rules s.clock s.numbers h x (normals fuel s).sender.numbers
  normals_move zero s h x = sends_none s.rules s.clock s.numbers h x
  normals_move (suc fuel) s h x =
      let P = λ (y : Sendings). SendsOn life size u s.rules s.clock s.numbers h x y.sender.numbers in
      let none = sends_none s.rules s.clock s.numbers h x in
      if_kept P (not (has_next s)) _ _ (λ _. none)
      (λ more.
      let both = and_parts (nat_lt s.numbers.next (s.numbers.base + s.numbers.credit)) (nat_lt s.numbers.next (end_of s.rules.piece s.queue)) (not-false (has_next s) more) in
      if_kept P (rule_allows s s.numbers.blocks s.numbers.next) _ _
      (λ rule. sends_then s.rules s.clock s.numbers (sent_normal s).numbers (normals fuel (sent_normal s)).sender.numbers h x (one_send s h x (ltb-true _ _ both.0) rule)
      (λ y. normals_move fuel (sent_normal s) h y))
      (λ _. if_kept P (is_noted s.noted s.numbers.next) _ _ (λ _. none) (λ _. none)))

  where_move : (s : FlowSender) (h : Half) (x : Aside) → SendsOn life size u s.rules s.clock s.numbers h x (normals_where s).sender.numbers
  where_move s h x = if_kept (λ (y : Sendings). SendsOn life size u s.rules s.clock s.numbers h x y.sender.numbers) (is_urgent s) _ _
      (λ _. sends_none s.rules s.clock s.numbers h x) (λ _. normals_move (end_of s.rules.piece s.queue - s.numbers.next) s h x)

  pub new_move : (s : FlowSender) (h : Half) (x : Aside) → SendsOn life size u s.rules s.clock s.numbers h x (new_sends s).sender.numbers
  new_move s h x = if_kept (λ (y : Sendings). SendsOn life size u s.rules s.clock s.numbers h x y.sender.numbers) s.is_open _ _
      (λ _. sends_alike s (one_urgent s).sender h x _ (urgent_alike s) (where_move (one_urgent s).sender h x))
      (λ _. sends_none s.rules s.clock s.numbers h x)

  pub submit_move : (s : FlowSender) (h : Half) (x : Aside) (unit : List ℕ) → SendsOn life size u s.rules s.clock s.numbers h x (submitted s unit).sender.numbers
  submit_move s h x unit = new_move (record s { queue = record s.queue { units = s.queue.units ++ unit ∷ [] } }) h x

  pub urge_move : (s : FlowSender) (h : Half) (x : Aside) (unit : List ℕ) → SendsOn life size u s.rules s.clock s.numbers h x (urged s unit).sender.numbers
  urge_move s h x unit = new_move (record s { urgent = record s.urgent { units = s.urgent.units ++ unit ∷ [] } }) h x

  -- ---- an AK

  -- what goes after an AK was told
  hears_then : (s : FlowSender) (h : Half) (y : Aside) (a : Answer)
      → SendsOn life size u s.rules s.clock (told s.numbers (near (block_in s) s.numbers.base (wire (block_in s) a.number)) a.credit a.subsequence) h y (acknowledged s (wire (block_in s) a.number) a.credit a.subsequence).sender.numbers
  hears_then s h y a =
      let n = near (block_in s) s.numbers.base (wire (block_in s) a.number) in
      let after_it : Sender = told s.numbers n a.credit a.subsequence in
      if_kept (λ (z : Sendings). SendsOn life size u s.rules s.clock after_it h y z.sender.numbers) (is_taken s n a.credit a.subsequence) _ _
      (λ _. new_move (acknowledged_to s n a.credit a.subsequence) h y)
      (λ no. subst (λ (m : Sender). SendsOn life size u s.rules s.clock m h y s.numbers) (sym (told_same s n a.credit a.subsequence no)) (sends_none s.rules s.clock s.numbers h y))

  hears_by : (s : FlowSender) (h : Half) (x y : Aside) (a : Answer) (move : Move)
      → Moves (rules_by life s.rules) size u (road_of s.clock s.numbers h x) (move ∷ [])
      (road_of s.clock (told s.numbers (near (block_in s) s.numbers.base (wire (block_in s) a.number)) a.credit a.subsequence) h y)
      → HearsOn life size u s.rules s.clock s.numbers h x y (acknowledged s (wire (block_in s) a.number) a.credit a.subsequence).sender.numbers
  hears_by s h x y a move first =
      let c = hears_then s h y a in
      record {
        ns = c.ns;
        goes = record {
          moves = (move ∷ []) ++ c.goes.moves;
          are = moves_then (rules_by life s.rules) size u _ _ _ (move ∷ []) c.goes.moves first c.goes.are;
        };
      }

  pub first_ak_move : (s : FlowSender) (h : Half) (x : Aside) (a : Answer) (rest : List Answer) → x.aks ≡ a ∷ rest → Contains x.answers a → s.clock ≤ a.tick + life
      → HearsOn life size u s.rules s.clock s.numbers h x (record x { aks = rest }) (acknowledged s (wire (block_in s) a.number) a.credit a.subsequence).sender.numbers
  first_ak_move s h x a rest first said live = hears_by s h x (record x { aks = rest }) a (Ak_arrives a rest) ((first, (said, live)), refl)

  pub late_ak_move : (s : FlowSender) (h : Half) (x : Aside) (a : Answer) → a.tick < u → Contains x.answers a → s.clock ≤ a.tick + life
      → HearsOn life size u s.rules s.clock s.numbers h x x (acknowledged s (wire (block_in s) a.number) a.credit a.subsequence).sender.numbers
  late_ak_move s h x a old said live = hears_by s h x x a (Late_ak a) ((old, (said, live)), refl)

  -- ---- a tick

  again_move : (f : FlowRules) (now : ℕ) (ns : List ℕ) (numbers : Sender) (h : Half) (x : Aside) → AreWithin numbers.base numbers.next ns
      → SendsOn life size u f now numbers h x (record numbers { blocks = marked_all (block_of f.format) now numbers.blocks ns })
  again_move f now [] numbers h x within = sends_none f now numbers h x
  again_move f now (n ∷ ns) numbers h x within =
      let one : Sender = record numbers { blocks = marked (block_of f.format) numbers.blocks n now } in
      sends_then f now numbers one (record one { blocks = marked_all (block_of f.format) now one.blocks ns }) h x
      (record { ns = n ∷ []; goes = record { moves = Resends n ∷ []; are = ((within.0, within.1), refl) } })
      (λ y. again_move f now ns one h y within.2)

  ticks_by : (s : FlowSender) (h : Half) (x : Aside) (goes : Life) → length s.window + s.numbers.base ≡ s.numbers.next → SendsOn life size u s.rules s.clock s.numbers h x (ticked_as goes s).sender.numbers
  ticks_by s h x Exhausted window = sends_none s.rules s.clock s.numbers h x
  ticks_by s h x Goes window =
      let t : FlowSender = (resends s).sender in
      let v : FlowSender = (resends_urgent_as t.urgent.out t).sender in
      sends_then s.rules s.clock s.numbers t.numbers (new_sends v).sender.numbers h x
      (again_move s.rules s.clock (due_numbers s) s.numbers h x (due_within s.rules.t1 s.clock s.numbers.base s.numbers.next s.numbers.base s.window (omega arith) (omega (arith, window))))
      (λ y. sends_alike t v h y (new_sends v).sender.numbers (again_alike t t.urgent.out) (new_move v h y))

  pub tick_move : (s : FlowSender) (h : Half) (x : Aside) → length s.window + s.numbers.base ≡ s.numbers.next → SendsOn life size u s.rules s.clock s.numbers h x (ticked s).sender.numbers
  tick_move s h x window = ticks_by s h x (life_of s) window
