-- After the new sends a half is settled: what is next waits for credit, for an EA or for the number rule, and then it was told.
use Rattle.std.proofs.Common.{◌≡◌, ℕ, zero, suc, ◌+◌, ◌-◌, ◌<◌, ◌≤◌, Bool, true, false, ◌||◌, ◌==◌, nat_lt, nat_le, if◌then◌else◌, length, [], ◌∷◌, drop, Option, Some, None, refl, sym, ◌∙◌, ap, subst, arith}
use Rattle.std.specs.Prelude.{not, is_some}
use Rattle.std.proofs.lemmas.Bool.{or_parts, and_parts, le-ltb, and_right, ltb-true, eq-eqb, true≢false, false≢true}
use Rattle.tp4_flow.specs.declared.rules.Life.{Life}
use Rattle.tp4_flow.specs.declared.rules.Life.TheVariants.{Goes, Exhausted}
use Rattle.tpdu.specs.declared.service.HeldKind.TheVariants.{Dt, Ed}
use Rattle.tp4_number.specs.declared.blocks.Blocks.{Blocks}
use Rattle.tp4_number.specs.Sender.{opens_at}
use Rattle.tp4_sending.specs.SendingHalf.{FlowSender, nothing, before, then_sends, block_in, rule_allows, is_noted, holds, is_urgent, has_next, dts_of, sent_normal, normals, all_normals, normals_where, sent_urgent, one_urgent, eds, new_sends, is_taken, acknowledged, acknowledged_to, is_outstanding, urgent_done, ticked, ticked_as, life_of, resends, resends_urgent, resends_urgent_as, retried_urgent}
use Rattle.tp4_sending.specs.Pieces.{end_of, is_due}
use Rattle.tp4_sending.specs.Settled.{IsHeld, IsSettled, waits_urgent, waits_normal}
use Rattle.tp4_sending.specs.declared.tries.Tries.{Tries}
use Rattle.tp4_number.specs.Number.{near}

abbrev UrgentHeld : FlowSender → Type 0
UrgentHeld s = waits_urgent s ≡ true → IsHeld (block_in s) s.rules.limit s.urgent.blocks s.urgent.next s.urgent.noted

abbrev NormalHeld : FlowSender → Type 0
NormalHeld s = waits_normal s ≡ true → IsHeld (block_in s) s.rules.limit s.numbers.blocks s.numbers.next s.noted

pub settled_by : (s : FlowSender) → UrgentHeld s → NormalHeld s → IsSettled s
settled_by s u n = record { urgent = u; normal = n }

-- what the rule holds back now it holds back up to some tick
pub rule_waits : (s : FlowSender) (blocks : Blocks) (n : ℕ) → rule_allows s blocks n ≡ false → is_some (opens_at (block_in s) s.rules.limit blocks n) ≡ true
rule_waits s blocks n e =
    ap (λ (b : Bool). is_some (if b then None else Some (blocks.third + s.rules.limit + 1))) (or_parts (nat_lt n (blocks.first + block_in s) || nat_le blocks.first (block_in s)) _ e).0

pub itself : (n : ℕ) → (n == n) ≡ true
itself n = eq-eqb n n refl

not_now : (b : Bool) → b ≡ false → b ≡ true → ⊥
not_now b f t = true≢false (sym t ∙ f)

urgent_held : (s : FlowSender) → UrgentHeld (one_urgent s).sender
urgent_held s = by (is_some s.urgent.out || length s.urgent.units == 0) refl (rule_allows s s.urgent.blocks s.urgent.next) refl (is_noted s.urgent.noted s.urgent.next) refl
  where
    by : (busy : Bool) → (is_some s.urgent.out || length s.urgent.units == 0) ≡ busy → (allowed : Bool) → rule_allows s s.urgent.blocks s.urgent.next ≡ allowed
        → (noted : Bool) → is_noted s.urgent.noted s.urgent.next ≡ noted
        → UrgentHeld (if busy then nothing s
        else if allowed then record { sender = sent_urgent s; events = []; tpdus = eds s s.urgent.next s.urgent.units }
        else if noted then nothing s
        else record { sender = record s { urgent = record s.urgent { noted = Some s.urgent.next } }; events = holds s Ed s.urgent.next ∷ []; tpdus = [] }).sender
    by true e allowed r noted n waits = absurd (not_now (waits_urgent s) (ap not e) waits)
    by false e true r noted n waits = absurd (false≢true waits)
    by false e false r true n waits = record { rule = rule_waits s s.urgent.blocks s.urgent.next r; told = n }
    by false e false r false n waits = record { rule = rule_waits s s.urgent.blocks s.urgent.next r; told = itself s.urgent.next }

no_more : (s : FlowSender) → has_next s ≡ false → NormalHeld s
no_more s e waits = absurd (not_now (waits_normal s) (ap (λ (b : Bool). not (is_urgent s || not b)) e ∙ off (is_urgent s)) waits)
  where
    off : (b : Bool) → not (b || true) ≡ false
    off true = refl
    off false = refl

pub normals_settled : (fuel : ℕ) (s : FlowSender) → UrgentHeld s → end_of s.rules.piece s.queue - s.numbers.next ≤ fuel → IsSettled (normals fuel s).sender
normals_settled zero s u f =
    let out : nat_lt s.numbers.next (end_of s.rules.piece s.queue) ≡ false = le-ltb _ _ (omega (arith, f)) in
    settled_by s u (no_more s (and_right _ _ out))
normals_settled (suc fuel) s u f =
    by (has_next s) refl (rule_allows s s.numbers.blocks s.numbers.next) refl (is_noted s.noted s.numbers.next) refl
    (λ (more : has_next s ≡ true). normals_settled fuel (sent_normal s) u (let below : s.numbers.next < end_of s.rules.piece s.queue = ltb-true s.numbers.next (end_of s.rules.piece s.queue) (and_parts (nat_lt s.numbers.next (s.numbers.base + s.numbers.credit)) (nat_lt s.numbers.next (end_of s.rules.piece s.queue)) more).1 in omega (arith, below, f)))
  where
    by : (more : Bool) → has_next s ≡ more → (allowed : Bool) → rule_allows s s.numbers.blocks s.numbers.next ≡ allowed → (noted : Bool) → is_noted s.noted s.numbers.next ≡ noted
        → (has_next s ≡ true → IsSettled (normals fuel (sent_normal s)).sender)
        → IsSettled (if not more then nothing s
        else if allowed then before (dts_of s s.numbers.next) (normals fuel (sent_normal s))
        else if noted then nothing s
        else record { sender = record s { noted = Some s.numbers.next }; events = holds s Dt s.numbers.next ∷ []; tpdus = [] }).sender
    by false e allowed r noted n rest = settled_by s u (no_more s e)
    by true e true r noted n rest = rest e
    by true e false r true n rest = settled_by s u (λ _. record { rule = rule_waits s s.numbers.blocks s.numbers.next r; told = n })
    by true e false r false n rest = settled_by (record s { noted = Some s.numbers.next }) u (λ _. record { rule = rule_waits s s.numbers.blocks s.numbers.next r; told = itself s.numbers.next })

where_settled : (s : FlowSender) → UrgentHeld s → IsSettled (normals_where s).sender
where_settled s u = by (is_urgent s) refl
  where
    by : (b : Bool) → is_urgent s ≡ b → IsSettled (if b then nothing s else all_normals s).sender
    by true e = settled_by s u (λ waits. absurd (not_now (waits_normal s) (ap (λ (b : Bool). not (b || not (has_next s))) e) waits))
    by false e = normals_settled (end_of s.rules.piece s.queue - s.numbers.next) s u (omega arith)

pub new_settled : (s : FlowSender) → s.is_open ≡ true → IsSettled (new_sends s).sender
new_settled s open_now =
    subst (λ (b : Bool). IsSettled (if b then then_sends (one_urgent s) normals_where else nothing s).sender) (sym open_now) (where_settled (one_urgent s).sender (urgent_held s))

-- after each call
pub taken_settled : (s : FlowSender) (w credit subsequence : ℕ) → s.is_open ≡ true → IsSettled s → IsSettled (acknowledged s w credit subsequence).sender
taken_settled s w credit subsequence o h = by (is_taken s (near (block_in s) s.numbers.base w) credit subsequence)
  where
    by : (b : Bool) → IsSettled (if b then new_sends (acknowledged_to s (near (block_in s) s.numbers.base w) credit subsequence) else nothing s).sender
    by true = new_settled (acknowledged_to s (near (block_in s) s.numbers.base w) credit subsequence) o
    by false = h

pub done_settled : (s : FlowSender) (w : ℕ) → s.is_open ≡ true → IsSettled s → IsSettled (urgent_done s w).sender
done_settled s w o h = by (is_outstanding s w)
  where
    by : (b : Bool) → IsSettled (if b then new_sends (record s { urgent = record s.urgent { units = drop 1 s.urgent.units; out = None } }) else nothing s).sender
    by true = new_settled (record s { urgent = record s.urgent { units = drop 1 s.urgent.units; out = None } }) o
    by false = h

urgent_open : (s : FlowSender) (out : Option Tries) → s.is_open ≡ true → (resends_urgent_as out s).sender.is_open ≡ true
urgent_open s None o = o
urgent_open s (Some tries) o = by (is_due s.rules.t1 s.clock tries)
  where
    by : (b : Bool) → (if b then record { sender = retried_urgent s tries; events = []; tpdus = eds s (s.urgent.next - 1) s.urgent.units } else nothing s).sender.is_open ≡ true
    by true = o
    by false = o

pub tick_settled : (s : FlowSender) → s.is_open ≡ true → IsSettled s → IsSettled (ticked s).sender
tick_settled s o h = by (life_of s)
  where
    by : (life : Life) → IsSettled (ticked_as life s).sender
    by Exhausted = h
    by Goes = new_settled (resends_urgent (resends s).sender).sender (urgent_open (resends s).sender (resends s).sender.urgent.out o)
