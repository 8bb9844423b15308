-- What each call of the halves sends has octets: numbers stand as they do on the wire, an ED has a unit of 1 to 16 octets, and a credit
-- has the bits of its format.
use Rattle.std.proofs.Common.{◌≡◌, ◌≤◌, ℕ, zero, suc, ◌-◌, Bool, true, ◌||◌, ◌==◌, List, [], ◌∷◌, ◌++◌, length, drop, Option, Some, None, refl, arith, nat_lt}
use Rattle.std.specs.Prelude.{not, is_some}
use Rattle.tpdu.specs.declared.tpdu.Format.{Format}
use Rattle.tpdu.specs.declared.tpdu.Format.TheVariants.{Normal, Extended}
use Rattle.tpdu.specs.Writing.{IsNumber, IsCredit}
use Rattle.tp4_number.specs.declared.got.Got.{Got}
use Rattle.tp4_number.specs.declared.got.Got.TheVariants.{Kept, TooLarge}
use Rattle.tp4_number.specs.declared.piece.Piece.{Piece}
use Rattle.tp4_number.specs.Formats.{block_of}
use Rattle.tp4_number.specs.Number.{wire, near}
use Rattle.tp4_number.specs.Receiver.{Inbox, arrived_as}
use Rattle.tp4_number.proofs.Past.{if_kept}
use Rattle.tp4_flow.specs.ReceivingHalf.{Half, ak, aks, ea, taken_ed, is_next, is_before, half_granted, allowed}
use Rattle.tp4_flow.specs.declared.rules.Life.{Life}
use Rattle.tp4_flow.specs.declared.rules.Life.TheVariants.{Goes, Exhausted}
use Rattle.tp4_flow.specs.declared.step.Sent.{Sent}
use Rattle.tp4_sending.specs.SendingHalf.{FlowSender, Sendings, nothing, before, then_sends, rule_allows, is_noted, is_urgent, has_next, dts, dts_of, eds, all_dts, due_numbers, sent_normal, normals, normals_where, one_urgent, resends, resends_urgent, resends_urgent_as, new_sends, opened, submitted, urged, acknowledged, acknowledged_to, is_taken, urgent_done, is_outstanding, ticked, ticked_as, life_of, block_in}
use Rattle.tp4_sending.specs.Pieces.{end_of, is_due}
use Rattle.tp4_sending.specs.declared.tries.Tries.{Tries}
use Rattle.tp4_conn.specs.Proper.{AreSendable, AreExpedited}

pub appended : (xs ys : List Sent) → AreSendable xs → AreSendable ys → AreSendable (xs ++ ys)
appended [] ys first second = second
appended (x ∷ xs) ys first second = (first.0, appended xs ys first.1 second)

pub wire_fits : (format : Format) (n : ℕ) → IsNumber format (wire (block_of format) n)
unfolding wire
wire_fits Normal n = omega arith
wire_fits Extended n = omega arith

-- a sending half after a call, and what it sent
pub record Sends (o : Bool) (x : Sendings) : Type 0 where
  pub tpdus : AreSendable x.tpdus
  pub t1 : 1 ≤ x.sender.rules.t1
  pub expedited : AreExpedited x.sender.urgent.units
  pub is_open : x.sender.is_open ≡ o

-- and before it
pub record Ready (o : Bool) (s : FlowSender) : Type 0 where
  pub t1 : 1 ≤ s.rules.t1
  pub expedited : AreExpedited s.urgent.units
  pub is_open : s.is_open ≡ o

ready_after : (o : Bool) (x : Sendings) → Sends o x → Ready o x.sender
ready_after o x h = record { t1 = h.t1; expedited = h.expedited; is_open = h.is_open }

no_sends : (o : Bool) (s : FlowSender) → Ready o s → Sends o (nothing s)
no_sends o s h = record { tpdus = tt; t1 = h.t1; expedited = h.expedited; is_open = h.is_open }

dts_fit : (s : FlowSender) (n : ℕ) (piece : Option Piece) → AreSendable (dts s n piece)
dts_fit s n None = tt
dts_fit s n (Some piece) = ((tt, wire_fits s.rules.format n), tt)

all_dts_fit : (s : FlowSender) (ns : List ℕ) → AreSendable (all_dts s ns)
all_dts_fit s [] = tt
all_dts_fit s (n ∷ ns) = appended (dts_of s n) (all_dts s ns) (dts_fit s n _) (all_dts_fit s ns)

eds_fit : (s : FlowSender) (n : ℕ) (units : List (List ℕ)) → AreExpedited units → AreSendable (eds s n units)
eds_fit s n [] h = tt
eds_fit s n (unit ∷ units) h = ((tt, (wire_fits s.rules.format n, h.0, h.1)), tt)

then_fits : (o : Bool) (x : Sendings) (next : FlowSender → Sendings) → Sends o x → ((s : FlowSender) → Ready o s → Sends o (next s)) → Sends o (then_sends x next)
then_fits o x next h rest =
    let y : Sends o (next x.sender) = rest x.sender (ready_after o x h) in
    record { tpdus = appended x.tpdus (next x.sender).tpdus h.tpdus y.tpdus; t1 = y.t1; expedited = y.expedited; is_open = y.is_open }

one_fits : (o : Bool) (s : FlowSender) → Ready o s → Sends o (one_urgent s)
one_fits o s h =
    if_kept (Sends o) (is_some s.urgent.out || length s.urgent.units == 0) _ _
    (λ _. no_sends o s h)
    (λ _. if_kept (Sends o) (rule_allows s s.urgent.blocks s.urgent.next) _ _
    (λ _. record { tpdus = eds_fit s s.urgent.next s.urgent.units h.expedited; t1 = h.t1; expedited = h.expedited; is_open = h.is_open })
    (λ _. if_kept (Sends o) (is_noted s.urgent.noted s.urgent.next) _ _
    (λ _. no_sends o s h)
    (λ _. record { tpdus = tt; t1 = h.t1; expedited = h.expedited; is_open = h.is_open })))

before_fits : (o : Bool) (tpdus : List Sent) (x : Sendings) → AreSendable tpdus → Sends o x → Sends o (before tpdus x)
before_fits o tpdus x first h = record { tpdus = appended tpdus x.tpdus first h.tpdus; t1 = h.t1; expedited = h.expedited; is_open = h.is_open }

normals_fit : (fuel : ℕ) (o : Bool) (s : FlowSender) → Ready o s → Sends o (normals fuel s)
normals_fit zero o s h = no_sends o s h
normals_fit (suc fuel) o s h =
    if_kept (Sends o) (not (has_next s)) _ _
    (λ _. no_sends o s h)
    (λ _. if_kept (Sends o) (rule_allows s s.numbers.blocks s.numbers.next) _ _
    (λ _. before_fits o (dts_of s s.numbers.next) (normals fuel (sent_normal s)) (dts_fit s s.numbers.next _)
    (normals_fit fuel o (sent_normal s) (record { t1 = h.t1; expedited = h.expedited; is_open = h.is_open })))
    (λ _. if_kept (Sends o) (is_noted s.noted s.numbers.next) _ _
    (λ _. no_sends o s h)
    (λ _. record { tpdus = tt; t1 = h.t1; expedited = h.expedited; is_open = h.is_open })))

where_fits : (o : Bool) (s : FlowSender) → Ready o s → Sends o (normals_where s)
where_fits o s h = if_kept (Sends o) (is_urgent s) _ _ (λ _. no_sends o s h) (λ _. normals_fit (end_of s.rules.piece s.queue - s.numbers.next) o s h)

new_fits : (o : Bool) (s : FlowSender) → Ready o s → Sends o (new_sends s)
new_fits o s h = if_kept (Sends o) s.is_open _ _ (λ _. then_fits o (one_urgent s) normals_where (one_fits o s h) (where_fits o)) (λ _. no_sends o s h)

pub opened_fits : (o : Bool) (s : FlowSender) → Ready o s → Sends true (opened s)
opened_fits o s h = new_fits true (record s { is_open = true }) (record { t1 = h.t1; expedited = h.expedited; is_open = refl })

pub submitted_fits : (o : Bool) (s : FlowSender) (unit : List ℕ) → Ready o s → Sends o (submitted s unit)
submitted_fits o s unit h =
    new_fits o (record s { queue = record s.queue { units = s.queue.units ++ unit ∷ [] } }) (record { t1 = h.t1; expedited = h.expedited; is_open = h.is_open })

one_more : (units : List (List ℕ)) (unit : List ℕ) → AreExpedited units → 1 ≤ length unit → length unit ≤ 16 → AreExpedited (units ++ unit ∷ [])
one_more [] unit h some few = (some, few, tt)
one_more (x ∷ units) unit h some few = (h.0, h.1, one_more units unit h.2 some few)

pub urged_fits : (o : Bool) (s : FlowSender) (unit : List ℕ) → Ready o s → 1 ≤ length unit → length unit ≤ 16 → Sends o (urged s unit)
urged_fits o s unit h some few =
    new_fits o (record s { urgent = record s.urgent { units = s.urgent.units ++ unit ∷ [] } })
    (record { t1 = h.t1; expedited = one_more s.urgent.units unit h.expedited some few; is_open = h.is_open })

pub acknowledged_fits : (o : Bool) (s : FlowSender) (w credit subsequence : ℕ) → Ready o s → Sends o (acknowledged s w credit subsequence)
acknowledged_fits o s w credit subsequence h =
    if_kept (Sends o) (is_taken s (near (block_in s) s.numbers.base w) credit subsequence) _ _
    (λ _. new_fits o (acknowledged_to s (near (block_in s) s.numbers.base w) credit subsequence) (record { t1 = h.t1; expedited = h.expedited; is_open = h.is_open }))
    (λ _. no_sends o s h)

one_less : (units : List (List ℕ)) → AreExpedited units → AreExpedited (drop 1 units)
one_less [] h = tt
one_less (x ∷ units) h = h.2

pub done_fits : (o : Bool) (s : FlowSender) (w : ℕ) → Ready o s → Sends o (urgent_done s w)
done_fits o s w h =
    if_kept (Sends o) (is_outstanding s w) _ _
    (λ _. new_fits o (record s { urgent = record s.urgent { units = drop 1 s.urgent.units; out = None } })
    (record { t1 = h.t1; expedited = one_less s.urgent.units h.expedited; is_open = h.is_open }))
    (λ _. no_sends o s h)

resends_fit : (o : Bool) (s : FlowSender) → Ready o s → Sends o (resends s)
resends_fit o s h = record { tpdus = all_dts_fit s (due_numbers s); t1 = h.t1; expedited = h.expedited; is_open = h.is_open }

again_fits : (o : Bool) (s : FlowSender) (out : Option Tries) → Ready o s → Sends o (resends_urgent_as out s)
again_fits o s None h = no_sends o s h
again_fits o s (Some tries) h =
    if_kept (Sends o) (is_due s.rules.t1 s.clock tries) _ _
    (λ _. record { tpdus = eds_fit s (s.urgent.next - 1) s.urgent.units h.expedited; t1 = h.t1; expedited = h.expedited; is_open = h.is_open })
    (λ _. no_sends o s h)

pub ticked_fits : (o : Bool) (s : FlowSender) → Ready o s → Sends o (ticked s)
ticked_fits o s h = by (life_of s)
  where
    by : (life : Life) → Sends o (ticked_as life s)
    by Exhausted = no_sends o s h
    by Goes =
        then_fits o (then_sends (resends s) resends_urgent) new_sends
        (then_fits o (resends s) resends_urgent (resends_fit o s h) (λ m ready. again_fits o m m.urgent.out ready)) (new_fits o)

-- the receiving half
pub ak_fits : (h : Half) → IsCredit h.rules.format h.receiver.inbox.credit → AreSendable (ak h ∷ [])
ak_fits h credit = ((refl, (wire_fits h.rules.format h.receiver.expected, credit)), tt)

pub aks_fit : (got : Got) (h : Half) → IsCredit h.rules.format h.receiver.inbox.credit → AreSendable (aks got h)
aks_fit TooLarge h credit = tt
aks_fit got h credit = ak_fits h credit

-- a DT leaves the credit
pub same_credit : (got : Got) (inbox : Inbox) (d : ℕ) (piece : Piece) → (arrived_as got inbox d piece).inbox.credit ≡ inbox.credit
same_credit Kept inbox d piece = refl
same_credit got inbox d piece = refl

pub ea_fits : (wrap : ℕ → ℕ → ℕ) (h : Half) (w : ℕ) (octets : List ℕ) → IsNumber h.rules.format w → AreSendable (taken_ed wrap h w octets).tpdus
ea_fits wrap h w octets fits = if_kept AreSendable (is_next h w || is_before h w) (ea h w ∷ []) [] (λ _. ((tt, fits), tt)) (λ _. tt)

allowed_fits : (format : Format) (credit : ℕ) → IsCredit format (allowed format credit)
allowed_fits Normal credit = omega arith
allowed_fits Extended credit = tt

pub granted_fits : (h : Half) (credit : ℕ) → IsCredit h.rules.format h.receiver.inbox.credit → IsCredit h.rules.format (half_granted h credit).receiver.inbox.credit
granted_fits h credit was =
    let fits : IsCredit h.rules.format (allowed h.rules.format credit) = allowed_fits h.rules.format credit in
    let P = λ (inbox : Inbox). IsCredit h.rules.format inbox.credit in
    if_kept P (nat_lt (allowed h.rules.format credit) h.receiver.inbox.credit) _ _
    (λ _. if_kept P (h.receiver.inbox.subsequence == 65535) _ _ (λ _. was) (λ _. fits))
    (λ _. fits)
