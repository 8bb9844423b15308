-- Whom an end writes to: each row sends all its TPDUs to the address of the partner, which the end and its halves keep (X.224, class 4
-- state tables).
use Rattle.std.proofs.Common.{◌≡◌, ℕ, zero, suc, ◌+◌, ◌-◌, Bool, true, false, not, ◌&&◌, ◌||◌, ◌==◌, nat_lt, nat_le, List, [], ◌∷◌, ◌++◌, drop, length, Option, Some, None, if◌then◌else◌}
use Rattle.std.specs.Prelude.{is_some}
use Rattle.std.specs.List.{AllByRecursion}
use Rattle.osi_base.proofs.Members.{all_both}
use Rattle.tpdu.specs.declared.tpdu.Tpdu.{Tpdu}
use Rattle.tpdu.specs.declared.tpdu.Tpdu.TheVariants.{Cr, Cc, Dr, Dc, Dt, Ed, Ak, Ea, Er}
use Rattle.tp4_number.specs.declared.got.Got.{Got}
use Rattle.tp4_number.specs.declared.got.Got.TheVariants.{TooLarge}
use Rattle.tp4_number.specs.declared.piece.Piece.{Piece}
use Rattle.tp4_flow.specs.declared.rules.Life.{Life}
use Rattle.tp4_flow.specs.declared.rules.Life.TheVariants.{Goes, Exhausted as Spent}
use Rattle.tpdu.specs.declared.service.Options.{Options}
use Rattle.tp4_flow.specs.declared.step.EndEvent.{EndEvent}
use Rattle.tpdu.specs.declared.service.GoneCause.TheVariants.{Reason, Protocol, Inactive, Exhausted, AnswerTime}
use Rattle.tp4_flow.specs.declared.step.Sent.{Sent}
use Rattle.tp4_flow.specs.ReceivingHalf.{Half, Received, ak, aks, dt_arrival, half_after, half_granted, is_before, is_next, taken_dt, taken_ed}
use Rattle.tp4_sending.specs.declared.tries.Tries.{Tries}
use Rattle.tp4_sending.specs.SendingHalf.{FlowSender, Sendings, acknowledged, acknowledged_to, all_dts, at, block_in, dts, dts_of, due_numbers, eds, has_next, is_noted, is_outstanding, is_taken, is_urgent, life_of, new_sends, normals, normals_where, nothing, one_urgent, opened, resends, resends_urgent, resends_urgent_as, rule_allows, sent_normal, submitted, then_sends, ticked, ticked_as, urged, urgent_done}
use Rattle.tp4_sending.specs.Pieces.{cut_at, is_due}
use Rattle.tp4_number.specs.Number.{near}
use Rattle.tp4_conn.specs.declared.end_record.EndRecord.{EndRecord}
use Rattle.tp4_conn.specs.declared.call.UserCall.{UserCall}
use Rattle.tp4_conn.specs.declared.call.UserCall.TheVariants.{Accept, Refuse, Normal, Urgent, Window, Disconnect}
use Rattle.tp4_conn.specs.declared.halves.Halves.{Halves}
use Rattle.tp4_conn.specs.declared.states.InAkWait.{InAkWait}
use Rattle.tp4_conn.specs.declared.states.InOpened.{InOpened}
use Rattle.tp4_conn.specs.declared.states.InWaitBeforeClose.{InWaitBeforeClose}
use Rattle.tp4_conn.specs.declared.states.InClosing.{InClosing}
use Rattle.tp4_conn.specs.declared.states.InCrWait.{InCrWait}
use Rattle.tp4_conn.specs.declared.states.StateData.{StateData}
use Rattle.tp4_conn.specs.declared.states.StateData.TheVariants.{CrWait, WaitBeforeClose, UserWait, AkWait, Opened, Closing, Frozen}
use Rattle.tp4_conn.specs.Agreeing.{confirms_again, halves_of, is_within, options_in}
use Rattle.tp4_conn.specs.AkWait.{ak_wait_tick, ak_wait_tpdu, opening, queueing}
use Rattle.tp4_conn.specs.Closing.{closing_tick, closing_tpdu}
use Rattle.tp4_conn.specs.CrWait.{confirmed, cr_wait_tick, cr_wait_tpdu}
use Rattle.tp4_conn.specs.End.{End, Moved, closing, confirms, frozen, gone, led_by, span, stays}
use Rattle.tp4_conn.specs.Matching.{wants_sum}
use Rattle.tp4_conn.specs.Opened.{acking, acknowledging, dt_as, granting, hearing, is_expedited, opened_as, opened_goes, opened_tick, opened_tpdu, protocol_error, receiving, sending}
use Rattle.tp4_conn.specs.Table.{Called, Event, Ticked, Took, at as now_at, on_call, on_tick, on_tpdu, stepped, takes}
use Rattle.tp4_conn.specs.UserWait.{refusing, user_wait_accept, user_wait_refuse, user_wait_tick}
use Rattle.tp4_conn.specs.WaitBeforeClose.{wait_before_close_tick, wait_before_close_tpdu}

-- all of them go to that address
abbrev pub AllTo : List ℕ → List Sent → Type 0
AllTo to tpdus = AllByRecursion (λ sent. sent.to ≡ to) tpdus

pub either : {A : Type 0} (P : A → Type 0) (c : Bool) (x y : A) → P x → P y → P (if c then x else y)
either P true x y p q = p
either P false x y p q = q

-- ---- the sending half

pub record SendsTo (to : List ℕ) (x : Sendings) : Type 0 where
  pub rules : x.sender.rules.to ≡ to
  pub tpdus : AllTo to x.tpdus

nothing_to : (to : List ℕ) (s : FlowSender) → s.rules.to ≡ to → SendsTo to (nothing s)
nothing_to to s is = record { rules = is; tpdus = tt }

dts_to : (to : List ℕ) (s : FlowSender) (n : ℕ) (piece : Option Piece) → s.rules.to ≡ to → AllTo to (dts s n piece)
dts_to to s n None is = tt
dts_to to s n (Some piece) is = (is, tt)

dt_to : (to : List ℕ) (s : FlowSender) (n : ℕ) → s.rules.to ≡ to → AllTo to (dts_of s n)
dt_to to s n is = dts_to to s n (cut_at s.rules.piece s.queue.units (n - s.queue.first)) is

all_dts_to : (to : List ℕ) (s : FlowSender) (ns : List ℕ) → s.rules.to ≡ to → AllTo to (all_dts s ns)
all_dts_to to s [] is = tt
all_dts_to to s (n ∷ ns) is = all_both (λ sent. sent.to ≡ to) (dts_of s n) (all_dts s ns) (dt_to to s n is) (all_dts_to to s ns is)

eds_to : (to : List ℕ) (s : FlowSender) (n : ℕ) (units : List (List ℕ)) → s.rules.to ≡ to → AllTo to (eds s n units)
eds_to to s n [] is = tt
eds_to to s n (unit ∷ units) is = (is, tt)

then_to : (to : List ℕ) (x : Sendings) (next : FlowSender → Sendings) → SendsTo to x → ((s : FlowSender) → s.rules.to ≡ to → SendsTo to (next s)) → SendsTo to (then_sends x next)
then_to to x next h more =
    let y = more x.sender h.rules in
    record { rules = y.rules; tpdus = all_both (λ sent. sent.to ≡ to) x.tpdus (next x.sender).tpdus h.tpdus y.tpdus }

urgent_to : (to : List ℕ) (s : FlowSender) → s.rules.to ≡ to → SendsTo to (one_urgent s)
urgent_to to s is =
    either (SendsTo to) (is_some s.urgent.out || length s.urgent.units == 0) _ _ (nothing_to to s is)
    (either (SendsTo to) (rule_allows s s.urgent.blocks s.urgent.next) _ _ (record { rules = is; tpdus = eds_to to s s.urgent.next s.urgent.units is })
    (either (SendsTo to) (is_noted s.urgent.noted s.urgent.next) _ _ (nothing_to to s is) (record { rules = is; tpdus = tt })))

normals_to : (to : List ℕ) (fuel : ℕ) (s : FlowSender) → s.rules.to ≡ to → SendsTo to (normals fuel s)
normals_to to zero s is = nothing_to to s is
normals_to to (suc fuel) s is =
    let more = normals_to to fuel (sent_normal s) is in
    either (SendsTo to) (not (has_next s)) _ _ (nothing_to to s is)
    (either (SendsTo to) (rule_allows s s.numbers.blocks s.numbers.next) _ _
    (record { rules = more.rules; tpdus = all_both (λ sent. sent.to ≡ to) (dts_of s s.numbers.next) (normals fuel (sent_normal s)).tpdus (dt_to to s s.numbers.next is) more.tpdus })
    (either (SendsTo to) (is_noted s.noted s.numbers.next) _ _ (nothing_to to s is) (record { rules = is; tpdus = tt })))

where_to : (to : List ℕ) (s : FlowSender) → s.rules.to ≡ to → SendsTo to (normals_where s)
where_to to s is = either (SendsTo to) (is_urgent s) _ _ (nothing_to to s is) (normals_to to _ s is)

new_to : (to : List ℕ) (s : FlowSender) → s.rules.to ≡ to → SendsTo to (new_sends s)
new_to to s is = either (SendsTo to) s.is_open _ _ (then_to to (one_urgent s) normals_where (urgent_to to s is) (where_to to)) (nothing_to to s is)

opened_to : (to : List ℕ) (s : FlowSender) → s.rules.to ≡ to → SendsTo to (opened s)
opened_to to s is = new_to to (record s { is_open = true }) is

submitted_to : (to : List ℕ) (s : FlowSender) (unit : List ℕ) → s.rules.to ≡ to → SendsTo to (submitted s unit)
submitted_to to s unit is = new_to to (record s { queue = record s.queue { units = s.queue.units ++ unit ∷ [] } }) is

urged_to : (to : List ℕ) (s : FlowSender) (unit : List ℕ) → s.rules.to ≡ to → SendsTo to (urged s unit)
urged_to to s unit is = new_to to (record s { urgent = record s.urgent { units = s.urgent.units ++ unit ∷ [] } }) is

acknowledged_to_it : (to : List ℕ) (s : FlowSender) (w credit subsequence : ℕ) → s.rules.to ≡ to → SendsTo to (acknowledged s w credit subsequence)
acknowledged_to_it to s w credit subsequence is =
    either (SendsTo to) (is_taken s (near (block_in s) s.numbers.base w) credit subsequence) _ _ (new_to to (acknowledged_to s (near (block_in s) s.numbers.base w) credit subsequence) is) (nothing_to to s is)

urgent_done_to : (to : List ℕ) (s : FlowSender) (w : ℕ) → s.rules.to ≡ to → SendsTo to (urgent_done s w)
urgent_done_to to s w is =
    either (SendsTo to) (is_outstanding s w) _ _ (new_to to (record s { urgent = record s.urgent { units = drop 1 s.urgent.units; out = None } }) is) (nothing_to to s is)

resends_urgent_to : (to : List ℕ) (s : FlowSender) (out : Option Tries) → s.rules.to ≡ to → SendsTo to (resends_urgent_as out s)
resends_urgent_to to s None is = nothing_to to s is
resends_urgent_to to s (Some tries) is =
    either (SendsTo to) (is_due s.rules.t1 s.clock tries) _ _ (record { rules = is; tpdus = eds_to to s (s.urgent.next - 1) s.urgent.units is }) (nothing_to to s is)

resends_to : (to : List ℕ) (s : FlowSender) → s.rules.to ≡ to → SendsTo to (resends s)
resends_to to s is = record { rules = is; tpdus = all_dts_to to s (due_numbers s) is }

ticked_to : (to : List ℕ) (s : FlowSender) (life : Life) → s.rules.to ≡ to → SendsTo to (ticked_as life s)
ticked_to to s Spent is = nothing_to to s is
ticked_to to s Goes is =
    then_to to (then_sends (resends s) resends_urgent) new_sends (then_to to (resends s) resends_urgent (resends_to to s is) (λ t same. resends_urgent_to to t t.urgent.out same)) (new_to to)

-- ---- an end

abbrev pub HalvesTo : List ℕ → Halves → Type 0
HalvesTo to h = (h.sending.rules.to ≡ to) × (h.receiving.rules.to ≡ to)

-- the halves of a state write to that address
abbrev pub StageTo : List ℕ → StateData → Type 0
StageTo to (AkWait w) = HalvesTo to w.halves
StageTo to (Opened o) = HalvesTo to o.halves
StageTo to stage = Unit {0}

pub record PointsTo (to : List ℕ) (end : End) : Type 0 where
  pub base : end.base.to ≡ to
  pub stage : StageTo to end.stage

-- the end after a row, and all that it sends
pub record MovesTo (to : List ℕ) (m : Moved) : Type 0 where
  pub base : m.base.to ≡ to
  pub stage : StageTo to m.stage
  pub tpdus : AllTo to m.tpdus

confirms_to : (to : List ℕ) (b : EndRecord) (source : ℕ) → b.to ≡ to → AllTo to (confirms b source)
confirms_to to b source is = either (AllTo to) (source == 0) _ _ tt (is, tt)

closing_to : (to : List ℕ) (b : EndRecord) (events : List EndEvent) (reason : ℕ) (octets : List ℕ) (from : ℕ) → b.to ≡ to → MovesTo to (closing b events reason octets from)
closing_to to b events reason octets from is = record { base = is; stage = tt; tpdus = (is, tt) }

frozen_to : (to : List ℕ) (b : EndRecord) (events : List EndEvent) (tpdus : List Sent) → b.to ≡ to → AllTo to tpdus → MovesTo to (frozen b events tpdus)
frozen_to to b events tpdus is all = record { base = is; stage = tt; tpdus = all }

led_to : (to : List ℕ) (events : List EndEvent) (tpdus : List Sent) (m : Moved) → AllTo to tpdus → MovesTo to m → MovesTo to (led_by events tpdus m)
led_to to events tpdus m all h = record { base = h.base; stage = h.stage; tpdus = all_both (λ sent. sent.to ≡ to) tpdus m.tpdus all h.tpdus }

-- ---- CrWait and WaitBeforeClose

confirmed_to : (to : List ℕ) (b : EndRecord) (o : Options) (text : List ℕ) → b.to ≡ to → MovesTo to (confirmed b o text)
confirmed_to to b o text is =
    let s = opened_to to (at b.clock (halves_of b o).sending) is in record {
      base = is;
      stage = (s.rules, is);
      tpdus = all_both (λ sent. sent.to ≡ to) (opened (at b.clock (halves_of b o).sending)).tpdus (ak (halves_of b o).receiving ∷ []) s.tpdus (is, tt);
    }

cr_wait_to : (to : List ℕ) (b : EndRecord) (w : InCrWait) (tpdu : Tpdu) → b.to ≡ to → MovesTo to (cr_wait_tpdu b w tpdu)
unfolding cr_wait_tpdu
cr_wait_to to b w (Cc credit destination source width calling called size preferred extra version classes ack_time text) is =
    either (MovesTo to) (is_within b.proposed width size preferred extra) _ _ (confirmed_to to _ (options_in width size preferred extra) text is) (closing_to to _ (gone b Protocol []) 133 [] b.clock is)
cr_wait_to to b w (Dr destination source reason info text) is = frozen_to to b (gone b (Reason reason) text) (confirms b source) is (confirms_to to b source is)
cr_wait_to to b w other is = record { base = is; stage = tt; tpdus = tt }

cr_wait_tick_to : (to : List ℕ) (b : EndRecord) (w : InCrWait) → b.to ≡ to → MovesTo to (cr_wait_tick b w)
unfolding cr_wait_tick
cr_wait_tick_to to b w is =
    either (MovesTo to) (nat_lt b.clock (w.tries.last + b.timers.t1)) _ _ (record { base = is; stage = tt; tpdus = tt })
    (either (MovesTo to) (nat_lt w.tries.count b.timers.sendings) _ _ (record { base = is; stage = tt; tpdus = (is, tt) }) (frozen_to to b (gone b Exhausted []) [] is tt))

parting_to : (to : List ℕ) (b : EndRecord) (w : InWaitBeforeClose) (tpdu : Tpdu) → b.to ≡ to → MovesTo to (wait_before_close_tpdu b w tpdu)
unfolding wait_before_close_tpdu
parting_to to b w (Cc credit destination source width calling called size preferred extra version classes ack_time text) is = closing_to to _ [] 128 w.octets b.clock is
parting_to to b w (Dr destination source reason info text) is = frozen_to to b [] (confirms b source) is (confirms_to to b source is)
parting_to to b w other is = record { base = is; stage = tt; tpdus = tt }

parting_tick_to : (to : List ℕ) (b : EndRecord) (w : InWaitBeforeClose) → b.to ≡ to → MovesTo to (wait_before_close_tick b w)
unfolding wait_before_close_tick
parting_tick_to to b w is =
    either (MovesTo to) (nat_lt b.clock (w.request.tries.last + b.timers.t1)) _ _ (record { base = is; stage = tt; tpdus = tt })
    (either (MovesTo to) (nat_lt w.request.tries.count b.timers.sendings) _ _ (record { base = is; stage = tt; tpdus = (is, tt) }) (frozen_to to b [] [] is tt))

-- ---- UserWait

accept_to : (to : List ℕ) (b : EndRecord) (asked : Options) (octets : List ℕ) → b.to ≡ to → MovesTo to (user_wait_accept b asked octets)
unfolding user_wait_accept
accept_to to b asked octets is = record { base = is; stage = (is, is); tpdus = (is, tt) }

refuse_to : (to : List ℕ) (b : EndRecord) (octets : List ℕ) → b.to ≡ to → MovesTo to (user_wait_refuse b octets)
unfolding user_wait_refuse
refuse_to to b octets is = frozen_to to b [] (refusing b octets ∷ []) is (is, tt)

user_wait_tick_to : (to : List ℕ) (b : EndRecord) (since : ℕ) → b.to ≡ to → MovesTo to (user_wait_tick b since)
unfolding user_wait_tick
user_wait_tick_to to b since is =
    either (MovesTo to) (nat_lt b.clock (since + b.timers.inactive)) _ _ (record { base = is; stage = tt; tpdus = tt })
    (frozen_to to b (gone b AnswerTime []) (refusing b [] ∷ []) is (is, tt))

-- ---- Opened

sending_to : (to : List ℕ) (b : EndRecord) (o : InOpened) (s : Sendings) → b.to ≡ to → HalvesTo to o.halves → SendsTo to s → MovesTo to (sending b o s)
sending_to to b o s is halves h = record { base = is; stage = (h.rules, halves.1); tpdus = h.tpdus }

receiving_to : (to : List ℕ) (b : EndRecord) (o : InOpened) (r : Received) → b.to ≡ to → HalvesTo to o.halves → r.half.rules.to ≡ to → AllTo to r.tpdus → MovesTo to (receiving b o r)
receiving_to to b o r is halves rules all = record { base = is; stage = (halves.0, rules); tpdus = all }

aks_to : (to : List ℕ) (got : Got) (h : Half) → h.rules.to ≡ to → AllTo to (aks got h)
aks_to to TooLarge h is = tt
aks_to to got h is = (is, tt)

dt_as_to : (to : List ℕ) (got : Got) (b : EndRecord) (o : InOpened) (r : Received) → b.to ≡ to → HalvesTo to o.halves → r.half.rules.to ≡ to → AllTo to r.tpdus → MovesTo to (dt_as got b o r)
dt_as_to to TooLarge b o r is halves rules all = led_to to r.events r.tpdus (protocol_error b) all (closing_to to b (gone b Protocol []) 133 [] b.clock is)
dt_as_to to got b o r is halves rules all = receiving_to to b (acking b o) r is halves rules all

ed_to : (to : List ℕ) (wrap : ℕ → ℕ → ℕ) (b : EndRecord) (o : InOpened) (w : ℕ) (octets : List ℕ) → b.to ≡ to → HalvesTo to o.halves → MovesTo to (receiving b o (taken_ed wrap o.halves.receiving w octets))
ed_to to wrap b o w octets is halves =
    receiving_to to b o (taken_ed wrap o.halves.receiving w octets) is halves (either (λ (h : Half). h.rules.to ≡ to) (is_next o.halves.receiving w) _ _ halves.1 halves.1)
    (either (AllTo to) (is_next o.halves.receiving w || is_before o.halves.receiving w) _ _ (halves.1, tt) tt)

opened_tpdu_to : (to : List ℕ) (wrap : ℕ → ℕ → ℕ) (b : EndRecord) (o : InOpened) (tpdu : Tpdu) → b.to ≡ to → HalvesTo to o.halves → MovesTo to (opened_tpdu wrap b o tpdu)
unfolding opened_tpdu
opened_tpdu_to to wrap b o (Cc credit destination source width calling called size preferred extra version classes ack_time text) is halves = record { base = is; stage = halves; tpdus = (halves.1, tt) }
opened_tpdu_to to wrap b o (Dr destination source reason info text) is halves = frozen_to to b (gone b (Reason reason) text) (confirms b source) is (confirms_to to b source is)
opened_tpdu_to to wrap b o (Er destination cause rejected) is halves = closing_to to b (gone b Protocol []) 133 [] b.clock is
opened_tpdu_to to wrap b o (Dt destination last number text) is halves =
    let piece : Piece = record { last = last; octets = text } in
    let a = dt_arrival o.halves.receiving number piece in
    dt_as_to to a.got b o (taken_dt wrap o.halves.receiving number piece) is halves halves.1 (aks_to to a.got (half_after wrap o.halves.receiving a) halves.1)
opened_tpdu_to to wrap b o (Ed destination last number text) is halves =
    either (MovesTo to) (is_expedited b.agreed) _ _ (ed_to to wrap b o number text is halves) (closing_to to b (gone b Protocol []) 133 [] b.clock is)
opened_tpdu_to to wrap b o (Ak destination number credit subsequence confirmation) is halves =
    sending_to to b o _ is halves (acknowledged_to_it to (at b.clock o.halves.sending) number credit subsequence halves.0)
opened_tpdu_to to wrap b o (Ea destination number) is halves = sending_to to b o _ is halves (urgent_done_to to (at b.clock o.halves.sending) number halves.0)
opened_tpdu_to to wrap b o (Cr credit source width calling called size preferred extra version classes ack_time text) is halves = record { base = is; stage = halves; tpdus = tt }
opened_tpdu_to to wrap b o (Dc destination source) is halves = record { base = is; stage = halves; tpdus = tt }

granting_to : (to : List ℕ) (b : EndRecord) (o : InOpened) (new : Half) → b.to ≡ to → HalvesTo to o.halves → new.rules.to ≡ to → MovesTo to (granting b o new)
granting_to to b o new is halves rules =
    either (MovesTo to) (new.receiver.inbox.credit == o.halves.receiving.receiver.inbox.credit) _ _ (receiving_to to b o _ is halves rules tt)
    (receiving_to to b (acking b o) _ is halves rules (rules, tt))

opened_goes_to : (to : List ℕ) (b : EndRecord) (o : InOpened) (s : Sendings) → b.to ≡ to → HalvesTo to o.halves → SendsTo to s → MovesTo to (opened_goes b o s)
opened_goes_to to b o s is halves h =
    either (MovesTo to) (nat_le (o.acked + b.timers.window) b.clock) _ _
    (led_to to s.events s.tpdus (acknowledging b (record o { halves = record o.halves { sending = s.sender } })) h.tpdus (record { base = is; stage = (h.rules, halves.1); tpdus = (halves.1, tt) }))
    (sending_to to b o s is halves h)

opened_as_to : (to : List ℕ) (life : Life) (b : EndRecord) (o : InOpened) → b.to ≡ to → HalvesTo to o.halves → MovesTo to (opened_as life b o)
opened_as_to to Spent b o is halves = closing_to to b (gone b Exhausted []) 128 [] b.clock is
opened_as_to to Goes b o is halves =
    opened_goes_to to b o (ticked (at b.clock o.halves.sending)) is halves (ticked_to to (at b.clock o.halves.sending) (life_of (at b.clock o.halves.sending)) halves.0)

opened_tick_to : (to : List ℕ) (b : EndRecord) (o : InOpened) → b.to ≡ to → HalvesTo to o.halves → MovesTo to (opened_tick b o)
unfolding opened_tick
opened_tick_to to b o is halves =
    either (MovesTo to) (nat_le (o.took + b.timers.inactive) b.clock) _ _ (closing_to to b (gone b Inactive []) 128 [] b.clock is)
    (opened_as_to to (life_of (at b.clock o.halves.sending)) b o is halves)

-- ---- AkWait

opening_to : (to : List ℕ) (wrap : ℕ → ℕ → ℕ) (b : EndRecord) (h : Halves) (tpdu : Tpdu) → b.to ≡ to → HalvesTo to h → MovesTo to (opening wrap b h tpdu)
opening_to to wrap b h tpdu is halves =
    let s = opened_to to (at b.clock h.sending) halves.0 in
    let x = opened (at b.clock h.sending) in
    led_to to x.events x.tpdus _ s.tpdus (opened_tpdu_to to wrap b (record { took = b.clock; acked = b.clock; halves = record h { sending = x.sender } }) tpdu is (s.rules, halves.1))

ak_wait_to : (to : List ℕ) (wrap : ℕ → ℕ → ℕ) (b : EndRecord) (w : InAkWait) (tpdu : Tpdu) → b.to ≡ to → HalvesTo to w.halves → MovesTo to (ak_wait_tpdu wrap b w tpdu)
unfolding ak_wait_tpdu
ak_wait_to to wrap b w (Ak destination number credit subsequence confirmation) is halves = opening_to to wrap b w.halves (Ak destination number credit subsequence confirmation) is halves
ak_wait_to to wrap b w (Dt destination last number text) is halves = opening_to to wrap b w.halves (Dt destination last number text) is halves
ak_wait_to to wrap b w (Ed destination last number text) is halves = opening_to to wrap b w.halves (Ed destination last number text) is halves
ak_wait_to to wrap b w (Ea destination number) is halves = opening_to to wrap b w.halves (Ea destination number) is halves
ak_wait_to to wrap b w (Dr destination source reason info text) is halves = frozen_to to b (gone b (Reason reason) text) (confirms b source) is (confirms_to to b source is)
ak_wait_to to wrap b w (Er destination cause rejected) is halves = closing_to to b (gone b Protocol []) 133 [] w.first is
ak_wait_to to wrap b w tpdu is halves = record { base = is; stage = halves; tpdus = tt }

again_to : (to : List ℕ) (b : EndRecord) (agreed : Option Options) (octets : List ℕ) → b.to ≡ to → AllTo to (confirms_again b agreed octets)
again_to to b None octets is = tt
again_to to b (Some o) octets is = (is, tt)

ak_wait_tick_to : (to : List ℕ) (b : EndRecord) (w : InAkWait) → b.to ≡ to → HalvesTo to w.halves → MovesTo to (ak_wait_tick b w)
unfolding ak_wait_tick
ak_wait_tick_to to b w is halves =
    either (MovesTo to) (nat_lt b.clock (w.tries.last + b.timers.t1)) _ _ (record { base = is; stage = halves; tpdus = tt })
    (either (MovesTo to) (nat_lt w.tries.count b.timers.sendings) _ _ (record { base = is; stage = halves; tpdus = again_to to b b.agreed w.octets is }) (frozen_to to b (gone b Exhausted []) [] is tt))

queueing_to : (to : List ℕ) (b : EndRecord) (w : InAkWait) (s : Sendings) → b.to ≡ to → HalvesTo to w.halves → SendsTo to s → MovesTo to (queueing b w s)
queueing_to to b w s is halves h = record { base = is; stage = (h.rules, halves.1); tpdus = h.tpdus }

-- ---- Closing

closing_tpdu_to : (to : List ℕ) (b : EndRecord) (c : InClosing) (tpdu : Tpdu) → b.to ≡ to → MovesTo to (closing_tpdu b c tpdu)
unfolding closing_tpdu
closing_tpdu_to to b c (Dc destination source) is = frozen_to to b [] [] is tt
closing_tpdu_to to b c (Dr destination source reason info text) is = frozen_to to b [] [] is tt
closing_tpdu_to to b c other is = record { base = is; stage = tt; tpdus = tt }

closing_tick_to : (to : List ℕ) (b : EndRecord) (c : InClosing) → b.to ≡ to → MovesTo to (closing_tick b c)
unfolding closing_tick
closing_tick_to to b c is =
    either (MovesTo to) (nat_le (c.from + span b.timers) b.clock) _ _ (frozen_to to b [] [] is tt)
    (either (MovesTo to) (nat_lt b.clock (c.last + b.timers.t1)) _ _ (record { base = is; stage = tt; tpdus = tt }) (record { base = is; stage = tt; tpdus = (is, tt) }))

-- ---- the rows

stays_to : (to : List ℕ) (b : EndRecord) (stage : StateData) → b.to ≡ to → StageTo to stage → MovesTo to (stays b stage)
stays_to to b stage is at_stage = record { base = is; stage = at_stage; tpdus = tt }

tpdu_to : (to : List ℕ) (wrap : ℕ → ℕ → ℕ) (b : EndRecord) (stage : StateData) (tpdu : Tpdu) → b.to ≡ to → StageTo to stage → MovesTo to (on_tpdu wrap b stage tpdu)
tpdu_to to wrap b (CrWait w) tpdu is at_stage = cr_wait_to to b w tpdu is
tpdu_to to wrap b (WaitBeforeClose w) tpdu is at_stage = parting_to to b w tpdu is
tpdu_to to wrap b (UserWait since) tpdu is at_stage = stays_to to b (UserWait since) is tt
tpdu_to to wrap b (AkWait w) tpdu is at_stage = ak_wait_to to wrap b w tpdu is at_stage
tpdu_to to wrap b (Opened o) tpdu is at_stage = opened_tpdu_to to wrap b (hearing b o) tpdu is at_stage
tpdu_to to wrap b (Closing c) tpdu is at_stage = closing_tpdu_to to b c tpdu is
tpdu_to to wrap b (Frozen when) tpdu is at_stage = stays_to to b (Frozen when) is tt

tick_to : (to : List ℕ) (b : EndRecord) (stage : StateData) → b.to ≡ to → StageTo to stage → MovesTo to (on_tick b stage)
tick_to to b (CrWait w) is at_stage = cr_wait_tick_to to b w is
tick_to to b (WaitBeforeClose w) is at_stage = parting_tick_to to b w is
tick_to to b (UserWait since) is at_stage = user_wait_tick_to to b since is
tick_to to b (AkWait w) is at_stage = ak_wait_tick_to to b w is at_stage
tick_to to b (Opened o) is at_stage = opened_tick_to to b o is at_stage
tick_to to b (Closing c) is at_stage = closing_tick_to to b c is
tick_to to b (Frozen when) is at_stage = stays_to to b (Frozen when) is tt

call_to : (to : List ℕ) (b : EndRecord) (stage : StateData) (call : UserCall) → b.to ≡ to → StageTo to stage → MovesTo to (on_call b stage call)
call_to to b (CrWait w) (Disconnect octets) is at_stage = record { base = is; stage = tt; tpdus = tt }
call_to to b (UserWait since) (Accept asked octets) is at_stage = accept_to to b asked octets is
call_to to b (UserWait since) (Refuse octets) is at_stage = refuse_to to b octets is
call_to to b (AkWait w) (Normal unit) is at_stage = queueing_to to b w _ is at_stage (submitted_to to (at b.clock w.halves.sending) unit at_stage.0)
call_to to b (AkWait w) (Urgent unit) is at_stage = queueing_to to b w _ is at_stage (urged_to to (at b.clock w.halves.sending) unit at_stage.0)
call_to to b (AkWait w) (Disconnect octets) is at_stage = closing_to to b [] 128 octets w.first is
call_to to b (Opened o) (Normal unit) is at_stage = sending_to to b o _ is at_stage (submitted_to to (at b.clock o.halves.sending) unit at_stage.0)
call_to to b (Opened o) (Urgent unit) is at_stage = sending_to to b o _ is at_stage (urged_to to (at b.clock o.halves.sending) unit at_stage.0)
call_to to b (Opened o) (Window credit) is at_stage = granting_to to b o (half_granted o.halves.receiving credit) is at_stage at_stage.1
call_to to b (Opened o) (Disconnect octets) is at_stage = closing_to to b [] 128 octets b.clock is
call_to to b stage call is at_stage = stays_to to b stage is at_stage

takes_to : (to : List ℕ) (wrap : ℕ → ℕ → ℕ) (now : ℕ) (end : End) (tpdu : Tpdu) (sum : Bool) → PointsTo to end → MovesTo to (takes wrap now end.base end.stage tpdu sum)
takes_to to wrap now end tpdu sum points =
    either (MovesTo to) (wants_sum end.base end.stage tpdu && not sum) _ _ (record { base = points.base; stage = points.stage; tpdus = tt })
    (tpdu_to to wrap (now_at now end.base) end.stage tpdu points.base points.stage)

-- each row of an end leads to an end that writes to the same address, and all that it sends goes there
pub row_to : (to : List ℕ) (wrap : ℕ → ℕ → ℕ) (now : ℕ) (end : End) (event : Event) → PointsTo to end → MovesTo to (stepped wrap now end event)
row_to to wrap now end (Called call) points = call_to to (now_at now end.base) end.stage call points.base points.stage
row_to to wrap now end (Took tpdu sum) points = takes_to to wrap now end tpdu sum points
row_to to wrap now end Ticked points = tick_to to (now_at now end.base) end.stage points.base points.stage
