-- A row looks at the two numbers that a receiving half expects only as they stand on the wire. So the end on the wire moves as the end does.
use Rattle.std.proofs.Common.{◌≡◌, ℕ, ◌+◌, ◌*◌, ◌∙◌, Bool, true, false, not, ◌==◌, ◌&&◌, nat_lt, nat_le, List, [], ◌∷◌, ◌++◌, Some, refl, ap, sym, subst, if◌then◌else◌}
use Rattle.std.proofs.Math.Nat.{zero-mod}
use Rattle.tpdu.specs.declared.tpdu.Tpdu.{Tpdu}
use Rattle.tpdu.specs.declared.tpdu.Tpdu.TheVariants.{Cc, Dc, Dt, Ed, Ak, Ea}
use Rattle.tp4_number.specs.Formats.{block_of}
use Rattle.tp4_number.specs.Number.{whole, wire}
use Rattle.tp4_number.specs.Receiver.{Arrived}
use Rattle.tp4_number.specs.declared.got.Got.{Got}
use Rattle.tp4_number.specs.declared.got.Got.TheVariants.{TooLarge}
use Rattle.tp4_number.specs.declared.piece.Piece.{Piece}
use Rattle.tp4_flow.specs.ReceivingHalf.{Half, Received, IsOnWire, on_wire, dt_arrival, taken_dt, empty, half_granted}
use Rattle.tp4_flow.specs.declared.rules.FlowRules.{FlowRules}
use Rattle.tp4_flow.specs.declared.rules.Life.{Life as Ends}
use Rattle.tp4_flow.specs.declared.rules.Life.TheVariants.{Goes, Exhausted as Spent}
use Rattle.tpdu.specs.declared.service.Options.{Options}
use Rattle.tp4_flow.specs.declared.step.EndEvent.{EndEvent}
use Rattle.tpdu.specs.declared.service.GoneCause.TheVariants.{Protocol, Exhausted, Inactive, AnswerTime}
use Rattle.tp4_flow.specs.declared.step.Sent.{Sent}
use Rattle.tp4_flow.proofs.Wires.{ak_on, arrival_on, dt_on, ed_on}
use Rattle.tp4_sending.specs.SendingHalf.{at, opened, ticked, life_of, fresh}
use Rattle.tp4_sending.specs.Pieces.{once, again}
use Rattle.tp4_conn.specs.declared.end_record.EndRecord.{EndRecord}
use Rattle.tp4_conn.specs.declared.call.UserCall.{UserCall}
use Rattle.tp4_conn.specs.declared.call.UserCall.TheVariants.{Accept, Refuse, Window, Disconnect}
use Rattle.tp4_conn.specs.declared.halves.Halves.{Halves}
use Rattle.tp4_conn.specs.declared.states.InAkWait.{InAkWait}
use Rattle.tp4_conn.specs.declared.states.InOpened.{InOpened}
use Rattle.tp4_conn.specs.declared.states.InWaitBeforeClose.{InWaitBeforeClose}
use Rattle.tp4_conn.specs.declared.states.InClosing.{InClosing}
use Rattle.tp4_conn.specs.declared.states.InCrWait.{InCrWait}
use Rattle.tp4_conn.specs.declared.states.StateData.{StateData}
use Rattle.tp4_conn.specs.declared.states.StateData.TheVariants.{CrWait, WaitBeforeClose, UserWait, AkWait, Opened, Closing, Frozen}
use Rattle.tp4_conn.specs.Agreeing.{options_in, is_within, agreed_by, halves_of, flow_rules, request}
use Rattle.tp4_conn.specs.AkWait.{ak_wait_tpdu, ak_wait_tick, opening}
use Rattle.tp4_conn.specs.Closing.{closing_tpdu, closing_tick}
use Rattle.tp4_conn.specs.CrWait.{cr_wait_tpdu, cr_wait_tick, confirmed}
use Rattle.tp4_conn.specs.End.{End, Moved, led_by, stays, closing, frozen, gone, release, span}
use Rattle.tp4_conn.specs.Matching.{wants_sum}
use Rattle.tp4_conn.specs.Opened.{hearing, acking, opened_tpdu, opened_tick, opened_as, granting, dt_as, on_dt, receiving, is_expedited, protocol_error}
use Rattle.tp4_conn.specs.Table.{Event, Called, Took, Ticked, EndStep, stepped, takes, untaken, on_tpdu, on_tick, on_call, at as now_at}
use Rattle.tp4_conn.specs.UserWait.{user_wait_accept, user_wait_refuse, user_wait_tick, refusing}
use Rattle.tp4_conn.specs.WaitBeforeClose.{wait_before_close_tpdu, wait_before_close_tick, again_parting}
use Rattle.tp4_conn.specs.Wire.{halves_on_wire, stage_on_wire, end_on_wire}

abbrev open_on : InOpened → InOpened
open_on o = record o { halves = halves_on_wire o.halves }

abbrev answering_on : InAkWait → InAkWait
answering_on w = record w { halves = halves_on_wire w.halves }

-- the same move, at the end as it stands on the wire
pub record Same (m on : Moved) : Type 0 where
  pub base : on.base ≡ m.base
  pub stage : on.stage ≡ stage_on_wire m.stage
  pub events : on.events ≡ m.events
  pub tpdus : on.tpdus ≡ m.tpdus

if_same : (c : Bool) (x y x' y' : Moved) → Same x x' → Same y y' → Same (if c then x else y) (if c then x' else y')
if_same true x y x' y' p q = p
if_same false x y x' y' p q = q

alike : (m : Moved) → stage_on_wire m.stage ≡ m.stage → Same m m
alike m h = record { base = refl; stage = sym h; events = refl; tpdus = refl }

-- Opened
received_same : (b : EndRecord) (o : InOpened) (r on : Received) → IsOnWire r on → Same (receiving b o r) (receiving b (open_on o) on)
received_same b o r on e = record {
  base = refl;
  stage = ap (λ (x : Half). Opened (record o { halves = record o.halves { receiving = x } })) e.half;
  events = e.events;
  tpdus = e.tpdus;
}

dt_as_same : (got : Got) (b : EndRecord) (o : InOpened) (r on : Received) → IsOnWire r on → Same (dt_as got b o r) (dt_as got b (open_on o) on)
dt_as_same TooLarge b o r on e = record {
  base = refl;
  stage = refl;
  events = ap (λ (x : List EndEvent). x ++ gone b Protocol []) e.events;
  tpdus = ap (λ (x : List Sent). x ++ release b 133 [] ∷ []) e.tpdus;
}
dt_as_same got b o r on e = received_same b (acking b o) r on e

dt_same : (b : EndRecord) (o : InOpened) (w : ℕ) (piece : Piece) → Same (on_dt whole b o w piece) (on_dt wire b (open_on o) w piece)
dt_same b o w piece =
    subst (λ (a : Arrived). Same (on_dt whole b o w piece) (dt_as a.got b (open_on o) (taken_dt wire (on_wire o.halves.receiving) w piece)))
    (sym (arrival_on o.halves.receiving w piece))
    (dt_as_same (dt_arrival o.halves.receiving w piece).got b o _ _ (dt_on o.halves.receiving w piece))

opened_same : (b : EndRecord) (o : InOpened) (tpdu : Tpdu) → Same (opened_tpdu whole b o tpdu) (opened_tpdu wire b (open_on o) tpdu)
unfolding opened_tpdu
opened_same b o (Cc credit destination source width calling called size preferred extra version classes ack_time text) =
    record { base = refl; stage = refl; events = refl; tpdus = ap (λ (s : Sent). s ∷ []) (ak_on o.halves.receiving) }
opened_same b o (Dt destination last number text) = dt_same b o number (record { last = last; octets = text })
opened_same b o (Ed destination last number text) =
    if_same (is_expedited b.agreed) _ _ _ _ (received_same b o _ _ (ed_on o.halves.receiving number text)) (alike (protocol_error b) refl)
opened_same b o other = record { base = refl; stage = refl; events = refl; tpdus = refl }

-- AkWait
led_same : (events : List EndEvent) (tpdus : List Sent) (m on : Moved) → Same m on → Same (led_by events tpdus m) (led_by events tpdus on)
led_same events tpdus m on e = record {
  base = e.base;
  stage = e.stage;
  events = ap (λ (x : List EndEvent). events ++ x) e.events;
  tpdus = ap (λ (x : List Sent). tpdus ++ x) e.tpdus;
}

opening_same : (b : EndRecord) (h : Halves) (tpdu : Tpdu) → Same (opening whole b h tpdu) (opening wire b (halves_on_wire h) tpdu)
opening_same b h tpdu =
    led_same _ _ _ _ (opened_same b (record { took = b.clock; acked = b.clock; halves = record h { sending = (opened (at b.clock h.sending)).sender } }) tpdu)

ak_wait_same : (b : EndRecord) (w : InAkWait) (tpdu : Tpdu) → Same (ak_wait_tpdu whole b w tpdu) (ak_wait_tpdu wire b (answering_on w) tpdu)
unfolding ak_wait_tpdu
ak_wait_same b w (Ak destination number credit subsequence confirmation) = opening_same b w.halves (Ak destination number credit subsequence confirmation)
ak_wait_same b w (Dt destination last number text) = opening_same b w.halves (Dt destination last number text)
ak_wait_same b w (Ed destination last number text) = opening_same b w.halves (Ed destination last number text)
ak_wait_same b w (Ea destination number) = opening_same b w.halves (Ea destination number)
ak_wait_same b w other = record { base = refl; stage = refl; events = refl; tpdus = refl }

-- halves that begin
zero_wire : (block : ℕ) → wire block 0 ≡ 0
unfolding wire
zero_wire block = zero-mod (4 * block)

abbrev empty_at : FlowRules → ℕ → ℕ → ℕ → Half
empty_at rules credit n u = record { rules = rules; receiver = record { expected = n; urgent = u; inbox = (empty rules credit).receiver.inbox } }

empty_on : (rules : FlowRules) (credit : ℕ) → on_wire (empty rules credit) ≡ empty rules credit
empty_on rules credit =
    ap (λ (n : ℕ). empty_at rules credit n (wire (block_of rules.format) 0)) (zero_wire (block_of rules.format))
    ∙ ap (λ (u : ℕ). empty_at rules credit 0 u) (zero_wire (block_of rules.format))

confirmed_same : (b : EndRecord) (o : Options) (text : List ℕ) → Same (confirmed b o text) (confirmed b o text)
confirmed_same b o text = alike (confirmed b o text)
    (ap (λ (x : Half). Opened (record {
      took = b.clock;
      acked = b.clock;
      halves = record { sending = (opened (at b.clock (halves_of b o).sending)).sender; receiving = x };
    })) (empty_on (flow_rules b o) b.timers.credit))

cr_wait_same : (b : EndRecord) (w : InCrWait) (tpdu : Tpdu) → Same (cr_wait_tpdu b w tpdu) (cr_wait_tpdu b w tpdu)
unfolding cr_wait_tpdu
cr_wait_same b w (Cc credit destination source width calling called size preferred extra version classes ack_time text) =
    if_same (is_within b.proposed width size preferred extra) _ _ _ _
    (confirmed_same (record b { partner = source; credit = credit; agreed = Some (options_in width size preferred extra) }) (options_in width size preferred extra) text)
    (alike (closing (record b { partner = source }) (gone b Protocol []) 133 [] b.clock) refl)
cr_wait_same b w other = record { base = refl; stage = refl; events = refl; tpdus = refl }

wait_same : (b : EndRecord) (w : InWaitBeforeClose) (tpdu : Tpdu) → Same (wait_before_close_tpdu b w tpdu) (wait_before_close_tpdu b w tpdu)
unfolding wait_before_close_tpdu
wait_same b w (Cc credit destination source width calling called size preferred extra version classes ack_time text) =
    record { base = refl; stage = refl; events = refl; tpdus = refl }
wait_same b w other = record { base = refl; stage = refl; events = refl; tpdus = refl }

closing_same : (b : EndRecord) (c : InClosing) (tpdu : Tpdu) → Same (closing_tpdu b c tpdu) (closing_tpdu b c tpdu)
unfolding closing_tpdu
closing_same b c (Dc destination source) = record { base = refl; stage = refl; events = refl; tpdus = refl }
closing_same b c other = record { base = refl; stage = refl; events = refl; tpdus = refl }

tpdu_same : (b : EndRecord) (stage : StateData) (tpdu : Tpdu) → Same (on_tpdu whole b stage tpdu) (on_tpdu wire b (stage_on_wire stage) tpdu)
tpdu_same b (CrWait w) tpdu = cr_wait_same b w tpdu
tpdu_same b (WaitBeforeClose w) tpdu = wait_same b w tpdu
tpdu_same b (UserWait since) tpdu = alike _ refl
tpdu_same b (AkWait w) tpdu = ak_wait_same b w tpdu
tpdu_same b (Opened o) tpdu = opened_same b (hearing b o) tpdu
tpdu_same b (Closing c) tpdu = closing_same b c tpdu
tpdu_same b (Frozen when) tpdu = alike _ refl

-- ticks
cr_tick_same : (b : EndRecord) (w : InCrWait) → Same (cr_wait_tick b w) (cr_wait_tick b w)
unfolding cr_wait_tick
cr_tick_same b w =
    if_same (nat_lt b.clock (w.tries.last + b.timers.t1)) _ _ _ _ (alike (stays b (CrWait w)) refl)
    (if_same (nat_lt w.tries.count b.timers.sendings) _ _ _ _
    (alike (record { base = b; stage = CrWait (record w { tries = again b.clock w.tries }); events = []; tpdus = request b w.octets ∷ [] }) refl)
    (alike (frozen b (gone b Exhausted []) []) refl))

wait_tick_same : (b : EndRecord) (w : InWaitBeforeClose) → Same (wait_before_close_tick b w) (wait_before_close_tick b w)
unfolding wait_before_close_tick
wait_tick_same b w =
    if_same (nat_lt b.clock (w.request.tries.last + b.timers.t1)) _ _ _ _ (alike (stays b (WaitBeforeClose w)) refl)
    (if_same (nat_lt w.request.tries.count b.timers.sendings) _ _ _ _
    (alike (record { base = b; stage = WaitBeforeClose (again_parting b w); events = []; tpdus = request b w.request.octets ∷ [] }) refl)
    (alike (frozen b [] []) refl))

user_tick_same : (b : EndRecord) (since : ℕ) → Same (user_wait_tick b since) (user_wait_tick b since)
unfolding user_wait_tick
user_tick_same b since =
    if_same (nat_lt b.clock (since + b.timers.inactive)) _ _ _ _ (alike (stays b (UserWait since)) refl)
    (alike (frozen b (gone b AnswerTime []) (refusing b [] ∷ [])) refl)

ak_tick_same : (b : EndRecord) (w : InAkWait) → Same (ak_wait_tick b w) (ak_wait_tick b (answering_on w))
unfolding ak_wait_tick
ak_tick_same b w =
    if_same (nat_lt b.clock (w.tries.last + b.timers.t1)) _ _ _ _ (record { base = refl; stage = refl; events = refl; tpdus = refl })
    (if_same (nat_lt w.tries.count b.timers.sendings) _ _ _ _
    (record { base = refl; stage = refl; events = refl; tpdus = refl })
    (alike (frozen b (gone b Exhausted []) []) refl))

opened_as_same : (life : Ends) (b : EndRecord) (o : InOpened) → Same (opened_as life b o) (opened_as life b (open_on o))
opened_as_same Spent b o = record { base = refl; stage = refl; events = refl; tpdus = refl }
opened_as_same Goes b o =
    if_same (nat_le (o.acked + b.timers.window) b.clock) _ _ _ _
    (record { base = refl; stage = refl; events = refl; tpdus = ap (λ (s : Sent). (ticked (at b.clock o.halves.sending)).tpdus ++ s ∷ []) (ak_on o.halves.receiving) })
    (record { base = refl; stage = refl; events = refl; tpdus = refl })

opened_tick_same : (b : EndRecord) (o : InOpened) → Same (opened_tick b o) (opened_tick b (open_on o))
unfolding opened_tick
opened_tick_same b o =
    if_same (nat_le (o.took + b.timers.inactive) b.clock) _ _ _ _ (alike (closing b (gone b Inactive []) 128 [] b.clock) refl)
    (opened_as_same (life_of (at b.clock o.halves.sending)) b o)

closing_tick_same : (b : EndRecord) (c : InClosing) → Same (closing_tick b c) (closing_tick b c)
unfolding closing_tick
closing_tick_same b c =
    if_same (nat_le (c.from + span b.timers) b.clock) _ _ _ _ (alike (frozen b [] []) refl)
    (if_same (nat_lt b.clock (c.last + b.timers.t1)) _ _ _ _ (alike (stays b (Closing c)) refl)
    (alike (record { base = b; stage = Closing (record c { last = b.clock }); events = []; tpdus = release b c.reason c.octets ∷ [] }) refl))

tick_same : (b : EndRecord) (stage : StateData) → Same (on_tick b stage) (on_tick b (stage_on_wire stage))
tick_same b (CrWait w) = cr_tick_same b w
tick_same b (WaitBeforeClose w) = wait_tick_same b w
tick_same b (UserWait since) = user_tick_same b since
tick_same b (AkWait w) = ak_tick_same b w
tick_same b (Opened o) = opened_tick_same b o
tick_same b (Closing c) = closing_tick_same b c
tick_same b (Frozen when) = alike _ refl

-- calls
accept_same : (b : EndRecord) (asked : Options) (octets : List ℕ) → Same (user_wait_accept b asked octets) (user_wait_accept b asked octets)
unfolding user_wait_accept
accept_same b asked octets = record {
  base = refl;
  stage = ap (λ (x : Half). AkWait (record {
    octets = octets;
    first = b.clock;
    tries = once b.clock;
    halves = record { sending = fresh (flow_rules b (agreed_by b.proposed asked)) b.credit; receiving = x };
  })) (sym (empty_on (flow_rules b (agreed_by b.proposed asked)) b.timers.credit));
  events = refl;
  tpdus = refl;
}

refuse_same : (b : EndRecord) (octets : List ℕ) → Same (user_wait_refuse b octets) (user_wait_refuse b octets)
unfolding user_wait_refuse
refuse_same b octets = record { base = refl; stage = refl; events = refl; tpdus = refl }

grant_same : (b : EndRecord) (o : InOpened) (new : Half) → Same (granting b o new) (granting b (open_on o) (on_wire new))
grant_same b o new =
    if_same (new.receiver.inbox.credit == o.halves.receiving.receiver.inbox.credit) _ _ _ _
    (record { base = refl; stage = refl; events = refl; tpdus = refl })
    (record { base = refl; stage = refl; events = refl; tpdus = ap (λ (s : Sent). s ∷ []) (ak_on new) })

call_same : (b : EndRecord) (stage : StateData) (call : UserCall) → Same (on_call b stage call) (on_call b (stage_on_wire stage) call)
call_same b (CrWait w) (Disconnect octets) = record { base = refl; stage = refl; events = refl; tpdus = refl }
call_same b (AkWait w) (Disconnect octets) = record { base = refl; stage = refl; events = refl; tpdus = refl }
call_same b (UserWait since) (Accept asked octets) = accept_same b asked octets
call_same b (UserWait since) (Refuse octets) = refuse_same b octets
call_same b (Opened o) (Window credit) = grant_same b o (half_granted o.halves.receiving credit)
call_same b stage call = record { base = refl; stage = refl; events = refl; tpdus = refl }

-- the end on the wire moves as the end does
untaken_same : (c : Bool) (now : ℕ) (b : EndRecord) (stage : StateData) (tpdu : Tpdu)
    → Same (if c then untaken b stage else on_tpdu whole (now_at now b) stage tpdu)
    (if c then untaken b (stage_on_wire stage) else on_tpdu wire (now_at now b) (stage_on_wire stage) tpdu)
untaken_same true now b stage tpdu = record { base = refl; stage = refl; events = refl; tpdus = refl }
untaken_same false now b stage tpdu = tpdu_same (now_at now b) stage tpdu

wants_same : (b : EndRecord) (stage : StateData) (tpdu : Tpdu) → wants_sum b (stage_on_wire stage) tpdu ≡ wants_sum b stage tpdu
wants_same b (CrWait w) tpdu = refl
wants_same b stage tpdu = refl

takes_same : (now : ℕ) (b : EndRecord) (stage : StateData) (tpdu : Tpdu) (sum : Bool)
    → Same (takes whole now b stage tpdu sum) (takes wire now b (stage_on_wire stage) tpdu sum)
takes_same now b stage tpdu sum =
    subst (λ (c : Bool). Same (takes whole now b stage tpdu sum)
    (if c && not sum then untaken b (stage_on_wire stage) else on_tpdu wire (now_at now b) (stage_on_wire stage) tpdu))
    (sym (wants_same b stage tpdu)) (untaken_same (wants_sum b stage tpdu && not sum) now b stage tpdu)

step_same : (now : ℕ) (e : End) (event : Event) → Same (stepped whole now e event) (stepped wire now (end_on_wire e) event)
step_same now e (Called call) = call_same (now_at now e.base) e.stage call
step_same now e (Took tpdu sum) = takes_same now e.base e.stage tpdu sum
step_same now e Ticked = tick_same (now_at now e.base) e.stage

pub on_the_wire : (old : End) (event : Event) (now : ℕ) (new : End) (events : List EndEvent) (tpdus : List Sent)
    → EndStep whole old event now new events tpdus → EndStep wire (end_on_wire old) event now (end_on_wire new) events tpdus
on_the_wire old event now new events tpdus s = let e = step_same now old event in record {
  base = s.base ∙ sym e.base;
  stage = ap (λ (x : StateData). stage_on_wire x) s.stage ∙ sym e.stage;
  events_are = s.events_are ∙ sym e.events;
  tpdus_are = s.tpdus_are ∙ sym e.tpdus;
}
