-- What an end sends that is Opened or Closing: to its partner, as itself, and in the format that was agreed.
use Rattle.std.proofs.Common.{◌≡◌, ℕ, zero, suc, ◌+◌, ◌-◌, true, not, ◌&&◌, ◌||◌, ◌==◌, nat_le, nat_lt, List, [], ◌∷◌, ◌++◌, drop, length, Option, Some, None, refl, sym, ap, ◌∙◌}
use Rattle.std.specs.Prelude.{is_some}
use Rattle.std.specs.List.{AllByRecursion}
use Rattle.std.proofs.lemmas.Bool.{eqb-true}
use Rattle.osi_base.proofs.Members.{all_both}
use Rattle.tpdu.specs.Values.{destination_of}
use Rattle.tpdu.specs.declared.service.Options.{Options}
use Rattle.tpdu.specs.declared.service.GoneCause.TheVariants.{Reason, Protocol, Inactive, Exhausted}
use Rattle.tpdu.specs.declared.tpdu.Tpdu.{Tpdu}
use Rattle.tpdu.specs.declared.tpdu.Tpdu.TheVariants.{Cc, Dr, Dc, Dt, Ed, Ak, Ea, Er}
use Rattle.tp4_number.specs.Number.{near, whole}
use Rattle.tp4_number.specs.declared.got.Got.{Got}
use Rattle.tp4_number.specs.declared.got.Got.TheVariants.{TooLarge}
use Rattle.tp4_number.specs.declared.piece.Piece.{Piece}
use Rattle.tp4_flow.specs.declared.rules.FlowRules.{FlowRules}
use Rattle.tp4_flow.specs.declared.rules.Life.{Life}
use Rattle.tp4_flow.specs.declared.rules.Life.TheVariants.{Goes, Exhausted as Spent}
use Rattle.tp4_flow.specs.declared.step.EndEvent.{EndEvent}
use Rattle.tp4_flow.specs.declared.step.Sent.{Sent}
use Rattle.tp4_flow.specs.ReceivingHalf.{Half, Received, ak, aks, ea, dt_arrival, half_after, half_granted, is_before, is_next, taken_dt, taken_ed}
use Rattle.tp4_sending.specs.declared.tries.Tries.{Tries}
use Rattle.tp4_sending.specs.SendingHalf.{FlowSender, Sendings, acknowledged, acknowledged_to, all_dts, at, block_in, dt_sent, dts, dts_of, ed_sent, due_numbers, eds, has_next, is_noted, is_outstanding, is_taken, is_urgent, life_of, new_sends, normals, normals_where, nothing, one_urgent, resends, resends_urgent, resends_urgent_as, rule_allows, sent_normal, submitted, then_sends, ticked, ticked_as, urged, urgent_done}
use Rattle.tp4_sending.specs.Pieces.{cut_at, is_due}
use Rattle.tp4_conn.specs.Agreeing.{flow_rules}
use Rattle.tp4_conn.specs.Closing.{closing_tick, closing_tpdu}
use Rattle.tp4_conn.specs.End.{End, Moved, agreed_format, closing, confirms, frozen, gone, led_by, span}
use Rattle.tp4_conn.specs.Matching.{is_source, wants_sum}
use Rattle.tp4_conn.specs.Opened.{acking, acknowledging, dt_as, granting, hearing, is_expedited, opened_as, opened_goes, opened_tick, opened_tpdu, protocol_error, receiving, sending}
use Rattle.tp4_conn.specs.Table.{Called, Event, Ticked, Took, at as now_at, on_call, stepped}
use Rattle.tp4_conn.specs.declared.call.UserCall.{UserCall}
use Rattle.tp4_conn.specs.declared.call.UserCall.TheVariants as calls
use Rattle.tp4_conn.specs.declared.end_record.EndRecord.{EndRecord}
use Rattle.tp4_conn.specs.declared.states.InClosing.{InClosing}
use Rattle.tp4_conn.specs.declared.states.InOpened.{InOpened}
use Rattle.tp4_conn.specs.declared.states.StateData.{StateData}
use Rattle.tp4_conn.specs.declared.states.StateData.TheVariants as stages
use Rattle.tp4_world.proofs.Addressees.{either}
use Rattle.law_recovery_run.specs.Following.{HasOwn, IsBy, IsFromPartner, IsLive, IsSpoken, KeepsParty, Speaks}

-- ---- the sending half

-- what a half says with these rules
pub record HalvesSay (Q : Sent → Type 0) (rules : FlowRules) : Type 0 where
  pub speaks : (sent : Sent) → sent.to ≡ rules.to → destination_of sent.tpdu ≡ Some rules.partner → ((own : ℕ) → IsBy own sent.tpdu) → sent.format ≡ rules.format → Q sent

module _ (Q : Sent → Type 0) (rules : FlowRules) (say : HalvesSay Q rules) where
  pub record Sends (x : Sendings) : Type 0 where
    pub rules_are : x.sender.rules ≡ rules
    pub tpdus : AllByRecursion Q x.tpdus

  pub said : (r : FlowRules) (sent : Sent) → r ≡ rules → sent.to ≡ r.to → destination_of sent.tpdu ≡ Some r.partner → ((own : ℕ) → IsBy own sent.tpdu) → sent.format ≡ r.format → Q sent
  said r sent is to target by format =
      say.speaks sent (to ∙ ap (λ (f : FlowRules). f.to) is) (target ∙ ap (λ (f : FlowRules). Some f.partner) is) by (format ∙ ap (λ (f : FlowRules). f.format) is)

  nothing_sent : (s : FlowSender) → s.rules ≡ rules → Sends (nothing s)
  nothing_sent s is = record { rules_are = is; tpdus = tt }

  dts_said : (s : FlowSender) (n : ℕ) (piece : Option Piece) → s.rules ≡ rules → AllByRecursion Q (dts s n piece)
  dts_said s n None is = tt
  dts_said s n (Some piece) is = (said s.rules (dt_sent s.rules n piece.last piece.octets) is refl refl (λ own. tt) refl, tt)

  dt_said : (s : FlowSender) (n : ℕ) → s.rules ≡ rules → AllByRecursion Q (dts_of s n)
  dt_said s n is = dts_said s n (cut_at s.rules.piece s.queue.units (n - s.queue.first)) is

  all_said : (s : FlowSender) (ns : List ℕ) → s.rules ≡ rules → AllByRecursion Q (all_dts s ns)
  all_said s [] is = tt
  all_said s (n ∷ ns) is = all_both Q (dts_of s n) (all_dts s ns) (dt_said s n is) (all_said s ns is)

  eds_said : (s : FlowSender) (n : ℕ) (units : List (List ℕ)) → s.rules ≡ rules → AllByRecursion Q (eds s n units)
  eds_said s n [] is = tt
  eds_said s n (unit ∷ units) is = (said s.rules (ed_sent s.rules n unit) is refl refl (λ own. tt) refl, tt)

  then_sent : (x : Sendings) (next : FlowSender → Sendings) → Sends x → ((s : FlowSender) → s.rules ≡ rules → Sends (next s)) → Sends (then_sends x next)
  then_sent x next h more =
      let y = more x.sender h.rules_are in
      record { rules_are = y.rules_are; tpdus = all_both Q x.tpdus (next x.sender).tpdus h.tpdus y.tpdus }

  urgent_sent : (s : FlowSender) → s.rules ≡ rules → Sends (one_urgent s)
  urgent_sent s is =
      either Sends (is_some s.urgent.out || length s.urgent.units == 0) _ _ (nothing_sent s is)
      (either Sends (rule_allows s s.urgent.blocks s.urgent.next) _ _ (record { rules_are = is; tpdus = eds_said s s.urgent.next s.urgent.units is })
      (either Sends (is_noted s.urgent.noted s.urgent.next) _ _ (nothing_sent s is) (record { rules_are = is; tpdus = tt })))

  normals_sent : (fuel : ℕ) (s : FlowSender) → s.rules ≡ rules → Sends (normals fuel s)
  normals_sent zero s is = nothing_sent s is
  normals_sent (suc fuel) s is =
      let more = normals_sent fuel (sent_normal s) is in
      either Sends (not (has_next s)) _ _ (nothing_sent s is)
      (either Sends (rule_allows s s.numbers.blocks s.numbers.next) _ _
      (record { rules_are = more.rules_are; tpdus = all_both Q (dts_of s s.numbers.next) (normals fuel (sent_normal s)).tpdus (dt_said s s.numbers.next is) more.tpdus })
      (either Sends (is_noted s.noted s.numbers.next) _ _ (nothing_sent s is) (record { rules_are = is; tpdus = tt })))

  where_sent : (s : FlowSender) → s.rules ≡ rules → Sends (normals_where s)
  where_sent s is = either Sends (is_urgent s) _ _ (nothing_sent s is) (normals_sent _ s is)

  new_sent : (s : FlowSender) → s.rules ≡ rules → Sends (new_sends s)
  new_sent s is = either Sends s.is_open _ _ (then_sent (one_urgent s) normals_where (urgent_sent s is) where_sent) (nothing_sent s is)

  pub submitted_sent : (s : FlowSender) (unit : List ℕ) → s.rules ≡ rules → Sends (submitted s unit)
  submitted_sent s unit is = new_sent (record s { queue = record s.queue { units = s.queue.units ++ unit ∷ [] } }) is

  pub urged_sent : (s : FlowSender) (unit : List ℕ) → s.rules ≡ rules → Sends (urged s unit)
  urged_sent s unit is = new_sent (record s { urgent = record s.urgent { units = s.urgent.units ++ unit ∷ [] } }) is

  pub acknowledged_sent : (s : FlowSender) (w credit subsequence : ℕ) → s.rules ≡ rules → Sends (acknowledged s w credit subsequence)
  acknowledged_sent s w credit subsequence is =
      either Sends (is_taken s (near (block_in s) s.numbers.base w) credit subsequence) _ _ (new_sent (acknowledged_to s (near (block_in s) s.numbers.base w) credit subsequence) is) (nothing_sent s is)

  pub urgent_done_sent : (s : FlowSender) (w : ℕ) → s.rules ≡ rules → Sends (urgent_done s w)
  urgent_done_sent s w is =
      either Sends (is_outstanding s w) _ _ (new_sent (record s { urgent = record s.urgent { units = drop 1 s.urgent.units; out = None } }) is) (nothing_sent s is)

  resends_urgent_sent : (s : FlowSender) (out : Option Tries) → s.rules ≡ rules → Sends (resends_urgent_as out s)
  resends_urgent_sent s None is = nothing_sent s is
  resends_urgent_sent s (Some tries) is =
      either Sends (is_due s.rules.t1 s.clock tries) _ _ (record { rules_are = is; tpdus = eds_said s (s.urgent.next - 1) s.urgent.units is }) (nothing_sent s is)

  resends_sent : (s : FlowSender) → s.rules ≡ rules → Sends (resends s)
  resends_sent s is = record { rules_are = is; tpdus = all_said s (due_numbers s) is }

  pub ticked_sent : (s : FlowSender) (life : Life) → s.rules ≡ rules → Sends (ticked_as life s)
  ticked_sent s Spent is = nothing_sent s is
  ticked_sent s Goes is =
      then_sent (then_sends (resends s) resends_urgent) new_sends (then_sent (resends s) resends_urgent (resends_sent s is) (λ t same. resends_urgent_sent t t.urgent.out same)) new_sent

  pub ak_said : (h : Half) → h.rules ≡ rules → Q (ak h)
  ak_said h is = said h.rules (ak h) is refl refl (λ own. tt) refl

  pub aks_said : (got : Got) (h : Half) → h.rules ≡ rules → AllByRecursion Q (aks got h)
  aks_said TooLarge h is = tt
  aks_said other h is = (ak_said h is, tt)

-- ---- an end

same_party : (b : EndRecord) → KeepsParty b b
same_party b = record { own = refl; to = refl; partner = refl; agreed = refl }

module _ (b : EndRecord) (terms : Options) (agreed : b.agreed ≡ Some terms) where
  abbrev Q : Sent → Type 0
  Q = IsSpoken b

  abbrev rules : FlowRules
  rules = flow_rules b terms

  say : HalvesSay Q rules
  say = record { speaks = λ sent to target by format. record { to = to; target = target; source = by b.own; format = format ∙ sym (ap agreed_format agreed) } }

  confirms_said : (source : ℕ) → source ≡ b.partner → AllByRecursion Q (confirms b source)
  confirms_said source is =
      either (AllByRecursion Q) (source == 0) _ _ tt (record { to = refl; target = ap (λ (n : ℕ). Some n) is; source = refl; format = refl }, tt)

  closing_said : (events : List EndEvent) (reason : ℕ) (octets : List ℕ) (from : ℕ) → Speaks b (closing b events reason octets from)
  closing_said events reason octets from = record { keeps = same_party b; tpdus = (record { to = refl; target = refl; source = refl; format = refl }, tt) }

  frozen_said : (events : List EndEvent) (tpdus : List Sent) → AllByRecursion Q tpdus → Speaks b (frozen b events tpdus)
  frozen_said events tpdus all = record { keeps = same_party b; tpdus = all }

  led_said : (events : List EndEvent) (tpdus : List Sent) (m : Moved) → AllByRecursion Q tpdus → Speaks b m → Speaks b (led_by events tpdus m)
  led_said events tpdus m all h = record { keeps = h.keeps; tpdus = all_both Q tpdus m.tpdus all h.tpdus }

  sending_said : (o : InOpened) (s : Sendings) → AllByRecursion Q s.tpdus → Speaks b (sending b o s)
  sending_said o s all = record { keeps = same_party b; tpdus = all }

  receiving_said : (o : InOpened) (r : Received) → AllByRecursion Q r.tpdus → Speaks b (receiving b o r)
  receiving_said o r all = record { keeps = same_party b; tpdus = all }

  dt_as_said : (got : Got) (o : InOpened) (r : Received) → AllByRecursion Q r.tpdus → Speaks b (dt_as got b o r)
  dt_as_said TooLarge o r all = led_said r.events r.tpdus (protocol_error b) all (closing_said (gone b Protocol []) 133 [] b.clock)
  dt_as_said other o r all = receiving_said (acking b o) r all

  module _ (o : InOpened) (halves : (o.halves.sending.rules ≡ rules) × (o.halves.receiving.rules ≡ rules)) where
    ed_said : (wrap : ℕ → ℕ → ℕ) (w : ℕ) (octets : List ℕ) → Speaks b (receiving b o (taken_ed wrap o.halves.receiving w octets))
    ed_said wrap w octets =
        receiving_said o (taken_ed wrap o.halves.receiving w octets)
        (either (AllByRecursion Q) (is_next o.halves.receiving w || is_before o.halves.receiving w) _ _ (said Q rules say o.halves.receiving.rules (ea o.halves.receiving w) halves.1 refl refl (λ own. tt) refl, tt) tt)

    opened_took : (wrap : ℕ → ℕ → ℕ) (tpdu : Tpdu) → is_source b tpdu ≡ true → Speaks b (opened_tpdu wrap b o tpdu)
    unfolding opened_tpdu
    opened_took wrap (Cc credit destination source width calling called size preferred extra version classes ack_time text) by =
        record { keeps = same_party b; tpdus = (ak_said Q rules say o.halves.receiving halves.1, tt) }
    opened_took wrap (Dr destination source reason info text) by = frozen_said (gone b (Reason reason) text) (confirms b source) (confirms_said source (eqb-true source b.partner by))
    opened_took wrap (Er destination cause rejected) by = closing_said (gone b Protocol []) 133 [] b.clock
    opened_took wrap (Dt destination last number text) by =
        let piece : Piece = record { last = last; octets = text } in
        let a = dt_arrival o.halves.receiving number piece in
        dt_as_said a.got o (taken_dt wrap o.halves.receiving number piece) (aks_said Q rules say a.got (half_after wrap o.halves.receiving a) halves.1)
    opened_took wrap (Ed destination last number text) by =
        either (Speaks b) (is_expedited b.agreed) _ _ (ed_said wrap number text) (closing_said (gone b Protocol []) 133 [] b.clock)
    opened_took wrap (Ak destination number credit subsequence confirmation) by =
        sending_said o _ (acknowledged_sent Q rules say (at b.clock o.halves.sending) number credit subsequence halves.0).tpdus
    opened_took wrap (Ea destination number) by = sending_said o _ (urgent_done_sent Q rules say (at b.clock o.halves.sending) number halves.0).tpdus
    opened_took wrap other by = record { keeps = same_party b; tpdus = tt }

    granting_said : (new : Half) → new.rules ≡ rules → Speaks b (granting b o new)
    granting_said new is =
        either (Speaks b) (new.receiver.inbox.credit == o.halves.receiving.receiver.inbox.credit) _ _ (receiving_said o _ tt)
        (receiving_said (acking b o) _ (ak_said Q rules say new is, tt))

    goes_said : (s : Sendings) → Sends Q rules say s → Speaks b (opened_goes b o s)
    goes_said s h =
        either (Speaks b) (nat_le (o.acked + b.timers.window) b.clock) _ _
        (led_said s.events s.tpdus (acknowledging b (record o { halves = record o.halves { sending = s.sender } })) h.tpdus
        (record { keeps = same_party b; tpdus = (ak_said Q rules say o.halves.receiving halves.1, tt) }))
        (sending_said o s h.tpdus)

    as_said : (life : Life) → Speaks b (opened_as life b o)
    as_said Spent = closing_said (gone b Exhausted []) 128 [] b.clock
    as_said Goes = goes_said (ticked (at b.clock o.halves.sending)) (ticked_sent Q rules say (at b.clock o.halves.sending) (life_of (at b.clock o.halves.sending)) halves.0)

    opened_ticked : Speaks b (opened_tick b o)
    unfolding opened_tick
    opened_ticked =
        either (Speaks b) (nat_le (o.took + b.timers.inactive) b.clock) _ _ (closing_said (gone b Inactive []) 128 [] b.clock) (as_said (life_of (at b.clock o.halves.sending)))

    opened_called : (call : UserCall) → Speaks b (on_call b (stages.Opened o) call)
    opened_called (calls.Normal unit) = sending_said o _ (submitted_sent Q rules say (at b.clock o.halves.sending) unit halves.0).tpdus
    opened_called (calls.Urgent unit) = sending_said o _ (urged_sent Q rules say (at b.clock o.halves.sending) unit halves.0).tpdus
    opened_called (calls.Window credit) = granting_said (half_granted o.halves.receiving credit) halves.1
    opened_called (calls.Disconnect octets) = closing_said [] 128 octets b.clock
    opened_called other = record { keeps = same_party b; tpdus = tt }

-- ---- Closing

module _ (b : EndRecord) (c : InClosing) where
  closing_took : (tpdu : Tpdu) → Speaks b (closing_tpdu b c tpdu)
  unfolding closing_tpdu
  closing_took (Dc destination source) = record { keeps = same_party b; tpdus = tt }
  closing_took other = record { keeps = same_party b; tpdus = tt }

  closing_ticked : Speaks b (closing_tick b c)
  unfolding closing_tick
  closing_ticked =
      either (Speaks b) (nat_le (c.from + span b.timers) b.clock) _ _ (record { keeps = same_party b; tpdus = tt })
      (either (Speaks b) (nat_lt b.clock (c.last + b.timers.t1)) _ _ (record { keeps = same_party b; tpdus = tt })
      (record { keeps = same_party b; tpdus = (record { to = refl; target = refl; source = refl; format = refl }, tt) }))

  closing_called : (call : UserCall) → Speaks b (on_call b (stages.Closing c) call)
  closing_called call = record { keeps = same_party b; tpdus = tt }

-- ---- an event

-- at the tick of an event
from_now : (now : ℕ) (b : EndRecord) (m : Moved) → Speaks (now_at now b) m → Speaks b m
from_now now b m s = record { keeps = record { own = s.keeps.own; to = s.keeps.to; partner = s.keeps.partner; agreed = s.keeps.agreed }; tpdus = each m.tpdus s.tpdus }
  where
    each : (tpdus : List Sent) → AllByRecursion (IsSpoken (now_at now b)) tpdus → AllByRecursion (IsSpoken b) tpdus
    each [] all = tt
    each (sent ∷ tpdus) all = (record { to = all.0.to; target = all.0.target; source = all.0.source; format = all.0.format }, each tpdus all.1)

stage_speaks : (now : ℕ) (b : EndRecord) (stage : StateData) (event : Event) → IsLive stage → HasOwn b stage → IsFromPartner b event → Speaks b (stepped whole now (record { base = b; stage = stage }) event)
stage_speaks now b (stages.Opened o) (Called call) live own by = from_now now b _ (opened_called (now_at now b) own.terms own.agreed o (own.sending, own.receiving) call)
stage_speaks now b (stages.Opened o) (Took tpdu sum) live own by =
    either (Speaks b) (wants_sum b (stages.Opened o) tpdu && not sum) _ _ (record { keeps = same_party b; tpdus = tt })
    (from_now now b _ (opened_took (now_at now b) own.terms own.agreed (hearing (now_at now b) o) (own.sending, own.receiving) whole tpdu by))
stage_speaks now b (stages.Opened o) Ticked live own by = from_now now b _ (opened_ticked (now_at now b) own.terms own.agreed o (own.sending, own.receiving))
stage_speaks now b (stages.Closing c) (Called call) live own by = from_now now b _ (closing_called (now_at now b) c call)
stage_speaks now b (stages.Closing c) (Took tpdu sum) live own by =
    either (Speaks b) (wants_sum b (stages.Closing c) tpdu && not sum) _ _ (record { keeps = same_party b; tpdus = tt }) (from_now now b _ (closing_took (now_at now b) c tpdu))
stage_speaks now b (stages.Closing c) Ticked live own by = from_now now b _ (closing_ticked (now_at now b) c)
stage_speaks now b stage event live own by = absurd live

pub row_speaks : (now : ℕ) (e : End) (event : Event) → IsLive e.stage → HasOwn e.base e.stage → IsFromPartner e.base event → Speaks e.base (stepped whole now e event)
row_speaks now e event live own by = stage_speaks now e.base e.stage event live own by
