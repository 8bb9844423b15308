-- What an Opened end sends: its halves keep their terms, and send DTs, EDs, AKs and EAs by them; where the end closes, its DR comes last.
use Rattle.std.proofs.Common.{◌≡◌, ℕ, zero, suc, ◌+◌, ◌-◌, Bool, true, false, not, ◌||◌, ◌==◌, nat_le, if◌then◌else◌, List, [], ◌∷◌, ◌++◌, drop, length, Option, Some, None, refl, subst}
use Rattle.std.specs.Prelude.{is_some}
use Rattle.tpdu.specs.declared.tpdu.Tpdu.{Tpdu}
use Rattle.tpdu.specs.declared.tpdu.Tpdu.TheVariants.{Dt, Ed, Ak, Ea}
use Rattle.tp4_flow.specs.ReceivingHalf.{Half, Received, ak, aks, dt_arrival, ea, half_after, half_granted, is_before, is_next, taken_dt, taken_ed}
use Rattle.tp4_flow.specs.declared.rules.FlowRules.{FlowRules}
use Rattle.tp4_flow.specs.declared.rules.Life.{Life}
use Rattle.tp4_flow.specs.declared.rules.Life.TheVariants.{Goes, Exhausted}
use Rattle.tp4_flow.specs.declared.step.EndEvent.{EndEvent}
use Rattle.tp4_flow.specs.declared.step.Sent.{Sent}
use Rattle.tp4_number.specs.declared.got.Got.{Got}
use Rattle.tp4_number.specs.declared.got.Got.TheVariants.{TooLarge}
use Rattle.tp4_number.specs.declared.piece.Piece.{Piece}
use Rattle.tp4_number.specs.Number.{near, whole}
use Rattle.tp4_sending.specs.SendingHalf.{FlowSender, Sendings, acknowledged, acknowledged_to, all_dts, at, block_in, dts, dts_of, due_numbers, eds, has_next, is_noted, is_outstanding, is_taken, is_urgent, life_of, new_sends, normals, normals_where, nothing, one_urgent, resends, resends_urgent, resends_urgent_as, rule_allows, sent_normal, submitted, then_sends, ticked, ticked_as, urged, urgent_done}
use Rattle.tp4_sending.specs.Pieces.{cut_at, is_due}
use Rattle.tp4_sending.specs.declared.tries.Tries.{Tries}
use Rattle.tp4_conn.specs.declared.end_record.EndRecord.{EndRecord}
use Rattle.tp4_conn.specs.declared.call.UserCall.{UserCall}
use Rattle.tp4_conn.specs.declared.call.UserCall.TheVariants.{Normal, Urgent, Window, Disconnect}
use Rattle.tp4_conn.specs.declared.halves.Halves.{Halves}
use Rattle.tp4_conn.specs.declared.states.InOpened.{InOpened}
use Rattle.tp4_conn.specs.declared.states.InClosing.{InClosing}
use Rattle.tp4_conn.specs.declared.states.StateData.TheVariants.{Closing, Opened}
use Rattle.tp4_conn.specs.End.{Moved, closing, release}
use Rattle.tp4_conn.specs.Opened.{acking, dt_as, granting, is_expedited, opened_as, opened_goes, opened_tick, opened_tpdu, receiving, sending}
use Rattle.tp4_conn.specs.Table.{on_call}
use Rattle.law_tp4_pair.specs.Waiting.{AreData, IsDataFor}
use Rattle.law_tp4_pair.proofs.Wires.{data_then}

pub either : {A : Type 0} (P : A → Type 0) (c : Bool) (x y : A) → P x → P y → P (if c then x else y)
either P true x y p q = p
either P false x y p q = q

module _ (rules : FlowRules) where
  -- ---- the sending half

  pub record SendsBy (x : Sendings) : Type 0 where
    pub rules_are : x.sender.rules ≡ rules
    pub tpdus : AreData rules x.tpdus

  by_rules : (r : FlowRules) (tpdus : List Sent) → r ≡ rules → AreData r tpdus → AreData rules tpdus
  by_rules r tpdus e d = subst (λ (x : FlowRules). AreData x tpdus) e d

  nothing_by : (s : FlowSender) → s.rules ≡ rules → SendsBy (nothing s)
  nothing_by s is = record { rules_are = is; tpdus = tt }

  dts_by : (s : FlowSender) (n : ℕ) (piece : Option Piece) → AreData s.rules (dts s n piece)
  dts_by s n None = tt
  dts_by s n (Some piece) = (record { to = refl; format = refl; sum = refl; kind = refl }, tt)

  dt_by : (s : FlowSender) (n : ℕ) → s.rules ≡ rules → AreData rules (dts_of s n)
  dt_by s n is = by_rules s.rules (dts_of s n) is (dts_by s n (cut_at s.rules.piece s.queue.units (n - s.queue.first)))

  all_dts_by : (s : FlowSender) (ns : List ℕ) → s.rules ≡ rules → AreData rules (all_dts s ns)
  all_dts_by s [] is = tt
  all_dts_by s (n ∷ ns) is = data_then rules (dts_of s n) (all_dts s ns) (dt_by s n is) (all_dts_by s ns is)

  eds_by : (s : FlowSender) (n : ℕ) (units : List (List ℕ)) → s.rules ≡ rules → AreData rules (eds s n units)
  eds_by s n [] is = tt
  eds_by s n (unit ∷ units) is = by_rules s.rules (eds s n (unit ∷ units)) is (record { to = refl; format = refl; sum = refl; kind = refl }, tt)

  then_by : (x : Sendings) (next : FlowSender → Sendings) → SendsBy x → ((s : FlowSender) → s.rules ≡ rules → SendsBy (next s)) → SendsBy (then_sends x next)
  then_by x next h more =
      let y = more x.sender h.rules_are in
      record { rules_are = y.rules_are; tpdus = data_then rules x.tpdus (next x.sender).tpdus h.tpdus y.tpdus }

  urgent_by : (s : FlowSender) → s.rules ≡ rules → SendsBy (one_urgent s)
  urgent_by s is =
      either SendsBy (is_some s.urgent.out || length s.urgent.units == 0) _ _ (nothing_by s is)
      (either SendsBy (rule_allows s s.urgent.blocks s.urgent.next) _ _ (record { rules_are = is; tpdus = eds_by s s.urgent.next s.urgent.units is })
      (either SendsBy (is_noted s.urgent.noted s.urgent.next) _ _ (nothing_by s is) (record { rules_are = is; tpdus = tt })))

  normals_by : (fuel : ℕ) (s : FlowSender) → s.rules ≡ rules → SendsBy (normals fuel s)
  normals_by zero s is = nothing_by s is
  normals_by (suc fuel) s is =
      let more = normals_by fuel (sent_normal s) is in
      either SendsBy (not (has_next s)) _ _ (nothing_by s is)
      (either SendsBy (rule_allows s s.numbers.blocks s.numbers.next) _ _
      (record { rules_are = more.rules_are; tpdus = data_then rules (dts_of s s.numbers.next) (normals fuel (sent_normal s)).tpdus (dt_by s s.numbers.next is) more.tpdus })
      (either SendsBy (is_noted s.noted s.numbers.next) _ _ (nothing_by s is) (record { rules_are = is; tpdus = tt })))

  where_by : (s : FlowSender) → s.rules ≡ rules → SendsBy (normals_where s)
  where_by s is = either SendsBy (is_urgent s) _ _ (nothing_by s is) (normals_by _ s is)

  new_by : (s : FlowSender) → s.rules ≡ rules → SendsBy (new_sends s)
  new_by s is = either SendsBy s.is_open _ _ (then_by (one_urgent s) normals_where (urgent_by s is) where_by) (nothing_by s is)

  submitted_by : (s : FlowSender) (unit : List ℕ) → s.rules ≡ rules → SendsBy (submitted s unit)
  submitted_by s unit is = new_by (record s { queue = record s.queue { units = s.queue.units ++ unit ∷ [] } }) is

  urged_by : (s : FlowSender) (unit : List ℕ) → s.rules ≡ rules → SendsBy (urged s unit)
  urged_by s unit is = new_by (record s { urgent = record s.urgent { units = s.urgent.units ++ unit ∷ [] } }) is

  acknowledged_by : (s : FlowSender) (w credit subsequence : ℕ) → s.rules ≡ rules → SendsBy (acknowledged s w credit subsequence)
  acknowledged_by s w credit subsequence is =
      either SendsBy (is_taken s (near (block_in s) s.numbers.base w) credit subsequence) _ _ (new_by (acknowledged_to s (near (block_in s) s.numbers.base w) credit subsequence) is) (nothing_by s is)

  done_by : (s : FlowSender) (w : ℕ) → s.rules ≡ rules → SendsBy (urgent_done s w)
  done_by s w is =
      either SendsBy (is_outstanding s w) _ _ (new_by (record s { urgent = record s.urgent { units = drop 1 s.urgent.units; out = None } }) is) (nothing_by s is)

  resends_urgent_by : (s : FlowSender) (out : Option Tries) → s.rules ≡ rules → SendsBy (resends_urgent_as out s)
  resends_urgent_by s None is = nothing_by s is
  resends_urgent_by s (Some tries) is =
      either SendsBy (is_due s.rules.t1 s.clock tries) _ _ (record { rules_are = is; tpdus = eds_by s (s.urgent.next - 1) s.urgent.units is }) (nothing_by s is)

  ticked_by : (s : FlowSender) (life : Life) → s.rules ≡ rules → SendsBy (ticked_as life s)
  ticked_by s Exhausted is = nothing_by s is
  ticked_by s Goes is =
      then_by (then_sends (resends s) resends_urgent) new_sends
      (then_by (resends s) resends_urgent (record { rules_are = is; tpdus = all_dts_by s (due_numbers s) is }) (λ t same. resends_urgent_by t t.urgent.out same)) new_by

  -- ---- the end

  -- it goes on, or closes
  pub data Stays (b : EndRecord) (m : Moved) : Type 0 where
    Open_on : (o : InOpened) → m.base ≡ b → m.stage ≡ Opened o → o.halves.sending.rules ≡ rules → o.halves.receiving.rules ≡ rules → AreData rules m.tpdus → Stays b m
    Closes : (c : InClosing) (data_before : List Sent) (reason : ℕ) (octets : List ℕ) → m.base ≡ b → m.stage ≡ Closing c → AreData rules data_before → m.tpdus ≡ data_before ++ release b reason octets ∷ [] → Stays b m

  pub record AreBy (h : Halves) : Type 0 where
    pub sending_by : h.sending.rules ≡ rules
    pub receiving_by : h.receiving.rules ≡ rules

  sends_by : (b : EndRecord) (o : InOpened) (s : Sendings) → AreBy o.halves → SendsBy s → Stays b (sending b o s)
  sends_by b o s h x = Open_on (record o { halves = record o.halves { sending = s.sender } }) refl refl x.rules_are h.receiving_by x.tpdus

  receives_by : (b : EndRecord) (o : InOpened) (r : Received) → AreBy o.halves → r.half.rules ≡ rules → AreData rules r.tpdus → Stays b (receiving b o r)
  receives_by b o r h is d = Open_on (record o { halves = record o.halves { receiving = r.half } }) refl refl h.sending_by is d

  closes_by : (b : EndRecord) (events : List EndEvent) (reason : ℕ) (octets : List ℕ) (from : ℕ) → Stays b (closing b events reason octets from)
  closes_by b events reason octets from = Closes (record { reason = reason; octets = octets; from = from; last = b.clock }) [] reason octets refl refl tt refl

  ak_by : (h : Half) → h.rules ≡ rules → AreData rules (ak h ∷ [])
  ak_by h is = by_rules h.rules (ak h ∷ []) is (record { to = refl; format = refl; sum = refl; kind = refl }, tt)

  aks_by : (got : Got) (h : Half) → h.rules ≡ rules → AreData rules (aks got h)
  aks_by TooLarge h is = tt
  aks_by other h is = ak_by h is

  dt_as_by : (got : Got) (b : EndRecord) (o : InOpened) (r : Received) → AreBy o.halves → r.half.rules ≡ rules → AreData rules r.tpdus → Stays b (dt_as got b o r)
  dt_as_by TooLarge b o r h is d = Closes (record { reason = 133; octets = []; from = b.clock; last = b.clock }) r.tpdus 133 [] refl refl d refl
  dt_as_by other b o r h is d = receives_by b (acking b o) r h is d

  ed_by : (b : EndRecord) (o : InOpened) (w : ℕ) (octets : List ℕ) → AreBy o.halves → Stays b (receiving b o (taken_ed whole o.halves.receiving w octets))
  ed_by b o w octets h =
      receives_by b o (taken_ed whole o.halves.receiving w octets) h (either (λ (k : Half). k.rules ≡ rules) (is_next o.halves.receiving w) _ _ h.receiving_by h.receiving_by)
      (either (AreData rules) (is_next o.halves.receiving w || is_before o.halves.receiving w) _ _
      (by_rules o.halves.receiving.rules (ea o.halves.receiving w ∷ []) h.receiving_by (record { to = refl; format = refl; sum = refl; kind = refl }, tt)) tt)

  -- data come
  pub hears_data : (b : EndRecord) (o : InOpened) (to : ℕ) (tpdu : Tpdu) → AreBy o.halves → IsDataFor to tpdu → Stays b (opened_tpdu whole b o tpdu)
  unfolding opened_tpdu
  hears_data b o to (Dt destination last number text) h k =
      let a = dt_arrival o.halves.receiving number (record { last = last; octets = text }) in
      dt_as_by a.got b o (taken_dt whole o.halves.receiving number (record { last = last; octets = text })) h h.receiving_by (aks_by a.got (half_after whole o.halves.receiving a) h.receiving_by)
  hears_data b o to (Ed destination last number text) h k =
      either (Stays b) (is_expedited b.agreed) _ _ (ed_by b o number text h) (closes_by b _ 133 [] b.clock)
  hears_data b o to (Ak destination number credit subsequence confirmation) h k = sends_by b o _ h (acknowledged_by (at b.clock o.halves.sending) number credit subsequence h.sending_by)
  hears_data b o to (Ea destination number) h k = sends_by b o _ h (done_by (at b.clock o.halves.sending) number h.sending_by)
  hears_data b o to other h k = absurd k

  grants_by : (b : EndRecord) (o : InOpened) (new : Half) → AreBy o.halves → new.rules ≡ rules → Stays b (granting b o new)
  grants_by b o new h is =
      either (Stays b) (new.receiver.inbox.credit == o.halves.receiving.receiver.inbox.credit) _ _ (receives_by b o _ h is tt) (receives_by b (acking b o) _ h is (ak_by new is))

  -- a user asks
  pub asks : (b : EndRecord) (o : InOpened) (call : UserCall) → AreBy o.halves → Stays b (on_call b (Opened o) call)
  asks b o (Normal unit) h = sends_by b o _ h (submitted_by (at b.clock o.halves.sending) unit h.sending_by)
  asks b o (Urgent unit) h = sends_by b o _ h (urged_by (at b.clock o.halves.sending) unit h.sending_by)
  asks b o (Window credit) h = grants_by b o (half_granted o.halves.receiving credit) h h.receiving_by
  asks b o (Disconnect octets) h = closes_by b [] 128 octets b.clock
  asks b o other h = Open_on o refl refl h.sending_by h.receiving_by tt

  goes_by : (b : EndRecord) (o : InOpened) (s : Sendings) → AreBy o.halves → SendsBy s → Stays b (opened_goes b o s)
  goes_by b o s h x =
      either (Stays b) (nat_le (o.acked + b.timers.window) b.clock) _ _
      (Open_on (acking b (record o { halves = record o.halves { sending = s.sender } })) refl refl x.rules_are h.receiving_by (data_then rules s.tpdus (ak o.halves.receiving ∷ []) x.tpdus (ak_by o.halves.receiving h.receiving_by)))
      (sends_by b o s h x)

  as_by : (life : Life) (b : EndRecord) (o : InOpened) → AreBy o.halves → Stays b (opened_as life b o)
  as_by Exhausted b o h = closes_by b _ 128 [] b.clock
  as_by Goes b o h = goes_by b o (ticked (at b.clock o.halves.sending)) h (ticked_by (at b.clock o.halves.sending) (life_of (at b.clock o.halves.sending)) h.sending_by)

  -- a tick
  pub ticks : (b : EndRecord) (o : InOpened) → AreBy o.halves → Stays b (opened_tick b o)
  unfolding opened_tick
  ticks b o h =
      either (Stays b) (nat_le (o.took + b.timers.inactive) b.clock) _ _ (closes_by b _ 128 [] b.clock) (as_by (life_of (at b.clock o.halves.sending)) b o h)
