-- Over each row of an end: what its sending half knows is what it began with, or what an AK said.
use Rattle.std.proofs.Common.{◌≡◌, inl, inr, ℕ, ◌+◌, ◌==◌, ◌&&◌, not, nat_le, Bool, Some, refl, ◌∙◌, arith}
use Rattle.tpdu.specs.declared.tpdu.Tpdu.{Tpdu}
use Rattle.tpdu.specs.declared.tpdu.Tpdu.TheVariants.{Cc, Dr, Dt, Ed, Ak, Ea, Er}
use Rattle.tp4_number.specs.declared.got.Got.{Got}
use Rattle.tp4_number.specs.declared.got.Got.TheVariants.{TooLarge}
use Rattle.tp4_number.specs.declared.piece.Piece.{Piece}
use Rattle.tp4_number.specs.Formats.{block_of}
use Rattle.tp4_number.specs.Number.{near}
use Rattle.tp4_number.proofs.Past.{if_kept}
use Rattle.tp4_flow.specs.ReceivingHalf.{Half, Received, dt_arrival, half_granted, taken_dt}
use Rattle.tp4_flow.specs.declared.rules.FlowRules.{FlowRules}
use Rattle.tp4_flow.specs.declared.rules.Life.{Life}
use Rattle.tp4_flow.specs.declared.rules.Life.TheVariants.{Goes, Exhausted}
use Rattle.tp4_sending.specs.SendingHalf.{FlowSender, at, block_in, fresh, life_of, opened}
use Rattle.tp4_conn.specs.declared.call.UserCall.{UserCall}
use Rattle.tp4_conn.specs.declared.call.UserCall.TheVariants.{Normal, Urgent, Window, Disconnect}
use Rattle.tp4_conn.specs.declared.end_record.EndRecord.{EndRecord}
use Rattle.tp4_conn.specs.declared.states.InAkWait.{InAkWait}
use Rattle.tp4_conn.specs.declared.states.InCrWait.{InCrWait}
use Rattle.tp4_conn.specs.declared.states.InOpened.{InOpened}
use Rattle.tp4_conn.specs.declared.states.StateData.{StateData}
use Rattle.tp4_conn.specs.declared.states.StateData.TheVariants.{CrWait, UserWait, AkWait, Opened}
use Rattle.tp4_conn.specs.Agreeing.{flow_rules, options_in}
use Rattle.tp4_conn.specs.AkWait.{opening}
use Rattle.tp4_conn.specs.End.{End, Moved}
use Rattle.tp4_conn.specs.Matching.{wants_sum}
use Rattle.tp4_conn.specs.Opened.{dt_as, hearing, is_expedited, opened_as, opened_tick, opened_tpdu}
use Rattle.tp4_conn.specs.Table.{Called, Event, Ticked, Took, at as now_at, on_call, on_tick, on_tpdu, stepped}
use Rattle.law_tp4_rows.proofs.RowsWithout.{HasNone, OpensBy, ak_wait_later, ak_wait_row, call_without, cr_wait_row, tick_without, tpdu_without, user_wait_call}
use Rattle.law_tp4_rows.proofs.GivingRows.{knows_at}
use Rattle.law_tp4_rows.specs.Giving.{EventGives, Gives, GivesCredit, KnowsCredit}
use Rattle.law_recovery_pair.specs.Viewing.{IsWithin, KeepsView}
use Rattle.law_recovery_pair.proofs.Viewing.{ak_keep, done_keep, open_keep, submit_keep, tick_keep, urge_keep}
use Rattle.law_recovery_ends.specs.Knowing.{IsFreshView, RowKnows, StageKnows}

same_view : (s : FlowSender) → IsWithin s → KeepsView s s
same_view s e = record { rules = refl; base = refl; credit = refl; subsequence = refl; edge = e }

-- the tick does not count
at_view : (now : ℕ) (s t : FlowSender) → KeepsView (at now s) t → KeepsView s t
at_view now s t k = record { rules = k.rules; base = k.base; credit = k.credit; subsequence = k.subsequence; edge = k.edge }

module _ (credit : ℕ) where
  fresh_on : (s t : FlowSender) → KeepsView s t → IsFreshView credit s → IsFreshView credit t
  fresh_on s t k f = record { base = k.base ∙ f.base; credit_is = k.credit ∙ f.credit_is; subsequence = k.subsequence ∙ f.subsequence; edge = k.edge }

  fresh_begins : (rules : FlowRules) (given : ℕ) → given ≡ credit → IsFreshView credit (fresh rules given)
  fresh_begins rules given is = record { base = refl; credit_is = is; subsequence = refl; edge = omega arith }

  at_fresh : (now : ℕ) (s : FlowSender) → IsFreshView credit s → IsFreshView credit (at now s)
  at_fresh now s f = record { base = f.base; credit_is = f.credit_is; subsequence = f.subsequence; edge = f.edge }

  module _ (wrap : ℕ → ℕ → ℕ) (b : EndRecord) where
    -- ---- Opened

    module _ (o : InOpened) (e : IsWithin o.halves.sending) where
      abbrev s : FlowSender
      s = o.halves.sending

      -- by its state after the row
      abbrev View : Event → Moved → Type 0
      View event m = RowKnows credit (Opened o) event m.stage

      keeps : (t : FlowSender) → KeepsView (at b.clock s) t → KeepsView s t
      keeps t k = at_view b.clock s t k

      opened_view : (tpdu : Tpdu) (sum : Bool) → View (Took tpdu sum) (opened_tpdu wrap b (hearing b o) tpdu)
      unfolding opened_tpdu
      opened_view (Dr destination source reason info text) sum = tt
      opened_view (Er destination cause rejected) sum = tt
      opened_view (Dt destination last number text) sum =
          let piece : Piece = record { last = last; octets = text } in
          by (dt_arrival o.halves.receiving number piece).got (taken_dt wrap o.halves.receiving number piece)
        where
          by : (got : Got) (r : Received) → View (Took (Dt destination last number text) sum) (dt_as got b (hearing b o) r)
          by TooLarge r = tt
          by other r = inl (same_view s e)
      opened_view (Ed destination last number text) sum = if_kept (View (Took (Ed destination last number text) sum)) (is_expedited b.agreed) _ _ (λ _. inl (same_view s e)) (λ _. tt)
      opened_view (Ak destination number given subsequence confirmation) sum = elim (ak_keep (at b.clock s) number given subsequence e) [
        | inl takes ↦ inr (record {
          w = number;
          credit = given;
          subsequence = subsequence;
          says = (refl, refl, refl);
          low = inl takes.low;
          base = takes.base;
          credit_is = takes.credit_is;
          subsequence_is = takes.subsequence_is;
          edge = takes.edge;
        })
        | inr k ↦ inl (keeps _ k)
      ]
      opened_view (Ea destination number) sum = inl (keeps _ (done_keep (at b.clock s) number e))
      opened_view other sum = inl (same_view s e)

      opened_later : View Ticked (opened_tick b o)
      unfolding opened_tick
      opened_later =
          if_kept (View Ticked) (nat_le (o.took + b.timers.inactive) b.clock) _ _ (λ _. tt) (λ _. by (life_of (at b.clock s)))
        where
          by : (life : Life) → View Ticked (opened_as life b o)
          by Exhausted = tt
          by Goes = if_kept (View Ticked) (nat_le (o.acked + b.timers.window) b.clock) _ _
              (λ _. inl (keeps _ (tick_keep (at b.clock s) e)))
              (λ _. inl (keeps _ (tick_keep (at b.clock s) e)))

      opened_call : (call : UserCall) → View (Called call) (on_call b (Opened o) call)
      opened_call (Normal unit) = inl (keeps _ (submit_keep (at b.clock s) unit e))
      opened_call (Urgent unit) = inl (keeps _ (urge_keep (at b.clock s) unit e))
      opened_call (Window granted) =
          let new : Half = half_granted o.halves.receiving granted in
          if_kept (View (Called (Window granted))) (new.receiver.inbox.credit == o.halves.receiving.receiver.inbox.credit) _ _ (λ _. inl (same_view s e)) (λ _. inl (same_view s e))
      opened_call (Disconnect octets) = tt
      opened_call other = inl (same_view s e)

    -- ---- AkWait

    module _ (w : InAkWait) (f : IsFreshView credit w.halves.sending) where
      abbrev k : FlowSender
      k = w.halves.sending

      abbrev Views : Event → Moved → Type 0
      Views event m = RowKnows credit (AkWait w) event m.stage

      -- as it is opened
      abbrev s1 : FlowSender
      s1 = (opened (at b.clock k)).sender

      opens : KeepsView k s1
      opens = at_view b.clock k s1 (open_keep (at b.clock k) f.edge)

      f1 : IsFreshView credit s1
      f1 = fresh_on k s1 opens f

      heard_there : (n : ℕ) → near (block_in s1) s1.numbers.base n ≡ near (block_in k) k.numbers.base n
      heard_there n = λ i. near (block_of (opens.rules i).format) (opens.base i) n

      opening_view : (tpdu : Tpdu) (sum : Bool) → Views (Took tpdu sum) (opening wrap b w.halves tpdu)
      unfolding opened_tpdu
      opening_view (Dr destination source reason info text) sum = tt
      opening_view (Er destination cause rejected) sum = tt
      opening_view (Dt destination last number text) sum =
          let piece : Piece = record { last = last; octets = text } in
          by (dt_arrival w.halves.receiving number piece).got (taken_dt wrap w.halves.receiving number piece)
        where
          o : InOpened
          o = record { took = b.clock; acked = b.clock; halves = record w.halves { sending = s1 } }

          by : (got : Got) (r : Received) → Views (Took (Dt destination last number text) sum) (dt_as got b o r)
          by TooLarge r = tt
          by other r = inl f1
      opening_view (Ed destination last number text) sum = if_kept (Views (Took (Ed destination last number text) sum)) (is_expedited b.agreed) _ _ (λ _. inl f1) (λ _. tt)
      opening_view (Ak destination number given subsequence confirmation) sum = elim (ak_keep (at b.clock s1) number given subsequence f1.edge) [
        | inl takes ↦ inr (record {
          w = number;
          credit = given;
          subsequence = subsequence;
          says = (refl, refl, refl);
          low = inr f.base;
          base = takes.base ∙ heard_there number;
          credit_is = takes.credit_is;
          subsequence_is = takes.subsequence_is;
          edge = takes.edge;
        })
        | inr keep ↦ inl (fresh_on s1 _ (at_view b.clock s1 _ keep) f1)
      ]
      opening_view (Ea destination number) sum = inl (fresh_on s1 _ (at_view b.clock s1 _ (done_keep (at b.clock s1) number f1.edge)) f1)
      opening_view other sum = inl f1

      ak_wait_call : (call : UserCall) → Views (Called call) (on_call b (AkWait w) call)
      ak_wait_call (Normal unit) = fresh_on (at b.clock k) _ (submit_keep (at b.clock k) unit f.edge) (at_fresh b.clock k f)
      ak_wait_call (Urgent unit) = fresh_on (at b.clock k) _ (urge_keep (at b.clock k) unit f.edge) (at_fresh b.clock k f)
      ak_wait_call (Disconnect octets) = tt
      ak_wait_call other = f

    -- ---- the others

    abbrev Row : StateData → Event → Moved → Type 0
    Row old event m = RowKnows credit old event m.stage

    -- of a state without halves nothing is asked
    none_view : (old : StateData) (event : Event) (m : Moved) → HasNone m.stage → Row old event m
    none_view old event m none = by m.stage none
      where
        by : (stage : StateData) → HasNone stage → RowKnows credit old event stage
        by (AkWait w) none = absurd none
        by (Opened o) none = absurd none
        by other none = tt

    opens_view : (w : InCrWait) (tpdu : Tpdu) (sum : Bool) → GivesCredit credit tpdu → OpensBy b (Row (CrWait w) (Took tpdu sum)) tpdu
    opens_view w (Cc given destination source width calling called size preferred extra version classes ack_time text) sum is =
        let c : EndRecord = record b { partner = source; credit = given; agreed = Some (options_in width size preferred extra) } in
        let s0 : FlowSender = fresh (flow_rules c (options_in width size preferred extra)) given in
        fresh_on (at b.clock s0) _ (open_keep (at b.clock s0) (omega arith)) (at_fresh b.clock s0 (fresh_begins _ given is))
    opens_view w other sum is = tt

    -- ---- all rows

    tpdu_view : (stage : StateData) (tpdu : Tpdu) (sum : Bool) → StageKnows credit stage → GivesCredit credit tpdu → Row stage (Took tpdu sum) (on_tpdu wrap b stage tpdu)
    tpdu_view (AkWait w) tpdu sum knows is =
        ak_wait_row wrap b (Row (AkWait w) (Took tpdu sum)) (none_view (AkWait w) (Took tpdu sum)) w knows tpdu (opening_view w knows tpdu sum)
    tpdu_view (Opened o) tpdu sum knows is = opened_view o knows tpdu sum
    tpdu_view (CrWait w) tpdu sum knows is = cr_wait_row wrap b (Row (CrWait w) (Took tpdu sum)) (none_view (CrWait w) (Took tpdu sum)) w tpdu (opens_view w tpdu sum is)
    tpdu_view other tpdu sum knows is = tpdu_without wrap b (Row other (Took tpdu sum)) (none_view other (Took tpdu sum)) other tt tpdu tt

    tick_view : (stage : StateData) → StageKnows credit stage → Row stage Ticked (on_tick b stage)
    tick_view (AkWait w) knows = ak_wait_later wrap b (Row (AkWait w) Ticked) (none_view (AkWait w) Ticked) w knows knows
    tick_view (Opened o) knows = opened_later o knows
    tick_view other knows = tick_without wrap b (Row other Ticked) (none_view other Ticked) other tt

    call_view : (stage : StateData) (call : UserCall) → StageKnows credit stage → KnowsCredit credit b stage → Row stage (Called call) (on_call b stage call)
    call_view (AkWait w) call knows known = ak_wait_call w knows call
    call_view (Opened o) call knows known = opened_call o knows call
    call_view (UserWait since) call knows known =
        user_wait_call wrap b (Row (UserWait since) (Called call)) (none_view (UserWait since) (Called call)) since call (λ asked octets. fresh_begins _ b.credit known)
    call_view other call knows known = call_without wrap b (Row other (Called call)) (none_view other (Called call)) other tt call tt

    -- a TPDU that lacks its checksum is not taken
    untaken_view : (stage : StateData) (event : Event) → StageKnows credit stage → RowKnows credit stage event stage
    untaken_view (AkWait w) event knows = knows
    untaken_view (Opened o) event knows = inl (same_view o.halves.sending knows)
    untaken_view other event knows = tt

  pub row_knows : (wrap : ℕ → ℕ → ℕ) (now : ℕ) (e : End) (event : Event) → Gives credit e.base e.stage → EventGives credit event → StageKnows credit e.stage
      → RowKnows credit e.stage event (stepped wrap now e event).stage
  row_knows wrap now e (Called call) g is knows = call_view wrap (now_at now e.base) e.stage call knows (knows_at credit now e.base e.stage g.knows)
  row_knows wrap now e (Took tpdu sum) g is knows =
      if_kept (λ (m : Moved). RowKnows credit e.stage (Took tpdu sum) m.stage) (wants_sum e.base e.stage tpdu && not sum) _ _
      (λ _. untaken_view wrap e.base e.stage (Took tpdu sum) knows) (λ _. tpdu_view wrap (now_at now e.base) e.stage tpdu sum knows is)
  row_knows wrap now e Ticked g is knows = tick_view wrap (now_at now e.base) e.stage knows
