-- Whatever happens in a network, an end in CrWait sent its CR last no later than now: it is made as it sends it the first time, and sends it again as it ticks.
use Rattle.std.proofs.Common.{◌≡◌, ℕ, ◌+◌, ◌≤◌, nat_lt, List, refl, sym, ◌∙◌, ap, subst, arith}
use Rattle.std.specs.Prelude.{◌&&◌, not}
use Rattle.osi_base.specs.Calls.{Call, Keeps}
use Rattle.osi_base.specs.Link.{Link}
use Rattle.tpdu.specs.declared.tpdu.Tpdu.{Tpdu}
use Rattle.tpdu.specs.declared.tpdu.Tpdu.TheVariants as wires
use Rattle.tp4_number.specs.Number.{whole}
use Rattle.tp4_number.proofs.Past.{if_kept}
use Rattle.tp4_conn.specs.Agreeing.{is_within}
use Rattle.tp4_conn.specs.CrWait.{cr_wait_tick, cr_wait_tpdu}
use Rattle.tp4_conn.specs.End.{End, Moved}
use Rattle.tp4_conn.specs.Matching.{wants_sum}
use Rattle.tp4_conn.specs.Table.{Called, Event as Happens, Ticked, Took, stepped}
use Rattle.tp4_conn.specs.declared.call.UserCall.TheVariants as asks
use Rattle.tp4_conn.specs.declared.end_record.EndRecord.{EndRecord}
use Rattle.tp4_conn.specs.declared.states.InCrWait.{InCrWait}
use Rattle.tp4_conn.specs.declared.states.StateData.{StateData}
use Rattle.tp4_conn.specs.declared.states.StateData.TheVariants.{CrWait}
use Rattle.law_calm_run.proofs.Young.{row_calls}
use Rattle.law_recovery_run.specs.Requesting.{in_cr_wait}
use Rattle.law_recovery_run.proofs.Lasting.{each_has}
use Rattle.law_recovery.specs.Laws.{TriesArePast}

-- ---- an end

abbrev IsTriedBy : ℕ → StateData → Type 0
IsTriedBy now (CrWait w) = w.tries.last ≤ now
IsTriedBy now stage = Prim.Unit {0}

tpdu_tried : (now : ℕ) (b : EndRecord) (w : InCrWait) (t : Tpdu) → w.tries.last ≤ now → IsTriedBy now (cr_wait_tpdu b w t).stage
unfolding cr_wait_tpdu
tpdu_tried now b w (wires.Cc credit destination source width calling called size preferred extra version classes ack_time text) low =
    if_kept (λ (m : Moved). IsTriedBy now m.stage) (is_within b.proposed width size preferred extra) _ _ (λ _. tt) (λ _. tt)
tpdu_tried now b w (wires.Dr destination source reason info text) low = tt
tpdu_tried now b w other low = low

tick_tried : (now : ℕ) (b : EndRecord) (w : InCrWait) → b.clock ≡ now → w.tries.last ≤ now → IsTriedBy now (cr_wait_tick b w).stage
unfolding cr_wait_tick
tick_tried now b w is low = if_kept (λ (m : Moved). IsTriedBy now m.stage) (nat_lt b.clock (w.tries.last + b.timers.t1)) _ _ (λ _. low)
    (λ _. if_kept (λ (m : Moved). IsTriedBy now m.stage) (nat_lt w.tries.count b.timers.sendings) _ _ (λ _. omega (arith, is)) (λ _. tt))

-- of an end in CrWait
cr_tried : (now : ℕ) (b : EndRecord) (w : InCrWait) (event : Happens) → w.tries.last ≤ now → IsTriedBy now (stepped whole now (in_cr_wait b w) event).stage
cr_tried now b w (Called (asks.Disconnect octets)) low = tt
cr_tried now b w (Called (asks.Accept options octets)) low = low
cr_tried now b w (Called (asks.Refuse octets)) low = low
cr_tried now b w (Called (asks.Normal octets)) low = low
cr_tried now b w (Called (asks.Urgent octets)) low = low
cr_tried now b w (Called (asks.Window credit)) low = low
cr_tried now b w (Took t sum) low = if_kept (λ (m : Moved). IsTriedBy now m.stage) (wants_sum b (CrWait w) t && not sum) _ _ (λ _. low) (λ _. tpdu_tried now (record b { clock = now }) w t low)
cr_tried now b w Ticked low = tick_tried now (record b { clock = now }) w refl low

-- and no other end comes to it
row_tried : (now : ℕ) (o : End) (event : Happens) → IsTriedBy now o.stage → IsTriedBy now (stepped whole now o event).stage
row_tried now o event was = by (stepped whole now o event).stage refl
  where
    by : (stage : StateData) → (stepped whole now o event).stage ≡ stage → IsTriedBy now stage
    by (CrWait r) is =
        let c = row_calls now o event r is in
        let same : o ≡ in_cr_wait o.base c.0 = ap (λ (z : StateData). record { base = o.base; stage = z }) c.1 in
        subst (IsTriedBy now) (ap (λ (z : End). (stepped whole now z event).stage) (sym same) ∙ is) (cr_tried now o.base c.0 event (subst (IsTriedBy now) c.1 was))
    by other is = tt

later_tried : (now then : ℕ) (stage : StateData) → now ≤ then → IsTriedBy now stage → IsTriedBy then stage
later_tried now then (CrWait w) low was = omega (arith, low, was)
later_tried now then other low was = tt

-- ---- so of each end, after any calls

module _ {C : Type 0} (link : C → Link (List ℕ)) (steps : C → Call (List ℕ) → C → Type 0)
    (law : (old : C) (call : Call (List ℕ)) (new : C) → steps old call new → Keeps (link old) call (link new)) where
  pub tries_past : TriesArePast link steps
  tries_past titles timers journal last a system own entity e w there stands asks =
      subst (IsTriedBy (link last.carrier).clock) asks
      (each_has IsTriedBy row_tried later_tried (λ now call. omega arith) (λ now since. tt) link steps law titles timers journal last a system own entity e there stands)
