-- A tick of a sender of which nothing waits: nothing is sent again, and what may go goes.
use Rattle.std.proofs.Common.{◌≡◌, ℕ, ◌+◌, ◌||◌, if◌then◌else◌, List, [], ◌∷◌, length, Option, None, refl, sym, ◌∙◌, ap, subst, arith}
use Rattle.std.specs.List.{list_any}
use Rattle.tp4_flow.specs.ReceivingHalf.{Half}
use Rattle.tp4_flow.specs.declared.rules.Life.{Life}
use Rattle.tp4_flow.specs.declared.rules.Life.TheVariants.{Goes, Exhausted}
use Rattle.tp4_sending.specs.declared.tries.Tries.{Tries}
use Rattle.tp4_sending.specs.SendingHalf.{FlowSender, Sendings, block_in, life_of, is_urgent_spent, nothing, new_sends, resends_urgent_as, ticked, ticked_as, marked_all, all_dts, then_sends, resends, resends_urgent}
use Rattle.tp4_sending.specs.Pieces.{is_spent, due_from, resent}
use Rattle.law_tp4_pair.specs.Flowing.{IsCalm}
use Rattle.law_tp4_pair.proofs.Going.{level_there}
use Rattle.law_tp4_pair.proofs.Granting.{at_rest}
use Rattle.law_tp4_pair.proofs.Hearing.{CalmAfter, new_calm}

no_window : (window : List Tries) (base next : ℕ) → length window + base ≡ next → base ≡ next → window ≡ []
no_window [] base next l e = refl
no_window (tries ∷ window) base next l e = absurd (omega (arith, l, e))

-- neither a DT nor an ED is there that was sent and is not acknowledged
pub record IsIdle (s : FlowSender) : Type 0 where
  pub window : s.window ≡ []
  pub out : s.urgent.out ≡ None

idle_goes : (s : FlowSender) → IsIdle s → life_of s ≡ Goes
idle_goes s q =
    ap (λ (w : List Tries). if list_any (is_spent s.rules.t1 s.rules.sendings s.clock) w || is_urgent_spent s s.urgent.out then Exhausted else Goes) q.window
    ∙ ap (λ (o : Option Tries). if is_urgent_spent s o then Exhausted else Goes) q.out

idle_resends : (s : FlowSender) → IsIdle s → resends s ≡ nothing s
idle_resends s q =
    let none : due_from s.rules.t1 s.clock s.numbers.base s.window ≡ [] = ap (due_from s.rules.t1 s.clock s.numbers.base) q.window in
    let same : resent s.rules.t1 s.clock s.window ≡ s.window = ap (resent s.rules.t1 s.clock) q.window ∙ sym q.window in
    λ i. record {
      sender = record s { numbers = record s.numbers { blocks = marked_all (block_in s) s.clock s.numbers.blocks (none i) }; window = same i };
      events = [];
      tpdus = all_dts s (none i);
    }

-- a tick makes the new sends alone
pub idle_ticks : (s : FlowSender) → IsIdle s → (life_of s ≡ Goes) × (ticked s ≡ new_sends s)
idle_ticks s q =
    let goes = idle_goes s q in (
      goes,
      ap (λ (l : Life). ticked_as l s) goes
          ∙ ap (λ (x : Sendings). then_sends (then_sends x resends_urgent) new_sends) (idle_resends s q)
          ∙ ap (λ (o : Option Tries). then_sends (then_sends (nothing s) (λ t. resends_urgent_as o t)) new_sends) q.out,
    )

pub at_idle : (s : FlowSender) (h : Half) → IsCalm s h [] [] [] [] → IsIdle s
at_idle s h c =
    let r = at_rest s h c in
    record { window = no_window s.window s.numbers.base s.numbers.next c.flows.ordered.window (r.base ∙ sym r.next); out = r.out }

pub ticked_calm : (s : FlowSender) (h : Half) → IsCalm s h [] [] [] [] → (life_of s ≡ Goes) × CalmAfter s [] (ticked s) h [] [] [] []
ticked_calm s h c =
    let t = idle_ticks s (at_idle s h c) in
    (t.0, subst (λ (x : Sendings). CalmAfter s [] x h [] [] [] []) (sym t.1) (new_calm s h [] [] [] [] c.flows (level_there s h [] [] [] c)))
