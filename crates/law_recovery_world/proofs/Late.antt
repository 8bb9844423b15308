-- What a sending half does it tries now: nothing is tried later.
use Rattle.std.specs.Prelude.{not, is_some}
use Rattle.std.proofs.Common.{◌≤◌, ◌-◌, ◌==◌, ◌||◌, ℕ, zero, suc, true, List, [], ◌∷◌, ◌++◌, take, drop, length, Option, Some, None}
use Rattle.tp4_number.specs.Number.{near}
use Rattle.tp4_number.proofs.Past.{if_kept}
use Rattle.tp4_flow.specs.declared.rules.Life.{Life}
use Rattle.tp4_flow.specs.declared.rules.Life.TheVariants.{Goes, Exhausted}
use Rattle.tp4_sending.specs.SendingHalf.{FlowSender, Sendings, block_in, rule_allows, is_noted, one_urgent, sent_normal, has_next, normals, is_urgent, normals_where, new_sends, opened, submitted, urged, acknowledged, is_taken, acknowledged_to, is_outstanding, urgent_done, resends, resends_urgent_as, life_of, ticked_as, ticked}
use Rattle.tp4_sending.specs.Pieces.{end_of, is_due, once, resent}
use Rattle.tp4_sending.specs.declared.tries.Tries.{Tries}
use Rattle.law_recovery_ends.specs.Due.{AreTriedBy, HasTried}

module _ (now : ℕ) where
  push_by : (window : List Tries) (last : Tries) → AreTriedBy now window → last.last ≤ now → AreTriedBy now (window ++ last ∷ [])
  push_by [] last all low = (low, tt)
  push_by (tries ∷ window) last all low = (all.0, push_by window last all.1 low)

  drop_by : (k : ℕ) (window : List Tries) → AreTriedBy now window → AreTriedBy now (drop k window)
  drop_by zero window all = all
  drop_by (suc k) [] all = tt
  drop_by (suc k) (tries ∷ window) all = drop_by k window all.1

  take_by : (k : ℕ) (window : List Tries) → AreTriedBy now window → AreTriedBy now (take k window)
  take_by zero window all = tt
  take_by (suc k) [] all = tt
  take_by (suc k) (tries ∷ window) all = (all.0, take_by k window all.1)

  again_by : (t1 at : ℕ) (window : List Tries) → at ≤ now → AreTriedBy now window → AreTriedBy now (resent t1 at window)
  again_by t1 at [] low all = tt
  again_by t1 at (tries ∷ window) low all = (if_kept (λ (t : Tries). t.last ≤ now) (is_due t1 at tries) _ _ (λ _. low) (λ _. all.0), again_by t1 at window low all.1)

  -- a half whose clock is not ahead
  pub record IsBy (s : FlowSender) : Type 0 where
    pub clock : s.clock ≤ now
    pub tried : HasTried now s

  abbrev By : Sendings → Type 0
  By x = IsBy x.sender

  normals_by : (fuel : ℕ) (s : FlowSender) → IsBy s → By (normals fuel s)
  normals_by zero s b = b
  normals_by (suc fuel) s b =
      if_kept By (not (has_next s)) _ _ (λ _. b)
      (λ _. if_kept By (rule_allows s s.numbers.blocks s.numbers.next) _ _
      (λ _. normals_by fuel (sent_normal s) (record { clock = b.clock; tried = record { window = push_by s.window (once s.clock) b.tried.window b.clock; urgent = b.tried.urgent } }))
      (λ _. if_kept By (is_noted s.noted s.numbers.next) _ _ (λ _. b) (λ _. record { clock = b.clock; tried = record { window = b.tried.window; urgent = b.tried.urgent } })))

  where_by : (s : FlowSender) → IsBy s → By (normals_where s)
  where_by s b = if_kept By (is_urgent s) _ _ (λ _. b) (λ _. normals_by (end_of s.rules.piece s.queue - s.numbers.next) s b)

  urgent_by : (s : FlowSender) → IsBy s → By (one_urgent s)
  urgent_by s b =
      if_kept By (is_some s.urgent.out || length s.urgent.units == 0) _ _ (λ _. b)
      (λ _. if_kept By (rule_allows s s.urgent.blocks s.urgent.next) _ _
      (λ _. record { clock = b.clock; tried = record { window = b.tried.window; urgent = b.clock } })
      (λ _. if_kept By (is_noted s.urgent.noted s.urgent.next) _ _ (λ _. b) (λ _. record { clock = b.clock; tried = record { window = b.tried.window; urgent = b.tried.urgent } })))

  new_by : (s : FlowSender) → IsBy s → By (new_sends s)
  new_by s b = if_kept By s.is_open _ _ (λ _. where_by (one_urgent s).sender (urgent_by s b)) (λ _. b)

  pub submitted_by : (s : FlowSender) (unit : List ℕ) → IsBy s → By (submitted s unit)
  submitted_by s unit b = new_by (record s { queue = record s.queue { units = s.queue.units ++ unit ∷ [] } }) (record { clock = b.clock; tried = record { window = b.tried.window; urgent = b.tried.urgent } })

  pub urged_by : (s : FlowSender) (unit : List ℕ) → IsBy s → By (urged s unit)
  urged_by s unit b = new_by (record s { urgent = record s.urgent { units = s.urgent.units ++ unit ∷ [] } }) (record { clock = b.clock; tried = record { window = b.tried.window; urgent = b.tried.urgent } })

  pub opened_by : (s : FlowSender) → IsBy s → By (opened s)
  opened_by s b = new_by (record s { is_open = true }) (record { clock = b.clock; tried = record { window = b.tried.window; urgent = b.tried.urgent } })

  pub acknowledged_by : (s : FlowSender) (w granted subsequence : ℕ) → IsBy s → By (acknowledged s w granted subsequence)
  acknowledged_by s w granted subsequence b =
      let n = near (block_in s) s.numbers.base w in
      let t = acknowledged_to s n granted subsequence in
      if_kept By (is_taken s n granted subsequence) _ _
      (λ _. new_by t (record { clock = b.clock; tried = record { window = take_by (t.numbers.next - n) (drop (n - s.numbers.base) s.window) (drop_by (n - s.numbers.base) s.window b.tried.window); urgent = b.tried.urgent } }))
      (λ _. b)

  pub done_by : (s : FlowSender) (w : ℕ) → IsBy s → By (urgent_done s w)
  done_by s w b = if_kept By (is_outstanding s w) _ _
      (λ _. new_by (record s { urgent = record s.urgent { units = drop 1 s.urgent.units; out = None } }) (record { clock = b.clock; tried = record { window = b.tried.window; urgent = tt } })) (λ _. b)

  urgently_by : (s : FlowSender) (out : Option Tries) → IsBy s → By (resends_urgent_as out s)
  urgently_by s None b = b
  urgently_by s (Some tries) b = if_kept By (is_due s.rules.t1 s.clock tries) _ _ (λ _. record { clock = b.clock; tried = record { window = b.tried.window; urgent = b.clock } }) (λ _. b)

  pub ticked_by : (s : FlowSender) → IsBy s → By (ticked s)
  ticked_by s b = by (life_of s)
    where
      first : IsBy (resends s).sender
      first = record { clock = b.clock; tried = record { window = again_by s.rules.t1 s.clock s.window b.clock b.tried.window; urgent = b.tried.urgent } }

      by : (life : Life) → By (ticked_as life s)
      by Exhausted = b
      by Goes = new_by (resends_urgent_as (resends s).sender.urgent.out (resends s).sender).sender (urgently_by (resends s).sender (resends s).sender.urgent.out first)
