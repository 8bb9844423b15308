-- Each call of an open half leaves it settled.
use Rattle.std.proofs.Common.{◌≡◌, ℕ, true, List, [], ◌∷◌, ◌++◌, drop, None, ◌∙◌}
use Rattle.tp4_number.specs.Number.{near}
use Rattle.tp4_number.proofs.Past.{if_kept}
use Rattle.tp4_flow.specs.declared.rules.Life.{Life}
use Rattle.tp4_flow.specs.declared.rules.Life.TheVariants.{Goes, Exhausted}
use Rattle.tp4_sending.specs.SendingHalf.{FlowSender, Sendings, acknowledged, acknowledged_to, block_in, is_outstanding, is_taken, life_of, resends, resends_urgent_as, submitted, ticked, ticked_as, urged, urgent_done}
use Rattle.tp4_sending.specs.Settled.{IsSettled}
use Rattle.tp4_sending.proofs.Settles.{new_settled}
use Rattle.law_recovery_steps.proofs.Sending.{again_silent}

abbrev IsDone : Sendings → Type 0
IsDone x = IsSettled x.sender

ticks_settle : (s : FlowSender) (life : Life) → s.is_open ≡ true → IsSettled s → IsDone (ticked_as life s)
ticks_settle s Exhausted is_open c = c
ticks_settle s Goes is_open c =
    let t : FlowSender = (resends s).sender in
    new_settled (resends_urgent_as t.urgent.out t).sender ((again_silent t t.urgent.out).is_open ∙ is_open)

pub calls_settle : (s : FlowSender) (unit : List ℕ) (w : ℕ) → s.is_open ≡ true → IsSettled s → IsDone (submitted s unit) × IsDone (urged s unit) × IsDone (urgent_done s w) × IsDone (ticked s)
calls_settle s unit w is_open c = (
  new_settled (record s { queue = record s.queue { units = s.queue.units ++ unit ∷ [] } }) is_open,
  new_settled (record s { urgent = record s.urgent { units = s.urgent.units ++ unit ∷ [] } }) is_open,
  if_kept IsDone (is_outstanding s w) _ _ (λ _. new_settled (record s { urgent = record s.urgent { units = drop 1 s.urgent.units; out = None } }) is_open) (λ _. c),
  ticks_settle s (life_of s) is_open c,
)

pub ak_settles : (s : FlowSender) (w credit subsequence : ℕ) → s.is_open ≡ true → IsSettled s → IsDone (acknowledged s w credit subsequence)
ak_settles s w credit subsequence is_open c =
    let n = near (block_in s) s.numbers.base w in
    if_kept IsDone (is_taken s n credit subsequence) _ _ (λ _. new_settled (acknowledged_to s n credit subsequence) is_open) (λ _. c)
