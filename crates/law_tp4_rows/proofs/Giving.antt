-- What a sending half sends is no CR and no CC.
use Rattle.std.proofs.Common.{ℕ, zero, suc, ◌-◌, ◌==◌, ◌||◌, true, List, [], ◌∷◌, ◌++◌, drop, length, Option, Some, None}
use Rattle.std.specs.Prelude.{not, is_some}
use Rattle.tp4_flow.specs.declared.rules.Life.{Life}
use Rattle.tp4_flow.specs.declared.rules.Life.TheVariants.{Goes, Exhausted}
use Rattle.tp4_flow.specs.declared.step.Sent.{Sent}
use Rattle.tp4_number.specs.declared.piece.Piece.{Piece}
use Rattle.tp4_number.specs.Number.{near}
use Rattle.tp4_number.proofs.Past.{if_kept}
use Rattle.tp4_sending.specs.SendingHalf.{FlowSender, Sendings, then_sends, block_in, rule_allows, dts, dts_of, all_dts, eds, is_noted, one_urgent, sent_normal, has_next, normals, is_urgent, normals_where, new_sends, opened, submitted, urged, acknowledged, is_taken, acknowledged_to, is_outstanding, urgent_done, resends, resends_urgent_as, due_numbers, life_of, ticked_as, ticked}
use Rattle.tp4_sending.specs.Pieces.{cut_at, end_of, is_due}
use Rattle.tp4_sending.specs.declared.tries.Tries.{Tries}
use Rattle.law_tp4_rows.specs.Giving.{AllGive}

pub all_then : (credit : ℕ) (a b : List Sent) → AllGive credit a → AllGive credit b → AllGive credit (a ++ b)
all_then credit [] b first second = second
all_then credit (sent ∷ a) b first second = (first.0, all_then credit a b first.1 second)

module _ (credit : ℕ) where
  abbrev Gives : Sendings → Type 0
  Gives x = AllGive credit x.tpdus

  dts_give : (s : FlowSender) (n : ℕ) (piece : Option Piece) → AllGive credit (dts s n piece)
  dts_give s n None = tt
  dts_give s n (Some piece) = (tt, tt)

  eds_give : (s : FlowSender) (n : ℕ) (units : List (List ℕ)) → AllGive credit (eds s n units)
  eds_give s n [] = tt
  eds_give s n (unit ∷ units) = (tt, tt)

  all_dts_give : (s : FlowSender) (ns : List ℕ) → AllGive credit (all_dts s ns)
  all_dts_give s [] = tt
  all_dts_give s (n ∷ ns) = all_then credit (dts_of s n) (all_dts s ns) (dts_give s n (cut_at s.rules.piece s.queue.units (n - s.queue.first))) (all_dts_give s ns)

  normals_give : (fuel : ℕ) (s : FlowSender) → Gives (normals fuel s)
  normals_give zero s = tt
  normals_give (suc fuel) s =
      if_kept Gives (not (has_next s)) _ _ (λ _. tt)
      (λ _. if_kept Gives (rule_allows s s.numbers.blocks s.numbers.next) _ _
      (λ _. all_then credit (dts_of s s.numbers.next) (normals fuel (sent_normal s)).tpdus (dts_give s s.numbers.next (cut_at s.rules.piece s.queue.units (s.numbers.next - s.queue.first))) (normals_give fuel (sent_normal s)))
      (λ _. if_kept Gives (is_noted s.noted s.numbers.next) _ _ (λ _. tt) (λ _. tt)))

  where_give : (s : FlowSender) → Gives (normals_where s)
  where_give s = if_kept Gives (is_urgent s) _ _ (λ _. tt) (λ _. normals_give (end_of s.rules.piece s.queue - s.numbers.next) s)

  urgent_give : (s : FlowSender) → Gives (one_urgent s)
  urgent_give s =
      if_kept Gives (is_some s.urgent.out || length s.urgent.units == 0) _ _ (λ _. tt)
      (λ _. if_kept Gives (rule_allows s s.urgent.blocks s.urgent.next) _ _
      (λ _. eds_give s s.urgent.next s.urgent.units)
      (λ _. if_kept Gives (is_noted s.urgent.noted s.urgent.next) _ _ (λ _. tt) (λ _. tt)))

  pub new_give : (s : FlowSender) → Gives (new_sends s)
  new_give s = if_kept Gives s.is_open _ _ (λ _. all_then credit (one_urgent s).tpdus (normals_where (one_urgent s).sender).tpdus (urgent_give s) (where_give (one_urgent s).sender)) (λ _. tt)

  pub submitted_give : (s : FlowSender) (unit : List ℕ) → Gives (submitted s unit)
  submitted_give s unit = new_give (record s { queue = record s.queue { units = s.queue.units ++ unit ∷ [] } })

  pub urged_give : (s : FlowSender) (unit : List ℕ) → Gives (urged s unit)
  urged_give s unit = new_give (record s { urgent = record s.urgent { units = s.urgent.units ++ unit ∷ [] } })

  pub opened_give : (s : FlowSender) → Gives (opened s)
  opened_give s = new_give (record s { is_open = true })

  pub acknowledged_give : (s : FlowSender) (w granted subsequence : ℕ) → Gives (acknowledged s w granted subsequence)
  acknowledged_give s w granted subsequence =
      let n = near (block_in s) s.numbers.base w in
      if_kept Gives (is_taken s n granted subsequence) _ _ (λ _. new_give (acknowledged_to s n granted subsequence)) (λ _. tt)

  pub done_give : (s : FlowSender) (w : ℕ) → Gives (urgent_done s w)
  done_give s w = if_kept Gives (is_outstanding s w) _ _ (λ _. new_give (record s { urgent = record s.urgent { units = drop 1 s.urgent.units; out = None } })) (λ _. tt)

  urgently_give : (s : FlowSender) (out : Option Tries) → Gives (resends_urgent_as out s)
  urgently_give s None = tt
  urgently_give s (Some tries) = if_kept Gives (is_due s.rules.t1 s.clock tries) _ _ (λ _. eds_give s (s.urgent.next - 1) s.urgent.units) (λ _. tt)

  pub ticked_give : (s : FlowSender) → Gives (ticked s)
  ticked_give s = by (life_of s)
    where
      again : Sendings
      again = then_sends (resends s) (λ x. resends_urgent_as x.urgent.out x)

      by : (life : Life) → Gives (ticked_as life s)
      by Exhausted = tt
      by Goes = all_then credit again.tpdus (new_sends again.sender).tpdus
          (all_then credit (resends s).tpdus (resends_urgent_as (resends s).sender.urgent.out (resends s).sender).tpdus (all_dts_give s (due_numbers s)) (urgently_give (resends s).sender (resends s).sender.urgent.out))
          (new_give again.sender)
