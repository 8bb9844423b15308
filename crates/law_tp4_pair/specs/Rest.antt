-- What is left where nothing waits: nothing, but for want of credit or by the number rule (X.224, class 4: explicit flow control; frozen
-- references and numbers). Of this the claim says what is shown.
use Rattle.std.specs.Prelude.{◌≡◌, ◌⊎◌, ◌≤◌, [], None}
use Rattle.script_journal.specs.Lawful.{expediteds, normals}
use Rattle.tp4_flow.specs.ReceivingHalf.{Half}
use Rattle.tp4_sending.specs.SendingHalf.{FlowSender}
use Rattle.tp4_sending.specs.Pieces.{end_of}
use Rattle.tp4_conn.specs.declared.states.InOpened.{InOpened}
use Rattle.law_tp4_pair.specs.Claim.{HoldsDt, HoldsEd}
use Rattle.law_tp4_pair.specs.Pair.{Account, Pair, back_units, forth_units}

-- why a DT of what was submitted is not taken: the number rule, or no credit; else all are
pub data HasTaken (s : FlowSender) (h : Half) : Type 0 where
  By_ed : HoldsEd s → HasTaken s h
  By_dt : HoldsDt s → HasTaken s h
  By_credit : h.receiver.inbox.credit ≡ 0 → HasTaken s h
  All : end_of s.rules.piece s.queue ≤ h.receiver.expected → HasTaken s h

-- a sender and the receiver of its partner
pub record IsAtRest (s : FlowSender) (h : Half) : Type 0 where
  pub base : s.numbers.base ≡ h.receiver.expected  -- each DT that was sent is taken and acknowledged
  pub next : s.numbers.next ≡ h.receiver.expected
  pub credit : s.numbers.credit ≡ h.receiver.inbox.credit
  pub out : s.urgent.out ≡ None  -- so is each ED
  pub urgent : s.urgent.next ≡ h.receiver.urgent
  pub expedited : (s.urgent.units ≡ []) ⊎ HoldsEd s
  pub normal : HasTaken s h

-- each unit that was submitted at one end is shown at the other, but for want of credit or by the number rule
pub record IsShown (s : FlowSender) (h : Half) (u : Account) : Type 0 where
  pub expedited : (expediteds u.showed ≡ expediteds u.gave) ⊎ HoldsEd s
  pub normal : (normals u.showed ≡ normals u.gave) ⊎ (HoldsEd s ⊎ (HoldsDt s ⊎ (h.receiver.inbox.credit ≡ 0)))

-- both directions between the Opened ends of a pair
pub record AreAtRest (p : Pair) (o q : InOpened) : Type 0 where
  pub there : IsAtRest o.halves.sending q.halves.receiving
  pub here : IsAtRest q.halves.sending o.halves.receiving
  pub shown_there : IsShown o.halves.sending q.halves.receiving (forth_units p)
  pub shown_here : IsShown q.halves.sending o.halves.receiving (back_units p)
