-- What is shown where a direction is at rest: of units it is enough to know what holds at any time, at that tick (X.214, queue model; X.224, class 4: segmentation and
-- reassembling, expedited data).
use Rattle.std.specs.Prelude.{◌≡◌, ℕ, ◌<◌, List, ◌++◌, length, take, None}
use Rattle.std.specs.List.{sum_by}
use Rattle.tp4_flow.specs.ReceivingHalf.{Half}
use Rattle.tp4_sending.specs.SendingHalf.{FlowSender}
use Rattle.tp4_sending.specs.Pieces.{count_in}
use Rattle.script_journal.specs.Lawful.{expediteds, normals}
use Rattle.law_tp4_history.specs.Complete.{AllFull, Complete}
use Rattle.law_tp4_pair.specs.Pair.{Account}

-- the sender keeps what is not acknowledged, what was shown are the units of the pieces below the number expected, and expedited units are shown in order. The receiver
-- may hold pieces of those ahead
pub record AreCarried (s : FlowSender) (h : Half) (u : Account) : Type 0 where
  pub some : 0 < s.rules.piece
  pub full : AllFull (normals u.gave)
  pub acknowledged : List (List ℕ)
  pub normal : normals u.gave ≡ acknowledged ++ s.queue.units
  pub first : s.queue.first ≡ sum_by (count_in s.rules.piece) acknowledged
  pub complete : Complete s.rules.piece (normals u.gave) h.receiver.expected (normals u.showed) h.receiver.inbox.held.begun
  pub answered : List (List ℕ)
  pub expedited : expediteds u.gave ≡ answered ++ s.urgent.units
  pub answers : s.urgent.out ≡ None → length answered ≡ s.urgent.next
  pub urged : expediteds u.showed ≡ take h.receiver.urgent (expediteds u.gave)
