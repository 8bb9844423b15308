-- What is known of two Opened ends at a tick at which nothing waits, whatever was lost before it (X.224, class 4: retransmission, explicit flow control, segmentation and
-- reassembling, expedited data).
use Rattle.std.specs.Prelude.{◌≡◌, ◌<◌, ◌≤◌, ℕ, ◌+◌, List, [], ◌++◌, get_or, length, take, Some, None}
use Rattle.std.specs.List.{sum_by}
use Rattle.tp4_number.specs.declared.piece.Piece.{Piece}
use Rattle.tp4_number.specs.Expedited.{LeadsUrgently, Urgent, UrgentEvent, quiet}
use Rattle.tp4_flow.specs.ReceivingHalf.{Half}
use Rattle.tp4_sending.specs.SendingHalf.{FlowSender}
use Rattle.tp4_sending.specs.Kept.{urgent_base}
use Rattle.tp4_sending.specs.Pieces.{count_in, cut_at}
use Rattle.tp4_sending.specs.Settled.{IsSettled}
use Rattle.law_recovery_pair.specs.Fitting.{Fits}
use Rattle.law_recovery_pair.specs.Riding.{Aside, road_of, rules_by}
use Rattle.tp4_conn.specs.declared.states.InOpened.{InOpened}
use Rattle.tp4_conn.specs.declared.states.StateData.TheVariants.{Opened}
use Rattle.law_recovery_ends.specs.Due.{AreTriedBy, IsTriedBy}
use Rattle.law_recovery_ends.specs.Resting.{WasReached}
use Rattle.script_journal.specs.Lawful.{expediteds, normals}
use Rattle.law_tp4_history.specs.Complete.{AllFull, Complete}
use Rattle.law_tp4_pair.specs.Pair.{Account, IsIdle, Pair, back_units, forth_units}
use Rattle.law_tp4_pair.specs.Flowing.{IsOrdered}

-- One direction at a tick at which nothing waits, whatever was before: its traffic and its EDs were reached, what is known is in order, the receiver has its places, and
-- the sender tried nothing later than now
pub record IsKnownAt (life now : ℕ) (s : FlowSender) (h : Half) (units : Account) : Type 0 where
  pub aside : Aside
  pub no_dts : aside.dts ≡ []
  pub no_aks : aside.aks ≡ []
  pub format : h.rules.format ≡ s.rules.format
  pub reached : WasReached (rules_by life s.rules) (road_of now s.numbers h aside).traffic
  pub open reached use *
  pub fits : Fits h
  pub ordered : IsOrdered s
  pub settled : IsSettled s
  pub tried : AreTriedBy now s.window
  pub expedites : List UrgentEvent
  pub urgent : Urgent
  pub urgent_leads : LeadsUrgently (rules_by life s.rules) (quiet tick) expedites urgent
  pub urgent_clock : urgent.clock ≡ now
  pub urgent_next : urgent.next ≡ s.urgent.next
  pub urgent_blocks : urgent.blocks ≡ s.urgent.blocks
  pub urgent_expected : urgent.expected ≡ h.receiver.urgent
  pub urgent_base_is : urgent_base s.urgent s.urgent.out urgent.base
  pub urgent_tried : IsTriedBy now s.urgent.out
  -- the sender keeps what is not wholly acknowledged
  pub some : 0 < s.rules.piece
  pub full : AllFull (normals units.gave)
  pub acknowledged : List (List ℕ)
  pub normal : normals units.gave ≡ acknowledged ++ s.queue.units
  pub first : s.queue.first ≡ sum_by (count_in s.rules.piece) acknowledged
  pub answered : List (List ℕ)
  pub expedited : expediteds units.gave ≡ answered ++ s.urgent.units
  pub answers : length answered ≡ urgent.base
  -- what was shown are the units of the pieces below the number expected, and the receiver holds pieces of those ahead
  pub complete : Complete s.rules.piece (normals units.gave) h.receiver.expected (normals units.showed) h.receiver.inbox.held.begun
  pub held : (d : ℕ) (piece : Piece) → get_or h.receiver.inbox.held.places d None ≡ Some piece → cut_at s.rules.piece (normals units.gave) (h.receiver.expected + d) ≡ Some piece
  pub urged : expediteds units.showed ≡ take h.receiver.urgent (expediteds units.gave)

-- both ends are Opened and agreed on the same, nothing waits, and each direction is such a one
pub record AreKnown (life : ℕ) (p : Pair) (o q : InOpened) : Type 0 where
  pub idle : IsIdle p
  pub calling : p.calling.stage ≡ Opened o
  pub called : p.called.stage ≡ Opened q
  pub acked : (o.acked ≤ p.clock) × (q.acked ≤ p.clock)
  pub took : (o.took ≤ p.clock) × (q.took ≤ p.clock)
  pub named : (p.calling.base.partner ≡ p.called.base.own) × (p.called.base.partner ≡ p.calling.base.own)
  pub there : IsKnownAt life p.clock o.halves.sending q.halves.receiving (forth_units p)
  pub here : IsKnownAt life p.clock q.halves.sending o.halves.receiving (back_units p)
