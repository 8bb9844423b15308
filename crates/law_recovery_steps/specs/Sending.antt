-- What a call of a sending half puts behind what waits is what the road gets by its moves: the DTs that it sends, in order (X.224, class 4: retransmission on time-out,
-- retention until acknowledgement).
use Rattle.std.specs.Prelude.{◌≡◌, ℕ, ◌+◌, ◌-◌, ◌≤◌, true, List, [], ◌∷◌, ◌++◌, Some, length}
use Rattle.tp4_number.specs.declared.piece.Piece.{Piece}
use Rattle.tp4_number.specs.Number.{wire}
use Rattle.tp4_number.specs.Traffic.{Answer}
use Rattle.tp4_flow.specs.ReceivingHalf.{Half}
use Rattle.tp4_sending.specs.SendingHalf.{FlowSender, Sendings, block_in}
use Rattle.tp4_sending.specs.Pieces.{cut_at, end_of}
use Rattle.law_recovery_pair.specs.Riding.{Aside, GoesOn, road_of, rules_by, sent_aside, sent_at}
use Rattle.law_recovery_ends.specs.Due.{AreTried}
use Rattle.law_tp4_history.specs.Lines.{shown_in}
use Rattle.law_tp4_pair.specs.Carrying.{pieces_in}
use Rattle.law_tp4_pair.specs.Waiting.{AreData, View, aks_in, dts_in, eas_in}

-- there is a try for each number that is outstanding
abbrev pub IsCounted : FlowSender → Type 0
IsCounted s = length s.window + s.numbers.base ≡ s.numbers.next

-- DTs and AKs of a road, as they stand on the wire
abbrev pub dts_on : ℕ → List (ℕ × ℕ) → List ℕ
dts_on block [] = []
dts_on block (e ∷ sends) = wire block e.0 ∷ dts_on block sends

abbrev pub aks_on : ℕ → List Answer → List View
aks_on block [] = []
aks_on block (a ∷ answers) = record { number = wire block a.number; credit = a.credit; subsequence = a.subsequence } ∷ aks_on block answers

-- a sender that may send has a piece for each number that it ever sent and that is not acknowledged
pub record IsFed (s : FlowSender) : Type 0 where
  pub is_open : s.is_open ≡ true
  pub first : s.queue.first ≤ s.numbers.base
  pub window : IsCounted s
  pub high : s.numbers.next ≤ s.numbers.blocks.high
  pub reach : s.numbers.blocks.high ≤ end_of s.rules.piece s.queue

-- these units are cut from the first that is kept on as those that are kept
abbrev pub IsCutFrom : List (List ℕ) → FlowSender → Type 0
IsCutFrom all s = (n : ℕ) → s.queue.first ≤ n → cut_at s.rules.piece all n ≡ cut_at s.rules.piece s.queue.units (n - s.queue.first)

-- each DT has the piece of its number
abbrev pub AreCut : ℕ → List (List ℕ) → List (ℕ × ℕ) → List Piece → Type 0
AreCut size all [] pieces = pieces ≡ []
AreCut size all (e ∷ sends) [] = ⊥
AreCut size all (e ∷ sends) (piece ∷ pieces) = (cut_at size all e.0 ≡ Some piece) × AreCut size all sends pieces

-- a half goes on from s, beside which y stands after what came: what it sends is no AK and no EA, and its DTs are those of the road
pub record GoesOut (life size u : ℕ) (s : FlowSender) (h : Half) (x y : Aside) (z : Sendings) : Type 0 where
  pub ns : List ℕ
  pub goes : GoesOn (rules_by life s.rules) size u (road_of s.clock s.numbers h x) (road_of s.clock z.sender.numbers h (sent_aside y (sent_at s.clock ns)))
  pub rules : z.sender.rules ≡ s.rules
  pub clock : z.sender.clock ≡ s.clock
  pub fed : IsFed z.sender
  pub tried : (sends : List (ℕ × ℕ)) → AreTried u s.numbers.base s.window sends → AreTried u z.sender.numbers.base z.sender.window (sends ++ sent_at s.clock ns)
  pub dts : dts_in z.tpdus ≡ dts_on (block_in s) (sent_at s.clock ns)
  pub aks : aks_in z.tpdus ≡ []
  pub eas : eas_in z.tpdus ≡ []
  pub right : (all : List (List ℕ)) → IsCutFrom all z.sender → AreCut s.rules.piece all (sent_at s.clock ns) (pieces_in z.tpdus)
  pub data_are : AreData s.rules z.tpdus
  pub quiet : shown_in z.events ≡ []
