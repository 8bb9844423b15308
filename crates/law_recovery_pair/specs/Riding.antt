-- A sending half and the receiving half of its partner as a road: what the halves have of its traffic, and the rest of it beside them (X.224, class 4:
-- retransmission, explicit flow control). So what a half does is moves of the road, and the road after them is computed.
use Rattle.std.specs.Prelude.{ℕ, List, [], ◌∷◌, ◌++◌}
use Rattle.tp4_flow.specs.ReceivingHalf.{Half}
use Rattle.tp4_flow.specs.declared.rules.FlowRules.{FlowRules}
use Rattle.tp4_number.specs.Formats.{block_of}
use Rattle.tp4_number.specs.Sender.{Sender}
use Rattle.tp4_number.specs.Traffic.{Answer, Rules}
use Rattle.law_recovery_pair.specs.Recovering.{Move, Moves, Road}

-- what of a road is in neither half
pub record Aside : Type 0 where
  pub urgent : ℕ
  pub sends : List (ℕ × ℕ)
  pub answers : List Answer
  pub dts : List (ℕ × ℕ)
  pub aks : List Answer

abbrev pub road_of : ℕ → Sender → Half → Aside → Road
road_of now numbers h x = record {
  traffic = record {
    clock = now;
    sender = numbers;
    receiver = record { expected = h.receiver.expected; urgent = x.urgent; inbox = h.receiver.inbox };
    sends = x.sends;
    answers = x.answers;
  };
  dts = x.dts;
  aks = x.aks;
}

-- the rules of numbers of a half, where a TPDU lives so long
abbrev pub rules_by : ℕ → FlowRules → Rules
rules_by life f = record { block = block_of f.format; life = life; limit = f.limit }

-- these numbers, each with the tick
abbrev pub sent_at : ℕ → List ℕ → List (ℕ × ℕ)
sent_at tick [] = []
sent_at tick (n ∷ ns) = (n, tick) ∷ sent_at tick ns

-- these DTs were sent
abbrev pub sent_aside : Aside → List (ℕ × ℕ) → Aside
sent_aside x new = record x { sends = x.sends ++ new; dts = x.dts ++ new }

-- what a receiver says now
abbrev pub says_now : ℕ → Half → Answer
says_now now h = record { number = h.receiver.expected; credit = h.receiver.inbox.credit; subsequence = h.receiver.inbox.subsequence; tick = now }

-- and it said it
abbrev pub said_aside : Aside → Answer → Aside
said_aside x a = record x { answers = x.answers ++ a ∷ []; aks = x.aks ++ a ∷ [] }

-- some moves lead from one road to the other
pub record GoesOn (rules : Rules) (size u : ℕ) (old new : Road) : Type 0 where
  pub moves : List Move
  pub are : Moves rules size u old moves new

-- a sending half goes on from these numbers to those: it sends some DTs
pub record SendsOn (life size u : ℕ) (f : FlowRules) (now : ℕ) (old : Sender) (h : Half) (x : Aside) (new : Sender) : Type 0 where
  pub ns : List ℕ
  pub goes : GoesOn (rules_by life f) size u (road_of now old h x) (road_of now new h (sent_aside x (sent_at now ns)))

-- so it does after it heard an AK; that leaves this beside the halves
pub record HearsOn (life size u : ℕ) (f : FlowRules) (now : ℕ) (old : Sender) (h : Half) (x y : Aside) (new : Sender) : Type 0 where
  pub ns : List ℕ
  pub goes : GoesOn (rules_by life f) size u (road_of now old h x) (road_of now new h (sent_aside y (sent_at now ns)))
