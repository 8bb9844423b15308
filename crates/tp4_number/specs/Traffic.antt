-- One sending half and one receiving half, with all that was ever sent between them.
use Rattle.std.specs.Prelude.{◌≡◌, ◌↔◌, ℕ, ◌+◌, ◌*◌, ◌<◌, ◌≤◌, true, None, replicate, List, [], ◌∷◌, ◌++◌, Contains}
use Rattle.tp4_number.specs.Number.{whole, wire, near, MaySend}
use Rattle.tp4_number.specs.Sender.{Sender, no_blocks, may_send, sent_next, sent_again, told}
use Rattle.tp4_number.specs.Receiver.{Receiver, arrival, after_dt, granted}
use Rattle.tp4_number.specs.declared.piece.Piece.{Piece}

-- numbers in a block, the lifetime M, and the ticks for which a number is in use, L
pub record Rules : Type 0 where
  pub block : ℕ
  pub life : ℕ
  pub limit : ℕ

pub record IsFit (rules : Rules) : Type 0 where
  pub some : 0 < rules.block
  pub long : 2 * rules.life ≤ rules.limit

-- an AK and the tick of its sending
pub record Answer : Type 0 where
  pub number : ℕ
  pub credit : ℕ
  pub subsequence : ℕ
  pub tick : ℕ

pub record Traffic : Type 0 where
  pub clock : ℕ
  pub sender : Sender
  pub receiver : Receiver
  pub sends : List (ℕ × ℕ)  -- every DT that was ever sent: its number and its tick
  pub answers : List Answer  -- every AK that was ever sent

-- what may happen next. A loss is an arrival that never comes
pub data Event : Type 0 where
  Tick : Event
  Open : (credit : ℕ) → Event  -- the sender begins with this credit
  Send : Event
  Resend : (n : ℕ) → Event
  Dt_comes : (n tick : ℕ) (piece : Piece) → Event  -- with any piece
  Grant : (credit : ℕ) → Event
  Acknowledge : Event
  Ak_comes : (answer : Answer) → Event

abbrev pub May : Rules → Traffic → Event → Type 0
May rules w Tick = Unit {0}
May rules w (Open credit) = (w.sender.blocks.high ≡ 0) × (credit < rules.block)
May rules w Send = (w.sender.next < w.sender.base + w.sender.credit) × (may_send rules.block rules.limit w.sender.blocks w.sender.next w.clock ≡ true)
May rules w (Resend n) = (w.sender.base ≤ n) × (n < w.sender.next)
May rules w (Dt_comes n tick piece) = Contains w.sends (n, tick) × (w.clock ≤ tick + rules.life)
May rules w (Grant credit) = credit < rules.block
May rules w Acknowledge = Unit {0}
May rules w (Ak_comes answer) = Contains w.answers answer × (w.clock ≤ answer.tick + rules.life)

abbrev pub answer_of : Traffic → Answer
answer_of w = record { number = w.receiver.expected; credit = w.receiver.inbox.credit; subsequence = w.receiver.inbox.subsequence; tick = w.clock }

abbrev pub after : Rules → Traffic → Event → Traffic
after rules w Tick = record w { clock = w.clock + 1 }
after rules w (Open credit) = record w { sender = record w.sender { credit = credit } }
after rules w Send = record w { sender = sent_next rules.block w.sender w.clock; sends = w.sends ++ (w.sender.next, w.clock) ∷ [] }
after rules w (Resend n) = record w { sender = sent_again rules.block w.sender n w.clock; sends = w.sends ++ (n, w.clock) ∷ [] }
after rules w (Dt_comes n tick piece) = record w { receiver = after_dt (whole rules.block) w.receiver (arrival rules.block w.receiver (wire rules.block n) piece) }
after rules w (Grant credit) = record w { receiver = record w.receiver { inbox = granted w.receiver.inbox credit } }
after rules w Acknowledge = record w { answers = w.answers ++ answer_of w ∷ [] }
after rules w (Ak_comes answer) = record w { sender = told w.sender (near rules.block w.sender.base (wire rules.block answer.number)) answer.credit answer.subsequence }

-- these events can happen in this order, and lead from one world to the other
abbrev pub Leads : Rules → Traffic → List Event → Traffic → Type 0
Leads rules old [] new = new ≡ old
Leads rules old (event ∷ events) new = May rules old event × Leads rules (after rules old event) events new

-- `size` is the most that a receiver keeps
abbrev pub start : ℕ → ℕ → ℕ → ℕ → Traffic
start tick credit size room =
    record {
      clock = tick;
      sender = record { base = 0; credit = credit; subsequence = 0; next = 0; blocks = no_blocks };
      receiver = record { expected = 0; urgent = 0; inbox = record { credit = room; subsequence = 0; held = record { places = replicate size None; begun = [] } } };
      sends = [];
      answers = [];
    }

-- every DT and every AK that is still afloat is read for what it is
pub record ReadsRightly (rules : Rules) (w : Traffic) : Type 0 where
  pub new_dt : (n tick : ℕ) → Contains w.sends (n, tick) → w.clock ≤ tick + rules.life → w.receiver.expected ≤ n
      → near rules.block w.receiver.expected (wire rules.block n) ≡ n
  pub old_dt : (n tick : ℕ) → Contains w.sends (n, tick) → w.clock ≤ tick + rules.life → n < w.receiver.expected
      → w.receiver.expected + rules.block ≤ near rules.block w.receiver.expected (wire rules.block n)
  pub new_ak : (a : Answer) → Contains w.answers a → w.clock ≤ a.tick + rules.life → w.sender.base ≤ a.number
      → near rules.block w.sender.base (wire rules.block a.number) ≡ a.number
  pub old_ak : (a : Answer) → Contains w.answers a → w.clock ≤ a.tick + rules.life → a.number < w.sender.base
      → w.sender.blocks.high < near rules.block w.sender.base (wire rules.block a.number)

-- the blocks that the sender keeps obey the rule over all that was ever sent, and numbers grow no faster than time
pub record KeepsRule (rules : Rules) (w : Traffic) : Type 0 where
  pub rule : (may_send rules.block rules.limit w.sender.blocks w.sender.next w.clock ≡ true) ↔ MaySend rules.block rules.limit w.sends w.sender.next w.clock
  pub again : (n : ℕ) → n < w.sender.blocks.high → MaySend rules.block rules.limit w.sends n w.clock
  pub base_low : w.sender.base ≤ w.receiver.expected
  pub expected_low : w.receiver.expected ≤ w.sender.blocks.high
  pub high_low : w.sender.blocks.high < w.sender.base + rules.block
  pub sent : (n tick : ℕ) → Contains w.sends (n, tick) → n < w.sender.blocks.high
  pub low : w.sender.blocks.high ≤ 3 * (rules.block * (w.clock + 1))
