-- One direction from a tick on, since when nothing is lost and what is sent is handed over, AKs in the order of their sending (X.224, class 4:
-- retransmission, explicit flow control). What was sent before that tick may still come, at any time, or never.
use Rattle.std.specs.Prelude.{◌≡◌, ◌⊎◌, ℕ, ◌+◌, ◌<◌, ◌≤◌, true, false, length, List, [], ◌∷◌, ◌++◌, Contains, max}
use Rattle.tp4_number.specs.declared.piece.Piece.{Piece}
use Rattle.tp4_number.specs.Receiver.{Receiver}
use Rattle.tp4_number.specs.Window.{is_held}
use Rattle.tp4_number.specs.Traffic.{Rules, Answer, Traffic, Tick, Send, Resend, Dt_comes, Grant, Acknowledge, Ak_comes, May, after, answer_of}
use Rattle.law_recovery_pair.specs.Views.{LeadsTo, known, said, IsWithin}

-- what was sent from the tick on and has not come, in the order of sending
pub record Road : Type 0 where
  pub traffic : Traffic
  pub dts : List (ℕ × ℕ)
  pub aks : List Answer

-- what may happen to a direction. A half answers each DT and each new credit with an AK
pub data Move : Type 0 where
  Ticks : Move
  Sends : Move
  Resends : (n : ℕ) → Move
  Grants : (credit : ℕ) → Move
  Repeats : Move  -- the window AK
  Dt_arrives : (before : List (ℕ × ℕ)) (n tick : ℕ) (rest : List (ℕ × ℕ)) (piece : Piece) → Move  -- any DT that waits
  Ak_arrives : (a : Answer) (rest : List Answer) → Move  -- the first AK that waits
  Late_dt : (n tick : ℕ) (piece : Piece) → Move  -- a DT from before the tick
  Late_ak : (a : Answer) → Move  -- an AK from before it

abbrev pub MayMove : Rules → ℕ → ℕ → Road → Move → Type 0
MayMove rules size u r Ticks = Unit {0}
MayMove rules size u r Sends = May rules r.traffic Send
MayMove rules size u r (Resends n) = May rules r.traffic (Resend n)
MayMove rules size u r (Grants credit) = May rules r.traffic (Grant credit) × (credit ≤ size)
MayMove rules size u r Repeats = Unit {0}
MayMove rules size u r (Dt_arrives before n tick rest piece) = (r.dts ≡ before ++ (n, tick) ∷ rest) × May rules r.traffic (Dt_comes n tick piece) × IsWithin rules r.traffic n piece
MayMove rules size u r (Ak_arrives a rest) = (r.aks ≡ a ∷ rest) × May rules r.traffic (Ak_comes a)
MayMove rules size u r (Late_dt n tick piece) = (tick < u) × May rules r.traffic (Dt_comes n tick piece) × IsWithin rules r.traffic n piece
MayMove rules size u r (Late_ak a) = (a.tick < u) × May rules r.traffic (Ak_comes a)

-- the receiver says what it says now
abbrev pub spoken : Rules → Road → Road
spoken rules r = record r { traffic = after rules r.traffic Acknowledge; aks = r.aks ++ answer_of r.traffic ∷ [] }

abbrev pub moved : Rules → Road → Move → Road
moved rules r Ticks = record r { traffic = after rules r.traffic Tick }
moved rules r Sends = record r { traffic = after rules r.traffic Send; dts = r.dts ++ (r.traffic.sender.next, r.traffic.clock) ∷ [] }
moved rules r (Resends n) = record r { traffic = after rules r.traffic (Resend n); dts = r.dts ++ (n, r.traffic.clock) ∷ [] }
moved rules r (Grants credit) = spoken rules (record r { traffic = after rules r.traffic (Grant credit) })
moved rules r Repeats = spoken rules r
moved rules r (Dt_arrives before n tick rest piece) = spoken rules (record r { traffic = after rules r.traffic (Dt_comes n tick piece); dts = before ++ rest })
moved rules r (Ak_arrives a rest) = record r { traffic = after rules r.traffic (Ak_comes a); aks = rest }
moved rules r (Late_dt n tick piece) = spoken rules (record r { traffic = after rules r.traffic (Dt_comes n tick piece) })
moved rules r (Late_ak a) = record r { traffic = after rules r.traffic (Ak_comes a) }

abbrev pub Moves : Rules → ℕ → ℕ → Road → List Move → Road → Type 0
Moves rules size u old [] new = new ≡ old
Moves rules size u old (move ∷ moves) new = MayMove rules size u old move × Moves rules size u (moved rules old move) moves new

-- what became of a number that was sent: it waits, or the receiver has gone past it, or holds it, or an AK that waits puts it outside
pub data IsDue (r : Road) (n : ℕ) : Type 0 where
  Waits : (tick : ℕ) → Contains r.dts (n, tick) → IsDue r n
  Passed : n < r.traffic.receiver.expected → IsDue r n
  Holds : (d : ℕ) → r.traffic.receiver.expected + d ≡ n → is_held r.traffic.receiver.inbox.held d ≡ true → IsDue r n
  Leaves : (a : Answer) → Contains r.aks a → a.number + a.credit ≤ n → IsDue r n

-- nothing was said from the tick on
pub record IsSilent (u : ℕ) (r : Road) : Type 0 where
  pub waits : r.aks ≡ []
  pub past : (a : Answer) → Contains r.traffic.answers a → a.tick < u

-- what is known since the tick u
pub record IsRecovering (size u : ℕ) (r : Road) : Type 0 where
  pub from : u ≤ r.traffic.clock
  -- each number outstanding that was sent since is due
  pub due : (n tick : ℕ) → Contains r.traffic.sends (n, tick) → u ≤ tick → r.traffic.sender.base ≤ n → n < r.traffic.sender.next → IsDue r n
  -- the AKs that wait lead from what the sender knows to what the receiver says, or nothing was said since
  pub views : LeadsTo (known r.traffic) r.aks (said r.traffic) ⊎ IsSilent u r
  pub waiting : (a : Answer) → Contains r.aks a → Contains r.traffic.answers a × (u ≤ a.tick)
  -- a place for each number within the credit
  pub places : length r.traffic.receiver.inbox.held.places ≡ size
  pub room : r.traffic.receiver.inbox.credit ≤ size
  -- the number expected is never held
  pub free : is_held r.traffic.receiver.inbox.held 0 ≡ false

-- a receiver has a place for each number within the credit, and the first place is free
pub record IsFitted (size : ℕ) (x : Receiver) : Type 0 where
  pub places : length x.inbox.held.places ≡ size
  pub room : x.inbox.credit ≤ size
  pub free : is_held x.inbox.held 0 ≡ false

-- no end is due: each number outstanding was sent less than T1 ticks ago, and the last AK less than W ticks ago
pub record IsNotDue (t1 window : ℕ) (w : Traffic) : Type 0 where
  pub number : (n : ℕ) → w.sender.base ≤ n → n < w.sender.next → (tick : ℕ) × Contains w.sends (n, tick) × (w.clock < tick + t1)
  pub spoke : (a : Answer) × Contains w.answers a × (w.clock < a.tick + window)

-- the views are equal, each number outstanding is held, and so none is
pub record IsLevel (w : Traffic) : Type 0 where
  pub view : known w ≡ said w
  pub held : (n : ℕ) → w.sender.base ≤ n → n < w.sender.next → (d : ℕ) × (w.receiver.expected + d ≡ n) × (is_held w.receiver.inbox.held d ≡ true)
  pub next : w.sender.next ≡ w.sender.base

-- Whatever was lost up to a tick: where all that was sent after it was handed over, AKs in order, none of it waits, no end is due, and as many ticks
-- passed as the longer of T1 and W, sender and receiver know the same, and nothing is outstanding
abbrev pub RecoversAfter : Rules → ℕ → Traffic → Type 0
RecoversAfter rules size w = (t1 window : ℕ) (moves : List Move) (r : Road) → Moves rules size (w.clock + 1) (record { traffic = after rules w Tick; dts = []; aks = [] }) moves r
    → r.dts ≡ [] → r.aks ≡ [] → IsNotDue t1 window r.traffic → w.clock + max t1 window ≤ r.traffic.clock → IsLevel r.traffic
