-- What is said in a direction at any time, whatever is opened, granted or too large; and where a sender knows what it began with or what an AK said
-- (X.224, class 4: explicit flow control).
use Rattle.std.specs.Prelude.{◌≡◌, ℕ, ◌<◌, ◌≤◌, Contains}
use Rattle.tp4_number.specs.Traffic.{Answer, Traffic}
use Rattle.law_recovery_pair.specs.Views.{IsNoOlder, known, said, view_of}

-- nothing that was said is newer than what the receiver says now, and neither is the room that it began with; and what was said later is no older
pub record Speaks (room : ℕ) (w : Traffic) : Type 0 where
  pub answered : (a : Answer) → Contains w.answers a → IsNoOlder (view_of a) (said w)
  pub rising : (a b : Answer) → Contains w.answers a → Contains w.answers b → a.tick < b.tick → IsNoOlder (view_of a) (view_of b)
  pub past : (a : Answer) → Contains w.answers a → a.tick ≤ w.clock
  pub least : IsNoOlder (record { number = 0; credit = room; subsequence = 0 }) (said w)

-- the sender began with a credit for which there was room, or knows what an AK said
pub data Knows (room : ℕ) (w : Traffic) : Type 0 where
  Began : w.sender.base ≡ 0 → w.sender.subsequence ≡ 0 → w.sender.credit ≤ room → Knows room w
  Heard : (a : Answer) → Contains w.answers a → known w ≡ view_of a → Knows room w
