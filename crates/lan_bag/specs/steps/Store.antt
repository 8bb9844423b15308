-- The frames by their numbers: the late ones before the slots, and the octets of each.
use Rattle.std.specs.Prelude.{◌≡◌, ℕ, ◌≤◌, ◌+◌, List, length, drop, Option, Some, None}
use Rattle.lan_frame.specs.Frame.{whole_frame}
use Rattle.lan_step.specs.Frames.{Frame, marked}
use Rattle.lan_step.specs.Offers.{live_count}

-- the octets are those of the whole frame of what follows its header, and no more than a frame has
pub record IsWhole (to from whole : List ℕ) : Type 0 where
  pub long : 17 ≤ length whole
  pub most : length whole ≤ 1514
  pub framed : whole ≡ whole_frame to from (drop 17 whole)

-- the slot once that system took its frame
abbrev pub marked_in : Option Frame → ℕ → Option Frame
marked_in None system = None
marked_in (Some frame) system = Some (marked frame system)

-- the store: the late frames before the slots, the frames in them, and how many of those are live
pub record IsStored (gone : ℕ) (slots : List (Option Frame)) (live : ℕ) : Type 0 where
  pub counted : live ≡ live_count slots
  pub most : live ≤ 16384
  pub numbers : gone + length slots ≤ 4294967295
