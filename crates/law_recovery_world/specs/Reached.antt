-- The line of an end as traffic (X.224, class 4: explicit flow control).
use Rattle.std.specs.Prelude.{◌<◌, List}
use Rattle.tp4_number.specs.Traffic.{Event, IsFit as IsLong, Leads, start}
use Rattle.law_tp4_history.specs.Tracks.{Track}

-- a line that has begun is traffic that some events lead to from its start
pub record IsReachedLine (t : Track) : Type 0 where
  pub long : IsLong t.rules
  pub credit_low : t.credit < t.rules.block
  pub room_low : t.room < t.rules.block
  pub events : List Event
  pub leads : Leads t.rules (start t.tick t.credit t.places t.room) events t.line.world
