-- The steps of the private calls that show units.
use Rattle.std.specs.Prelude.{◌≡◌, ℕ, ◌+◌, ◌*◌, ◌%◌, Bool, [], ◌∷◌, ◌++◌, if◌then◌else◌}
use Rattle.tp4_number.specs.declared.piece.Piece.{Piece}
use Rattle.tp4_number.specs.Receiver.{advanced}
use Rattle.tp4_number.specs.Window.{Held, begun_by, joined, slid}
use Rattle.tp4_flow.specs.ReceivingHalf.{Half, block_in}
use Rattle.tp4_flow.specs.Told.{Told, gots}

-- the piece goes to the unit that has begun; where it is the last, the unit is shown
pub record Passes (own : ℕ) (piece : Piece) (old : Held) (was : Told) (new : Held) (is : Told) : Type 0 where
  pub places : new.places ≡ slid old.places 1
  pub begun : new.begun ≡ begun_by piece (old.begun ++ piece.octets)
  pub events : is.events ≡ was.events ++ gots own (if piece.last then (old.begun ++ piece.octets) ∷ [] else [])
  pub tpdus : is.tpdus ≡ was.tpdus

-- what is complete in order is shown
pub record Shows (old : Half) (large : Bool) (was : Told) (new : Half) (is : Told) : Type 0 where
  pub large_is : large ≡ (joined old.receiver.inbox.held.begun old.receiver.inbox.held.places).is_large
  pub rules : new.rules ≡ old.rules
  pub expected : new.receiver.expected
      ≡ (old.receiver.expected + (joined old.receiver.inbox.held.begun old.receiver.inbox.held.places).count) % (4 * block_in old)
  pub urgent : new.receiver.urgent ≡ old.receiver.urgent
  pub inbox : new.receiver.inbox
      ≡ advanced old.receiver.inbox old.receiver.inbox.held (joined old.receiver.inbox.held.begun old.receiver.inbox.held.places)
  pub told : is ≡ record was { events = was.events ++ gots old.rules.own (joined old.receiver.inbox.held.begun old.receiver.inbox.held.places).units }
