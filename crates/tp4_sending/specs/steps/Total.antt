-- What is counted of the units that wait, so that nothing has to walk over them.
use Rattle.std.specs.Prelude.{◌≡◌, ℕ, length}
use Rattle.std.specs.List.{sum_by}
use Rattle.tp4_sending.specs.Pieces.{Queue, end_of}

-- the number behind the last piece, and the octets
pub record IsTotal (size end octets : ℕ) (queue : Queue) : Type 0 where
  pub end_is : end ≡ end_of size queue
  pub octets_is : octets ≡ sum_by length queue.units
