-- Why a DT that carries a piece of what was submitted makes no unit too large (X.224, class 4: segmentation and reassembling).
use Rattle.std.specs.Prelude.{◌≡◌, ◌≤◌, ◌<◌, ℕ, ◌+◌, List, [], ◌∷◌, length, get_or, Some, None}
use Rattle.tp4_number.specs.Number.{ahead, wire}
use Rattle.tp4_number.specs.Receiver.{Receiver, judged}
use Rattle.tp4_number.specs.declared.got.Got.TheVariants.{Kept}
use Rattle.tp4_number.specs.declared.piece.Piece.{Piece}
use Rattle.tp4_sending.specs.Pieces.{cut_at}
use Rattle.law_tp4_history.specs.Complete.{AllFull, Complete}

-- each unit has at most 16,384 octets
abbrev pub AllShort : List (List ℕ) → Type 0
AllShort [] = Unit {0}
AllShort (unit ∷ units) = (length unit ≤ 16384) × AllShort units

-- a receiver joined pieces of these units, and holds such
pub record HasPieces (size : ℕ) (units : List (List ℕ)) (r : Receiver) : Type 0 where
  pub some : 0 < size
  pub full : AllFull units
  pub short : AllShort units
  pub shown : List (List ℕ)
  pub complete : Complete size units r.expected shown r.inbox.held.begun
  pub held : (d : ℕ) (piece : Piece) → get_or r.inbox.held.places d None ≡ Some piece → cut_at size units (r.expected + d) ≡ Some piece

-- where it is kept, the number is read for what it is
abbrev pub IsReadIn : ℕ → Receiver → ℕ → Type 0
IsReadIn block r n = let d = ahead block (wire block r.expected) (wire block n) in judged block r.inbox d ≡ Kept → r.expected + d ≡ n
