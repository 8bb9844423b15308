-- Sendings of numbers, and the pieces of units (X.224, retention until acknowledgement of TPDUs; retransmission on time-out).
use Rattle.std.specs.Prelude.{ℕ, ◌+◌, ◌-◌, ◌*◌, ◌/◌, ◌%◌, min, Bool, ◌&&◌, nat_lt, nat_le, List, [], ◌∷◌, length, map, take, drop, Option, Some, None, if◌then◌else◌}
use Rattle.std.specs.List.{sum_by}
use Rattle.tp4_number.specs.declared.piece.Piece.{Piece}
use Rattle.tp4_sending.specs.declared.tries.Tries.{Tries}

abbrev pub is_due : ℕ → ℕ → Tries → Bool
is_due t1 now tries = nat_le (tries.last + t1) now

abbrev pub is_spent : ℕ → ℕ → ℕ → Tries → Bool
is_spent t1 most now tries = is_due t1 now tries && nat_le most tries.count

abbrev pub once : ℕ → Tries
once now = record { last = now; count = 1 }

abbrev pub again : ℕ → Tries → Tries
again now tries = record { last = now; count = tries.count + 1 }

abbrev pub resent : ℕ → ℕ → List Tries → List Tries
resent t1 now window = map (λ tries. if is_due t1 now tries then again now tries else tries) window

-- the numbers that are due, of those from n on
abbrev pub due_from : ℕ → ℕ → ℕ → List Tries → List ℕ
due_from t1 now n [] = []
due_from t1 now n (tries ∷ window) = if is_due t1 now tries then n ∷ due_from t1 now (n + 1) window else due_from t1 now (n + 1) window

-- the earlier of two ticks that may be there
abbrev pub sooner : Option ℕ → Option ℕ → Option ℕ
sooner None other = other
sooner (Some tick) None = Some tick
sooner (Some tick) (Some other) = Some (min tick other)

-- the first tick at which one is due
abbrev pub least_due : ℕ → List Tries → Option ℕ
least_due t1 [] = None
least_due t1 (tries ∷ window) = sooner (Some (tries.last + t1)) (least_due t1 window)

-- how many pieces a unit has
abbrev pub count_in : ℕ → List ℕ → ℕ
count_in size unit = length unit / size + min 1 (length unit % size)

-- a piece of a unit, counted from 0
abbrev pub cut_of : ℕ → List ℕ → ℕ → Piece
cut_of size unit number = record { last = nat_le (length unit) (number * size + size); octets = take size (drop (number * size) unit) }

-- a piece of units that follow one another
abbrev pub cut_at : ℕ → List (List ℕ) → ℕ → Option Piece
cut_at size [] number = None
cut_at size (unit ∷ units) number =
    if nat_lt number (count_in size unit) then Some (cut_of size unit number) else cut_at size units (number - count_in size unit)

-- units not wholly acknowledged, and the number of the first piece of the first
pub record Queue : Type 0 where
  pub units : List (List ℕ)
  pub first : ℕ

abbrev pub end_of : ℕ → Queue → ℕ
end_of size queue = queue.first + sum_by (count_in size) queue.units

-- the units all of whose pieces are below n go
abbrev pub freed_by : ℕ → ℕ → ℕ → List (List ℕ) → Queue
freed_by size n first [] = record { units = []; first = first }
freed_by size n first (unit ∷ units) =
    if nat_le (first + count_in size unit) n then freed_by size n (first + count_in size unit) units else record { units = unit ∷ units; first = first }

abbrev pub freed : ℕ → ℕ → Queue → Queue
freed size n queue = freed_by size n queue.first queue.units
