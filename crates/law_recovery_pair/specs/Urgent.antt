-- EDs of one direction from a tick on, since when nothing is lost and what is sent is handed over in the order of its sending (X.224, class 4:
-- expedited data).
use Rattle.std.specs.Prelude.{◌≡◌, ◌⊎◌, ℕ, ◌+◌, ◌<◌, ◌≤◌, ◌||◌, ◌==◌, if◌then◌else◌, List, [], ◌∷◌, ◌++◌, Contains}
use Rattle.tp4_number.specs.Traffic.{Rules}
use Rattle.tp4_number.specs.Number.{wire}
use Rattle.tp4_number.specs.Expedited.{Urgent, Ticks, Sends_ed, Resends_ed, Ed_comes, Ea_comes, MayUrgent, urgently}

pub record UrgentRoad : Type 0 where
  pub urgent : Urgent
  pub eds : List (ℕ × ℕ)
  pub eas : List (ℕ × ℕ)

pub data UrgentMove : Type 0 where
  Passes : UrgentMove
  Asks : UrgentMove
  Asks_again : UrgentMove
  Ed_arrives : (n tick : ℕ) (rest : List (ℕ × ℕ)) → UrgentMove
  Ea_arrives : (n tick : ℕ) (rest : List (ℕ × ℕ)) → UrgentMove
  Late_ed : (n tick : ℕ) → UrgentMove
  Late_ea : (n tick : ℕ) → UrgentMove

-- the EA of an ED, where it has one
abbrev pub ea_of : Rules → Urgent → ℕ → List (ℕ × ℕ)
ea_of rules u n = if wire rules.block n == wire rules.block u.expected || wire rules.block (n + 1) == wire rules.block u.expected then (n, u.clock) ∷ [] else []

abbrev pub MayGo : Rules → ℕ → UrgentRoad → UrgentMove → Type 0
MayGo rules tick r Passes = Unit {0}
MayGo rules tick r Asks = MayUrgent rules r.urgent Sends_ed
MayGo rules tick r Asks_again = MayUrgent rules r.urgent Resends_ed
MayGo rules tick r (Ed_arrives n t rest) = (r.eds ≡ (n, t) ∷ rest) × MayUrgent rules r.urgent (Ed_comes n t)
MayGo rules tick r (Ea_arrives n t rest) = (r.eas ≡ (n, t) ∷ rest) × MayUrgent rules r.urgent (Ea_comes n t)
MayGo rules tick r (Late_ed n t) = (t < tick) × MayUrgent rules r.urgent (Ed_comes n t)
MayGo rules tick r (Late_ea n t) = (t < tick) × MayUrgent rules r.urgent (Ea_comes n t)

abbrev pub gone_on : Rules → UrgentRoad → UrgentMove → UrgentRoad
gone_on rules r Passes = record r { urgent = urgently rules r.urgent Ticks }
gone_on rules r Asks = record r { urgent = urgently rules r.urgent Sends_ed; eds = r.eds ++ (r.urgent.next, r.urgent.clock) ∷ [] }
gone_on rules r Asks_again = record r { urgent = urgently rules r.urgent Resends_ed; eds = r.eds ++ (r.urgent.base, r.urgent.clock) ∷ [] }
gone_on rules r (Ed_arrives n t rest) = record { urgent = urgently rules r.urgent (Ed_comes n t); eds = rest; eas = r.eas ++ ea_of rules r.urgent n }
gone_on rules r (Ea_arrives n t rest) = record r { urgent = urgently rules r.urgent (Ea_comes n t); eas = rest }
gone_on rules r (Late_ed n t) = record r { urgent = urgently rules r.urgent (Ed_comes n t); eas = r.eas ++ ea_of rules r.urgent n }
gone_on rules r (Late_ea n t) = record r { urgent = urgently rules r.urgent (Ea_comes n t) }

-- an ED that is outstanding and was sent from the tick on waits, or its EA does
abbrev pub IsAsking : ℕ → UrgentRoad → Type 0
IsAsking tick r = (t : ℕ) → Contains r.urgent.sends (r.urgent.base, t) → tick ≤ t → r.urgent.base < r.urgent.next
    → ((at : ℕ) × Contains r.eds (r.urgent.base, at)) ⊎ ((at : ℕ) × Contains r.eas (r.urgent.base, at))

abbrev pub GoOn : Rules → ℕ → UrgentRoad → List UrgentMove → UrgentRoad → Type 0
GoOn rules tick old [] new = new ≡ old
GoOn rules tick old (move ∷ moves) new = MayGo rules tick old move × GoOn rules tick (gone_on rules old move) moves new
