-- An end through a list of events, in which no tick is left out at which it is due (X.224, class 4 state tables).
use Rattle.std.specs.Prelude.{◌≡◌, ◌≤◌, ℕ, true, ◌&&◌, not, List, [], ◌∷◌, ◌++◌, Option, Some, None, if◌then◌else◌}
use Rattle.tp4_flow.specs.declared.step.Sent.{Sent}
use Rattle.tp4_conn.specs.declared.states.StateData.{StateData}
use Rattle.tp4_conn.specs.declared.states.StateData.TheVariants.{Frozen}
use Rattle.tp4_conn.specs.End.{End, end_of}
use Rattle.tp4_conn.specs.Matching.{fits, wants_sum}
use Rattle.tp4_conn.specs.Table.{Event, Called, Took, Ticked, stepped, due}

-- an end, the tick of its latest event, and the tick at which it was made or took its last matching TPDU
pub record Life : Type 0 where
  pub end : End
  pub clock : ℕ
  pub took : ℕ

-- the tick is not past that at which the end is due
abbrev pub IsInTime : Option ℕ → ℕ → Type 0
IsInTime None now = Unit {0}
IsInTime (Some tick) now = now ≤ tick

-- a TPDU that comes matches
abbrev pub IsFit : End → Event → Type 0
IsFit e (Called call) = Unit {0}
IsFit e (Took tpdu sum) = fits e.base e.stage tpdu ≡ true
IsFit e Ticked = Unit {0}

-- the event can come at that tick
pub record May (life : Life) (now : ℕ) (event : Event) : Type 0 where
  pub later : life.clock ≤ now
  pub in_time : IsInTime (due life.end.base life.end.stage) now
  pub fit : IsFit life.end event

-- a TPDU is taken that does not lack its checksum
abbrev pub took_by : End → ℕ → ℕ → Event → ℕ
took_by e took now (Called call) = took
took_by e took now (Took tpdu sum) = if wants_sum e.base e.stage tpdu && not sum then took else now
took_by e took now Ticked = took

abbrev pub after : (ℕ → ℕ → ℕ) → Life → ℕ → Event → Life
after wrap life now event = record {
  end = end_of (stepped wrap now life.end event);
  clock = now;
  took = took_by life.end life.took now event;
}

-- these events can come at these ticks, in this order, and lead from one to the other
abbrev pub Leads : (ℕ → ℕ → ℕ) → Life → List (ℕ × Event) → Life → Type 0
Leads wrap old [] new = new ≡ old
Leads wrap old (x ∷ xs) new = May old x.0 x.1 × Leads wrap (after wrap old x.0 x.1) xs new

-- what is sent meanwhile
abbrev pub sent_by : (ℕ → ℕ → ℕ) → Life → List (ℕ × Event) → List Sent
sent_by wrap life [] = []
sent_by wrap life (x ∷ xs) = (stepped wrap x.0 life.end x.1).tpdus ++ sent_by wrap (after wrap life x.0 x.1) xs

-- it is frozen, and was so by that tick; or it is due by that tick
abbrev pub IsOver : StateData → Option ℕ → ℕ → Type 0
IsOver (Frozen when) next last = when ≤ last
IsOver stage None last = ⊥
IsOver stage (Some tick) last = tick ≤ last

abbrev pub IsOverBy : End → ℕ → Type 0
IsOverBy e last = IsOver e.stage (due e.base e.stage) last
