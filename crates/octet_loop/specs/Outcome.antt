-- What the octets of an input ask for, by what they come to.
use Rattle.std.specs.Prelude.{◌≡◌, ◌⊎◌, ◌≤◌, ℕ, List, ◌∷◌, ◌++◌, length}
use Rattle.osi_base.specs.declared.status.Status.{Status}
use Rattle.osi_base.specs.declared.status.Status.TheVariants.{Done, RefusedLine, RefusedWords, ReadFault, WriteFault, NoMemory, RefusedCapture, TooMuch}
pub use Rattle.octet_loop.specs.ByStatus.{IsFailure}
use Rattle.octet_loop.specs.ByStatus as by_status
use Rattle.octet_loop.specs.Course.{Course}
use Rattle.octet_loop.specs.Limits.{most_octets}

module _ (course : Course) where
  -- an octet within the limit of an input stops the run
  pub record IsStopped (read text : List ℕ) (status : Status) : Type 0 where
    pub front : List ℕ
    pub more : List ℕ
    pub place : read ≡ front ++ more
    pub within : length front ≤ most_octets
    pub stops : course.stops front text status

  -- the octets are all of an input within the limit
  pub record IsEnded (read text : List ℕ) (status : Status) : Type 0 where
    pub within : length read ≤ most_octets
    pub ends : course.ends read text status

  -- an octet passes the limit of an input
  pub record IsOver (read text : List ℕ) : Type 0 where
    pub front : List ℕ
    pub octet : ℕ
    pub more : List ℕ
    pub place : read ≡ front ++ octet ∷ more
    pub full : length front ≡ most_octets
    pub over : course.over front text

  -- the octets stop the run, or it ends after them
  abbrev pub IsClosed : Type 0 → List ℕ → List ℕ → Status → Type 0
  IsClosed end read text status = IsStopped read text status ⊎ (end × IsEnded read text status)

  -- the text that the octets ask for, by how the run ends: with ReadFault that of what they have whole alone. `end` says
  -- that the input ends after them
  abbrev pub Asks : Type 0 → List ℕ → List ℕ → Status → Type 0
  Asks end read text Done = end × IsEnded read text Done
  Asks end read text RefusedLine = IsClosed end read text RefusedLine
  Asks end read text RefusedCapture = IsClosed end read text RefusedCapture
  Asks end read text TooMuch = IsClosed end read text TooMuch ⊎ IsOver read text
  Asks end read text ReadFault = (length read ≤ most_octets) × course.reads read text
  Asks end read text WriteFault = ⊥
  Asks end read text NoMemory = ⊥
  Asks end read text RefusedWords = ⊥

  -- what was written, by the status: the definitions that every command has, for these octets
  abbrev pub AsksFor : List ℕ → List ℕ → Status → Type 0
  AsksFor = by_status.AsksFor Asks

  abbrev pub IsCut : Type 0 → List ℕ → List ℕ → Type 0
  IsCut = by_status.IsCut Asks

  abbrev pub Outcome : Type 0 → List ℕ → List ℕ → Status → Type 0
  Outcome = by_status.Outcome Asks

  abbrev pub AsksOne : Type 0
  AsksOne = by_status.AsksOne Asks
