-- What was written, by the octets read and the status: stated once for every command, whatever its octets ask for.
use Rattle.std.specs.Prelude.{◌≡◌, ◌≢◌, ◌⊎◌, ℕ, List}
use Rattle.osi_base.specs.declared.status.Status.{Status}
use Rattle.osi_base.specs.declared.status.Status.TheVariants.{Done, RefusedLine, RefusedWords, ReadFault, WriteFault, NoMemory, RefusedCapture, TooMuch}
use Rattle.octet_loop.specs.Writing.{IsPrefix}

-- a read, a write or memory failed
abbrev pub IsFailure : Status → Type 0
IsFailure status = (status ≡ ReadFault) ⊎ (status ≡ WriteFault) ⊎ (status ≡ NoMemory)

-- what octets ask for: a fact that the input ends after them, the octets, a text, and how the run ends; with ReadFault that is the text of
-- what they have whole alone
module _ (asks : Type 0 → List ℕ → List ℕ → Status → Type 0) where
  -- all octets of an input ask for this text and this status, which is no failure
  abbrev pub AsksFor : List ℕ → List ℕ → Status → Type 0
  AsksFor all text status = (status ≢ ReadFault) × asks (Unit {0}) all text status

  -- a front of the text that a front of the octets asks for; the input ends there only where it is all of them
  pub record IsCut (end : Type 0) (read written : List ℕ) : Type 0 where
    pub front : List ℕ
    pub text : List ℕ
    pub status : Status
    pub begins : IsPrefix front read
    pub asked : asks ((front ≡ read) × end) front text status
    pub cut : IsPrefix written text

  -- what was written is what the octets read ask for, or where a write or memory failed a front of that; it is not what the words of the
  -- program are refused with
  abbrev pub Outcome : Type 0 → List ℕ → List ℕ → Status → Type 0
  Outcome end read written Done = asks end read written Done
  Outcome end read written RefusedLine = asks end read written RefusedLine
  Outcome end read written RefusedCapture = asks end read written RefusedCapture
  Outcome end read written TooMuch = asks end read written TooMuch
  Outcome end read written ReadFault = asks end read written ReadFault
  Outcome end read written WriteFault = IsCut end read written
  Outcome end read written NoMemory = IsCut end read written
  Outcome end read written RefusedWords = ⊥

  -- an input asks for at most one status and one text
  abbrev pub AsksOne : Type 0
  AsksOne = (all text other : List ℕ) (status next : Status) → AsksFor all text status → AsksFor all other next → (status ≡ next) × (text ≡ other)

  -- an input asks for a text and a status
  pub record AsksSomething (all : List ℕ) : Type 0 where
    pub text : List ℕ
    pub status : Status
    pub asked : AsksFor all text status
