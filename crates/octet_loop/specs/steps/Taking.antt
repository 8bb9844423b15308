-- How an intake goes on, whatever was taken before.
use Rattle.std.specs.Prelude.{◌≡◌, ℕ, ◌+◌, List, ◌++◌, length}
use Rattle.osi_base.specs.declared.status.Status.{Status}
use Rattle.osi_base.specs.declared.status.Status.TheVariants.{Done, RefusedLine, RefusedWords, ReadFault, WriteFault, NoMemory, RefusedCapture, TooMuch}
use Rattle.octet_loop.specs.Course.{Course}
use Rattle.octet_loop.specs.Limits.{most_octets}

-- the states of an intake
pub record Progress (T : Type 0) : Type 1 where
  -- octets may be taken
  pub ready : T → Type 0
  -- how many octets were taken
  pub octets : T → ℕ
  -- from a first state these octets with this text led to a state
  pub led : T → List ℕ → List ℕ → T → Type 0

-- an octet may stop a run with this status
abbrev pub IsStop : Status → Type 0
IsStop Done = ⊥
IsStop RefusedLine = Unit {0}
IsStop RefusedCapture = Unit {0}
IsStop TooMuch = Unit {0}
IsStop ReadFault = ⊥
IsStop WriteFault = ⊥
IsStop NoMemory = ⊥
IsStop RefusedWords = ⊥

-- the end of an input may end a run with this status
abbrev pub IsEnd : Status → Type 0
IsEnd Done = Unit {0}
IsEnd RefusedLine = Unit {0}
IsEnd RefusedCapture = Unit {0}
IsEnd TooMuch = Unit {0}
IsEnd ReadFault = ⊥
IsEnd WriteFault = ⊥
IsEnd NoMemory = ⊥
IsEnd RefusedWords = ⊥

module _ {T : Type 0} (progress : Progress T) where
  -- the octets were taken, and this was told
  pub record Takes (octets : List ℕ) (old : T) (before : List ℕ) (new : T) (after : List ℕ) : Type 0 where
    pub told : List ℕ
    pub appended : after ≡ before ++ told
    pub ready : progress.ready new
    pub counted : progress.octets new ≡ progress.octets old + length octets
    pub goes_on : (first : T) (read text : List ℕ) → progress.led first read text old → progress.led first (read ++ octets) (text ++ told) new

module _ {T : Type 0} (course : T → Course) (progress : Progress T) where
  -- one of the octets stops the run, and all was told
  pub record Stops (octets : List ℕ) (old : T) (before after : List ℕ) (status : Status) : Type 0 where
    pub told : List ℕ
    pub appended : after ≡ before ++ told
    pub stop : IsStop status
    pub stopped : (first : T) (read text : List ℕ) → progress.led first read text old
        → (front : List ℕ) × (more : List ℕ) × (read ++ octets ≡ front ++ more) × (course first).stops front (text ++ told) status

  -- the input ends, and all was told
  pub record Ends (old : T) (before after : List ℕ) (status : Status) : Type 0 where
    pub told : List ℕ
    pub appended : after ≡ before ++ told
    pub end : IsEnd status
    pub ended : (first : T) (read text : List ℕ) → progress.led first read text old → (course first).ends read (text ++ told) status

  -- an octet more than an input may have comes, and all was told
  pub record Overflows (now : T) (before after : List ℕ) : Type 0 where
    pub told : List ℕ
    pub appended : after ≡ before ++ told
    pub over : (first : T) (read text : List ℕ) → progress.led first read text now → length read ≡ most_octets → (course first).over read (text ++ told)

  -- octets are counted, and what led to a state was read
  pub record Laws : Type 0 where
    pub counted : (first : T) (read text : List ℕ) (now : T) → progress.led first read text now → progress.octets now ≡ length read
    pub reads : (first : T) (read text : List ℕ) (now : T) → progress.led first read text now → (course first).reads read text
