-- How octets go on from what was read before.
use Rattle.std.specs.Prelude.{◌≡◌, ℕ, List, [], ◌++◌, length}
use Rattle.line_loop.specs.Lines.{whole_lines, open_line}
use Rattle.line_loop.specs.Meaning.{Meaning}
use Rattle.line_loop.specs.Course.{IsRead, IsWhole, IsTooMuch, IsTooMuchAtEnd, IsRefusedAt, IsRefusedAtEnd}

-- the machine's state, the open line, and how many whole lines and octets were read
pub record Held (M : Type 0) : Type 0 where
  pub machine : M
  pub line : List ℕ
  pub lines : ℕ
  pub octets : ℕ

module _ {M E R : Type 0} (meaning : Meaning M E R) where
  -- the machine ran as many lines as were counted
  abbrev pub IsCounted : Held M → Type 0
  IsCounted feed = meaning.lines feed.machine ≡ feed.lines

  -- these octets were read so far, and have this journal
  pub record Fed (first : M) (read : List ℕ) (journal : List E) (feed : Held M) : Type 0 where
    pub so_far : IsRead meaning first read journal feed.machine
    pub tells : meaning.tells feed.machine journal
    pub line : feed.line ≡ open_line read
    pub lines : feed.lines ≡ length (whole_lines read)
    pub octets : feed.octets ≡ length read

  -- whatever was read before, these octets go on from there
  pub record Feeds (octets : List ℕ) (old : Held M) (before : List ℕ) (new : Held M) (after : List ℕ) : Type 0 where
    pub events : List E
    pub told : List ℕ
    pub appended : after ≡ before ++ told
    pub goes_on : (first : M) (read : List ℕ) (journal : List E) → Fed first read journal old
        → Fed first (read ++ octets) (journal ++ events) new × (meaning.text new.machine (journal ++ events) ≡ meaning.text old.machine journal ++ told)

  -- whatever was read before, the run stops in these octets, in this state
  pub record Stops (Stopped : M → List ℕ → List E → M → Type 0) (octets : List ℕ) (old : Held M) (before : List ℕ) (last : M) (after : List ℕ) : Type 0 where
    pub events : List E
    pub told : List ℕ
    pub appended : after ≡ before ++ told
    pub stopped : (first : M) (read : List ℕ) (journal : List E) → Fed first read journal old
        → Stopped first (read ++ octets) (journal ++ events) last × (meaning.text last (journal ++ events) ≡ meaning.text old.machine journal ++ told)

  -- it stops at this line, which is refused
  abbrev pub StopsAtLine : ℕ → R → List ℕ → Held M → List ℕ → M → List ℕ → Type 0
  StopsAtLine line said octets old before last after =
      Stops (λ first read journal last. IsRefusedAt meaning first read line said journal last) octets old before last after

  -- it stops at an octet that passes a limit, or ends a line that fills the journal
  abbrev pub StopsFull : List ℕ → Held M → List ℕ → M → List ℕ → Type 0
  StopsFull octets old before last after = Stops (IsTooMuch meaning) octets old before last after

  -- the input ends, and all its lines ran
  abbrev pub Ends : Held M → List ℕ → M → List ℕ → Type 0
  Ends old before last after = Stops (IsWhole meaning) [] old before last after

  -- the input ends in this line, which is refused
  abbrev pub EndsAtLine : ℕ → R → Held M → List ℕ → M → List ℕ → Type 0
  EndsAtLine line said old before last after =
      Stops (λ first read journal last. IsRefusedAtEnd meaning first read line said journal last) [] old before last after

  -- the input ends in a line that fills the journal
  abbrev pub EndsFull : Held M → List ℕ → M → List ℕ → Type 0
  EndsFull old before last after = Stops (IsTooMuchAtEnd meaning) [] old before last after
