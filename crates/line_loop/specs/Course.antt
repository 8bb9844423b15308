-- What the octets read come to. Octets are taken in order, and the first that stops the run decides.
use Rattle.std.specs.Prelude.{◌≡◌, ◌≢◌, ◌⊎◌, ℕ, ◌+◌, ◌<◌, List, [], ◌∷◌, ◌++◌, map, length}
use Rattle.line_loop.specs.Limits.{most_octets}
use Rattle.line_loop.specs.Lines.{most_lines, most_in_line, whole_lines, open_line, without_return, last_line, Fits}
use Rattle.line_loop.specs.Meaning.{Meaning}

-- an octet passes a limit: these octets before it are as many as an input may have, or end its last line
abbrev pub IsFull : List ℕ → Type 0
IsFull front = (length front ≡ most_octets) ⊎ (length (whole_lines front) ≡ most_lines)

-- one more octet passes no limit of an input
abbrev pub IsWithin : List ℕ → Type 0
IsWithin front = (length front < most_octets) × (length (whole_lines front) < most_lines)

module _ {M E R : Type 0} (meaning : Meaning M E R) where
  -- the lines, one after another, have this journal and lead to this state
  abbrev pub Runs : M → List (List ℕ) → List E → M → Type 0
  Runs first [] journal last = (journal ≡ []) × (last ≡ first)
  Runs first (line ∷ lines) journal last = (events : List E) × (middle : M) × (rest : List E)
      × meaning.step first line events middle × (journal ≡ events ++ rest) × Runs middle lines rest last

  -- the octets keep the limits, and their whole lines ran; an open line waits
  pub record IsRead (first : M) (read : List ℕ) (journal : List E) (last : M) : Type 0 where
    pub fits : Fits read
    pub runs : Runs first (map without_return (whole_lines read)) journal last

  -- the octets are all of an input that keeps the limits, and all its lines ran; a last line may lack its line feed
  pub record IsWhole (first : M) (read : List ℕ) (journal : List E) (last : M) : Type 0 where
    pub fits : Fits read
    pub runs : Runs first (map without_return (whole_lines read) ++ last_line (open_line read)) journal last

  -- an octet passes a limit, or it is the line feed of a line that fills the journal: these are the events of the line
  -- before, and the state then
  abbrev pub IsOver : M → List ℕ → ℕ → List E → M → Type 0
  IsOver state front octet events last = (IsFull front × (events ≡ []) × (last ≡ state))
      ⊎ ((octet ≡ 10) × IsWithin front × meaning.fills state (without_return (open_line front)) events last)

  -- an octet came that passes a limit or ends a line that fills the journal, and nothing before it was refused
  pub record IsTooMuch (first : M) (read : List ℕ) (journal : List E) (last : M) : Type 0 where
    pub front : List ℕ
    pub octet : ℕ
    pub more : List ℕ
    pub before : List E
    pub state : M
    pub events : List E
    pub place : read ≡ front ++ octet ∷ more
    pub so_far : IsRead first front before state
    pub over : IsOver state front octet events last
    pub journal_is : journal ≡ before ++ events

  -- the octets are all of an input, and its last line, which has no line feed, fills the journal
  pub record IsTooMuchAtEnd (first : M) (read : List ℕ) (journal : List E) (last : M) : Type 0 where
    pub before : List E
    pub state : M
    pub events : List E
    pub so_far : IsRead first read before state
    pub begun : open_line read ≢ []
    pub fills : meaning.fills state (open_line read) events last
    pub journal_is : journal ≡ before ++ events

  -- a line is refused at its line feed, or at the first octet that is too many for a line, and this is said of it
  abbrev pub IsRefusal : M → List ℕ → ℕ → R → Type 0
  IsRefusal state line octet said = ((octet ≡ 10) × meaning.refuses state (without_return line) said)
      ⊎ ((octet ≢ 10) × (length line ≡ most_in_line) × (said ≡ meaning.too_long state))

  -- this line, counted from 1, is refused at an octet, and no octet up to it passes a limit of an input
  pub record IsRefusedAt (first : M) (read : List ℕ) (line : ℕ) (said : R) (journal : List E) (last : M) : Type 0 where
    pub front : List ℕ
    pub octet : ℕ
    pub more : List ℕ
    pub place : read ≡ front ++ octet ∷ more
    pub so_far : IsRead first front journal last
    pub within : IsWithin front
    pub refused : IsRefusal last (open_line front) octet said
    pub number : line ≡ length (whole_lines front) + 1

  -- the octets are all of an input, and its last line, which has no line feed, is refused
  pub record IsRefusedAtEnd (first : M) (read : List ℕ) (line : ℕ) (said : R) (journal : List E) (last : M) : Type 0 where
    pub so_far : IsRead first read journal last
    pub begun : open_line read ≢ []
    pub refused : meaning.refuses last (open_line read) said
    pub number : line ≡ length (whole_lines read) + 1

  -- in a state a line runs, or it is refused, or it fills the journal
  abbrev pub HasCourse : M → List ℕ → Type 0
  HasCourse state line = ((events : List E) × (new : M) × meaning.step state line events new)
      ⊎ (((said : R) × meaning.refuses state line said) ⊎ ((events : List E) × (new : M) × meaning.fills state line events new))
