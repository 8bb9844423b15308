-- What the octets of an input ask for: the transcript of what their lines come to.
use Rattle.std.specs.Prelude.{◌≡◌, ◌⊎◌, ℕ, List, ◌++◌}
use Rattle.osi_base.specs.declared.status.Status.{Status}
use Rattle.osi_base.specs.declared.status.Status.TheVariants.{Done, RefusedLine, RefusedWords, ReadFault, WriteFault, NoMemory, RefusedCapture, TooMuch}
use Rattle.octet_loop.specs.ByStatus as by_status
use Rattle.line_loop.specs.Meaning.{Meaning}
use Rattle.line_loop.specs.Course.{IsRead, IsWhole, IsTooMuch, IsTooMuchAtEnd, IsRefusedAt, IsRefusedAtEnd}

module _ {M E R : Type 0} (meaning : Meaning M E R) where
  -- in each of these `end` says that the input ends after the octets

  -- all lines ran, and the input ends: their whole transcript
  pub record AsksWhole (end : Type 0) (first : M) (read text : List ℕ) : Type 0 where
    pub journal : List E
    pub last : M
    pub ends : end
    pub whole : IsWhole meaning first read journal last
    pub text_is : text ≡ meaning.text last journal ++ meaning.done last

  -- a line is refused: the transcript of the lines before it, and what is said of it
  pub record AsksRefusal (end : Type 0) (first : M) (read text : List ℕ) : Type 0 where
    pub line : ℕ
    pub said : R
    pub journal : List E
    pub last : M
    pub refused : IsRefusedAt meaning first read line said journal last ⊎ (end × IsRefusedAtEnd meaning first read line said journal last)
    pub text_is : text ≡ meaning.text last journal ++ meaning.refused last line said

  -- a limit is passed, or a line fills the journal: the transcript up to there, and that it is too much
  pub record AsksTooMuch (end : Type 0) (first : M) (read text : List ℕ) : Type 0 where
    pub journal : List E
    pub last : M
    pub passed : IsTooMuch meaning first read journal last ⊎ (end × IsTooMuchAtEnd meaning first read journal last)
    pub text_is : text ≡ meaning.text last journal ++ meaning.too_much last

  -- the lines that have their line feed: their transcript alone
  pub record AsksSoFar (first : M) (read text : List ℕ) : Type 0 where
    pub journal : List E
    pub last : M
    pub so_far : IsRead meaning first read journal last
    pub text_is : text ≡ meaning.text last journal

  -- the transcript that the octets ask for, by how the run ends
  abbrev pub Asks : Type 0 → M → List ℕ → List ℕ → Status → Type 0
  Asks end first read text Done = AsksWhole end first read text
  Asks end first read text RefusedLine = AsksRefusal end first read text
  Asks end first read text TooMuch = AsksTooMuch end first read text
  Asks end first read text ReadFault = AsksSoFar first read text
  Asks end first read text WriteFault = ⊥
  Asks end first read text NoMemory = ⊥
  Asks end first read text RefusedWords = ⊥
  Asks end first read text RefusedCapture = ⊥

  -- what was written, by the status: the definitions that every command has, for the lines of octets
  abbrev pub AsksFor : M → List ℕ → List ℕ → Status → Type 0
  AsksFor first = by_status.AsksFor (λ end. Asks end first)

  abbrev pub IsCut : Type 0 → M → List ℕ → List ℕ → Type 0
  IsCut end first = by_status.IsCut (λ end. Asks end first) end

  abbrev pub Outcome : Type 0 → M → List ℕ → List ℕ → Status → Type 0
  Outcome end first = by_status.Outcome (λ end. Asks end first) end

-- no line of an input is refused, and none of its octets passes a limit or ends a line that fills the journal
pub record IsAccepted {M E R : Type 0} (meaning : Meaning M E R) (first : M) (all : List ℕ) : Type 0 where
  pub read : (line : ℕ) (said : R) (journal : List E) (last : M) → IsRefusedAt meaning first all line said journal last → ⊥
  pub ended : (line : ℕ) (said : R) (journal : List E) (last : M) → IsRefusedAtEnd meaning first all line said journal last → ⊥
  pub within : (journal : List E) (last : M) → IsTooMuch meaning first all journal last → ⊥
  pub within_at_end : (journal : List E) (last : M) → IsTooMuchAtEnd meaning first all journal last → ⊥
