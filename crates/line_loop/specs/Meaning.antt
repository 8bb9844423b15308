-- What a machine does with lines, apart from its code: its states are `M`, its events `E`, and what is said of a line
-- that is refused `R`.
use Rattle.std.specs.Prelude.{◌≡◌, ℕ, ◌+◌, List, [], ◌++◌}

-- what lines do in the states of a machine, and how it is told
pub record Meaning (M E R : Type 0) : Type 1 where
  -- in a state a line, without its end, has these events and leads to a state
  pub step : M → List ℕ → List E → M → Type 0
  -- in a state a line is refused, and this is said of it
  pub refuses : M → List ℕ → R → Type 0
  -- in a state a line has these events and leads to a state, where the journal is full before the line has run to its end
  pub fills : M → List ℕ → List E → M → Type 0
  -- what is said of a line with more octets than a line may have
  pub too_long : M → R
  -- the transcript of events, by the names that a state knows
  pub text : M → List E → List ℕ
  -- a state knows the names of these events
  pub tells : M → List E → Type 0
  -- how many lines led to a state
  pub lines : M → ℕ
  -- what closes the transcript where the input was handled to its end, where its line of this number was refused, and
  -- where a limit was passed
  pub done : M → List ℕ
  pub refused : M → ℕ → R → List ℕ
  pub too_much : M → List ℕ

-- a line has one course, and events that were told stay told
pub record Laws {M E R : Type 0} (meaning : Meaning M E R) : Type 0 where
  pub one_step : (old : M) (line : List ℕ) (events other : List E) (new next : M)
      → meaning.step old line events new → meaning.step old line other next → (events ≡ other) × (new ≡ next)
  pub one_refusal : (state : M) (line : List ℕ) (said other : R) → meaning.refuses state line said → meaning.refuses state line other → said ≡ other
  pub one_filling : (old : M) (line : List ℕ) (events other : List E) (new next : M)
      → meaning.fills old line events new → meaning.fills old line other next → (events ≡ other) × (new ≡ next)
  pub step_or_refusal : (old : M) (line : List ℕ) (events : List E) (new : M) (said : R)
      → meaning.step old line events new → meaning.refuses old line said → ⊥
  pub step_or_filling : (old : M) (line : List ℕ) (events other : List E) (new next : M)
      → meaning.step old line events new → meaning.fills old line other next → ⊥
  pub refusal_or_filling : (old : M) (line : List ℕ) (said : R) (events : List E) (new : M)
      → meaning.refuses old line said → meaning.fills old line events new → ⊥
  pub counted : (old : M) (line : List ℕ) (events : List E) (new : M) → meaning.step old line events new → meaning.lines new ≡ meaning.lines old + 1
  pub none_told : (state : M) → meaning.tells state [] × (meaning.text state [] ≡ [])
  pub told : (old : M) (line : List ℕ) (events : List E) (new : M) (journal : List E) → meaning.step old line events new → meaning.tells old journal
      → meaning.tells new (journal ++ events) × (meaning.text new (journal ++ events) ≡ meaning.text old journal ++ meaning.text new events)
  pub told_full : (old : M) (line : List ℕ) (events : List E) (new : M) (journal : List E) → meaning.fills old line events new → meaning.tells old journal
      → meaning.text new (journal ++ events) ≡ meaning.text old journal ++ meaning.text new events

module _ {M E R : Type 0} (meaning : Meaning M E R) where
  -- the machine ran the line, and its events were told
  pub record HasRun (old : M) (line : List ℕ) (before : List ℕ) (new : M) (after : List ℕ) : Type 0 where
    pub events : List E
    pub steps : meaning.step old line events new
    pub told : after ≡ before ++ meaning.text new events

  -- the machine refused the line, and is as it was; nothing was told
  pub record HasRefused (old : M) (line : List ℕ) (said : R) (before : List ℕ) (new : M) (after : List ℕ) : Type 0 where
    pub refuses : meaning.refuses old line said
    pub same : new ≡ old
    pub kept : after ≡ before

  -- the journal was full before the line had run to its end, and the events before that were told
  pub record HasFilled (old : M) (line : List ℕ) (before : List ℕ) (new : M) (after : List ℕ) : Type 0 where
    pub events : List E
    pub fills : meaning.fills old line events new
    pub told : after ≡ before ++ meaning.text new events
