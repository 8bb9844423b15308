-- What the laws of runs say of a meaning of lines: octets come to one thing at most, and always to one.
use Rattle.std.specs.Prelude.{◌≡◌, ℕ, List}
use Rattle.octet_loop.specs.ByStatus as by_status
use Rattle.line_loop.specs.Meaning.{Meaning}
use Rattle.line_loop.specs.Course.{IsRead, IsWhole, IsTooMuch, IsTooMuchAtEnd, IsRefusedAt, IsRefusedAtEnd}
use Rattle.line_loop.specs.Outcome.{Asks}

-- the meanings of octets exclude each other, and each has one journal and one state
pub record OneCourse {M E R : Type 0} (meaning : Meaning M E R) : Type 0 where
  pub read : (first : M) (octets : List ℕ) (journal other : List E) (last state : M)
      → IsRead meaning first octets journal last → IsRead meaning first octets other state → (journal ≡ other) × (last ≡ state)
  pub whole : (first : M) (octets : List ℕ) (journal other : List E) (last state : M)
      → IsWhole meaning first octets journal last → IsWhole meaning first octets other state → (journal ≡ other) × (last ≡ state)
  pub refused : (first : M) (octets : List ℕ) (line : ℕ) (said : R) (journal : List E) (last : M) (next : ℕ) (heard : R) (other : List E) (state : M)
      → IsRefusedAt meaning first octets line said journal last → IsRefusedAt meaning first octets next heard other state
      → (line ≡ next) × (said ≡ heard) × (journal ≡ other) × (last ≡ state)
  pub refused_at_end : (first : M) (octets : List ℕ) (line : ℕ) (said : R) (journal : List E) (last : M) (next : ℕ) (heard : R) (other : List E) (state : M)
      → IsRefusedAtEnd meaning first octets line said journal last → IsRefusedAtEnd meaning first octets next heard other state
      → (line ≡ next) × (said ≡ heard) × (journal ≡ other) × (last ≡ state)
  pub too_much : (first : M) (octets : List ℕ) (journal : List E) (last : M) (other : List E) (state : M)
      → IsTooMuch meaning first octets journal last → IsTooMuch meaning first octets other state → (journal ≡ other) × (last ≡ state)
  pub too_much_at_end : (first : M) (octets : List ℕ) (journal : List E) (last : M) (other : List E) (state : M)
      → IsTooMuchAtEnd meaning first octets journal last → IsTooMuchAtEnd meaning first octets other state → (journal ≡ other) × (last ≡ state)
  pub read_not_refused : (first : M) (octets : List ℕ) (journal : List E) (last : M) (line : ℕ) (said : R) (other : List E) (state : M)
      → IsRead meaning first octets journal last → IsRefusedAt meaning first octets line said other state → ⊥
  pub read_not_too_much : (first : M) (octets : List ℕ) (journal : List E) (last : M) (other : List E) (state : M)
      → IsRead meaning first octets journal last → IsTooMuch meaning first octets other state → ⊥
  pub refused_not_too_much : (first : M) (octets : List ℕ) (line : ℕ) (said : R) (journal : List E) (last : M) (other : List E) (state : M)
      → IsRefusedAt meaning first octets line said journal last → IsTooMuch meaning first octets other state → ⊥
  pub whole_not_refused : (first : M) (octets : List ℕ) (journal : List E) (last : M) (line : ℕ) (said : R) (other : List E) (state : M)
      → IsWhole meaning first octets journal last → IsRefusedAt meaning first octets line said other state → ⊥
  pub whole_not_refused_at_end : (first : M) (octets : List ℕ) (journal : List E) (last : M) (line : ℕ) (said : R) (other : List E) (state : M)
      → IsWhole meaning first octets journal last → IsRefusedAtEnd meaning first octets line said other state → ⊥
  pub whole_not_too_much : (first : M) (octets : List ℕ) (journal : List E) (last : M) (other : List E) (state : M)
      → IsWhole meaning first octets journal last → IsTooMuch meaning first octets other state → ⊥
  pub whole_not_too_much_at_end : (first : M) (octets : List ℕ) (journal : List E) (last : M) (other : List E) (state : M)
      → IsWhole meaning first octets journal last → IsTooMuchAtEnd meaning first octets other state → ⊥
  pub ends_not_both : (first : M) (octets : List ℕ) (line : ℕ) (said : R) (journal : List E) (last : M) (other : List E) (state : M)
      → IsRefusedAtEnd meaning first octets line said journal last → IsTooMuchAtEnd meaning first octets other state → ⊥

-- an input asks for at most one status and one transcript: Done, or the first refused line, or that a limit is passed
abbrev pub AsksOne : {M E R : Type 0} → Meaning M E R → Type 0
AsksOne {M} meaning = (first : M) → by_status.AsksOne (λ end. Asks meaning end first)

-- all octets of an input ask for a transcript and a status
abbrev pub AsksSomething : {M E R : Type 0} → Meaning M E R → M → List ℕ → Type 0
AsksSomething meaning first = by_status.AsksSomething (λ end. Asks meaning end first)
