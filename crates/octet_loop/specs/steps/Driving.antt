-- What a piece of the input, and its end, come to, whatever was read and written before.
use Rattle.std.specs.Prelude.{◌≡◌, ◌≢◌, ◌⊎◌, ◌≤◌, ℕ, List, ◌++◌, Option, length}
use Rattle.osi_base.specs.declared.status.Status.{Status}
use Rattle.osi_base.specs.declared.status.Status.TheVariants.{Done, ReadFault, NoMemory, TooMuch}
use Rattle.osi_base.specs.Ends.{Put}
use Rattle.octet_loop.specs.Course.{Course}
use Rattle.octet_loop.specs.Limits.{most_octets}
use Rattle.octet_loop.specs.Outcome.{Outcome}
use Rattle.octet_loop.specs.steps.Taking.{Progress, Overflows}
use Rattle.octet_loop.specs.Writing.{IsWritten}

-- the text of a run that ends with a status was written; where memory ran out there is no such text
abbrev pub IsClosed : {K : Type 0} → (K → Option (List ℕ)) → K → List ℕ → Status → K → Status → Type 0
IsClosed held before text end after status = ((end ≡ NoMemory) × (status ≡ NoMemory) × (after ≡ before))
    ⊎ ((end ≢ NoMemory) × IsWritten held before text end after status)

module _ {T : Type 0} (course : T → Course) (progress : Progress T) {K : Type 0} (held : K → Option (List ℕ)) where
  -- the octets were taken and told: Done where the input goes on
  pub record Passes (octets : List ℕ) (old : T) (before : K) (new : T) (after : K) (status : Status) : Type 0 where
    pub written : List ℕ
    pub put : Put (held before) written (held after)
    pub comes : (first : T) (read text : List ℕ) → progress.led first read text old → length read ≤ most_octets
        → ((status ≡ Done) × progress.led first (read ++ octets) (text ++ written) new × (length (read ++ octets) ≤ most_octets))
        ⊎ ((status ≢ ReadFault) × Outcome (course first) ⊥ (read ++ octets) (text ++ written) status)

  -- the input ended, and its end was told
  pub record Closes (old : T) (before after : K) (status : Status) : Type 0 where
    pub written : List ℕ
    pub put : Put (held before) written (held after)
    pub comes : (first : T) (read text : List ℕ) → progress.led first read text old → length read ≤ most_octets
        → (status ≢ ReadFault) × Outcome (course first) (Unit {0}) read (text ++ written) status

  -- that an octet passed the limit was told, unless there was no memory to tell it
  abbrev pub IsOverWritten : T → List ℕ → K → K → Status → Type 0
  IsOverWritten now told before after status = ((status ≡ NoMemory) × (after ≡ before))
      ⊎ ((text : List ℕ) × Overflows course progress now told text × IsWritten held before text TooMuch after status)
