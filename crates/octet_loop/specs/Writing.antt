-- What comes of writing a text.
use Rattle.std.specs.Prelude.{◌≡◌, ◌⊎◌, ℕ, List, ◌++◌, Option}
use Rattle.osi_base.specs.declared.status.Status.{Status}
use Rattle.osi_base.specs.declared.status.Status.TheVariants.{WriteFault, NoMemory}
use Rattle.osi_base.specs.Ends.{Put}

-- the first list begins the second
abbrev pub IsPrefix : List ℕ → List ℕ → Type 0
IsPrefix xs ys = (rest : List ℕ) × (xs ++ rest ≡ ys)

-- a front of the text was written, and the status says why no more
pub record IsBroken {K : Type 0} (held : K → Option (List ℕ)) (old : K) (text : List ℕ) (new : K) (status : Status) : Type 0 where
  pub front : List ℕ
  pub begins : IsPrefix front text
  pub put : Put (held old) front (held new)
  pub cause : (status ≡ WriteFault) ⊎ (status ≡ NoMemory)

-- a text was written to its end, or a front of it
abbrev pub IsWritten : {K : Type 0} → (K → Option (List ℕ)) → K → List ℕ → Status → K → Status → Type 0
IsWritten held old text end new status = ((status ≡ end) × Put (held old) text (held new)) ⊎ IsBroken held old text new status
