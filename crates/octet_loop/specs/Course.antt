-- What the octets of an input come to, apart from pieces and buffers. Octets are taken in order.
use Rattle.std.specs.Prelude.{ℕ, List}
use Rattle.osi_base.specs.declared.status.Status.{Status}

-- what octets come to, and what is written then
pub record Course : Type 1 where
  -- these octets were read and nothing in them stops a run: the text of what they have whole
  pub reads : List ℕ → List ℕ → Type 0
  -- the last of these octets stops a run: its whole text, and how it ends
  pub stops : List ℕ → List ℕ → Status → Type 0
  -- an input ends after these octets: its whole text, and how it ends
  pub ends : List ℕ → List ℕ → Status → Type 0
  -- one octet more comes after these, which are as many as an input may have: its whole text
  pub over : List ℕ → List ℕ → Type 0
