-- A line that is appended part by part is appended whole.
use Rattle.std.proofs.Common.{◌≡◌, ℕ, List, ◌++◌, Result, Ok, Err, OnOk, ap, ◌∙◌, append_assoc}
use Rattle.osi_base.specs.declared.refusal.NoMemory.{NoMemory}

pub begun : (out word digits new : List ℕ) → new ≡ out ++ word ++ digits → new ≡ out ++ (word ++ digits)
begun out word digits new is = is ∙ append_assoc out word digits

pub more : (out text word digits old new : List ℕ) → old ≡ out ++ text → new ≡ old ++ word ++ digits → new ≡ out ++ (text ++ word ++ digits)
more out text word digits old new was is =
    is ∙ ap (λ held. held ++ word ++ digits) was ∙ ap (λ held. held ++ digits) (append_assoc out text word) ∙ append_assoc out (text ++ word) digits

pub ended : (result : Result Unit NoMemory) (out text word old new : List ℕ) → old ≡ out ++ text → OnOk result (new ≡ old ++ word)
    → OnOk result (new ≡ out ++ (text ++ word))
ended (Ok done) out text word old new was is = is ∙ ap (λ held. held ++ word) was ∙ append_assoc out text word
ended (Err error) out text word old new was is = tt
