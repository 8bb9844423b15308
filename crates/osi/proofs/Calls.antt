-- A call over a source and a sink is one over their reader and writer: of these the clauses of the call see what is left and what is held alone.
use Rattle.std.proofs.Common.{◌≡◌, ℕ, List, Option, inl, inr, subst, sym}
use Rattle.osi_base.specs.declared.status.Status.{Status}
use Rattle.line_loop.specs.Writing.{IsWritten}
use Rattle.osi.specs.Program.{IsCall}

-- a text that a sink took, by what the sink holds alone
pub written_held : {K : Type 0} (held : K → Option (List ℕ)) (old new : K) (text : List ℕ) (end status : Status) → IsWritten held old text end new status
    → IsWritten {K = Option (List ℕ)} (λ octets. octets) (held old) text end (held new) status
written_held held old new text end status (inl all) = inl all
written_held held old new text end status (inr cut) = inr (record { front = cut.front; begins = cut.begins; put = cut.put; cause = cut.cause })

pub call_by : (words : List (List ℕ)) (left held rest grown first before last after : Option (List ℕ)) (status : Status) → left ≡ first → held ≡ before → last ≡ rest → after ≡ grown
    → IsCall words left held rest grown status → IsCall words first before last after status
call_by words left held rest grown first before last after status l h r g call =
    subst (λ (x : Option (List ℕ)). IsCall words x before last after status) l
    (subst (λ (x : Option (List ℕ)). IsCall words left x last after status) h
    (subst (λ (x : Option (List ℕ)). IsCall words left held x after status) (sym r)
    (subst (λ (x : Option (List ℕ)). IsCall words left held rest x status) (sym g) call)))
