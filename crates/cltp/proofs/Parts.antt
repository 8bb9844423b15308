-- The parameters that pass are those that suit the table.
use Rattle.std.proofs.Common.{◌≡◌, ℕ, ◌+◌, true, false, Bool, cond, ◌&&◌, leb, List, [], ◌∷◌, length, Option, Some, None, refl}
use Rattle.std.specs.Prelude.{option_map}
use Rattle.std.specs.List.{AllByRecursion}
use Rattle.std.proofs.lemmas.Bool.{le-leb, leb-true}
use Rattle.pdu_parts.specs.FirstFault.{or_else, first_failing}
use Rattle.pdu_parts.specs.Parameter.{Parameter}
use Rattle.tpdu.proofs.Parts.{some_left}
use Rattle.script_journal.specs.declared.cause.UdCause.{UdCause}
use Rattle.script_journal.specs.declared.cause.UdCause.TheVariants.{Param}
use Rattle.cltp.specs.declared.fault.UdFault.{UdFault}
use Rattle.cltp.specs.declared.parameter.Lengths.{Lengths}
use Rattle.cltp.specs.Faults.{fault_at, parameter_steps}
use Rattle.cltp.specs.Parameters.{lengths_of, SuitsBy, Suits, trouble_by, trouble}

both : (a b : Bool) → cond (a && b) None (Some Param) ≡ None → (a ≡ true) × (b ≡ true)
both true true e = (refl, refl)
both true false e = absurd cc
both false b e = absurd cc

suits_by : (o : Option Lengths) (p : Parameter) → trouble_by o p ≡ None → SuitsBy o p
suits_by None p e = absurd cc
suits_by (Some lengths) p e =
    let t = both (leb lengths.least (length p.value)) (leb (length p.value) lengths.most) e in
    (leb-true _ _ t.0, leb-true _ _ t.1)

trouble_by-none : (o : Option Lengths) (p : Parameter) → SuitsBy o p → trouble_by o p ≡ None
trouble_by-none None p h = absurd h
trouble_by-none (Some lengths) p h = rw (le-leb _ _ h.0, le-leb _ _ h.1) refl

passes : (o : Option UdCause) (place : ℕ) (later : Option UdFault) → or_else (option_map (λ cause. fault_at cause place) o) later ≡ None → (o ≡ None) × (later ≡ None)
passes None place later e = (refl, e)
passes (Some cause) place later e = absurd cc

-- no fault: nothing is left, and each parameter suits
pub steps-none : (place : ℕ) (ps : List Parameter) (left : List ℕ) → first_failing (parameter_steps place ps left) ≡ None → (left ≡ []) × AllByRecursion Suits ps
steps-none place [] [] e = (refl, tt)
steps-none place [] (octet ∷ left) e = absurd (let h = rw (some_left octet left) at e in cc)
steps-none place (p ∷ ps) left e =
    let f = passes (trouble p) place (first_failing (parameter_steps (place + (2 + length p.value)) ps left)) e in
    let later = steps-none (place + (2 + length p.value)) ps left f.1 in
    (later.0, (suits_by (lengths_of p.code) p f.0, later.1))

pub none-steps : (place : ℕ) (ps : List Parameter) → AllByRecursion Suits ps → first_failing (parameter_steps place ps []) ≡ None
none-steps place [] h = refl
none-steps place (p ∷ ps) h = rw (trouble_by-none (lengths_of p.code) p h.0) (none-steps (place + (2 + length p.value)) ps h.1)
