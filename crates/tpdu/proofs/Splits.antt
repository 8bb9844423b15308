-- The parameters of a header one by one: the one at the front, those after it, and what is left.
use Rattle.std.proofs.Common.{◌≡◌, List, [], ◌∷◌, ◌++◌, ℕ, Some, None, refl, sym, ap, ◌∙◌}
use Rattle.std.proofs.lemmas.List.{append-nil}
use Rattle.pdu_parts.specs.Parameter.{Parameter, spelled, front_parameter, parameters_in, left_in}
use Rattle.pdu_parts.proofs.Parameters.{in_front_some, in_front_none, left_some, left_none, reads_parameters}

-- the first parameter, and then the others
pub parameters-front : (octets : List ℕ) (found : Parameter × List ℕ) → front_parameter octets ≡ Some found
    → (parameters_in octets ≡ found.0 ∷ parameters_in found.1) × (left_in octets ≡ left_in found.1)
parameters-front octets found e = (in_front_some octets found.0 found.1 (sym e), left_some octets found.0 found.1 (sym e))

-- no parameter stands whole
pub parameters-none : (octets : List ℕ) → front_parameter octets ≡ None → (parameters_in octets ≡ []) × (left_in octets ≡ octets)
parameters-none octets e = (in_front_none octets (sym e), left_none octets (sym e))

-- parameters one after another are found, and nothing is left
pub parameters-spelled : (ps : List Parameter) → (parameters_in (spelled ps) ≡ ps) × (left_in (spelled ps) ≡ [])
parameters-spelled ps =
    let again = reads_parameters.again ps [] refl in
    let same = append-nil (spelled ps) in
    (ap parameters_in (sym same) ∙ again.0, ap left_in (sym same) ∙ again.1)

-- the octets are the parameters and what is left
pub spelled-parameters : (octets : List ℕ) → spelled (parameters_in octets) ++ left_in octets ≡ octets
spelled-parameters octets = sym (reads_parameters.parts octets)
