-- Looking for an option: a code or a position, from the front on.
use Rattle.std.proofs.Common.{◌≡◌, ℕ, suc, ◌+◌, ◌-◌, ◌<◌, ◌≤◌, List, ◌∷◌, Option, Some, None, refl, sym, ap, ◌∙◌, arith, slice_get}
use Rattle.std.proofs.lemmas.Bool.{eq-eqb, ne_eqb}
use Rattle.pdu_parts.specs.Parameter.{Parameter, front_parameter, parameters_in}
use Rattle.pdu_parts.proofs.Parameters.{in_front_some, in_front_none}
use Rattle.clnp_options.specs.Options.{value_of}

-- each test of a code is its equation
code_test : (option : Parameter) (code : ℕ) (rest : List Parameter) → option.code ≡ code → value_of code (option ∷ rest) ≡ Some option.value
code_test option code rest same = rw (eq-eqb option.code code same) refl

pub get_found : (code : ℕ) (rest : List ℕ) (option : Parameter) (after : List ℕ) (sought : Option (List ℕ)) → Some (option, after) ≡ front_parameter rest
    → value_of code (parameters_in rest) ≡ sought → option.code ≡ code → Some option.value ≡ sought
get_found code rest option after sought found so_far same =
    sym (ap (value_of code) (in_front_some rest option after found) ∙ code_test option code (parameters_in after) same) ∙ so_far

pub get_missed : (code : ℕ) (rest : List ℕ) (option : Parameter) (after : List ℕ) (sought : Option (List ℕ)) → Some (option, after) ≡ front_parameter rest
    → value_of code (parameters_in rest) ≡ sought → (option.code ≡ code → ⊥) → value_of code (parameters_in after) ≡ sought
get_missed code rest option after sought found so_far other =
    let passed : value_of code (option ∷ parameters_in after) ≡ value_of code (parameters_in after) = rw (ne_eqb option.code code other) refl in
    sym (ap (value_of code) (in_front_some rest option after found) ∙ passed) ∙ so_far

pub get_nowhere : (code : ℕ) (rest : List ℕ) (sought : Option (List ℕ)) → None ≡ front_parameter rest
    → value_of code (parameters_in rest) ≡ sought → None ≡ sought
get_nowhere code rest sought found so_far = sym (ap (value_of code) (in_front_none rest found)) ∙ so_far

-- ---- looking for a position

pub nth_next : (index counter : ℕ) (rest : List ℕ) (option : Parameter) (after : List ℕ) (sought : Option Parameter) → Some (option, after) ≡ front_parameter rest
    → counter < index → slice_get (parameters_in rest) (index - counter) ≡ sought → slice_get (parameters_in after) (index - (counter + 1)) ≡ sought
nth_next index counter rest option after sought found lt so_far =
    let more : index - counter ≡ suc (index - (counter + 1)) = omega arith in
    let there : slice_get (parameters_in rest) (index - counter) ≡ slice_get (parameters_in after) (index - (counter + 1)) = rw (more, in_front_some rest option after found) refl in
    sym there ∙ so_far

pub nth_nowhere : (position : ℕ) (rest : List ℕ) (sought : Option Parameter) → None ≡ front_parameter rest
    → slice_get (parameters_in rest) position ≡ sought → None ≡ sought
nth_nowhere position rest sought found so_far = sym (ap (λ (options : List Parameter). slice_get options position) (in_front_none rest found)) ∙ so_far

pub nth_found : (index counter : ℕ) (rest : List ℕ) (option : Parameter) (after : List ℕ) (sought : Option Parameter) → Some (option, after) ≡ front_parameter rest
    → index ≤ counter → slice_get (parameters_in rest) (index - counter) ≡ sought → Some option ≡ sought
nth_found index counter rest option after sought found le so_far =
    let here : index - counter ≡ 0 = omega arith in
    let there : slice_get (parameters_in rest) (index - counter) ≡ Some option = rw (here, in_front_some rest option after found) refl in
    sym there ∙ so_far
