-- A code that stands among options is one whose value is found.
use Rattle.std.proofs.Common.{◌≡◌, ℕ, Bool, true, false, cond, List, [], ◌∷◌, Option, Some, None, refl, sym, ap, ◌∙◌, option_map, is_some, eqb, ◌||◌}
use Rattle.pdu_parts.specs.Parameter.{Parameter}
use Rattle.clnp_options.specs.Options.{value_of, has}

mapped : {A B : Type 0} (f : A → B) (o : Option A) → is_some (option_map f o) ≡ is_some o
mapped f None = refl
mapped f (Some x) = refl

found_one : (here : Bool) (option : Parameter) (found : Option Parameter) (rest : Bool) → is_some (option_map (λ (o : Parameter). o.value) found) ≡ rest
    → is_some (option_map (λ (o : Parameter). o.value) (cond here (Some option) found)) ≡ (here || rest)
found_one true option found rest same = refl
found_one false option found rest same = same

pub has_value : (code : ℕ) (options : List Parameter) → is_some (value_of code options) ≡ has code options
has_value code [] = refl
has_value code (option ∷ options) = found_one (eqb option.code code) option _ (has code options) (has_value code options)

-- what was found, seen by f, is the value of that code
pub has_found : {A : Type 0} (f : A → List ℕ) (found : Option A) (code : ℕ) (options : List Parameter) → option_map f found ≡ value_of code options
    → is_some found ≡ has code options
has_found f found code options same = sym (mapped f found) ∙ ap is_some same ∙ has_value code options
