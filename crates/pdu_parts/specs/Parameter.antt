-- Parameters: code, length and value of each, one after another (X.233, options part; X.224, variable part; ISO 9542, options).
use Rattle.std.specs.Prelude.{ℕ, zero, suc, List, [], ◌∷◌, length, take, drop, if◌then◌else◌, nat_le, Option, Some, None}
use Rattle.std.specs.List.{flat_map}

-- a parameter: its code and its value
pub record Parameter : Type 0 where
  pub code : ℕ
  pub value : List ℕ

-- the octets of a parameter
abbrev pub spelled_one : Parameter → List ℕ
spelled_one parameter = parameter.code ∷ length parameter.value ∷ parameter.value

-- the octets of parameters, one after another
abbrev pub spelled : List Parameter → List ℕ
spelled parameters = flat_map spelled_one parameters

-- the parameter that stands whole at the front, and the octets after it
abbrev pub front_parameter : List ℕ → Option (Parameter × List ℕ)
front_parameter [] = None
front_parameter (code ∷ []) = None
front_parameter (code ∷ len ∷ rest) =
    if nat_le len (length rest) then Some (record { code = code; value = take len rest }, drop len rest) else None

-- the parameters that stand whole one after another, after so many octets
unfoldable pub parameters_after : ℕ → List ℕ → List Parameter
parameters_after (suc count) [] = []
parameters_after (suc count) (octet ∷ octets) = parameters_after count octets
parameters_after zero [] = []
parameters_after zero (code ∷ []) = []
parameters_after zero (code ∷ len ∷ rest) =
    if nat_le len (length rest) then record { code = code; value = take len rest } ∷ parameters_after len rest else []

-- what is left behind them
unfoldable pub left_after : ℕ → List ℕ → List ℕ
left_after (suc count) [] = []
left_after (suc count) (octet ∷ octets) = left_after count octets
left_after zero [] = []
left_after zero (code ∷ []) = code ∷ []
left_after zero (code ∷ len ∷ rest) =
    if nat_le len (length rest) then left_after len rest else code ∷ len ∷ rest

-- the parameters that stand whole one after another, from the first octet on, and what is left behind them
abbrev pub parameters_in : List ℕ → List Parameter
parameters_in octets = parameters_after 0 octets

abbrev pub left_in : List ℕ → List ℕ
left_in octets = left_after 0 octets
