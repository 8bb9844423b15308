-- An octet once more is its digits once more.
use Rattle.std.proofs.Common.{◌≡◌, ℕ, ◌+◌, List, [], ◌∷◌, ◌++◌, ◌/◌, ◌%◌, slice_index, replicate, refl, ap, ◌∙◌}
use Rattle.std.proofs.lemmas.Grind.{replicate_next}
use Rattle.hex.specs.Hex.{encode_with, encode_lower, lower_digits}

pub encode_joined : (table xs ys : List ℕ) → encode_with table (xs ++ ys) ≡ encode_with table xs ++ encode_with table ys
unfolding encode_with
encode_joined table [] ys = refl
encode_joined table (x ∷ xs) ys = ap (λ rest. slice_index table (x / 16) ∷ slice_index table (x % 16) ∷ rest) (encode_joined table xs ys)

pub none_yet : (octet : ℕ) → encode_lower (replicate 0 octet) ≡ []
unfolding encode_with
none_yet octet = refl

pub once_more : (count octet : ℕ) → encode_lower (replicate (count + 1) octet) ≡ encode_lower (replicate count octet) ++ encode_lower (octet ∷ [])
once_more count octet = ap encode_lower (replicate_next count octet) ∙ encode_joined lower_digits (replicate count octet) (octet ∷ [])
