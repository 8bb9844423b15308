-- Fields of visible characters that are joined by blanks are the fields of the line, and the line is printable.
use Rattle.std.proofs.Common.{◌≡◌, ℕ, ◌+◌, ◌≤◌, Bool, true, false, ◌&&◌, List, [], ◌∷◌, ◌++◌, length, get_or, refl, ap, ◌∙◌, arith, length-append, rules}
use Rattle.std.specs.Prelude.{nat_le, ◌==◌}
use Rattle.std.specs.List.{list_all, AllByRecursion, All}
use Rattle.std.proofs.lemmas.Bool.{and_parts}
use Rattle.std.proofs.lemmas.Bool.Decides.{nat_tests}
use Rattle.std.proofs.lemmas.List.Elements.{All-from_get_or}
use Rattle.std.proofs.lemmas.List.Folds.{list_all-append}
use Rattle.std.proofs.lemmas.List.Splits.{slice_split_none, slice_split_at}
use Rattle.script_lines.specs.Field.{fields_of, is_printable}
use Rattle.script_lines.proofs.Digits.{passes_at}

-- a printable character that is no blank
abbrev pub is_visible : ℕ → Bool
is_visible character = nat_le 33 character && nat_le character 126

abbrev pub AreVisible : List (List ℕ) → Type 0
AreVisible fields = AllByRecursion (λ field. list_all is_visible field ≡ true) fields

abbrev pub joined : List (List ℕ) → List ℕ
joined [] = []
joined (field ∷ []) = field
joined (field ∷ next ∷ more) = field ++ 32 ∷ joined (next ∷ more)

not_blank : (character : ℕ) → is_visible character ≡ true → (character == 32) ≡ false
not_blank character visible = grind (arith, nat_tests)

no_blank : (field : List ℕ) → list_all is_visible field ≡ true → All (λ character. (character == 32) ≡ false) field
no_blank field visible = All-from_get_or (λ character. (character == 32) ≡ false) field 0 (λ i lt. not_blank (get_or field i 0) (passes_at is_visible field i (is_visible (get_or field i 0)) lt visible refl))

pub fields_joined : (first : List ℕ) (more : List (List ℕ)) → AreVisible (first ∷ more) → fields_of (joined (first ∷ more)) ≡ first ∷ more
unfolding fields_of
fields_joined first [] visible = slice_split_none (λ octet. octet == 32) first (no_blank first visible.0)
fields_joined first (next ∷ more) visible =
    slice_split_at (λ octet. octet == 32) first 32 (joined (next ∷ more)) (no_blank first visible.0) refl ∙ ap (λ rest. first ∷ rest) (fields_joined next more visible.1)

printable_one : (character : ℕ) → is_visible character ≡ true → is_printable character ≡ true
printable_one character visible = grind (arith, nat_tests)

and_both : (p q : Bool) → p ≡ true → q ≡ true → (p && q) ≡ true
and_both p q is more = rw (is, more) refl

printable_field : (field : List ℕ) → list_all is_visible field ≡ true → list_all is_printable field ≡ true
printable_field [] visible = refl
printable_field (character ∷ more) visible =
    let parts = and_parts (is_visible character) (list_all is_visible more) visible in
    and_both (is_printable character) (list_all is_printable more) (printable_one character parts.0) (printable_field more parts.1)

pub printable_joined : (fields : List (List ℕ)) → AreVisible fields → list_all is_printable (joined fields) ≡ true
printable_joined [] visible = refl
printable_joined (field ∷ []) visible = printable_field field visible.0
printable_joined (field ∷ next ∷ more) visible =
    list_all-append is_printable field (32 ∷ joined (next ∷ more))
    ∙ and_both (list_all is_printable field) (list_all is_printable (joined (next ∷ more))) (printable_field field visible.0) (printable_joined (next ∷ more) visible.1)

-- each field with a blank or the end behind it
abbrev pub size_of_all : List (List ℕ) → ℕ
size_of_all [] = 0
size_of_all (field ∷ more) = length field + (size_of_all more + 1)

pub size_joined : (fields : List (List ℕ)) → length (joined fields) ≤ size_of_all fields
size_joined [] = omega arith
size_joined (field ∷ []) = omega arith
size_joined (field ∷ next ∷ more) =
    let rest = size_joined (next ∷ more) in
    let all = length-append field (32 ∷ joined (next ∷ more)) in
    let blank : length (32 ∷ joined (next ∷ more)) ≡ length (joined (next ∷ more)) + 1 = search rules in
    omega arith
