-- The name of a number in a list of names that are read off rows.
use Rattle.std.proofs.Common.{◌≡◌, ℕ, List, [], map, Some, None, refl}
use Rattle.std.specs.Prelude.{slice_get}
use Rattle.std.proofs.lemmas.Option.{slice_get-map}
use Rattle.script_lines.specs.Tags.{name_at}

pub name_there : {A : Type 0} (f : A → List ℕ) (xs : List A) (i : ℕ) (x : A) → slice_get xs i ≡ Some x → name_at (map f xs) i ≡ f x
name_there f xs i x is = rw (slice_get-map f xs i, is) refl

pub name_nowhere : {A : Type 0} (f : A → List ℕ) (xs : List A) (i : ℕ) → slice_get xs i ≡ None → name_at (map f xs) i ≡ []
name_nowhere f xs i is = rw (slice_get-map f xs i, is) refl
