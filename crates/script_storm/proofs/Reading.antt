-- The text of a number is read back.
use Rattle.std.proofs.Common.{◌≡◌, ℕ, ◌<◌, ◌^◌, List, [], ◌∷◌, true, nat_eq, Result, Ok, arith, refl, subst, eq-eqb}
use Rattle.std.specs.Cmp.Lexicographic.{pointwise}
use Rattle.std.specs.Str.Parse.{ParsesUnsigned}
use Rattle.std.proofs.lemmas.Fmt.{parse-decimal}
use Rattle.script_storm.specs.Request.{IsNumber}

pub read_back : {E : Type 0} (most number : ℕ) (text : List ℕ) (result : Result ℕ E) → most < 2 ^ 32 → IsNumber most text number
    → ParsesUnsigned 32 10 text result → result ≡ Ok number
read_back most number text result low is parsed =
    let small : number < 2 ^ 32 = let within = is.1 in omega arith in
    parse-decimal 32 number text result small (omega arith) is.0 parsed

pub texts_same : (text other : List ℕ) → text ≡ other → pointwise nat_eq text other ≡ true
texts_same text other same = let Same : List ℕ → Type 0 = λ texts. pointwise nat_eq text texts ≡ true in subst Same same (own text)
  where
    own : (text : List ℕ) → pointwise nat_eq text text ≡ true
    own [] = refl
    own (octet ∷ octets) = rw (eq-eqb octet octet refl) (own octets)
