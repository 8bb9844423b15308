-- Parameters one after another: the first of them, and then those of the octets after it.
use Rattle.std.proofs.Common.{◌≡◌, ℕ, zero, suc, ◌+◌, ◌≤◌, cond, Bool, true, false, List, [], ◌∷◌, ◌++◌, length, take, drop, Option, Some, None, refl, sym, ap, ◌∙◌, subst, append_assoc, arith}
use Rattle.std.specs.Prelude.{nat_le}
use Rattle.std.proofs.lemmas.Bool.{leb-true, le-leb}
use Rattle.std.proofs.lemmas.List.{take-append-drop, length-append, length-drop, length-take, take_at, drop_at}
use Rattle.std.proofs.lemmas.Option.{same_Some}
use Rattle.pdu_parts.specs.Parameter.{Parameter, spelled_one, spelled, front_parameter, parameters_after, parameters_in, left_after, left_in}
use Rattle.pdu_parts.specs.Laws.{ReadsParameters}

-- skipping is dropping
pub parameters_after_drop : (count : ℕ) (octets : List ℕ) → parameters_after count octets ≡ parameters_in (drop count octets)
unfolding parameters_after
parameters_after_drop zero octets = refl
parameters_after_drop (suc count) [] = refl
parameters_after_drop (suc count) (octet ∷ octets) = parameters_after_drop count octets

pub left_after_drop : (count : ℕ) (octets : List ℕ) → left_after count octets ≡ left_in (drop count octets)
unfolding left_after
left_after_drop zero octets = refl
left_after_drop (suc count) [] = refl
left_after_drop (suc count) (octet ∷ octets) = left_after_drop count octets

-- the parameters of octets that begin with what is found there, and what is left behind them
abbrev pub parameters_from : Option (Parameter × List ℕ) → List Parameter
parameters_from None = []
parameters_from (Some found) = found.0 ∷ parameters_in found.1

abbrev pub left_from : List ℕ → Option (Parameter × List ℕ) → List ℕ
left_from octets None = octets
left_from octets (Some found) = left_in found.1

from_test : (fits : Bool) (parameter : Parameter) (rest : List ℕ) (all : List Parameter) → all ≡ parameters_in rest
    → cond fits (parameter ∷ all) [] ≡ parameters_from (cond fits (Some (parameter, rest)) None)
from_test true parameter rest all same = ap (λ (xs : List Parameter). parameter ∷ xs) same
from_test false parameter rest all same = refl

left_test : (fits : Bool) (octets : List ℕ) (parameter : Parameter) (rest left : List ℕ) → left ≡ left_in rest
    → cond fits left octets ≡ left_from octets (cond fits (Some (parameter, rest)) None)
left_test true octets parameter rest left same = same
left_test false octets parameter rest left same = refl

pub in_front : (octets : List ℕ) → parameters_in octets ≡ parameters_from (front_parameter octets)
unfolding parameters_after
in_front [] = refl
in_front (code ∷ []) = refl
in_front (code ∷ len ∷ rest) =
    from_test (nat_le len (length rest)) (record { code = code; value = take len rest }) (drop len rest) (parameters_after len rest) (parameters_after_drop len rest)

pub left_front : (octets : List ℕ) → left_in octets ≡ left_from octets (front_parameter octets)
unfolding left_after
left_front [] = refl
left_front (code ∷ []) = refl
left_front (code ∷ len ∷ rest) =
    left_test (nat_le len (length rest)) (code ∷ len ∷ rest) (record { code = code; value = take len rest }) (drop len rest) (left_after len rest) (left_after_drop len rest)

pub in_front_some : (octets : List ℕ) (parameter : Parameter) (after : List ℕ) → Some (parameter, after) ≡ front_parameter octets
    → parameters_in octets ≡ parameter ∷ parameters_in after
in_front_some octets parameter after found = in_front octets ∙ ap parameters_from (sym found)

pub in_front_none : (octets : List ℕ) → None ≡ front_parameter octets → parameters_in octets ≡ []
in_front_none octets found = in_front octets ∙ ap parameters_from (sym found)

pub left_some : (octets : List ℕ) (parameter : Parameter) (after : List ℕ) → Some (parameter, after) ≡ front_parameter octets
    → left_in octets ≡ left_in after
left_some octets parameter after found = left_front octets ∙ ap (left_from octets) (sym found)

pub left_none : (octets : List ℕ) → None ≡ front_parameter octets → left_in octets ≡ octets
left_none octets found = left_front octets ∙ ap (left_from octets) (sym found)

-- what stands at the front is spelled there
pub record StandsFirst (octets : List ℕ) (parameter : Parameter) (after : List ℕ) : Type 0 where
  pub parts : octets ≡ spelled_one parameter ++ after
  pub lengths : length octets ≡ length parameter.value + 2 + length after

front_test : (fits : Bool) (code len : ℕ) (rest : List ℕ) (parameter : Parameter) (after : List ℕ) → (fits ≡ true → len ≤ length rest)
    → ◌≡◌ {A = Option (Parameter × List ℕ)} (Some (parameter, after)) (cond fits (Some (record { code = code; value = take len rest }, drop len rest)) None)
    → StandsFirst (code ∷ len ∷ rest) parameter after
front_test false code len rest parameter after within found = absurd cc
front_test true code len rest parameter after within found =
    let le : len ≤ length rest = within refl in
    let made : Parameter × List ℕ = (record { code = code; value = take len rest }, drop len rest) in
    let wanted : Parameter × List ℕ = (parameter, after) in
    let same : ◌≡◌ {A = Parameter × List ℕ} made wanted = sym (same_Some {A = Parameter × List ℕ} wanted made found) in
    let taken : length (take len rest) ≡ len = omega (arith, length-take len rest) in
    let here : StandsFirst (code ∷ len ∷ rest) made.0 made.1 = record {
      parts = ap (λ (xs : List ℕ). code ∷ xs) (ap (λ (n : ℕ). n ∷ rest) (sym taken) ∙ ap (λ (xs : List ℕ). length (take len rest) ∷ xs) (sym (take-append-drop len rest)));
      lengths = omega (arith, taken, length-drop len rest);
    } in
    subst (λ (x : Parameter × List ℕ). StandsFirst (code ∷ len ∷ rest) x.0 x.1) same here

pub stands_first : (octets : List ℕ) (parameter : Parameter) (after : List ℕ) → Some (parameter, after) ≡ front_parameter octets → StandsFirst octets parameter after
stands_first [] parameter after found = absurd cc
stands_first (code ∷ []) parameter after found = absurd cc
stands_first (code ∷ len ∷ rest) parameter after found = front_test (nat_le len (length rest)) code len rest parameter after (leb-true len (length rest)) found

-- a spelled parameter is found at the front
pub front_again : (parameter : Parameter) (after : List ℕ) → front_parameter (spelled_one parameter ++ after) ≡ Some (parameter, after)
front_again parameter after =
    let fits : nat_le (length parameter.value) (length (parameter.value ++ after)) ≡ true = le-leb _ _ (omega (arith, length-append parameter.value after)) in
    rw (fits, take_at parameter.value after (length parameter.value) refl, drop_at parameter.value after (length parameter.value) refl) refl

-- ---- all of them

-- what the octets come to: their parts, and that nothing more stands whole
record Read (octets : List ℕ) : Type 0 where
  pub parts : octets ≡ spelled (parameters_in octets) ++ left_in octets
  pub ends : front_parameter (left_in octets) ≡ None

read_by : (octets : List ℕ) (found : Option (Parameter × List ℕ)) → found ≡ front_parameter octets
    → ((parameter : Parameter) (after : List ℕ) → Some (parameter, after) ≡ front_parameter octets → Read after) → Read octets
read_by octets None is again =
    let left : left_in octets ≡ octets = left_none octets is in
    let none : parameters_in octets ≡ [] = in_front_none octets is in
    record {
      parts = sym (ap (λ (ps : List Parameter). spelled ps ++ left_in octets) none ∙ left);
      ends = ap front_parameter left ∙ sym is;
    }
read_by octets (Some found) is again =
    let rest = again found.0 found.1 is in
    let first = stands_first octets found.0 found.1 is in
    let all : parameters_in octets ≡ found.0 ∷ parameters_in found.1 = in_front_some octets found.0 found.1 is in
    let left : left_in octets ≡ left_in found.1 = left_some octets found.0 found.1 is in
    let joined : spelled_one found.0 ++ (spelled (parameters_in found.1) ++ left_in found.1) ≡ spelled (found.0 ∷ parameters_in found.1) ++ left_in found.1 =
    sym (append_assoc (spelled_one found.0) (spelled (parameters_in found.1)) (left_in found.1)) in
    let back : spelled (found.0 ∷ parameters_in found.1) ++ left_in found.1 ≡ spelled (parameters_in octets) ++ left_in octets =
    ap (λ (ps : List Parameter). spelled ps ++ left_in found.1) (sym all) ∙ ap (λ (xs : List ℕ). spelled (parameters_in octets) ++ xs) (sym left) in
    record {
      parts = first.parts ∙ ap (λ (xs : List ℕ). spelled_one found.0 ++ xs) rest.parts ∙ joined ∙ back;
      ends = ap front_parameter left ∙ rest.ends;
    }

-- with so many turns at most, each parameter takes two octets or more
read_within : (turns : ℕ) (octets : List ℕ) → length octets ≤ turns → Read octets
read_within zero octets short =
    read_by octets (front_parameter octets) refl
    (λ (parameter : Parameter) (after : List ℕ) found. let s : StandsFirst octets parameter after = stands_first octets parameter after found in absurd (omega (arith, s.lengths)))
read_within (suc turns) octets short =
    read_by octets (front_parameter octets) refl
    (λ (parameter : Parameter) (after : List ℕ) found. let s : StandsFirst octets parameter after = stands_first octets parameter after found in read_within turns after (omega (arith, s.lengths)))

read : (octets : List ℕ) → Read octets
read octets = read_within (length octets) octets (omega arith)

again : (parameters : List Parameter) (rest : List ℕ) → front_parameter rest ≡ None
    → (parameters_in (spelled parameters ++ rest) ≡ parameters) × (left_in (spelled parameters ++ rest) ≡ rest)
again [] rest none = (in_front_none rest (sym none), left_none rest (sym none))
again (parameter ∷ parameters) rest none =
    let octets : List ℕ = spelled (parameter ∷ parameters) ++ rest in
    let after : List ℕ = spelled parameters ++ rest in
    let more = again parameters rest none in
    let split : octets ≡ spelled_one parameter ++ after = append_assoc (spelled_one parameter) (spelled parameters) rest in
    let found : Some (parameter, after) ≡ front_parameter octets = sym (ap front_parameter split ∙ front_again parameter after) in
    (in_front_some octets parameter after found ∙ ap (λ (ps : List Parameter). parameter ∷ ps) more.0, left_some octets parameter after found ∙ more.1)

pub reads_parameters : ReadsParameters
reads_parameters = record { parts = λ octets. (read octets).parts; ends = λ octets. (read octets).ends; again = again }
