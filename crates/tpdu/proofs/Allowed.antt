-- What is read is what its format allows: numbers and credits are cut to their bits, selectors have the lengths of the table, sizes
-- have codes, and the data suits its kind.
use Rattle.std.proofs.Common.{◌≡◌, ◌≤◌, ◌==◌, ℕ, zero, suc, if◌then◌else◌, Bool, true, false, List, [], ◌∷◌, length, Option, Some, None, refl, sym, subst, ap, ◌∙◌, arith}
use Rattle.std.specs.Prelude.{unwrap_or, option_and_then, IsSome, IsTrue, nat_le}
use Rattle.std.specs.List.{AllByRecursion}
use Rattle.std.specs.Option.{option_or}
use Rattle.std.proofs.lemmas.Bool.{leb-true, and_parts, eqb-true, eqb-false, eq-eqb}
use Rattle.pdu_parts.specs.Parameter.{Parameter}
use Rattle.tpdu.specs.declared.kind.Kind.{Kind}
use Rattle.tpdu.specs.declared.kind.Kind.TheVariants.{Cr, Cc, Dr, Dc, Dt, Ed, Ak, Ea, Er}
use Rattle.tpdu.specs.declared.tpdu.Format.{Format}
use Rattle.tpdu.specs.declared.tpdu.Format.TheVariants.{Normal, Extended}
use Rattle.tpdu.specs.declared.tpdu.Tpdu.{Tpdu}
use Rattle.tpdu.specs.declared.parameter.Lengths.{Lengths}
use Rattle.tpdu.specs.Grammar.{Suits, SuitsBy, IsTpdu, BeginsWithTpdu}
use Rattle.tpdu.specs.Kinds.{data_suits}
use Rattle.tpdu.specs.Parameters.{Size, sizes, size_in, size_of, preferred_of, number_in, last_value, lengths_of}
use Rattle.tpdu.specs.Values.{TpduAndSum, Parts, value_of, fields, text, number_of, credit_of, destination_of, format_for}
use Rattle.tpdu.specs.Writing.{code_in, IsKnownSize, IsPreferred, IsAllowed, IsNumber, IsCredit}

-- a size that is there has a code
IsIn : List Size → Option ℕ → Type 0
IsIn list None = Unit {0}
IsIn list (Some octets) = IsSome (code_in list octets)

still_in : (first : Size) (list : List Size) (found : Option ℕ) → IsIn list found → IsIn (first ∷ list) found
unfolding IsIn
still_in first list None h = tt
still_in first list (Some octets) h = by (first.octets == octets)
  where
    by : (b : Bool) → IsSome (if b then Some first.code else code_in list octets)
    by true = refl
    by false = h

first_in : (first : Size) (list : List Size) → IsIn (first ∷ list) (Some first.octets)
unfolding IsIn
first_in first list = subst (λ (b : Bool). IsSome (if b then Some first.code else code_in list first.octets)) (sym (eq-eqb first.octets first.octets refl)) refl

size_is_in : (list : List Size) (code : ℕ) → IsIn list (size_in list code)
unfolding IsIn
size_is_in [] code = tt
size_is_in (first ∷ list) code = by (first.code == code) (still_in first list (size_in list code) (size_is_in list code))
  where
    by : (b : Bool) → IsIn (first ∷ list) (size_in list code) → IsIn (first ∷ list) (if b then Some first.octets else size_in list code)
    by true h = first_in first list
    by false h = h

value_is_in : (value : List ℕ) → IsIn sizes (size_of value)
unfolding IsIn
value_is_in [] = tt
value_is_in (code ∷ []) = size_is_in sizes code
value_is_in (code ∷ more ∷ octets) = tt

size_is_known : (value : Option (List ℕ)) → IsKnownSize (option_and_then size_of value)
unfolding IsIn
size_is_known None = tt
size_is_known (Some value) = by (size_of value) (value_is_in value)
  where
    by : (found : Option ℕ) → IsIn sizes found → IsKnownSize found
    by None h = tt
    by (Some octets) h = h

at_least : (n : ℕ) → (n ≡ 0 → ⊥) → 1 ≤ n
at_least zero some = absurd (some refl)
at_least (suc n) some = omega arith

preferred_is_known : (value : Option (List ℕ)) → IsPreferred (option_and_then preferred_of value)
preferred_is_known None = tt
preferred_is_known (Some value) = by (number_in value == 0) refl
  where
    by : (b : Bool) → (number_in value == 0) ≡ b → IsPreferred (if b then None else Some (number_in value))
    by true is = tt
    by false is = at_least (number_in value) (eqb-false (number_in value) 0 is)

-- a selector has at most 32 octets
IsShort : Option (List ℕ) → Type 0
IsShort None = Unit {0}
IsShort (Some value) = length value ≤ 32

short_or : (rest : Option (List ℕ)) (b : Bool) (value : List ℕ) → (b ≡ true → length value ≤ 32) → IsShort rest → IsShort (option_or rest (if b then Some value else None))
unfolding IsShort
short_or (Some other) b value h short = short
short_or None true value h short = h refl
short_or None false value h short = tt

last_is_short : (kind : Kind) (code : ℕ) (ps : List Parameter) → ((p : Parameter) → p.code ≡ code → Suits kind p → length p.value ≤ 32) → AllByRecursion (Suits kind) ps
    → IsShort (last_value code ps)
unfolding IsShort
last_is_short kind code [] h all = tt
last_is_short kind code (p ∷ ps) h all =
    short_or (last_value code ps) (p.code == code) p.value (λ e. h p (eqb-true p.code code e) all.0) (last_is_short kind code ps h all.1)

text_is_short : (value : Option (List ℕ)) → IsShort value → length (unwrap_or value []) ≤ 32
unfolding IsShort
text_is_short None h = omega arith
text_is_short (Some value) h = h

-- what the table says of a selector
selector : (kind : Kind) (code : ℕ) → lengths_of kind code ≡ Some (record { least = 0; most = 32 }) → (p : Parameter) → p.code ≡ code → Suits kind p → length p.value ≤ 32
selector kind code row p e s =
    let found = ap (λ (c : ℕ). lengths_of kind c) e ∙ row in
    let suits = subst (λ (l : Option Lengths). SuitsBy l kind p) found s in suits.1

selector_is_short : (kind : Kind) (code : ℕ) (ps : List Parameter) → lengths_of kind code ≡ Some (record { least = 0; most = 32 }) → AllByRecursion (Suits kind) ps → length (text code ps) ≤ 32
selector_is_short kind code ps row all = text_is_short (last_value code ps) (last_is_short kind code ps (selector kind code row) all)

number_is_cut : (width : Format) (fixed : List ℕ) → IsNumber width (number_of width fixed)
number_is_cut Normal fixed = omega arith
number_is_cut Extended fixed = omega arith

credit_is_cut : (width : Format) (code : ℕ) (fixed : List ℕ) → IsCredit width (credit_of width code fixed)
credit_is_cut Normal code fixed = omega arith
credit_is_cut Extended code fixed = tt

-- what the parts stand for
fields_allowed : (kind : Kind) (width : Format) (code : ℕ) (fixed : List ℕ) (ps : List Parameter) (body : List ℕ) → AllByRecursion (Suits kind) ps
    → IsTrue (data_suits kind (length body)) → IsAllowed width (fields kind width code fixed ps body)
fields_allowed Cr width code fixed ps body all suits = record {
  few_credits = omega arith;
  calling_fits = selector_is_short Cr 0xC1 ps refl all;
  called_fits = selector_is_short Cr 0xC2 ps refl all;
  size_known = size_is_known (last_value 0xC0 ps);
  preferred_known = preferred_is_known (last_value 0xF0 ps);
  octets_fit = leb-true _ _ suits;
}
fields_allowed Cc width code fixed ps body all suits = record {
  few_credits = omega arith;
  calling_fits = selector_is_short Cc 0xC1 ps refl all;
  called_fits = selector_is_short Cc 0xC2 ps refl all;
  size_known = size_is_known (last_value 0xC0 ps);
  preferred_known = preferred_is_known (last_value 0xF0 ps);
  octets_fit = leb-true _ _ suits;
}
fields_allowed Dr width code fixed ps body all suits = leb-true _ _ suits
fields_allowed Dc width code fixed ps body all suits = tt
fields_allowed Dt width code fixed ps body all suits = number_is_cut width fixed
fields_allowed Ed width code fixed ps body all suits =
    let both = and_parts (nat_le 1 (length body)) (nat_le (length body) 16) suits in (number_is_cut width fixed, leb-true _ _ both.0, leb-true _ _ both.1)
fields_allowed Ak width code fixed ps body all suits = (number_is_cut width fixed, credit_is_cut width code fixed)
fields_allowed Ea width code fixed ps body all suits = number_is_cut width fixed
fields_allowed Er width code fixed ps body all suits = tt

pub is_allowed : (format : Format) (octets : List ℕ) (tpdu : TpduAndSum) → IsTpdu format octets tpdu → IsAllowed format tpdu.0
unfolding value_of
is_allowed width octets tpdu t =
    let p : Parts = t.parts in
    subst (λ (f : Format). IsAllowed f tpdu.0) t.format_is
    (subst (λ (v : Tpdu). IsAllowed p.format v) t.value_is
    (fields_allowed p.kind p.format p.code p.fixed p.parameters p.body t.spells.parameters t.spells.body))

pub first_is_allowed : (extended octets rest : List ℕ) (tpdu : TpduAndSum) → BeginsWithTpdu extended octets tpdu rest
    → IsAllowed (format_for extended (destination_of tpdu.0)) tpdu.0
first_is_allowed extended octets rest tpdu b = is_allowed (format_for extended (destination_of tpdu.0)) b.begins.front tpdu b.begins.stands
