-- The octets that are written, part by part: they are a spelling of the value, and the only one that is written.
use Rattle.std.proofs.Common.{◌≡◌, ℕ, ◌+◌, ◌≤◌, Bool, true, false, List, [], ◌∷◌, ◌++◌, length, refl, sym, ap, subst, ◌∙◌, append_assoc, arith}
use Rattle.std.proofs.lemmas.List.{append-nil, length-append}
use Rattle.std.proofs.lemmas.Grind.{flat_map-append}
use Rattle.osi_base.specs.Fletcher.{Sealed}
use Rattle.osi_base.proofs.FletcherPair.{one_pair}
use Rattle.tpdu.specs.declared.tpdu.Format.{Format}
use Rattle.tpdu.specs.declared.tpdu.Format.TheVariants.{Normal, Extended}
use Rattle.tpdu.specs.declared.tpdu.Tpdu.{Tpdu}
use Rattle.tpdu.specs.declared.tpdu.Tpdu.TheVariants as tpdus
use Rattle.tpdu.specs.Kinds.{fixed_count}
use Rattle.pdu_parts.specs.Parameter.{Parameter, spelled_one, spelled}
use Rattle.tpdu.specs.Grammar.{header_of}
use Rattle.tpdu.specs.steps.Sums.{SumsIf}
use Rattle.tpdu.specs.Writing.{kind_for, code_for, fixed_for, parameters_for, body_for, sums_for, parts_for, count_for, IsSpelled}

pub spelled-append : (ps qs : List Parameter) → spelled (ps ++ qs) ≡ spelled ps ++ spelled qs
spelled-append ps qs = flat_map-append spelled_one ps qs

pub length-fixed_for : (width : Format) (tpdu : Tpdu) → length (fixed_for width tpdu) ≡ fixed_count (kind_for tpdu) width
length-fixed_for Normal (tpdus.Dt _ _ _ _) = refl
length-fixed_for Extended (tpdus.Dt _ _ _ _) = refl
length-fixed_for _ _ = refl

-- four octets for a checksum
abbrev pub sum_count : Bool → ℕ
sum_count true = 4
sum_count false = 0

length-sums_for : (summed : Bool) (first second : ℕ) → length (spelled (sums_for summed first second)) ≡ sum_count summed
length-sums_for true first second = refl
length-sums_for false first second = refl

pub length-header : (width : Format) (summed : Bool) (tpdu : Tpdu) (first second : ℕ)
    → length (header_of (parts_for width tpdu (sums_for summed first second))) ≡ length (spelled (parameters_for tpdu)) + (1 + fixed_count (kind_for tpdu) width + sum_count summed)
length-header width summed tpdu first second =
    let sums = sums_for summed first second in
    let fixed = fixed_for width tpdu in
    omega (
      arith,
      length-append fixed (spelled (parameters_for tpdu ++ sums)),
      length-fixed_for width tpdu,
      ap length (spelled-append (parameters_for tpdu) sums),
      length-append (spelled (parameters_for tpdu)) (spelled sums),
      length-sums_for summed first second,
    )

pub count_for-is : (width : Format) (summed : Bool) (tpdu : Tpdu) → count_for width summed tpdu ≡ length (spelled (parameters_for tpdu)) + (1 + fixed_count (kind_for tpdu) width + sum_count summed)
count_for-is width summed tpdu = length-header width summed tpdu 0 0

-- ---- the parts one after another

header_is : (width : Format) (tpdu : Tpdu) (sums : List Parameter) (n : ℕ)
    → ((((n ∷ code_for width tpdu ∷ []) ++ fixed_for width tpdu) ++ spelled (parameters_for tpdu)) ++ spelled sums) ≡ n ∷ header_of (parts_for width tpdu sums)
header_is width tpdu sums n =
    let fixed = fixed_for width tpdu in
    let ps = parameters_for tpdu in
    ap (λ (t : List ℕ). n ∷ code_for width tpdu ∷ t) (append_assoc fixed (spelled ps) (spelled sums) ∙ ap (λ (t : List ℕ). fixed ++ t) (sym (spelled-append ps sums)))

pub spelled_by : (width : Format) (summed : Bool) (tpdu : Tpdu) (n : ℕ) (old new octets : List ℕ)
    → n ≡ count_for width summed tpdu → n ≤ 254 → old ≡ ((n ∷ code_for width tpdu ∷ []) ++ fixed_for width tpdu) ++ spelled (parameters_for tpdu)
    → SumsIf summed old (body_for tpdu) new → octets ≡ new ++ body_for tpdu → IsSpelled width summed tpdu octets
spelled_by width true tpdu n old new octets count short is sums e =
    let sum = sums_for true sums.high sums.low in
    let same : n ≡ length (header_of (parts_for width tpdu sum)) = count ∙ count_for-is width true tpdu ∙ sym (length-header width true tpdu sums.high sums.low) in
    let header : new ≡ n ∷ header_of (parts_for width tpdu sum) = sums.appended ∙ ap (λ (t : List ℕ). t ++ 0xC3 ∷ 2 ∷ sums.high ∷ sums.low ∷ []) is ∙ header_is width tpdu sum n in
    record {
      short = omega arith;
      first = sums.high;
      second = sums.low;
      all = e ∙ ap (λ (t : List ℕ). t ++ body_for tpdu) header ∙ ap (λ (k : ℕ). k ∷ (header_of (parts_for width tpdu sum) ++ body_for tpdu)) same;
      first_used = λ _. sums.high_used;
      second_used = λ _. sums.low_used;
      sealed = λ _. subst Sealed (sym e) sums.sealed;
    }
spelled_by width false tpdu n old new octets count short is same_new e =
    let header : new ≡ n ∷ header_of (parts_for width tpdu []) = same_new ∙ is ∙ sym (append-nil _) ∙ header_is width tpdu [] n in
    record {
      short = omega arith;
      first = 0;
      second = 0;
      all = e ∙ ap (λ (t : List ℕ). t ++ body_for tpdu) header ∙ ap (λ (k : ℕ). k ∷ (header_of (parts_for width tpdu []) ++ body_for tpdu)) count;
      first_used = λ h. absurd cc;
      second_used = λ h. absurd cc;
      sealed = λ h. absurd cc;
    }

-- the same from the steps of the code
pub spelled_from : (width : Format) (summed : Bool) (tpdu : Tpdu) (n code : ℕ) (start one two three four octets body : List ℕ)
    → n ≡ count_for width summed tpdu → n ≤ 254 → code ≡ code_for width tpdu → start ≡ [] → one ≡ start ++ n ∷ code ∷ [] → two ≡ one ++ fixed_for width tpdu
    → three ≡ two ++ spelled (parameters_for tpdu) → body ≡ body_for tpdu → SumsIf summed three body four → octets ≡ four ++ body → IsSpelled width summed tpdu octets
spelled_from width summed tpdu n code start one two three four octets body count short code_is start_is one_is two_is three_is body_is sums e =
    let first : one ≡ n ∷ code_for width tpdu ∷ [] = one_is ∙ (λ i. start_is i ++ n ∷ code_is i ∷ []) in
    let header : three ≡ ((n ∷ code_for width tpdu ∷ []) ++ fixed_for width tpdu) ++ spelled (parameters_for tpdu)
    = three_is ∙ ap (λ (t : List ℕ). t ++ spelled (parameters_for tpdu)) (two_is ∙ ap (λ (t : List ℕ). t ++ fixed_for width tpdu) first) in
    spelled_by width summed tpdu n three four octets count short header (subst (λ (b : List ℕ). SumsIf summed three b four) body_is sums) (e ∙ ap (λ (t : List ℕ). four ++ t) body_is)

-- ---- one writing

-- what stands before the two octets of the checksum
abbrev before_sum : Format → Tpdu → ℕ → List ℕ
before_sum width tpdu n = (((n ∷ code_for width tpdu ∷ []) ++ fixed_for width tpdu) ++ spelled (parameters_for tpdu)) ++ 0xC3 ∷ 2 ∷ []

around_sum : (width : Format) (tpdu : Tpdu) (first second : ℕ)
    → let header = header_of (parts_for width tpdu (sums_for true first second)) in
    length header ∷ (header ++ body_for tpdu) ≡ before_sum width tpdu (count_for width true tpdu) ++ first ∷ second ∷ body_for tpdu
around_sum width tpdu first second =
    let sums = sums_for true first second in
    let header = header_of (parts_for width tpdu sums) in
    let n = count_for width true tpdu in
    let body = body_for tpdu in
    let front = ((n ∷ code_for width tpdu ∷ []) ++ fixed_for width tpdu) ++ spelled (parameters_for tpdu) in
    let same : length header ≡ n = length-header width true tpdu first second ∙ sym (count_for-is width true tpdu) in
    ap (λ (k : ℕ). k ∷ (header ++ body)) same ∙ ap (λ (t : List ℕ). t ++ body) (sym (header_is width tpdu sums n))
    ∙ append_assoc front (spelled sums) body ∙ sym (append_assoc front (0xC3 ∷ 2 ∷ []) (first ∷ second ∷ body))

pub one_spelling : (width : Format) (summed : Bool) (tpdu : Tpdu) (octets others : List ℕ) → IsSpelled width summed tpdu octets → IsSpelled width summed tpdu others → octets ≡ others
one_spelling width false tpdu octets others s t = s.all ∙ sym t.all
one_spelling width true tpdu octets others s t =
    let before = before_sum width tpdu (count_for width true tpdu) in
    let body = body_for tpdu in
    let one : octets ≡ before ++ s.first ∷ s.second ∷ body = s.all ∙ around_sum width tpdu s.first s.second in
    let other : others ≡ before ++ t.first ∷ t.second ∷ body = t.all ∙ around_sum width tpdu t.first t.second in
    let a = s.first_used refl in
    let b = s.second_used refl in
    let c = t.first_used refl in
    let d = t.second_used refl in
    let same = one_pair before body s.first s.second t.first t.second a.0 a.1 b.0 b.1 c.0 c.1 d.0 d.1 (subst Sealed one (s.sealed refl)) (subst Sealed other (t.sealed refl)) in
    one ∙ (λ i. before ++ same.0 i ∷ same.1 i ∷ body) ∙ sym other
