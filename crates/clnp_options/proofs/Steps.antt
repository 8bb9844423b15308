-- Reading option by option: the first fault of what is left, after what was read, stays the first fault of the whole.
use Rattle.std.proofs.Common.{◌≡◌, ℕ, ◌+◌, ◌<◌, ◌≤◌, cond, Bool, true, false, List, [], ◌∷◌, ◌++◌, length, take, drop, Option, Some, None, Ok, Err, refl, sym, ap, ◌∙◌, subst, arith, is_some, inl, inr}
use Rattle.std.specs.Prelude.{nat_lt}
use Rattle.std.proofs.lemmas.Bool.{le-ltb, lt-ltb, cases_lt}
use Rattle.std.proofs.lemmas.List.{take-append-drop, length-append, length-drop, append_assoc, append-nil, take_at, drop_at, take_all, drop_all, length-take-le}
use Rattle.std.proofs.lemmas.List.Concat.{flat_map-append}
use Rattle.pdu_parts.specs.Parameter.{Parameter, spelled_one, spelled, front_parameter, parameters_after, parameters_in}
use Rattle.clnp_options.specs.Faults.{fault_at}
use Rattle.clnp_options.specs.steps.Walking.{option_reason, each_fault, cut_fault, missing_fault, fault_after, walked_fault, position_unless, position_after}
use Rattle.clnp_options.specs.declared.reason.Fault.{Fault}
use Rattle.clnp_options.specs.declared.reason.Reason.{Reason}
use Rattle.clnp_options.specs.declared.reason.PduKind.{PduKind}
use Rattle.clnp_options.specs.declared.reason.PduKind.TheVariants.{Dt, Er}
use Rattle.clnp_options.specs.declared.reason.Reason.TheVariants.{HeaderSyntax}
use Rattle.clnp_options.specs.Options.{has}
use Rattle.pdu_parts.proofs.Parameters.{StandsFirst, stands_first, front_again, in_front_some, in_front_none}

-- ---- what is spelled is read again

pub in_spelled : (options : List Parameter) (after : List ℕ) → parameters_in (spelled options ++ after) ≡ options ++ parameters_in after
in_spelled [] after = refl
in_spelled (option ∷ options) after =
    let regrouped : spelled (option ∷ options) ++ after ≡ spelled_one option ++ (spelled options ++ after) = append_assoc (spelled_one option) (spelled options) after in
    ap parameters_in regrouped
    ∙ in_front_some (spelled_one option ++ (spelled options ++ after)) option (spelled options ++ after) (sym (front_again option (spelled options ++ after)))
    ∙ ap (λ (xs : List Parameter). option ∷ xs) (in_spelled options after)

pub spelled_again : (options : List Parameter) → parameters_in (spelled options) ≡ options
unfolding parameters_after
spelled_again options = ap parameters_in (sym (append-nil (spelled options))) ∙ in_spelled options [] ∙ append-nil options

pub spelled_one_more : (before : List Parameter) (option : Parameter) → spelled (before ++ option ∷ []) ≡ spelled before ++ spelled_one option
spelled_one_more before option = flat_map-append spelled_one before (option ∷ []) ∙ ap (λ (xs : List ℕ). spelled before ++ xs) (append-nil (spelled_one option))

-- ---- one step of the faults

lt_shift : (n a b : ℕ) → nat_lt (n + a) (n + b) ≡ nat_lt a b
lt_shift n a b =
    elim (cases_lt a b) [
      | inl lt ↦ lt-ltb (n + a) (n + b) (omega arith) ∙ sym (lt-ltb a b lt)
      | inr le ↦ le-ltb (n + a) (n + b) (omega arith) ∙ sym (le-ltb a b le)
    ]

cut_step : (place : ℕ) (rest : List ℕ) (option : Parameter) (after : List ℕ) (options : List Parameter) → StandsFirst rest option after
    → cut_fault place rest (option ∷ options) ≡ cut_fault (place + (length option.value + 2)) after options
cut_step place rest option after options front =
    let count : ℕ = length option.value + 2 in
    let spelled_len : length (spelled (option ∷ options)) ≡ count + length (spelled options) = omega (arith, length-append option.value (spelled options)) in
    let rest_len : length rest ≡ count + length after = omega (arith, front.lengths) in
    let test : nat_lt (length (spelled (option ∷ options))) (length rest) ≡ nat_lt (length (spelled options)) (length after) =
    ap (λ (n : ℕ). nat_lt n (length rest)) spelled_len ∙ ap (λ (n : ℕ). nat_lt (count + length (spelled options)) n) rest_len ∙ lt_shift count (length (spelled options)) (length after) in
    let there : place + length (spelled (option ∷ options)) ≡ (place + count) + length (spelled options) = omega (arith, spelled_len) in
    ap (λ (b : Bool). cond b (Some (fault_at (place + length (spelled (option ∷ options))) HeaderSyntax)) None) test
    ∙ ap (λ (n : ℕ). cond (nat_lt (length (spelled options)) (length after)) (Some (fault_at n HeaderSyntax)) None) there

pub fault_step : (kind : PduKind) (place : ℕ) (before : List Parameter) (rest : List ℕ) (option : Parameter) (after : List ℕ)
    → Some (option, after) ≡ front_parameter rest → option_reason kind before option ≡ None
    → fault_after kind place before rest ≡ fault_after kind (place + (length option.value + 2)) (before ++ option ∷ []) after
unfolding fault_after each_fault
fault_step kind place before rest option after found fine =
    let options : List Parameter = parameters_in after in
    let next : ℕ = place + (length option.value + 2) in
    let now : List Parameter = before ++ option ∷ [] in
    let first : each_fault kind place before (option ∷ options) ≡ each_fault kind next now options = rw fine refl in
    rw (in_front_some rest option after found, fine, cut_step place rest option after options (stands_first rest option after found), ← append_assoc before (option ∷ []) options) refl

-- ---- one step of the reading

-- up to here the octets are options with no fault
pub record Reads (kind : PduKind) (first : ℕ) (octets : List ℕ) (position : ℕ) : Type 0 where
  pub within : position ≤ length octets
  pub spelling : take position octets ≡ spelled (parameters_in (take position octets))
  pub left : fault_after kind (first + position) (parameters_in (take position octets)) (drop position octets) ≡ walked_fault kind first octets

pub begins : (kind : PduKind) (first : ℕ) (octets : List ℕ) → Reads kind first octets 0
unfolding parameters_after
begins kind first octets = record { within = omega arith; spelling = refl; left = ap (λ (n : ℕ). fault_after kind n [] octets) (omega arith) }

step : (kind : PduKind) (first : ℕ) (octets : List ℕ) (position : ℕ) (option : Parameter) (after : List ℕ)
    → Reads kind first octets position → Some (option, after) ≡ front_parameter (drop position octets)
    → option_reason kind (parameters_in (take position octets)) option ≡ None → Reads kind first octets (position + (length option.value + 2))
step kind first octets position option after reads found fine =
    let before : List Parameter = parameters_in (take position octets) in
    let now : List Parameter = before ++ option ∷ [] in
    let next : ℕ = position + (length option.value + 2) in
    let front = stands_first (drop position octets) option after found in
    let whole : octets ≡ spelled now ++ after =
    sym (take-append-drop position octets)
    ∙ ap (λ (xs : List ℕ). take position octets ++ xs) front.parts
    ∙ ap (λ (xs : List ℕ). xs ++ (spelled_one option ++ after)) reads.spelling
    ∙ sym (append_assoc (spelled before) (spelled_one option) after)
    ∙ ap (λ (xs : List ℕ). xs ++ after) (sym (spelled_one_more before option)) in
    let read_len : length (spelled before) ≡ position = sym (ap length reads.spelling) ∙ length-take-le position octets reads.within in
    let len : length (spelled now) ≡ next = ap length (spelled_one_more before option) ∙ length-append (spelled before) (spelled_one option) ∙ omega (arith, read_len) in
    let taken : take next octets ≡ spelled now = ap (take next) whole ∙ take_at (spelled now) after next len in
    let dropped : drop next octets ≡ after = ap (drop next) whole ∙ drop_at (spelled now) after next len in
    let options : parameters_in (take next octets) ≡ now = ap parameters_in taken ∙ spelled_again now in
    record {
      within = omega (arith, ap length whole, length-append (spelled now) after, len);
      spelling = taken ∙ ap spelled (sym options);
      left =
          ap (λ (xs : List Parameter). fault_after kind (first + next) xs (drop next octets)) options
          ∙ ap (fault_after kind (first + next) now) dropped
          ∙ ap (λ (n : ℕ). fault_after kind n now after) (omega arith)
          ∙ sym (fault_step kind (first + position) before (drop position octets) option after found fine)
          ∙ reads.left;
    }

step_unless : (kind : PduKind) (first : ℕ) (octets : List ℕ) (position next : ℕ) (option : Parameter) (after : List ℕ) (reason : Option Reason)
    → Reads kind first octets position → Some (option, after) ≡ front_parameter (drop position octets)
    → reason ≡ option_reason kind (parameters_in (take position octets)) option → Ok next ≡ position_unless (position + (length option.value + 2)) reason
    → Reads kind first octets next
step_unless kind first octets position next option after (Some reason) reads found same went = absurd cc
step_unless kind first octets position next option after None reads found same went =
    let there : position + (length option.value + 2) ≡ next = cc in
    subst (Reads kind first octets) there (step kind first octets position option after reads found (sym same))

step_from : (kind : PduKind) (first : ℕ) (octets : List ℕ) (position next : ℕ) (found : Option (Parameter × List ℕ))
    → Reads kind first octets position → found ≡ front_parameter (drop position octets)
    → Ok next ≡ position_after kind position (parameters_in (take position octets)) found → Reads kind first octets next
step_from kind first octets position next None reads same went = absurd cc
step_from kind first octets position next (Some found) reads same went =
    step_unless kind first octets position next found.0 found.1 (option_reason kind (parameters_in (take position octets)) found.0) reads same refl went

pub went_on : (kind : PduKind) (first : ℕ) (octets : List ℕ) (position next : ℕ) → Reads kind first octets position
    → Ok next ≡ position_after kind position (parameters_in (take position octets)) (front_parameter (drop position octets)) → Reads kind first octets next
went_on kind first octets position next reads went = step_from kind first octets position next (front_parameter (drop position octets)) reads refl went

-- ---- the fault at a step

pub reason_first : (kind : PduKind) (place : ℕ) (before : List Parameter) (rest : List ℕ) (option : Parameter) (after : List ℕ) (reason : Reason)
    → Some (option, after) ≡ front_parameter rest → option_reason kind before option ≡ Some reason → fault_after kind place before rest ≡ Some (fault_at place reason)
unfolding fault_after each_fault
reason_first kind place before rest option after reason found bad = rw (in_front_some rest option after found, bad) refl

pub cut_first : (kind : PduKind) (place : ℕ) (before : List Parameter) (rest : List ℕ) → None ≡ front_parameter rest → 0 < length rest
    → fault_after kind place before rest ≡ Some (fault_at place HeaderSyntax)
unfolding fault_after each_fault
cut_first kind place before rest found some =
    let test : nat_lt 0 (length rest) ≡ true = lt-ltb 0 (length rest) some in
    rw (in_front_none rest found, test) (ap (λ (n : ℕ). Some (fault_at n HeaderSyntax)) (omega arith))

wrong_unless : (kind : PduKind) (place : ℕ) (before : List Parameter) (rest : List ℕ) (option : Parameter) (after : List ℕ) (position : ℕ) (reason : Reason) (why : Option Reason)
    → Some (option, after) ≡ front_parameter rest → why ≡ option_reason kind before option → Err reason ≡ position_unless position why
    → fault_after kind place before rest ≡ Some (fault_at place reason)
wrong_unless kind place before rest option after position reason None found same went = absurd cc
wrong_unless kind place before rest option after position reason (Some why) found same went =
    let is : why ≡ reason = cc in
    reason_first kind place before rest option after reason found (sym same ∙ ap (λ (r : Reason). Some r) is)

wrong_from : (kind : PduKind) (place : ℕ) (before : List Parameter) (rest : List ℕ) (position : ℕ) (reason : Reason) (found : Option (Parameter × List ℕ))
    → found ≡ front_parameter rest → 0 < length rest → Err reason ≡ position_after kind position before found
    → fault_after kind place before rest ≡ Some (fault_at place reason)
wrong_from kind place before rest position reason None same some went =
    let is : HeaderSyntax ≡ reason = cc in
    cut_first kind place before rest same some ∙ ap (λ (r : Reason). Some (fault_at place r)) is
wrong_from kind place before rest position reason (Some found) same some went =
    wrong_unless kind place before rest found.0 found.1 (position + (length found.0.value + 2)) reason (option_reason kind before found.0) same refl went

pub went_wrong : (kind : PduKind) (first : ℕ) (octets : List ℕ) (position : ℕ) (reason : Reason) → Reads kind first octets position → position < length octets
    → Err reason ≡ position_after kind position (parameters_in (take position octets)) (front_parameter (drop position octets))
    → walked_fault kind first octets ≡ Some (fault_at (first + position) reason)
went_wrong kind first octets position reason reads lt went =
    sym reads.left
    ∙ wrong_from kind (first + position) (parameters_in (take position octets)) (drop position octets) position reason (front_parameter (drop position octets)) refl (omega (arith, length-drop position octets)) went

-- ---- the end

pub at_end : (kind : PduKind) (first : ℕ) (octets : List ℕ) (position : ℕ) → Reads kind first octets position → length octets ≤ position
    → walked_fault kind first octets ≡ missing_fault kind (parameters_in octets)
unfolding fault_after each_fault parameters_after
at_end kind first octets position reads le =
    let nothing : drop position octets ≡ [] = drop_all position octets le in
    let all : take position octets ≡ octets = take_all position octets le in
    let here : fault_after kind (first + position) (parameters_in octets) [] ≡ missing_fault kind (parameters_in octets) = ap (missing_fault kind) (append-nil (parameters_in octets)) in
    sym reads.left
    ∙ ap (fault_after kind (first + position) (parameters_in (take position octets))) nothing
    ∙ ap (λ (xs : List ℕ). fault_after kind (first + position) (parameters_in xs) []) all
    ∙ here

missing_test : (there : Bool) (fault : Fault) → is_some (cond there None (Some fault)) ≡ true → cond there None (Some fault) ≡ Some fault
missing_test true fault missing = absurd cc
missing_test false fault missing = refl

present_test : (there : Bool) (fault : Fault) → is_some (cond there None (Some fault)) ≡ false → cond there None (Some fault) ≡ None
present_test true fault present = refl
present_test false fault present = absurd cc

pub missing_is : (kind : PduKind) (options : List Parameter) → is_some (missing_fault kind options) ≡ true → missing_fault kind options ≡ Some (fault_at 0 HeaderSyntax)
missing_is Dt options missing = absurd cc
missing_is Er options missing = missing_test (has 0xc1 options) (fault_at 0 HeaderSyntax) missing

pub present_is : (kind : PduKind) (options : List Parameter) → is_some (missing_fault kind options) ≡ false → missing_fault kind options ≡ None
present_is Dt options present = refl
present_is Er options present = present_test (has 0xc1 options) (fault_at 0 HeaderSyntax) present
