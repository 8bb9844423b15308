-- No fault exactly where the octets are options, and one list of options for one list of octets.
use Rattle.std.proofs.Common.{◌≡◌, ℕ, zero, suc, ◌+◌, ◌<◌, ◌≤◌, ◌&&◌, not, cond, eqb, Bool, true, false, List, [], ◌∷◌, ◌++◌, length, take, drop, get_or, Option, Some, None, Result, Ok, Err, refl, sym, ap, ◌∙◌, subst, arith, inl, inr, ◌⊎◌, option_map}
use Rattle.std.specs.Prelude.{nat_lt, IfOk, IfErr, IsOkAnd}
use Rattle.std.proofs.lemmas.Option.{none-some}
use Rattle.clnp_options.proofs.Tables.{walk_agrees}
use Rattle.std.proofs.lemmas.Bool.{le-ltb, ltb-false, eqb-true, eq-eqb, cases_Bool}
use Rattle.std.proofs.lemmas.List.{append_assoc, append-nil, length-append, take-append-drop, drop_more, get_or_at, nil_from_length}
use Rattle.clnp_options.specs.declared.reason.Fault.{Fault}
use Rattle.clnp_options.specs.declared.reason.Reason.{Reason}
use Rattle.clnp_options.specs.declared.reason.PduKind.{PduKind}
use Rattle.clnp_options.specs.declared.reason.PduKind.TheVariants.{Dt, Er}
use Rattle.clnp_options.specs.declared.reason.Reason.TheVariants.{HeaderSyntax, DuplicateOption}
use Rattle.clnp_options.specs.declared.option.OptionsRef.{OptionsRef}
use Rattle.clnp_options.specs.Options.{listed, has}
use Rattle.pdu_parts.specs.Parameter.{Parameter, spelled_one, spelled, front_parameter, parameters_in}
use Rattle.clnp_options.specs.Grammar.{IsKnown, IsOptions}
use Rattle.clnp_options.specs.Faults.{IsOptionsFault, first_fault, fault_at, is_repeated, value_step, IsFirstFault}
use Rattle.pdu_parts.specs.FirstFault.{or_else}
use Rattle.clnp_options.specs.steps.Walking.{Answers, option_reason, each_fault, cut_fault, missing_fault, fault_after, walked_fault}
use Rattle.pdu_parts.proofs.Parameters.{stands_first, in_front_some, in_front_none}
use Rattle.clnp_options.proofs.Steps.{spelled_again}
use Rattle.clnp_options.proofs.Values.{known_from, known_again}

-- ---- one option after others

-- what an option after others must be
pub record IsFine (kind : PduKind) (before : List Parameter) (option : Parameter) : Type 0 where
  pub once : has option.code before ≡ true → option.code ≡ 0xcc
  pub known : IsKnown kind option

repeat_test : (repeated : Bool) (other : Option Reason) → cond repeated (Some DuplicateOption) other ≡ None → (repeated ≡ false) × (other ≡ None)
repeat_test true other none = absurd cc
repeat_test false other none = (refl, none)

pub once_test : (padding there : Bool) → (not padding && there) ≡ false → there ≡ true → padding ≡ true
once_test true there single stood = refl
once_test false there single stood = absurd cc

pub once_again : (padding there : Bool) → (there ≡ true → padding ≡ true) → (not padding && there) ≡ false
once_again true there once = refl
once_again false true once = absurd (let e : false ≡ true = once refl in cc)
once_again false false once = refl

pub fine_from : (kind : PduKind) (before : List Parameter) (option : Parameter) → option_reason kind before option ≡ None → IsFine kind before option
unfolding option_reason
fine_from kind before option none =
    let both = repeat_test (is_repeated before option.code) (value_step kind option) none in
    record {
      once = λ stood. eqb-true option.code 0xcc (once_test (eqb option.code 0xcc) (has option.code before) both.0 stood);
      known = known_from kind option both.1;
    }

pub fine_again : (kind : PduKind) (before : List Parameter) (option : Parameter) → IsFine kind before option → option_reason kind before option ≡ None
unfolding option_reason
fine_again kind before option fine =
    let single : is_repeated before option.code ≡ false =
    once_again (eqb option.code 0xcc) (has option.code before) (λ stood. eq-eqb option.code 0xcc (fine.once stood)) in
    rw single (known_again kind option fine.known)

-- ---- each option

first_none : (fault later : Option Fault) → or_else fault later ≡ None → (fault ≡ None) × (later ≡ None)
first_none None later none = (refl, none)
first_none (Some fault) later none = absurd cc

unmapped : (place : ℕ) (reason : Option Reason) → option_map (fault_at place) reason ≡ None → reason ≡ None
unmapped place None none = refl
unmapped place (Some reason) none = absurd cc

each_at : (kind : PduKind) (place : ℕ) (before options front after : List Parameter) (option : Parameter) → each_fault kind place before options ≡ None
    → options ≡ front ++ option ∷ after → option_reason kind (before ++ front) option ≡ None
unfolding each_fault
each_at kind place before options [] after option none same =
    let here : each_fault kind place before (option ∷ after) ≡ None = ap (each_fault kind place before) (sym same) ∙ none in
    let both = first_none (option_map (fault_at place) (option_reason kind before option)) _ here in
    ap (λ (xs : List Parameter). option_reason kind xs option) (append-nil before) ∙ unmapped place (option_reason kind before option) both.0
each_at kind place before options (x ∷ front) after option none same =
    let here : each_fault kind place before (x ∷ (front ++ option ∷ after)) ≡ None = ap (each_fault kind place before) (sym same) ∙ none in
    let both = first_none (option_map (fault_at place) (option_reason kind before x)) _ here in
    ap (λ (xs : List Parameter). option_reason kind xs option) (sym (append_assoc before (x ∷ []) front))
    ∙ each_at kind (place + (length x.value + 2)) (before ++ x ∷ []) (front ++ option ∷ after) front after option both.1 refl

each_again : (kind : PduKind) (place : ℕ) (before options : List Parameter)
    → ((front after : List Parameter) (option : Parameter) → options ≡ front ++ option ∷ after → option_reason kind (before ++ front) option ≡ None)
    → each_fault kind place before options ≡ None
unfolding each_fault
each_again kind place before [] fine = refl
each_again kind place before (x ∷ options) fine =
    let here : option_reason kind before x ≡ None = ap (λ (xs : List Parameter). option_reason kind xs x) (sym (append-nil before)) ∙ fine [] options x refl in
    let later : each_fault kind (place + (length x.value + 2)) (before ++ x ∷ []) options ≡ None =
    each_again kind (place + (length x.value + 2)) (before ++ x ∷ []) options
    (λ front after option same.
    ap (λ (xs : List Parameter). option_reason kind xs option) (append_assoc before (x ∷ []) front)
    ∙ fine (x ∷ front) after option (ap (λ (xs : List Parameter). x ∷ xs) same)) in
    rw here later

-- ---- what is left behind the options

spelled_from : (octets : List ℕ) (found : Option (Parameter × List ℕ)) → found ≡ front_parameter octets
    → ((after : List ℕ) → length after < length octets → (rest : List ℕ) × (after ≡ spelled (parameters_in after) ++ rest))
    → (rest : List ℕ) × (octets ≡ spelled (parameters_in octets) ++ rest)
spelled_from octets None same shorter = (octets, ap (λ (xs : List Parameter). spelled xs ++ octets) (sym (in_front_none octets same)))
spelled_from octets (Some found) same shorter =
    let front = stands_first octets found.0 found.1 same in
    let later = shorter found.1 (omega (arith, front.lengths)) in (
      later.0,
      front.parts
          ∙ ap (λ (xs : List ℕ). spelled_one found.0 ++ xs) later.1
          ∙ sym (append_assoc (spelled_one found.0) (spelled (parameters_in found.1)) later.0)
          ∙ ap (λ (xs : List Parameter). spelled xs ++ later.0) (sym (in_front_some octets found.0 found.1 same)),
    )

spelled_within : (n : ℕ) (octets : List ℕ) → length octets ≤ n → (rest : List ℕ) × (octets ≡ spelled (parameters_in octets) ++ rest)
spelled_within zero octets le =
    spelled_from octets (front_parameter octets) refl (λ after lt. absurd (omega arith))
spelled_within (suc n) octets le = spelled_from octets (front_parameter octets) refl (λ after lt. spelled_within n after (omega arith))

cut_none : (place : ℕ) (octets : List ℕ) (options : List Parameter) → cut_fault place octets options ≡ None → length octets ≤ length (spelled options)
cut_none place octets options none =
    elim (cases_Bool (nat_lt (length (spelled options)) (length octets))) [
      | inl cut ↦ absurd (let e : cut_fault place octets options ≡ Some (fault_at (place + length (spelled options)) HeaderSyntax) = rw cut refl in cc)
      | inr whole ↦ ltb-false (length (spelled options)) (length octets) whole
    ]

whole_spelled : (place : ℕ) (octets : List ℕ) → cut_fault place octets (parameters_in octets) ≡ None → octets ≡ spelled (parameters_in octets)
whole_spelled place octets none =
    let found = spelled_within (length octets) octets (omega arith) in
    let le = cut_none place octets (parameters_in octets) none in
    let nothing : found.0 ≡ [] = nil_from_length found.0 (omega (arith, ap length found.1, length-append (spelled (parameters_in octets)) found.0)) in
    found.1 ∙ ap (λ (xs : List ℕ). spelled (parameters_in octets) ++ xs) nothing ∙ append-nil (spelled (parameters_in octets))

-- ---- the reason of an error report

there_from : (there : Bool) (fault : Fault) → cond there None (Some fault) ≡ None → there ≡ true
there_from true fault none = refl
there_from false fault none = absurd cc

pub reason_from : (kind : PduKind) (options : List Parameter) → missing_fault kind options ≡ None → kind ≡ Er → has 0xc1 options ≡ true
reason_from Dt options none is = absurd cc
reason_from Er options none is = there_from (has 0xc1 options) (fault_at 0 HeaderSyntax) none

pub reason_again : (kind : PduKind) (options : List Parameter) → (kind ≡ Er → has 0xc1 options ≡ true) → missing_fault kind options ≡ None
reason_again Dt options reason = refl
reason_again Er options reason = rw (reason refl) refl

-- ---- the laws

-- a list is what stands before an index, the element there, and what stands after it
pub parted : (options : List Parameter) (k : ℕ) (d : Parameter) → k < length options → options ≡ take k options ++ get_or options k d ∷ drop (k + 1) options
parted options k d lt = sym (take-append-drop k options) ∙ ap (λ (xs : List Parameter). take k options ++ xs) (drop_more options k d lt)

pub options_from_none : (kind : PduKind) (first : ℕ) (octets : List ℕ) → walked_fault kind first octets ≡ None → IsOptions kind octets (parameters_in octets)
unfolding fault_after
options_from_none kind first octets none =
    let options = parameters_in octets in
    let each = first_none (each_fault kind first [] options) _ none in
    let rest = first_none (cut_fault first octets options) _ each.1 in
    let fine : (before after : List Parameter) (option : Parameter) → options ≡ before ++ option ∷ after → IsFine kind before option =
    λ before after option same. fine_from kind before option (each_at kind first [] options before after option each.0 same) in
    record {
      parts = whole_spelled first octets rest.0;
      allowed = record {
        known = λ k d lt. (fine (take k options) (drop (k + 1) options) (get_or options k d) (parted options k d lt)).known;
        once = λ before after option same stood. (fine before after option same).once stood;
        reason = reason_from kind options rest.1;
      };
    }

pub options_are : (kind : PduKind) (octets : List ℕ) (options : List Parameter) → IsOptions kind octets options → parameters_in octets ≡ options
options_are kind octets options is = ap parameters_in is.parts ∙ spelled_again options

none_spelled : (kind : PduKind) (first : ℕ) (octets : List ℕ) → octets ≡ spelled (parameters_in octets) → IsOptions kind octets (parameters_in octets) → walked_fault kind first octets ≡ None
unfolding fault_after
none_spelled kind first octets whole is =
    let options = parameters_in octets in
    let each : each_fault kind first [] options ≡ None =
    each_again kind first [] options
    (λ front after option same. fine_again kind front option (record {
      once = λ stood. is.allowed.once front after option same stood;
      known = subst (IsKnown kind) (ap (λ (xs : List Parameter). get_or xs (length front) option) same ∙ get_or_at front option after option (length front) refl)
          (is.allowed.known (length front) option (omega (arith, ap length same, length-append front (option ∷ after))));
    })) in
    let uncut : nat_lt (length (spelled options)) (length octets) ≡ false = le-ltb (length (spelled options)) (length octets) (omega (arith, ap length whole)) in
    rw (each, uncut) (reason_again kind options is.allowed.reason)

pub none_from_options : (kind : PduKind) (first : ℕ) (octets : List ℕ) (options : List Parameter) → IsOptions kind octets options → walked_fault kind first octets ≡ None
none_from_options kind first octets options is =
    let same : options ≡ parameters_in octets = sym (options_are kind octets options is) in
    let here : IsOptions kind octets (parameters_in octets) = subst (IsOptions kind octets) same is in
    none_spelled kind first octets here.parts here

pub one_list_is : (kind : PduKind) (octets : List ℕ) (one other : List Parameter) → IsOptions kind octets one → IsOptions kind octets other → one ≡ other
one_list_is kind octets one other is also = sym (options_are kind octets one is) ∙ options_are kind octets other also

-- ---- the reader's two directions

pub ok_from : (kind : PduKind) (first : ℕ) (octets : List ℕ) (result : Result OptionsRef Fault) → Answers kind first octets result
    → IfOk result (λ options. IsOptions kind octets (listed options))
ok_from kind first octets (Ok options) answers =
    subst (IsOptions kind octets) (ap parameters_in (sym answers.0)) (options_from_none kind first octets answers.1)
ok_from kind first octets (Err fault) answers = tt

pub only_from : (kind : PduKind) (first : ℕ) (octets : List ℕ) (result : Result OptionsRef Fault) (options : List Parameter) → Answers kind first octets result
    → IsOptions kind octets options → IsOkAnd result (λ found. listed found ≡ options)
only_from kind first octets (Ok found) options answers is = ap parameters_in answers.0 ∙ options_are kind octets options is
only_from kind first octets (Err fault) options answers is =
    absurd (let none : walked_fault kind first octets ≡ None = none_from_options kind first octets options is in let some : walked_fault kind first octets ≡ Some fault = answers in cc)

pub fault_from : (kind : PduKind) (first : ℕ) (octets : List ℕ) (result : Result OptionsRef Fault) → Answers kind first octets result
    → IfErr result (λ fault. IsOptionsFault kind first octets fault)
fault_from kind first octets (Ok options) answers = tt
fault_from kind first octets (Err fault) answers = walk_agrees kind first octets ∙ answers

pub first_of : (kind : PduKind) (first : ℕ) (octets : List ℕ) (result : Result OptionsRef Fault) → Answers kind first octets result
    → ((fault : Fault) → walked_fault kind first octets ≡ Some fault → IsFirstFault kind first octets fault) → IfErr result (λ fault. IsFirstFault kind first octets fault)
first_of kind first octets (Ok options) answers law = tt
first_of kind first octets (Err fault) answers law = law fault answers

-- ---- options and faults

pub none_first : (kind : PduKind) (first : ℕ) (octets : List ℕ) (options : List Parameter) → IsOptions kind octets options → first_fault kind first octets ≡ None
none_first kind first octets options is = walk_agrees kind first octets ∙ none_from_options kind first octets options is

pub options_first : (kind : PduKind) (first : ℕ) (octets : List ℕ) → first_fault kind first octets ≡ None → IsOptions kind octets (parameters_in octets)
options_first kind first octets none = options_from_none kind first octets (sym (walk_agrees kind first octets) ∙ none)

pub lists_apart : (kind : PduKind) (first : ℕ) (octets : List ℕ) (options : List Parameter) (fault : Fault) → IsOptions kind octets options → IsOptionsFault kind first octets fault → ⊥
lists_apart kind first octets options fault is why = none-some fault (sym (none_first kind first octets options is) ∙ why)

list_or : (kind : PduKind) (first : ℕ) (octets : List ℕ) (fault : Option Fault) → first_fault kind first octets ≡ fault
    → ((options : List Parameter) × IsOptions kind octets options) ⊎ ((fault : Fault) × IsOptionsFault kind first octets fault)
list_or kind first octets None none = inl (parameters_in octets, options_first kind first octets none)
list_or kind first octets (Some fault) why = inr (fault, why)

pub list_or_fault : (kind : PduKind) (first : ℕ) (octets : List ℕ)
    → ((options : List Parameter) × IsOptions kind octets options) ⊎ ((fault : Fault) × IsOptionsFault kind first octets fault)
list_or_fault kind first octets = list_or kind first octets (first_fault kind first octets) refl
