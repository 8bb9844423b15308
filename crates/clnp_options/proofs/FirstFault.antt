-- The first fault is that of what stands behind options without one: such options can be stepped over, and a fault is that of an option after others.
use Rattle.std.proofs.Common.{◌≡◌, ℕ, zero, suc, ◌+◌, ◌<◌, ◌≤◌, not, cond, eqb, Bool, true, false, List, [], ◌∷◌, ◌++◌, length, take, drop, get_or, Option, Some, None, refl, sym, ap, ◌∙◌, subst, arith, All, inl, inr}
use Rattle.std.proofs.lemmas.Bool.{eqb-true, eqb-false, eq-eqb, ne_eqb, cases_Bool, and_parts, not-true}
use Rattle.std.proofs.lemmas.List.{append_assoc, append-nil, length-append, get_or_at}
use Rattle.std.proofs.lemmas.Option.{same_Some, none-some}
use Rattle.clnp_options.specs.declared.reason.Fault.{Fault}
use Rattle.clnp_options.specs.declared.reason.Reason.{Reason}
use Rattle.clnp_options.specs.declared.reason.PduKind.{PduKind}
use Rattle.clnp_options.specs.declared.reason.PduKind.TheVariants.{Dt, Er}
use Rattle.clnp_options.specs.declared.reason.Reason.TheVariants.{HeaderSyntax, DuplicateOption}
use Rattle.pdu_parts.specs.Parameter.{Parameter, spelled_one, spelled, front_parameter, parameters_after}
use Rattle.clnp_options.specs.Grammar.{IsKnown, IsOnce}
use Rattle.clnp_options.specs.Options.{has}
use Rattle.clnp_options.specs.Faults.{fault_at, is_repeated, value_step, IsFaultAfter, Unfit, Twice, Unknown, Missing, IsFirstFault}
use Rattle.clnp_options.specs.steps.Walking.{option_reason, each_fault, missing_fault, fault_after, walked_fault}
use Rattle.pdu_parts.proofs.Parameters.{stands_first, front_again}
use Rattle.clnp_options.proofs.Steps.{fault_step, reason_first, cut_first}
use Rattle.clnp_options.proofs.Allowing.{IsFine, fine_from, fine_again, once_test, once_again, parted}

-- each of the options is fine after the others and those before it
abbrev AreFine : PduKind → List Parameter → List Parameter → Type 0
AreFine kind others options =
    (front after : List Parameter) (option : Parameter) → options ≡ front ++ option ∷ after → option_reason kind (others ++ front) option ≡ None

fine_head : (kind : PduKind) (others : List Parameter) (option : Parameter) (options : List Parameter) → AreFine kind others (option ∷ options) → option_reason kind others option ≡ None
fine_head kind others option options fine =
    ap (λ (xs : List Parameter). option_reason kind xs option) (sym (append-nil others)) ∙ fine [] options option refl

fine_tail : (kind : PduKind) (others : List Parameter) (x : Parameter) (options : List Parameter) → AreFine kind others (x ∷ options) → AreFine kind (others ++ x ∷ []) options
fine_tail kind others x options fine front after option same =
    ap (λ (xs : List Parameter). option_reason kind xs option) (append_assoc others (x ∷ []) front)
    ∙ fine (x ∷ front) after option (ap (λ (xs : List Parameter). x ∷ xs) same)

walks : (kind : PduKind) (place : ℕ) (others options : List Parameter) (rest : List ℕ) → AreFine kind others options
    → fault_after kind place others (spelled options ++ rest) ≡ fault_after kind (place + length (spelled options)) (others ++ options) rest
walks kind place others [] rest fine =
    ap (λ (n : ℕ). fault_after kind n others rest) (omega arith)
    ∙ ap (λ (xs : List Parameter). fault_after kind (place + 0) xs rest) (sym (append-nil others))
walks kind place others (option ∷ options) rest fine =
    let count : ℕ = length option.value + 2 in
    let after : List ℕ = spelled options ++ rest in
    let regrouped : spelled (option ∷ options) ++ rest ≡ spelled_one option ++ after = append_assoc (spelled_one option) (spelled options) rest in
    ap (fault_after kind place others) regrouped
    ∙ fault_step kind place others (spelled_one option ++ after) option after (sym (front_again option after)) (fine_head kind others option options fine)
    ∙ walks kind (place + count) (others ++ option ∷ []) options rest (fine_tail kind others option options fine)
    ∙ ap (λ (n : ℕ). fault_after kind n ((others ++ option ∷ []) ++ options) rest) (omega (arith, length-append option.value (spelled options)))
    ∙ ap (λ (xs : List Parameter). fault_after kind (place + length (spelled (option ∷ options))) xs rest) (append_assoc others (option ∷ []) options)

-- ---- the fault of what stands after options

twice_reason : (kind : PduKind) (before : List Parameter) (option : Parameter) → has option.code before ≡ true → (option.code ≡ 0xcc → ⊥) → option_reason kind before option ≡ Some DuplicateOption
unfolding option_reason
twice_reason kind before option stood other = rw (ne_eqb option.code 0xcc other, stood) refl

value_only : (kind : PduKind) (before : List Parameter) (option : Parameter) → (has option.code before ≡ true → option.code ≡ 0xcc) → option_reason kind before option ≡ value_step kind option
unfolding option_reason
value_only kind before option once =
    rw (once_again (eqb option.code 0xcc) (has option.code before) (λ stood. eq-eqb option.code 0xcc (once stood))) refl

unfit_none : (rest : List ℕ) (found : Option (Parameter × List ℕ)) → found ≡ front_parameter rest → ((option : Parameter) (after : List ℕ) → rest ≡ spelled_one option ++ after → ⊥) → None ≡ front_parameter rest
unfit_none rest None same unfit = same
unfit_none rest (Some found) same unfit = absurd (unfit found.0 found.1 (stands_first rest found.0 found.1 same).parts)

missing_none : (kind : PduKind) (before : List Parameter) → kind ≡ Er → has 0xc1 before ≡ false → missing_fault kind before ≡ Some (fault_at 0 HeaderSyntax)
missing_none Dt before is none = absurd cc
missing_none Er before is none = rw none refl

-- with nothing left, only the reason of an error report can be missing
nothing_left : (kind : PduKind) (place : ℕ) (before : List Parameter) → fault_after kind place before [] ≡ missing_fault kind before
unfolding fault_after each_fault parameters_after
nothing_left kind place before = ap (missing_fault kind) (append-nil before)

fails_some : (kind : PduKind) (place : ℕ) (before : List Parameter) (rest : List ℕ) (fault : Fault) → IsFaultAfter kind place before rest fault → fault_after kind place before rest ≡ Some fault
fails_some kind place before rest fault (Unfit some unfit is) =
    cut_first kind place before rest (unfit_none rest (front_parameter rest) refl unfit) some ∙ ap (λ (f : Fault). Some f) (sym is)
fails_some kind place before rest fault (Twice option after parts stood other is) =
    ap (fault_after kind place before) parts
    ∙ reason_first kind place before (spelled_one option ++ after) option after DuplicateOption (sym (front_again option after)) (twice_reason kind before option stood other)
    ∙ ap (λ (f : Fault). Some f) (sym is)
fails_some kind place before rest fault (Unknown option after reason parts once why is) =
    ap (fault_after kind place before) parts
    ∙ reason_first kind place before (spelled_one option ++ after) option after reason (sym (front_again option after)) (value_only kind before option once ∙ why)
    ∙ ap (λ (f : Fault). Some f) (sym is)
fails_some kind place before rest fault (Missing nothing er none is) =
    ap (fault_after kind place before) nothing ∙ nothing_left kind place before ∙ missing_none kind before er none ∙ ap (λ (f : Fault). Some f) (sym is)

fine_from_parts : (kind : PduKind) (before : List Parameter) → All (IsKnown kind) before → IsOnce before → AreFine kind [] before
fine_from_parts kind before known once front after option same =
    fine_again kind front option (record {
      once = λ stood. once front after option same stood;
      known = subst (IsKnown kind) (ap (λ (xs : List Parameter). get_or xs (length front) option) same ∙ get_or_at front option after option (length front) refl)
          (known (length front) option (omega (arith, ap length same, length-append front (option ∷ after))));
    })

pub fault_from_first : (kind : PduKind) (first : ℕ) (octets : List ℕ) (fault : Fault) → IsFirstFault kind first octets fault → walked_fault kind first octets ≡ Some fault
fault_from_first kind first octets fault is =
    ap (walked_fault kind first) is.parts
    ∙ walks kind first [] is.before is.rest (fine_from_parts kind is.before is.known is.once)
    ∙ fails_some kind (first + length (spelled is.before)) is.before is.rest fault is.fails

-- ---- and each fault is such a fault

-- options without a fault, and then what stands after them
abbrev Front : PduKind → ℕ → List Parameter → List ℕ → Fault → Type 0
Front kind place others octets fault =
    (options : List Parameter) × (rest : List ℕ) × (octets ≡ spelled options ++ rest) × AreFine kind others options
    × IsFaultAfter kind (place + length (spelled options)) (others ++ options) rest fault

at_once : (kind : PduKind) (place : ℕ) (others : List Parameter) (octets : List ℕ) (fault : Fault) → IsFaultAfter kind place others octets fault → Front kind place others octets fault
at_once kind place others octets fault fails = (
  [],
  octets,
  refl,
  λ front after option same. absurd (omega (arith, ap length same, length-append front (option ∷ after))),
  subst (λ (n : ℕ). IsFaultAfter kind n (others ++ []) octets fault) (let e : place ≡ place + 0 = omega arith in e)
      (subst (λ (xs : List Parameter). IsFaultAfter kind place xs octets fault) (sym (append-nil others)) fails),
)

fine_cons : (kind : PduKind) (others : List Parameter) (x : Parameter) (options : List Parameter) → option_reason kind others x ≡ None → AreFine kind (others ++ x ∷ []) options → AreFine kind others (x ∷ options)
fine_cons kind others x options here fine [] after option same =
    let is : option ≡ x = cc in
    ap (λ (xs : List Parameter). option_reason kind xs option) (append-nil others) ∙ ap (option_reason kind others) is ∙ here
fine_cons kind others x options here fine (y ∷ front) after option same =
    let is : y ≡ x = cc in
    let rest : options ≡ front ++ option ∷ after = cc in
    ap (λ (xs : List Parameter). option_reason kind xs option) (ap (λ (z : Parameter). others ++ z ∷ front) is ∙ sym (append_assoc others (x ∷ []) front))
    ∙ fine front after option rest

one_later : (kind : PduKind) (place : ℕ) (others : List Parameter) (octets : List ℕ) (option : Parameter) (after : List ℕ) (fault : Fault) → octets ≡ spelled_one option ++ after
    → option_reason kind others option ≡ None → Front kind (place + (length option.value + 2)) (others ++ option ∷ []) after fault → Front kind place others octets fault
one_later kind place others octets option after fault parts here front = (
  option ∷ front.0,
  front.1,
  parts ∙ ap (λ (xs : List ℕ). spelled_one option ++ xs) front.2 ∙ sym (append_assoc (spelled_one option) (spelled front.0) front.1),
  fine_cons kind others option front.0 here front.3,
  subst (λ (n : ℕ). IsFaultAfter kind n (others ++ option ∷ front.0) front.1 fault)
      (let e : (place + (length option.value + 2)) + length (spelled front.0) ≡ place + length (spelled (option ∷ front.0)) = omega (arith, length-append option.value (spelled front.0)) in e)
      (subst (λ (xs : List Parameter). IsFaultAfter kind ((place + (length option.value + 2)) + length (spelled front.0)) xs front.1 fault) (append_assoc others (option ∷ []) front.0) front.4),
)

reason_fails : (kind : PduKind) (place : ℕ) (before : List Parameter) (rest : List ℕ) (option : Parameter) (after : List ℕ) (reason : Reason) → rest ≡ spelled_one option ++ after
    → (repeated : Bool) → repeated ≡ is_repeated before option.code → cond repeated (Some DuplicateOption) (value_step kind option) ≡ Some reason
    → IsFaultAfter kind place before rest (fault_at place reason)
reason_fails kind place before rest option after reason parts true same why =
    let both = and_parts (not (eqb option.code 0xcc)) (has option.code before) (sym same) in
    let is : DuplicateOption ≡ reason = cc in
    Twice option after parts both.1 (eqb-false option.code 0xcc (not-true (eqb option.code 0xcc) both.0)) (ap (fault_at place) (sym is))
reason_fails kind place before rest option after reason parts false same why =
    Unknown option after reason parts (λ stood. eqb-true option.code 0xcc (once_test (eqb option.code 0xcc) (has option.code before) (sym same) stood)) why refl

-- the fault of an option after others
option_fails : (kind : PduKind) (place : ℕ) (before : List Parameter) (rest : List ℕ) (option : Parameter) (after : List ℕ) (reason : Reason) → rest ≡ spelled_one option ++ after
    → option_reason kind before option ≡ Some reason → IsFaultAfter kind place before rest (fault_at place reason)
unfolding option_reason
option_fails kind place before rest option after reason parts why =
    reason_fails kind place before rest option after reason parts (is_repeated before option.code) refl why

same_fault : (one other : Fault) → ◌≡◌ {A = Option Fault} (Some one) (Some other) → one ≡ other
same_fault one other same = same_Some one other same

missing_fails : (kind : PduKind) (place : ℕ) (before : List Parameter) (fault : Fault) → missing_fault kind before ≡ Some fault → IsFaultAfter kind place before [] fault
missing_fails Dt place before fault why = absurd cc
missing_fails Er place before fault why =
    elim (cases_Bool (has 0xc1 before)) as (λ _. IsFaultAfter Er place before [] fault) [
      | inl there ↦ absurd (let none : missing_fault Er before ≡ None = rw there refl in cc)
      | inr none ↦ Missing refl refl none (same_fault fault (fault_at 0 HeaderSyntax) (sym why ∙ missing_none Er before refl none))
    ]

unfit_fails : (kind : PduKind) (place : ℕ) (before : List Parameter) (octets : List ℕ) (fault : Fault) → None ≡ front_parameter octets
    → fault_after kind place before octets ≡ Some fault → IsFaultAfter kind place before octets fault
unfit_fails kind place before [] fault none why = missing_fails kind place before fault (sym (nothing_left kind place before) ∙ why)
unfit_fails kind place before (octet ∷ octets) fault none why =
    Unfit (omega arith)
    (λ option after parts. absurd (let some : None ≡ Some (option, after) = none ∙ ap front_parameter parts ∙ front_again option after in none-some (option, after) some))
    (same_fault fault (fault_at place HeaderSyntax) (sym why ∙ cut_first kind place before (octet ∷ octets) none (omega arith)))

fails_or_later : (kind : PduKind) (place : ℕ) (others : List Parameter) (octets : List ℕ) (option : Parameter) (after : List ℕ) (fault : Fault) → Some (option, after) ≡ front_parameter octets
    → fault_after kind place others octets ≡ Some fault
    → (fault_after kind (place + (length option.value + 2)) (others ++ option ∷ []) after ≡ Some fault → Front kind (place + (length option.value + 2)) (others ++ option ∷ []) after fault)
    → (reason : Option Reason) → reason ≡ option_reason kind others option → Front kind place others octets fault
fails_or_later kind place others octets option after fault found why later None same =
    one_later kind place others octets option after fault (stands_first octets option after found).parts (sym same)
    (later (sym (fault_step kind place others octets option after found (sym same)) ∙ why))
fails_or_later kind place others octets option after fault found why later (Some reason) same =
    let is : fault ≡ fault_at place reason = same_fault fault (fault_at place reason) (sym why ∙ reason_first kind place others octets option after reason found (sym same)) in
    at_once kind place others octets fault
    (subst (IsFaultAfter kind place others octets) (sym is)
    (option_fails kind place others octets option after reason (stands_first octets option after found).parts (sym same)))

front_from : (kind : PduKind) (place : ℕ) (others : List Parameter) (octets : List ℕ) (fault : Fault) (found : Option (Parameter × List ℕ)) → found ≡ front_parameter octets
    → fault_after kind place others octets ≡ Some fault
    → ((place : ℕ) (others : List Parameter) (after : List ℕ) → length after < length octets → fault_after kind place others after ≡ Some fault → Front kind place others after fault)
    → Front kind place others octets fault
front_from kind place others octets fault None same why shorter = at_once kind place others octets fault (unfit_fails kind place others octets fault same why)
front_from kind place others octets fault (Some found) same why shorter =
    let option : Parameter = found.0 in
    let after : List ℕ = found.1 in
    let front = stands_first octets option after same in
    fails_or_later kind place others octets option after fault same why
    (λ left. shorter (place + (length option.value + 2)) (others ++ option ∷ []) after (omega (arith, front.lengths)) left)
    (option_reason kind others option) refl

front_within : (n : ℕ) (kind : PduKind) (place : ℕ) (others : List Parameter) (octets : List ℕ) (fault : Fault) → length octets ≤ n
    → fault_after kind place others octets ≡ Some fault → Front kind place others octets fault
front_within zero kind place others octets fault le why =
    front_from kind place others octets fault (front_parameter octets) refl why (λ place others after lt left. absurd (omega arith))
front_within (suc n) kind place others octets fault le why =
    front_from kind place others octets fault (front_parameter octets) refl why (λ place others after lt left. front_within n kind place others after fault (omega arith) left)

pub first_from_fault : (kind : PduKind) (first : ℕ) (octets : List ℕ) (fault : Fault) → walked_fault kind first octets ≡ Some fault → IsFirstFault kind first octets fault
first_from_fault kind first octets fault why =
    let front = front_within (length octets) kind first [] octets fault (omega arith) why in
    let fine : (before after : List Parameter) (option : Parameter) → front.0 ≡ before ++ option ∷ after → IsFine kind before option =
    λ before after option same. fine_from kind before option (front.3 before after option same) in
    record {
      before = front.0;
      rest = front.1;
      parts = front.2;
      known = λ k d lt. (fine (take k front.0) (drop (k + 1) front.0) (get_or front.0 k d) (parted front.0 k d lt)).known;
      once = λ before after option same stood. (fine before after option same).once stood;
      fails = front.4;
    }
