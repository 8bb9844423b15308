-- The fault of a reading is the first of the steps that fails: a step that passes leaves the later ones.
use Rattle.std.proofs.Common.{◌≡◌, ℕ, ◌+◌, ◌/◌, Bool, true, false, cond, not, ◌&&◌, ◌||◌, leb, ltb, nat_eq, List, [], ◌∷◌, length, take, drop, Option, Some, None, Result, Ok, Err, refl, arith}
use Rattle.std.specs.Prelude.{is_some, is_none, slice_index, unwrap_or, ⊤}
use Rattle.std.proofs.lemmas.Bool.{ltb-false, ltb-true, leb-true, leb-false, le-leb, lt-leb, le-ltb, lt-ltb, eqb-true, eqb-false}
use Rattle.std.proofs.lemmas.List.{length-take}
use Rattle.osi_base.specs.Fletcher.{is_sealed}
use Rattle.pdu_parts.specs.FirstFault.{must, first_failing}
use Rattle.pdu_parts.specs.Parameter.{parameters_in, left_in}
use Rattle.pdu_parts.proofs.Readings.{◌>>=◌, unless}
use Rattle.tpdu.specs.declared.fault.TpduCause.TheVariants.{Short, Length, Fixed, Class, Checksum, Body}
use Rattle.tpdu.specs.declared.fault.TpduFault.{TpduFault}
use Rattle.tpdu.specs.declared.kind.Kind.{Kind}
use Rattle.tpdu.specs.Kinds.{kind_of, fixed_count, is_request, is_connect, data_suits}
use Rattle.tpdu.specs.Parameters.{sum_place}
use Rattle.tpdu.specs.Values.{value_of}
use Rattle.tpdu.specs.Faults.{indicator, header, whole, body_of, format_at, fault_at, parameter_steps, steps_of, first_fault}
use Rattle.tpdu.specs.steps.Reading.{head_for, head_by, head_at, Sections, sections_at, close_at, checked, Found, parts_of, read_at}

abbrev pub fault_of : {A F : Type 0} → Result A F → Option F
fault_of (Ok x) = None
fault_of (Err f) = Some f

-- a test that fails, and what must hold: the same question asked the other way
pub guard_fault : {A B F : Type 0} (fails holds : Bool) (fault : F) (r : Result A F) (g : A → Result B F) (steps : List (Option F))
    → holds ≡ not fails → (fails ≡ false → fault_of (r >>= g) ≡ first_failing steps)
    → fault_of (cond fails (Err fault) r >>= g) ≡ first_failing (must holds fault ∷ steps)
guard_fault true holds fault r g steps e h = rw e refl
guard_fault false holds fault r g steps e h = rw e (h refl)

-- a fault that is found comes first
pub unless_fault : {A B F : Type 0} (o : Option F) (x : A) (g : A → Result B F) (steps : List (Option F)) → fault_of (g x) ≡ first_failing steps → fault_of (unless o x >>= g) ≡ first_failing (o ∷ steps)
unless_fault None x g steps h = h
unless_fault (Some f) x g steps h = refl

-- tests asked the other way
pub at_least : (n m : ℕ) → leb n m ≡ not (ltb m n)
at_least n m = by (ltb m n) refl
  where
    by : (b : Bool) → ltb m n ≡ b → leb n m ≡ not b
    by true e = lt-leb n m (ltb-true m n e)
    by false e = le-leb n m (ltb-false m n e)

above : (n m : ℕ) → ltb n m ≡ not (leb m n)
above n m = by (leb m n) refl
  where
    by : (b : Bool) → leb m n ≡ b → ltb n m ≡ not b
    by true e = le-ltb n m (leb-true m n e)
    by false e = lt-ltb n m (leb-false m n e)

not_zero : (n : ℕ) → leb 1 n ≡ not (nat_eq n 0)
not_zero n = by (nat_eq n 0) refl
  where
    by : (b : Bool) → nat_eq n 0 ≡ b → leb 1 n ≡ not b
    by true e = let z = eqb-true n 0 e in lt-leb 1 n (omega arith)
    by false e = let z = eqb-false n 0 e in le-leb 1 n (omega arith)

all_hold : (a b c : Bool) → (not a && not b && not c) ≡ not (a || b || c)
all_hold false false c = refl
all_hold a b c = refl

-- the length indicator is one
pub is_length : (i n : ℕ) → (leb 1 i && leb i 254 && ltb i n) ≡ not (nat_eq i 0 || ltb 254 i || leb n i)
is_length i n = rw (not_zero i, at_least i 254, above i n) (all_hold (nat_eq i 0) (ltb 254 i) (leb n i))

is_class : (connect four : Bool) → (not connect || four) ≡ not (connect && not four)
is_class true true = refl
is_class connect four = refl

-- the steps behind the parameters
abbrev last_steps : Bool → Bool → Bool → Option ℕ → ℕ → List (Option TpduFault)
last_steps sealed request suits sum place =
    must (is_none sum || sealed) (fault_at Checksum (unwrap_or sum 0))
    ∷ must (not request || is_some sum) (fault_at Checksum 0)
    ∷ must suits (fault_at Body place)
    ∷ []

summed_fault : (sealed request suits : Bool) (at place : ℕ) (x : Found)
    → fault_of (cond sealed (cond suits (Ok tt) (Err (fault_at Body place))) (Err (fault_at Checksum at)) >>= (λ (done : ⊤). Ok x)) ≡ first_failing (last_steps sealed request suits (Some at) place)
summed_fault true true true at place x = refl
summed_fault true false true at place x = refl
summed_fault sealed request suits at place x = refl

unsummed_fault : (sealed request suits : Bool) (place : ℕ) (x : Found)
    → fault_of (cond request (Err (fault_at Checksum 0)) (cond suits (Ok tt) (Err (fault_at Body place))) >>= (λ (done : ⊤). Ok x)) ≡ first_failing (last_steps sealed request suits None place)
unsummed_fault sealed false true place x = refl
unsummed_fault sealed request suits place x = refl

close_fault : (kind : Kind) (sum : Option ℕ) (all : List ℕ) (place : ℕ) (body : List ℕ) (x : Found)
    → fault_of (close_at kind sum all place body >>= (λ (done : ⊤). Ok x)) ≡ first_failing (last_steps (is_sealed all) (is_request kind) (data_suits kind (length body)) sum place)
unfolding close_at
close_fault kind (Some at) all place body x = summed_fault (is_sealed all) (is_request kind) (data_suits kind (length body)) at place x
close_fault kind None all place body x = unsummed_fault (is_sealed all) (is_request kind) (data_suits kind (length body)) place x

-- the parameters and what is behind them
checked_fault : (kind : Kind) (place : ℕ) (octets all : List ℕ) (end : ℕ) (body : List ℕ) (x : Option ℕ → Found)
    → fault_of (checked kind place octets >>= λ sum. close_at kind sum all end body >>= λ (done : ⊤). Ok (x sum))
    ≡ first_failing (first_failing (parameter_steps kind place (parameters_in octets) (left_in octets)) ∷ last_steps (is_sealed all) (is_request kind) (data_suits kind (length body)) (sum_place place (parameters_in octets)) end)
unfolding checked
checked_fault kind place octets all end body x =
    let sum = sum_place place (parameters_in octets) in
    unless_fault (first_failing (parameter_steps kind place (parameters_in octets) (left_in octets))) sum _
    (last_steps (is_sealed all) (is_request kind) (data_suits kind (length body)) sum end) (close_fault kind sum all end body (x sum))

-- the fixed part and what is behind it
sections_fault : (extended octets : List ℕ) (kind : Kind) (x : Sections → Option ℕ → Found)
    → fault_of (sections_at extended kind (drop 2 (header octets)) >>= λ sections. checked kind (3 + length sections.fixed) sections.parameters >>= λ sum. close_at kind sum (whole kind octets) (indicator octets + 2) (body_of kind octets) >>= λ (done : ⊤). Ok (x sections sum))
    ≡ first_failing (steps_of extended octets (Some kind))
unfolding sections_at
sections_fault extended octets kind x =
    let inside = drop 2 (header octets) in
    let format = format_at extended kind inside in
    let count = fixed_count kind format in
    let four = nat_eq (slice_index inside 4 / 16) 4 in
    let parameters = parameters_in (drop count inside) in
    let later = first_failing (parameter_steps kind (3 + count) parameters (left_in (drop count inside)))
    ∷ last_steps (is_sealed (whole kind octets)) (is_request kind) (data_suits kind (length (body_of kind octets))) (sum_place (3 + count) parameters) (indicator octets + 2) in
    let class = not (is_connect kind) || four in
    guard_fault (ltb (length inside) count) (leb count (length inside)) (fault_at Fixed 1) _ _ (must class (fault_at Class 7) ∷ later) (at_least count (length inside)) (λ long.
    guard_fault (is_connect kind && not four) class (fault_at Class 7) _ _ later (is_class (is_connect kind) four) (λ passes.
    let enough : length (take count inside) ≡ count = omega (arith, length-take count inside, ltb-false _ _ long) in
    let sections : Sections = record { format = format; fixed = take count inside; parameters = drop count inside } in
    rw enough (checked_fault kind (3 + count) (drop count inside) (whole kind octets) (indicator octets + 2) (body_of kind octets) (x sections))))

kind_fault : (extended octets : List ℕ) (o : Option Kind)
    → fault_of {A = Found} (head_by octets o >>= λ head. sections_at extended head.kind head.fields >>= λ sections. checked head.kind (3 + length sections.fixed) sections.parameters >>= λ sum. close_at head.kind sum head.all (indicator octets + 2) head.body >>= λ (done : ⊤). Ok ((value_of (parts_of head sections), is_some sum), head.rest))
    ≡ first_failing (steps_of extended octets o)
kind_fault extended octets None = refl
kind_fault extended octets (Some kind) =
    let head = head_for kind octets in
    sections_fault extended octets kind (λ sections sum. ((value_of (parts_of head sections), is_some sum), head.rest))

pub fault-read : (extended octets : List ℕ) → fault_of (read_at extended octets) ≡ first_fault extended octets
unfolding read_at head_at first_fault
fault-read extended octets =
    let i = indicator octets in
    let n = length octets in
    let fits = leb 1 i && leb i 254 && ltb i n in
    let later = steps_of extended octets (kind_of (slice_index octets 1)) in
    guard_fault (ltb n 2) (leb 2 n) (fault_at Short 0) _ _ (must fits (fault_at Length 1) ∷ later) (at_least 2 n) (λ long.
    guard_fault (nat_eq i 0 || ltb 254 i || leb n i) fits (fault_at Length 1) _ _ later (is_length i n) (λ within.
    kind_fault extended octets (kind_of (slice_index octets 1))))
