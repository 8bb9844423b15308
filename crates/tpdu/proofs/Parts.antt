-- The parameters that pass are those that suit the table, and a checksum is found where one is.
use Rattle.std.proofs.Common.{◌≡◌, ℕ, ◌+◌, Bool, true, false, cond, not, ◌&&◌, ◌||◌, leb, nat_eq, List, [], ◌∷◌, length, Option, Some, None, refl, arith}
use Rattle.std.specs.Prelude.{is_some, option_map}
use Rattle.std.specs.Option.{option_or}
use Rattle.std.specs.List.{AllByRecursion}
use Rattle.std.proofs.lemmas.Bool.{eqb-true, ne_eqb, le-leb, leb-true, eq-eqb, and_parts}
use Rattle.tpdu.specs.declared.fault.TpduCause.{TpduCause}
use Rattle.tpdu.specs.declared.fault.TpduFault.{TpduFault}
use Rattle.tpdu.specs.declared.kind.Kind.{Kind}
use Rattle.tpdu.specs.declared.parameter.Lengths.{Lengths}
use Rattle.tpdu.specs.Kinds.{is_connect}
use Rattle.pdu_parts.specs.FirstFault.{or_else, first_failing}
use Rattle.pdu_parts.specs.Parameter.{Parameter}
use Rattle.tpdu.specs.Parameters.{lengths_of, size_of, has_sizes, preferred_of, trouble_by, trouble, sum_place, last_value}
use Rattle.tpdu.specs.Faults.{fault_at, parameter_steps}
use Rattle.tpdu.specs.Grammar.{SuitsBy, Suits, has_sum}

has_size-is : (b s : Bool) → (not b || s) ≡ true → b ≡ true → s ≡ true
has_size-is true s h e = h
has_size-is false s h e = absurd cc

has_size-from : (b s : Bool) → (b ≡ true → s ≡ true) → (not b || s) ≡ true
has_size-from true s h = h refl
has_size-from false s h = refl

both_true : (a b : Bool) → a ≡ true → b ≡ true → (a && b) ≡ true
both_true true true one other = refl
both_true true false one other = absurd cc
both_true false b one other = absurd cc

both : (a b c : Bool) (x : Option TpduCause) → cond (a && b && c) None x ≡ None → (x ≡ None → ⊥) → (a ≡ true) × (b ≡ true) × (c ≡ true)
both true true true x e no_none = (refl, refl, refl)
both a b c x e no_none = absurd (no_none e)

some_cause : (cause : TpduCause) → (let o : Option TpduCause = Some cause in o) ≡ None → ⊥
some_cause cause e = cc

connect_by : (b : Bool) (cause : TpduCause) → cond b None (Some cause) ≡ None → b ≡ true
connect_by true cause e = refl
connect_by false cause e = absurd cc

suits_by : (o : Option Lengths) (kind : Kind) (p : Parameter) → trouble_by o kind p ≡ None → SuitsBy o kind p
suits_by None kind p e = connect_by (is_connect kind) _ e
suits_by (Some lengths) kind p e =
    let t = both (leb lengths.least (length p.value)) (leb (length p.value) lengths.most) (has_sizes p) _ e (some_cause _) in
    let s = and_parts (not (nat_eq p.code 0xC0) || is_some (size_of p.value)) (not (nat_eq p.code 0xF0) || is_some (preferred_of p.value)) t.2 in (
      leb-true _ _ t.0,
      leb-true _ _ t.1,
      λ is. has_size-is (nat_eq p.code 0xC0) (is_some (size_of p.value)) s.0 (eq-eqb p.code 0xC0 is),
      λ is. has_size-is (nat_eq p.code 0xF0) (is_some (preferred_of p.value)) s.1 (eq-eqb p.code 0xF0 is),
    )

pub suits : (kind : Kind) (p : Parameter) → trouble kind p ≡ None → Suits kind p
suits kind p e = suits_by (lengths_of kind p.code) kind p e

trouble_by-none : (o : Option Lengths) (kind : Kind) (p : Parameter) → SuitsBy o kind p → trouble_by o kind p ≡ None
trouble_by-none None kind p h = rw h refl
trouble_by-none (Some lengths) kind p h =
    let least : leb lengths.least (length p.value) ≡ true = le-leb _ _ h.0 in
    let most : leb (length p.value) lengths.most ≡ true = le-leb _ _ h.1 in
    let size = has_size-from (nat_eq p.code 0xC0) (is_some (size_of p.value)) (λ e. h.2 (eqb-true _ _ e)) in
    let preferred = has_size-from (nat_eq p.code 0xF0) (is_some (preferred_of p.value)) (λ e. h.3 (eqb-true _ _ e)) in
    let sizes : has_sizes p ≡ true = both_true (not (nat_eq p.code 0xC0) || is_some (size_of p.value)) (not (nat_eq p.code 0xF0) || is_some (preferred_of p.value)) size preferred in
    rw (least, most, sizes) refl

pub trouble-none : (kind : Kind) (p : Parameter) → Suits kind p → trouble kind p ≡ None
trouble-none kind p h = trouble_by-none (lengths_of kind p.code) kind p h

passes : (o : Option TpduCause) (place : ℕ) (later : Option TpduFault) → or_else (option_map (λ cause. fault_at cause place) o) later ≡ None → (o ≡ None) × (later ≡ None)
passes None place later e = (refl, e)
passes (Some cause) place later e = absurd cc

pub some_left : (octet : ℕ) (left : List ℕ) → nat_eq (length (octet ∷ left)) 0 ≡ false
some_left octet left = ne_eqb _ _ (λ e. omega arith)

-- no fault: nothing is left, and each parameter suits
pub steps-none : (kind : Kind) (place : ℕ) (ps : List Parameter) (left : List ℕ) → first_failing (parameter_steps kind place ps left) ≡ None → (left ≡ []) × AllByRecursion (Suits kind) ps
steps-none kind place [] [] e = (refl, tt)
steps-none kind place [] (octet ∷ left) e = absurd (let h = rw (some_left octet left) at e in cc)
steps-none kind place (p ∷ ps) left e =
    let f = passes (trouble kind p) place (first_failing (parameter_steps kind (place + (2 + length p.value)) ps left)) e in
    let later = steps-none kind (place + (2 + length p.value)) ps left f.1 in
    (later.0, (suits kind p f.0, later.1))

pub none-steps : (kind : Kind) (place : ℕ) (ps : List Parameter) → AllByRecursion (Suits kind) ps → first_failing (parameter_steps kind place ps []) ≡ None
none-steps kind place [] h = refl
none-steps kind place (p ∷ ps) h = rw (trouble-none kind p h.0) (none-steps kind (place + (2 + length p.value)) ps h.1)

is_some-or : {X Y : Type 0} (a b : Option X) (u v : Option Y) → is_some a ≡ is_some u → is_some b ≡ is_some v → is_some (option_or a b) ≡ is_some (option_or u v)
is_some-or None b None v e h = h
is_some-or None b (Some y) v e h = absurd cc
is_some-or (Some x) b None v e h = absurd cc
is_some-or (Some x) b (Some y) v e h = refl

is_some-cond : {X Y : Type 0} (b : Bool) (x : X) (y : Y) → is_some (cond b (Some x) None) ≡ is_some (cond b (Some y) None)
is_some-cond true x y = refl
is_some-cond false x y = refl

-- a checksum has a place exactly where it has a value
pub is_some-sum_place : (place : ℕ) (ps : List Parameter) → is_some (sum_place place ps) ≡ has_sum ps
is_some-sum_place place [] = refl
is_some-sum_place place (p ∷ ps) =
    is_some-or (sum_place (place + (2 + length p.value)) ps) (cond (nat_eq p.code 0xC3) (Some (place + 2)) None) (last_value 0xC3 ps) (cond (nat_eq p.code 0xC3) (Some p.value) None)
    (is_some-sum_place (place + (2 + length p.value)) ps) (is_some-cond (nat_eq p.code 0xC3) (place + 2) p.value)
