-- What the fields of a relay line and of a send line give that were read: selectors of 1 to 32 octets, and for a relay one that its system has not.
use Rattle.std.proofs.Common.{◌≡◌, ℕ, Bool, true, false, List, [], ◌∷◌, length, None, Result, Ok, Err, refl, subst, arith}
use Rattle.std.specs.Prelude.{◌&&◌, if◌then◌else◌, nat_le, not, slice_get}
use Rattle.std.proofs.lemmas.Bool.Decides.{nat_tests}
use Rattle.script_lines.specs.declared.cause.LineCause.{LineCause}
use Rattle.script_lines.specs.declared.cause.LineCause.TheVariants as causes
use Rattle.script_lines.specs.declared.words.FieldKind.TheVariants as forms
use Rattle.script_lines.specs.declared.words.NameKind.TheVariants as named
use Rattle.script_lines.specs.declared.field_values.FieldValues.{FieldValues}
use Rattle.script_lines.specs.Field.{octets_of, within}
use Rattle.script_lines.specs.Gives.{then_read}
use Rattle.script_lines.specs.Grammar.{count_fault, fields_read, next_column}
use Rattle.script_lines.specs.Known.{Declared, is_among, no_parts, selectors_of}
use Rattle.script_lines.specs.Reading.{end_system_of, new_selector, other_end_of, selector_of}
use Rattle.script_setup.specs.Fitting.{IsSelector}
use Rattle.law_setup.proofs.Values.{not_true, same_parts, step, then_by}

sized_by : (all selector : List ℕ) (b : Bool) → (nat_le 1 (length all) && nat_le (length all) 32) ≡ b → (if b then Ok all else Err causes.Range) ≡ Ok selector → IsSelector selector
sized_by all selector true here is =
    let same : all ≡ selector = cc in subst IsSelector same (record { least = grind (arith, nat_tests); most = grind (arith, nat_tests) })
sized_by all selector false here is = absurd (cc)

sized_from : (read : Result (List ℕ) LineCause) (selector : List ℕ) → then_read read (within 1 32) ≡ Ok selector → IsSelector selector
sized_from (Err cause) selector is = absurd (cc)
sized_from (Ok all) selector is = sized_by all selector (nat_le 1 (length all) && nat_le (length all) 32) refl is

is_selector : (field selector : List ℕ) → selector_of field ≡ Ok selector → IsSelector selector
unfolding selector_of
is_selector field selector is = sized_from (octets_of field) selector is

-- a selector that the system has not
record NewSelectorRead (names : Declared) (system : ℕ) (selector : List ℕ) : Type 0 where
  fits : IsSelector selector
  fresh : is_among (selectors_of (slice_get names.systems system)) selector ≡ false

new_selector_read : (names : Declared) (system : ℕ) (field selector : List ℕ) → new_selector names system field ≡ Ok selector → NewSelectorRead names system selector
unfolding new_selector
new_selector_read names system field selector is =
    let both = then_by (selector_of field) (λ s. not (is_among (selectors_of (slice_get names.systems system)) s)) causes.Repeat selector is in
    record { fits = is_selector field selector both.read_is; fresh = not_true (is_among (selectors_of (slice_get names.systems system)) selector) both.passes }

pub record RelayRead (names : Declared) (system : ℕ) (selector called : List ℕ) : Type 0 where
  pub selector_is : IsSelector selector
  pub called_is : IsSelector called
  pub fresh : is_among (selectors_of (slice_get names.systems system)) selector ≡ false

pub relay_values : (names : Declared) (past column : ℕ) (fields : List (List ℕ)) (out : FieldValues)
    → count_fault past column (forms.Named named.EndSystem ∷ forms.NewSelector ∷ forms.Named named.Other ∷ forms.Called ∷ []) fields ≡ None
    → fields_read names no_parts column (forms.Named named.EndSystem ∷ forms.NewSelector ∷ forms.Named named.Other ∷ forms.Called ∷ []) fields ≡ Ok out
    → RelayRead names out.system out.selector out.called
relay_values names past column [] out count is = absurd (cc)
relay_values names past column (first ∷ []) out count is = absurd (cc)
relay_values names past column (first ∷ second ∷ []) out count is = absurd (cc)
relay_values names past column (first ∷ second ∷ third ∷ []) out count is = absurd (cc)
relay_values names past column (first ∷ second ∷ third ∷ fourth ∷ fifth ∷ others) out count is = absurd (cc)
relay_values names past column (first ∷ second ∷ third ∷ fourth ∷ []) out count is =
    let a = step column (end_system_of names first) (λ system. record no_parts { system = system })
    (λ more. fields_read names more (next_column column first) (forms.NewSelector ∷ forms.Named named.Other ∷ forms.Called ∷ []) (second ∷ third ∷ fourth ∷ [])) out is in
    let b = step (next_column column first) (new_selector names a.value second) (λ selector. record no_parts { system = a.value; selector = selector })
    (λ more. fields_read names more (next_column (next_column column first) second) (forms.Named named.Other ∷ forms.Called ∷ []) (third ∷ fourth ∷ [])) out a.rest in
    let c = step (next_column (next_column column first) second) (other_end_of names a.value third) (λ system. record no_parts { system = a.value; selector = b.value; other = system })
    (λ more. fields_read names more (next_column (next_column (next_column column first) second) third) (forms.Called ∷ []) (fourth ∷ [])) out b.rest in
    let d = step (next_column (next_column (next_column column first) second) third) (selector_of fourth)
    (λ called. record no_parts { system = a.value; selector = b.value; other = c.value; called = called }) (λ more. Ok more) out c.rest in
    let new = new_selector_read names a.value second b.value b.read_is in
    subst (λ (p : FieldValues). RelayRead names p.system p.selector p.called) (same_parts _ out d.rest)
    (record { selector_is = new.fits; called_is = is_selector fourth d.value d.read_is; fresh = new.fresh })

pub record SendRead (selector called : List ℕ) : Type 0 where
  pub selector_is : IsSelector selector
  pub called_is : IsSelector called

pub send_values : (names : Declared) (past column : ℕ) (fields : List (List ℕ)) (out : FieldValues)
    → count_fault past column (forms.Named named.EndSystem ∷ forms.Selector ∷ forms.Named named.To ∷ forms.Called ∷ forms.Octets ∷ []) fields ≡ None
    → fields_read names no_parts column (forms.Named named.EndSystem ∷ forms.Selector ∷ forms.Named named.To ∷ forms.Called ∷ forms.Octets ∷ []) fields ≡ Ok out
    → SendRead out.selector out.called
send_values names past column [] out count is = absurd (cc)
send_values names past column (first ∷ []) out count is = absurd (cc)
send_values names past column (first ∷ second ∷ []) out count is = absurd (cc)
send_values names past column (first ∷ second ∷ third ∷ []) out count is = absurd (cc)
send_values names past column (first ∷ second ∷ third ∷ fourth ∷ []) out count is = absurd (cc)
send_values names past column (first ∷ second ∷ third ∷ fourth ∷ fifth ∷ sixth ∷ others) out count is = absurd (cc)
send_values names past column (first ∷ second ∷ third ∷ fourth ∷ fifth ∷ []) out count is =
    let a = step column (end_system_of names first) (λ system. record no_parts { system = system })
    (λ more. fields_read names more (next_column column first) (forms.Selector ∷ forms.Named named.To ∷ forms.Called ∷ forms.Octets ∷ []) (second ∷ third ∷ fourth ∷ fifth ∷ [])) out is in
    let b = step (next_column column first) (selector_of second) (λ selector. record no_parts { system = a.value; selector = selector })
    (λ more. fields_read names more (next_column (next_column column first) second) (forms.Named named.To ∷ forms.Called ∷ forms.Octets ∷ []) (third ∷ fourth ∷ fifth ∷ [])) out a.rest in
    let c = step (next_column (next_column column first) second) (end_system_of names third) (λ system. record no_parts { system = a.value; selector = b.value; other = system })
    (λ more. fields_read names more (next_column (next_column (next_column column first) second) third) (forms.Called ∷ forms.Octets ∷ []) (fourth ∷ fifth ∷ [])) out b.rest in
    let d = step (next_column (next_column (next_column column first) second) third) (selector_of fourth)
    (λ called. record no_parts { system = a.value; selector = b.value; other = c.value; called = called })
    (λ more. fields_read names more (next_column (next_column (next_column (next_column column first) second) third) fourth) (forms.Octets ∷ []) (fifth ∷ [])) out c.rest in
    let e = step (next_column (next_column (next_column (next_column column first) second) third) fourth) (octets_of fifth)
    (λ octets. record no_parts { system = a.value; selector = b.value; other = c.value; called = d.value; octets = octets }) (λ more. Ok more) out d.rest in
    subst (λ (p : FieldValues). SendRead p.selector p.called) (same_parts _ out e.rest)
    (record { selector_is = is_selector second b.value b.read_is; called_is = is_selector fourth d.value d.read_is })
