-- A list that is written one member after another: what stands, with the texts that are left, is the whole.
use Rattle.std.proofs.Common.{◌≡◌, ℕ, suc, ◌-◌, ◌+◌, ◌<◌, ◌≤◌, if◌then◌else◌, Bool, true, false, List, [], ◌∷◌, ◌++◌, Some, None, refl, sym, ◌∙◌, ap, append_assoc, arith}
use Rattle.std.proofs.lemmas.List.{append-nil}
use Rattle.std.specs.Prelude.{map, is_some}
use Rattle.pdu_parts.specs.Field.{address_at}
use Rattle.pdu_parts.specs.Parameter.{Parameter, front_parameter, parameters_in}
use Rattle.pdu_parts.proofs.Parameters.{in_front_some, in_front_none}
use Rattle.esis_pdu.specs.Addresses.{addresses_in}
use Rattle.esis_pdu.proofs.Addresses.{in_some, in_none}
use Rattle.tpdu.specs.declared.kind.Kind.{Kind}
use Rattle.tpdu.specs.Parameters.{lengths_of}
use Rattle.capture_show.specs.Texts.{joined, address_text, parameter_text}
use Rattle.capture_show.specs.Tpdus.{known}
use Rattle.capture_show.specs.steps.Written.{commas, going_on}

joined_commas : (text : List ℕ) (texts : List (List ℕ)) → joined 44 (text ∷ texts) ≡ text ++ commas texts
joined_commas text [] = sym (append-nil text)
joined_commas text (next ∷ more) = ap (λ (rest : List ℕ). text ++ 44 ∷ rest) (joined_commas next more)

-- the first text that is left: behind a comma, where others stand before it
first_left : (some : Bool) (text : List ℕ) (texts : List (List ℕ)) → going_on some (text ∷ texts) ≡ (if some then 44 ∷ [] else []) ++ (text ++ going_on true texts)
first_left true text texts = refl
first_left false text texts = joined_commas text texts

-- what stands, with the texts that are left, is this
abbrev pub Stands : Bool → List ℕ → List (List ℕ) → List ℕ → Type 0
Stands some out texts whole = out ++ going_on some texts ≡ whole

pub goes_on : (some : Bool) (out comma new text : List ℕ) (texts : List (List ℕ)) (whole : List ℕ) → Stands some out (text ∷ texts) whole
    → comma ≡ out ++ (if some then 44 ∷ [] else []) → new ≡ comma ++ text → Stands true new texts whole
goes_on some out comma new text texts whole h c n =
    let separator : List ℕ = if some then 44 ∷ [] else [] in
    ap (λ (x : List ℕ). x ++ going_on true texts) (n ∙ ap (λ (x : List ℕ). x ++ text) c)
    ∙ append_assoc (out ++ separator) text (going_on true texts)
    ∙ append_assoc out separator (text ++ going_on true texts)
    ∙ ap (λ (x : List ℕ). out ++ x) (sym (first_left some text texts)) ∙ h

-- ---- parameters

pub parameters_go_on : (some : Bool) (octets out comma new : List ℕ) (parameter : Parameter) (rest whole : List ℕ)
    → Some (parameter, rest) ≡ front_parameter octets → Stands some out (map parameter_text (parameters_in octets)) whole
    → comma ≡ out ++ (if some then 44 ∷ [] else []) → new ≡ comma ++ parameter_text parameter → Stands true new (map parameter_text (parameters_in rest)) whole
parameters_go_on some octets out comma new parameter rest whole found h c n =
    let first = in_front_some octets parameter rest found in
    goes_on some out comma new (parameter_text parameter) (map parameter_text (parameters_in rest)) whole
    (ap (λ (ps : List Parameter). out ++ going_on some (map parameter_text ps)) (sym first) ∙ h) c n

pub parameters_end : (some : Bool) (octets out whole : List ℕ) → None ≡ front_parameter octets → Stands some out (map parameter_text (parameters_in octets)) whole
    → out ++ going_on some [] ≡ whole
parameters_end some octets out whole none h =
    ap (λ (ps : List Parameter). out ++ going_on some (map parameter_text ps)) (sym (in_front_none octets none)) ∙ h

known_first : (kind : Kind) (parameter : Parameter) (ps : List Parameter) (b : Bool) → is_some (lengths_of kind parameter.code) ≡ b
    → known kind (parameter ∷ ps) ≡ (if b then parameter ∷ known kind ps else known kind ps)
known_first kind parameter ps b e = rw e refl

pub known_go_on : (kind : Kind) (some : Bool) (octets out comma new : List ℕ) (parameter : Parameter) (rest whole : List ℕ)
    → Some (parameter, rest) ≡ front_parameter octets → Stands some out (map parameter_text (known kind (parameters_in octets))) whole
    → is_some (lengths_of kind parameter.code) ≡ true → comma ≡ out ++ (if some then 44 ∷ [] else []) → new ≡ comma ++ parameter_text parameter
    → Stands true new (map parameter_text (known kind (parameters_in rest))) whole
known_go_on kind some octets out comma new parameter rest whole found h knows c n =
    let first : known kind (parameters_in octets) ≡ parameter ∷ known kind (parameters_in rest) =
    ap (known kind) (in_front_some octets parameter rest found) ∙ known_first kind parameter (parameters_in rest) true knows in
    goes_on some out comma new (parameter_text parameter) (map parameter_text (known kind (parameters_in rest))) whole
    (ap (λ (ps : List Parameter). out ++ going_on some (map parameter_text ps)) (sym first) ∙ h) c n

pub known_skip : (kind : Kind) (some : Bool) (octets out : List ℕ) (parameter : Parameter) (rest whole : List ℕ)
    → Some (parameter, rest) ≡ front_parameter octets → Stands some out (map parameter_text (known kind (parameters_in octets))) whole
    → is_some (lengths_of kind parameter.code) ≡ false → Stands some out (map parameter_text (known kind (parameters_in rest))) whole
known_skip kind some octets out parameter rest whole found h knows =
    let first : known kind (parameters_in octets) ≡ known kind (parameters_in rest) =
    ap (known kind) (in_front_some octets parameter rest found) ∙ known_first kind parameter (parameters_in rest) false knows in
    ap (λ (ps : List Parameter). out ++ going_on some (map parameter_text ps)) (sym first) ∙ h

pub known_end : (kind : Kind) (some : Bool) (octets out whole : List ℕ) → None ≡ front_parameter octets
    → Stands some out (map parameter_text (known kind (parameters_in octets))) whole → out ++ going_on some [] ≡ whole
known_end kind some octets out whole none h =
    ap (λ (ps : List Parameter). out ++ going_on some (map parameter_text (known kind ps))) (sym (in_front_none octets none)) ∙ h

-- ---- options that an iterator gives

pub options_go_on : (some : Bool) (options : List Parameter) (out comma new : List ℕ) (parameter : Parameter) (rest : List Parameter) (whole : List ℕ)
    → options ≡ parameter ∷ rest → Stands some out (map parameter_text options) whole
    → comma ≡ out ++ (if some then 44 ∷ [] else []) → new ≡ comma ++ parameter_text parameter → Stands true new (map parameter_text rest) whole
options_go_on some options out comma new parameter rest whole first h c n =
    goes_on some out comma new (parameter_text parameter) (map parameter_text rest) whole
    (ap (λ (ps : List Parameter). out ++ going_on some (map parameter_text ps)) (sym first) ∙ h) c n

pub options_end : (some : Bool) (options : List Parameter) (out whole : List ℕ) → options ≡ [] → Stands some out (map parameter_text options) whole → out ++ going_on some [] ≡ whole
options_end some options out whole none h = ap (λ (ps : List Parameter). out ++ going_on some (map parameter_text ps)) (sym none) ∙ h

-- ---- addresses

pub addresses_go_on : (count i : ℕ) (some : Bool) (octets out comma new address rest whole : List ℕ) → i < count → address_at octets ≡ Some (address, rest)
    → Stands some out (map address_text (addresses_in (count - i) octets)) whole
    → comma ≡ out ++ (if some then 44 ∷ [] else []) → new ≡ comma ++ address_text address → Stands true new (map address_text (addresses_in (count - (i + 1)) rest)) whole
addresses_go_on count i some octets out comma new address rest whole within found h c n =
    let left : count - i ≡ suc (count - (i + 1)) = omega arith in
    let first : addresses_in (count - i) octets ≡ address ∷ addresses_in (count - (i + 1)) rest =
    ap (λ (k : ℕ). addresses_in k octets) left ∙ in_some (count - (i + 1)) octets address rest found in
    goes_on some out comma new (address_text address) (map address_text (addresses_in (count - (i + 1)) rest)) whole
    (ap (λ (xs : List (List ℕ)). out ++ going_on some (map address_text xs)) (sym first) ∙ h) c n

pub addresses_none : (count : ℕ) (some : Bool) (octets out whole : List ℕ) → address_at octets ≡ None
    → Stands some out (map address_text (addresses_in count octets)) whole → out ++ going_on some [] ≡ whole
addresses_none count some octets out whole none h =
    ap (λ (xs : List (List ℕ)). out ++ going_on some (map address_text xs)) (sym (in_none count octets none)) ∙ h

pub addresses_end : (count i : ℕ) (some : Bool) (octets out whole : List ℕ) → count ≤ i
    → Stands some out (map address_text (addresses_in (count - i) octets)) whole → out ++ going_on some [] ≡ whole
unfolding addresses_in
addresses_end count i some octets out whole past h =
    let left : count - i ≡ 0 = omega arith in
    ap (λ (k : ℕ). out ++ going_on some (map address_text (addresses_in k octets))) (sym left) ∙ h
