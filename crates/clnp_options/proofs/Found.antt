-- The value found for a code is that of a known option; options whose values change stay allowed where the codes stay.
use Rattle.std.proofs.Common.{◌≡◌, ℕ, eqb, List, [], ◌∷◌, length, Some, refl, sym, ap, ◌∙◌, subst, arith, All, inl, inr, map, Bool, true, ◌++◌, ◌||◌}
use Rattle.std.proofs.lemmas.Bool.{eqb-true, cases_Bool}
use Rattle.std.specs.List.{list_any}
use Rattle.std.proofs.lemmas.List.{map-append}
use Rattle.std.proofs.lemmas.Option.{same_Some}
use Rattle.std.proofs.lemmas.List.Elements.{All-head, All-tail, All-append, All-cons}
use Rattle.clnp_options.specs.declared.reason.PduKind.{PduKind}
use Rattle.clnp_options.specs.declared.reason.PduKind.TheVariants.{Er}
use Rattle.pdu_parts.specs.Parameter.{Parameter}
use Rattle.clnp_options.specs.Options.{value_of, has}
use Rattle.clnp_options.specs.Grammar.{AreAllowed, IsOnce, IsKnown, Padding, Route, Record, Quality, Priority, Discarded}
use Rattle.clnp_options.specs.SourceRoute.{HasSourceRoute}
use Rattle.clnp_options.specs.Recording.{IsRecording}
use Rattle.clnp_options.proofs.Routes.{All-left, All-right}

abbrev option_of : ℕ → List ℕ → Parameter
option_of code value = record { code = code; value = value }

found_first : (kind : PduKind) (code : ℕ) (value : List ℕ) (option : Parameter) → IsKnown kind option → option.code ≡ code → option.value ≡ value → IsKnown kind (option_of code value)
found_first kind code value option known same_code same_value =
    subst (λ (v : List ℕ). IsKnown kind (option_of code v)) same_value (subst (λ (n : ℕ). IsKnown kind (option_of n option.value)) same_code known)

pub found_known : (kind : PduKind) (options : List Parameter) (code : ℕ) (value : List ℕ) → All (IsKnown kind) options → value_of code options ≡ Some value → IsKnown kind (option_of code value)
found_known kind [] code value known found = absurd cc
found_known kind (option ∷ options) code value known found =
    elim (cases_Bool (eqb option.code code)) as (λ _. IsKnown kind (option_of code value)) [
      | inl here ↦
          let first : value_of code (option ∷ options) ≡ Some option.value = rw here refl in
          found_first kind code value option (All-head (IsKnown kind) option options known) (eqb-true option.code code here) (same_Some option.value value (sym first ∙ found))
      | inr other ↦
          let later : value_of code (option ∷ options) ≡ value_of code options = rw other refl in
          found_known kind options code value (All-tail (IsKnown kind) option options known) (sym later ∙ found)
    ]

pub known_route : (kind : PduKind) (value : List ℕ) → IsKnown kind (option_of 0xc8 value) → HasSourceRoute value
known_route kind value (Padding code) = absurd (omega arith)
known_route kind value (Route code route) = route
known_route kind value (Record code recording) = absurd (omega arith)
known_route kind value (Quality code some) = absurd (omega arith)
known_route kind value (Priority code one) = absurd (omega arith)
known_route kind value (Discarded code er two) = absurd (omega arith)

pub known_recording : (kind : PduKind) (value : List ℕ) → IsKnown kind (option_of 0xcb value) → IsRecording value
known_recording kind value (Padding code) = absurd (omega arith)
known_recording kind value (Route code route) = absurd (omega arith)
known_recording kind value (Record code recording) = recording
known_recording kind value (Quality code some) = absurd (omega arith)
known_recording kind value (Priority code one) = absurd (omega arith)
known_recording kind value (Discarded code er two) = absurd (omega arith)

pub known_reason : (kind : PduKind) (value : List ℕ) → IsKnown kind (option_of 0xc1 value) → (kind ≡ Er) × (length value ≡ 2)
known_reason kind value (Padding code) = absurd (omega arith)
known_reason kind value (Route code route) = absurd (omega arith)
known_reason kind value (Record code recording) = absurd (omega arith)
known_reason kind value (Quality code some) = absurd (omega arith)
known_reason kind value (Priority code one) = absurd (omega arith)
known_reason kind value (Discarded code er two) = (er, two)

-- ---- a changed value

-- the codes of options
abbrev codes_of : List Parameter → List ℕ
codes_of options = map (λ (option : Parameter). option.code) options

-- whether a code is among them
abbrev among : ℕ → List ℕ → Bool
among code codes = list_any (λ (c : ℕ). eqb c code) codes

has_among : (code : ℕ) (options : List Parameter) → has code options ≡ among code (codes_of options)
has_among code [] = refl
has_among code (option ∷ options) = ap (λ (b : Bool). eqb option.code code || b) (has_among code options)

-- where codes are cut, so are the options
record IsCut (options : List Parameter) (before after : List ℕ) (code : ℕ) : Type 0 where
  front : List Parameter
  option : Parameter
  back : List Parameter
  parts : options ≡ front ++ option ∷ back
  front_codes : codes_of front ≡ before
  option_code : option.code ≡ code

cut_later : (x : Parameter) (options : List Parameter) (before after : List ℕ) (code first : ℕ) → x.code ≡ first → IsCut options before after code
    → IsCut (x ∷ options) (first ∷ before) after code
cut_later x options before after code first head later = record {
  front = x ∷ later.front;
  option = later.option;
  back = later.back;
  parts = ap (λ (xs : List Parameter). x ∷ xs) later.parts;
  front_codes = ap (λ (codes : List ℕ). x.code ∷ codes) later.front_codes ∙ ap (λ (n : ℕ). n ∷ before) head;
  option_code = later.option_code;
}

cut_codes : (options : List Parameter) (before after : List ℕ) (code : ℕ) → codes_of options ≡ before ++ code ∷ after → IsCut options before after code
cut_codes [] [] after code same = absurd cc
cut_codes [] (c ∷ before) after code same = absurd cc
cut_codes (option ∷ options) [] after code same = record { front = []; option = option; back = options; parts = refl; front_codes = refl; option_code = cc }
cut_codes (option ∷ options) (c ∷ before) after code same =
    let rest : codes_of options ≡ before ++ code ∷ after = cc in
    let head : option.code ≡ c = cc in
    cut_later option options before after code c head (cut_codes options before after code rest)

-- only the codes decide that none stands twice
once_by_codes : (options changed : List Parameter) → codes_of options ≡ codes_of changed → IsOnce options → IsOnce changed
once_by_codes options changed same once before after option parts stood =
    let codes : codes_of options ≡ codes_of before ++ option.code ∷ codes_of after =
    same ∙ ap codes_of parts ∙ map-append (λ (o : Parameter). o.code) before (option ∷ after) in
    let cut = cut_codes options (codes_of before) (codes_of after) option.code codes in
    let there : has cut.option.code cut.front ≡ true =
    has_among cut.option.code cut.front
    ∙ ap (among cut.option.code) cut.front_codes
    ∙ ap (λ (n : ℕ). among n (codes_of before)) cut.option_code
    ∙ sym (has_among option.code before)
    ∙ stood in
    sym cut.option_code ∙ once cut.front cut.back cut.option cut.parts there

pub allowed_changed : (kind : PduKind) (before after : List Parameter) (option changed : Parameter) → AreAllowed kind (before ++ option ∷ after)
    → changed.code ≡ option.code → IsKnown kind changed → AreAllowed kind (before ++ changed ∷ after)
allowed_changed kind before after option changed allowed same known =
    let codes : codes_of (before ++ option ∷ after) ≡ codes_of (before ++ changed ∷ after) =
    map-append (λ (o : Parameter). o.code) before (option ∷ after)
    ∙ ap (λ (n : ℕ). codes_of before ++ n ∷ codes_of after) (sym same)
    ∙ sym (map-append (λ (o : Parameter). o.code) before (changed ∷ after)) in
    record {
      known =
          All-append (IsKnown kind) before (changed ∷ after) (All-left (IsKnown kind) before (option ∷ after) allowed.known)
          (All-cons (IsKnown kind) changed after known (All-tail (IsKnown kind) option after (All-right (IsKnown kind) before (option ∷ after) allowed.known)));
      once = once_by_codes (before ++ option ∷ after) (before ++ changed ∷ after) codes allowed.once;
      reason = λ er.
          has_among 0xc1 (before ++ changed ∷ after)
          ∙ ap (among 0xc1) (sym codes)
          ∙ sym (has_among 0xc1 (before ++ option ∷ after))
          ∙ allowed.reason er;
    }
