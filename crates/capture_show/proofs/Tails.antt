-- A line is its first field, and each further one behind a blank.
use Rattle.std.proofs.Common.{◌≡◌, ℕ, List, [], ◌∷◌, ◌++◌, refl, sym, ◌∙◌, ap, append_assoc}
use Rattle.std.specs.Prelude.{map, Result, Ok, Err, OnOk}
use Rattle.osi_base.specs.declared.refusal.NoMemory.{NoMemory}
use Rattle.capture_show.specs.declared.field.Field.{Field}
use Rattle.capture_show.specs.Texts.{line}
use Rattle.capture_show.specs.steps.Written.{before, tail, field_text}

line_tail : (field : List ℕ) (fields : List (List ℕ)) → line (field ∷ fields) ≡ field ++ tail fields
line_tail field [] = refl
line_tail field (next ∷ fields) = ap (λ (more : List ℕ). field ++ 32 ∷ more) (line_tail next fields)

-- the first field and then the others make the line
pub written : (fields : List Field) (first : Field) (others : List Field) (old mid new : List ℕ) (result : Result Unit NoMemory)
    → fields ≡ first ∷ others → mid ≡ old ++ field_text first → OnOk result (new ≡ mid ++ tail (map field_text others))
    → OnOk result (new ≡ old ++ line (map field_text fields))
written fields first others old mid new (Ok done) is front h =
    h ∙ ap (λ (m : List ℕ). m ++ tail (map field_text others)) front
    ∙ append_assoc old (field_text first) (tail (map field_text others))
    ∙ ap (λ (l : List ℕ). old ++ l) (sym (line_tail (field_text first) (map field_text others)))
    ∙ ap (λ (xs : List Field). old ++ line (map field_text xs)) (sym is)
written fields first others old mid new (Err refusal) is front h = h

-- ---- texts with a blank behind each, and the last two fields of a line

line_before : (texts : List (List ℕ)) (parameters count : List ℕ) → line (texts ++ parameters ∷ count ∷ []) ≡ before texts ++ (parameters ++ 32 ∷ (count ++ 10 ∷ []))
line_before [] parameters count = refl
line_before (text ∷ []) parameters count = sym (append_assoc text (32 ∷ []) (parameters ++ 32 ∷ (count ++ 10 ∷ [])))
line_before (text ∷ next ∷ texts) parameters count =
    ap (λ (more : List ℕ). text ++ 32 ∷ more) (line_before (next ∷ texts) parameters count)
    ∙ sym (append_assoc text (32 ∷ before (next ∷ texts)) (parameters ++ 32 ∷ (count ++ 10 ∷ [])))

pub ended : (texts : List (List ℕ)) (parameters count old mid all new : List ℕ) (result : Result Unit NoMemory) → mid ≡ old ++ before texts → all ≡ mid ++ parameters
    → OnOk result (new ≡ all ++ 32 ∷ (count ++ 10 ∷ [])) → OnOk result (new ≡ old ++ line (texts ++ parameters ∷ count ∷ []))
ended texts parameters count old mid all new (Ok done) m a h =
    h ∙ ap (λ (xs : List ℕ). xs ++ 32 ∷ (count ++ 10 ∷ [])) (a ∙ ap (λ (xs : List ℕ). xs ++ parameters) m)
    ∙ append_assoc (old ++ before texts) parameters (32 ∷ (count ++ 10 ∷ []))
    ∙ append_assoc old (before texts) (parameters ++ 32 ∷ (count ++ 10 ∷ []))
    ∙ ap (λ (xs : List ℕ). old ++ xs) (sym (line_before texts parameters count))
ended texts parameters count old mid all new (Err refusal) m a h = h

-- the fields of a DT PDU up to its options
pub before_options : (old ways flags blank segment all : List ℕ) (word to from lifetime letters part : List ℕ) → ways ≡ old ++ (word ++ 32 ∷ before (to ∷ from ∷ lifetime ∷ []))
    → flags ≡ ways ++ letters → blank ≡ flags ++ 32 ∷ [] → segment ≡ blank ++ part → all ≡ segment ++ 32 ∷ []
    → all ≡ old ++ before (word ∷ to ∷ from ∷ lifetime ∷ letters ∷ part ∷ [])
before_options old ways flags blank segment all word to from lifetime letters part w f b s a =
    let grouped : ((((old ++ (word ++ 32 ∷ (to ++ 32 ∷ (from ++ 32 ∷ (lifetime ++ 32 ∷ []))))) ++ letters) ++ 32 ∷ []) ++ part) ++ 32 ∷ []
    ≡ old ++ (word ++ 32 ∷ (to ++ 32 ∷ (from ++ 32 ∷ (lifetime ++ 32 ∷ (letters ++ 32 ∷ (part ++ 32 ∷ [])))))) = simp append_assoc in
    a ∙ ap (λ (xs : List ℕ). xs ++ 32 ∷ []) (s ∙ ap (λ (xs : List ℕ). xs ++ part) (b ∙ ap (λ (xs : List ℕ). xs ++ 32 ∷ []) (f ∙ ap (λ (xs : List ℕ). xs ++ letters) w))) ∙ grouped
