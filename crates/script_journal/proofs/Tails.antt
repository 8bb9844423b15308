-- A line is its first field, and each further one behind a blank.
use Rattle.std.proofs.Common.{◌≡◌, ℕ, List, [], ◌∷◌, ◌++◌, refl, sym, ◌∙◌, ap, append_assoc}
use Rattle.std.specs.Prelude.{Result, Ok, Err, OnOk}
use Rattle.osi_base.specs.declared.refusal.NoMemory.{NoMemory}
use Rattle.script_journal.specs.declared.line_fields.LineField.{LineField}
use Rattle.script_lines.specs.Tags.{Tags}
use Rattle.script_journal.specs.Cells.{line}
use Rattle.script_journal.specs.steps.Written.{tail, piece_text, pieces_text}

pub line_tail : (field : List ℕ) (fields : List (List ℕ)) → line (field ∷ fields) ≡ field ++ tail fields
line_tail field [] = refl
line_tail field (next ∷ fields) = ap (λ (more : List ℕ). field ++ 32 ∷ more) (line_tail next fields)

-- the first field and then the others make the line
pub written : (tags : Tags) (pieces : List LineField) (first : LineField) (others : List LineField) (old mid new : List ℕ) (result : Result Unit NoMemory)
    → pieces ≡ first ∷ others → mid ≡ old ++ piece_text tags first → OnOk result (new ≡ mid ++ tail (pieces_text tags others))
    → OnOk result (new ≡ old ++ line (pieces_text tags pieces))
written tags pieces first others old mid new (Ok done) is front h =
    h ∙ ap (λ (m : List ℕ). m ++ tail (pieces_text tags others)) front
    ∙ append_assoc old (piece_text tags first) (tail (pieces_text tags others))
    ∙ ap (λ (l : List ℕ). old ++ l) (sym (line_tail (piece_text tags first) (pieces_text tags others)))
    ∙ ap (λ (ps : List LineField). old ++ line (pieces_text tags ps)) (sym is)
written tags pieces first others old mid new (Err refusal) is front h = h

-- the same by texts that are equal
pub told_by : (texts wanted : List (List ℕ)) (old new : List ℕ) (result : Result Unit NoMemory)
    → texts ≡ wanted → OnOk result (new ≡ old ++ line texts) → OnOk result (new ≡ old ++ line wanted)
told_by texts wanted old new (Ok done) is h = h ∙ ap (λ (t : List (List ℕ)). old ++ line t) is
told_by texts wanted old new (Err refusal) is h = h

-- a field with the octet behind it, and then the rest
pub behind : (field : List ℕ) (mark : ℕ) (given old mid new rest : List ℕ) (result : Result Unit NoMemory)
    → given ≡ field → mid ≡ old ++ (given ++ mark ∷ []) → OnOk result (new ≡ mid ++ rest) → OnOk result (new ≡ old ++ (field ++ mark ∷ rest))
behind field mark given old mid new rest (Ok done) same is h =
    h ∙ ap (λ (m : List ℕ). m ++ rest) is
    ∙ append_assoc old (given ++ mark ∷ []) rest
    ∙ ap (λ (l : List ℕ). old ++ l) (append_assoc given (mark ∷ []) rest)
    ∙ ap (λ (f : List ℕ). old ++ (f ++ mark ∷ rest)) same
behind field mark given old mid new rest (Err refusal) same is h = h

-- a text, and then the rest
pub headed : (text given old mid new rest : List ℕ) (result : Result Unit NoMemory)
    → given ≡ text → mid ≡ old ++ given → OnOk result (new ≡ mid ++ rest) → OnOk result (new ≡ old ++ (text ++ rest))
headed text given old mid new rest (Ok done) same is h =
    h ∙ ap (λ (m : List ℕ). m ++ rest) is ∙ append_assoc old given rest ∙ ap (λ (t : List ℕ). old ++ (t ++ rest)) same
headed text given old mid new rest (Err refusal) same is h = h

-- the last text, by one that is equal
pub ended : (given text old new : List ℕ) (result : Result Unit NoMemory) → given ≡ text → OnOk result (new ≡ old ++ given) → OnOk result (new ≡ old ++ text)
ended given text old new (Ok done) same h = h ∙ ap (λ (t : List ℕ). old ++ t) same
ended given text old new (Err refusal) same h = h
