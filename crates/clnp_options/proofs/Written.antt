-- Options written one after another: the octets between the first and the last are spelled, and all others stay.
use Rattle.std.proofs.Common.{◌≡◌, ℕ, ◌+◌, ◌≤◌, List, [], ◌∷◌, ◌++◌, length, take, drop, refl, sym, ap, ◌∙◌, arith}
use Rattle.std.specs.Prelude.{slice_range}
use Rattle.std.proofs.lemmas.List.{append_assoc, length-append, length-take-le, length-drop, take_at, drop_at, take-append-drop, drop-drop}
use Rattle.clnp_options.specs.declared.reason.PduKind.{PduKind}
use Rattle.pdu_parts.specs.Parameter.{Parameter, spelled_one, spelled}
use Rattle.clnp_options.specs.Grammar.{AreAllowed, IsOptions}
use Rattle.clnp_options.specs.Writing.{AreWritten}

-- what the octets are after the options were written
abbrev pub overwritten : List ℕ → ℕ → List Parameter → List ℕ
overwritten old position options = take position old ++ (spelled options ++ drop (position + length (spelled options)) old)

-- what was written in front, and what then follows it
pub overwritten_is : (old new : List ℕ) (position : ℕ) (options : List Parameter) → AreWritten old position options new
    → position + length (spelled options) ≤ length old → new ≡ overwritten old position options
overwritten_is old new position [] written le =
    written ∙ sym (ap (λ (n : ℕ). take position old ++ drop n old) (omega arith) ∙ take-append-drop position old)
overwritten_is old new position (option ∷ options) written le =
    let here : List ℕ = spelled_one option in
    let count : ℕ = length option.value + 2 in
    let mid : List ℕ = written.0 in
    let front : List ℕ = take position old ++ here in
    let rest : List ℕ = drop (position + count) old in
    let later : ℕ = length (spelled options) in
    let total : length (spelled (option ∷ options)) ≡ count + later = omega (arith, length-append option.value (spelled options)) in
    let front_len : length front ≡ position + count = length-append (take position old) here ∙ omega (arith, length-take-le position old (omega arith)) in
    let mid_is : mid ≡ front ++ rest = written.1 ∙ sym (append_assoc (take position old) here rest) in
    let mid_len : length mid ≡ length old = ap length mid_is ∙ length-append front rest ∙ omega (arith, front_len, length-drop (position + count) old, total) in
    let others : new ≡ overwritten mid (position + count) options =
    overwritten_is mid new (position + count) options written.2 (omega (arith, mid_len, total)) in
    let taken : take (position + count) mid ≡ front = ap (take (position + count)) mid_is ∙ take_at front rest (position + count) front_len in
    let dropped : drop (position + count) mid ≡ rest = ap (drop (position + count)) mid_is ∙ drop_at front rest (position + count) front_len in
    let after : drop ((position + count) + later) mid ≡ drop (position + length (spelled (option ∷ options))) old =
    sym (drop-drop later (position + count) mid) ∙ ap (drop later) dropped ∙ drop-drop later (position + count) old
    ∙ ap (λ (n : ℕ). drop n old) (omega (arith, total)) in
    others
    ∙ ap (λ (xs : List ℕ). xs ++ (spelled options ++ drop ((position + count) + later) mid)) taken
    ∙ ap (λ (xs : List ℕ). front ++ (spelled options ++ xs)) after
    ∙ append_assoc (take position old) here (spelled options ++ drop (position + length (spelled (option ∷ options))) old)
    ∙ ap (λ (xs : List ℕ). take position old ++ xs) (sym (append_assoc here (spelled options) (drop (position + length (spelled (option ∷ options))) old)))

pub written_spelled : (old new : List ℕ) (position : ℕ) (options : List Parameter) → AreWritten old position options new
    → position + length (spelled options) ≤ length old → slice_range new position (position + length (spelled options)) ≡ spelled options
written_spelled old new position options written le =
    let rest : List ℕ = drop (position + length (spelled options)) old in
    let len : length (take position old) ≡ position = length-take-le position old (omega arith) in
    let dropped : drop position new ≡ spelled options ++ rest =
    ap (drop position) (overwritten_is old new position options written le) ∙ drop_at (take position old) (spelled options ++ rest) position len in
    ap (λ (n : ℕ). take n (drop position new)) (omega arith)
    ∙ ap (take (length (spelled options))) dropped
    ∙ take_at (spelled options) rest (length (spelled options)) refl

pub written_kept : (old new : List ℕ) (position : ℕ) (options : List Parameter) → AreWritten old position options new
    → position + length (spelled options) ≤ length old
    → (take position new ≡ take position old) × (drop (position + length (spelled options)) new ≡ drop (position + length (spelled options)) old)
written_kept old new position options written le =
    let rest : List ℕ = drop (position + length (spelled options)) old in
    let front : List ℕ = take position old ++ spelled options in
    let is = overwritten_is old new position options written le in
    let len : length (take position old) ≡ position = length-take-le position old (omega arith) in
    let front_len : length front ≡ position + length (spelled options) = length-append (take position old) (spelled options) ∙ omega (arith, len) in (
      ap (take position) is ∙ take_at (take position old) (spelled options ++ rest) position len,
      ap (drop (position + length (spelled options))) (is ∙ sym (append_assoc (take position old) (spelled options) rest))
          ∙ drop_at front rest (position + length (spelled options)) front_len,
    )

pub written_read : (kind : PduKind) (old new : List ℕ) (position : ℕ) (options : List Parameter) → AreAllowed kind options → AreWritten old position options new
    → position + length (spelled options) ≤ length old
    → IsOptions kind (slice_range new position (position + length (spelled options))) options
written_read kind old new position options allowed written le =
    record { parts = written_spelled old new position options written le; allowed = allowed }
