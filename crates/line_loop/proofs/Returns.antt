-- The carriage return at the end of a line.
use Rattle.std.proofs.Common.{◌≡◌, ◌≢◌, ◌==◌, true, ℕ, Bool, length, arith, List, [], ◌∷◌, ◌++◌, refl, sym, ◌∙◌, ap, if◌then◌else◌}
use Rattle.std.proofs.lemmas.Bool.{ne_eqb}
use Rattle.std.proofs.lemmas.Bool.Decides.{nat_tests}
use Rattle.line_loop.specs.Lines.{without_return}

return_dropped : (front : List ℕ) → front ≡ without_return (front ++ 13 ∷ [])
return_dropped [] = refl
return_dropped (octet ∷ []) = refl
return_dropped (octet ∷ next ∷ front) = ap (λ (line : List ℕ). octet ∷ line) (return_dropped (next ∷ front))

line_kept : (front : List ℕ) (last : ℕ) → last ≢ 13 → front ++ last ∷ [] ≡ without_return (front ++ last ∷ [])
line_kept [] last other = sym (ap (λ (b : Bool). if b then [] else last ∷ []) (ne_eqb last 13 other))
line_kept (octet ∷ []) last other = ap (λ (line : List ℕ). octet ∷ line) (line_kept [] last other)
line_kept (octet ∷ next ∷ front) last other = ap (λ (line : List ℕ). octet ∷ line) (line_kept (next ∷ front) last other)

pub drops_return : (line front : List ℕ) (last : ℕ) → line ≡ front ++ last ∷ [] → last ≡ 13 → front ≡ without_return line
drops_return line front last parts is =
    return_dropped front ∙ ap without_return (ap (λ (octet : ℕ). front ++ octet ∷ []) (sym is) ∙ sym parts)

pub keeps_line : (line front : List ℕ) (last : ℕ) → line ≡ front ++ last ∷ [] → last ≢ 13 → line ≡ without_return line
keeps_line line front last parts other = parts ∙ line_kept front last other ∙ ap without_return (sym parts)

pub none_to_drop : (line : List ℕ) → line ≡ [] → line ≡ without_return line
none_to_drop line none = none ∙ ap without_return (sym none)

-- a line that came in one piece
none_before : (held shown part : List ℕ) → shown ≡ held → true ≡ (length shown == 0) → part ≡ held ++ part
none_before [] shown part same none = refl
none_before (octet ∷ held) shown part same none = absurd (grind (arith, nat_tests, none, ap length same))

pub line_here : (held shown part line : List ℕ) → shown ≡ held → true ≡ (length shown == 0) → line ≡ without_return part → line ≡ without_return (held ++ part)
line_here held shown part line same none is = is ∙ ap without_return (none_before held shown part same none)

-- a line that was put together
pub line_joined : (held whole shown part line : List ℕ) → whole ≡ held ++ part → shown ≡ whole → line ≡ without_return shown → line ≡ without_return (held ++ part)
line_joined held whole shown part line joined same is = is ∙ ap without_return (same ∙ joined)
