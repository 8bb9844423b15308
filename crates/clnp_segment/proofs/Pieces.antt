-- Cutting step by step: whatever runs the rest is cut into, those before it come first.
use Rattle.std.proofs.Common.{◌≡◌, ℕ, ◌+◌, ◌<◌, ◌≤◌, false, true, List, [], ◌∷◌, ◌++◌, length, take, drop, refl, sym, ◌∙◌, ap, subst, append_assoc, arith, length-drop}
use Rattle.std.proofs.lemmas.List.{drop-drop, length-take-le, take-append-drop}
use Rattle.clnp_header.specs.declared.pdu.Pdu.{Pdu}
use Rattle.clnp_header.specs.declared.pdu.SegmentPart.{SegmentPart}
use Rattle.clnp_segment.specs.Cutting.{IsStep, Pieces, piece_of, piece_pdus}

-- so far these are done, up to that position
abbrev pub GoesOn : ℕ → ℕ → Pdu → SegmentPart → ℕ → List Pdu → Type 0
GoesOn room header pdu part at done =
    (rest : List (List ℕ)) → Pieces room header (drop at pdu.body) rest
    → (whole : List (List ℕ)) × Pieces room header pdu.body whole × (done ++ piece_pdus pdu part at rest ≡ piece_pdus pdu part 0 whole)

pub goes_first : (room header : ℕ) (pdu : Pdu) (part : SegmentPart) (done : List Pdu) → done ≡ [] → GoesOn room header pdu part 0 done
goes_first room header pdu part done none rest h = (rest, h, ap (λ (ps : List Pdu). ps ++ piece_pdus pdu part 0 rest) none)

-- one run more
pub goes_next : (room header step : ℕ) (pdu : Pdu) (part : SegmentPart) (at : ℕ) (done new : List Pdu) → at + step ≤ length pdu.body → IsStep room header step
    → room < header + length (drop at pdu.body) → new ≡ done ++ piece_of pdu part at false (take step (drop at pdu.body)) ∷ [] → GoesOn room header pdu part at done
    → GoesOn room header pdu part (at + step) new
goes_next room header step pdu part at done new within is above made before [] h = absurd h
goes_next room header step pdu part at done new within is above made before (next ∷ more) h =
    let rest = drop at pdu.body in
    let first = take step rest in
    let counted : length first ≡ step = length-take-le step rest (omega (arith, length-drop at pdu.body, within)) in
    let parted : rest ≡ first ++ drop (at + step) pdu.body = sym (take-append-drop step rest) ∙ ap (λ (xs : List ℕ). first ++ xs) (drop-drop step at pdu.body) in
    let whole = before (first ∷ next ∷ more) (above, subst (IsStep room header) (sym counted) is, (drop (at + step) pdu.body, parted, h)) in (
      whole.0,
      whole.1,
      ap (λ (ps : List Pdu). ps ++ piece_pdus pdu part (at + step) (next ∷ more)) made
          ∙ append_assoc done (piece_of pdu part at false first ∷ []) (piece_pdus pdu part (at + step) (next ∷ more))
          ∙ ap (λ (n : ℕ). done ++ piece_of pdu part at false first ∷ piece_pdus pdu part (at + n) (next ∷ more)) (sym counted)
          ∙ whole.2,
    )

-- the last run
pub goes_last : (room header : ℕ) (pdu : Pdu) (part : SegmentPart) (at : ℕ) (done new : List Pdu) → header + length (drop at pdu.body) ≤ room
    → new ≡ done ++ piece_of pdu part at true (drop at pdu.body) ∷ [] → GoesOn room header pdu part at done
    → (whole : List (List ℕ)) × Pieces room header pdu.body whole × (new ≡ piece_pdus pdu part 0 whole)
goes_last room header pdu part at done new fits made before =
    let whole = before (drop at pdu.body ∷ []) (fits, refl) in (whole.0, whole.1, made ∙ whole.2)
