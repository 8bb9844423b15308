use Rattle.std.proofs.Common.{◌≡◌, ◌+◌, ◌-◌, ◌<◌, ◌≤◌, ℕ, List, [], ◌∷◌, ◌++◌, take, drop, length, false, true, ◌∙◌, ap, subst, arith, length-drop, Some}
use Rattle.std.proofs.lemmas.List.{take_all}
use Rattle.clnp_header.specs.declared.pdu.Pdu.{Pdu}
use Rattle.clnp_header.specs.declared.pdu.SegmentPart.{SegmentPart}
use Rattle.clnp_segment.specs.Cutting.{piece_of, Pieces}
use Rattle.clnp_segment.proofs.Pieces.{goes_next, goes_last}
use Rattle.clnp_segment.proofs.cutting.pieces.Goals as goal

pub loop-at-preserved : goal.loop-at-preserved
loop-at-preserved c =
    let pdu = c.args.pdu.now in
    let part = c.args.part in
    let at = c.loop-at.at in
    let step = c.step_for-step.result in
    let done = c.loop-at.pieces.items in
    let is = c.step_for-step.ensures.step in
    let body : length c.as_slice-body.result.now ≡ length pdu.body = ap (λ (xs : List ℕ). length xs) c.as_slice-body.ensures in
    let above : c.args.room < c.args.header + length (drop at pdu.body) = omega (arith, c.loop-at-test.true, length-drop at pdu.body, c.loop-at.invariant.0, body, c.requires.short, c.requires.least) in
    let within : at + step ≤ length pdu.body = omega (arith, above, length-drop at pdu.body, c.loop-at.invariant.0, is.fits) in
    let one : c.in_ok-with_body.field-0 ≡ piece_of pdu part at false (take step (drop at pdu.body)) = c.in_ok-with_body.ensures
    ∙ ap (λ (segment : SegmentPart). record pdu { segment = Some segment; body = take (at + step - at) (drop at c.as_slice-body.result.now) }) c.part_at-segment.ensures
    ∙ ap (λ (xs : List ℕ). piece_of pdu part at false xs)
    (ap (λ (n : ℕ). take n (drop at c.as_slice-body.result.now)) (omega arith) ∙ ap (λ (xs : List ℕ). take step (drop at xs)) c.as_slice-body.ensures) in (
      within,
      goes_next c.args.room c.args.header step pdu part at done c.push.new.self.items within is above
          (c.in_ok-push.ensures.items ∙ ap (λ (p : Pdu). done ++ p ∷ []) one) c.loop-at.invariant.1,
    )

pub returns : goal.returns
returns c =
    let pdu = c.args.pdu.now in
    let part = c.args.part in
    let at = c.loop-at.at in
    let done = c.loop-at.pieces.items in
    let body : length c.as_slice-body.result.now ≡ length pdu.body = ap (λ (xs : List ℕ). length xs) c.as_slice-body.ensures in
    let fits : c.args.header + length (drop at pdu.body) ≤ c.args.room = omega (arith, c.loop-at-test.false, length-drop at pdu.body, c.loop-at.invariant.0, body, c.requires.short, c.requires.least) in
    let one : c.in_ok-with_body-2.field-0 ≡ piece_of pdu part at true (drop at pdu.body) = c.in_ok-with_body-2.ensures
    ∙ ap (λ (segment : SegmentPart). record pdu { segment = Some segment; body = take (length c.as_slice-body.result.now - at) (drop at c.as_slice-body.result.now) }) c.part_at-last.ensures
    ∙ ap (λ (xs : List ℕ). piece_of pdu part at true xs)
    (take_all (length c.as_slice-body.result.now - at) (drop at c.as_slice-body.result.now) (omega (arith, length-drop at c.as_slice-body.result.now)) ∙ ap (λ (xs : List ℕ). drop at xs) c.as_slice-body.ensures) in
    let all = goes_last c.args.room c.args.header pdu part at done c.push-2.new.self.items fits (c.in_ok-push-2.ensures.items ∙ ap (λ (p : Pdu). done ++ p ∷ []) one) c.loop-at.invariant.1 in
    (all.0, subst (λ (n : ℕ). Pieces c.args.room n pdu.body all.0) c.requires.header all.1, all.2)
