use Rattle.std.proofs.Common.{◌≡◌, ◌<◌, ◌-◌, ◌∙◌, ℕ, List, Some, None, ap, deque_len, get_or, length, refl, slice_get, subst, sym, arith}
use Rattle.std.proofs.lemmas.List.{length-replicate}
use Rattle.std.proofs.lemmas.Option.{slice_get_past, slice_get_read}
use Rattle.clnp_segment.specs.declared.runs.Run.{Run}
use Rattle.clnp_segment.specs.steps.Spans.{IsFirst, Meets}
use Rattle.clnp_segment.proofs.Meetings.{held_fits, meeting_next, meets_all, meets_before, meets_last, some_run}
use Rattle.clnp_segment.proofs.runs.meet.Goals as goal

pub returns-clause-met : goal.returns-clause-met
returns-clause-met c = λ r start long.
    let x : Run = c.in-Some.run'.now in
    let some : 0 < deque_len c.args.runs.now = c.in-Some.ensures.variant.0 refl in
    let is : x ≡ get_or c.args.runs.now.items (c.len-last.result - 1) x =
    c.in-Some.ensures.lookup ∙ ap (λ (n : ℕ). get_or c.args.runs.now.items (n - 1) x) (sym c.len-last.ensures) in
    meets_last c.args.runs.now.items r x _ _ _ _ _ c.requires.rise (omega (arith, c.len-last.ensures)) (omega (arith, some, c.len-last.ensures)) is
    (omega (arith, c.end.ensures, c.from.ensures, c.if-end-from.true, start)) (omega (arith, c.from-2.ensures)) (omega (arith, c.from-3.ensures, start, long))
    (omega (arith, ap (λ (xs : List ℕ). length xs) c.as_slice.ensures))

pub overflow_add-held : goal.overflow_add-held
overflow_add-held c =
    let x : Run = c.index-run.result.now in
    let got : slice_get c.args.runs.now.items c.loop-last.last ≡ Some x = slice_get_read c.args.runs.now.items (length c.args.runs.now.items) c.loop-last.last x refl (omega (arith, c.loop-last-test.true, c.len.ensures)) c.index-run.ensures in
    omega (
      arith,
      held_fits c.args.runs.now.items c.args.at c.args.count c.first_met-first.result c.loop-last.last c.loop-last.start c.loop-last.end c.loop-last.held x
          c.requires.rise c.loop-last.invariant.met got,
      c.end-in-loop-last.ensures,
      c.end-in-loop-last.type_inv,
      ap (λ (xs : List ℕ). length xs) c.as_slice-in-loop-last.ensures,
    )

pub loop-last-preserved : goal.loop-last-preserved
loop-last-preserved c =
    let x : Run = c.index-run.result.now in
    let got : slice_get c.args.runs.now.items c.loop-last.last ≡ Some x = slice_get_read c.args.runs.now.items (length c.args.runs.now.items) c.loop-last.last x refl (omega (arith, c.loop-last-test.true, c.len.ensures)) c.index-run.ensures in
    record {
      is_first = c.loop-last.invariant.is_first;
      met = λ r start long.
          meeting_next c.args.runs.now.items r c.first_met-first.result c.loop-last.last c.loop-last.start c.loop-last.end c.loop-last.held _ _ _ x c.requires.rise
          (subst (λ (n : ℕ). IsFirst c.args.runs.now.items n c.first_met-first.result) (sym start) c.loop-last.invariant.is_first) (c.loop-last.invariant.met r start long)
          got (omega (arith, c.from-in-loop-last.ensures, c.if-from-end.false)) (omega (arith, c.min-start.ensures, c.from-in-loop-last-2.ensures))
          (omega (arith, c.max-end.ensures, c.end-in-loop-last.ensures)) (omega (arith, ap (λ (xs : List ℕ). length xs) c.as_slice-in-loop-last.ensures));
    }

pub returns-then-from-end : goal.returns-then-from-end
returns-then-from-end c =
    let x : Run = c.index-run.result.now in
    let got : slice_get c.args.runs.now.items c.loop-last.last ≡ Some x = slice_get_read c.args.runs.now.items (length c.args.runs.now.items) c.loop-last.last x refl (omega (arith, c.loop-last-test.true, c.len.ensures)) c.index-run.ensures in
    let met : (r : Run) → r.start ≡ c.args.at → length r.octets ≡ c.args.count
    → Meets c.args.runs.now.items r c.first_met-first.result c.loop-last.last c.loop-last.start c.loop-last.end c.loop-last.held =
    λ r start long.
    meets_before c.args.runs.now.items r c.first_met-first.result c.loop-last.last c.loop-last.start c.loop-last.end c.loop-last.held x c.requires.rise
    (subst (λ (n : ℕ). IsFirst c.args.runs.now.items n c.first_met-first.result) (sym start) c.loop-last.invariant.is_first) (c.loop-last.invariant.met r start long)
    got (omega (arith, c.from-in-loop-last.ensures, c.if-from-end.true)) in
    let one = met (some_run c.args.at c.args.count) refl (length-replicate c.args.count 0) in
    record { order = one.meeting.order; within = one.meeting.within; met = met }

pub returns-after-loop-last : goal.returns-after-loop-last
returns-after-loop-last c =
    let got : slice_get c.args.runs.now.items c.loop-last.last ≡ None = slice_get_past c.args.runs.now.items c.loop-last.last (omega (arith, c.loop-last-test.false, c.len.ensures)) in
    let met : (r : Run) → r.start ≡ c.args.at → length r.octets ≡ c.args.count
    → Meets c.args.runs.now.items r c.first_met-first.result c.loop-last.last c.loop-last.start c.loop-last.end c.loop-last.held =
    λ r start long.
    meets_all c.args.runs.now.items r c.first_met-first.result c.loop-last.last c.loop-last.start c.loop-last.end c.loop-last.held c.requires.rise
    (subst (λ (n : ℕ). IsFirst c.args.runs.now.items n c.first_met-first.result) (sym start) c.loop-last.invariant.is_first) (c.loop-last.invariant.met r start long)
    got in
    let one = met (some_run c.args.at c.args.count) refl (length-replicate c.args.count 0) in
    record { order = one.meeting.order; within = one.meeting.within; met = met }
