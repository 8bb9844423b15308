use Rattle.std.proofs.Common.{◌≡◌, ℕ, List, Option, count_by, is_some, length, sym, ◌∙◌, ap, arith}
use Rattle.std.proofs.lemmas.List.Sums.{count_by-le-length}
use Rattle.clnp_segment.specs.Joining.{Held}
use Rattle.clnp_segment.specs.steps.Places.{is_clash, written}
use Rattle.clnp_segment.proofs.Slots.{count_fresh, written_length}
use Rattle.clnp_segment.proofs.held.Joint.compare.Goals as goal

pub overflow_add-count : goal.overflow_add-count
overflow_add-count c =
    let slots = c.args.self.now.slots in
    let same : c.self.inside.runs ≡ slots = ap (λ (h : Held). h.slots) c.self.view_is in
    let counted = count_fresh c.self.inside.runs slots c.args.at c.in-Some.fresh c.args.octets.now c.requires same c.in-Some.ensures.empty in
    omega (
      arith,
      counted,
      c.count.ensures,
      ap (λ (xs : List (Option ℕ)). count_by is_some xs) same,
      c.len-all.ensures,
      ap (λ (xs : List (Option ℕ)). length xs) same,
      count_by-le-length is_some (written slots c.args.at c.args.octets.now),
      written_length slots c.args.at c.args.octets.now,
    )

pub returns-then-count-fresh : goal.returns-then-count-fresh
returns-then-count-fresh c =
    let slots = c.args.self.now.slots in
    let same : c.self.inside.runs ≡ slots = ap (λ (h : Held). h.slots) c.self.view_is in
    let counted = count_fresh c.self.inside.runs slots c.args.at c.in-Some.fresh c.args.octets.now c.requires same c.in-Some.ensures.empty in (
      ap (λ (xs : List (Option ℕ)). is_clash xs c.args.at c.args.octets.now) (sym same) ∙ c.in-Some.ensures.clash,
      omega (
        arith,
        counted,
        c.if-count-fresh.true,
        c.count.ensures,
        ap (λ (xs : List (Option ℕ)). count_by is_some xs) same,
        c.len-all.ensures,
        ap (λ (xs : List (Option ℕ)). length xs) same,
        written_length slots c.args.at c.args.octets.now,
      ),
    )

pub returns : goal.returns
returns c =
    let slots = c.args.self.now.slots in
    let same : c.self.inside.runs ≡ slots = ap (λ (h : Held). h.slots) c.self.view_is in
    let counted = count_fresh c.self.inside.runs slots c.args.at c.in-Some.fresh c.args.octets.now c.requires same c.in-Some.ensures.empty in (
      ap (λ (xs : List (Option ℕ)). is_clash xs c.args.at c.args.octets.now) (sym same) ∙ c.in-Some.ensures.clash,
      λ all. c.if-count-fresh.false (omega (
        arith,
        counted,
        all,
        c.count.ensures,
        ap (λ (xs : List (Option ℕ)). count_by is_some xs) same,
        c.len-all.ensures,
        ap (λ (xs : List (Option ℕ)). length xs) same,
        written_length slots c.args.at c.args.octets.now,
      )),
      counted,
    )
