use Rattle.std.proofs.Common.{◌≡◌, ◌<◌, ◌≤◌, ◌-◌, ◌+◌, ◌++◌, ◌∙◌, ℕ, List, [], ap, drop, get_or, length, slice_set, sym, take, arith}
use Rattle.std.proofs.lemmas.Result.{on_err_weaker, on_ok_weaker}
use Rattle.std.proofs.lemmas.List.{get_or_default}
use Rattle.clnp_segment.specs.declared.runs.Run.{Run}
use Rattle.clnp_segment.specs.steps.Spans.{end_of}
use Rattle.clnp_segment.proofs.Meetings.{lengthened, put_back}
use Rattle.clnp_segment.proofs.runs.lengthen.Goals as goal

pub returns-clause-ok : goal.returns-clause-ok
returns-clause-ok c r start octets =
    let runs : List Run = c.args.runs.now.items in
    let x : Run = c.replace-start.result in
    let y : Run = c.index.result.now in
    let nothing : Run = c.replace-start.new.dest in
    let low : c.args.first < length runs = omega (arith, c.requires.order, c.requires.within) in
    let there : x ≡ get_or runs c.args.first x = c.replace-start.ensures.value ∙ c.index_mut.ensures.value ∙ get_or_default runs c.args.first c.index_mut.result.now x low in
    let none : nothing.octets ≡ [] = ap (λ (run : Run). run.octets) c.replace-start.ensures.after ∙ c.new.ensures in
    let after : y ≡ get_or (slice_set runs c.args.first nothing) (c.args.last - 1) y = c.index.ensures in
    let before : x.start ≤ r.start = omega (arith, c.requires.start x, ap (λ (run : Run). run.start) there, start) in
    let long : length r.octets ≡ length c.args.octets.now = ap (λ (xs : List ℕ). length xs) octets in
    let reach : c.args.last - c.args.first ≡ 1 → end_of x ≤ end_of r = λ one. omega (arith, c.requires.end x one, ap end_of there, start, long) in
    let keep : c.from-2.result ≡ r.start - x.start = omega (arith, c.from-2.ensures, start) in
    let over : c.from.result + length c.args.octets.now - y.start ≡ end_of r - y.start = omega (arith, c.from.ensures, start, long) in
    let back : c.behind-back.result.now ≡ drop (end_of r - y.start) y.octets = c.behind-back.ensures ∙ ap (λ (n : ℕ). drop n y.octets) over in
    on_ok_weaker c.put_behind-outcome.result
    (λ is. lengthened runs c.args.first c.args.last x y nothing r c.put_behind-outcome.new.self c.requires.order c.requires.within there none after before reach
    (is
    ∙ ap (λ (n : ℕ). take n x.octets ++ (c.args.octets.now ++ c.behind-back.result.now)) keep
    ∙ ap (λ (xs : List ℕ). take (r.start - x.start) x.octets ++ (xs ++ c.behind-back.result.now)) (sym octets)
    ∙ ap (λ (xs : List ℕ). take (r.start - x.start) x.octets ++ (r.octets ++ xs)) back))
    c.put_behind-outcome.ensures.ok

pub returns-clause-err : goal.returns-clause-err
returns-clause-err c =
    let runs : List Run = c.args.runs.now.items in
    let x : Run = c.replace-start.result in
    let low : c.args.first < length runs = omega (arith, c.requires.order, c.requires.within) in
    let there : x ≡ get_or runs c.args.first x = c.replace-start.ensures.value ∙ c.index_mut.ensures.value ∙ get_or_default runs c.args.first c.index_mut.result.now x low in
    on_err_weaker c.put_behind-outcome.result
    (λ is. put_back runs c.args.first x c.replace-start.new.dest c.put_behind-outcome.new.self low there is)
    c.put_behind-outcome.ensures.err
