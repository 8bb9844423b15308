use Rattle.std.proofs.Common.{◌≡◌, ◌<◌, ◌++◌, ◌∙◌, ℕ, List, Ok, Err, Result, ap, length, refl, sym, arith}
use Rattle.std.specs.Prelude.{OnOk}
use Rattle.std.proofs.lemmas.List.{get_or_default, length-set}
use Rattle.clnp_segment.specs.declared.runs.Run.{Run}
use Rattle.clnp_segment.proofs.Meetings.{extended}
use Rattle.clnp_segment.proofs.runs.join.Goals as goal

on_ok : {T E P Q : Type 0} (result : Result T E) → (P → Q) → OnOk result P → OnOk result Q
on_ok (Ok x) f p = f p
on_ok (Err e) f p = tt

pub returns-then-end-from-clause-ok : goal.returns-then-end-from-clause-ok
returns-then-end-from-clause-ok c r start octets =
    let x : Run = c.index.result.now in
    let low : c.args.first < length c.args.runs.now.items = omega (arith, c.if-last-first-eq1.true, c.requires.within) in
    let same : c.index_mut.result.now ≡ x = c.index_mut.ensures.value ∙ get_or_default c.args.runs.now.items c.args.first c.index_mut.result.now x low ∙ sym c.index.ensures in
    on_ok c.append.result (λ is. extended c.args.runs.now.items c.args.first c.args.last x r c.append.new.run c.if-last-first-eq1.true c.requires.within c.index.ensures
    (sym c.end.ensures ∙ c.if-end-from.true ∙ c.from.ensures ∙ sym start)
    (is ∙ ap (λ (y : Run). record y { octets = y.octets ++ c.args.octets.now }) same ∙ ap (λ (all : List ℕ). record x { octets = x.octets ++ all }) (sym octets))) c.append.ensures.ok

pub take_out-requires-clause-within : goal.take_out-requires-clause-within
take_out-requires-clause-within c =
    let r : Run = record { start = c.args.at; octets = c.args.octets.now } in
    omega (arith, ap (λ (xs : List Run). length xs) (c.in_ok-span.ensures.ok r refl refl), length-set c.args.runs.now.items c.args.first, c.requires.within)
