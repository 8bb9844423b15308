use Rattle.std.proofs.Common.{◌≡◌, ◌∙◌, ℕ, ◌<◌, ap, get_or, length}
use Rattle.std.proofs.lemmas.List.{get_or_default}
use Rattle.std.proofs.lemmas.List.Elements.{All-get_or}
use Rattle.due_links.specs.Entries.{Entries}
use Rattle.esis_tables.proofs.Keeping.{keeping_more}
use Rattle.esis_tables.proofs.address_table.keep_noted.Goals as goal

pub loop-place-preserved : goal.loop-place-preserved
loop-place-preserved c =
    let place : ℕ = get_or c.args.places.now c.loop-place.place-index 0 in
    let same : place ≡ get_or c.args.places.now c.loop-place.place-index place =
    get_or_default c.args.places.now c.loop-place.place-index 0 place c.loop-place-test.true in (
      keeping_more c.args.rows.now.items c.args.places.now c.loop-place.place-index place c.args.due.now.ticks c.loop-place.due.ticks c.set.new.self.ticks c.deadline_at.result
          c.loop-place-test.true same
          (All-get_or (λ (place : ℕ). place < length c.args.due.now.ticks) c.args.places.now c.loop-place.place-index 0 c.loop-place-test.true c.requires)
          c.deadline_at.ensures (ap (λ (e : Entries). e.ticks) c.set.ensures) c.loop-place.invariant.0,
      ap (λ (e : Entries). e.most) c.set.ensures ∙ c.loop-place.invariant.1,
    )
