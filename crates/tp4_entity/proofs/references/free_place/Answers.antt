use Rattle.std.proofs.Common.{refl, sym, arith}
use Rattle.std.proofs.lemmas.Option.{slice_get_read}
use Rattle.tp4_entity.specs.References.{is_free_place}
use Rattle.tp4_entity.proofs.PlaceLaws.{behind_at, no_position, one_more, position_is}
use Rattle.tp4_entity.proofs.references.free_place.Goals as goal

pub is_free_place-requires : goal.is_free_place-requires
is_free_place-requires g c =
    behind_at c.args.now c.args.places.now c.loop-at.at c.index-places-at.result c.requires
    (slice_get_read c.args.places.now _ c.loop-at.at c.index-places-at.result refl c.loop-at-test.true c.index-places-at.is)

pub returns-then-is_free_place-clause-value : goal.returns-then-is_free_place-clause-value
returns-then-is_free_place-clause-value g c =
    let there = slice_get_read c.args.places.now _ c.loop-at.at c.index-places-at.result refl c.loop-at-test.true c.index-places-at.is in
    sym (position_is (is_free_place c.args.now) c.args.places.now c.loop-at.at c.index-places-at.result c.loop-at.invariant there (sym c.if-is_free_place.ensures))

pub returns-clause-value : goal.returns-clause-value
returns-clause-value g c =
    sym (no_position (is_free_place c.args.now) c.args.places.now (λ k place low get. c.loop-at.invariant k place (omega (arith, low, c.loop-at-test.false)) get))

pub loop-at-preserved : goal.loop-at-preserved
loop-at-preserved g c =
    let there = slice_get_read c.args.places.now _ c.loop-at.at c.index-places-at.result refl c.loop-at-test.true c.index-places-at.is in
    one_more (is_free_place c.args.now) c.args.places.now c.loop-at.at c.index-places-at.result c.loop-at.invariant there (sym c.if-is_free_place.ensures)
