use Rattle.std.proofs.Common.{◌≡◌, ◌<◌, get_or, length, refl, arith}
use Rattle.std.proofs.lemmas.List.{get_or_read}
use Rattle.due_links.proofs.Listings.{place_fits, renumbered_more}
use Rattle.due_links.proofs.list.renumber.Goals as goal

pub overflow_cast-place : goal.overflow_cast-place
overflow_cast-place c =
    let low : c.loop-place.place < length c.loop-place.ids.items = omega (arith, c.loop-place-test.true, c.loop-place.invariant.0.count) in
    let h = (place_fits c.args.due.now c.loop-place.due c.args.ids.now.items c.loop-place.ids.items c.loop-place.place low c.requires.few c.loop-place.invariant.0).1 in
    omega (arith, h)

pub pass-requires-clause-to : goal.pass-requires-clause-to
pass-requires-clause-to c =
    let low : c.loop-place.place < length c.loop-place.ids.items = omega (arith, c.loop-place-test.true, c.loop-place.invariant.0.count) in
    (place_fits c.args.due.now c.loop-place.due c.args.ids.now.items c.loop-place.ids.items c.loop-place.place low c.requires.few c.loop-place.invariant.0).0

pub overflow_cast-place-in-loop-place : goal.overflow_cast-place-in-loop-place
overflow_cast-place-in-loop-place c =
    let low : c.loop-place.place < length c.loop-place.ids.items = omega (arith, c.loop-place-test.true, c.loop-place.invariant.0.count) in
    let h = (place_fits c.args.due.now c.loop-place.due c.args.ids.now.items c.loop-place.ids.items c.loop-place.place low c.requires.few c.loop-place.invariant.0).1 in
    omega (arith, h)

pub loop-place-preserved : goal.loop-place-preserved
loop-place-preserved c =
    let ids = c.loop-place.ids.items in
    let low : c.loop-place.place < length ids = omega (arith, c.loop-place-test.true, c.loop-place.invariant.0.count) in
    let is : c.index-id.result.now ≡ get_or ids c.loop-place.place 0 = get_or_read ids c.loop-place.place c.index-id.result.now low c.index-id.ensures 0 in (
      renumbered_more c.args.due.now c.loop-place.due c.pass.new.due c.args.ids.now.items ids _ c.loop-place.place c.index-id.result.now low is c.pass.ensures refl c.loop-place.invariant.0,
      c.loop-place.invariant.1,
    )
