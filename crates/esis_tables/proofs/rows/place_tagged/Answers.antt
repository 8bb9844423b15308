use Rattle.std.proofs.Common.{◌+◌, arith}
use Rattle.esis_tables.proofs.Tagging.{found_nowhere, found_there, none_yet, one_more, passed}
use Rattle.esis_tables.proofs.rows.place_tagged.Goals as goal

pub loop-place-init : goal.loop-place-init
loop-place-init c = (
  c.next_tagged-place.ensures.high,
  passed c.args.rows.now.items c.args.tags.now c.args.address.now c.tag_of-tag.result 0 c.next_tagged-place.result c.tag_of-tag.ensures c.requires
      c.next_tagged-place.ensures (none_yet c.args.rows.now.items c.args.address.now),
)

pub returns-then-eq : goal.returns-then-eq
returns-then-eq c = found_there c.args.rows.now.items c.args.address.now c.loop-place.place c.index.result.now c.loop-place.invariant.1
    (omega (arith, c.loop-place-test.true)) (cc)

pub loop-place-preserved : goal.loop-place-preserved
loop-place-preserved c = (
  c.next_tagged-place-in-loop-place.ensures.high,
  passed c.args.rows.now.items c.args.tags.now c.args.address.now c.tag_of-tag.result (c.loop-place.place + 1) c.next_tagged-place-in-loop-place.result
      c.tag_of-tag.ensures c.requires c.next_tagged-place-in-loop-place.ensures
      (one_more c.args.rows.now.items c.args.address.now c.loop-place.place c.index.result.now c.loop-place.invariant.1
      (omega (arith, c.loop-place-test.true)) (cc)),
)

pub returns : goal.returns
returns c = found_nowhere c.args.rows.now.items c.args.address.now c.loop-place.place c.loop-place.invariant.1
    (omega (arith, c.loop-place-test.false))
