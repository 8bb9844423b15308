use Rattle.std.proofs.Common.{arith}
use Rattle.due_links.proofs.Empty.{no_ids}
use Rattle.due_links.proofs.Froms.{from_empty}
use Rattle.due_links.proofs.Maps.{none_ticks}
use Rattle.due_links.proofs.due.Due.new.Goals as goal

pub invariant_of-result : goal.invariant_of-result
invariant_of-result c = (
  no_ids c.in_ok-with_capacity.field-0 c.in_ok-no_keys.field-0.items c.in_ok-no_keys-2.field-0.items c.args.count c.in_ok-with_capacity.ensures.empty c.in_ok-no_keys.ensures c.in_ok-no_keys-2.ensures
      c.in_ok-with_capacity.ensures.capacity (omega (arith, c.ranges.count.fits)),
  from_empty _ c.args.count _ (none_ticks _ c.args.count c.in_ok-no_keys.field-0.items c.in_ok-no_keys.ensures),
)

pub returns : goal.returns
returns c = none_ticks _ c.args.count c.in_ok-no_keys.field-0.items c.in_ok-no_keys.ensures
