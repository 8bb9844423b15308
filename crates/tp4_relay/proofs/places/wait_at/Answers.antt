use Rattle.std.proofs.Common.{Some}
use Rattle.tp4_relay.specs.declared.pair.Heading.TheVariants.{On}
use Rattle.tp4_relay.specs.Pairs.{Waits}
use Rattle.tp4_relay.specs.steps.Marks.{unit_of}
use Rattle.tp4_relay.proofs.Placed.{outbounds_still}
use Rattle.tp4_relay.proofs.places.wait_at.Goals as goal

pub wait_back-requires : goal.wait_back-requires
wait_back-requires c = outbounds_still (Some (c.args.end, Waits On (unit_of c.args.mark c.args.octets.now))) c.args.pairs.now c.wait_on.new.pairs c.in_ok-wait_on.ensures.ok c.requires.outbound
