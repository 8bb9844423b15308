use Rattle.esis_pdu.specs.Lent.{listed}
use Rattle.esis_tables.proofs.Fronts.{front_more, front_whole}
use Rattle.esis_tables.proofs.neighbours.names_of.Goals as goal

pub loop-address-preserved : goal.loop-address-preserved
loop-address-preserved c = front_more (listed c.args.addresses.now) c.loop-address.names.items c.push.new.self.items c.in-Some.address c.loop-address.invariant
    (cc) c.in_ok-push.ensures.items

pub returns : goal.returns
returns c = front_whole (listed c.args.addresses.now) c.loop-address.names.items c.loop-address.invariant (cc)
