use Rattle.clnp_entity.proofs.Faulty.{reported_source}
use Rattle.clnp_entity.proofs.received_frame.ReceivedFrame.faulty.Goals as goal

pub source_in-requires : goal.source_in-requires
source_in-requires c = rw c.header_of-header.ensures (reported_source c.args.self.now.octets.now c.args.fault c.requires c.if-not-fault.false)
