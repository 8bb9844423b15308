use Rattle.clnp_system.proofs.Passing.{records_from}
use Rattle.clnp_system.proofs.forwarding.record_title.Goals as goal

pub returns : goal.returns
returns c = let h = c.record_here.ensures in records_from c.args.title.now c.args.value.now c.record_here.new.value c.requires h.written h.full h.ended
