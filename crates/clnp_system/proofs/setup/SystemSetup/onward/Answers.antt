use Rattle.clnp_system.proofs.Writable.{read_known}
use Rattle.clnp_system.proofs.setup.SystemSetup.onward.Goals as goal

pub onward_options-requires : goal.onward_options-requires
onward_options-requires c = (c.args.pdu.now.kind, read_known c.args.pdu.now c.requires.read)
