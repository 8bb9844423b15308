use Rattle.std.proofs.Common.{refl, Some, None}
use Rattle.clnp_options.specs.Options.{listed}
use Rattle.capture_show.proofs.Frames.{discard_found}
use Rattle.capture_show.proofs.pdu.discard_of.Goals as goal

pub returns-in-Some : goal.returns-in-Some
returns-in-Some c = discard_found (listed c.args.pdu.now.options) (Some c.in-Some.value.now) _ c.discard_in.ensures c.in-Some.ensures

pub returns-in-None : goal.returns-in-None
returns-in-None c = discard_found (listed c.args.pdu.now.options) None (0, 0) refl c.in-None.ensures
