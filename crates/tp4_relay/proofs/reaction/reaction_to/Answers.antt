use Rattle.tp4_relay.specs.steps.Tables.{kept_of}
use Rattle.tp4_relay.proofs.Noted.{nothing_done}
use Rattle.tp4_relay.proofs.reaction.reaction_to.Goals as goal

pub returns-in_default : goal.returns-in_default
returns-in_default c = nothing_done (kept_of c.args.table.now) c.args.event.now c.in_default.not-Incoming c.in_default.not-End
