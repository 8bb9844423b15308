use Rattle.tp4_relay.proofs.Noted.{named_none}
use Rattle.tp4_relay.proofs.table.named_by.Goals as goal

pub returns-in_default : goal.returns-in_default
returns-in_default c =
    named_none c.args.event.now c.in_default.not-Incoming c.in_default.not-Joined c.in_default.not-End c.in_default.not-Data c.in_default.not-Expedite c.in_default.not-Refuse c.in_default.not-Disconnect
