use Rattle.tp4_sending.proofs.Dues.{least}
use Rattle.tp4_sending.proofs.sending.Sending.next_due.Goals as goal

pub returns-clause-least : goal.returns-clause-least
returns-clause-least c = λ now is_open. least c.args.self.now now is_open
