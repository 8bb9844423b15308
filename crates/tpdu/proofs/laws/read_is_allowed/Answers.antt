use Rattle.tpdu.proofs.Allowed.{is_allowed, first_is_allowed}
use Rattle.tpdu.proofs.laws.read_is_allowed.Goals as goal

pub returns : goal.returns
returns c = record { spelled = is_allowed; first = first_is_allowed }
