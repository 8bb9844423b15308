use Rattle.capture_decode.proofs.Exclusion.{capture_not_fault}
use Rattle.capture_decode.proofs.Totality.{capture_or_fault}
use Rattle.capture_decode.proofs.laws.capture_or_fault.Goals as goal

pub returns-clause-one : goal.returns-clause-one
returns-clause-one c = capture_or_fault

pub returns-clause-not_both : goal.returns-clause-not_both
returns-clause-not_both c octets records offset cause h k = capture_not_fault octets records k.0 offset cause h k.1
