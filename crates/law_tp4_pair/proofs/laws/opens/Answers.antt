use Rattle.tp4_conn.proofs.Agreed.{agreed_within}
use Rattle.law_tp4_pair.proofs.Confirming.{confirms, incoming, indicates, opens}
use Rattle.law_tp4_pair.proofs.laws.opens.Goals as goal

pub returns : goal.returns
returns c = record { indicated = indicates; incoming = incoming; within = agreed_within; confirm = confirms; both = λ p asked octets a. opens p a.request a.since asked octets a.idle a.calling a.called a.proposed a.size a.size_asked }
