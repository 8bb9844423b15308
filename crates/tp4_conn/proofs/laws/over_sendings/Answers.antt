use Rattle.tp4_conn.proofs.Propers.{connected_row, called_row, step_row, all_proper}
use Rattle.tp4_conn.proofs.laws.over_sendings.Goals as goal

pub returns : goal.returns
returns c = record { calling = connected_row; called = called_row; step = step_row; events = all_proper }
