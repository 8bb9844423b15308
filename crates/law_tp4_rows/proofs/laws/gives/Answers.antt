use Rattle.law_tp4_rows.proofs.GivingRows.{connect_gives, indicated_gives, row_gives}
use Rattle.law_tp4_rows.proofs.laws.gives.Goals as goal

pub returns-clause-row : goal.returns-clause-row
returns-clause-row c = row_gives

pub returns-clause-connect : goal.returns-clause-connect
returns-clause-connect c = connect_gives

pub returns-clause-indicate : goal.returns-clause-indicate
returns-clause-indicate c = indicated_gives
