use Rattle.osi_base.proofs.Chains.{clock_runs, same_runs, honest_runs, strays_runs, picks_runs, spent_runs}
use Rattle.osi_base.proofs.laws.over_runs.Goals as goal

pub returns-clause-clock : goal.returns-clause-clock
returns-clause-clock g c = clock_runs g.C.Carrier.link g.C.Carrier.steps g.met.C.Carrier.keeps

pub returns-clause-same : goal.returns-clause-same
returns-clause-same g c = same_runs g.C.Carrier.link g.C.Carrier.steps g.met.C.Carrier.keeps

pub returns-clause-honest : goal.returns-clause-honest
returns-clause-honest g c = honest_runs g.C.Carrier.link g.C.Carrier.steps g.met.C.Carrier.keeps

pub returns-clause-strays : goal.returns-clause-strays
returns-clause-strays g c = strays_runs g.C.Carrier.link g.C.Carrier.steps g.met.C.Carrier.keeps

pub returns-clause-picks : goal.returns-clause-picks
returns-clause-picks g c = picks_runs g.C.Carrier.link g.C.Carrier.steps g.met.C.Carrier.keeps

pub returns-clause-spent : goal.returns-clause-spent
returns-clause-spent g c = spent_runs g.C.Carrier.link g.C.Carrier.steps g.met.C.Carrier.keeps
