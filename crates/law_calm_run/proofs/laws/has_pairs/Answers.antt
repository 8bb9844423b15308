use Rattle.std.specs.Prelude.{◌++◌}
use Rattle.law_calm_run.specs.Service.{WaitsBy, end_at_number}
use Rattle.law_calm_run.proofs.Ending.{all_have_pairs, none_due}
use Rattle.law_calm_run.proofs.laws.has_pairs.Goals as goal

pub returns-clause-pairs : goal.returns-clause-pairs
returns-clause-pairs g c = λ titles queue_of fifo. all_have_pairs g.C.Carrier.link g.C.Carrier.steps g.met.C.Carrier.keeps titles (WaitsBy queue_of) fifo

pub returns-clause-shown : goal.returns-clause-shown
returns-clause-shown g c = λ titles queue_of fifo timers first last script begun journal start aside run.
    c.claims.ensures (g.C.Carrier.link last.carrier).clock (begun ++ journal) (end_at_number last)
    (all_have_pairs g.C.Carrier.link g.C.Carrier.steps g.met.C.Carrier.keeps titles (WaitsBy queue_of) fifo timers first last script begun journal start aside run)
    (none_due g.C.Carrier.link g.C.Carrier.steps g.met.C.Carrier.keeps titles (WaitsBy queue_of) fifo timers first last script journal start run)
