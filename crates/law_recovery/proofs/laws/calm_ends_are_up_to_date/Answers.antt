use Rattle.law_recovery.proofs.Calm.{calm_up}
use Rattle.law_recovery.proofs.laws.calm_ends_are_up_to_date.Goals as goal

pub returns : goal.returns
returns g c = calm_up g.C.Carrier.link g.C.Carrier.steps c.runs_are_ready.ensures.ready c.lines_are_calls.ensures.whole_numbers c.ends_have_numbers.ensures c.partners_are_known.ensures.whole_numbers
