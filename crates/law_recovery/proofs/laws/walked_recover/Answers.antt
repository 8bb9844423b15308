use Rattle.law_recovery.proofs.Recovering.{walked_recover}
use Rattle.law_recovery.proofs.laws.walked_recover.Goals as goal

pub returns : goal.returns
returns g c =
    walked_recover g.C.Carrier.link g.C.Carrier.steps c.runs_are_ready.ensures.calls c.runs_are_ready.ensures.ready c.runs_are_ready.ensures.goes_on c.opened_are_followed.ensures c.ends_have_numbers.ensures
    c.followed_are_pairs.ensures c.followed_are_back.ensures c.walked_tell.ensures
