use Rattle.std.proofs.Common.{refl, arith}
use Rattle.tp4_conn.specs.End.{end_of}
use Rattle.tp4_conn.specs.Making.{connected, indicated}
use Rattle.tp4_conn.proofs.Lives.{all_lives, all_still, over_by, over_later}
use Rattle.tp4_conn.proofs.laws.over_lives.Goals as goal

pub returns-clause-still : goal.returns-clause-still
returns-clause-still c = all_still

pub returns-clause-calling : goal.returns-clause-calling
returns-clause-calling c = λ wrap made u call events last timed leads low.
    let least = timed.sendings_least in
    let lived = all_lives wrap call.rules (record { end = end_of (connected made call); clock = made; took = made }) events last timed
    (record { timers = refl; timely = record { runs = omega arith; few = omega arith }; low = omega arith }) leads in
    over_later _ _ _ _ (omega arith) (over_by call.rules last lived)

pub returns-clause-called : goal.returns-clause-called
returns-clause-called c = λ wrap u base text events last timed leads low.
    let lived = all_lives wrap base.timers (record { end = end_of (indicated base text); clock = base.clock; took = base.clock }) events last timed
    (record { timers = refl; timely = omega arith; low = omega arith }) leads in
    over_later _ _ _ _ (omega arith) (over_by base.timers last lived)
