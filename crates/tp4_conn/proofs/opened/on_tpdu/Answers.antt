use Rattle.tp4_sending.specs.SendingHalf.{acknowledged, at}
use Rattle.tp4_conn.specs.Opened.{opened_tpdu}
use Rattle.tp4_conn.proofs.Openings.{sent_on}
use Rattle.tp4_conn.proofs.opened.on_tpdu.Goals as goal

pub returns-in_ok-on_ak-in-Ak-clause-step : goal.returns-in_ok-on_ak-in-Ak-clause-step
unfolding opened_tpdu
returns-in_ok-on_ak-in-Ak-clause-step c =
    rw c.in-Ak.is (sent_on c.args.base.now c.args.flow c.get_mut-in-Ak.result.now
    (λ half. acknowledged (at c.args.base.now.clock half) c.in-Ak.number c.in-Ak.credit c.in-Ak.subsequence)
    c.on_ak.new.self c.args.out.now c.on_ak.new.out c.get_mut-in-Ak.ensures.value c.in_ok-on_ak-in-Ak.ensures.step)
