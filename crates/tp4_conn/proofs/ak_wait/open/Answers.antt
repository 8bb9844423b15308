use Rattle.std.proofs.lemmas.Result.{IfOk-weaker}
use Rattle.tpdu.specs.Values.{tpdu_of}
use Rattle.tp4_number.specs.Number
use Rattle.tp4_conn.proofs.Openings.{opened_lent}
use Rattle.tp4_conn.proofs.ak_wait.open.Goals as goal

pub returns-clause-step : goal.returns-clause-step
returns-clause-step c =
    IfOk-weaker c.on_tpdu.result _ _
    (λ stage h.
    opened_lent Number.wire c.args.base.now c.args.wait.halves c.get_mut.result.now c.open.new.self
    (tpdu_of c.args.tpdu.now) stage _ _ _ c.get_mut.ensures.value c.in_ok-open.ensures.step h)
    c.on_tpdu.ensures.step
