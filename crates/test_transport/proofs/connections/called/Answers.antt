use Rattle.tpdu.specs.Values.{tpdu_of}
use Rattle.tp4_conn.proofs.Makings.{called_now}
use Rattle.test_transport.proofs.connections.called.Goals as goal

pub returns : goal.returns
returns c =
    called_now 0 1 c.in_ok-system.field-0 _ (tpdu_of c.in_ok-cr.cr) c.in_ok-end.end.base c.in_ok-end.end.stage c.args.out.now c.incoming.new.out
    c.in_ok-cr.ensures.kind c.in_ok-end.ensures.step
