use Rattle.std.proofs.Common.{◌≡◌, Some, length, slice_get, refl}
use Rattle.std.proofs.lemmas.Option.{slice_get_read}
use Rattle.clnp_system.proofs.Writable.{frames_more}
use Rattle.clnp_system.proofs.setup.SystemSetup.frames.Goals as goal

pub loop-pdu-preserved : goal.loop-pdu-preserved
loop-pdu-preserved c =
    let pdus = c.args.pdus.now in
    let i = c.loop-pdu.pdu-index in
    let at : slice_get pdus i ≡ Some c.pdu-item.result = slice_get_read pdus (length pdus) i c.pdu-item.result refl c.loop-pdu-test.true c.pdu-item.is in
    frames_more c.args.self.now c.args.to pdus i c.pdu-item.result c.in_ok-frame.field-0 c.loop-pdu.frames.items c.push.new.self.items at c.in_ok-frame.ensures
    c.loop-pdu.invariant c.in_ok-push.ensures.items
