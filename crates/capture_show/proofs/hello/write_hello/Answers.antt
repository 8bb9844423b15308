use Rattle.esis_pdu.specs.Lent.{listed}
use Rattle.capture_show.proofs.Frames.{appended, esh_text}
use Rattle.capture_show.proofs.hello.write_hello.Goals as goal

pub returns-in-Esh : goal.returns-in-Esh
returns-in-Esh c =
    let begins = rw c.in-Esh.is at c.requires in
    rw c.in-Esh.is (appended c.write.result c.write.new.out.items _ _ c.write.ensures
    (esh_text c.args.octets.now c.in-Esh.hold c.from.result (listed c.in-Esh.addresses) c.in-Esh.options.now begins.0 c.args.out.now.items begins.1 c.from.ensures))
