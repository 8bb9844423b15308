use Rattle.esis_pdu.specs.Lent.{esis_of}
use Rattle.capture_show.proofs.Frames.{bad_hello, hello_pdu}
use Rattle.capture_show.proofs.frame.show_hello.Goals as goal

pub returns-in-Err : goal.returns-in-Err
returns-in-Err c = λ ends.
    bad_hello c.args.octets.now ends c.args.out.now.items c.write_bad.new.out.items c.in-Err.fault c.write_bad.result c.requires c.in-Err.ensures.fault c.write_bad.ensures

pub returns-in-Ok : goal.returns-in-Ok
returns-in-Ok c = λ ends.
    hello_pdu c.args.octets.now ends c.args.out.now.items c.write_hello.new.out.items (esis_of c.in-Ok.read) c.write_hello.result c.requires c.in-Ok.ensures.ok c.write_hello.ensures
