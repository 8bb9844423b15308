use Rattle.clnp_header.specs.Values.{value_of}
use Rattle.capture_show.proofs.Frames.{bad_pdu, er_pdu, dt_pdu}
use Rattle.capture_show.proofs.frame.show_pdu.Goals as goal

pub returns-in-Err : goal.returns-in-Err
returns-in-Err c =
    bad_pdu c.args.octets.now c.args.ends.now c.args.out.now.items c.write_bad.new.out.items c.in-Err.fault c.write_bad.result c.requires c.in-Err.ensures.fault c.write_bad.ensures

pub returns-in-Er : goal.returns-in-Er
returns-in-Er c =
    er_pdu c.args.octets.now c.args.ends.now c.args.out.now.items c.write_er.new.out.items (value_of c.in-Ok.read) c.write_er.result c.requires c.in-Ok.ensures.ok c.in-Er.is c.write_er.ensures

pub returns-in-Dt : goal.returns-in-Dt
returns-in-Dt c =
    dt_pdu c.args.octets.now c.args.ends.now c.args.out.now.items c.show_dt.new.ends c.show_dt.new.out.items (value_of c.in-Ok.read) c.show_dt.result c.requires c.in-Ok.ensures.ok c.in-Dt.is
    c.show_dt.ensures
