use Rattle.std.proofs.Common.{sym, ◌∙◌}
use Rattle.clnp_header.specs.Values.{value_of}
use Rattle.capture_show.proofs.Frames.{with_unit}
use Rattle.capture_show.proofs.frame.show_dt.Goals as goal

pub returns-then-is_transport : goal.returns-then-is_transport
returns-then-is_transport c =
    with_unit (value_of c.args.read.now) c.args.ends.now c.args.out.now.items c.write_dt.new.out.items c.write_unit.new.ends c.write_unit.new.out.items c.write_unit.result
    (sym c.is_transport.ensures ∙ c.if-is_transport.true) c.in_ok-write_dt.ensures c.write_unit.ensures
