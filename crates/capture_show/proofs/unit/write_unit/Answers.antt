use Rattle.capture_show.proofs.Units.{goes_on, ends_well, fails, nothing_left}
use Rattle.capture_show.proofs.unit.write_unit.Goals as goal

pub returns-in_default : goal.returns-in_default
returns-in_default c =
    let l = c.loop-left in
    fails c.args.pdu.now.destination c.args.pdu.now.source c.args.ends.now c.args.pdu.now.body.now c.args.out.now.items l.ends l.left.now l.out.items c.in_ok-rest.field-0
    c.write_next.new.ends c.write_next.new.out.items l.invariant c.in_ok-rest.ensures.writes c.in_default.is

pub loop-left-preserved : goal.loop-left-preserved
loop-left-preserved c =
    let l = c.loop-left in
    goes_on c.args.pdu.now.destination c.args.pdu.now.source c.args.ends.now c.args.pdu.now.body.now c.args.out.now.items l.ends l.left.now l.out.items c.in_ok-rest.field-0 c.in-Some.rest
    c.write_next.new.ends c.write_next.new.out.items l.invariant c.in_ok-rest.ensures.writes c.in-Some.is

pub returns : goal.returns
returns c =
    let l = c.loop-left in
    ends_well c.args.pdu.now.destination c.args.pdu.now.source c.args.ends.now c.args.pdu.now.body.now c.args.out.now.items l.ends l.left.now l.out.items l.invariant
    (nothing_left l.left.now c.is_empty.result c.is_empty.ensures c.loop-left-test.false)
