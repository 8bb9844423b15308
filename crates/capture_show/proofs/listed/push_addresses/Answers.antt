use Rattle.std.proofs.Common.{◌-◌, sym}
use Rattle.capture_show.proofs.Frames.{appended}
use Rattle.capture_show.proofs.Listing.{addresses_go_on, addresses_none, addresses_end}
use Rattle.capture_show.proofs.listed.push_addresses.Goals as goal

pub returns-in_default : goal.returns-in_default
returns-in_default c =
    let l = c.loop in
    appended c.push_none.result c.push_none.new.out.items _ _ c.push_none.ensures
    (addresses_none (c.args.count - l.counter) l.some l.left.now l.out.items _ (sym c.in_default.ensures) l.invariant)

pub loop-preserved : goal.loop-preserved
loop-preserved c =
    let l = c.loop in
    addresses_go_on c.args.count l.counter l.some l.left.now l.out.items c.push_comma.new.out.items c.show_nsap.new.out.items c.in-Some.found.0 c.in-Some.found.1.now _ c.loop-test.true
    (sym c.in-Some.ensures) l.invariant c.in_ok-push_comma.ensures c.in_ok-show_nsap.ensures

pub returns : goal.returns
returns c =
    let l = c.loop in
    appended c.push_none-2.result c.push_none-2.new.out.items _ _ c.push_none-2.ensures
    (addresses_end c.args.count l.counter l.some l.left.now l.out.items _ c.loop-test.false l.invariant)
