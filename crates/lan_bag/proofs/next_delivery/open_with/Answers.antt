use Rattle.std.proofs.Common.{◌≡◌, ◌+◌, Bool, false, not, arith}
use Rattle.lan_step.specs.Frames.{frame_of}
use Rattle.lan_bag.proofs.LanLists.{none_to}
use Rattle.lan_bag.proofs.Openings.{fresh_last}
use Rattle.lan_bag.proofs.next_delivery.open_with.Goals as goal

pub returns-then-not-may_reach : goal.returns-then-not-may_reach
returns-then-not-may_reach c =
    let next : c.args.fresh.place + 1 ≡ c.args.number = omega (arith, c.if-from.true, c.from.ensures, c.from-2.ensures) in
    let shut : c.may_reach.result ≡ false = cc in
    fresh_last c.args.clock c.args.setup.now.lans c.args.setup.now.rows c.args.frames.now c.args.fresh.place c.args.number next c.requires.last c.requires.closed
    (none_to c.args.clock c.args.setup.now.lans c.args.setup.now.rows (frame_of c.args.frames.now c.args.number) c.args.to.now (c.may_reach.ensures shut) c.requires.to)
