use Rattle.clnp_net.proofs.Passing.{passed, passing_next}
use Rattle.clnp_net.proofs.frames.pass_notes.Goals as goal

pub loop-up-preserved : goal.loop-up-preserved
loop-up-preserved g c =
    passing_next g.C.Carrier.link g.C.Carrier.steps c.args.link.now c.args.waiting.now.items c.loop-up.link c.loop-up.waiting.items c.next_up.new.self c.in-Some.up c.pass_note.new.waiting.items
    c.loop-up.invariant c.in-Some.ensures.steps c.in-Some.ensures.link c.in_ok-pass_note.ensures

pub returns : goal.returns
returns g c =
    passed g.C.Carrier.link g.C.Carrier.steps c.args.link.now c.args.waiting.now.items c.loop-up.link c.loop-up.waiting.items c.next_up.new.self
    c.loop-up.invariant c.in_default.ensures.steps c.in_default.ensures.link
