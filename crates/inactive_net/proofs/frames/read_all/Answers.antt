use Rattle.std.proofs.Common.{◌∙◌, ◌++◌, ◌∷◌, [], ℕ, List, ap}
use Rattle.osi_base.specs.declared.unit.Up.{Up}
use Rattle.inactive_net.proofs.Passed.{all_read, reading_next}
use Rattle.inactive_net.proofs.frames.read_all.Goals as goal

pub loop-up-preserved : goal.loop-up-preserved
loop-up-preserved g c =
    reading_next g.C.Carrier.link g.C.Carrier.steps c.args.rows.now c.args.link.now c.args.waiting.now.items c.loop-up.link c.loop-up.waiting.items c.next_up.new.self c.in-Some.up c.push_back.new.self.items
    c.loop-up.invariant c.in-Some.ensures.steps c.in-Some.ensures.link (c.in_ok-push_back.ensures.items ∙ ap (λ (u : Up (List ℕ)). c.loop-up.waiting.items ++ u ∷ []) c.read.ensures)

pub returns : goal.returns
returns g c =
    all_read g.C.Carrier.link g.C.Carrier.steps c.args.rows.now c.args.link.now c.args.waiting.now.items c.loop-up.link c.loop-up.waiting.items c.next_up.new.self
    c.loop-up.invariant c.in_default.ensures.steps c.in_default.ensures.link
