use Rattle.std.proofs.Common.{rules, ◌≡◌, [], ◌∷◌}
use Rattle.clnp_net.proofs.Parts.{all_handled, handling_next}
use Rattle.clnp_net.proofs.net.handle.Goals as goal

pub loop-up-preserved : goal.loop-up-preserved
loop-up-preserved g c = let p = c.in-Some.ensures in
    let e : c.loop-up.ups.items ≡ c.in-Some.up ∷ c.pop_front.new.self.items = search rules in
    handling_next g.C.Carrier.link g.C.Carrier.steps c.args.now c.args.link.now c.args.systems.now c.args.ups.items c.args.waiting.now.items
    c.loop-up.link c.loop-up.systems c.loop-up.ups.items c.pop_front.new.self.items c.loop-up.waiting.items c.in-Some.up c.handle_up.new.link c.handle_up.new.systems c.handle_up.new.waiting.items
    c.loop-up.invariant e c.in_ok-handle_up.ensures.handled c.in_ok-handle_up.ensures.behind

pub returns : goal.returns
returns g c = let p = c.pop_front.ensures in let d = c.in_default in
    let e : c.loop-up.ups.items ≡ [] = search rules in
    all_handled g.C.Carrier.link g.C.Carrier.steps c.args.now c.args.link.now c.args.systems.now c.args.ups.items c.args.waiting.now.items c.loop-up.link c.loop-up.systems c.loop-up.ups.items c.loop-up.waiting.items
    c.loop-up.invariant e
