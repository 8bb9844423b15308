use Rattle.std.proofs.Common.{subst}
use Rattle.osi_base.specs.Link.{IsLeastFresh}
use Rattle.lan_step.specs.Bag.{Bag, link_of}
use Rattle.lan_bag.proofs.Openings.{pair_fresh}
use Rattle.lan_bag.proofs.bag.LanBag.fresh_pair.Goals as goal

pub returns : goal.returns
returns c =
    let bag : Bag = record { clock = c.self.inside.clock; lans = c.self.inside.setup.lans; rows = c.self.inside.setup.rows; frames = c.self.inside.frames; waiting = c.self.inside.waiting; honest = c.self.inside.honest; strays = c.self.inside.strays } in
    subst (λ (b : Bag). IsLeastFresh (link_of b) c.self.inside.fresh.pair) c.self.view_is (pair_fresh bag c.self.inside.fresh.place c.self.inside.fresh.pair c.self.invariant.fresh)
