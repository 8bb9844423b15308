use Rattle.std.proofs.Common.{rules, ◌≡◌, ◌∙◌, refl}
use Rattle.clnp_net.proofs.Indices.{indexed_grown, indexed_kept, indexed_same}
use Rattle.clnp_net.proofs.afloat.Afloat.add.Goals as goal

pub invariant_of-self : goal.invariant_of-self
invariant_of-self c = indexed_same c.self.inside.limit c.self.inside.indexed c.self.inside.first c.self.inside.index c.enlist.new.index c.self.inside.entries.items c.self.invariant c.in_err-enlist.ensures.err

pub invariant_of-self-in_err-push_back : goal.invariant_of-self-in_err-push_back
invariant_of-self-in_err-push_back c = let p = c.in_err-push_back.ensures in
    let e : c.push_back.new.self.items ≡ c.self.inside.entries.items = search rules in
    indexed_kept c.self.inside.limit c.self.inside.indexed c.self.inside.first _ c.self.inside.index c.enlist.new.index c.self.inside.entries.items c.push_back.new.self.items c.self.invariant c.in_ok-enlist.ensures.ok e

pub invariant_of-self-2 : goal.invariant_of-self-2
invariant_of-self-2 c =
    let room = rw (← c.self.view_is) at c.requires.room in
    let order = rw (← c.self.view_is) at c.requires.order in
    indexed_grown c.self.inside.limit c.self.inside.indexed c.self.inside.first _ c.from.result c.len.result c.self.inside.index c.enlist.new.index c.self.inside.entries.items c.push_back.new.self.items (c.args.now, c.args.unit)
    c.self.invariant room order refl c.from.ensures (c.len.ensures ∙ c.self.inside.entries.ok.0) c.in_ok-enlist.ensures.ok c.in_ok-push_back.ensures.items

pub returns-clause-stands : goal.returns-clause-stands
returns-clause-stands c = (invariant_of-self-2 c).floated
