use Rattle.std.proofs.Common.{rules, ◌≡◌, ◌∷◌, refl}
use Rattle.clnp_net.proofs.Indices.{indexed_popped}
use Rattle.clnp_net.proofs.afloat.Afloat.drop_first.Goals as goal

pub invariant_of-self-2 : goal.invariant_of-self-2
invariant_of-self-2 c = let p = c.in-Some.ensures in
    let e : c.self.inside.entries.items ≡ (c.in-Some.field-0-0, c.in-Some.unit) ∷ c.pop_front.new.self.items = search rules in
    indexed_popped c.self.inside.limit c.self.inside.indexed c.self.inside.first _ _ c.from-number.result c.self.inside.index c.delist.new.index c.self.inside.entries.items c.pop_front.new.self.items (c.in-Some.field-0-0, c.in-Some.unit)
    c.self.invariant e refl c.from-number.ensures c.delist.ensures refl
