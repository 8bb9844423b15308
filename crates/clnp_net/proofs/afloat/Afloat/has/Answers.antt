use Rattle.std.proofs.Common.{◌∙◌, ℕ, List, ap}
use Rattle.std.specs.Prelude.{nat_eq}
use Rattle.std.specs.Cmp.Lexicographic.{pointwise}
use Rattle.std.specs.List.{list_any}
use Rattle.osi_base.specs.Floated.{Floated, is_unit_of}
use Rattle.clnp_net.proofs.Indices.{found}
use Rattle.clnp_net.proofs.afloat.Afloat.has.Goals as goal

pub returns : goal.returns
returns c =
    c.any_at.ensures ∙ found c.self.inside.limit c.self.inside.indexed c.self.inside.first c.self.inside.index c.self.inside.entries.items c.args.unit.now c.if-not-self.false c.self.invariant
    ∙ ap (λ (f : Floated (List ℕ)). list_any (is_unit_of (pointwise nat_eq) c.args.unit.now) f.entries) c.self.view_is
