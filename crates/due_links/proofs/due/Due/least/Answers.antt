use Rattle.std.proofs.Common.{ℕ, List, Option, subst, length}
use Rattle.slab.specs.Slab.{get}
use Rattle.due_links.specs.steps.Kept.{IsFirstNode}
use Rattle.due_links.specs.steps.Links.{IsLeastOf}
use Rattle.due_links.proofs.Firsts.{first_node}
use Rattle.due_links.proofs.due.Due.least.Goals as goal

pub returns : goal.returns
returns c =
    subst (λ (ticks : List (Option ℕ)). IsFirstNode ticks c.least_head.result) c.self.view_is
    (first_node c.self.inside.nodes c.self.inside.places.items c.self.inside.heads.items c.self.invariant.0 c.least_head.result
    (subst (λ (hs : List (Option ℕ)). IsLeastOf (get c.self.inside.nodes) hs (length hs) c.least_head.result) c.deref.ensures.value c.least_head.ensures))
