use Rattle.std.proofs.Common.{List, ℕ, sym, subst}
use Rattle.clnp_options.specs.SourceRoute.{IsSourceRoute, moved}
use Rattle.clnp_system.proofs.source_routing.second_hop.Goals as goal

pub returns : goal.returns
returns c = λ route is.
    c.next_source_hop.ensures.title (moved route) (c.advance_source.ensures.moved route (subst (λ (xs : List ℕ). IsSourceRoute xs route) (sym c.copy_from_slice.ensures.after) is))
