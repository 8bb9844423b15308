use Rattle.std.proofs.Common.{◌≡◌, ℕ, List, Option, count_by, is_some, length, sym, ap, subst}
use Rattle.clnp_segment.specs.Joining.{Held}
use Rattle.clnp_segment.proofs.Slots.{counted_all}
use Rattle.clnp_segment.proofs.held.Joint.unit.Goals as goal

pub into_octets-requires : goal.into_octets-requires
into_octets-requires c =
    let same : c.self.inside.runs ≡ c.args.self.slots = ap (λ (h : Held). h.slots) c.self.view_is in
    subst (λ (xs : List (Option ℕ)). count_by is_some xs ≡ length xs) (sym same) (counted_all c.args.self.slots c.requires)
