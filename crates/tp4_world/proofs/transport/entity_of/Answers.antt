use borrow.Follows.Closed.{read_of}
use Rattle.std.proofs.Common.{◌∙◌, ℕ, ap, sym}
use Rattle.std.specs.List.{position}
use Rattle.std.specs.Option.{ghost_name_of}
use Rattle.std.specs.Vec.{with_item}
use Rattle.tp4_world.specs.World.{is_of}
use Rattle.tp4_world.proofs.Lent.{lent, spot_is}
use Rattle.tp4_world.proofs.transport.entity_of.Goals as goal

pub returns : goal.returns
returns c =
    let placed = c.args.entities.now.items in
    let found = ap (position (is_of c.args.system)) (sym c.deref.ensures.value) ∙ sym c.place_of.ensures ∙ c.in-Some.is in (
      ap (λ (n : ℕ). read_of (ghost_name_of c.get_mut.result) (with_item c.args.entities.now n) c.args.entities.now) (spot_is placed c.args.system c.in-Some.place found),
      record { writes_back = tt; found = lent placed c.args.system c.in-Some.place c.get_mut.result found c.get_mut.ensures.item },
    )
