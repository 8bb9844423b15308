use Rattle.std.proofs.Common.{ap, ◌∙◌}
use Rattle.std.specs.List.{list_any}
use Rattle.tp4_entity.specs.Entity.{Entity}
use Rattle.tp4_entity.specs.Step.{is_due}
use Rattle.tp4_entity.proofs.Dues.{first_none, first_some}
use Rattle.tp4_entity.proofs.entity.TpEntity.due_by.Goals as goal

pub returns-in-Some : goal.returns-in-Some
returns-in-Some g c =
    first_some c.args.now c.in-Some.tick c.self.inside.due c.self.inside.ends.items c.self.invariant.1 c.in-Some.ensures
    ∙ ap (λ (e : Entity). list_any (is_due c.args.now) e.ends) c.self.view_is

pub returns-in-None : goal.returns-in-None
returns-in-None g c =
    first_none c.args.now c.self.inside.due c.self.inside.ends.items c.self.invariant.1 c.in-None.ensures
    ∙ ap (λ (e : Entity). list_any (is_due c.args.now) e.ends) c.self.view_is
