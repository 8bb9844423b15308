use Rattle.std.proofs.Common.{◌≡◌, ◌∙◌, ℕ, ◌+◌, ◌-◌, Option, Some, length, slice_set, refl, ap, subst, sym, arith}
use Rattle.tp4_conn.specs.End.{End}
use Rattle.tp4_entity.specs.Entity.{Entity, with_end}
use Rattle.tp4_entity.specs.steps.Places.{IsOwn}
use Rattle.tp4_entity.proofs.Dues.{due_put}
use Rattle.tp4_entity.proofs.PlaceLaws.{entity_set}
use Rattle.tp4_entity.proofs.entity.TpEntity.put.Goals as goal

pub invariant_of-self : goal.invariant_of-self
invariant_of-self g c =
    let same = ap (λ (e : Entity). length e.ends) c.self.view_is in (
      entity_set _ c.args.place (c.args.place + 1) (Some c.args.end) c.self.invariant.0
          (subst (λ (e : Entity). IsOwn e.timers e.clock (c.args.place + 1) c.args.end) (sym c.self.view_is) c.requires.own) refl,
      due_put c.self.inside.due c.keep.new.due c.self.inside.ends.items c.args.place (Some c.args.end) c.next_due.result c.self.invariant.1 c.keep.ensures c.next_due.ensures.value,
    )

-- the place of a reference is the one below it
set_there : (e : Entity) (at : ℕ) (end : Option End) → record e { ends = slice_set e.ends at end } ≡ with_end e (at + 1) end
set_there e at end =
    let same : at ≡ at + 1 - 1 = omega arith in
    ap (λ (n : ℕ). record e { ends = slice_set e.ends n end }) same

pub returns : goal.returns
returns g c =
    set_there (record {
      own = c.self.inside.own;
      timers = c.self.inside.timers;
      clock = c.self.inside.clock;
      selectors = c.self.inside.selectors.items;
      ends = c.self.inside.ends.items;
      restarted = c.self.inside.restarted;
    }) c.args.place (Some c.args.end)
    ∙ ap (λ (e : Entity). with_end e (c.args.place + 1) (Some c.args.end)) c.self.view_is
