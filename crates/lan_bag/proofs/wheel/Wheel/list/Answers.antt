use Rattle.std.proofs.Common.{◌∙◌, List, ℕ, map, ap, sym, arith}
use Rattle.std.specs.Option.{option_copied_mut}
use Rattle.lan_bag.specs.declared.wheel.Wheel.TheInside.{Inside}
use Rattle.lan_bag.specs.steps.Wheel.{listed}
use Rattle.lan_bag.proofs.Wheels.{on_err, stands, set_unchanged, set_listed}
use Rattle.lan_bag.proofs.wheel.Wheel.list.Goals as goal
use Rattle.lan_bag.proofs.wheel.Wheel.list.Goals.{in-Some+in_ok-push, in_default}

pub returns-in_err-push-clause-err : goal.returns-in_err-push-clause-err
returns-in_err-push-clause-err c =
    on_err c.from_residual.result
    (set_unchanged (λ list. list.items) c.self.inside.lists.items c.args.ticks c.in-Some.list.now c.push.new.self (sym c.in-Some.ensures.value) c.in_err-push.ensures.items ∙ c.self.view_is)

pub returns-clause-ok : goal.returns-clause-ok
returns-clause-ok c = elim c.match-get_mut.branch [
  | in-Some+in_ok-push w ↦
      ap (λ (inside : Inside). map (λ list. list.items) inside.lists.items) w.self-inside-is
      ∙ (set_listed (λ list. list.items) c.self.inside.lists.items c.args.ticks c.args.place w.in-Some.list.now w.push.new.self (sym w.in-Some.ensures.value) w.in_ok-push.ensures.items
      ∙ ap (λ (wheel : List (List ℕ)). listed wheel c.args.ticks c.args.place) c.self.view_is)
  | in_default w ↦
      absurd (stands c.self.inside.lists.items c.args.ticks (omega (arith, c.requires, c.self.invariant.1)) (sym (ap option_copied_mut w.in_default.is) ∙ c.get_mut.ensures.value))
]
