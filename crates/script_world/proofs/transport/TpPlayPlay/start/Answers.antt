use Rattle.std.proofs.Common.{◌≤◌, List, arith, subst, sym}
use Rattle.std.specs.List.{AllByRecursion}
use Rattle.tp4_world.specs.Run.{Starts}
use Rattle.tp4_world.specs.declared.place.Placed.{Placed}
use Rattle.tp4_world.specs.steps.Parts.{AreLaterAll}
use Rattle.law_setup.proofs.Peopled.{entities_behind, entities_later}
use Rattle.script_world.proofs.transport.TpPlayPlay.start.Goals as goal

pub start-requires-clause-low : goal.start-requires-clause-low
start-requires-clause-low g c =
    let zero_is = g.met.N.Network.laws.clock c.args.setup c.in_ok-make.field-0 c.in_ok-make.ensures in
    omega arith

pub start-requires-clause-behind : goal.start-requires-clause-behind
start-requires-clause-behind g c =
    subst (λ (placed : List Placed). AllByRecursion (λ (one : Placed). one.entity.clock ≤ (g.N.Carrier.link c.in_ok-make.field-0).clock) placed) (sym c.in_ok-entities.ensures)
    (entities_behind c.args.setup (g.N.Carrier.link c.in_ok-make.field-0).clock)

pub start-requires-clause-later : goal.start-requires-clause-later
start-requires-clause-later g c =
    subst (λ (placed : List Placed). AreLaterAll (g.N.Carrier.link c.in_ok-make.field-0).clock placed) (sym c.in_ok-entities.ensures)
    (entities_later c.args.setup (g.N.Carrier.link c.in_ok-make.field-0).clock)

pub returns : goal.returns
returns g c = (
  c.in_ok-make.field-0,
  c.in_ok-ends.ends,
  c.in_ok-make.ensures,
  subst (λ (placed : List Placed). Starts g.N.Carrier.link g.N.Carrier.steps c.in_ok-make.field-0 placed c.start.new.events.items c.in_ok-ends.ends) c.in_ok-entities.ensures c.in_ok-ends.ensures,
  λ i. record { titles = c.in_ok-titles.ensures i; timers = c.timers-timers.ensures i; ends = c.in_ok-ends.ends },
)
