use Rattle.std.proofs.Common.{◌≡◌, ◌∙◌, ◌<◌, ◌≤◌, ℕ, [], drop, length, List, ap, subst, sym, slice_get, rules, arith}
use Rattle.std.proofs.lemmas.Grind.{common_steps}
use Rattle.tp4_number.specs.Number.{wire}
use Rattle.tp4_world.specs.steps.Parts.{systems_of, world_of}
use Rattle.tp4_world.proofs.Entities.{as_many, listed_there, systems_count}
use Rattle.tp4_world.proofs.Later.{later_each, later_more}
use Rattle.tp4_world.proofs.Ticked.{all_ticked, entity_more}
use Rattle.tp4_world.proofs.ticking.tick_all.Goals as goal

pub system_at-system-requires : goal.system_at-system-requires
system_at-system-requires g c =
    let count = as_many c.args.transport.now.entities.items c.loop-place.transport.entities.items c.loop-place.invariant.3 in
    subst (λ (n : ℕ). c.loop-place.place < n) (sym count) (search rules)

pub tick_system-requires-clause-listed : goal.tick_system-requires-clause-listed
tick_system-requires-clause-listed g c = listed_there c.loop-place.transport.entities.items c.loop-place.place c.system_at-system.result c.system_at-system.ensures

pub loop-place-preserved : goal.loop-place-preserved
loop-place-preserved g c = (
  entity_more g.C.Carrier.link g.C.Carrier.steps wire (world_of c.args.carrier.now c.args.transport.now.entities.items c.args.transport.now.ends) (systems_of c.args.transport.now.entities.items)
      c.args.events.now.items (world_of c.loop-place.carrier c.loop-place.transport.entities.items c.loop-place.transport.ends) c.loop-place.events.items c.loop-place.place c.system_at-system.result
      (world_of c.tick_system.new.carrier c.tick_system.new.transport.entities.items c.tick_system.new.transport.ends) c.tick_system.new.events.items c.loop-place.invariant.0
      (ap (λ (ss : List ℕ). slice_get ss c.loop-place.place) (sym c.loop-place.invariant.3) ∙ c.system_at-system.ensures) c.in_ok-tick_system.ensures.ticks,
  c.in_ok-tick_system.ensures.clock,
  c.in_ok-tick_system.ensures.behind,
  c.in_ok-tick_system.ensures.systems ∙ c.loop-place.invariant.3,
  c.in_ok-tick_system.ensures.from,
  later_more c.args.now c.loop-place.transport.entities.items c.tick_system.new.transport.entities.items (systems_of c.args.transport.now.entities.items) c.loop-place.place c.system_at-system.result
      (ap (λ (ss : List ℕ). slice_get ss c.loop-place.place) (sym c.loop-place.invariant.3) ∙ c.system_at-system.ensures)
      c.loop-place.invariant.5 c.in_ok-tick_system.ensures.kept c.in_ok-tick_system.ensures.rest,
)

pub returns-clause-ticks : goal.returns-clause-ticks
returns-clause-ticks g c =
    let count : length (systems_of c.args.transport.now.entities.items) ≡ length c.args.transport.now.entities.items = systems_count c.args.transport.now.entities.items in
    let whole : length (systems_of c.args.transport.now.entities.items) ≤ c.loop-place.place = search rules in
    let over : drop c.loop-place.place (systems_of c.args.transport.now.entities.items) ≡ [] = grind (arith, common_steps) in
    all_ticked g.C.Carrier.link g.C.Carrier.steps wire (world_of c.args.carrier.now c.args.transport.now.entities.items c.args.transport.now.ends) c.args.transport.now.entities.items c.args.events.now.items
    (world_of c.loop-place.carrier c.loop-place.transport.entities.items c.loop-place.transport.ends) c.loop-place.events.items c.loop-place.place c.loop-place.invariant.0 over

pub returns-clause-later : goal.returns-clause-later
returns-clause-later g c =
    let count : length (systems_of c.args.transport.now.entities.items) ≡ length c.args.transport.now.entities.items = systems_count c.args.transport.now.entities.items in
    let whole : length (systems_of c.args.transport.now.entities.items) ≤ c.loop-place.place = search rules in
    later_each c.args.now c.args.transport.now.entities.items c.loop-place.transport.entities.items c.loop-place.place c.loop-place.invariant.3 whole c.loop-place.invariant.5
