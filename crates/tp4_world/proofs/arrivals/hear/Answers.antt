use Rattle.std.proofs.Common.{◌∙◌, ℕ, [], List, refl, subst, sym}
use Rattle.std.proofs.lemmas.List.{append-nil}
use Rattle.tp4_entity.specs.Entity.{Acted}
use Rattle.tp4_entity.specs.Step.{DoesSo}
use Rattle.tp4_entity.specs.Unit.{TakesUnit}
use Rattle.tp4_number.specs.Number.{wire}
use Rattle.tp4_world.specs.declared.place.Placed.{Placed}
use Rattle.tp4_world.specs.steps.Lending.{spot}
use Rattle.tp4_world.specs.steps.Parts.{AreLaterAll, world_of}
use Rattle.tp4_world.proofs.Entities.{no_entity}
use Rattle.tp4_world.proofs.Heard.{hears_none, hears_there, hears_unfit}
use Rattle.tp4_world.proofs.Later.{later_changed, later_place}
use Rattle.tp4_world.proofs.Lent.{behind_left, behind_there, changes, owned, unchanged}
use Rattle.tp4_world.proofs.arrivals.hear.Goals as goal

pub returns-in_default-clause-hears : goal.returns-in_default-clause-hears
returns-in_default-clause-hears g c = record {
  made = [];
  added = sym (append-nil c.args.events.now.items);
  are = hears_none g.C.Carrier.link g.C.Carrier.steps wire (world_of c.args.carrier.now c.args.transport.now.entities.items c.args.transport.now.ends) c.args.arrival.now
      (no_entity c.args.transport.now.entities.items c.args.arrival.now.system c.in_default.ensures.found);
}

pub returns-then-not-is_for-clause-hears : goal.returns-then-not-is_for-clause-hears
returns-then-not-is_for-clause-hears g c =
    let placed = c.args.transport.now.entities.items in
    let found = c.in-Some.ensures.found in
    record {
      made = [];
      added = sym (append-nil c.args.events.now.items);
      are = hears_unfit g.C.Carrier.link g.C.Carrier.steps wire c.args.carrier.now placed _ c.args.transport.now.ends c.args.arrival.now (spot c.args.arrival.now.system placed) c.own-own.result c.in-Some.one.now
          found.place found.there c.own-own.ensures (sym c.is_for.ensures ∙ c.if-not-is_for.true) (unchanged placed _ c.in-Some.one.now _ found.there refl);
    }

pub returns-clause-hears : goal.returns-clause-hears
returns-clause-hears g c =
    let placed = c.args.transport.now.entities.items in
    let found = c.in-Some.ensures.found in
    let takes = subst (λ (octets : List ℕ). (acted : Acted) × TakesUnit wire c.args.now c.in-Some.one.now.entity c.args.arrival.now.unit.from octets acted × DoesSo acted c.on_unit.new.self c.clear.new.self c.on_unit.new.out)
    c.as_slice.ensures c.in_ok-on_unit.ensures.takes in
    hears_there g.C.Carrier.link g.C.Carrier.steps wire c.args.carrier.now c.follow.new.carrier placed _ c.args.transport.now.ends c.follow.new.transport.ends
    c.args.arrival.now (spot c.args.arrival.now.system placed) c.args.now c.own-own.result c.clear.new.self c.on_unit.new.out c.args.events.now.items c.follow.new.events.items found.place
    (owned placed _ c.in-Some.one.now c.own-own.result found.there c.own-own.ensures)
    (sym c.is_for.ensures ∙ c.if-not-is_for.false) c.requires.clock c.clear.ensures (changes _ _ found.there c.in_ok-follow.ensures.entities takes) c.in_ok-follow.ensures.follows

pub on_unit-requires-clause-clock : goal.on_unit-requires-clause-clock
on_unit-requires-clause-clock g c = behind_there c.args.now c.args.transport.now.entities.items _ c.in-Some.one.now c.requires.behind c.in-Some.ensures.found.there

pub on_unit-requires-clause-due : goal.on_unit-requires-clause-due
on_unit-requires-clause-due g c =
    later_place c.args.now c.args.transport.now.entities.items c.args.arrival.now.system _ c.in-Some.one.now c.requires.later c.in-Some.ensures.found.place c.in-Some.ensures.found.there

pub returns-then-not-is_for-clause-later : goal.returns-then-not-is_for-clause-later
returns-then-not-is_for-clause-later g c =
    subst (λ (ps : List Placed). AreLaterAll c.args.now ps) (sym (unchanged c.args.transport.now.entities.items _ c.in-Some.one.now _ c.in-Some.ensures.found.there refl)) c.requires.later

pub returns-clause-behind : goal.returns-clause-behind
returns-clause-behind g c = behind_left c.args.now c.args.transport.now.entities.items _ _ _ c.in_ok-follow.ensures.entities c.requires.behind c.on_unit.ensures.clock

pub returns-clause-later : goal.returns-clause-later
returns-clause-later g c =
    later_changed c.args.now c.args.transport.now.entities.items _ c.args.arrival.now.system _ c.in-Some.ensures.found.place c.requires.later (changes _ _ c.in-Some.ensures.found.there c.in_ok-follow.ensures.entities c.in_ok-on_unit.ensures.later)
