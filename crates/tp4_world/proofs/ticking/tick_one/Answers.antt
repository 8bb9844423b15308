use Rattle.std.proofs.Common.{◌∙◌, [], ap, refl, sym}
use Rattle.std.proofs.lemmas.List.{append-nil}
use Rattle.tp4_number.specs.Number.{wire}
use Rattle.tp4_world.specs.World.{is_of}
use Rattle.tp4_world.specs.steps.Parts.{systems_of}
use Rattle.tp4_world.proofs.Entities.{systems_stay}
use Rattle.tp4_world.proofs.Later.{from_changed, from_place, kept_changed, rest_changed}
use Rattle.tp4_world.proofs.Lent.{behind_left, behind_there, changes, owned, read_at}
use Rattle.tp4_world.proofs.Places.{first_within}
use Rattle.tp4_world.proofs.Ticked.{fewer_due, once_due, once_none}
use Rattle.tp4_world.proofs.ticking.tick_one.Goals as goal

pub returns-then-not-was_due-clause-ticks : goal.returns-then-not-was_due-clause-ticks
returns-then-not-was_due-clause-ticks g c =
    let placed = c.args.transport.now.entities.items in
    let there = read_at placed c.args.system c.args.place c.in-Some.one.now c.requires.place c.in-Some.ensures.value in
    record {
      made = [];
      added = sym (append-nil c.args.events.now.items);
      are = once_none g.C.Carrier.link g.C.Carrier.steps wire c.args.carrier.now placed _ c.args.transport.now.ends c.args.system c.args.place c.args.now
          c.in_ok-was_due.was_due c.clear.new.self c.tick_next.new.out c.requires.place c.requires.clock
          c.if-not-was_due.true (changes _ _ there refl (c.in_ok-was_due.ensures.due, c.in_ok-was_due.ensures.step));
    }

pub returns-clause-ticks : goal.returns-clause-ticks
returns-clause-ticks g c =
    let placed = c.args.transport.now.entities.items in
    let there = read_at placed c.args.system c.args.place c.in-Some.one.now c.requires.place c.in-Some.ensures.value in
    once_due g.C.Carrier.link g.C.Carrier.steps wire c.args.carrier.now c.follow.new.carrier placed _ c.args.transport.now.ends c.follow.new.transport.ends
    c.args.system c.args.place c.args.now c.own-own.result c.in_ok-was_due.was_due c.clear.new.self c.tick_next.new.out c.args.events.now.items c.follow.new.events.items
    c.requires.place (owned placed _ c.in-Some.one.now c.own-own.result there c.own-own.ensures)
    c.requires.clock c.if-not-was_due.false c.clear.ensures (changes _ _ there c.in_ok-follow.ensures.entities (c.in_ok-was_due.ensures.due, c.in_ok-was_due.ensures.step)) c.in_ok-follow.ensures.follows

pub returns-then-not-was_due-clause-systems : goal.returns-then-not-was_due-clause-systems
returns-then-not-was_due-clause-systems g c =
    let placed = c.args.transport.now.entities.items in
    let there = read_at placed c.args.system c.args.place c.in-Some.one.now c.requires.place c.in-Some.ensures.value in
    systems_stay placed c.args.place c.in-Some.one.now _ there

pub returns-clause-systems : goal.returns-clause-systems
returns-clause-systems g c =
    let placed = c.args.transport.now.entities.items in
    let there = read_at placed c.args.system c.args.place c.in-Some.one.now c.requires.place c.in-Some.ensures.value in
    ap systems_of c.in_ok-follow.ensures.entities ∙ systems_stay placed c.args.place c.in-Some.one.now _ there

pub returns-clause-fewer : goal.returns-clause-fewer
returns-clause-fewer g c = λ due.
    let placed = c.args.transport.now.entities.items in
    let there = read_at placed c.args.system c.args.place c.in-Some.one.now c.requires.place c.in-Some.ensures.value in
    fewer_due c.args.now placed _ c.args.system c.args.place c.requires.place (changes _ _ there c.in_ok-follow.ensures.entities (c.in_ok-was_due.ensures.fewer c.if-not-was_due.false))

pub unreachable-requires : goal.unreachable-requires
unreachable-requires g c = let low = first_within (is_of c.args.system) c.args.transport.now.entities.items c.args.place c.requires.place in let item = c.in_default.ensures.item.2 low in cc

pub tick_next-requires-clause-clock : goal.tick_next-requires-clause-clock
tick_next-requires-clause-clock g c =
    let placed = c.args.transport.now.entities.items in
    let there = read_at placed c.args.system c.args.place c.in-Some.one.now c.requires.place c.in-Some.ensures.value in
    behind_there c.args.now placed c.args.place c.in-Some.one.now c.requires.behind there

pub tick_next-requires-clause-due : goal.tick_next-requires-clause-due
tick_next-requires-clause-due g c =
    let placed = c.args.transport.now.entities.items in
    let there = read_at placed c.args.system c.args.place c.in-Some.one.now c.requires.place c.in-Some.ensures.value in
    from_place c.args.now placed c.args.system c.args.place c.in-Some.one.now c.requires.from c.requires.place there

pub returns-then-not-was_due-clause-behind : goal.returns-then-not-was_due-clause-behind
returns-then-not-was_due-clause-behind g c = behind_left c.args.now c.args.transport.now.entities.items _ _ _ refl c.requires.behind c.tick_next.ensures.clock

pub returns-clause-behind : goal.returns-clause-behind
returns-clause-behind g c = behind_left c.args.now c.args.transport.now.entities.items _ _ _ c.in_ok-follow.ensures.entities c.requires.behind c.tick_next.ensures.clock

pub returns-then-not-was_due-clause-from : goal.returns-then-not-was_due-clause-from
returns-then-not-was_due-clause-from g c =
    let placed = c.args.transport.now.entities.items in
    let there = read_at placed c.args.system c.args.place c.in-Some.one.now c.requires.place c.in-Some.ensures.value in
    from_changed c.args.now placed _ c.args.system c.args.place c.requires.place c.requires.from (changes _ _ there refl c.in_ok-was_due.ensures.from)

pub returns-clause-from : goal.returns-clause-from
returns-clause-from g c =
    let placed = c.args.transport.now.entities.items in
    let there = read_at placed c.args.system c.args.place c.in-Some.one.now c.requires.place c.in-Some.ensures.value in
    from_changed c.args.now placed _ c.args.system c.args.place c.requires.place c.requires.from (changes _ _ there c.in_ok-follow.ensures.entities c.in_ok-was_due.ensures.from)

pub returns-then-not-was_due-clause-kept : goal.returns-then-not-was_due-clause-kept
returns-then-not-was_due-clause-kept g c =
    let placed = c.args.transport.now.entities.items in
    let there = read_at placed c.args.system c.args.place c.in-Some.one.now c.requires.place c.in-Some.ensures.value in
    kept_changed c.args.now placed _ c.args.system c.args.place c.requires.place (changes _ _ there refl c.in_ok-was_due.ensures.later)

pub returns-clause-kept : goal.returns-clause-kept
returns-clause-kept g c =
    let placed = c.args.transport.now.entities.items in
    let there = read_at placed c.args.system c.args.place c.in-Some.one.now c.requires.place c.in-Some.ensures.value in
    kept_changed c.args.now placed _ c.args.system c.args.place c.requires.place (changes _ _ there c.in_ok-follow.ensures.entities c.in_ok-was_due.ensures.later)

pub returns-then-not-was_due-clause-rest : goal.returns-then-not-was_due-clause-rest
returns-then-not-was_due-clause-rest g c = λ none.
    let placed = c.args.transport.now.entities.items in
    let there = read_at placed c.args.system c.args.place c.in-Some.one.now c.requires.place c.in-Some.ensures.value in
    rest_changed c.args.now placed _ c.args.system c.args.place c.requires.place (changes _ _ there refl (c.in_ok-was_due.ensures.rest c.if-not-was_due.true))
