use Rattle.std.proofs.Common.{◌∙◌, ◌++◌, ap, refl, sym, subst, List}
use Rattle.script_journal.specs.declared.event.Event.{Event}
use Rattle.tp4_number.specs.Number.{wire}
use Rattle.tp4_world.specs.declared.place.Placed.{Placed}
use Rattle.tp4_world.specs.steps.Lending.{spot}
use Rattle.tp4_world.specs.steps.Parts.{AreLaterAll, listed}
use Rattle.tp4_world.proofs.Asked.{call_done, call_memory, call_refused, called_there, ended_refused}
use Rattle.tp4_world.proofs.Entities.{listed_place}
use Rattle.tp4_world.proofs.Later.{later_changed, later_place}
use Rattle.tp4_world.proofs.Lent.{behind_left, behind_there, changes, owned, unchanged}
use Rattle.tp4_world.proofs.SomeCalls.{numbered}
use Rattle.tp4_world.proofs.user_calls.ask.Goals as goal

pub unreachable-requires : goal.unreachable-requires
unreachable-requires g c =
    listed_place c.args.transport.now.entities.items c.in-Some.end.system
    (numbered c.args.transport.now.entities.items c.args.transport.now.ends c.args.number c.in-Some.end c.requires.housed (sym c.numbered.ensures ∙ c.in-Some.is)) c.in_default-entity_of.ensures.found

pub has_ended-requires : goal.has_ended-requires
has_ended-requires g c = behind_there c.args.now c.args.transport.now.entities.items _ c.in-Some-entity_of.one.now c.requires.behind c.in-Some-entity_of.ensures.found.there

pub returns-then-has_ended-clause-calls : goal.returns-then-has_ended-clause-calls
returns-then-has_ended-clause-calls g c =
    let placed = c.args.transport.now.entities.items in
    let found = c.in-Some-entity_of.ensures.found in
    let told = c.in_ok-refuse-2.ensures in
    ended_refused g.C.Carrier.link g.C.Carrier.steps wire c.args.carrier.now placed _ c.args.transport.now.ends (spot c.in-Some.end.system placed) c.args.now c.args.number c.in-Some.end c.args.call
    c.in-Some-entity_of.one.now told.0 c.refuse-then-has_ended.new.events.items (sym c.numbered.ensures ∙ c.in-Some.is) found.place found.there c.requires.clock (sym c.has_ended.ensures ∙ c.if-has_ended.true)
    (unchanged placed _ c.in-Some-entity_of.one.now _ found.there refl) told.1 told.2

pub returns-in_ok-follow-in-Ok-clause-calls : goal.returns-in_ok-follow-in-Ok-clause-calls
returns-in_ok-follow-in-Ok-clause-calls g c =
    let placed = c.args.transport.now.entities.items in
    let found = c.in-Some-entity_of.ensures.found in
    called_there g.C.Carrier.link g.C.Carrier.steps wire c.args.carrier.now c.follow.new.carrier placed _ c.args.transport.now.ends c.follow.new.transport.ends (spot c.in-Some.end.system placed) c.args.now c.args.number
    c.in-Some.end c.args.call c.in-Some-entity_of.one.now c.follow.new.events.items (sym c.numbered.ensures ∙ c.in-Some.is) found.place found.there c.requires.clock (sym c.has_ended.ensures ∙ c.if-has_ended.false)
    (call_done g.C.Carrier.link g.C.Carrier.steps wire c.args.carrier.now c.follow.new.carrier placed _ c.args.transport.now.ends c.follow.new.transport.ends
    _ c.args.now c.args.number c.in-Some.end c.own-own.result c.args.call c.clear.new.self c.user.new.out c.tell_some.new.events.items c.follow.new.events.items found.place
    (owned placed _ c.in-Some-entity_of.one.now c.own-own.result found.there c.own-own.ensures) c.requires.clock c.clear.ensures (changes _ _ found.there c.in_ok-follow-in-Ok.ensures.entities (c.in-Ok.ensures.allowed, c.in-Ok.ensures.step))
    (c.in_ok-tell_some-in-Ok.ensures ∙ ap (λ (es : List Event). es ++ listed c.in_ok-event.event) c.requires.none ∙ c.in_ok-event.ensures) c.in_ok-follow-in-Ok.ensures.follows)

pub returns-in_ok-refuse-in-Err-clause-calls : goal.returns-in_ok-refuse-in-Err-clause-calls
returns-in_ok-refuse-in-Err-clause-calls g c =
    let placed = c.args.transport.now.entities.items in
    let found = c.in-Some-entity_of.ensures.found in
    let told = c.in_ok-refuse-in-Err.ensures in
    let is = sym c.told_refusal.ensures ∙ told.1 in
    let memory = call_memory c.in-Err.why told.0 is in
    called_there g.C.Carrier.link g.C.Carrier.steps wire c.args.carrier.now c.args.carrier.now placed _ c.args.transport.now.ends c.args.transport.now.ends (spot c.in-Some.end.system placed) c.args.now c.args.number
    c.in-Some.end c.args.call c.in-Some-entity_of.one.now c.refuse-in-Err.new.events.items (sym c.numbered.ensures ∙ c.in-Some.is) found.place found.there c.requires.clock (sym c.has_ended.ensures ∙ c.if-has_ended.false)
    (call_refused g.C.Carrier.link g.C.Carrier.steps wire c.args.carrier.now placed _ c.args.transport.now.ends _ c.args.number c.in-Some.end
    c.args.call c.in-Some-entity_of.one.now c.in-Err.why told.0 c.refuse-in-Err.new.events.items found.place found.there (c.in-Err.ensures.why memory)
    (unchanged placed _ c.in-Some-entity_of.one.now _ found.there (c.in-Err.ensures.err memory).0) is told.2)

pub user-requires-clause-clock : goal.user-requires-clause-clock
user-requires-clause-clock g c = behind_there c.args.now c.args.transport.now.entities.items _ c.in-Some-entity_of.one.now c.requires.behind c.in-Some-entity_of.ensures.found.there

pub user-requires-clause-due : goal.user-requires-clause-due
user-requires-clause-due g c =
    later_place c.args.now c.args.transport.now.entities.items c.in-Some.end.system _ c.in-Some-entity_of.one.now c.requires.later c.in-Some-entity_of.ensures.found.place c.in-Some-entity_of.ensures.found.there

pub returns-then-has_ended-clause-later : goal.returns-then-has_ended-clause-later
returns-then-has_ended-clause-later g c =
    subst (λ (ps : List Placed). AreLaterAll c.args.now ps) (sym (unchanged c.args.transport.now.entities.items _ c.in-Some-entity_of.one.now _ c.in-Some-entity_of.ensures.found.there refl)) c.requires.later

pub returns-in_ok-follow-in-Ok-clause-behind : goal.returns-in_ok-follow-in-Ok-clause-behind
returns-in_ok-follow-in-Ok-clause-behind g c = behind_left c.args.now c.args.transport.now.entities.items _ _ _ c.in_ok-follow-in-Ok.ensures.entities c.requires.behind c.user.ensures.clock

pub returns-in_ok-refuse-in-Err-clause-behind : goal.returns-in_ok-refuse-in-Err-clause-behind
returns-in_ok-refuse-in-Err-clause-behind g c = behind_left c.args.now c.args.transport.now.entities.items _ _ _ refl c.requires.behind c.user.ensures.clock

pub returns-in_ok-follow-in-Ok-clause-later : goal.returns-in_ok-follow-in-Ok-clause-later
returns-in_ok-follow-in-Ok-clause-later g c =
    later_changed c.args.now c.args.transport.now.entities.items _ c.in-Some.end.system _ c.in-Some-entity_of.ensures.found.place c.requires.later (changes _ _ c.in-Some-entity_of.ensures.found.there c.in_ok-follow-in-Ok.ensures.entities c.in-Ok.ensures.later)

pub returns-in_ok-refuse-in-Err-clause-later : goal.returns-in_ok-refuse-in-Err-clause-later
returns-in_ok-refuse-in-Err-clause-later g c =
    let placed = c.args.transport.now.entities.items in
    let told = c.in_ok-refuse-in-Err.ensures in
    let memory = call_memory c.in-Err.why told.0 (sym c.told_refusal.ensures ∙ told.1) in
    subst (λ (ps : List Placed). AreLaterAll c.args.now ps) (sym (unchanged placed _ c.in-Some-entity_of.one.now _ c.in-Some-entity_of.ensures.found.there (c.in-Err.ensures.err memory).0)) c.requires.later
