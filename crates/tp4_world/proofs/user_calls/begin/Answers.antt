use Rattle.std.proofs.Common.{◌∙◌, ◌++◌, ◌∷◌, [], ap, sym, subst, List, refl}
use Rattle.script_journal.specs.declared.event.Event.{Event}
use Rattle.script_journal.specs.declared.event.Event.TheVariants.{Connect}
use Rattle.script_journal.specs.declared.event.Request.{Request}
use Rattle.tp4_world.specs.declared.place.Placed.{Placed}
use Rattle.tp4_world.proofs.Asked.{connect_begun, connect_memory, connect_refused}
use Rattle.tp4_world.proofs.Entities.{listed_place}
use Rattle.tp4_world.specs.steps.Lending.{spot}
use Rattle.tp4_world.specs.steps.Parts.{AreLaterAll}
use Rattle.tp4_world.proofs.Later.{later_changed, later_place}
use Rattle.tp4_world.proofs.Lent.{behind_left, behind_there, changes, owned, unchanged}
use Rattle.tp4_world.proofs.user_calls.begin.Goals as goal

pub returns-in_ok-follow-in-Ok-clause-connects : goal.returns-in_ok-follow-in-Ok-clause-connects
returns-in_ok-follow-in-Ok-clause-connects g c =
    let placed = c.args.transport.now.entities.items in
    let found = c.in-Some.ensures.found in
    let begun = c.in-Ok.ensures in
    connect_begun g.C.Carrier.link g.C.Carrier.steps c.args.carrier.now c.follow.new.carrier placed _ c.args.transport.now.ends c.add.new.self c.follow.new.transport.ends
    c.args.system (spot c.args.system placed) c.args.now c.in-Ok.reference c.in_ok-end-in-Ok.end c.own-own.result c.args.request c.clear.new.self c.connect.new.out (Connect c.in_ok-new-in-Ok.field-0)
    c.push.new.self.items c.follow.new.events.items found.place (owned placed _ c.in-Some.one.now c.own-own.result found.there c.own-own.ensures)
    c.requires.clock c.clear.ensures (changes _ _ found.there c.in_ok-follow-in-Ok.ensures.entities (begun.allowed, begun.least, begun.step)) c.in_ok-end-in-Ok.ensures.added c.in_ok-end-in-Ok.ensures.number
    (ap (λ (r : Request). Connect r) c.in_ok-new-in-Ok.ensures ∙ c.in_ok-line.ensures c.in_ok-end-in-Ok.end c.in-Ok.reference)
    (c.in_ok-push-in-Ok.ensures.items ∙ ap (λ (es : List Event). es ++ Connect c.in_ok-new-in-Ok.field-0 ∷ []) c.requires.none) c.in_ok-follow-in-Ok.ensures.follows

pub returns-in_ok-refuse-in-Err-clause-connects : goal.returns-in_ok-refuse-in-Err-clause-connects
returns-in_ok-refuse-in-Err-clause-connects g c =
    let placed = c.args.transport.now.entities.items in
    let found = c.in-Some.ensures.found in
    let told = c.in_ok-refuse-in-Err.ensures in
    let is = sym c.told_connect.ensures ∙ told.1 in
    let memory = connect_memory c.in-Err.why told.0 is in
    connect_refused g.C.Carrier.link g.C.Carrier.steps c.args.carrier.now placed _ c.args.transport.now.ends c.args.system (spot c.args.system placed) c.args.now
    c.args.request c.in-Some.one.now c.in-Err.why told.0 c.refuse.new.events.items found.place found.there c.requires.clock (c.in-Err.ensures.why memory)
    (unchanged placed _ c.in-Some.one.now _ found.there (c.in-Err.ensures.err memory).0) is told.2

pub unreachable-requires : goal.unreachable-requires
unreachable-requires g c = listed_place c.args.transport.now.entities.items c.args.system c.requires.listed c.in_default.ensures.found

pub connect-requires-clause-clock : goal.connect-requires-clause-clock
connect-requires-clause-clock g c = behind_there c.args.now c.args.transport.now.entities.items _ c.in-Some.one.now c.requires.behind c.in-Some.ensures.found.there

pub connect-requires-clause-due : goal.connect-requires-clause-due
connect-requires-clause-due g c =
    later_place c.args.now c.args.transport.now.entities.items c.args.system _ c.in-Some.one.now c.requires.later c.in-Some.ensures.found.place c.in-Some.ensures.found.there

pub returns-in_ok-follow-in-Ok-clause-behind : goal.returns-in_ok-follow-in-Ok-clause-behind
returns-in_ok-follow-in-Ok-clause-behind g c = behind_left c.args.now c.args.transport.now.entities.items _ _ _ c.in_ok-follow-in-Ok.ensures.entities c.requires.behind c.connect.ensures.clock

pub returns-in_ok-refuse-in-Err-clause-behind : goal.returns-in_ok-refuse-in-Err-clause-behind
returns-in_ok-refuse-in-Err-clause-behind g c = behind_left c.args.now c.args.transport.now.entities.items _ _ _ refl c.requires.behind c.connect.ensures.clock

pub returns-in_ok-follow-in-Ok-clause-later : goal.returns-in_ok-follow-in-Ok-clause-later
returns-in_ok-follow-in-Ok-clause-later g c =
    later_changed c.args.now c.args.transport.now.entities.items _ c.args.system _ c.in-Some.ensures.found.place c.requires.later (changes _ _ c.in-Some.ensures.found.there c.in_ok-follow-in-Ok.ensures.entities c.in-Ok.ensures.later)

pub returns-in_ok-refuse-in-Err-clause-later : goal.returns-in_ok-refuse-in-Err-clause-later
returns-in_ok-refuse-in-Err-clause-later g c =
    let placed = c.args.transport.now.entities.items in
    let told = c.in_ok-refuse-in-Err.ensures in
    let memory = connect_memory c.in-Err.why told.0 (sym c.told_connect.ensures ∙ told.1) in
    subst (λ (ps : List Placed). AreLaterAll c.args.now ps) (sym (unchanged placed _ c.in-Some.one.now _ c.in-Some.ensures.found.there (c.in-Err.ensures.err memory).0)) c.requires.later
