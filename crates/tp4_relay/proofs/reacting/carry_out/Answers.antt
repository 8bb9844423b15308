use Rattle.std.proofs.Common.{◌∙◌}
use Rattle.tp4_relay.specs.steps.Tables.{kept_of}
use Rattle.tp4_relay.proofs.Carried.{can_do, idle_broken}
use Rattle.tp4_relay.proofs.Doing.{note_bound, note_notable, noted_broken, noted_told}
use Rattle.tp4_relay.proofs.Placed.{on_err}
use Rattle.tp4_relay.proofs.reacting.carry_out.Goals as goal

pub act-requires : goal.act-requires
act-requires g c = can_do (g.S.Service.has c.args.service.now) (kept_of c.args.table.now) c.args.to_do c.requires.may

pub returns-in_err-done-clause-broken : goal.returns-in_err-done-clause-broken
returns-in_err-done-clause-broken g c =
    on_err _ _ (idle_broken g.S.Service.has g.S.Service.ends g.S.Service.honest g.S.Service.connects g.S.Service.calls g.met.S.Service.laws
    (kept_of c.args.table.now) c.args.service.now c.args.events.now.items c.act.new.events.items c.in_err-done.ensures.broken)

pub note_from-requires-clause-bound : goal.note_from-requires-clause-bound
note_from-requires-clause-bound g c =
    note_bound g.S.Service.has g.S.Service.ends g.S.Service.honest g.S.Service.connects g.S.Service.calls g.met.S.Service.laws
    (kept_of c.args.table.now) c.args.to_do c.in_ok-done.done c.args.service.now c.args.events.now.items c.act.new.events.items c.act.new.service c.len-told.result c.deref.result.now
    (c.len-told.ensures ∙ c.args.events.now.ok.0) c.deref.ensures.value c.requires.named c.requires.may c.in_ok-done.ensures.told

pub note_from-requires-clause-notable : goal.note_from-requires-clause-notable
note_from-requires-clause-notable g c =
    note_notable g.S.Service.has g.S.Service.ends g.S.Service.honest g.S.Service.connects g.S.Service.calls g.met.S.Service.laws
    (kept_of c.args.table.now) c.args.to_do c.in_ok-done.done c.args.service.now c.args.events.now.items c.act.new.events.items c.act.new.service c.len-told.result c.deref.result.now
    (c.len-told.ensures ∙ c.args.events.now.ok.0) c.deref.ensures.value c.requires.named c.requires.may c.in_ok-done.ensures.told c.requires.tied.tidy

pub returns-in_err-note_from-clause-broken : goal.returns-in_err-note_from-clause-broken
returns-in_err-note_from-clause-broken g c =
    on_err _ _ (noted_broken g.S.Service.has g.S.Service.ends g.S.Service.honest g.S.Service.connects g.S.Service.calls g.met.S.Service.laws
    (kept_of c.args.table.now) c.args.to_do c.in_ok-done.done c.args.service.now c.args.events.now.items c.act.new.events.items c.act.new.service c.len-told.result c.deref.result.now
    (c.len-told.ensures ∙ c.args.events.now.ok.0) c.deref.ensures.value c.requires.named c.requires.may c.in_ok-done.ensures.told)

pub returns-clause-told : goal.returns-clause-told
returns-clause-told g c =
    noted_told g.S.Service.has g.S.Service.ends g.S.Service.honest g.S.Service.connects g.S.Service.calls g.met.S.Service.laws
    (kept_of c.args.table.now) c.args.to_do c.in_ok-done.done c.args.service.now c.args.events.now.items c.act.new.events.items c.act.new.service c.len-told.result c.deref.result.now
    (c.len-told.ensures ∙ c.args.events.now.ok.0) c.deref.ensures.value c.requires.named c.requires.may c.in_ok-done.ensures.told (kept_of c.note_from.new.table) c.in_ok-note_from.ensures.noted
