use Rattle.std.proofs.Common.{◌≡◌, ◌<◌, ◌≤◌, ◌||◌, length, ◌∙◌, arith}
use Rattle.tp4_relay.specs.steps.Tables.{kept_of}
use Rattle.tp4_relay.proofs.Carried.{now_notable, reacted_all, reacting_allowed, reacting_none}
use Rattle.tp4_relay.proofs.Placed.{on_err}
use Rattle.tp4_relay.proofs.Reacted.{carried_on, carry_may, carry_named, carry_stops, event_there}
use Rattle.tp4_relay.proofs.Served.{done_before, done_now}
use Rattle.tp4_relay.proofs.reacting.react_all.Goals as goal
use Rattle.tp4_relay.proofs.reacting.react_all.Goals.{then-branch, else-branch}

pub loop-at-init : goal.loop-at-init
loop-at-init g c = record {
  tied = c.requires.tied;
  so_far = reacting_none g.S.Service.has g.S.Service.ends g.S.Service.honest g.S.Service.connects g.S.Service.calls g.met.S.Service.laws
      c.args.service.now (kept_of c.args.table.now) c.args.events.now.items c.requires.tied.tidy c.requires.line c.requires.has c.requires.named;
}

pub index-requires : goal.index-requires
index-requires g c =
    let low : c.loop-at.at < length c.args.events.now.items = omega (arith, c.args.events.now.ok.0) in
    let there : c.loop-at.at < length c.loop-at.events.items =
    event_there g.S.Service.has g.S.Service.ends g.S.Service.honest g.S.Service.connects g.S.Service.calls g.met.S.Service.laws
    c.args.service.now (kept_of c.args.table.now) c.args.events.now.items c.requires.tied.tidy c.requires.line
    c.loop-at.at c.loop-at.service (kept_of c.loop-at.table) c.loop-at.events.items c.loop-at.done c.loop-at.invariant.so_far low in
    omega (arith, there, c.loop-at.events.ok.0)

pub take_up-requires-clause-notable : goal.take_up-requires-clause-notable
take_up-requires-clause-notable g c =
    let low : c.loop-at.at < length c.args.events.now.items = omega (arith, c.args.events.now.ok.0) in
    now_notable g.S.Service.has g.S.Service.ends g.S.Service.honest g.S.Service.connects g.S.Service.calls g.met.S.Service.laws
    c.args.service.now (kept_of c.args.table.now) c.args.events.now.items c.requires.tied.tidy c.requires.line
    c.loop-at.at c.loop-at.service (kept_of c.loop-at.table) c.loop-at.events.items c.loop-at.done c.loop-at.invariant.so_far low
    c.index.result.now c.index.ensures

pub returns-in_err-to_do-clause-broken : goal.returns-in_err-to_do-clause-broken
returns-in_err-to_do-clause-broken g c =
    on_err _ _ (reacting_allowed g.S.Service.has g.S.Service.ends g.S.Service.honest g.S.Service.connects g.S.Service.calls g.met.S.Service.laws
    c.args.service.now (kept_of c.args.table.now) c.args.events.now.items c.requires.tied.tidy c.requires.line
    c.loop-at.at c.loop-at.service (kept_of c.loop-at.table) c.loop-at.events.items c.loop-at.done c.loop-at.invariant.so_far)

pub carry_out-requires-clause-may : goal.carry_out-requires-clause-may
carry_out-requires-clause-may g c =
    let low : c.loop-at.at < length c.args.events.now.items = omega (arith, c.args.events.now.ok.0) in
    carry_may g.S.Service.has g.S.Service.ends g.S.Service.honest g.S.Service.connects g.S.Service.calls g.met.S.Service.laws
    c.args.service.now (kept_of c.args.table.now) c.args.events.now.items c.requires.tied.tidy c.requires.line
    c.loop-at.at c.loop-at.service (kept_of c.loop-at.table) c.loop-at.events.items c.loop-at.done c.loop-at.invariant.so_far low
    c.index.result.now c.index.ensures (kept_of c.take_up.new.table) c.in_ok-to_do.ensures.noted c.in_ok-to_do.to_do c.in_ok-to_do.ensures.reaction c.loop-at.invariant.tied.tidy

pub carry_out-requires-clause-named : goal.carry_out-requires-clause-named
carry_out-requires-clause-named g c =
    let low : c.loop-at.at < length c.args.events.now.items = omega (arith, c.args.events.now.ok.0) in
    carry_named g.S.Service.has g.S.Service.ends g.S.Service.honest g.S.Service.connects g.S.Service.calls g.met.S.Service.laws
    c.args.service.now (kept_of c.args.table.now) c.args.events.now.items c.requires.tied.tidy c.requires.line
    c.loop-at.at c.loop-at.service (kept_of c.loop-at.table) c.loop-at.events.items c.loop-at.done c.loop-at.invariant.so_far low
    c.index.result.now c.index.ensures (kept_of c.take_up.new.table) c.in_ok-to_do.ensures.noted c.in_ok-to_do.to_do c.in_ok-to_do.ensures.reaction

pub returns-in_err-carry_out-clause-broken : goal.returns-in_err-carry_out-clause-broken
returns-in_err-carry_out-clause-broken g c =
    let low : c.loop-at.at < length c.args.events.now.items = omega (arith, c.args.events.now.ok.0) in
    on_err _ _ (carry_stops g.S.Service.has g.S.Service.ends g.S.Service.honest g.S.Service.connects g.S.Service.calls g.met.S.Service.laws
    c.args.service.now (kept_of c.args.table.now) c.args.events.now.items c.requires.tied.tidy c.requires.line
    c.loop-at.at c.loop-at.service (kept_of c.loop-at.table) c.loop-at.events.items c.loop-at.done c.loop-at.invariant.so_far low
    c.index.result.now c.index.ensures (kept_of c.take_up.new.table) c.in_ok-to_do.ensures.noted c.in_ok-to_do.to_do c.in_ok-to_do.ensures.reaction c.carry_out.new.events.items c.in_err-carry_out.ensures.broken)

pub loop-at-preserved : goal.loop-at-preserved
loop-at-preserved g c =
    let low : c.loop-at.at < length c.args.events.now.items = omega (arith, c.args.events.now.ok.0) in
    let next : c.if-branch.done ≡ (c.loop-at.done || c.in_ok-carry_out.field-0) =
    elim c.if-branch.branch [
      | then-branch w ↦ w.done-is ∙ done_now c.loop-at.done c.in_ok-carry_out.field-0 w.if-branch.true
      | else-branch w ↦ w.done-is ∙ done_before c.loop-at.done c.in_ok-carry_out.field-0 w.if-branch.false
    ] in
    record {
      tied = c.carry_out.ensures.tied;
      so_far = carried_on g.S.Service.has g.S.Service.ends g.S.Service.honest g.S.Service.connects g.S.Service.calls g.met.S.Service.laws
          c.args.service.now (kept_of c.args.table.now) c.args.events.now.items c.requires.tied.tidy c.requires.line
          c.loop-at.at c.loop-at.service (kept_of c.loop-at.table) c.loop-at.events.items c.loop-at.done c.loop-at.invariant.so_far low
          c.index.result.now c.index.ensures (kept_of c.take_up.new.table) c.in_ok-to_do.ensures.noted c.in_ok-to_do.to_do c.in_ok-to_do.ensures.reaction c.carry_out.new.service (kept_of c.carry_out.new.table) c.carry_out.new.events.items c.in_ok-carry_out.field-0 c.if-branch.done next
          c.in_ok-carry_out.ensures.told;
    }

pub returns-clause-told : goal.returns-clause-told
returns-clause-told g c =
    let past : length c.args.events.now.items ≤ c.loop-at.at = omega (arith, c.args.events.now.ok.0) in
    reacted_all g.S.Service.has g.S.Service.ends g.S.Service.honest g.S.Service.connects g.S.Service.calls g.met.S.Service.laws
    c.args.service.now (kept_of c.args.table.now) c.args.events.now.items c.requires.tied.tidy c.requires.line
    c.loop-at.at c.loop-at.service (kept_of c.loop-at.table) c.loop-at.events.items c.loop-at.done past c.loop-at.invariant.so_far
