use Rattle.law_tp4_lawful.proofs.ActsLines.{Flowing}
use Rattle.law_tp4_lawful.proofs.CalledStarts.{followed_by}
use Rattle.law_calm_run.specs.Service.{WaitsBy}
use Rattle.law_recovery.proofs.Starting.{explained_by, runs_told}
use Rattle.law_recovery.proofs.laws.runs_are_told.Goals as goal

pub returns : goal.returns
returns g c titles first queue_of prompt timers early late old last script x y p calls ready followed live live_there run =
    let flow = c.flowed.ensures in
    let flowing : Flowing = record { step = flow.step; partner = flow.partner; later = flow.later; offered = flow.offered; plain = flow.plain; noted = flow.noted } in
    let link = g.C.Carrier.link in
    let steps = g.C.Carrier.steps in
    let explained = explained_by link steps g.met.C.Carrier.keeps flowing flow.known c.journals_are_lawful.ensures.begins titles timers early old calls in
    runs_told link steps g.met.C.Carrier.keeps titles first (WaitsBy queue_of) prompt c.moved.ensures.going (followed_by flowing flow.known) early late old last script x y p explained ready followed live live_there run
