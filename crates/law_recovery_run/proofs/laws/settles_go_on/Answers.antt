use Rattle.law_tp4_lawful.proofs.ActsLines.{Flowing}
use Rattle.law_tp4_lawful.proofs.CalledStarts.{followed_by}
use Rattle.law_calm_run.specs.Service.{WaitsBy}
use Rattle.law_recovery_run.specs.Ordered.{InOrder, ReachedFrom}
use Rattle.law_recovery_run.proofs.Ordered.{is_fifo, keeps_order}
use Rattle.law_recovery_run.proofs.Fitting.{calls_explained}
use Rattle.law_recovery_run.proofs.Settling.{settles_on}
use Rattle.law_recovery_run.proofs.laws.settles_go_on.Goals as goal

pub returns : goal.returns
returns g c titles first queue_of prompt timers early made old new hall queue x y p calls running followed live live_there all settles =
    let flow = c.flowed.ensures in
    let flowing : Flowing = record { step = flow.step; partner = flow.partner; later = flow.later; offered = flow.offered; plain = flow.plain; noted = flow.noted } in
    let link = g.C.Carrier.link in
    let steps = g.C.Carrier.steps in
    let explained = calls_explained link steps g.met.C.Carrier.keeps flowing flow.known c.journals_are_lawful.ensures.begins titles timers early old calls in
    settles_on link (InOrder link steps) (keeps_order link steps g.met.C.Carrier.keeps) titles (WaitsBy queue_of) (is_fifo link steps titles (ReachedFrom link steps titles first) (WaitsBy queue_of) prompt)
    c.moved.ensures.going (followed_by flowing flow.known) 0 old made new settles early hall queue x y p
    (record { shows = running.shows; kept = running.kept; have = running.have; rest = running.rest }) explained all followed live live_there
