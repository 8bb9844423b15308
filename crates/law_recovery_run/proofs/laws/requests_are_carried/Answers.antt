use Rattle.law_tp4_lawful.proofs.ActsLines.{Flowing}
use Rattle.law_tp4_lawful.proofs.CalledStarts.{followed_by}
use Rattle.law_calm_run.specs.Service.{WaitsBy}
use Rattle.law_recovery_run.specs.Ordered.{InOrder, ReachedFrom}
use Rattle.law_recovery_run.proofs.Ordered.{is_fifo, keeps_order}
use Rattle.law_recovery_run.proofs.Fitting.{calls_explained}
use Rattle.std.specs.List.{AllByRecursion}
use Rattle.law_recovery_run.specs.Requesting.{IsApart}
use Rattle.law_recovery_run.proofs.RequestSettles.{begins, begins_apart, goes_on, listening, settles_on}
use Rattle.law_recovery_run.proofs.laws.requests_are_carried.Goals as goal

pub returns-clause-comes : goal.returns-clause-comes
returns-clause-comes g c titles first queue_of prompt timers early made old new hall queue x b r calls running q listens all settles =
    let flow = c.flowed.ensures in
    let flowing : Flowing = record { step = flow.step; partner = flow.partner; later = flow.later; offered = flow.offered; plain = flow.plain; noted = flow.noted } in
    let link = g.C.Carrier.link in
    let steps = g.C.Carrier.steps in
    let explained = calls_explained link steps g.met.C.Carrier.keeps flowing flow.known c.journals_are_lawful.ensures.begins titles timers early old calls in
    settles_on link (InOrder link steps) (keeps_order link steps g.met.C.Carrier.keeps) titles (WaitsBy queue_of) (is_fifo link steps titles (ReachedFrom link steps titles first) (WaitsBy queue_of) prompt)
    (followed_by flowing flow.known) c.moved.ensures.going q.calling.system x q.calling.entity.own b r (AllByRecursion (IsApart q.calling.system q.calling.entity.own b r) hall.posts)
    0 old made new settles early hall queue
    (record { shows = running.shows; kept = running.kept; have = running.have; rest = running.rest }) explained all
    (begins link early old explained x b r q.calling hall.posts q.unanswered q.waits) listens (λ all. begins_apart q.calling.system q.calling.entity.own b r hall.posts all)

pub returns-clause-stays : goal.returns-clause-stays
returns-clause-stays g c titles first queue_of prompt timers early made old new hall queue x b r calls running i all settles =
    let flow = c.flowed.ensures in
    let flowing : Flowing = record { step = flow.step; partner = flow.partner; later = flow.later; offered = flow.offered; plain = flow.plain; noted = flow.noted } in
    let link = g.C.Carrier.link in
    let steps = g.C.Carrier.steps in
    let explained = calls_explained link steps g.met.C.Carrier.keeps flowing flow.known c.journals_are_lawful.ensures.begins titles timers early old calls in
    settles_on link (InOrder link steps) (keeps_order link steps g.met.C.Carrier.keeps) titles (WaitsBy queue_of) (is_fifo link steps titles (ReachedFrom link steps titles first) (WaitsBy queue_of) prompt)
    (followed_by flowing flow.known) c.moved.ensures.going i.calling.system x i.calling.entity.own b r (AllByRecursion (IsApart i.calling.system i.calling.entity.own b r) hall.posts)
    0 old made new settles early hall queue
    (record { shows = running.shows; kept = running.kept; have = running.have; rest = running.rest }) explained all
    (goes_on link early old explained x b r hall.posts i) (listening link early old explained x b r i) (λ all. begins_apart i.calling.system i.calling.entity.own b r hall.posts all)
