use Rattle.tp4_number.specs.Number.{whole}
use Rattle.law_tp4_lawful.proofs.ActsLines.{Flowing}
use Rattle.law_setup.proofs.Made.{net_law}
use Rattle.law_recovery.specs.Runs.{FollowsFrom}
use Rattle.law_recovery.proofs.Running.{follows_over}
use Rattle.law_run.specs.World.{NetDoes, link_of_net}
use Rattle.law_recovery_scripts.proofs.Prompt.{on_nets}
use Rattle.law_recovery_scripts.proofs.laws.nets_follow.Goals as goal

pub returns : goal.returns
returns c =
    let flow = c.flowed.ensures in
    let flowing : Flowing = record { step = flow.step; partner = flow.partner; later = flow.later; offered = flow.offered; plain = flow.plain; noted = flow.noted } in
    on_nets (λ titles begins. FollowsFrom link_of_net NetDoes whole titles begins) (λ titles begins Waiting prompt.
    c.runs_follow.ensures.along titles begins
    (follows_over link_of_net NetDoes net_law flowing flow.known c.journals_are_lawful.ensures.begins c.moved.ensures.going c.ends_have_numbers.ensures c.over_calls.ensures.steady titles begins Waiting prompt))
