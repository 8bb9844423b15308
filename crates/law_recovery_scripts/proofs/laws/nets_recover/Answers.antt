use Rattle.tp4_number.specs.Number.{whole}
use Rattle.law_tp4_lawful.proofs.ActsLines.{Flowing}
use Rattle.law_setup.proofs.Made.{net_law}
use Rattle.law_recovery.proofs.Walking.{walked}
use Rattle.law_recovery_run.specs.Service.{RecoversFrom}
use Rattle.law_run.specs.World.{NetDoes, link_of_net}
use Rattle.law_recovery_scripts.proofs.Prompt.{on_nets}
use Rattle.law_recovery_scripts.proofs.laws.nets_recover.Goals as goal

pub returns : goal.returns
returns c =
    let flow = c.flowed.ensures in
    let flowing : Flowing = record { step = flow.step; partner = flow.partner; later = flow.later; offered = flow.offered; plain = flow.plain; noted = flow.noted } in
    on_nets (λ titles begins. RecoversFrom link_of_net NetDoes whole titles begins) (λ titles begins Waiting prompt.
    c.walked_recover.ensures titles begins (walked link_of_net NetDoes net_law flowing flow.known c.journals_are_lawful.ensures.begins c.moved.ensures.going titles begins Waiting prompt))
