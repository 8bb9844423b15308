use Rattle.std.proofs.Common.{◌<◌, ◌∙◌, List, ap, length, subst, sym}
use Rattle.std.specs.List.{AllByRecursion}
use Rattle.script_setup.specs.SetUp.{SetUp}
use Rattle.script_setup.specs.Fitting.{IsWell}
use Rattle.script_setup.specs.declared.relay.RelayLine.{RelayLine}
use Rattle.script_setup.proofs.Relays.{relays_low}
use Rattle.script_setup.proofs.setup.SetUp.relays.Goals as goal

pub returns-clause-known : goal.returns-clause-known
returns-clause-known c =
    let old : SetUp = c.args.self.now in
    let well : IsWell old = subst IsWell c.self.view_is c.self.invariant in
    subst (λ (relays : List RelayLine). AllByRecursion (λ (relay : RelayLine). (relay.system < length old.systems) × (relay.to < length old.systems)) relays)
    (sym (c.relays.ensures ∙ ap (λ (s : SetUp). s.relays) c.self.view_is)) (relays_low old.systems old.relays well.relays)
