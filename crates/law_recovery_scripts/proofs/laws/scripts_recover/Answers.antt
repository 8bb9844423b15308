use Rattle.law_recovery_scripts.proofs.Recovering.{nets_serve, scripts_recover}
use Rattle.law_recovery_scripts.proofs.Octets.{recovers_where_kept}
use Rattle.law_recovery_scripts.proofs.laws.scripts_recover.Goals as goal

pub returns-clause-scripts : goal.returns-clause-scripts
returns-clause-scripts c =
    scripts_recover (nets_serve c.recovers_on_wire.ensures.begins c.asks_on_wire.ensures c.runs_follow.ensures.on_wire c.runs_end_indications.ensures.wire_numbers c.nets_recover.ensures c.nets_ask.ensures
    c.nets_follow.ensures) c.scripts_are_ordered.ensures

pub returns-clause-octets : goal.returns-clause-octets
returns-clause-octets c = recovers_where_kept (returns-clause-scripts c)
