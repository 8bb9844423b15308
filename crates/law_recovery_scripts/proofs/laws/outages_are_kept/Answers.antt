use Rattle.law_recovery_scripts.proofs.Outages.{scripts_kept}
use Rattle.law_recovery_scripts.proofs.OutageOctets.{octets_kept}
use Rattle.law_recovery_scripts.proofs.laws.outages_are_kept.Goals as goal

pub returns-clause-scripts : goal.returns-clause-scripts
returns-clause-scripts c = scripts_kept c.scripts_are_ordered.ensures c.outages_end_none.ensures.begins c.outages_end_none_on_wire.ensures.begins c.nets_recover.ensures

pub returns-clause-octets : goal.returns-clause-octets
returns-clause-octets c = octets_kept (scripts_kept c.scripts_are_ordered.ensures c.outages_end_none.ensures.begins c.outages_end_none_on_wire.ensures.begins c.nets_recover.ensures)
