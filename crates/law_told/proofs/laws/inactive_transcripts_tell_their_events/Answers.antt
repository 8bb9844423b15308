use Rattle.script_lines.specs.declared.words.Dialect.TheVariants as dialects
use Rattle.law_setup.specs.InactiveNets.{InactiveDoes, MakesInactive, link_of_inactive}
use Rattle.law_setup.proofs.MadeInactive.{inactive_laws, none_sent, subset_law}
use Rattle.law_told.specs.Inactive.{IsLawfulRun}
use Rattle.law_told.proofs.Inactive.{SubsetTold, inactive_tells}
use Rattle.law_told.proofs.Transports.{transport_legible}
use Rattle.law_told.proofs.laws.inactive_transcripts_tell_their_events.Goals as goal

pub returns : goal.returns
returns c = transport_legible link_of_inactive InactiveDoes subset_law MakesInactive dialects.Inactive none_sent inactive_laws SubsetTold inactive_tells IsLawfulRun
