-- The text of a transcript of `run` tells its events: its network is one of those with transport entities whose lines are told.
use Rattle.std.proofs.Common.{ℕ, List}
use Rattle.script_journal.specs.declared.event.Event.{Event}
use Rattle.script_lines.specs.declared.words.Dialect.TheVariants as dialects
use Rattle.script_lines.specs.declared.line.Line.{Line}
use Rattle.law_setup.specs.ClnpNets.{MakesNet, NetDoes, link_of_net}
use Rattle.law_setup.proofs.Made.{net_law, net_laws, none_sent}
use Rattle.law_run.specs.World.{World, world_acts}
use Rattle.law_told.specs.Reading.{IsLegible}
use Rattle.law_told.proofs.Network.{StandsTold}
use Rattle.law_told.proofs.Routed.{routed_tells}
use Rattle.law_told.proofs.Transports.{transport_legible}

pub run_legible : IsLegible world_acts (λ script journal last. Prim.Unit {0})
run_legible = transport_legible link_of_net NetDoes net_law MakesNet dialects.Run none_sent net_laws StandsTold routed_tells (λ script journal last. Prim.Unit {0})
