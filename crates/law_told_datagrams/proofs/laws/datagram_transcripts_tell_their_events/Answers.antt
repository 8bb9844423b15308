use Rattle.law_setup.specs.ClnpNets.{MakesNet, NetDoes, link_of_net}
use Rattle.law_setup.proofs.Made.{net_law, net_laws}
use Rattle.script_datagrams.specs.Claims.{TellsDatagrams}
use Rattle.law_told.proofs.Network.{StandsTold}
use Rattle.law_told.proofs.Routed.{routed_tells}
use Rattle.law_told_datagrams.proofs.Played.{datagrams_legible}
use Rattle.law_told_datagrams.proofs.laws.datagram_transcripts_tell_their_events.Goals as goal

pub returns : goal.returns
returns c = datagrams_legible link_of_net NetDoes net_law MakesNet net_laws StandsTold routed_tells (TellsDatagrams link_of_net NetDoes MakesNet)
