-- What a reader of a transcript may conclude of it.
use Rattle.law_told.specs.Reading.{IsLegible}
use Rattle.law_setup.specs.ClnpNets.{MakesNet, NetDoes, link_of_net}
use Rattle.script_datagrams.specs.Claims.{TellsDatagrams}
use Rattle.law_told_datagrams.specs.Datagrams.{datagram_acts}

-- the text of a transcript of `datagrams` tells its events, and so each datagram that is read of it was sent, and each unit that came up gave one event,
-- where it is so of the run
abbrev pub DatagramsAreLegible : Type 0
DatagramsAreLegible = IsLegible datagram_acts (TellsDatagrams link_of_net NetDoes MakesNet)
