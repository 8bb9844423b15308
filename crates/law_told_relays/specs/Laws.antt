-- What a reader of a transcript may conclude of it.
use Rattle.law_told.specs.Reading.{IsLegible}
use Rattle.law_setup.specs.ClnpNets.{MakesNet, NetDoes, link_of_net}
use Rattle.script_relays.specs.Giving.{TellsRelays}
use Rattle.law_told_relays.specs.Relays.{relay_acts}

-- the text of a transcript of `relay` tells its events, and so what is read of it is lawful and relayed where the run is, and after each pump all that was
-- shown was submitted where it is so of the run
abbrev pub RelaysAreLegible : Type 0
RelaysAreLegible = IsLegible relay_acts (TellsRelays link_of_net NetDoes MakesNet)
