-- What the command `relay` runs (X.214, model of the transport service).
use Rattle.script_bench.specs.Acts.{Acts}
use Rattle.law_setup.specs.ClnpNets.{MakesNet, Net, NetDoes, link_of_net}
use Rattle.script_world.specs.Plays.{world_acts}
use Rattle.script_world.specs.declared.play.World.{World}
use Rattle.law_relay.specs.Relays.{RelayRun, relay_play}

-- transport entities, and relays at their systems, over the network of systems and LANs
abbrev pub relay_acts : Acts (World (RelayRun Net))
relay_acts = world_acts (relay_play link_of_net NetDoes MakesNet)
