-- What the command `datagrams` runs (X.214, connectionless-mode transport service).
use Rattle.script_bench.specs.Acts.{Acts}
use Rattle.law_setup.specs.ClnpNets.{MakesNet, Net, NetDoes, link_of_net}
use Rattle.script_world.specs.Plays.{world_acts}
use Rattle.script_world.specs.declared.play.World.{World}
use Rattle.law_datagram_run.specs.Datagrams.{DatagramRun, cl_play}

-- datagrams over the network of systems and LANs
abbrev pub datagram_acts : Acts (World (DatagramRun Net))
datagram_acts = world_acts (cl_play link_of_net NetDoes MakesNet)
