-- The commands that read a script, beside `run`: their names, what each runs, and what is claimed of every run.
use Rattle.std.specs.Prelude.{ℕ, List, codes}
use Rattle.osi_base.specs.declared.status.Status.{Status}
use Rattle.line_loop.specs.Outcome.{IsAccepted, AsksFor}
use Rattle.lan_step.specs.Bag.{Bag}
use Rattle.inactive_step.specs.Network.{Inactive}
use Rattle.script_journal.specs.declared.event.Event.{Event}
use Rattle.script_journal.specs.Lawful.{Lawful}
use Rattle.script_lines.specs.declared.words.Dialect.TheVariants as dialects
use Rattle.script_lines.specs.declared.line.Line.{Line}
use Rattle.script_bench.specs.Acts.{Acts}
use Rattle.script_bench.specs.Bench.{bench_meaning, first_bench}
use Rattle.script_bench.specs.Scripts.{IsTold}
use Rattle.law_setup.specs.ClnpNets.{MakesNet, Net, NetDoes, link_of_net}
use Rattle.law_setup.specs.InactiveNets.{InactiveDoes, MakesInactive, link_of_inactive}
use Rattle.script_world.specs.Plays.{world_acts}
use Rattle.script_world.specs.Transports.{TransportRun, frozen_of, titles_of, tp_play}
use Rattle.script_world.specs.declared.play.World.{World}
use Rattle.script_datagrams.specs.Claims.{TellsDatagrams}
use Rattle.law_datagram_run.specs.Datagrams.{DatagramRun, cl_play}
use Rattle.script_relays.specs.Giving.{TellsRelays}
use Rattle.law_relay.specs.Relays.{RelayRun, relay_play}
use Rattle.osi_kinds.specs.declared.kinds.Kind.{Kind}
use Rattle.osi_kinds.specs.declared.kinds.Kind.TheVariants as kinds

-- ---- their names

abbrev pub name_of : Kind → List ℕ
name_of kinds.Datagrams = codes "datagrams"
name_of kinds.Inactive = codes "inactive"
name_of kinds.Relay = codes "relay"

-- ---- what they run

-- datagrams over the network of systems and LANs
abbrev pub datagram_acts : Acts (World (DatagramRun Net))
datagram_acts = world_acts (cl_play link_of_net NetDoes MakesNet)

-- transport entities over the inactive subset
abbrev pub inactive_acts : Acts (World (TransportRun (Inactive Bag)))
inactive_acts = world_acts (tp_play link_of_inactive InactiveDoes MakesInactive dialects.Inactive)

-- transport entities, and relays at their systems, over the network of systems and LANs
abbrev pub relay_acts : Acts (World (RelayRun Net))
relay_acts = world_acts (relay_play link_of_net NetDoes MakesNet)

-- ---- what is claimed

-- the journal is lawful, and so is each front of it: each way of a connection is a queue; and a system that began again is silent
abbrev pub IsLawfulRun : List Line → List Event → World (TransportRun (Inactive Bag)) → Type 0
IsLawfulRun script journal last = Lawful (frozen_of last) (titles_of last) journal

-- of the octets read, what was written is told as the status says, and tells the run for the lines of the script; and whatever part of the octets was
-- run, each datagram that is shown was sent, and each unit that came up gave one event; or the journal is lawful; or it is lawful, and so are the connections
-- of each pair that a relay joined, and after each pump all that was shown at an open pair was submitted, unless this pump's own call for the next unit was
-- refused
abbrev pub IsToldBy : Kind → Type 0 → List ℕ → List ℕ → Status → Type 0
IsToldBy kinds.Datagrams end read written status = IsTold datagram_acts (TellsDatagrams link_of_net NetDoes MakesNet) end read written status
IsToldBy kinds.Inactive end read written status = IsTold inactive_acts IsLawfulRun end read written status
IsToldBy kinds.Relay end read written status = IsTold relay_acts (TellsRelays link_of_net NetDoes MakesNet) end read written status

-- ---- what octets ask for

abbrev pub AsksOf : Kind → List ℕ → List ℕ → Status → Type 0
AsksOf kinds.Datagrams all text status = AsksFor (bench_meaning datagram_acts) (first_bench datagram_acts) all text status
AsksOf kinds.Inactive all text status = AsksFor (bench_meaning inactive_acts) (first_bench inactive_acts) all text status
AsksOf kinds.Relay all text status = AsksFor (bench_meaning relay_acts) (first_bench relay_acts) all text status

abbrev pub IsAcceptedBy : Kind → List ℕ → Type 0
IsAcceptedBy kinds.Datagrams all = IsAccepted (bench_meaning datagram_acts) (first_bench datagram_acts) all
IsAcceptedBy kinds.Inactive all = IsAccepted (bench_meaning inactive_acts) (first_bench inactive_acts) all
IsAcceptedBy kinds.Relay all = IsAccepted (bench_meaning relay_acts) (first_bench relay_acts) all
