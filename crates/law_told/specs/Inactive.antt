-- What the command `inactive` runs, and what is claimed of its journal (X.233, Inactive Network Layer Protocol subset; X.214, queue model).
use Rattle.std.specs.Prelude.{List}
use Rattle.lan_step.specs.Bag.{Bag}
use Rattle.inactive_step.specs.Network.{Inactive}
use Rattle.script_journal.specs.Lawful.{Lawful}
use Rattle.script_journal.specs.declared.event.Event.{Event}
use Rattle.script_lines.specs.declared.line.Line.{Line}
use Rattle.script_lines.specs.declared.words.Dialect.TheVariants as dialects
use Rattle.script_bench.specs.Acts.{Acts}
use Rattle.law_setup.specs.InactiveNets.{InactiveDoes, MakesInactive, link_of_inactive}
use Rattle.script_world.specs.Plays.{world_acts}
use Rattle.script_world.specs.Transports.{TransportRun, frozen_of, titles_of, tp_play}
use Rattle.script_world.specs.declared.play.World.{World}

-- transport entities over the inactive subset
abbrev pub inactive_acts : Acts (World (TransportRun (Inactive Bag)))
inactive_acts = world_acts (tp_play link_of_inactive InactiveDoes MakesInactive dialects.Inactive)

-- the journal is lawful
abbrev pub IsLawfulRun : List Line → List Event → World (TransportRun (Inactive Bag)) → Type 0
IsLawfulRun script journal last = Lawful (frozen_of last) (titles_of last) journal
