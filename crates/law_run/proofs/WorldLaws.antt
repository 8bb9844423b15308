-- The network as a stage of a script: its laws, and what a step of it says.
use Rattle.std.proofs.Common.{◌≡◌, ℕ, List, [], ◌∷◌, ◌++◌, sym, ◌∙◌, ap, subst}
use Rattle.line_loop.specs.Meaning.{Laws}
use Rattle.script_journal.specs.declared.event.Event.{Event}
use Rattle.script_lines.specs.declared.words.Dialect.TheVariants as dialects
use Rattle.script_lines.specs.declared.line.Line.{Line}
use Rattle.script_setup.specs.SetUp.{SetUp}
use Rattle.script_bench.specs.Acts.{Keeping, StageLaws}
use Rattle.script_bench.specs.steps.BenchLaws.{bench_laws as laws_of}
use Rattle.law_setup.specs.ClnpNets.{MakesNet, Net, NetDoes, link_of_net}
use Rattle.script_world.specs.Plays.{Going, PlayLaws, world_keeping as keeping_of}
use Rattle.script_world.specs.Transports.{TransportRun}
use Rattle.law_setup.proofs.Made.{net_law, net_laws, none_sent}
use Rattle.script_world.specs.steps.Staged.{world_laws as world_laws_of}
use Rattle.script_world.specs.steps.Transported.{tp_going, tp_laws}
use Rattle.script_world.specs.declared.play.World.TheVariants.{Running}
use Rattle.law_run.specs.Bench.{bench_meaning}
use Rattle.law_run.specs.World.{TransportNet, RunsOn, Started, StartsUp, World, WorldRuns, WorldStep, net_play, running, world_acts}
use Rattle.tp4_conn.specs.declared.timers.Timers.{Timers}

abbrev pub net_going : Going (TransportRun Net)
net_going = tp_going link_of_net NetDoes dialects.Run

abbrev pub world_keeping : Keeping World
world_keeping = keeping_of net_play.dialect net_going

net_play_laws : PlayLaws net_play net_going
net_play_laws = tp_laws link_of_net NetDoes net_law MakesNet dialects.Run none_sent net_laws

pub world_laws : StageLaws world_acts world_keeping
world_laws = world_laws_of net_play net_going net_play_laws

pub bench_laws : Laws bench_meaning
bench_laws = laws_of world_acts world_keeping world_laws

-- ---- what a step says

pub started : (setup : SetUp) (made : List Event) (new : World) → StartsUp setup made new → Started setup made new
started setup made new h = (h.1.0, h.1.1, h.1.2, h.1.3, h.2 ∙ ap (λ (run : TransportRun Net). Running run) h.1.4)

pub ran_line : (titles : List (List ℕ)) (timers : Timers) (old : TransportNet) (line : Line) (made : List Event) (new : World) → WorldStep (running titles timers old) line made new → RunsOn titles timers old line made new
ran_line titles timers old line made new h = (h.1.0, h.1.1, h.2 ∙ ap (λ (run : TransportRun Net). Running run) h.1.2)

-- ---- lines have one journal

pub one_run : (script : List Line) (first : World) (journal other : List Event) (last end : World)
    → WorldRuns first script journal last → WorldRuns first script other end → (journal ≡ other) × (last ≡ end)
one_run [] first journal other last end a b = (a.0 ∙ sym b.0, a.1 ∙ sym b.1)
one_run (line ∷ script) first journal other last end a b =
    let here : (a.1 ≡ b.1) × (a.0 ≡ b.0) = world_laws.one_step line first a.1 b.1 a.0 b.0 a.3 b.3 in
    let after : WorldRuns a.0 script b.2 end = subst (λ (mid : World). WorldRuns mid script b.2 end) (sym here.1) b.5 in
    let left : (a.2 ≡ b.2) × (last ≡ end) = one_run script a.0 a.2 b.2 last end a.5 after in (
      a.4 ∙ ap (λ (made : List Event). made ++ a.2) here.0 ∙ ap (λ (rest : List Event). b.1 ++ rest) left.0 ∙ sym b.4,
      left.1,
    )
