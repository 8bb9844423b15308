-- A line of a network that runs: its events are told, and the network is as before it, since the run of a line that may be asked is one that leaves each
-- entity at rest.
use Rattle.std.proofs.Common.{◌≡◌, ◌<◌, ℕ, ◌+◌, Bool, List, length, Some, sym, subst}
use Rattle.std.specs.List.{AllByRecursion}
use Rattle.osi_base.specs.Link.{Link}
use Rattle.osi_base.specs.Calls.{Call, Keeps}
use Rattle.law_carrier_answers.specs.Answers.{OneStep}
use Rattle.script_lines.specs.Tags.{Tags}
use Rattle.script_lines.specs.declared.line.Line.{Line}
use Rattle.script_journal.specs.declared.event.Event.{Event}
use Rattle.tp4_entity.specs.Entity.{Entity}
use Rattle.tp4_number.specs.Number.{wire}
use Rattle.tp4_world.specs.Run.{RunsLine, Starts}
use Rattle.tp4_world.specs.Total.{AreReady, CanRun, HasEntity, IsReady}
use Rattle.tp4_world.specs.World.{World, entity_at}
use Rattle.tp4_world.specs.declared.place.Placed.{Placed}
use Rattle.tp4_world.proofs.SomeLines.{some_line}
use Rattle.law_setup.proofs.OneLine.{one_line}
use Rattle.law_told.proofs.EndSteps.{EntityFew}
use Rattle.law_told.proofs.Worlds.{NamesSystems, WorldSo, line_so, start_so}
use Rattle.law_told.proofs.Carriers.{Tells}
use Rattle.law_told.proofs.Events.{EachFrom}

module _ {C : Type 0} (tags : Tags) (is_address : List ℕ → Bool) (link : C → Link (List ℕ)) (steps : C → Call (List ℕ) → C → Type 0)
    (keeps : (old : C) (call : Call (List ℕ)) (new : C) → steps old call new → Keeps (link old) call (link new)) (StandsSo : C → Type 0) (tells : Tells tags is_address link steps StandsSo) (once : OneStep steps) where
  -- so it is between two lines
  pub record RunSo (n : ℕ) (world : World C) : Type 0 where
    pub so : WorldSo tags is_address link steps keeps StandsSo tells wire n world
    pub ends : AllByRecursion (HasEntity world.entities) world.ends

  pub ready : (n : ℕ) (world : World C) → RunSo n world → IsReady is_address link StandsSo world
  ready n world r = record {
    carrier = r.so.carrier_so;
    entities = λ system e is. let e_so = r.so.entities_so system e is in record { rest = e_so.rest; octets = e_so.octets };
    ends = r.ends;
  }

  pub record LineSo (n : ℕ) (made : List Event) (new : World C) : Type 0 where
    pub events : EachFrom tags n made
    pub run : RunSo (n + length made) new

  pub line_told : (n : ℕ) (titles : List (List ℕ)) (old new : World C) (line : Line) (made : List Event) → RunSo n old → CanRun is_address titles link old line
      → NamesSystems tags is_address link steps keeps StandsSo tells wire line → RunsLine link steps wire titles old line made new → LineSo n made new
  line_told n titles old new line made r may names runs =
      let some = some_line link steps keeps is_address StandsSo tells.serves wire titles old line (ready n old r) may in
      let same = (one_line link steps once wire titles old line some.made made some.new new some.runs runs).1 in
      let after : IsReady is_address link StandsSo new = subst (λ (w : World C). IsReady is_address link StandsSo w) same some.ready in
      let s = line_so tags is_address link steps keeps StandsSo tells wire n titles old new line made r.so may names (λ system e is. (after.entities system e is).rest.idle) runs in
      record { events = s.events; run = record { so = s.world; ends = after.ends } }

  pub start_told : (first : C) (placed : List Placed) (made : List Event) (new : World C) → StandsSo first → AreReady is_address (link first).clock placed
      → ((system : ℕ) (e : Entity) → entity_at placed system ≡ Some e → (system < length tags.systems) × EntityFew 0 e) → Starts link steps first placed made new → LineSo 0 made new
  start_told first placed made new stands are firsts starts =
      let s = start_so tags is_address link steps keeps StandsSo tells wire first placed made new stands
      (λ system e is. let a = are system e is in let f = firsts system e is in record { declared = f.0; rest = a.rest; octets = a.octets; keeps_few = f.1 }) starts in
      record { events = s.events; run = record { so = s.world; ends = subst (λ (w : World C). AllByRecursion (HasEntity w.entities) w.ends) (sym starts.becomes) tt } }
