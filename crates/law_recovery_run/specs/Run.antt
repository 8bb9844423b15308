-- Runs that recover, over any carrier of units: from one `settle` on each line that does anything is followed by a `settle`, and nothing is dropped; before it anything goes, but octets
-- that no system sent (X.213, queue model; X.214, service primitives).
use Rattle.std.specs.Prelude.{◌≡◌, ℕ, List, ◌∷◌, ◌++◌, None}
use Rattle.std.specs.List.{AllByRecursion}
use Rattle.osi_base.specs.Calls.{Call}
use Rattle.osi_base.specs.Link.{Link, IsLeastFresh}
use Rattle.script_journal.specs.declared.event.Event.{Event}
use Rattle.script_lines.specs.Injecting.{HasNoInject}
use Rattle.script_lines.specs.declared.line.Line.{Line}
use Rattle.script_lines.specs.declared.line.Line.TheVariants as lines
use Rattle.law_tp4_pair.specs.CalmScript.{IsSettledScript}
use Rattle.tp4_world.specs.Run.{RunsLine, RunsLines}
use Rattle.tp4_world.specs.World.{World}
use Rattle.law_tp4_lawful.specs.Limits.{IsProperLine}
use Rattle.law_calm_run.specs.Run.{IsUnrouted}
use Rattle.law_recovery_run.specs.Losses.{IsKept}

-- from a `settle` on each line that does anything is settled; before it anything goes, but an `inject` line
pub record Recovers (script : List Line) : Type 0 where
  pub before : List Line
  pub after : List Line
  pub script_is : script ≡ before ++ lines.Settle ∷ after
  pub no_inject : HasNoInject before
  pub settled : IsSettledScript after

-- A run of which the second part recovers: the network after the `settle`, which left nothing to deliver, and now; the events up to that `settle`, and those since. `wrap` is what a
-- receiving half keeps of a number, by its block
pub record RunsOn {C : Type 0} (link : C → Link (List ℕ)) (steps : C → Call (List ℕ) → C → Type 0) (wrap : ℕ → ℕ → ℕ) (titles : List (List ℕ)) (first at_t0 last : World C) (script : List Line)
    (early late : List Event) : Type 0 where
  pub recovers : Recovers script
  pub old : World C
  pub front : List Event
  pub here : List Event
  pub early_is : early ≡ front ++ here
  pub early_run : RunsLines link steps wrap titles first recovers.before front old
  pub settle_run : RunsLine link steps wrap titles old lines.Settle here at_t0
  pub none_left : IsLeastFresh (link at_t0.carrier) None
  pub late_run : RunsLines link steps wrap titles at_t0 recovers.after late last
  pub kept : AllByRecursion IsKept late
  pub proper : AllByRecursion IsProperLine script
  pub unrouted : AllByRecursion IsUnrouted script
