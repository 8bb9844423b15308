-- In a calm run an accept has its confirm, where the calling end waits for it (X.214, service primitives; X.224, class 4: connection establishment).
-- What is claimed of calm scripts follows from it.
use Rattle.std.specs.Prelude.{ℕ, List, ◌∷◌, ◌++◌, Contains}
use Rattle.std.specs.List.{AllByRecursion}
use Rattle.osi_base.specs.Calls.{Call}
use Rattle.osi_base.specs.Link.{Link}
use Rattle.osi_base.specs.declared.unit.Unit.{Unit as CarriedUnit}
use Rattle.script_journal.specs.Partner.{AreEnds}
use Rattle.script_journal.specs.declared.event.Event.{Event}
use Rattle.script_journal.specs.declared.event.Event.TheVariants as events
use Rattle.script_lines.specs.declared.line.Line.{Line}
use Rattle.script_lines.specs.declared.line.Line.TheVariants as lines
use Rattle.tpdu.specs.declared.service.Options.{Options}
use Rattle.tp4_conn.specs.declared.timers.Timers.{Timers}
use Rattle.law_tp4_history.specs.Journals.{IsAside}
use Rattle.law_tp4_pair.specs.Claim.{IsUndropped}
use Rattle.tp4_world.specs.Run.{RunsLine}
use Rattle.tp4_world.specs.World.{World}
use Rattle.law_tp4_lawful.specs.Limits.{IsProperLine}
use Rattle.law_calm_run.specs.Run.{IsCalmRun, IsStart}
use Rattle.law_calm_run.specs.Confirms.{IsUnanswered}
use Rattle.tpdu.specs.declared.service.EndTold.TheVariants as tells

module _ {C : Type 0} (link : C → Link (List ℕ)) (steps : C → Call (List ℕ) → C → Type 0) (wrap : ℕ → ℕ → ℕ) where
  -- an accept line of the called end that was taken, where the calling end waits for an answer, and the settle behind it
  pub record AcceptsAndSettles (titles : List (List ℕ)) (before : World C) (calling called : ℕ) (options agreed : Options) (octets : List ℕ) (settled : List Event) (last : World C) : Type 0 where
    pub unanswered : IsUnanswered before calling
    pub later : List Event
    pub between : World C
    pub proper : IsProperLine (lines.Accept called options octets)
    pub accepts : RunsLine link steps wrap titles before (lines.Accept called options octets) (events.End called (tells.Accept agreed octets) ∷ later) between
    pub settles : RunsLine link steps wrap titles between lines.Settle settled last
    pub undropped : AllByRecursion IsUndropped (later ++ settled)

-- an accept has its confirm after the settle behind it, with what was agreed and the octets of the accept
abbrev pub AcceptsAreConfirmed : {C : Type 0} → (C → Link (List ℕ)) → (C → Call (List ℕ) → C → Type 0) → (ℕ → ℕ → ℕ) → List (List ℕ) → (C → List (CarriedUnit (List ℕ)) → Type 0) → Type 0
AcceptsAreConfirmed {C} link steps wrap titles Waits =
    (timers : Timers) (first before last : World C) (script : List Line) (begun journal settled : List Event) (calling called : ℕ) (options agreed : Options) (octets : List ℕ)
    → IsStart titles timers Waits first → IsAside begun
    → IsCalmRun link steps wrap titles first script journal before → AreEnds (begun ++ journal) calling called
    → AcceptsAndSettles link steps wrap titles before calling called options agreed octets settled last
    → Contains settled (events.End calling (tells.Confirm agreed octets))
