-- The lines of a network with its transport entities, one after another, are those of what runs.
use Rattle.std.proofs.Common.{◌≡◌, ℕ, List, [], ◌∷◌, ap, subst}
use Rattle.osi_base.specs.Link.{Link}
use Rattle.osi_base.specs.Calls.{Call}
use Rattle.tp4_number.specs.Number.{wire}
use Rattle.tp4_world.specs.Run.{RunsLines}
use Rattle.script_journal.specs.declared.event.Event.{Event}
use Rattle.script_lines.specs.declared.words.Dialect.{Dialect}
use Rattle.script_lines.specs.declared.line.Line.{Line}
use Rattle.script_setup.specs.SetUp.{SetUp}
use Rattle.script_world.specs.Transports.{TransportRun, tp_play}
use Rattle.script_world.proofs.Went.{PlayRuns}

module _ {N : Type 0} (link : N → Link (List ℕ)) (steps : N → Call (List ℕ) → N → Type 0) (makes : SetUp → N → Type 0) (dialect : Dialect) where
  pub record EndsRan (old : TransportRun N) (script : List Line) (journal : List Event) (new : TransportRun N) : Type 0 where
    pub runs : RunsLines link steps wire old.titles old.ends script journal new.ends
    pub titles : new.titles ≡ old.titles
    pub timers : new.timers ≡ old.timers

  pub ends_ran : (script : List Line) (old : TransportRun N) (journal : List Event) (new : TransportRun N) → PlayRuns (tp_play link steps makes dialect) old script journal new → EndsRan old script journal new
  ends_ran [] old journal new h =
      record { runs = (h.0, ap (λ (r : TransportRun N). r.ends) h.1); titles = ap (λ (r : TransportRun N). r.titles) h.1; timers = ap (λ (r : TransportRun N). r.timers) h.1 }
  ends_ran (line ∷ script) old journal new h =
      let mid : TransportRun N = record old { ends = h.3.0 } in
      let rest : EndsRan mid script h.2 new = ends_ran script mid h.2 new (subst (λ (r : TransportRun N). PlayRuns (tp_play link steps makes dialect) r script h.2 new) h.3.2 h.5) in
      record { runs = (h.3.0, h.1, h.2, h.3.1, h.4, rest.runs); titles = rest.titles; timers = rest.timers }
