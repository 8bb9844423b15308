-- A line of a network with its transport entities is a line of what runs it.
use Rattle.std.proofs.Common.{◌≡◌, ℕ, List, Result, Ok, Err, refl, subst}
use Rattle.std.specs.Prelude.{OnOk}
use Rattle.osi_base.specs.Link.{Link}
use Rattle.osi_base.specs.Calls.{Call}
use Rattle.tp4_conn.specs.declared.timers.Timers.{Timers}
use Rattle.tp4_number.specs.Number.{wire}
use Rattle.tp4_world.specs.Run.{RunsLine}
use Rattle.tp4_world.specs.World.{World}
use Rattle.script_journal.specs.declared.event.Event.{Event}
use Rattle.script_lines.specs.declared.line.Line.{Line}
use Rattle.script_world.specs.Transports.{RunsEnds, TransportRun}

pub runs_ends : {N E : Type 0} (link : N → Link (List ℕ)) (steps : N → Call (List ℕ) → N → Type 0) (old : TransportRun N) (titles given : List (List ℕ)) (timers : Timers) (before new : World N) (line : Line)
    (made : List Event) (result : Result (Unit {0}) E) → record { titles = titles; timers = timers; ends = before } ≡ old → given ≡ titles → OnOk result (RunsLine link steps wire given before line made new)
    → OnOk result (RunsEnds link steps old line made (record { titles = titles; timers = timers; ends = new }))
runs_ends link steps old titles given timers before new line made (Err error) is same h = h
runs_ends {N} link steps old titles given timers before new line made (Ok value) is same h =
    subst (λ (o : TransportRun N). RunsEnds link steps o line made (record { titles = titles; timers = timers; ends = new })) is
    (new, subst (λ (t : List (List ℕ)). RunsLine link steps wire t before line made new) same h, refl)
