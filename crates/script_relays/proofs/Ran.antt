-- A line of a network with relays is a line of what runs it.
use Rattle.std.proofs.Common.{◌≡◌, ℕ, List, Result, Ok, Err, refl, subst}
use Rattle.std.specs.Prelude.{OnOk}
use Rattle.osi_base.specs.Link.{Link}
use Rattle.osi_base.specs.Calls.{Call}
use Rattle.script_journal.specs.declared.event.Event.{Event}
use Rattle.script_lines.specs.declared.line.Line.{Line}
use Rattle.tp4_relay.specs.Kept.{Kept}
use Rattle.tp4_world.specs.World.{World}
use Rattle.law_relay.specs.Relays.{RelayRun, RunsPart, RunsRelays, part_of}

pub runs_on : {N E : Type 0} (link : N → Link (List ℕ)) (steps : N → Call (List ℕ) → N → Type 0) (old : RelayRun N) (titles given : List (List ℕ)) (before new : World N) (kept last : Kept) (line : Line)
    (made : List Event) (result : Result (Unit {0}) E) → record { titles = titles; ends = before; relay = kept } ≡ old → given ≡ titles
    → OnOk result (RunsPart link steps (part_of line) (record { titles = given; ends = before; relay = kept }) line made new last)
    → OnOk result (RunsRelays link steps old line made (record { titles = titles; ends = new; relay = last }))
runs_on link steps old titles given before new kept last line made (Err error) is same h = h
runs_on {N} link steps old titles given before new kept last line made (Ok value) is same h =
    subst (λ (o : RelayRun N). RunsRelays link steps o line made (record { titles = titles; ends = new; relay = last })) is
    (new, last, subst (λ (ts : List (List ℕ)). RunsPart link steps (part_of line) (record { titles = ts; ends = before; relay = kept }) line made new last) same h, refl)
