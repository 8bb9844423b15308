-- What a receiver of a connection may see, whatever the network loses, repeats, delays and reorders (X.214, model of the transport service:
-- two queues for each connection).
use Rattle.std.specs.Prelude.{◌≡◌, ℕ, true, List, ◌++◌, ◌≤◌}
use Rattle.std.specs.List.{AllByRecursion}
use Rattle.osi_base.specs.Link.{Link}
use Rattle.osi_base.specs.Calls.{Call}
use Rattle.script_journal.specs.Lawful.{Lawful}
use Rattle.script_journal.specs.Silence.{KeepsSilence}
use Rattle.script_journal.specs.declared.event.Event.{Event}
use Rattle.tp4_number.specs.Number.{wire}
use Rattle.tp4_conn.specs.End.{IsTimed, frozen_for}
use Rattle.tp4_conn.specs.declared.timers.Timers.{Timers}
use Rattle.tp4_world.specs.First.{IsFirst}
use Rattle.tp4_world.specs.Run.{Starts, RunsLines}
use Rattle.tp4_world.specs.World.{World}
use Rattle.tp4_world.specs.declared.place.Placed.{Placed}
use Rattle.law_tp4_lawful.specs.First.{AreDistinct, IsUntouched}
use Rattle.law_tp4_lawful.specs.Called.{AreCalls, AreHonestCalls}
use Rattle.law_tp4_lawful.specs.Limits.{IsProperLine}
use Rattle.script_lines.specs.declared.line.Line.{Line}

-- ---- over lines

-- over any carrier: while it is honest, since no injection was taken, each front of the journal is lawful. So no connect request has two indications, and
-- each indication has a request, which says the same. Of what an end was asked to send its partner shows a front, in order, of normal and of expedited
-- units; no normal unit comes before an expedited one that was submitted before it. An end without a partner shows nothing. After a system began again
-- nothing is told of the ends that it had, and it makes none until no TPDU of them can float
abbrev pub ReceivesWhatWasSubmitted : {C : Type 0} → (C → Link (List ℕ)) → (C → Call (List ℕ) → C → Type 0) → Type 0
ReceivesWhatWasSubmitted {C} link steps =
    (titles : List (List ℕ)) (timers : Timers) (made : C) (placed : List Placed) (begun journal : List Event) (script : List Line) (first last : World C)
    → IsTimed timers → 1 ≤ timers.inactive → AreDistinct titles
    → IsFirst timers.life titles (link made) placed → AllByRecursion (IsUntouched timers) placed → Starts link steps made placed begun first
    → (link last.carrier).honest ≡ true → AllByRecursion IsProperLine script → RunsLines link steps wire titles first script journal last
    → Lawful (frozen_for timers) titles (begun ++ journal)

-- over any carrier, and also where octets are injected: after a system began again nothing is told of the ends that it had, and it makes none for as
-- long as references are frozen
abbrev pub StaysSilent : {C : Type 0} → (C → Link (List ℕ)) → (C → Call (List ℕ) → C → Type 0) → Type 0
StaysSilent {C} link steps =
    (titles : List (List ℕ)) (timers : Timers) (made : C) (placed : List Placed) (begun journal : List Event) (script : List Line) (first last : World C)
    → IsFirst timers.life titles (link made) placed → AllByRecursion (IsUntouched timers) placed → Starts link steps made placed begun first
    → RunsLines link steps wire titles first script journal last → KeepsSilence (frozen_for timers) (begun ++ journal)

-- ---- over calls

-- over any carrier, while it is honest: each front of the events is lawful
abbrev pub CallsAreLawful : {C : Type 0} → (C → Link (List ℕ)) → (C → Call (List ℕ) → C → Type 0) → Type 0
CallsAreLawful {C} link steps = (titles : List (List ℕ)) (timers : Timers) (journal : List Event) (last : World C)
    → AreHonestCalls link steps wire titles timers journal last → Lawful (frozen_for timers) titles journal

-- over any carrier, and also where octets were injected: after a system began again nothing is told of the ends that it had, and it makes none for as
-- long as references are frozen
abbrev pub CallsAreSilent : {C : Type 0} → (C → Link (List ℕ)) → (C → Call (List ℕ) → C → Type 0) → Type 0
CallsAreSilent {C} link steps = (titles : List (List ℕ)) (timers : Timers) (journal : List Event) (last : World C)
    → AreCalls link steps wire titles timers journal last → KeepsSilence (frozen_for timers) journal
