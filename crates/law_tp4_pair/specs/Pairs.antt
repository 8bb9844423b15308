-- What the claim follows from: each two partner ends that are Opened are a pair that went from its accept to where it is, and no end is due.
use Rattle.std.specs.Prelude.{◌≡◌, ℕ, ◌+◌, List, Option, Some, Contains}
use Rattle.script_journal.specs.Lawful.{shown, submitted}
use Rattle.script_journal.specs.Partner.{AreEnds}
use Rattle.script_journal.specs.declared.event.Event.{Event}
use Rattle.script_journal.specs.declared.event.Event.TheVariants as events
use Rattle.tp4_conn.specs.declared.call.UserCall.TheVariants.{Accept}
use Rattle.tp4_conn.specs.declared.states.InOpened.{InOpened}
use Rattle.tp4_conn.specs.declared.states.StateData.TheVariants.{Opened}
use Rattle.tp4_conn.specs.End.{End}
use Rattle.tp4_conn.specs.Living.{IsInTime}
use Rattle.tp4_conn.specs.Table.{due}
use Rattle.tpdu.specs.declared.service.Options.{Options}
use Rattle.tp4_flow.specs.declared.step.EndEvent.{EndEvent}
use Rattle.tpdu.specs.declared.service.HeldKind.TheVariants.{Dt, Ed}
use Rattle.tp4_flow.specs.declared.step.What.TheVariants as whats
use Rattle.tpdu.specs.declared.service.EndTold.TheVariants.{Held}
use Rattle.law_tp4_pair.specs.Pair.{Accepts, Asks_called, Happening, IsIdle, Leads, Pair, next}
use Rattle.tpdu.specs.declared.service.EndTold.TheVariants as tells
use Rattle.tpdu.specs.declared.service.HeldKind.TheVariants as helds

-- no end is due at this tick, by the numbers of ends
abbrev pub AreLater : ℕ → (ℕ → Option End) → Type 0
AreLater now end_of = (number : ℕ) (x : End) → end_of number ≡ Some x → IsInTime (due x.base x.stage) (now + 1)

-- what an end told as held stands in the journal, under the number of the end
pub record IsToldIn (journal : List Event) (end : ℕ) (told : List EndEvent) : Type 0 where
  pub urgent : (reference n : ℕ) → Contains told (record { reference = reference; what = whats.End (Held Ed n) }) → Contains journal (events.End end (tells.Held helds.Ed n))
  pub normal : (reference n : ℕ) → Contains told (record { reference = reference; what = whats.End (Held Dt n) }) → Contains journal (events.End end (tells.Held helds.Dt n))

-- a pair went from its accept to these two ends, nothing waits there, and the journal has what was submitted, shown and told
pub record IsPairOf (journal : List Event) (calling called : ℕ) (x y : End) : Type 0 where
  pub first : Pair
  pub asked : Options
  pub octets : List ℕ
  pub happenings : List Happening
  pub last : Pair
  pub accepts : Accepts first asked
  pub leads : Leads (next first (Asks_called (Accept asked octets))) happenings last
  pub idle : IsIdle last
  pub calling_is : last.calling ≡ x
  pub called_is : last.called ≡ y
  pub calling_gave : last.calling_gave ≡ submitted calling journal
  pub called_gave : last.called_gave ≡ submitted called journal
  pub calling_showed : last.calling_showed ≡ shown calling journal
  pub called_showed : last.called_showed ≡ shown called journal
  pub calling_told : IsToldIn journal calling last.calling_told
  pub called_told : IsToldIn journal called last.called_told

-- each two partner ends that are both Opened are such a pair
abbrev pub ArePairs : List Event → (ℕ → Option End) → Type 0
ArePairs journal end_of = (calling called : ℕ) (x y : End) (o q : InOpened) → AreEnds journal calling called → end_of calling ≡ Some x → end_of called ≡ Some y
    → x.stage ≡ Opened o → y.stage ≡ Opened q → IsPairOf journal calling called x y
