-- What a calm run promises (X.214, queue model): after each `settle` that delivered all, while nothing was dropped, each of two Opened partner
-- ends has shown all that the other submitted, as far as credit and the number rule allow at that tick (`AllShown`).
use Rattle.std.specs.Prelude.{◌≡◌, ◌⊎◌, ℕ, true, false, List, Option, Some, Contains}
use Rattle.script_journal.specs.Lawful.{expediteds, normals, shown, submitted}
use Rattle.script_journal.specs.Partner.{AreEnds}
use Rattle.script_journal.specs.declared.cause.Settled.TheVariants.{Stopped}
use Rattle.script_journal.specs.declared.event.Event.{Event}
use Rattle.script_journal.specs.declared.event.Event.TheVariants as events
use Rattle.tp4_flow.specs.ReceivingHalf.{Half}
use Rattle.tp4_number.specs.Sender.{may_send}
use Rattle.tp4_sending.specs.SendingHalf.{FlowSender, block_in}
use Rattle.tp4_sending.specs.Settled.{IsHeld, waits_normal, waits_urgent}
use Rattle.tp4_conn.specs.declared.states.InOpened.{InOpened}
use Rattle.tp4_conn.specs.declared.states.StateData.TheVariants.{Opened}
use Rattle.tp4_conn.specs.End.{End}
use Rattle.tpdu.specs.declared.service.EndTold.TheVariants as tells
use Rattle.tpdu.specs.declared.service.HeldKind.TheVariants as helds
use Rattle.osi_base.specs.declared.note.Note.TheVariants as notes

-- an ED, a DT is next, the number rule holds it back up to some tick, and that was told
pub record HoldsEd (s : FlowSender) : Type 0 where
  pub is_open : s.is_open ≡ true
  pub waits : waits_urgent s ≡ true
  pub held : IsHeld (block_in s) s.rules.limit s.urgent.blocks s.urgent.next s.urgent.noted

pub record HoldsDt (s : FlowSender) : Type 0 where
  pub is_open : s.is_open ≡ true
  pub waits : waits_normal s ≡ true
  pub held : IsHeld (block_in s) s.rules.limit s.numbers.blocks s.numbers.next s.noted

-- an ED, a DT of an end is next, at this tick the number rule does not let it go, and its line was written
pub record TellsEd (now : ℕ) (journal : List Event) (end : ℕ) (s : FlowSender) : Type 0 where
  pub holds : HoldsEd s
  pub rule : may_send (block_in s) s.rules.limit s.urgent.blocks s.urgent.next now ≡ false
  pub told : Contains journal (events.End end (tells.Held helds.Ed s.urgent.next))

pub record TellsDt (now : ℕ) (journal : List Event) (end : ℕ) (s : FlowSender) : Type 0 where
  pub holds : HoldsDt s
  pub rule : may_send (block_in s) s.rules.limit s.numbers.blocks s.numbers.next now ≡ false
  pub told : Contains journal (events.End end (tells.Held helds.Dt s.numbers.next))

-- one end has shown what the other submitted, for expedited and for normal units each
pub record HasShown (now : ℕ) (journal : List Event) (from to : ℕ) (s : FlowSender) (h : Half) : Type 0 where
  pub expedited : (expediteds (shown to journal) ≡ expediteds (submitted from journal)) ⊎ TellsEd now journal from s
  pub normal : (normals (shown to journal) ≡ normals (submitted from journal)) ⊎ (TellsEd now journal from s ⊎ (TellsDt now journal from s ⊎ (h.receiver.inbox.credit ≡ 0)))

-- at this tick, each two partner ends that are both Opened, by the numbers of ends
abbrev pub AllShown : ℕ → List Event → (ℕ → Option End) → Type 0
AllShown now journal end_of = (calling called : ℕ) (x y : End) (o q : InOpened) → AreEnds journal calling called → end_of calling ≡ Some x → end_of called ≡ Some y
    → x.stage ≡ Opened o → y.stage ≡ Opened q
    → HasShown now journal calling called o.halves.sending q.halves.receiving × HasShown now journal called calling q.halves.sending o.halves.receiving

-- nothing was dropped, and no settling stopped at its number
abbrev pub IsUndropped : Event → Type 0
IsUndropped (events.Net (notes.DropFrame system)) = ⊥
IsUndropped (events.Dropped system cause) = ⊥
IsUndropped (events.Settle (Stopped count)) = ⊥
IsUndropped event = Prim.Unit {0}
