-- What the sends of a half tell comes before what the TPDU tells.
use Rattle.std.proofs.Common.{ℕ, List, ◌++◌, ◌≡◌, refl}
use Rattle.std.proofs.lemmas.List.{append_assoc}
use Rattle.tpdu.specs.declared.tpdu.Tpdu.{Tpdu}
use Rattle.tp4_flow.specs.Told.{Told, Grows}
use Rattle.tp4_flow.specs.declared.step.EndEvent.{EndEvent}
use Rattle.tp4_flow.specs.declared.step.Sent.{Sent}
use Rattle.tp4_sending.specs.SendingHalf.{FlowSender, Sendings, Sends, at, opened}
use Rattle.tp4_conn.specs.declared.end_record.EndRecord.{EndRecord}
use Rattle.tp4_conn.specs.declared.halves.Halves.{Halves}
use Rattle.tp4_conn.specs.declared.states.InOpened.{InOpened}
use Rattle.tp4_conn.specs.declared.states.StateData.{StateData}
use Rattle.tp4_conn.specs.declared.states.StateData.TheVariants.{Opened}
use Rattle.tp4_conn.specs.AkWait.{opening_with}
use Rattle.tp4_conn.specs.End.{Moved, Does, led_by}
use Rattle.tp4_conn.specs.Opened.{opened_tpdu, sending}

pub grown_twice : (was mid new : Told) (e f : List EndEvent) (s t : List Sent) → Grows was e s mid → Grows mid f t new → Grows was (e ++ f) (s ++ t) new
grown_twice was mid new e f s t first second = simp append_assoc at (rw first at second)

-- what is told first, and then a row
led : (m : Moved) (b : EndRecord) (stage : StateData) (e : List EndEvent) (s : List Sent) (was mid new : Told) → Grows was e s mid → Does m b stage mid new
    → Does (led_by e s m) b stage was new
led m b stage e s was mid new first h = record { base_is = h.base_is; stage_is = h.stage_is; told = grown_twice was mid new e m.events s m.tpdus first h.told }

-- opened, with its new sends; then the TPDU as there
opened_first : (wrap : ℕ → ℕ → ℕ) (b : EndRecord) (h : Halves) (s : Sendings) (half : FlowSender) (tpdu : Tpdu) (stage : StateData) (was mid new : Told)
    → Sends s half was mid
    → Does (opened_tpdu wrap b (record { took = b.clock; acked = b.clock; halves = record h { sending = half } }) tpdu) b stage mid new
    → Does (opening_with wrap b h s tpdu) b stage was new
opened_first wrap b h s half tpdu stage was mid new sends does =
    led _ b stage s.events s.tpdus was mid new sends.told (rw sends.sender_is at does)

-- the same, where the halves were lent
pub opened_lent : (wrap : ℕ → ℕ → ℕ) (b : EndRecord) (h lent : Halves) (half : FlowSender) (tpdu : Tpdu) (stage : StateData) (was mid new : Told)
    → lent ≡ h → Sends (opened (at b.clock lent.sending)) half was mid
    → Does (opened_tpdu wrap b (record { took = b.clock; acked = b.clock; halves = record lent { sending = half } }) tpdu) b stage mid new
    → Does (opening_with wrap b h (opened (at b.clock h.sending)) tpdu) b stage was new
opened_lent wrap b h lent half tpdu stage was mid new same sends does =
    opened_first wrap b h (opened (at b.clock h.sending)) half tpdu stage was mid new (rw same at sends) (rw same at does)

sent_by : (b : EndRecord) (o : InOpened) (h : Halves) (s : Sendings) (half : FlowSender) (was new : Told)
    → h ≡ o.halves → Sends s half was new
    → Does (sending b o s) b (Opened (record o { halves = record h { sending = half } })) was new
sent_by b o h s half was new same sends = record { base_is = refl; stage_is = rw same (rw sends.sender_is refl); told = sends.told }

-- Opened goes on, where the halves were lent and their sending half did this
pub sent_on : (b : EndRecord) (o : InOpened) (h : Halves) (act : FlowSender → Sendings) (half : FlowSender) (was new : Told)
    → h ≡ o.halves → Sends (act h.sending) half was new
    → Does (sending b o (act o.halves.sending)) b (Opened (record o { halves = record h { sending = half } })) was new
sent_on b o h act half was new same sends = sent_by b o h (act o.halves.sending) half was new same (rw same at sends)
