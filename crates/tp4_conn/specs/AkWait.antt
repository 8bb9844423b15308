-- AkWait: a CC was sent (X.224, class 4 state tables).
use Rattle.std.specs.Prelude.{ℕ, ◌+◌, nat_lt, List, [], if◌then◌else◌}
use Rattle.tpdu.specs.declared.tpdu.Tpdu.{Tpdu}
use Rattle.tpdu.specs.declared.tpdu.Tpdu.TheVariants.{Dr, Dt, Ed, Ak, Ea, Er}
use Rattle.tpdu.specs.declared.service.GoneCause.TheVariants.{Reason, Protocol, Exhausted}
use Rattle.tp4_sending.specs.SendingHalf.{Sendings, at, opened, submitted, urged}
use Rattle.tp4_sending.specs.Pieces.{again}
use Rattle.tp4_conn.specs.declared.end_record.EndRecord.{EndRecord}
use Rattle.tp4_conn.specs.declared.halves.Halves.{Halves}
use Rattle.tp4_conn.specs.declared.states.InAkWait.{InAkWait}
use Rattle.tp4_conn.specs.declared.states.StateData.TheVariants.{AkWait}
use Rattle.tp4_conn.specs.Agreeing.{confirms_again}
use Rattle.tp4_conn.specs.End.{Moved, stays, led_by, gone, confirms, closing, frozen}
use Rattle.tp4_conn.specs.Opened.{opened_tpdu}

-- Opened, with the new sends of what is queued; then the TPDU as there: where that leads to Closing, its time counts from now
abbrev pub opening_with : (ℕ → ℕ → ℕ) → EndRecord → Halves → Sendings → Tpdu → Moved
opening_with wrap b h s tpdu =
    led_by s.events s.tpdus (opened_tpdu wrap b (record { took = b.clock; acked = b.clock; halves = record h { sending = s.sender } }) tpdu)

abbrev pub opening : (ℕ → ℕ → ℕ) → EndRecord → Halves → Tpdu → Moved
opening wrap b h tpdu = opening_with wrap b h (opened (at b.clock h.sending)) tpdu

unfoldable pub ak_wait_tpdu : (ℕ → ℕ → ℕ) → EndRecord → InAkWait → Tpdu → Moved
-- AK, DT, ED, EA: Opened; then the TPDU as there
ak_wait_tpdu wrap b w (Ak destination number credit subsequence confirmation) =
    opening wrap b w.halves (Ak destination number credit subsequence confirmation)
ak_wait_tpdu wrap b w (Dt destination last number text) = opening wrap b w.halves (Dt destination last number text)
ak_wait_tpdu wrap b w (Ed destination last number text) = opening wrap b w.halves (Ed destination last number text)
ak_wait_tpdu wrap b w (Ea destination number) = opening wrap b w.halves (Ea destination number)
-- DR: gone; DC where its source is not 0; Frozen
ak_wait_tpdu wrap b w (Dr destination source reason info text) = frozen b (gone b (Reason reason) text) (confirms b source)
-- ER: gone protocol; DR 133; Closing, whose time counts from the first CC
ak_wait_tpdu wrap b w (Er destination cause rejected) = closing b (gone b Protocol []) 133 [] w.first
ak_wait_tpdu wrap b w other = stays b (AkWait w)

-- T1: CC again; after N sendings gone exhausted, Frozen
unfoldable pub ak_wait_tick : EndRecord → InAkWait → Moved
ak_wait_tick b w =
    if nat_lt b.clock (w.tries.last + b.timers.t1) then stays b (AkWait w)
    else if nat_lt w.tries.count b.timers.sendings
    then record { base = b; stage = AkWait (record w { tries = again b.clock w.tries }); events = []; tpdus = confirms_again b b.agreed w.octets }
    else frozen b (gone b Exhausted []) []

-- data, expedite: queued
abbrev pub queueing : EndRecord → InAkWait → Sendings → Moved
queueing b w s = record { base = b; stage = AkWait (record w { halves = record w.halves { sending = s.sender } }); events = s.events; tpdus = s.tpdus }

abbrev pub ak_wait_normal : EndRecord → InAkWait → List ℕ → Moved
ak_wait_normal b w unit = queueing b w (submitted (at b.clock w.halves.sending) unit)

abbrev pub ak_wait_urgent : EndRecord → InAkWait → List ℕ → Moved
ak_wait_urgent b w unit = queueing b w (urged (at b.clock w.halves.sending) unit)

-- disconnect: DR 128; Closing, whose time counts from the first CC
abbrev pub ak_wait_disconnect : EndRecord → InAkWait → List ℕ → Moved
ak_wait_disconnect b w octets = closing b [] 128 octets w.first
