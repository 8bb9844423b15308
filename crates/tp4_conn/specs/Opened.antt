-- Opened: data flow both ways (X.224, class 4 state tables; flow control; inactivity control).
use Rattle.std.specs.Prelude.{ℕ, ◌+◌, Bool, ◌==◌, nat_le, List, [], ◌∷◌, Option, Some, None, false, if◌then◌else◌}
use Rattle.tpdu.specs.declared.tpdu.Tpdu.{Tpdu}
use Rattle.tpdu.specs.declared.tpdu.Tpdu.TheVariants.{Cc, Dr, Dt, Ed, Ak, Ea, Er}
use Rattle.tp4_number.specs.declared.got.Got.{Got}
use Rattle.tp4_number.specs.declared.got.Got.TheVariants.{Kept, Old, Outside, TooLarge}
use Rattle.tp4_number.specs.declared.piece.Piece.{Piece}
use Rattle.tp4_flow.specs.ReceivingHalf.{Half, Received, ak, dt_arrival, taken_dt, taken_ed, half_granted}
use Rattle.tp4_flow.specs.declared.rules.Life.{Life}
use Rattle.tp4_flow.specs.declared.rules.Life.TheVariants.{Goes, Exhausted}
use Rattle.tpdu.specs.declared.service.Options.{Options}
use Rattle.tpdu.specs.declared.service.GoneCause.TheVariants.{Reason, Protocol, Inactive, Exhausted as Spent}
use Rattle.tpdu.specs.declared.service.EndTold.TheVariants.{Window}
use Rattle.tp4_sending.specs.SendingHalf.{Sendings, at, submitted, urged, acknowledged, urgent_done, life_of, ticked}
use Rattle.tp4_conn.specs.declared.end_record.EndRecord.{EndRecord}
use Rattle.tp4_conn.specs.declared.states.InOpened.{InOpened}
use Rattle.tp4_conn.specs.declared.states.StateData.TheVariants.{Opened}
use Rattle.tp4_conn.specs.End.{Moved, stays, led_by, tell, gone, confirms, closing, frozen}

-- a matching TPDU is taken now
abbrev pub hearing : EndRecord → InOpened → InOpened
hearing b o = record o { took = b.clock }

-- Opened goes on; the sending half did this
abbrev pub sending : EndRecord → InOpened → Sendings → Moved
sending b o s = record { base = b; stage = Opened (record o { halves = record o.halves { sending = s.sender } }); events = s.events; tpdus = s.tpdus }

-- Opened goes on; the receiving half did this
abbrev pub receiving : EndRecord → InOpened → Received → Moved
receiving b o r = record { base = b; stage = Opened (record o { halves = record o.halves { receiving = r.half } }); events = r.events; tpdus = r.tpdus }

-- an AK is sent now
abbrev pub acking : EndRecord → InOpened → InOpened
acking b o = record o { acked = b.clock }

abbrev pub acknowledging : EndRecord → InOpened → Moved
acknowledging b o = record { base = b; stage = Opened (acking b o); events = []; tpdus = ak o.halves.receiving ∷ [] }

-- gone protocol; DR 133; Closing
abbrev pub protocol_error : EndRecord → Moved
protocol_error b = closing b (gone b Protocol []) 133 [] b.clock

-- DT: kept, shown and acknowledged; a unit too large is gone protocol, DR 133, Closing
abbrev pub dt_as : Got → EndRecord → InOpened → Received → Moved
dt_as TooLarge b o r = led_by r.events r.tpdus (protocol_error b)
dt_as Kept b o r = receiving b (acking b o) r
dt_as Old b o r = receiving b (acking b o) r
dt_as Outside b o r = receiving b (acking b o) r

abbrev pub on_dt : (ℕ → ℕ → ℕ) → EndRecord → InOpened → ℕ → Piece → Moved
on_dt wrap b o w piece = dt_as (dt_arrival o.halves.receiving w piece).got b o (taken_dt wrap o.halves.receiving w piece)

abbrev pub is_expedited : Option Options → Bool
is_expedited None = false
is_expedited (Some o) = o.expedited

-- A TPDU, which counts as taken now. `wrap` is what a half keeps of a number, by its block
unfoldable pub opened_tpdu : (ℕ → ℕ → ℕ) → EndRecord → InOpened → Tpdu → Moved
-- CC: AK
opened_tpdu wrap b o (Cc credit destination source width calling called size preferred extra version classes ack_time text) = acknowledging b o
-- DR: gone; a DC, where its source is not 0; Frozen
opened_tpdu wrap b o (Dr destination source reason info text) = frozen b (gone b (Reason reason) text) (confirms b source)
-- ER: gone protocol; DR 133; Closing
opened_tpdu wrap b o (Er destination cause rejected) = protocol_error b
opened_tpdu wrap b o (Dt destination last number text) = on_dt wrap b o number (record { last = last; octets = text })
-- ED: shown and answered; where expedited data is not agreed, gone protocol, DR 133, Closing
opened_tpdu wrap b o (Ed destination last number text) =
    if is_expedited b.agreed then receiving b o (taken_ed wrap o.halves.receiving number text) else protocol_error b
opened_tpdu wrap b o (Ak destination number credit subsequence confirmation) =
    sending b o (acknowledged (at b.clock o.halves.sending) number credit subsequence)
opened_tpdu wrap b o (Ea destination number) = sending b o (urgent_done (at b.clock o.halves.sending) number)
opened_tpdu wrap b o other = stays b (Opened o)

-- data, expedite: queued, with the new sends
abbrev pub opened_normal : EndRecord → InOpened → List ℕ → Moved
opened_normal b o unit = sending b o (submitted (at b.clock o.halves.sending) unit)

abbrev pub opened_urgent : EndRecord → InOpened → List ℕ → Moved
opened_urgent b o unit = sending b o (urged (at b.clock o.halves.sending) unit)

-- window: the credit in force is told; an AK where it changed
abbrev pub granting : EndRecord → InOpened → Half → Moved
granting b o new =
    if new.receiver.inbox.credit == o.halves.receiving.receiver.inbox.credit
    then receiving b o (record { half = new; events = tell b (Window new.receiver.inbox.credit) ∷ []; tpdus = [] })
    else receiving b (acking b o) (record { half = new; events = tell b (Window new.receiver.inbox.credit) ∷ []; tpdus = ak new ∷ [] })

abbrev pub opened_window : EndRecord → InOpened → ℕ → Moved
opened_window b o credit = granting b o (half_granted o.halves.receiving credit)

-- disconnect: DR 128; Closing
abbrev pub opened_disconnect : EndRecord → List ℕ → Moved
opened_disconnect b octets = closing b [] 128 octets b.clock

-- the tick where the sending half goes on: what it sends; an AK where W ticks passed since the last one
abbrev pub opened_goes : EndRecord → InOpened → Sendings → Moved
opened_goes b o s =
    if nat_le (o.acked + b.timers.window) b.clock
    then led_by s.events s.tpdus (acknowledging b (record o { halves = record o.halves { sending = s.sender } }))
    else sending b o s

-- exhausted: gone exhausted; DR 128; Closing
abbrev pub opened_as : Life → EndRecord → InOpened → Moved
opened_as Exhausted b o = closing b (gone b Spent []) 128 [] b.clock
opened_as Goes b o = opened_goes b o (ticked (at b.clock o.halves.sending))

-- I ticks since the last matching TPDU that was taken: gone inactive; DR 128; Closing
unfoldable pub opened_tick : EndRecord → InOpened → Moved
opened_tick b o =
    if nat_le (o.took + b.timers.inactive) b.clock then closing b (gone b Inactive []) 128 [] b.clock
    else opened_as (life_of (at b.clock o.halves.sending)) b o
