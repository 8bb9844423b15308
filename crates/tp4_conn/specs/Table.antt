-- The step of an end: each state's rows (X.224, class 4 state tables).
use Rattle.std.specs.Prelude.{◌≡◌, ℕ, ◌+◌, Bool, ◌&&◌, not, List, [], ◌∷◌, Option, Some, if◌then◌else◌}
use Rattle.tpdu.specs.declared.fault.TpduCause.TheVariants.{Checksum}
use Rattle.tpdu.specs.declared.tpdu.Tpdu.{Tpdu}
use Rattle.tp4_flow.specs.declared.step.EndEvent.{EndEvent}
use Rattle.tp4_flow.specs.declared.step.Sent.{Sent}
use Rattle.tp4_flow.specs.declared.step.What.TheVariants.{BadTpdu}
use Rattle.tp4_sending.specs.SendingHalf.{due_of}
use Rattle.tp4_sending.specs.Pieces.{sooner}
use Rattle.tp4_conn.specs.declared.end_record.EndRecord.{EndRecord}
use Rattle.tp4_conn.specs.declared.call.UserCall.{UserCall}
use Rattle.tp4_conn.specs.declared.call.UserCall.TheVariants.{Accept, Refuse, Normal, Urgent, Window, Disconnect}
use Rattle.tp4_conn.specs.declared.states.StateData.{StateData}
use Rattle.tp4_conn.specs.declared.states.StateData.TheVariants.{CrWait, WaitBeforeClose, UserWait, AkWait, Opened, Closing, Frozen}
use Rattle.tp4_conn.specs.AkWait.{ak_wait_tpdu, ak_wait_tick, ak_wait_normal, ak_wait_urgent, ak_wait_disconnect}
use Rattle.tp4_conn.specs.Closing.{closing_tpdu, closing_tick}
use Rattle.tp4_conn.specs.CrWait.{cr_wait_tpdu, cr_wait_tick, cr_wait_disconnect}
use Rattle.tp4_conn.specs.End.{End, Moved, stays, span}
use Rattle.tp4_conn.specs.Frozen.{frozen_tick, frozen_due}
use Rattle.tp4_conn.specs.Matching.{wants_sum}
use Rattle.tp4_conn.specs.Opened.{hearing, opened_tpdu, opened_tick, opened_normal, opened_urgent, opened_window, opened_disconnect}
use Rattle.tp4_conn.specs.UserWait.{user_wait_accept, user_wait_refuse, user_wait_tick}
use Rattle.tp4_conn.specs.WaitBeforeClose.{wait_before_close_tpdu, wait_before_close_tick}

-- it is now this tick
abbrev pub at : ℕ → EndRecord → EndRecord
at now b = record b { clock = now }

-- A matching TPDU. `wrap` is what a receiving half keeps of a number, by its block: the number itself, or its wire number
abbrev pub on_tpdu : (ℕ → ℕ → ℕ) → EndRecord → StateData → Tpdu → Moved
on_tpdu wrap b (CrWait w) tpdu = cr_wait_tpdu b w tpdu
on_tpdu wrap b (WaitBeforeClose w) tpdu = wait_before_close_tpdu b w tpdu
on_tpdu wrap b (UserWait since) tpdu = stays b (UserWait since)
on_tpdu wrap b (AkWait w) tpdu = ak_wait_tpdu wrap b w tpdu
on_tpdu wrap b (Opened o) tpdu = opened_tpdu wrap b (hearing b o) tpdu
on_tpdu wrap b (Closing c) tpdu = closing_tpdu b c tpdu
on_tpdu wrap b (Frozen when) tpdu = stays b (Frozen when)

-- a tick of the clock
abbrev pub on_tick : EndRecord → StateData → Moved
on_tick b (CrWait w) = cr_wait_tick b w
on_tick b (WaitBeforeClose w) = wait_before_close_tick b w
on_tick b (UserWait since) = user_wait_tick b since
on_tick b (AkWait w) = ak_wait_tick b w
on_tick b (Opened o) = opened_tick b o
on_tick b (Closing c) = closing_tick b c
on_tick b (Frozen when) = frozen_tick b when

-- a call of the user that is not refused
abbrev pub on_call : EndRecord → StateData → UserCall → Moved
on_call b (CrWait w) (Disconnect octets) = cr_wait_disconnect b w octets
on_call b (UserWait since) (Accept asked octets) = user_wait_accept b asked octets
on_call b (UserWait since) (Refuse octets) = user_wait_refuse b octets
on_call b (AkWait w) (Normal unit) = ak_wait_normal b w unit
on_call b (AkWait w) (Urgent unit) = ak_wait_urgent b w unit
on_call b (AkWait w) (Disconnect octets) = ak_wait_disconnect b w octets
on_call b (Opened o) (Normal unit) = opened_normal b o unit
on_call b (Opened o) (Urgent unit) = opened_urgent b o unit
on_call b (Opened o) (Window credit) = opened_window b o credit
on_call b (Opened o) (Disconnect octets) = opened_disconnect b octets
on_call b stage call = stays b stage

-- the least tick at which a tick changes more than the clock, or sends
abbrev pub due : EndRecord → StateData → Option ℕ
due b (CrWait w) = Some (w.tries.last + b.timers.t1)
due b (WaitBeforeClose w) = Some (w.request.tries.last + b.timers.t1)
due b (UserWait since) = Some (since + b.timers.inactive)
due b (AkWait w) = Some (w.tries.last + b.timers.t1)
due b (Opened o) = sooner (sooner (Some (o.took + b.timers.inactive)) (Some (o.acked + b.timers.window))) (due_of o.halves.sending)
due b (Closing c) = sooner (Some (c.from + span b.timers)) (Some (c.last + b.timers.t1))
due b (Frozen when) = frozen_due b when

-- a TPDU that lacks an agreed checksum is told, and not taken
abbrev pub untaken : EndRecord → StateData → Moved
untaken b stage = record { base = b; stage = stage; events = record { reference = 0; what = BadTpdu Checksum 0 } ∷ []; tpdus = [] }

-- a matching TPDU, with a checksum or without
abbrev pub takes : (ℕ → ℕ → ℕ) → ℕ → EndRecord → StateData → Tpdu → Bool → Moved
takes wrap now b stage tpdu sum = if wants_sum b stage tpdu && not sum then untaken b stage else on_tpdu wrap (at now b) stage tpdu

-- what happens to an end
pub data Event : Type 0 where
  Called : UserCall → Event  -- a call that is not refused
  Took : Tpdu → Bool → Event  -- a matching TPDU, with a checksum or without
  Ticked : Event

abbrev pub stepped : (ℕ → ℕ → ℕ) → ℕ → End → Event → Moved
stepped wrap now e (Called call) = on_call (at now e.base) e.stage call
stepped wrap now e (Took tpdu sum) = takes wrap now e.base e.stage tpdu sum
stepped wrap now e Ticked = on_tick (at now e.base) e.stage

-- a step leads from one end to the other, with these events and TPDUs
pub record EndStep (wrap : ℕ → ℕ → ℕ) (old : End) (event : Event) (now : ℕ) (new : End) (events : List EndEvent) (tpdus : List Sent) : Type 0 where
  pub base : new.base ≡ (stepped wrap now old event).base
  pub stage : new.stage ≡ (stepped wrap now old event).stage
  pub events_are : events ≡ (stepped wrap now old event).events
  pub tpdus_are : tpdus ≡ (stepped wrap now old event).tpdus
