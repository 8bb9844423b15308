-- Worked rows that one end shows: the state, the tick at which it is due, the events and the kinds of the TPDUs after each event.
use Rattle.std.specs.Prelude.{◌≡◌, ℕ, true, false, List, [], ◌∷◌, map, Option, Some, None}
use Rattle.tpdu.specs.declared.fault.TpduCause.TheVariants.{Checksum}
use Rattle.tpdu.specs.declared.kind.Kind.{Kind}
use Rattle.tpdu.specs.declared.kind.Kind.TheVariants as kinds
use Rattle.tpdu.specs.declared.tpdu.Format.{Format}
use Rattle.tpdu.specs.declared.tpdu.Format.TheVariants.{Normal as Plain, Extended}
use Rattle.tpdu.specs.declared.tpdu.Tpdu.TheVariants as tpdus
use Rattle.tpdu.specs.Writing.{kind_for}
use Rattle.tp4_number.specs.Number.{whole}
use Rattle.tp4_number.specs.Sender.{Sender}
use Rattle.tpdu.specs.declared.service.Options.{Options}
use Rattle.tpdu.specs.declared.service.GoneCause.TheVariants as causes
use Rattle.tp4_flow.specs.declared.step.What.{What}
use Rattle.tp4_flow.specs.declared.step.What.TheVariants as whats
use Rattle.tp4_conn.specs.declared.call.ConnectCall.{ConnectCall}
use Rattle.tp4_conn.specs.declared.call.UserCall.TheVariants.{Accept, Normal, Urgent, Window, Disconnect}
use Rattle.tp4_conn.specs.declared.states.StateData.{StateData}
use Rattle.tp4_conn.specs.declared.states.StateData.TheVariants.{Opened}
use Rattle.tpdu.specs.declared.service.State.{State}
use Rattle.tpdu.specs.declared.service.State.TheVariants as states
use Rattle.tp4_conn.specs.declared.timers.Timers.{Timers}
use Rattle.tp4_conn.specs.Calls.{state_of}
use Rattle.tp4_conn.specs.End.{End, Moved, end_of}
use Rattle.tp4_conn.specs.Agreeing.{proposed_by}
use Rattle.tp4_conn.specs.Making.{connected, indicated, called_end}
use Rattle.tp4_conn.specs.Table.{Event, Called, Took, Ticked, stepped, due}
use Rattle.tpdu.specs.declared.service.EndTold.TheVariants as tells

-- what a step shows
pub record Shown : Type 0 where
  pub state : State
  pub next : Option ℕ
  pub events : List What
  pub kinds : List Kind

abbrev pub shows : Moved → Shown
shows m = record { state = state_of m.stage; next = due m.base m.stage; events = map (λ e. e.what) m.events; kinds = map (λ s. kind_for s.tpdu) m.tpdus }

abbrev pub run : End → List (ℕ × Event) → List Shown
run e [] = []
run e (x ∷ xs) = shows (stepped whole x.0 e x.1) ∷ run (end_of (stepped whole x.0 e x.1)) xs

abbrev pub last_of : End → List (ℕ × Event) → End
last_of e [] = e
last_of e (x ∷ xs) = last_of (end_of (stepped whole x.0 e x.1)) xs

abbrev pub shown : State → ℕ → List What → List Kind → Shown
shown state next events kinds = record { state = state; next = Some next; events = events; kinds = kinds }

-- the default times, and what is proposed
abbrev pub timers : Timers
timers = record { life = 32; t1 = 8; sendings = 4; window = 20; inactive = 60; credit = 8 }

abbrev pub options : Options
options = record { format = Plain; size = 1024; expedited = true; sum = true; preferred = false }

-- extended formats, without expedited data and without checksums
abbrev pub wide : Options
wide = record { format = Extended; size = 8192; expedited = false; sum = false; preferred = false }

abbrev pub call : Options → ConnectCall
call options = record {
  own = 1;
  request = record { from_selector = 0xAA ∷ []; to = 0x49 ∷ 0x0B ∷ 1 ∷ []; to_selector = 0xBB ∷ []; options = options; octets = [] };
  rules = timers;
}

abbrev pub calling_for : Options → End
calling_for options = end_of (connected 0 (call options))

abbrev pub calling : End
calling = calling_for options

abbrev pub called : End
called = end_of (indicated (called_end 0 1 (0x49 ∷ 0x0A ∷ 1 ∷ []) timers 8 1 (0xAA ∷ []) (0xBB ∷ []) (proposed_by options)) [])

-- the TPDUs of the partner, whose reference is 7 or 1
abbrev pub cc_from : ℕ → Format → ℕ → ℕ → ℕ → Event
cc_from source width credit size extra = Took (tpdus.Cc credit 1 source width (0xAA ∷ []) (0xBB ∷ []) (Some size) None extra None None None []) true

abbrev pub cc_for : Format → ℕ → ℕ → ℕ → Event
cc_for width credit size extra = cc_from 7 width credit size extra

abbrev pub cc : ℕ → Event
cc credit = cc_for Plain credit 1024 1

abbrev pub ak : ℕ → ℕ → ℕ → Event
ak number credit subsequence = Took (tpdus.Ak 1 number credit subsequence None) true

abbrev pub dr : ℕ → ℕ → Event
dr source reason = Took (tpdus.Dr 1 source reason None []) true

abbrev pub dc : Event
dc = Took (tpdus.Dc 1 7) true

abbrev pub dt : ℕ → List ℕ → Event
dt number octets = Took (tpdus.Dt 1 true number octets) true

abbrev pub ed : ℕ → List ℕ → Event
ed number octets = Took (tpdus.Ed 1 true number octets) true

abbrev pub er : Event
er = Took (tpdus.Er 1 0 None) true

abbrev pub unit : Event
unit = Called (Normal (1 ∷ []))

abbrev pub numbers_of : StateData → Option Sender
numbers_of (Opened o) = Some o.halves.sending.numbers
numbers_of stage = None

-- refused: gone with the reason of the DR, no DC to its source 0, and the reference is free at 157
abbrev pub Refused : Type 0
Refused = run calling ((0, dr 0 128) ∷ (157, Ticked) ∷ []) ≡
    shown states.Frozen 157 (whats.End (tells.Gone (causes.Reason 128) []) ∷ []) [] ∷ record { state = states.Frozen; next = None; events = []; kinds = [] } ∷ []

-- nobody answers: the CR at 8, 16 and 24, and gone at 32
abbrev pub Unanswered : Type 0
Unanswered = run calling ((8, Ticked) ∷ (16, Ticked) ∷ (24, Ticked) ∷ (31, Ticked) ∷ (32, Ticked) ∷ []) ≡
    shown states.CrWait 16 [] (kinds.Cr ∷ []) ∷ shown states.CrWait 24 [] (kinds.Cr ∷ []) ∷ shown states.CrWait 32 [] (kinds.Cr ∷ [])
    ∷ shown states.CrWait 32 [] [] ∷ shown states.Frozen 189 (whats.End (tells.Gone causes.Exhausted []) ∷ []) [] ∷ []

-- a CC of a greater size than was proposed: gone protocol, a DR at 0 and at 8, and Frozen by a DC
abbrev pub Beyond : Type 0
Beyond = run calling ((0, cc_for Plain 8 2048 1) ∷ (8, Ticked) ∷ (9, dc) ∷ []) ≡
    shown states.Closing 8 (whats.End (tells.Gone causes.Protocol []) ∷ []) (kinds.Dr ∷ []) ∷ shown states.Closing 16 [] (kinds.Dr ∷ []) ∷ shown states.Frozen 166 [] [] ∷ []

-- disconnected before an answer: the CC is answered by a DR
abbrev pub Waited : Type 0
Waited = run calling ((1, Called (Disconnect [])) ∷ (8, Ticked) ∷ (9, cc 8) ∷ (10, dr 7 128) ∷ []) ≡
    shown states.WaitBeforeClose 8 [] [] ∷ shown states.WaitBeforeClose 16 [] (kinds.Cr ∷ []) ∷ shown states.Closing 17 [] (kinds.Dr ∷ [])
    ∷ shown states.Frozen 167 [] [] ∷ []

-- the late user: gone at 60 with a DR, and the reference is free at 217
abbrev pub Late_user : Type 0
Late_user = run called ((59, Ticked) ∷ (60, Ticked) ∷ []) ≡
    shown states.UserWait 60 [] [] ∷ shown states.Frozen 217 (whats.End (tells.Gone causes.AnswerTime []) ∷ []) (kinds.Dr ∷ []) ∷ []

-- disconnected in AkWait: the time of Closing counts from the first CC
abbrev pub Parted : Type 0
Parted = run called ((1, Called (Accept options [])) ∷ (4, Called (Disconnect [])) ∷ (12, Ticked) ∷ (20, Ticked) ∷ (28, Ticked) ∷ (33, Ticked) ∷ []) ≡
    shown states.AkWait 9 (whats.End (tells.Accept options []) ∷ []) (kinds.Cc ∷ []) ∷ shown states.Closing 12 [] (kinds.Dr ∷ [])
    ∷ shown states.Closing 20 [] (kinds.Dr ∷ []) ∷ shown states.Closing 28 [] (kinds.Dr ∷ []) ∷ shown states.Closing 33 [] (kinds.Dr ∷ [])
    ∷ shown states.Frozen 190 [] [] ∷ []

-- in AkWait the CC goes again, a unit waits, and an AK without its checksum is not taken; a DT opens: what waits goes, and the DT is shown
abbrev pub Answered : Type 0
Answered = run called ((0, Called (Accept options [])) ∷ (8, Ticked) ∷ (9, unit) ∷ (9, Took (tpdus.Ak 1 0 8 0 None) false) ∷ (9, dt 0 (5 ∷ [])) ∷ []) ≡
    shown states.AkWait 8 (whats.End (tells.Accept options []) ∷ []) (kinds.Cc ∷ []) ∷ shown states.AkWait 16 [] (kinds.Cc ∷ []) ∷ shown states.AkWait 16 [] []
    ∷ shown states.AkWait 16 (whats.BadTpdu Checksum 0 ∷ []) [] ∷ shown states.Opened 17 (whats.End (tells.Got (5 ∷ [])) ∷ []) (kinds.Dt ∷ kinds.Ak ∷ []) ∷ []

-- the credit reduced: six units with credit 5 send 0 to 4; the window then ends below 2, and an older AK changes nothing
abbrev pub Reduced : Type 0
Reduced = (run calling ((0, cc 5) ∷ (0, unit) ∷ (0, unit) ∷ (0, unit) ∷ (0, unit) ∷ (0, unit) ∷ (0, unit) ∷ (0, ak 0 2 1) ∷ (0, ak 0 5 0) ∷ []) ≡
    shown states.Opened 20 (whats.End (tells.Confirm options []) ∷ []) (kinds.Ak ∷ []) ∷ shown states.Opened 8 [] (kinds.Dt ∷ []) ∷ shown states.Opened 8 [] (kinds.Dt ∷ [])
    ∷ shown states.Opened 8 [] (kinds.Dt ∷ []) ∷ shown states.Opened 8 [] (kinds.Dt ∷ []) ∷ shown states.Opened 8 [] (kinds.Dt ∷ []) ∷ shown states.Opened 8 [] []
    ∷ shown states.Opened 8 [] [] ∷ shown states.Opened 8 [] [] ∷ [])
    × (numbers_of (last_of calling ((0, cc 5) ∷ (0, unit) ∷ (0, unit) ∷ (0, unit) ∷ (0, ak 0 2 1) ∷ [])).stage ≡
    Some (record { base = 0; credit = 2; subsequence = 1; next = 2; blocks = record { high = 3; first = 0; newest = 0; second = 0; third = 0 } }))

-- expedited first: no DT while the ED is out, which goes again at 8; the DT follows its EA
abbrev pub Expedited_first : Type 0
Expedited_first = run calling ((0, cc 8) ∷ (0, unit) ∷ (0, Called (Urgent (0xEE ∷ []))) ∷ (0, unit) ∷ (0, ak 1 8 0)
    ∷ (8, Ticked) ∷ (8, Took (tpdus.Ea 1 0) true) ∷ []) ≡
    shown states.Opened 20 (whats.End (tells.Confirm options []) ∷ []) (kinds.Ak ∷ []) ∷ shown states.Opened 8 [] (kinds.Dt ∷ []) ∷ shown states.Opened 8 [] (kinds.Ed ∷ [])
    ∷ shown states.Opened 8 [] [] ∷ shown states.Opened 8 [] [] ∷ shown states.Opened 16 [] (kinds.Ed ∷ []) ∷ shown states.Opened 16 [] (kinds.Dt ∷ []) ∷ []

-- Opened: a CC gives an AK, an ED is shown and answered, a DC is ignored, each credit is told and a new one sent, an AK goes after 20 ticks,
-- and 60 ticks after the DC the end is gone
abbrev pub Quiet : Type 0
Quiet = run calling ((0, cc 8) ∷ (1, cc 8) ∷ (2, ed 0 (0xEE ∷ [])) ∷ (3, dc) ∷ (4, Called (Window 8))
    ∷ (5, Called (Window 20)) ∷ (25, Ticked) ∷ (45, Ticked) ∷ (63, Ticked) ∷ []) ≡
    shown states.Opened 20 (whats.End (tells.Confirm options []) ∷ []) (kinds.Ak ∷ []) ∷ shown states.Opened 21 [] (kinds.Ak ∷ [])
    ∷ shown states.Opened 21 (whats.End (tells.Urgent (0xEE ∷ [])) ∷ []) (kinds.Ea ∷ []) ∷ shown states.Opened 21 [] [] ∷ shown states.Opened 21 (whats.End (tells.Window 8) ∷ []) []
    ∷ shown states.Opened 25 (whats.End (tells.Window 15) ∷ []) (kinds.Ak ∷ []) ∷ shown states.Opened 45 [] (kinds.Ak ∷ []) ∷ shown states.Opened 63 [] (kinds.Ak ∷ [])
    ∷ shown states.Closing 71 (whats.End (tells.Gone causes.Inactive []) ∷ []) (kinds.Dr ∷ []) ∷ []

-- extended formats without checksums: the AK without one is taken, and an ED that is not agreed is gone protocol
abbrev pub Wide : Type 0
Wide = run (calling_for wide) ((0, cc_for Extended 8 8192 2) ∷ (0, Took (tpdus.Ak 1 0 255 0 None) false) ∷ (0, ed 0 (0xEE ∷ [])) ∷ (1, er) ∷ []) ≡
    shown states.Opened 20 (whats.End (tells.Confirm wide []) ∷ []) (kinds.Ak ∷ []) ∷ shown states.Opened 20 [] []
    ∷ shown states.Closing 8 (whats.End (tells.Gone causes.Protocol []) ∷ []) (kinds.Dr ∷ []) ∷ shown states.Closing 8 [] [] ∷ []

-- a DR in Opened: gone with its reason, and a DC
abbrev pub Dropped : Type 0
Dropped = run calling ((0, cc 8) ∷ (3, dr 7 128) ∷ []) ≡
    shown states.Opened 20 (whats.End (tells.Confirm options []) ∷ []) (kinds.Ak ∷ []) ∷ shown states.Frozen 160 (whats.End (tells.Gone (causes.Reason 128) []) ∷ []) (kinds.Dc ∷ []) ∷ []

-- a DR of source 0 in Opened, whose CC had the source 0: gone with its reason, and no DC
abbrev pub Dropped_unanswered : Type 0
Dropped_unanswered = run calling ((0, cc_from 0 Plain 8 1024 1) ∷ (3, dr 0 128) ∷ []) ≡
    shown states.Opened 20 (whats.End (tells.Confirm options []) ∷ []) (kinds.Ak ∷ []) ∷ shown states.Frozen 160 (whats.End (tells.Gone (causes.Reason 128) []) ∷ []) [] ∷ []

-- without expedited data
abbrev pub plain : Options
plain = record options { expedited = false }

-- an ED in AkWait that was not agreed opens the end first: the time of Closing counts from then
abbrev pub Opened_and_parted : Type 0
Opened_and_parted = run called ((0, Called (Accept plain [])) ∷ (5, ed 0 (0xEE ∷ [])) ∷ (13, Ticked) ∷ (21, Ticked) ∷ (29, Ticked) ∷ (36, Ticked) ∷ (37, Ticked) ∷ []) ≡
    shown states.AkWait 8 (whats.End (tells.Accept plain []) ∷ []) (kinds.Cc ∷ []) ∷ shown states.Closing 13 (whats.End (tells.Gone causes.Protocol []) ∷ []) (kinds.Dr ∷ [])
    ∷ shown states.Closing 21 [] (kinds.Dr ∷ []) ∷ shown states.Closing 29 [] (kinds.Dr ∷ []) ∷ shown states.Closing 37 [] (kinds.Dr ∷ []) ∷ shown states.Closing 37 [] []
    ∷ shown states.Frozen 194 [] [] ∷ []

-- an ER there does not: it counts from the first CC
abbrev pub Refused_in_wait : Type 0
Refused_in_wait = run called ((0, Called (Accept plain [])) ∷ (5, er) ∷ (13, Ticked) ∷ (21, Ticked) ∷ (29, Ticked) ∷ (32, Ticked) ∷ []) ≡
    shown states.AkWait 8 (whats.End (tells.Accept plain []) ∷ []) (kinds.Cc ∷ []) ∷ shown states.Closing 13 (whats.End (tells.Gone causes.Protocol []) ∷ []) (kinds.Dr ∷ [])
    ∷ shown states.Closing 21 [] (kinds.Dr ∷ []) ∷ shown states.Closing 29 [] (kinds.Dr ∷ []) ∷ shown states.Closing 32 [] (kinds.Dr ∷ [])
    ∷ shown states.Frozen 189 [] [] ∷ []
