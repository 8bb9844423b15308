-- What holds of an end between calls, and what no row changes.
use Rattle.std.specs.Prelude.{◌≡◌, ◌≤◌, ◌+◌, ◌*◌, true, false, [], None}
use Rattle.tp4_conn.specs.declared.states.InAkWait.{InAkWait}
use Rattle.tp4_conn.specs.declared.timers.Timers.{Timers}
use Rattle.tp4_conn.specs.declared.end_record.EndRecord.{EndRecord}
use Rattle.tp4_conn.specs.declared.halves.Halves.{Halves}
use Rattle.tp4_conn.specs.declared.states.StateData.{StateData}
use Rattle.tp4_conn.specs.declared.states.StateData.TheVariants.{CrWait, WaitBeforeClose, UserWait, AkWait, Opened, Closing, Frozen}
use Rattle.tp4_conn.specs.End.{IsSame, IsTimed, IsProposal, agreed_format}

-- the halves go by what is agreed, T1 passes, and their clock is not ahead
pub record IsJoined (b : EndRecord) (h : Halves) : Type 0 where
  pub sending : h.sending.rules.format ≡ agreed_format b.agreed
  pub receiving : h.receiving.rules.format ≡ agreed_format b.agreed
  pub t1 : 1 ≤ h.sending.rules.t1
  pub clock : h.sending.clock ≤ b.clock

-- no tick of the state is ahead of the clock
abbrev pub IsSound : EndRecord → StateData → Type 0
IsSound b (CrWait w) = w.tries.last ≤ b.clock
IsSound b (WaitBeforeClose w) = w.request.tries.last ≤ b.clock
IsSound b (UserWait since) = since ≤ b.clock
IsSound b (AkWait w) = (w.first ≤ b.clock) × (w.tries.last ≤ b.clock) × IsJoined b w.halves × (w.halves.sending.is_open ≡ false)
IsSound b (Opened o) = (o.took ≤ b.clock) × (o.acked ≤ b.clock) × IsJoined b o.halves × (o.halves.sending.is_open ≡ true)
IsSound b (Closing c) = (c.from ≤ b.clock) × (c.last ≤ b.clock)
IsSound b (Frozen when) = when ≤ b.clock

-- what is true of every end
pub record IsEnd (b : EndRecord) (stage : StateData) : Type 0 where
  pub timers : IsTimed b.timers
  pub clock : b.clock ≤ 4000000000
  pub size : IsProposal b.proposed
  pub credit : b.credit ≤ 15
  pub sound : IsSound b stage

-- what no row changes
pub record IsKept (old new : EndRecord) : Type 0 where
  pub same : IsSame old new
  pub clock : new.clock ≡ old.clock
  pub credit : old.credit ≤ 15 → new.credit ≤ 15

-- a CC was sent, and neither a DT nor an ED; its sendings are at most T1 apart
pub record IsUnanswered (t : Timers) (w : InAkWait) : Type 0 where
  pub shut : w.halves.sending.is_open ≡ false
  pub window : w.halves.sending.window ≡ []
  pub urgent : w.halves.sending.urgent.out ≡ None
  pub runs : w.tries.last + t.t1 ≤ w.first + w.tries.count * t.t1
  pub few : w.tries.count ≤ t.sendings

abbrev pub IsWaiting : Timers → StateData → Type 0
IsWaiting t (AkWait w) = IsUnanswered t w
IsWaiting t stage = Unit {0}
