-- What a row leaves of an end (X.224, class 4 state tables).
use Rattle.std.specs.Prelude.{◌≡◌, ◌⊎◌, ℕ}
use Rattle.tp4_conn.specs.declared.end_record.EndRecord.{EndRecord}
use Rattle.tp4_conn.specs.declared.states.StateData.{StateData}
use Rattle.tp4_conn.specs.declared.states.StateData.TheVariants.{CrWait, WaitBeforeClose, UserWait, AkWait, Opened, Frozen}
use Rattle.tp4_conn.specs.End.{IsSame, Moved}

-- the state has halves
abbrev pub HasHalves : StateData → Type 0
HasHalves (AkWait w) = Unit {0}
HasHalves (Opened o) = Unit {0}
HasHalves stage = ⊥

-- an end that has not agreed may agree in it
abbrev pub IsUnagreed : StateData → Type 0
IsUnagreed (CrWait w) = Unit {0}
IsUnagreed (UserWait since) = Unit {0}
IsUnagreed stage = ⊥

-- the reference of its partner may come in it
abbrev pub WantsPartner : StateData → Type 0
WantsPartner (CrWait w) = Unit {0}
WantsPartner (WaitBeforeClose w) = Unit {0}
WantsPartner stage = ⊥

-- a state that is frozen is so from that tick on
abbrev pub FreezesAt : ℕ → StateData → Type 0
FreezesAt now (Frozen when) = when ≡ now
FreezesAt now other = Unit {0}

-- and an old one as it was
abbrev pub GoesOn : ℕ → StateData → StateData → Type 0
GoesOn now (Frozen when) new = new ≡ Frozen when
GoesOn now other new = FreezesAt now new

-- what a row at that tick leaves of an end in that state
pub record Leaves (now : ℕ) (b : EndRecord) (old : StateData) (m : Moved) : Type 0 where
  pub same : IsSame b m.base
  pub partner : (m.base.partner ≡ b.partner) ⊎ WantsPartner old
  pub agreed : (m.base.agreed ≡ b.agreed) ⊎ (HasHalves m.stage × IsUnagreed old)
  pub goes : GoesOn now old m.stage
