-- An end that has left (X.224, class 4 state tables).
use Rattle.tp4_conn.specs.declared.states.StateData.{StateData}
use Rattle.tp4_conn.specs.declared.states.StateData.TheVariants.{CrWait, WaitBeforeClose, UserWait, AkWait, Opened, Closing, Frozen}

-- the end will not be Opened any more
abbrev pub HasLeft : StateData → Type 0
HasLeft (CrWait w) = ⊥
HasLeft (WaitBeforeClose w) = Unit {0}
HasLeft (UserWait since) = ⊥
HasLeft (AkWait w) = ⊥
HasLeft (Opened o) = ⊥
HasLeft (Closing c) = Unit {0}
HasLeft (Frozen when) = Unit {0}
