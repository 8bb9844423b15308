-- An end is of the reference at which it stands, and so are its halves.
use Rattle.std.specs.Prelude.{◌≡◌, ℕ}
use Rattle.tp4_conn.specs.declared.halves.Halves.{Halves}
use Rattle.tp4_conn.specs.declared.states.StateData.{StateData}
use Rattle.tp4_conn.specs.declared.states.StateData.TheVariants as stages
use Rattle.tp4_conn.specs.End.{End}

-- the halves are of that reference
abbrev pub AreHalvesOf : ℕ → Halves → Type 0
AreHalvesOf own h = (h.sending.rules.own ≡ own) × (h.receiving.rules.own ≡ own)

abbrev pub IsStageOf : ℕ → StateData → Type 0
IsStageOf own (stages.AkWait w) = AreHalvesOf own w.halves
IsStageOf own (stages.Opened o) = AreHalvesOf own o.halves
IsStageOf own stage = Prim.Unit {0}

abbrev pub IsEndOf : ℕ → End → Type 0
IsEndOf own e = (e.base.own ≡ own) × IsStageOf own e.stage
