-- What a choice that is taken has found.
use Rattle.std.proofs.Common.{◌≡◌, ℕ, not, if◌then◌else◌, Bool, true, false, List, Option, None, subst}
use Rattle.osi_base.specs.declared.unit.Picked.{Picked}
use Rattle.osi_base.specs.declared.unit.Picked.TheVariants.{Late, NoSuch, Taken as WasPicked}
use Rattle.lan_step.specs.declared.row.Lan.{Lan}
use Rattle.lan_step.specs.declared.row.PortRow.{PortRow}
use Rattle.lan_step.specs.Frames.{Frame, frame_of, is_given, picked, picked_late}

-- its frame is there
pub picked_there : (clock : ℕ) (lans : List Lan) (rows : List PortRow) (frames : List (Option Frame)) (pick system : ℕ) → WasPicked ≡ picked clock lans rows frames pick system → frame_of frames pick ≡ None → ⊥
picked_there clock lans rows frames pick system is none =
    by (is_given frames pick) (subst (λ (frame : Option Frame). WasPicked ≡ (if not (is_given frames pick) then NoSuch else picked_late clock lans rows system frame)) none is)
  where
    by : (given : Bool) → WasPicked ≡ (if not given then NoSuch else Late) → ⊥
    by true e = cc
    by false e = cc
