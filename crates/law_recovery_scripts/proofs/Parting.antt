-- Two partners of a network with the timers of a script: W is less than I.
use Rattle.std.proofs.Common.{◌<◌, ℕ, List, sym, subst}
use Rattle.osi_base.specs.Calls.{Call}
use Rattle.osi_base.specs.Link.{Link}
use Rattle.tp4_conn.specs.declared.timers.Timers.{Timers}
use Rattle.law_recovery_world.specs.Laws.{PartnersPart}
use Rattle.law_recovery_scripts.specs.Laws.{ScriptsAreOrdered, ScriptsPart}

pub scripts_part : {C : Type 0} (link : C → Link (List ℕ)) (steps : C → Call (List ℕ) → C → Type 0) → ScriptsAreOrdered → PartnersPart link steps → ScriptsPart link steps
scripts_part {C} link steps ordered part dialect texts script is timers same titles journal first calls =
    part titles timers journal first calls (subst (λ (t : Timers). t.window < t.inactive) (sym same) (ordered dialect texts script is))
