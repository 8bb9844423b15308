-- The end of a number, where it stands; and one that has left is Opened no more.
use Rattle.std.proofs.Common.{◌≡◌, ℕ, ◌==◌, Bool, true, false, Option, Some, None, refl, sym, ◌∙◌, ap, subst}
use Rattle.std.specs.Prelude.{if◌then◌else◌, option_and_then}
use Rattle.std.proofs.lemmas.Bool.{eqb-true}
use Rattle.std.proofs.lemmas.Option.{none-some}
use Rattle.tp4_conn.specs.End.{End}
use Rattle.tp4_conn.specs.declared.states.InOpened.{InOpened}
use Rattle.tp4_conn.specs.declared.states.StateData.TheVariants.{Opened}
use Rattle.tp4_entity.specs.Entity.{Entity, end_at}
use Rattle.law_tp4_pair.specs.Standing.{HasLeft}
use Rattle.tp4_world.specs.World.{World, entity_at, latest}
use Rattle.law_calm_run.specs.Service.{end_at_number, end_placed}
use Rattle.law_recovery_run.specs.Over.{HasLeftEnd}

-- an end that has left, by its number
pub left_by_number : {C : Type 0} (last : World C) (x : ℕ) → HasLeftEnd last x → (e : End) → end_at_number last x ≡ Some e → HasLeft e.stage
left_by_number {C} last x h e at = by_number (latest last.ends h.system h.reference == x) refl (sym (ap (end_placed last x) h.at.made) ∙ at)
  where
    by_entity : (place : Option Entity) → entity_at last.entities h.system ≡ place → latest last.ends h.system h.reference ≡ x → option_and_then (λ (z : Entity). end_at z h.reference) place ≡ Some e → HasLeft e.stage
    by_entity None there number is = absurd (none-some e is)
    by_entity (Some entity) there number is = h.at.left entity e there is number

    by_number : (b : Bool) → (latest last.ends h.system h.reference == x) ≡ b
        → (if b then option_and_then (λ (z : Entity). end_at z h.reference) (entity_at last.entities h.system) else None) ≡ Some e → HasLeft e.stage
    by_number true same is = by_entity (entity_at last.entities h.system) refl (eqb-true (latest last.ends h.system h.reference) x same) is
    by_number false same is = absurd (none-some e is)

pub left_over : {C : Type 0} (last : World C) (x : ℕ) → HasLeftEnd last x → (e : End) (o : InOpened) → end_at_number last x ≡ Some e → e.stage ≡ Opened o → ⊥
left_over {C} last x h e o at opened = subst HasLeft opened (left_by_number last x h e at)
