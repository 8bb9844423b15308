-- What no row changes: the reference of an end, the address of its partner, which of the two it is, its timers and what was proposed; and the partner's reference, once it is
-- known.
use Rattle.std.proofs.Common.{◌≡◌, ℕ, inl, inr}
use Rattle.tp4_number.specs.Number.{whole}
use Rattle.tp4_conn.specs.declared.states.StateData.{StateData}
use Rattle.tp4_conn.specs.declared.states.StateData.TheVariants.{CrWait, WaitBeforeClose}
use Rattle.tp4_conn.specs.End.{End}
pub use Rattle.tp4_conn.specs.End.{IsSame}
use Rattle.tp4_conn.specs.Table.{Event, stepped}
use Rattle.law_tp4_rows.specs.Leaving.{WantsPartner}
use Rattle.law_tp4_rows.proofs.Leaving.{row_leaves}
use Rattle.law_tp4_associations.specs.Phase.{IsAsking}

pub row_keeps : (now : ℕ) (e : End) (event : Event) → IsSame e.base (stepped whole now e event).base
row_keeps now e event = (row_leaves whole now e event).same

is_asking : (stage : StateData) → WantsPartner stage → IsAsking stage
is_asking (CrWait w) wants = tt
is_asking (WaitBeforeClose w) wants = tt
is_asking other wants = absurd wants

pub row_partner : (now : ℕ) (e : End) (event : Event) → (IsAsking e.stage → ⊥) → (stepped whole now e event).base.partner ≡ e.base.partner
row_partner now e event never = elim (row_leaves whole now e event).partner [
  | inl is ↦ is
  | inr wants ↦ absurd (never (is_asking e.stage wants))
]
