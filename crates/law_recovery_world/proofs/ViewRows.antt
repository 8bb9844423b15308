-- Each row keeps what is known of the offers of the partner.
use Rattle.std.proofs.Common.{◌≡◌, inl, inr, ℕ, Some, refl, sym, ◌∙◌}
use Rattle.tp4_sending.specs.SendingHalf.{FlowSender}
use Rattle.law_recovery_pair.specs.Viewing.{KeepsView}
use Rattle.tp4_conn.specs.Table.{Event, stepped}
use Rattle.tp4_conn.specs.declared.halves.Halves.{Halves}
use Rattle.tp4_conn.specs.declared.states.StateData.{StateData}
use Rattle.tp4_conn.specs.declared.states.StateData.TheVariants.{CrWait, AkWait, Opened}
use Rattle.law_recovery_ends.specs.Knowing.{HasHeard, RowKnows, ViewIn}
use Rattle.law_recovery_ends.proofs.Knowing.{row_knows}
use Rattle.law_tp4_history.specs.Ends.{Ak}
use Rattle.law_tp4_history.specs.Tracks.{Whole}
use Rattle.law_tp4_lawful.specs.References.{halves_at}
use Rattle.law_recovery_world.specs.Lines.{HasView, IsOfferedView, StageView}
use Rattle.law_recovery_world.specs.Laws.{RowsKeepViews}

module _ (credit z : ℕ) (w : Whole) where
  -- it knows what it knew
  view_kept : (s t : FlowSender) → KeepsView s t → HasView credit w z s → HasView credit w z t
  view_kept s t k (inl fresh) = inl (record { base = k.base ∙ fresh.base; credit_is = k.credit ∙ fresh.credit_is; subsequence = k.subsequence ∙ fresh.subsequence; edge = k.edge })
  view_kept s t k (inr view) =
      inr (record { offer = view.offer; offered = view.offered; origin = view.origin; is = view.is ∙ (λ i. Ak (sym k.base i) (sym k.credit i) (sym k.subsequence i)) })

  module _ (event : Event) where
    abbrev Hears : StateData → Type 0
    Hears old = (halves : Halves) → halves_at old ≡ Some halves → (t : FlowSender) → HasHeard halves.sending event t → IsOfferedView w z t

    view_in : (old : StateData) (t : FlowSender) → StageView credit w z old → Hears old → ViewIn credit old event t → HasView credit w z t
    view_in (AkWait a) t was hears (inl fresh) = inl fresh
    view_in (AkWait a) t was hears (inr heard) = inr (hears a.halves refl t heard)
    view_in (Opened o) t was hears (inl keeps) = view_kept o.halves.sending t keeps was
    view_in (Opened o) t was hears (inr heard) = inr (hears o.halves refl t heard)
    view_in (CrWait c) t was hears fresh = inl fresh
    view_in other t was hears fresh = inl fresh

    row_view : (old new : StateData) → StageView credit w z old → Hears old → RowKnows credit old event new → StageView credit w z new
    row_view old (Opened o) was hears row = view_in old o.halves.sending was hears row
    row_view old other was hears row = tt

pub rows_keep_views : RowsKeepViews
rows_keep_views credit z w wrap now e event gives is knows was hears =
    row_view credit z w event e.stage (stepped wrap now e event).stage was hears (row_knows credit wrap now e event gives is knows)
