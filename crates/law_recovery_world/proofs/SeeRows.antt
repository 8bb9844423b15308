-- Each row keeps what an end sees of the offers of its partner; and a longer journal, with more offers, does.
use Rattle.std.proofs.Common.{◌≡◌, ◌⊎◌, inl, inr, ℕ, ◌+◌, List, ◌++◌, Some, refl, sym, ◌∙◌, Contains}
use Rattle.tp4_sending.specs.SendingHalf.{FlowSender}
use Rattle.law_recovery_pair.specs.Viewing.{KeepsView}
use Rattle.tp4_conn.specs.Table.{Event}
use Rattle.tp4_conn.specs.declared.halves.Halves.{Halves}
use Rattle.tp4_conn.specs.declared.states.StateData.{StateData}
use Rattle.tp4_conn.specs.declared.states.StateData.TheVariants.{CrWait, AkWait, Opened}
use Rattle.law_recovery_ends.specs.Knowing.{HasHeard, IsFreshView, RowKnows, ViewIn}
use Rattle.script_journal.specs.Partner.{ArePartners}
use Rattle.script_journal.specs.declared.event.Event.{Event as Told}
use Rattle.law_tp4_history.specs.Ends.{Ak, Offer}
use Rattle.law_tp4_history.specs.Tracks.{Whole}
use Rattle.law_tp4_lawful.specs.References.{halves_at}
use Rattle.law_tp4_lawful.proofs.ReferencesLater.{partners_on}
use Rattle.law_recovery_world.specs.Lines.{IsOfferedView}
use Rattle.law_recovery_world.proofs.Known.{StageHas, StageSees}
use Rattle.law_recovery_world.proofs.Telling.{tells_on}

-- ---- a longer journal

sees_on : (credit : ℕ) (w new : Whole) (journal made : List Told) (y : ℕ) (stage : StateData) → ((offer : Offer) → Contains w.base.offers offer → Contains new.base.offers offer)
    → StageSees credit w journal y stage → StageSees credit new (journal ++ made) y stage
sees_on credit w new journal made y (Opened o) keeps (inl fresh) = inl fresh
sees_on credit w new journal made y (Opened o) keeps (inr v) =
    inr (v.0, partners_on journal made (v.0 + 1) y v.1, record { offer = v.2.offer; offered = keeps v.2.offer v.2.offered; origin = v.2.origin; is = v.2.is })
sees_on credit w new journal made y (AkWait a) keeps sees = tt
sees_on credit w new journal made y other keeps sees = tt

pub has_on : (credit : ℕ) (w new : Whole) (journal made : List Told) (y : ℕ) (stage : StateData) → ((offer : Offer) → Contains w.base.offers offer → Contains new.base.offers offer)
    → StageHas credit w journal y stage → StageHas credit new (journal ++ made) y stage
has_on credit w new journal made y stage keeps h = (sees_on credit w new journal made y stage keeps h.0, tells_on journal made y stage h.1)

pub lift : (w new : Whole) (journal made : List Told) (y : ℕ) (t : FlowSender) → ((offer : Offer) → Contains w.base.offers offer → Contains new.base.offers offer)
    → (z : ℕ) × ArePartners journal (z + 1) y × IsOfferedView w z t → (z : ℕ) × ArePartners (journal ++ made) (z + 1) y × IsOfferedView new z t
lift w new journal made y t keeps v =
    (v.0, partners_on journal made (v.0 + 1) y v.1, record { offer = v.2.offer; offered = keeps v.2.offer v.2.offered; origin = v.2.origin; is = v.2.is })

-- ---- a row

module _ (credit : ℕ) (w : Whole) (journal : List Told) (y : ℕ) where
  abbrev View : FlowSender → Type 0
  View t = IsFreshView credit t ⊎ ((z : ℕ) × ArePartners journal (z + 1) y × IsOfferedView w z t)

  view_kept : (s t : FlowSender) → KeepsView s t → View s → View t
  view_kept s t k (inl fresh) = inl (record { base = k.base ∙ fresh.base; credit_is = k.credit ∙ fresh.credit_is; subsequence = k.subsequence ∙ fresh.subsequence; edge = k.edge })
  view_kept s t k (inr v) =
      inr (v.0, v.1, record { offer = v.2.offer; offered = v.2.offered; origin = v.2.origin; is = v.2.is ∙ (λ i. Ak (sym k.base i) (sym k.credit i) (sym k.subsequence i)) })

  module _ (event : Event) where
    abbrev pub HearsIn : StateData → Type 0
    HearsIn old = (halves : Halves) → halves_at old ≡ Some halves → (t : FlowSender) → HasHeard halves.sending event t → (z : ℕ) × ArePartners journal (z + 1) y × IsOfferedView w z t

    sees_in : (old : StateData) (t : FlowSender) → StageSees credit w journal y old → HearsIn old → ViewIn credit old event t → View t
    sees_in (AkWait a) t was hears (inl fresh) = inl fresh
    sees_in (AkWait a) t was hears (inr heard) = inr (hears a.halves refl t heard)
    sees_in (Opened o) t was hears (inl keeps) = view_kept o.halves.sending t keeps was
    sees_in (Opened o) t was hears (inr heard) = inr (hears o.halves refl t heard)
    sees_in (CrWait c) t was hears fresh = inl fresh
    sees_in other t was hears fresh = inl fresh

    pub row_sees : (old new : StateData) → StageSees credit w journal y old → HearsIn old → RowKnows credit old event new → StageSees credit w journal y new
    row_sees old (Opened o) was hears row = sees_in old o.halves.sending was hears row
    row_sees old other was hears row = tt
