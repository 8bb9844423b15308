-- A flow TPDU that an end takes was offered by its one partner, and stands in the lines as such: a DT with its piece and an ED with its unit in the
-- line of the partner, an AK and an EA in that of the end.
use Rattle.std.proofs.Common.{◌≡◌, inl, inr, ℕ, sym, ◌∙◌, subst}
use Rattle.law_tp4_history.specs.Ends.{Times, Flow, Tpdu, Sent, Offer}
use Rattle.law_tp4_history.specs.History.{IsPartner, IsTaken}
use Rattle.law_tp4_history.specs.Tracks.{Whole, Noted}
use Rattle.law_tp4_history.proofs.Meets.{swap, Meets, Of_partner, Of_entity, meets}
use Rattle.law_tp4_history.proofs.Sound.{Sound, one_partner}
use Rattle.law_tp4_history.proofs.Tracked.{Tracked}

module _ (times : Times) (w : Whole) (s : Sound times w.base) (t : Tracked times w) (y : ℕ) (o : Offer) (tpdu : Tpdu) (taken : IsTaken times w.base y o tpdu) (flow : o.tpdu.kind ≡ Flow) where
  from_partner : Meets times w.base s o y → (z : ℕ) → IsPartner w.base y z → o.origin ≡ Sent z
  from_partner (Of_partner x is f g to) z p =
      let same : x ≡ z = one_partner times w.base s y x z (swap w.base x y (subst (λ (k : ℕ). IsPartner w.base x k) to g.partner)) p in
      subst (λ (k : ℕ). o.origin ≡ Sent k) same is
  from_partner (Of_entity since is f) z p = absurd (elim f.kind [ inl dr ↦ cc (dr.0, flow) | inr dc ↦ cc (dc, flow) ])

  pub taken_from : (z : ℕ) → IsPartner w.base y z → o.origin ≡ Sent z
  taken_from z p = from_partner (meets times w.base s y o taken.y_low taken.is_held taken.offered taken.fresh taken.no_request taken.address (sym taken.reading.target ∙ taken.target)) z p

  pub taken_noted : (z : ℕ) → IsPartner w.base y z → Noted w.base w.track z o.tick o.tpdu.body
  taken_noted z p = t.noted o z taken.offered (taken_from z p)
