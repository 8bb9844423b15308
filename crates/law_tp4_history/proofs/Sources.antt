-- What an end offers has its reference as source, which is no 0; and no answer is a CR or a CC.
use Rattle.std.proofs.Common.{◌≡◌, ◌≢◌, inl, inr, Contains, refl, sym, ◌∙◌, ap, arith}
use Rattle.law_tp4_history.specs.Ends.{Times, IsFit, Cr, Cc, Tpdu, Offer, Origin, Sent, Answer}
use Rattle.law_tp4_history.specs.History.{History, IsReading}
use Rattle.law_tp4_history.specs.Reached.{Reached}
use Rattle.law_tp4_history.proofs.Sound.{Sound}
use Rattle.law_tp4_history.proofs.Steps.{all_sound}
use Rattle.law_tp4_history.specs.Moves.{HasSource}

module _ (times : Times) (h : History) (s : Sound times h) (o : Offer) (offered : Contains h.offers o) where
  request_source : o.tpdu.kind ≡ Cr → (origin : Origin) → o.origin ≡ origin → o.tpdu.source ≢ 0
  request_source kind (Sent x) is e =
      let f = (s.offers o offered).sent x is in
      let some = (s.own x f.x_low).some in
      let zero = sym (f.request kind).source ∙ e in absurd (omega (arith, some, zero))
  request_source kind (Answer z since) is e = elim ((s.offers o offered).answers z since is).kind [ inl dr ↦ absurd (cc (dr.0, kind)) | inr dc ↦ absurd (cc (dc, kind)) ]

  confirm_source : o.tpdu.kind ≡ Cc → (origin : Origin) → o.origin ≡ origin → o.tpdu.source ≢ 0
  confirm_source kind (Sent x) is e =
      let f = (s.offers o offered).sent x is in
      let some = (s.own x f.x_low).some in
      let zero = sym (f.confirm kind) ∙ e in absurd (omega (arith, some, zero))
  confirm_source kind (Answer z since) is e = elim ((s.offers o offered).answers z since is).kind [ inl dr ↦ absurd (cc (dr.0, kind)) | inr dc ↦ absurd (cc (dc, kind)) ]

pub requests_sourced : (times : Times) (h : History) (o : Offer) → IsFit times → Reached times h → Contains h.offers o → o.tpdu.kind ≡ Cr → o.tpdu.source ≢ 0
requests_sourced times h o fit reached offered kind = request_source times h (all_sound times h fit reached) o offered kind o.origin refl

pub read_sourced : (times : Times) (h : History) (o : Offer) (tpdu : Tpdu) → IsFit times → Reached times h → Contains h.offers o → IsReading o tpdu → HasSource tpdu
read_sourced times h o tpdu fit reached offered reading kind e =
    let was : o.tpdu.kind ≡ Cc = sym reading.kind ∙ kind in
    let same : tpdu ≡ o.tpdu = reading.control (λ flow. absurd (cc (flow, was))) in
    confirm_source times h (all_sound times h fit reached) o offered was o.origin refl (sym (ap (λ (t : Tpdu). t.source) same) ∙ e)
